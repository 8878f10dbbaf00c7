use Rattle.std.proofs.Common.{arith, subst, sym, take_all}
use Rattle.std.specs.List.{Contains}
use Rattle.flow_types.specs.Scenario.{parts_of}
use Rattle.time_windows.specs.declared.turns.Turn.{Turn}
use Rattle.time_windows.specs.Narrowing.{IsDone}
use Rattle.time_windows.proofs.ConnectionFacts.{step_then, turn_more}
use Rattle.time_windows.proofs.connections.settle_turns.Goals as goal

abbrev no_turn : Turn
no_turn = record { connection = 0; other = 0; turnaround = 0 }

pub settle_turn-requires-clause-turn : goal.settle_turn-requires-clause-turn
settle_turn-requires-clause-turn c =
    subst (Contains (parts_of c.args.network.s.now).connections) (sym c.connection_at.ensures)
    (c.requires.turns c.loop-turn.turn-index no_turn (omega (arith, c.loop-turn-test.true)))

pub loop-turn-preserved : goal.loop-turn-preserved
loop-turn-preserved c =
    let parts = parts_of c.args.network.s.now in (
      step_then parts c.args.accesses.now c.loop-turn.accesses c.settle_turn.new.accesses
          c.args.waiting.now c.loop-turn.waiting c.settle_turn.new.waiting
          c.loop-turn.invariant.0 c.settle_turn.ensures.step,
      turn_more parts c.loop-turn.accesses c.settle_turn.new.accesses c.loop-turn.waiting
          c.settle_turn.new.waiting c.args.end c.args.flight c.loop-turn.turn-index
          c.args.turns.now no_turn (omega (arith, c.loop-turn-test.true))
          c.settle_turn.ensures.step c.loop-turn.invariant.1
          (subst (IsDone parts c.settle_turn.new.accesses c.settle_turn.new.waiting)
          c.connection_at.ensures c.settle_turn.ensures.done),
    )

pub returns-clause-done : goal.returns-clause-done
returns-clause-done c =
    rw (take_all c.loop-turn.turn-index c.args.turns.now (omega (arith, c.loop-turn-test.false)))
    at c.loop-turn.invariant.1
