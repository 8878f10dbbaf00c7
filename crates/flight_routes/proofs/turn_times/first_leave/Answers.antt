use Rattle.std.proofs.Common.{◌≤◌, ◌↔◌, All, subst, arith}
use Rattle.std.proofs.lemmas.List.{take_all}
use Rattle.exact_sums.proofs.ItemFacts.{all_more}
use Rattle.flight_routes.specs.TurnTimes.{IsAfter}
use Rattle.flight_routes.proofs.turn_times.first_leave.Goals as goal

pub loop-turn-preserved : goal.loop-turn-preserved
loop-turn-preserved c = λ time.
    all_more (IsAfter c.args.loads.now time) c.args.turns.now c.loop-turn.turn-index
    (record { connection = 0; other = 0; turnaround = 0 })
    (c.loop-turn.first ≤ time) (c.leave_after.result ≤ time) (c.max-first.result ≤ time)
    c.loop-turn-test.true (c.loop-turn.invariant time) (c.leave_after.ensures time)
    (λ now. (omega (arith, c.max-first.ensures), omega (arith, c.max-first.ensures)))
    (λ before here. omega (arith, c.max-first.ensures))

pub returns : goal.returns
returns c = λ time.
    subst (λ turns. (c.loop-turn.first ≤ time) ↔ All (IsAfter c.args.loads.now time) turns)
    (take_all c.loop-turn.turn-index c.args.turns.now (omega (arith, c.loop-turn-test.false)))
    (c.loop-turn.invariant time)
