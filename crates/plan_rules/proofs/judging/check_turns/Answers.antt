use Rattle.std.proofs.Common.{get_or}
use Rattle.std.proofs.lemmas.List.{get_or_default}
use Rattle.std.proofs.lemmas.Result.{err_from_is_err_and}
use Rattle.plan_rules.specs.FirstBroken.{broken_turn}
use Rattle.plan_rules.specs.Loads.{arrival_at, departure_at}
use Rattle.plan_rules.proofs.FirstFacts.{first_along-found, first_along-next}
use Rattle.plan_rules.proofs.judging.check_turns.Goals as goal

pub returns-in_err-check_turn : goal.returns-in_err-check_turn
returns-in_err-check_turn c =
    let exit = err_from_is_err_and c.from_residual.result c.from_residual.ensures.1 in
    rw (exit.1, exit.2)
    (first_along-found (broken_turn (arrival_at c.args.loads.now) (departure_at c.args.loads.now))
    c.args.connections.now c.loop-at.at
    (get_or c.args.connections.now c.loop-at.at (record {
      first = 0;
      second = 0;
      turnaround = 0;
    })) c.in_err-check_turn.field-0.0
    c.loop-at.invariant c.loop-at-test.true
    (get_or_default c.args.connections.now c.loop-at.at _ _ c.loop-at-test.true)
    c.in_err-check_turn.ensures)

pub loop-at-preserved : goal.loop-at-preserved
loop-at-preserved c =
    first_along-next (broken_turn (arrival_at c.args.loads.now) (departure_at c.args.loads.now))
    c.args.connections.now c.loop-at.at
    (get_or c.args.connections.now c.loop-at.at (record { first = 0; second = 0; turnaround = 0 }))
    c.loop-at.invariant c.loop-at-test.true
    (get_or_default c.args.connections.now c.loop-at.at _ _ c.loop-at-test.true)
    c.in_ok-check_turn.ensures
