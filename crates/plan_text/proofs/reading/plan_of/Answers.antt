use Rattle.std.proofs.Common.{◌≡◌, rules}
use Rattle.std.proofs.lemmas.Result.{err_from_is_err_and}
use Rattle.flow_types.specs.Scenario.{parts_of}
use Rattle.plan_text.specs.Plans.{none_read}
use Rattle.plan_text.proofs.ReadingFacts.{plan_is, plan_refused}
use Rattle.plan_text.proofs.reading.plan_of.Goals as goal

pub returns-in_err-records_step : goal.returns-in_err-records_step
returns-in_err-records_step c =
    let none : c.in_ok-trips.trips ≡ none_read (parts_of c.args.s.now).flights = search rules in
    let exit = err_from_is_err_and c.from_residual-in_err-records_step.result
    c.from_residual-in_err-records_step.ensures.1 in
    rw (exit.1, exit.2, ← c.of_text-rows.ensures.rows)
    (plan_refused _ _ _ (rw (← none, ← c.in_ok-scenario.ensures) c.in_err-records_step.ensures))

pub returns : goal.returns
returns c =
    let none : c.in_ok-trips.trips ≡ none_read (parts_of c.args.s.now).flights = search rules in
    rw (← c.of_text-rows.ensures.rows, c.in_ok-into_plan.ensures)
    (plan_is _ _ _ (rw (← none, ← c.in_ok-scenario.ensures) c.in_ok-records_step.ensures))
