use Rattle.flow_types.specs.Scenario.{flight_at}
use Rattle.bytime_model.specs.CostRow.{late_step_at, late_variable, most_late_at, most_wait_at, steps, wait_step_at, wait_variable}
use Rattle.cut_rows.specs.Relaxations.{parts_under}
use Rattle.dual_sums.specs.Growing.{choice_under}
use Rattle.dual_sums.proofs.CostGrowFacts.{flight_grows}
use Rattle.dual_sums.proofs.costs.add_flight.Goals as goal

pub returns : goal.returns
returns c =
    let parts = parts_under c.args.relaxation in
    let found = flight_at c.args.relaxation.problem.s.now c.args.flight in
    flight_grows (choice_under c.args.relaxation) c.args.weight
    (steps (late_step_at parts.tables found) (late_variable c.args.flight found)
    (most_late_at parts.day.periods found))
    (steps (wait_step_at parts.tables found) (wait_variable c.args.flight found)
    (most_wait_at parts.day.periods found)) c.args.sums.now c.add_late.new.sums c.add_wait.new.sums
    c.add_late.ensures c.add_wait.ensures
