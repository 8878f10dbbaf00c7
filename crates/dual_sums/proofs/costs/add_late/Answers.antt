use Rattle.std.proofs.Common.{◌^◌, ◌*ℤ◌, pos, subst}
use Rattle.flow_types.specs.Scenario.{flight_at}
use Rattle.bytime_model.specs.declared.variables.Term.{Term}
use Rattle.bytime_model.specs.CostRow.{late_step_at, late_variable}
use Rattle.cut_rows.specs.Relaxations.{parts_under}
use Rattle.dual_sums.specs.Growing.{Grows, choice_under}
use Rattle.dual_sums.proofs.CostGrowFacts.{steps_more}
use Rattle.dual_sums.proofs.costs.add_late.Goals as goal

pub loop-delay-preserved : goal.loop-delay-preserved
loop-delay-preserved c =
    let at = choice_under c.args.relaxation in
    let found = flight_at c.args.relaxation.problem.s.now c.args.flight in
    steps_more at c.args.weight
    (late_step_at (parts_under c.args.relaxation).tables found)
    (late_variable c.args.flight found) c.loop-delay.delay
    c.args.sums.now c.loop-delay.sums c.add_step.new.sums c.loop-delay.invariant
    (subst (λ (term : Term). Grows at
    (λ value. pos c.args.weight *ℤ (term.factor *ℤ pos (value term.variable))) (2 ^ 93)
    c.loop-delay.sums c.add_step.new.sums) c.late_term.ensures c.add_step.ensures)
