use Rattle.std.proofs.Common.{◌∙◌, ◌++◌, ap}
use Rattle.flow_types.specs.Scenario.{parts_of}
use Rattle.exact_sums.proofs.LoopFacts.{numbers_more}
use Rattle.bytime_model.specs.CostRow.{unless_zero, late_step_at, late_variable}
use Rattle.bytime_model.proofs.cost_row.add_late_terms.Goals as goal

pub loop-delay-preserved : goal.loop-delay-preserved
loop-delay-preserved c =
    let tables = (parts_of c.args.s.now).tables in
    numbers_more c.loop-delay.invariant (c.in_ok-add_unless_zero.ensures
    ∙ ap (λ term. c.loop-delay.terms ++ unless_zero term.factor term.variable) c.late_term.ensures
    ∙ ap (λ o. c.loop-delay.terms ++ unless_zero (late_step_at tables o c.loop-delay.delay)
    (late_variable c.args.number o c.loop-delay.delay)) c.requires)
