use Rattle.std.proofs.lemmas.Result.{IfOk-weaker}
use Rattle.flow_types.specs.Scenario.{parts_of}
use Rattle.flow_cli.specs.Outside.{printed_by}
use Rattle.flow_cli.proofs.PlanningFacts.{planned_day}
use Rattle.flow_cli.proofs.planning.plan_day.Goals as goal

pub returns : goal.returns
returns c =
    IfOk-weaker c.answer_of.result _ _ (λ answer told.
    planned_day (parts_of c.args.s.now) c.args.budget c.in_ok-found.found (printed_by answer)
    c.in_ok-found.ensures.record c.in_ok-found.ensures.feasible c.in_ok-found.ensures.bound
    c.in_ok-found.ensures.spent c.in_ok-found.ensures.closed told) c.answer_of.ensures
