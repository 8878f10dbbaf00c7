use Rattle.std.proofs.Common.{◌≡◌, Some}
use Rattle.flow_types.specs.Scenario.{parts_of}
use Rattle.plan_rules.specs.FirstBroken.{first_broken}
use Rattle.plan_rules.proofs.BrokenPlans.{feasible_from, feasible_to}
use Rattle.plan_rules.proofs.judging.judge.Goals as goal

pub cost-requires : goal.cost-requires
cost-requires c = (feasible_from
    (parts_of c.args.s.now) c.args.plan.now c.in-Ok.ensures.broken).trips

pub returns-in-Ok-clause-keeps : goal.returns-in-Ok-clause-keeps
returns-in-Ok-clause-keeps c =
    feasible_from (parts_of c.args.s.now) c.args.plan.now c.in-Ok.ensures.broken

pub returns-in-Err-clause-keeps : goal.returns-in-Err-clause-keeps
returns-in-Err-clause-keeps c =
    λ feasible. let none =
    feasible_to (parts_of c.args.s.now) c.args.plan.now c.args.s.now.valid feasible in
    let some : first_broken (parts_of c.args.s.now) c.args.plan.now ≡ Some c.in-Err.broken =
    c.in-Err.ensures.broken in cc
