use Rattle.std.proofs.Common.{arith}
use Rattle.std.proofs.lemmas.Grind.{common_steps}
use Rattle.flow_types.specs.Scenario.{parts_of}
use Rattle.time_windows.proofs.PlanFacts.{plan_stays}
use Rattle.time_windows.proofs.boxes.Boxes.tighten.Goals as goal

pub returns-clause-tight : goal.returns-clause-tight
returns-clause-tight c = grind (arith, common_steps)

pub returns-clause-kept : goal.returns-clause-kept
returns-clause-kept c = λ plan trips turns inside.
    plan_stays (parts_of c.args.s.now) c.args.self.now.accesses _ plan c.args.s.now.valid
    (returns-clause-tight c) trips turns inside
