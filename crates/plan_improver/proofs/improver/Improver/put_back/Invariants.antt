use Rattle.time_windows.specs.Subproblems.{parts_in}
use Rattle.plan_improver.specs.Work.{IsFilledFor}
use Rattle.plan_improver.proofs.improver.Improver.put_back.Given as goal

abbrev pub invariant-loop-at : goal.invariant-loop-at
invariant-loop-at l = IsFilledFor (parts_in l.guide.problem) l.self
