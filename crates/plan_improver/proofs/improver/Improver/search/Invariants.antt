use Rattle.time_windows.specs.Subproblems.{parts_in}
use Rattle.plan_improver.specs.Work.{IsFilledFor}
use Rattle.plan_improver.proofs.improver.Improver.search.Given as goal

abbrev pub invariant-loop-trial : goal.invariant-loop-trial
invariant-loop-trial l = IsFilledFor (parts_in l.aim.problem) l.self
