use Rattle.time_windows.specs.Subproblems.{parts_in}
use Rattle.plan_improver.specs.Work.{IsFilledFor}
use Rattle.plan_improver.proofs.improver.Improver.begin_anew.Given as goal

abbrev pub invariant-loop-number : goal.invariant-loop-number
invariant-loop-number l = IsFilledFor (parts_in l.aim.problem) l.self
