use Rattle.time_windows.specs.Subproblems.{parts_in}
use Rattle.plan_improver.specs.Work.{IsFilledFor}
use Rattle.plan_improver.proofs.improver.Improver.begin.Given as goal

abbrev pub invariant-loop-flight : goal.invariant-loop-flight
invariant-loop-flight l = IsFilledFor (parts_in l.aim.problem) l.self
