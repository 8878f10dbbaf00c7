use Rattle.std.proofs.Common.{◌≡◌, length}
use Rattle.plan_improver.proofs.improver.accept.Given as goal

abbrev pub invariant-loop-flight : goal.invariant-loop-flight
invariant-loop-flight l = length l.choices ≡ length l.fn.choices

abbrev pub decreases-loop-flight : goal.decreases-loop-flight
decreases-loop-flight l = goal.left-loop-flight l
