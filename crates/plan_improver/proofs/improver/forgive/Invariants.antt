use Rattle.std.proofs.Common.{◌≡◌, length}
use Rattle.plan_improver.proofs.improver.forgive.Given as goal

abbrev pub invariant-loop-at : goal.invariant-loop-at
invariant-loop-at l = length l.choices ≡ length l.fn.choices
