use Rattle.std.proofs.Common.{◌≡◌, ℕ, ◌<◌, get_or}
use Rattle.dual_sums.proofs.slots.clear_all.Given as goal

abbrev pub invariant-loop-stamp : goal.invariant-loop-stamp
invariant-loop-stamp l = (k d : ℕ) → k < l.stamp-index → get_or l.stamps k d ≡ 0
