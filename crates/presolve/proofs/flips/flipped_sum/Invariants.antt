use Rattle.std.proofs.Common.{◌≡◌, take}
use Rattle.presolve.specs.Relaxed.{flipped_sum}
use Rattle.presolve.proofs.flips.flipped_sum.Given as goal

abbrev pub invariant-loop-entry : goal.invariant-loop-entry
invariant-loop-entry l = l.total ≡ flipped_sum l.flips (take l.entry-index l.entries)
