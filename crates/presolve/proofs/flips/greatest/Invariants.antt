use Rattle.std.proofs.Common.{◌≡◌, take}
use Rattle.presolve.specs.Relaxed.{greatest}
use Rattle.presolve.proofs.flips.greatest.Given as goal

abbrev pub invariant-loop-entry : goal.invariant-loop-entry
invariant-loop-entry l = l.total ≡ greatest (take l.entry-index l.entries)
