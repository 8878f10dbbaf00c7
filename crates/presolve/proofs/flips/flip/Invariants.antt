use Rattle.std.proofs.Common.{◌≡◌, ◌++◌, drop, map, take}
use Rattle.presolve.specs.Relaxed.{flipped_entry}
use Rattle.presolve.proofs.flips.flip.Given as goal

abbrev pub invariant-loop-k : goal.invariant-loop-k
invariant-loop-k l =
    l.entries ≡ map (flipped_entry l.flips) (take l.k l.initial.entries)
    ++ drop l.k l.initial.entries
