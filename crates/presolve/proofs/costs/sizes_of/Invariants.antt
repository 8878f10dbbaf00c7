use Rattle.std.proofs.Common.{◌≡◌, map, pos, take, unsigned_abs}
use Rattle.presolve.proofs.costs.sizes_of.Given as goal

abbrev pub invariant-loop-value : goal.invariant-loop-value
invariant-loop-value l =
    l.sizes.items ≡ map (λ value. pos (unsigned_abs value)) (take l.value-index l.values)
