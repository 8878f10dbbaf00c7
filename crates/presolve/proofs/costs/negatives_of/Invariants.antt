use Rattle.std.proofs.Common.{◌≡◌, int_lt, map, pos, take}
use Rattle.presolve.proofs.costs.negatives_of.Given as goal

abbrev pub invariant-loop-value : goal.invariant-loop-value
invariant-loop-value l =
    l.flips.items ≡ map (λ value. int_lt value (pos 0)) (take l.value-index l.values)
