use Rattle.std.proofs.Common.{◌≡◌, pos, take}
use Rattle.std.specs.Int.{int_min}
use Rattle.exact_sums.specs.Sums.{total}
use Rattle.presolve.proofs.costs.below_of.Given as goal

abbrev pub invariant-loop-value : goal.invariant-loop-value
invariant-loop-value l =
    l.total ≡ total (λ value. int_min (pos 0) value) (take l.value-index l.values)
