use Rattle.std.proofs.Common.{◌≡◌, ℕ, ◌-◌, ◌<◌, length, slice_index}
use Rattle.scaled_simplex.proofs.basis.rows_of.Given as goal

abbrev pub invariant-loop-index : goal.invariant-loop-index
invariant-loop-index l =
    (length l.numbers.items ≡ l.index)
    × ((k : ℕ) → k < l.index → slice_index l.numbers.items k ≡ k - l.columns)
