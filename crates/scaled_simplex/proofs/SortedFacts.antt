-- Rows in ascending order, each once.
use Rattle.std.proofs.Common.{ℕ, ◌<◌, eqb, List}
use Rattle.std.specs.Ordering.{nat_cmp}
use Rattle.std.specs.List.{dedup}
use Rattle.std.specs.List.Sorted.{IsPermutation, IsSorted}
use Rattle.std.proofs.lemmas.List.Filters.{All-dedup}
use Rattle.std.proofs.lemmas.List.Kept.{AllPairs-from_increasing, Contains-dedup_nat}
use Rattle.std.proofs.lemmas.List.Sorted.{All-permutation, Contains-permutation}
use Rattle.std.proofs.lemmas.Map.Keys.{IsStrictlyIncreasing-dedup}
use Rattle.scaled_simplex.specs.Board.{AreSorted}

pub sorted_once : (list sorted : List ℕ) → IsPermutation list sorted → IsSorted nat_cmp sorted
    → AreSorted list (dedup eqb sorted)
sorted_once list sorted same is = record {
  ascending = AllPairs-from_increasing (dedup eqb sorted) (IsStrictlyIncreasing-dedup sorted is);
  each = λ k has. Contains-dedup_nat sorted k (Contains-permutation list sorted k same has);
  small = λ bound all. All-dedup eqb (λ k. k < bound) sorted
      (All-permutation (λ k. k < bound) list sorted same all);
}
