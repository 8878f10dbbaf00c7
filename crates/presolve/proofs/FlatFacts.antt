-- How long a list of parts is at most.
use Rattle.std.proofs.Common.{ℕ, ◌*◌, ◌≤◌, List, length, arith}
use Rattle.std.proofs.lemmas.List.Concat.{length-flat_map}
use Rattle.std.specs.List.{flat_map, range_with_len}
use Rattle.bytime_model.proofs.AllRowsFacts.{sum_few}

-- no more than so many of each part
pub flat_few : {X : Type 0} (part : ℕ → List X) (most from count : ℕ)
    → ((k : ℕ) → length (part k) ≤ most)
    → length (flat_map part (range_with_len from count)) ≤ count * most
flat_few part most from count few =
    let same = length-flat_map part (range_with_len from count) in
    let all = sum_few (λ k. length (part k)) most from count few in
    omega (arith, same, all)
