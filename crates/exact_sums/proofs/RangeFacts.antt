-- Ranges of numbers, and one number more at the end.
use Rattle.std.proofs.Common.{◌≡◌, ℕ, suc, ◌+◌, List, [], ◌∷◌, ◌++◌, map, map-id, sum_by, ℤ, ◌+ℤ◌, refl, sym, ap, ◌∙◌, append_assoc, add-one, arith}
use Rattle.std.proofs.lemmas.List.Sums.{sum_by-append, sum_by-cons}
use Rattle.std.proofs.lemmas.List.FromFn.{map-range_with_len_more}
use Rattle.std.specs.List.{flat_map, range_with_len}
use Rattle.exact_sums.specs.Lists.{all_below}
use Rattle.exact_sums.specs.Sums.{total}
use Rattle.exact_sums.proofs.LoopFacts.{next_number}
use Rattle.exact_sums.proofs.SumFacts.{total-push}

pub range_more : (from n : ℕ)
    → range_with_len from (n + 1) ≡ range_with_len from n ++ (from + n) ∷ []
range_more from n = simp map-id at (map-range_with_len_more (λ k. k) from n (from + n) refl)

pub next_in_range : (n : ℕ) → range_with_len 0 (n + 1) ≡ range_with_len 0 n ++ n ∷ []
next_in_range n =
    let here : 0 + n ≡ n = omega arith in
    range_more 0 n ∙ ap (λ k. range_with_len 0 n ++ k ∷ []) here

-- what the numbers below n give: one more is mapped, added, or appended
pub map_next : {X : Type 0} (f : ℕ → X) (n : ℕ) (x : X) (old new : List X)
    → old ≡ map f (range_with_len 0 n) → x ≡ f n → new ≡ old ++ x ∷ []
    → new ≡ map f (range_with_len 0 (n + 1))
map_next f n x old new are is added =
    added ∙ ap (λ list. list ++ x ∷ []) are
    ∙ ap (λ y. map f (range_with_len 0 n) ++ y ∷ []) is
    ∙ sym (map-range_with_len_more f 0 n n (omega arith))

pub sum_next : (f : ℕ → ℕ) (n : ℕ)
    → sum_by f (range_with_len 0 (n + 1)) ≡ sum_by f (range_with_len 0 n) + f n
sum_next f n =
    let next = ap (sum_by f) (next_in_range n) in
    let parts = sum_by-append f (range_with_len 0 n) (n ∷ []) in
    let one = sum_by-cons f n [] in
    omega (arith, next, parts, one)

pub total_next : (value : ℕ → ℤ) (n : ℕ)
    → total value (range_with_len 0 (n + 1)) ≡ total value (range_with_len 0 n) +ℤ value n
total_next value n =
    ap (total value) (next_in_range n) ∙ total-push value (range_with_len 0 n) n

pub flat_map_next : {Y : Type 0} (part : ℕ → List Y) (n : ℕ) (more : List Y) → more ≡ part n
    → flat_map part (range_with_len 0 (n + 1)) ≡ flat_map part (range_with_len 0 n) ++ more
flat_map_next part n more are =
    let next : n + 1 ≡ suc n = omega arith in
    let here : 0 + n ≡ n = omega arith in
    ap (λ m. flat_map part (range_with_len 0 m)) next ∙ next_number part 0 n
    ∙ ap (λ ys. flat_map part (range_with_len 0 n) ++ ys) (ap part here ∙ sym are)

-- and what is appended of them, behind what was there before
pub below_more : {X : Type 0} (part : ℕ → List X) (n : ℕ) (start old new : List X)
    → old ≡ start ++ all_below n part → new ≡ old ++ part n
    → new ≡ start ++ all_below (n + 1) part
below_more part n start old new are added =
    added ∙ ap (λ list. list ++ part n) are ∙ append_assoc start (all_below n part) (part n)
    ∙ ap (λ m. start ++ all_below m part) (sym (add-one n))
