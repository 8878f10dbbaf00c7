-- A list is divided at the first item that passes a test.
use Rattle.std.proofs.Common.{◌≡◌, ℕ, ◌+◌, ◌≤◌, Bool, true, false, List, [], ◌∷◌, length, take, drop, None, Some, refl, arith, subst}
use Rattle.std.specs.Prelude.{nat_lt, position, if◌then◌else◌, All}
use Rattle.std.specs.List.{position_or_len, slice_split}
use Rattle.std.proofs.lemmas.Bool.{ltb-true, ltb-false}
use Rattle.std.proofs.lemmas.List.Splits.{slice_split_first, slice_split_none}
use Rattle.std.proofs.lemmas.List.Sums.{fails_before_first}

module _ (p : ℕ → Bool) (xs : List ℕ) where
  abbrev at : ℕ
  at = position_or_len p xs

  pub none_pass : position p xs ≡ None → All (λ x. p x ≡ false) xs
  none_pass none = by (nat_lt at (length xs)) refl none where
    by : (b : Bool) → nat_lt at (length xs) ≡ b → (if b then Some at else None) ≡ None
        → All (λ x. p x ≡ false) xs
    by true less found = absurd (let e : ⊥ = cc in e)
    by false past found =
        let over : length xs ≤ position_or_len p xs = ltb-false at (length xs) past in
        λ k d within. fails_before_first p xs k d (omega (arith, over, within))

  pub none_split : position p xs ≡ None → slice_split p xs ≡ xs ∷ []
  none_split none = slice_split_none p xs (none_pass none)

  pub some_split : (i : ℕ) → position p xs ≡ Some i
      → slice_split p xs ≡ take i xs ∷ slice_split p (drop (i + 1) xs)
  some_split i some = by (nat_lt at (length xs)) refl some where
    by : (b : Bool) → nat_lt at (length xs) ≡ b → (if b then Some at else None) ≡ Some i
        → slice_split p xs ≡ take i xs ∷ slice_split p (drop (i + 1) xs)
    by true less found =
        let here : position_or_len p xs ≡ i = cc in
        subst (λ k. slice_split p xs ≡ take k xs ∷ slice_split p (drop (k + 1) xs)) here
        (slice_split_first p xs 0 (ltb-true at (length xs) less))
    by false past found = absurd (let e : ⊥ = cc in e)
