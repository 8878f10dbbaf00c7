-- What a row's values are within, and what follows of its divisor.
use Rattle.std.proofs.Common.{◌≡◌, ◌⊎◌, ℕ, zero, suc, ◌+◌, ◌<◌, ◌≤◌, ◌^◌, Bool, true, false, None, Some, List, [], ◌∷◌, ◌++◌, length, get_or, take, drop, set, All, nat_abs, refl, sym, ap, ◌∙◌, subst, inl, inr, arith, ℤ, negsuc, neg_ℤ, int_div, ◌/◌, pos}
use Rattle.std.specs.List.{find}
use Rattle.std.proofs.lemmas.Bool.{cases_Bool, cond-true, cond-false, ltb-false}
use Rattle.std.proofs.lemmas.List.{drop-drop, drop-set-lt, get_or-drop, get_or-map, length-map, map_more, take_all, take_more_set}
use Rattle.std.proofs.lemmas.List.Elements.{All-cons, All-map, All-nil}
use Rattle.std.proofs.Math.Nat.{div-le_self}
use Rattle.row_arena.specs.declared.entry.Entry.{Entry}
use Rattle.row_arena.specs.declared.products.WideEntry.{WideEntry}
use Rattle.row_arena.specs.declared.wide.Wide.TheVariants.{Value}
use Rattle.row_arena.specs.Arena.{is_far}
use Rattle.row_arena.specs.Combining.{divided, divides_all, divisor_of, entry_by, greatest}
use Rattle.row_arena.specs.Products.{AreWide, TellsFar, divided_by, entries_of, entry_of, far_of}
use Rattle.row_arena.specs.Rows.{most_entry}

-- where none is too far from 0
pub near_from_find : (row : List Entry) → find is_far row ≡ None
    → All (λ (e : Entry). nat_abs e.value ≤ most_entry) row
near_from_find [] none = All-nil (λ (e : Entry). nat_abs e.value ≤ most_entry)
near_from_find (e ∷ row) none = by (cases_Bool (is_far e)) (near_from_find row)
  where
    by : (is_far e ≡ true) ⊎ (is_far e ≡ false)
        → (find is_far row ≡ None → All (λ (a : Entry). nat_abs a.value ≤ most_entry) row)
        → All (λ (a : Entry). nat_abs a.value ≤ most_entry) (e ∷ row)
    by (inl far) rest =
        let same : Some e ≡ None =
        sym (cond-true (is_far e) (Some e) (find is_far row) far) ∙ none in
        absurd cc
    by (inr near) rest =
        All-cons (λ (a : Entry). nat_abs a.value ≤ most_entry) e row
        (ltb-false most_entry (nat_abs e.value) near)
        (rest (sym (cond-false (is_far e) (Some e) (find is_far row) near) ∙ none))

module _ (wides : List WideEntry) where
  pub unmapped : (P : Entry → Type 0) → All P (entries_of wides)
      → All (λ (w : WideEntry). P (entry_of w)) wides
  unmapped P all k w within =
      let long = length-map wides entry_of in
      subst P (get_or-map entry_of wides k w (entry_of w) within)
      (all k (entry_of w) (omega (arith, within, long)))

  pub near_wide : (k : ℕ) (w : WideEntry) → find is_far (entries_of wides) ≡ None
      → k < length wides → nat_abs (get_or wides k w).value ≤ most_entry
  near_wide k w none within =
      unmapped (λ (e : Entry). nat_abs e.value ≤ most_entry)
      (near_from_find (entries_of wides) none) k w within

  -- the divisor of values that are products' differences
  pub divisor_near : (divisor : ℕ) → AreWide wides → divisor ≡ divisor_of (entries_of wides)
      → divisor < 2 ^ 127
  divisor_near divisor are same =
      let le = near_by (entries_of wides)
      (All-map (λ (e : Entry). nat_abs e.value < 2 ^ 126) entry_of wides are.near) in
      omega (arith, le, same)
    where
      greatest_le : (has : ℕ → Bool) (n : ℕ) → greatest has n ≤ n + 1
      greatest_le has zero = omega arith
      greatest_le has (suc n) = by_test (cases_Bool (has (suc n))) (greatest_le has n)
        where
          by_test : (has (suc n) ≡ true) ⊎ (has (suc n) ≡ false) → greatest has n ≤ n + 1
              → greatest has (suc n) ≤ suc n + 1
          by_test (inl yes') le =
              let e = cond-true (has (suc n)) (suc n) (greatest has n) yes' in omega (arith, e)
          by_test (inr no') le =
              let e = cond-false (has (suc n)) (suc n) (greatest has n) no' in
              omega (arith, e, le)

      near_by : (row : List Entry) → All (λ (e : Entry). nat_abs e.value < 2 ^ 126) row
          → divisor_of row < 2 ^ 127
      near_by [] all = omega arith
      near_by (e ∷ row) all =
          let near = all 0 e (omega arith) in
          let le = greatest_le (λ d. divides_all d (e ∷ row)) (nat_abs e.value) in
          omega (arith, near, le)

  pub divided_by_divisor : (new : List WideEntry) (divisor : ℕ)
      → divisor ≡ divisor_of (entries_of wides)
      → entries_of new ≡ divided_by divisor (entries_of wides)
      → entries_of new ≡ divided (entries_of wides)
  divided_by_divisor new divisor same written =
      written ∙ ap (λ d. divided_by d (entries_of wides)) same

  pub far_told : (far : WideEntry) → far_of (Some far) ≡ find is_far (entries_of wides)
      → TellsFar (find is_far (entries_of wides)) (Value far.column far.value)
  far_told far is = subst (λ o. TellsFar o (Value far.column far.value)) is refl

-- Entries in 64 bits divided, one after the other.
module _ (divisor : ℕ) (old xs : List Entry) (k : ℕ) where
  same_at : (d : Entry) → drop k xs ≡ drop k old → get_or xs k d ≡ get_or old k d
  same_at d same =
      sym (at xs d) ∙ ap (λ (l : List Entry). get_or l 0 d) same ∙ at old d
    where
      at : (l : List Entry) (e : Entry) → get_or (drop k l) 0 e ≡ get_or l k e
      at l e = get_or-drop k l 0 e ∙ ap (λ n. get_or l n e) (plus_none k)
        where
          plus_none : (n : ℕ) → n + 0 ≡ n
          plus_none n = omega arith

  pub near_at : (d : Entry) → All (λ (e : Entry). nat_abs e.value ≤ most_entry) old
      → k < length old → drop k xs ≡ drop k old → nat_abs (get_or xs k d).value ≤ most_entry
  near_at d near within same =
      subst (λ (e : Entry). nat_abs e.value ≤ most_entry) (sym (same_at d same)) (near k d within)

  pub narrow_step : (e d : Entry) → length xs ≡ length old → k < length old
      → take k xs ≡ divided_by divisor (take k old) → drop k xs ≡ drop k old
      → e ≡ entry_by divisor (get_or xs k d)
      → (take (k + 1) (set xs k e) ≡ divided_by divisor (take (k + 1) old))
      × (drop (k + 1) (set xs k e) ≡ drop (k + 1) old)
  narrow_step e d same within before rest is = (
    take_more_set xs k e (omega (arith, within, same))
        ∙ ap (λ (l : List Entry). l ++ e ∷ []) before
        ∙ ap (λ (a : Entry). divided_by divisor (take k old) ++ a ∷ [])
        (is ∙ ap (entry_by divisor) (same_at d rest))
        ∙ sym (map_more (entry_by divisor) old k d within),
    drop-set-lt (k + 1) xs k e (omega arith) ∙ sym (drop-drop 1 k xs)
        ∙ ap (drop 1) rest ∙ drop-drop 1 k old,
  )

  pub narrow_all : length xs ≡ length old → length old ≤ k
      → take k xs ≡ divided_by divisor (take k old) → xs ≡ divided_by divisor old
  narrow_all same past is =
      sym (take_all k xs (omega (arith, same, past))) ∙ is
      ∙ ap (divided_by divisor) (take_all k old past)

-- no quotient is further from 0
quotient_near : (v : ℤ) (d : ℕ) → nat_abs (int_div v (pos d)) ≤ nat_abs v
quotient_near (pos n) d = div-le_self n d
quotient_near (negsuc n) d =
    let less = div-le_self (suc n) d in
    let same = abs_turned (suc n / d) in
    omega (arith, less, same)
  where
    abs_turned : (m : ℕ) → nat_abs (neg_ℤ (pos m)) ≡ m
    abs_turned zero = refl
    abs_turned (suc m) = refl

pub near_divided : (d : ℕ) (row : List Entry)
    → All (λ (e : Entry). nat_abs e.value ≤ most_entry) row
    → All (λ (e : Entry). nat_abs e.value ≤ most_entry) (divided_by d row)
near_divided d row near =
    All-map (λ (e : Entry). nat_abs e.value ≤ most_entry) (entry_by d) row
    (λ i e inside.
    let less = quotient_near (get_or row i e).value d in
    let here = near i e inside in
    omega (arith, less, here))
