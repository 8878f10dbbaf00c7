-- Where a column stands in a row.
use Rattle.std.proofs.Common.{◌≡◌, ◌⊎◌, ℕ, ◌+◌, ◌<◌, ◌≤◌, ◌*◌, List, length, get_or, ℤ, pos, nat_abs, to_z, of_z, sym, ap, ◌∙◌, subst, inl, inr, arith}
use mir.Syntax.{w64}
use Rattle.std.proofs.lemmas.Int.{fits_signed_from_abs, to_z-of_z}
use Rattle.std.proofs.lemmas.Bool.{cases_eq, cases_lt}
use Rattle.std.proofs.lemmas.List.{get_or_default}
use Rattle.row_arena.specs.declared.entry.Entry.{Entry}
use Rattle.row_arena.specs.Products.{AreNear, IsPlaceOf}
use Rattle.row_arena.specs.Rows.{IsRow, entry_at, most_entry, value_in}
use Rattle.row_arena.proofs.RowFacts.{entry_absent, entry_there, value_elsewhere, value_here}
use Rattle.row_arena.proofs.DifferenceRows.{entry_near}

module _ (row : List Entry) (is : IsRow row) (middle : ℕ) (e : Entry) (column : ℕ)
    (within : middle < length row) where
  pub low_side : (get_or row middle e).column < column → (k : ℕ) (d : Entry) → k < middle + 1
      → (get_or row k d).column < column
  low_side here k d below = by (cases_lt k middle)
    where
      by : (k < middle) ⊎ (middle ≤ k) → (get_or row k d).column < column
      by (inl before) =
          let less = is.ascending k middle e before within in
          let inside : k < length row = omega (arith, within, before) in
          let same = ap (λ (a : Entry). a.column) (get_or_default row k d e inside) in
          omega (arith, less, here, same)
      by (inr at) =
          let same : k ≡ middle = omega (arith, at, below) in
          subst (λ n. (get_or row n d).column < column) (sym same)
          (subst (λ (a : Entry). a.column < column) (get_or_default row middle e d within) here)

  pub high_side : column ≤ (get_or row middle e).column → (k : ℕ) (d : Entry) → middle ≤ k
      → k < length row → column ≤ (get_or row k d).column
  high_side here k d above inside = by (cases_eq middle k)
    where
      by : (middle ≡ k) ⊎ (middle ≡ k → ⊥) → column ≤ (get_or row k d).column
      by (inl same) =
          subst (λ n. column ≤ (get_or row n d).column) same
          (subst (λ (a : Entry). column ≤ a.column) (get_or_default row middle e d within) here)
      by (inr other) =
          let less = is.ascending middle k d (omega (arith, above, other)) inside in
          let same = ap (λ (a : Entry). a.column) (get_or_default row middle e d within) in
          omega (arith, less, here, same)

-- a value of a row, as the code has it
pub whole_near : (z : ℤ) → nat_abs z ≤ most_entry → to_z w64 (of_z w64 z) ≡ z
whole_near z near = to_z-of_z w64 z (fits_signed_from_abs w64 z (omega (arith, near)))

module _ (row : List Entry) (is : IsRow row) (position column : ℕ)
    (place : IsPlaceOf row column position) where
  pub none_at_end : length row ≤ position → pos 0 ≡ entry_at row column
  none_at_end past =
      sym (entry_absent row column (length row) (omega arith) is
      (λ k d below. place.before k d (omega (arith, past, below)))
      (λ k d above inside. absurd (omega (arith, above, inside))))

  pub entry_at_place : (d : Entry) → position < length row
      → value_in column (get_or row position d) ≡ entry_at row column
  entry_at_place d within = by (cases_eq (get_or row position d).column column)
    where
      by : ((get_or row position d).column ≡ column)
          ⊎ ((get_or row position d).column ≡ column → ⊥)
          → value_in column (get_or row position d) ≡ entry_at row column
      by (inl same) =
          value_here column (get_or row position d) same
          ∙ sym (entry_there row position d is within)
          ∙ ap (entry_at row) same
      by (inr other) =
          let here = place.after position d (omega arith) within in
          value_elsewhere column (get_or row position d) other
          ∙ sym (entry_absent row column position (omega (arith, within)) is place.before
          (λ k e above inside. later k e above inside (cases_eq position k) here))
        where
          later : (k : ℕ) (e : Entry) → position ≤ k → k < length row
              → (position ≡ k) ⊎ (position ≡ k → ⊥) → column ≤ (get_or row position d).column
              → column < (get_or row k e).column
          later k e above inside (inl same) here =
              subst (λ n. column < (get_or row n e).column) same
              (subst (λ (a : Entry). column < a.column) (get_or_default row position d e within)
              (omega (arith, here, other)))
          later k e above inside (inr not') here =
              let less = is.ascending position k e (omega (arith, above, not')) inside in
              let same = ap (λ (a : Entry). a.column) (get_or_default row position d e within) in
              omega (arith, less, here, same)

  pub read_place : (d : Entry) (r : ℤ) → position < length row
      → r ≡ value_in column (get_or row position d) → to_z w64 (of_z w64 r) ≡ entry_at row column
  read_place d r within same =
      let here = same ∙ entry_at_place d within in
      whole_near r (subst (λ v. nat_abs v ≤ most_entry) (sym here) (entry_near row column is))
      ∙ here

near_of : (r x : ℤ) → r ≡ x → nat_abs x ≤ most_entry → nat_abs (to_z w64 (of_z w64 r)) ≤ most_entry
near_of r x same near =
    let here : nat_abs r ≤ most_entry = subst (λ v. nat_abs v ≤ most_entry) (sym same) near in
    subst (λ v. nat_abs v ≤ most_entry) (sym (whole_near r here)) here

pub factors_near : (target pivot : List Entry) (column : ℕ) (p a : ℤ) → IsRow target → IsRow pivot
    → p ≡ entry_at pivot column → a ≡ entry_at target column
    → AreNear (record {
      target = to_z w64 (of_z w64 p);
      pivot = to_z w64 (of_z w64 a);
      reach = pos 0;
    })
factors_near target pivot column p a left right first second = record {
  target = near_of p (entry_at pivot column) first (entry_near pivot column right);
  pivot = near_of a (entry_at target column) second (entry_near target column left);
  reach = record {
    within = omega arith;
    target = none (nat_abs (to_z w64 (of_z w64 p)));
    pivot = none (nat_abs (to_z w64 (of_z w64 a)));
  };
}
  where
    none : (n : ℕ) → n * 0 ≤ most_entry
    none n = omega arith
