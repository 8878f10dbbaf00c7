-- What crates above need of rows: a row is told by what it has in each column, what it has where it
-- is divided or its signs are turned, and the entry that it has.
use Rattle.std.proofs.Common.{◌≡◌, ◌≢◌, ◌⊎◌, ℕ, zero, suc, ◌+◌, ◌<◌, ◌≤◌, max, None, Ok, List, [], ◌∷◌, ◌++◌, length, set, All, get_or, ℤ, pos, negsuc, neg_ℤ, ◌+ℤ◌, ◌*ℤ◌, ◌/◌, int_div, nat_abs, refl, sym, ap, ◌∙◌, subst, inl, inr, arith}
use Rattle.std.specs.List.{Contains, find}
use Rattle.std.proofs.lemmas.Int.{ints}
use Rattle.std.proofs.lemmas.Bool.{cases_eq}
use Rattle.std.proofs.Math.Nat.{div-le_self}
use Rattle.std.proofs.lemmas.List.Elements.{All-map, All-push, All-set}
use Rattle.std.proofs.lemmas.List.Quantifiers.{all_pairs_push}
use Rattle.std.proofs.lemmas.List.{length-set}
use Rattle.exact_sums.proofs.ItemFacts.{slice_get-set_other, slice_get-set_same}
use Rattle.row_arena.specs.declared.entry.Entry.{Entry}
use Rattle.row_arena.specs.Arena.{combined, is_far, live, row_at, row_or_none}
use Rattle.row_arena.specs.Combining.{cleared, divided, divisor_of, entry_by}
use Rattle.row_arena.specs.Rows.{IsRow, entry_at, most_entry, negated, negated_entry, reach, row_from, unless_zero}
use Rattle.row_arena.proofs.ArenaFacts.{replaced_is}
use Rattle.row_arena.proofs.ClearedFacts.{cleared_is_row, divisor_divides}
use Rattle.row_arena.proofs.DifferenceFacts.{cut_first, peel, row_from_none, row_from_same}
use Rattle.row_arena.proofs.DifferenceRows.{unless_some}
use Rattle.row_arena.proofs.DividedFacts.{entry_of_divided, none_of_divided, sorted_divided}
use Rattle.row_arena.proofs.RowFacts.{entry_first, entry_later, first_is_least, row_tail, IsAfter, value_here}

-- a row is the one with such values
pub row_is_from : (row : List Entry) (n : ℕ) → IsRow row → reach row ≤ n
    → row ≡ row_from (entry_at row) 0 n
row_is_from [] n is le = sym (row_from_none (entry_at []) 0 n (λ k h. refl))
row_is_from (e ∷ row) n is le =
    let first = first_is_least e row is in
    let cut = cut_first e row first in
    ap (λ (l : List Entry). l ++ row)
    (sym (unless_some e.column e.value (is.no_zeros 0 e (omega arith))))
    ∙ ap (λ (l : List Entry). unless_zero e.column e.value ++ l)
    (row_is_from row n (row_tail e row is) (omega arith))
    ∙ sym (peel (entry_at (e ∷ row)) (entry_at row) e.column e.value cut.low cut.none
    (entry_first e.column e row refl first) cut.same 0 n (omega arith) (omega arith))

-- two rows with the same in each column are one
pub row_unique : (a b : List Entry) → IsRow a → IsRow b
    → ((k : ℕ) → entry_at a k ≡ entry_at b k) → a ≡ b
row_unique a b left right same =
    row_is_from a (max (reach a) (reach b)) left (omega arith)
    ∙ row_from_same (entry_at a) (entry_at b) 0 (max (reach a) (reach b)) (λ k h. same k)
    ∙ sym (row_is_from b (max (reach a) (reach b)) right (omega arith))

-- an entry of the row stands where it has something
pub entry_found : (row : List Entry) (k : ℕ) → IsRow row → entry_at row k ≢ pos 0
    → Contains row (record { column = k; value = entry_at row k })
entry_found [] k is some = absurd (some refl)
entry_found (e ∷ row) k is some =
    by (cases_eq e.column k) (entry_found row k (row_tail e row is))
  where
    by : (e.column ≡ k) ⊎ (e.column ≡ k → ⊥)
        → (entry_at row k ≢ pos 0 → Contains row (record { column = k; value = entry_at row k }))
        → Contains (e ∷ row) (record { column = k; value = entry_at (e ∷ row) k })
    by (inl same) rest = (
      0,
      omega arith,
      ap (λ c. record { column = c; value = e.value }) same
          ∙ ap (λ v. record { column = k; value = v })
          (sym (entry_first k e row same
          (subst (λ c. IsAfter c row) same (first_is_least e row is)))),
    )
    by (inr other) rest =
        let later = entry_later k e row other in
        let at = rest (λ none. some (later ∙ none)) in
        subst (λ v. Contains (e ∷ row) (record { column = k; value = v })) (sym later)
        (suc at.0, omega (arith, at.1), at.2)

-- so many times what the divided row has, as before
pub entry_at_divided : (row : List Entry) (k : ℕ) → IsRow row
    → pos (divisor_of row) *ℤ entry_at (divided row) k ≡ entry_at row k
entry_at_divided row k is =
    entry_of_divided (divisor_of row) row k (record { each = is.ascending }) (divisor_divides row).0

smaller : (d : ℕ) (z : ℤ) → nat_abs (int_div z (pos d)) ≤ nat_abs z
smaller d (pos n) = div-le_self n d
smaller d (negsuc n) = turned (suc n / d) (div-le_self (suc n) d)
  where
    turned : (m : ℕ) → m ≤ suc n → nat_abs (neg_ℤ (pos m)) ≤ suc n
    turned zero le = omega arith
    turned (suc m) le = le

pub divided_is_row : (row : List Entry) → IsRow row → IsRow (divided row)
divided_is_row row is =
    let of = divisor_divides row in
    record {
      ascending = (sorted_divided (divisor_of row) row (record { each = is.ascending })).each;
      no_zeros = none_of_divided (divisor_of row) row of.1 of.0 is.no_zeros;
      near = All-map (λ (e : Entry). nat_abs e.value ≤ most_entry) (entry_by (divisor_of row)) row
          (λ i e within.
          let le = smaller (divisor_of row) (get_or row i e).value in
          let near = is.near i e within in
          omega (arith, le, near));
    }

-- with turned signs
pub entry_at_negated : (row : List Entry) (k : ℕ)
    → entry_at (negated row) k ≡ neg_ℤ (entry_at row k)
entry_at_negated [] k = refl
entry_at_negated (e ∷ row) k = by (cases_eq e.column k) (entry_at_negated row k)
  where
    here : (a : Entry) (l : List Entry) → a.column ≡ k
        → entry_at (a ∷ l) k ≡ a.value +ℤ entry_at l k
    here a l same = ap (λ v. v +ℤ entry_at l k) (value_here k a same)

    by : (e.column ≡ k) ⊎ (e.column ≡ k → ⊥)
        → entry_at (negated row) k ≡ neg_ℤ (entry_at row k)
        → entry_at (negated (e ∷ row)) k ≡ neg_ℤ (entry_at (e ∷ row) k)
    by (inl same) rest =
        let first = here (negated_entry e) (negated row) same in
        let second = here e row same in
        first ∙ ap (λ v. neg_ℤ e.value +ℤ v) rest ∙ omega (arith, ints)
        ∙ ap neg_ℤ (sym second)
    by (inr other) rest =
        entry_later k (negated_entry e) (negated row) other ∙ rest
        ∙ ap neg_ℤ (sym (entry_later k e row other))

-- a row of no entries, and one with an entry more at its end
pub row_none : IsRow []
row_none = record {
  ascending = λ i j d below within. absurd (omega (arith, within));
  no_zeros = λ i d within. absurd (omega (arith, within));
  near = λ i d within. absurd (omega (arith, within));
}

pub row_pushed : (row : List Entry) (e : Entry) → IsRow row → All (λ a. a.column < e.column) row
    → e.value ≢ pos 0 → nat_abs e.value ≤ most_entry → IsRow (row ++ e ∷ [])
row_pushed row e is last some near = record {
  ascending = all_pairs_push (λ (a b : Entry). a.column < b.column) row e is.ascending last;
  no_zeros = All-push (λ (a : Entry). a.value ≢ pos 0) row e is.no_zeros some;
  near = All-push (λ (a : Entry). nat_abs a.value ≤ most_entry) row e is.near near;
}

-- A row that was put in the place of another.
pub row_at_same : (rows : List (List Entry)) (k : ℕ) (row : List Entry) → k < length rows
    → row_at (set rows k row) k ≡ row
row_at_same rows k row within = ap row_or_none (slice_get-set_same rows k row within)

pub row_at_other : (rows : List (List Entry)) (n k : ℕ) (row : List Entry) → k ≢ n
    → row_at (set rows n row) k ≡ row_at rows k
row_at_other rows n k row other = ap row_or_none (slice_get-set_other rows n k row other)

-- What the rows are after a column was cleared in one of them.
module _ (cells target pivot column : ℕ) (rows new : List (List Entry))
    (ok : combined cells rows target pivot column ≡ Ok new) where
  pub combined_is : (find is_far (cleared column (row_at rows target) (row_at rows pivot)) ≡ None)
      × (new ≡ set rows target (cleared column (row_at rows target) (row_at rows pivot)))
      × (live rows + length (cleared column (row_at rows target) (row_at rows pivot)) ≤ cells)
  combined_is =
      let row = cleared column (row_at rows target) (row_at rows pivot) in
      replaced_is (find is_far row) cells rows new target row ok

  pub combined_row : target < length rows
      → row_at new target ≡ cleared column (row_at rows target) (row_at rows pivot)
  combined_row within =
      ap (λ (l : List (List Entry)). row_at l target) combined_is.1
      ∙ row_at_same rows target (cleared column (row_at rows target) (row_at rows pivot)) within

  pub combined_other : (k : ℕ) → k ≢ target → row_at new k ≡ row_at rows k
  combined_other k other =
      ap (λ (l : List (List Entry)). row_at l k) combined_is.1
      ∙ row_at_other rows target k (cleared column (row_at rows target) (row_at rows pivot)) other

  pub combined_valid : All IsRow rows → All IsRow new
  combined_valid valid =
      subst (All IsRow) (sym combined_is.1)
      (All-set IsRow rows target (cleared column (row_at rows target) (row_at rows pivot))
      (cleared_is_row column (row_at rows target) (row_at rows pivot) combined_is.0) valid)

  pub combined_length : length new ≡ length rows
  combined_length =
      ap length combined_is.1
      ∙ length-set rows target (cleared column (row_at rows target) (row_at rows pivot))
