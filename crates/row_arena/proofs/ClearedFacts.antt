-- A row with a column cleared: it is a row, and so many times what it has in a column is the
-- difference of what the two rows have there.
use Rattle.std.proofs.Common.{◌≡◌, ◌⊎◌, ℕ, zero, suc, ◌%◌, ◌==◌, ◌+◌, ◌<◌, ◌≤◌, Bool, true, false, ◌&&◌, None, Ok, List, [], ◌∷◌, length, set, ℤ, pos, negsuc, ◌*ℤ◌, nat_abs, refl, sym, ap, ◌∙◌, subst, inl, inr, arith}
use Rattle.std.specs.List.{find}
use Rattle.std.proofs.Math.IntN.{*ℤ_comm}
use Rattle.std.proofs.Math.Nat.{suc-mul}
use Rattle.std.proofs.lemmas.Int.{ints}
use Rattle.std.proofs.lemmas.Bool.{cases_Bool, cases_lt, cond-true, cond-false}
use Rattle.std.proofs.lemmas.List.{take_all}
use Rattle.exact_sums.proofs.ItemFacts.{slice_get-set_same}
use Rattle.row_arena.specs.declared.entry.Entry.{Entry}
use Rattle.row_arena.specs.Arena.{AreFilled, IsArena, is_far, live, row_at, row_or_none, with_row}
use Rattle.row_arena.specs.Combining.{cleared, difference, difference_at, divides_all, divisor_of, greatest}
use Rattle.row_arena.specs.Products.{AreFilledBy}
use Rattle.row_arena.specs.Rows.{IsRow, entry_at}
use Rattle.row_arena.proofs.ArenaFacts.{arena_set, live_set, with_row_is}
use Rattle.row_arena.proofs.DifferenceFacts.{no_difference}
use Rattle.row_arena.proofs.DifferenceRows.{difference_ascending, difference_no_zeros, entry_at_difference}
use Rattle.row_arena.proofs.DividedFacts.{IsSorted, entry_of_divided, none_of_divided, sorted_divided}
use Rattle.row_arena.proofs.DivisorFacts.{Divides, divides_from}
use Rattle.row_arena.proofs.ReduceFacts.{near_from_find}

module _ (has : ℕ → Bool) (one : has 1 ≡ true) where
  greatest_by : (n : ℕ) → (has (suc n) ≡ true) ⊎ (has (suc n) ≡ false)
      → (has (greatest has n) ≡ true) × (0 < greatest has n)
      → (has (greatest has (suc n)) ≡ true) × (0 < greatest has (suc n))
  greatest_by n (inl passes) rest =
      let same = cond-true (has (suc n)) (suc n) (greatest has n) passes in
      (ap has same ∙ passes, omega (arith, same))
  greatest_by n (inr fails) rest =
      let same = cond-false (has (suc n)) (suc n) (greatest has n) fails in
      let some = rest.1 in
      (ap has same ∙ rest.0, omega (arith, same, some))

  greatest_has : (n : ℕ) → (has (greatest has n) ≡ true) × (0 < greatest has n)
  greatest_has zero = (one, omega arith)
  greatest_has (suc n) = greatest_by n (cases_Bool (has (suc n))) (greatest_has n)

one_divides : (row : List Entry) → divides_all 1 row ≡ true
one_divides [] = refl
one_divides (e ∷ row) = first (nat_abs e.value) (one_divides row)
  where
    first : (n : ℕ) → divides_all 1 row ≡ true
        → (n % 1 == 0 && divides_all 1 row) ≡ true
    first n rest = grind arith

-- the divisor divides each entry
pub divisor_divides : (row : List Entry) → Divides (divisor_of row) row × (0 < divisor_of row)
divisor_divides [] = (
  record { each = λ k d within. absurd (omega (arith, within)) },
  omega arith,
)
divisor_divides (e ∷ row) =
    let at =
    greatest_has (λ d. divides_all d (e ∷ row)) (one_divides (e ∷ row)) (nat_abs e.value) in
    (divides_from (divisor_of (e ∷ row)) (e ∷ row) at.0, at.1)

times_none : (g : ℕ) (x : ℤ) → 0 < g → pos g *ℤ x ≡ pos 0 → x ≡ pos 0
times_none zero x some none = absurd (omega arith)
times_none (suc g) (pos n) some none =
    let product = suc-mul g n in
    omega (arith, ints, none, product)
times_none (suc g) (negsuc n) some none =
    let product = suc-mul g (suc n) in
    absurd (omega (arith, ints, none, product))

module _ (column : ℕ) (target pivot : List Entry) where
  p : ℤ
  p = entry_at pivot column

  sorted : IsSorted (difference (entry_at pivot column) (entry_at target column) target pivot)
  sorted = record {
    each = difference_ascending (entry_at pivot column) (entry_at target column) target pivot;
  }

  -- in each column so many times what it has is the difference
  pub entry_of_cleared : (k : ℕ)
      → pos (divisor_of (difference (entry_at pivot column) (entry_at target column) target pivot))
      *ℤ entry_at (cleared column target pivot) k
      ≡ difference_at (entry_at pivot column) (entry_at target column) target pivot k
  entry_of_cleared k =
      let d = difference (entry_at pivot column) (entry_at target column) target pivot in
      entry_of_divided (divisor_of d) d k sorted (divisor_divides d).0
      ∙ entry_at_difference (entry_at pivot column) (entry_at target column) target pivot k

  none_from : (k : ℕ)
      → difference_at (entry_at pivot column) (entry_at target column) target pivot k ≡ pos 0
      → entry_at (cleared column target pivot) k ≡ pos 0
  none_from k none =
      let d = difference (entry_at pivot column) (entry_at target column) target pivot in
      times_none (divisor_of d) (entry_at (cleared column target pivot) k) (divisor_divides d).1
      (entry_of_cleared k ∙ none)

  -- it has no entry in the column
  pub cleared_there : entry_at (cleared column target pivot) column ≡ pos 0
  cleared_there = none_from column
      (let same = *ℤ_comm (entry_at pivot column) (entry_at target column) in
      omega (arith, ints, same))

  -- nor where neither row has one
  pub cleared_elsewhere : (k : ℕ) → entry_at target k ≡ pos 0 → entry_at pivot k ≡ pos 0
      → entry_at (cleared column target pivot) k ≡ pos 0
  cleared_elsewhere k left right = none_from k
      (no_difference (entry_at pivot column) (entry_at target column) target pivot k left right)

  pub cleared_is_row : find is_far (cleared column target pivot) ≡ None
      → IsRow (cleared column target pivot)
  cleared_is_row none =
      let d = difference (entry_at pivot column) (entry_at target column) target pivot in
      let of = divisor_divides d in
      record {
        ascending = (sorted_divided (divisor_of d) d sorted).each;
        no_zeros = none_of_divided (divisor_of d) d of.1 of.0
            (difference_no_zeros (entry_at pivot column) (entry_at target column) target pivot);
        near = near_from_find (cleared column target pivot) none;
      }

  filled_cleared : (filled : List ℕ) → AreFilledBy target pivot (length pivot) filled
      → AreFilled target (cleared column target pivot) filled
  filled_cleared filled by = record {
    each = λ k none some. by.each k none (λ other. some (cleared_elsewhere k none
        (ap (λ (l : List Entry). entry_at l k) (sym (take_all (length pivot) pivot (omega arith)))
        ∙ other)));
  }

-- The rows after a column was cleared in one of them.
module _ (cells target pivot column : ℕ) (rows : List (List Entry)) (row : List Entry)
    (within : target < length rows)
    (is : row ≡ cleared column (row_at rows target) (row_at rows pivot))
    (near : find is_far (cleared column (row_at rows target) (row_at rows pivot)) ≡ None)
    (new : List (List Entry)) (ok : with_row cells rows target row ≡ Ok new) where
  put : (new ≡ set rows target row) × (live rows + length row ≤ cells)
  put = with_row_is cells rows new target row (cases_lt cells (live rows + length row)) ok

  pub combined_filled : (filled : List ℕ)
      → AreFilledBy (row_at rows target) (row_at rows pivot) (length (row_at rows pivot)) filled
      → AreFilled (row_at rows target) (row_at new target) filled
  combined_filled filled by =
      let here : row_at new target ≡ cleared column (row_at rows target) (row_at rows pivot) =
      ap (λ (l : List (List Entry)). row_at l target) put.0
      ∙ ap row_or_none (slice_get-set_same rows target row within) ∙ is in
      subst (λ (l : List Entry). AreFilled (row_at rows target) l filled) (sym here)
      (filled_cleared column (row_at rows target) (row_at rows pivot) filled by)

  pub combined_arena : (count now most : ℕ) (filled other : List ℕ)
      → IsArena count
      (record { rows = rows; most_rows = most; cells = cells; filled = filled })
      → now ≡ live new
      → IsArena now (record { rows = new; most_rows = most; cells = cells; filled = other })
  combined_arena count now most filled other before here =
      let sum = live_set rows target row within in
      let size = ap live put.0 in
      let fits = put.1 in
      arena_set count now most cells target rows new row filled other before
      (subst IsRow (sym is) (cleared_is_row column (row_at rows target) (row_at rows pivot)
      near)) within here
      (omega (arith, sum, size, fits)) put.0
