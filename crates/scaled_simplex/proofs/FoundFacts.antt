-- The row of each index, and which rows have a negative right side, as the tableau changes.
use Rattle.std.proofs.Common.{◌≡◌, ◌≢◌, ◌⊎◌, ℕ, ◌+◌, ◌<◌, Bool, true, false, List, length, set, slice_index, ℤ, pos, neg_ℤ, ◌<ℤ◌, int_lt, get_or-set_other, get_or-set_same, refl, sym, ap, ◌∙◌, subst, inl, inr, arith}
use Rattle.std.proofs.lemmas.Bool.{cases_eq}
use Rattle.std.proofs.lemmas.Int.{ints}
use Rattle.std.proofs.lemmas.List.{length-set}
use Rattle.number_set.specs.Numbers.{IsChanged, Numbers, has}
use Rattle.row_arena.specs.declared.entry.Entry.{Entry}
use Rattle.row_arena.specs.Arena.{row_at}
use Rattle.row_arena.specs.Rows.{entry_at, negated}
use Rattle.scaled_simplex.specs.Board.{AreFound, IsBasic}
use Rattle.scaled_simplex.specs.Program.{Problem}
use Rattle.scaled_simplex.specs.Run.{right_at}
use Rattle.scaled_simplex.specs.Tableau.{Tableau, right_side}
use Rattle.scaled_simplex.proofs.EntryLaws.{entry_negated}
use Rattle.row_arena.proofs.WholeLaws.{less_is, linear}
use Rattle.scaled_simplex.proofs.Sweeps.{row_at-set_other, row_at-set_same}
use Rattle.scaled_simplex.proofs.ListFacts.{no_both}

-- a number that isn't negative
not_less : (v : ℤ) → pos 0 <ℤ v → int_lt v (pos 0) ≡ false
not_less v above = by (int_lt v (pos 0)) refl
  where
    by : (b : Bool) → int_lt v (pos 0) ≡ b → b ≡ false
    by true is = absurd (let below = less_is v (pos 0) is in omega (arith, ints, above, below))
    by false is = refl

module _ (problem : Problem) (rows new : List (List Entry)) (basis row_of : List ℕ)
    (negative : Numbers)
    (found : AreFound problem (record { rows = rows; basis = basis }) row_of negative) where
  -- each row stands for an index of its own
  apart : (j k : ℕ) → j < length problem.constraints → k < length problem.constraints → j ≢ k
      → slice_index basis j ≢ slice_index basis k
  apart j k below small other same =
      other (sym (found.back j below) ∙ ap (slice_index row_of) same ∙ found.back k small)

  -- one row is another one, and it is said whether its right side is negative
  pub found_set : (row : ℕ) (made : List Entry) (changed : Numbers)
      → row < length problem.constraints → row < length rows → new ≡ set rows row made
      → IsChanged (slice_index basis row) (int_lt (entry_at made (right_side problem)) (pos 0))
      negative changed
      → AreFound problem (record { rows = new; basis = basis }) row_of changed
  found_set row made changed below within is change = record {
    count_is = found.count_is;
    bound = change.bound ∙ found.bound;
    back = found.back;
    signs = λ k small. elim (cases_eq k row)
        as (λ _. has changed (slice_index basis k)
        ≡ int_lt (entry_at (row_at new k) (right_side problem)) (pos 0)) [
          | inl same ↦ ap (λ n. has changed (slice_index basis n)) same ∙ change.here
              ∙ ap (λ (r : List Entry). int_lt (entry_at r (right_side problem)) (pos 0))
              (sym (ap (row_at new) same ∙ ap (λ (l : List (List Entry)). row_at l row) is
              ∙ row_at-set_same rows row made within))
          | inr other ↦ change.others (slice_index basis k) (apart k row small below other)
              ∙ found.signs k small
              ∙ ap (λ (r : List Entry). int_lt (entry_at r (right_side problem)) (pos 0))
              (sym (ap (λ (l : List (List Entry)). row_at l k) is
              ∙ row_at-set_other rows row k made other))
        ];
    some = λ index has_it. elim (cases_eq index (slice_index basis row))
        as (λ _. (slice_index row_of index < length problem.constraints)
        × (slice_index basis (slice_index row_of index) ≡ index)) [
          | inl same ↦
              let back : slice_index row_of index ≡ row =
              ap (slice_index row_of) same ∙ found.back row below in (
                subst (λ n. n < length problem.constraints) (sym back) below,
                ap (slice_index basis) back ∙ sym same,
              )
          | inr other ↦ found.some index (sym (change.others index other) ∙ has_it)
        ];
  }

-- the leaving row is turned round, and stands for another index
module _ (problem : Problem) (tableau : Tableau) (new : List (List Entry)) (row_of : List ℕ)
    (negative changed : Numbers) (found : AreFound problem tableau row_of negative)
    (basic : IsBasic problem tableau) (row index : ℕ)
    (below : row < length problem.constraints)
    (rows_count : length tableau.rows ≡ length problem.constraints + 1)
    (basis_count : length tableau.basis ≡ length problem.constraints)
    (index_below : index < right_side problem)
    (is : new ≡ set tableau.rows row (negated (row_at tableau.rows row)))
    (leaves : right_at problem tableau row <ℤ pos 0)
    (enters : entry_at (row_at tableau.rows row) index <ℤ pos 0)
    (change : IsChanged (slice_index tableau.basis row) false negative changed) where
  abbrev basis_after : List ℕ
  basis_after = set tableau.basis row index

  abbrev row_of_after : List ℕ
  row_of_after = set row_of index row

  -- no row stands for the index yet
  not_basic : (k : ℕ) → k < length problem.constraints → slice_index tableau.basis k ≢ index
  not_basic k small same = by (cases_eq k row)
    where
      by : (k ≡ row) ⊎ (k ≢ row) → ⊥
      by (inl it) =
          let own = basic.own k small in
          let at : entry_at (row_at tableau.rows k) (slice_index tableau.basis k)
          ≡ entry_at (row_at tableau.rows row) index =
          ap (entry_at (row_at tableau.rows k)) same
          ∙ ap (λ n. entry_at (row_at tableau.rows n) index) it in
          omega (arith, linear, own, at, enters)
      by (inr other) =
          let none = basic.apart k row small (omega (arith, below)) (λ e. other (sym e)) in
          let at : entry_at (row_at tableau.rows row) (slice_index tableau.basis k)
          ≡ entry_at (row_at tableau.rows row) index =
          ap (entry_at (row_at tableau.rows row)) same in
          omega (arith, linear, none, at, enters)

  own_index : slice_index basis_after row ≡ index
  own_index = get_or-set_same tableau.basis row index 0
      (let count = basis_count in omega (arith, below, count))

  other_index : (k : ℕ) → k ≢ row → slice_index basis_after k ≡ slice_index tableau.basis k
  other_index k other = get_or-set_other tableau.basis row k index 0 other

  own_row : slice_index row_of_after index ≡ row
  own_row = get_or-set_same row_of index row 0
      (let count = found.count_is in omega (arith, index_below, count))

  other_row : (i : ℕ) → i ≢ index → slice_index row_of_after i ≡ slice_index row_of i
  other_row i other = get_or-set_other row_of index i row 0 other

  not_in : has negative index ≡ false
  not_in = by (has negative index) refl
    where
      by : (b : Bool) → has negative index ≡ b → b ≡ false
      by true it =
          let known = found.some index it in
          absurd (not_basic (slice_index row_of index) known.0 known.1)
      by false it = refl

  turned_above : int_lt (right_at problem (record { rows = new; basis = basis_after }) row) (pos 0)
      ≡ false
  turned_above =
      let made : row_at new row ≡ negated (row_at tableau.rows row) =
      ap (λ (l : List (List Entry)). row_at l row) is
      ∙ row_at-set_same tableau.rows row (negated (row_at tableau.rows row))
      (let count = rows_count in omega (arith, below, count)) in
      let value : entry_at (row_at new row) (right_side problem)
      ≡ neg_ℤ (right_at problem tableau row) =
      ap (λ (r : List Entry). entry_at r (right_side problem)) made
      ∙ entry_negated (row_at tableau.rows row) (right_side problem) in
      not_less (entry_at (row_at new row) (right_side problem))
      (omega (arith, ints, value, leaves))

  apart_from : (k : ℕ) → k < length problem.constraints → k ≢ row
      → slice_index tableau.basis k ≢ slice_index tableau.basis row
  apart_from k small other same =
      other (sym (found.back k small) ∙ ap (slice_index row_of) same ∙ found.back row below)

  signs_after : (k : ℕ) → k < length problem.constraints
      → has changed (slice_index basis_after k)
      ≡ int_lt (right_at problem (record { rows = new; basis = basis_after }) k) (pos 0)
  signs_after k small = by (cases_eq k row)
    where
      by : (k ≡ row) ⊎ (k ≢ row) → has changed (slice_index basis_after k)
          ≡ int_lt (right_at problem (record { rows = new; basis = basis_after }) k) (pos 0)
      by (inl same) =
          ap (λ n. has changed (slice_index basis_after n)) same ∙ ap (has changed) own_index
          ∙ change.others index (λ e. not_basic row below (sym e)) ∙ not_in
          ∙ sym turned_above
          ∙ ap (λ n. int_lt (entry_at (row_at new n) (right_side problem)) (pos 0)) (sym same)
      by (inr other) =
          ap (has changed) (other_index k other)
          ∙ change.others (slice_index tableau.basis k) (apart_from k small other)
          ∙ found.signs k small
          ∙ ap (λ (r : List Entry). int_lt (entry_at r (right_side problem)) (pos 0))
          (sym (ap (λ (l : List (List Entry)). row_at l k) is
          ∙ row_at-set_other tableau.rows row k (negated (row_at tableau.rows row)) other))

  some_after : (i : ℕ) → has changed i ≡ true
      → (slice_index row_of_after i < length problem.constraints)
      × (slice_index basis_after (slice_index row_of_after i) ≡ i)
  some_after i has_it =
      let other : i ≢ slice_index tableau.basis row =
      λ same. no_both (sym (ap (has changed) same) ∙ has_it) change.here in
      let was : has negative i ≡ true = sym (change.others i other) ∙ has_it in
      let known = found.some i was in
      let not_index : i ≢ index = λ same. no_both (sym (ap (has negative) same) ∙ was) not_in in
      let not_row : slice_index row_of i ≢ row =
      λ same. other (sym known.1 ∙ ap (slice_index tableau.basis) same) in
      let here = other_row i not_index in (
        subst (λ n. n < length problem.constraints) (sym here) known.0,
        ap (slice_index basis_after) here ∙ other_index (slice_index row_of i) not_row ∙ known.1,
      )

  pub found_entered : AreFound problem (record { rows = new; basis = basis_after }) row_of_after
      changed
  found_entered = record {
    count_is = length-set row_of index row ∙ found.count_is;
    bound = change.bound ∙ found.bound;
    back = λ k small. elim (cases_eq k row)
        as (λ _. slice_index row_of_after (slice_index basis_after k) ≡ k) [
          | inl same ↦ ap (λ n. slice_index row_of_after (slice_index basis_after n)) same
              ∙ ap (slice_index row_of_after) own_index ∙ own_row ∙ sym same
          | inr other ↦ ap (slice_index row_of_after) (other_index k other)
              ∙ other_row (slice_index tableau.basis k) (not_basic k small)
              ∙ found.back k small
        ];
    signs = signs_after;
    some = some_after;
  }
