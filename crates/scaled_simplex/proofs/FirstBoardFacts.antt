-- The first board: its rows as they are pushed, and the signs of their right sides as they are
-- said.
use Rattle.std.proofs.Common.{◌≡◌, inl, inr, ℕ, zero, suc, ◌+◌, ◌-◌, ◌<◌, ◌≤◌, Bool, true, false, IsTrue, not, nat_le, List, [], ◌∷◌, ◌++◌, length, length-append, take, slice_index, slice_index_or, vec_capacity, All, pos, nat_abs, int_lt, refl, sym, ap, ap₂, ◌∙◌, subst, arith}
use Rattle.std.specs.List.{range_with_len}
use Rattle.std.proofs.lemmas.Bool.{cases_eq, leb-false}
use Rattle.std.proofs.lemmas.List.{length-take-le}
use Rattle.std.proofs.lemmas.List.FromFn.{get_or-range_with_len, length-range_with_len}
use Rattle.std.proofs.lemmas.List.Sums.{sum_by-take-le, sum_by_push}
use Rattle.number_set.specs.Numbers.{IsChanged, has}
use Rattle.row_arena.specs.declared.entry.Entry.{Entry}
use Rattle.row_arena.specs.Arena.{has_room, live, row_at}
use Rattle.row_arena.specs.Rows.{IsRow, entry_at, most_entry}
use Rattle.scaled_simplex.specs.declared.basis.Basis.{Basis}
use Rattle.scaled_simplex.specs.declared.board.Board.{Board}
use Rattle.scaled_simplex.specs.Board.{AreFound, AreListed}
use Rattle.scaled_simplex.specs.BoardOf.{IsBoard}
use Rattle.scaled_simplex.specs.Program.{Constraint, IsConstraint, IsProblem, Problem, columns}
use Rattle.scaled_simplex.specs.Tableau.{constraint_row, constraint_rows, cost_row, first_tableau, right_side}
use Rattle.scaled_simplex.proofs.ListFacts.{no_both}
use Rattle.scaled_simplex.proofs.FirstRows.{constraint_part, cost_part, rows_more}

-- where there is no room
no_room : (cells : ℕ) (rows : List (List Entry)) (row : List Entry)
    → IsTrue (not (has_room cells rows row)) → cells < live rows + length row
no_room cells rows row full = by (nat_le (live rows + length row) cells) refl full
  where
    by : (b : Bool) → nat_le (live rows + length row) cells ≡ b → IsTrue (not b)
        → cells < live rows + length row
    by true is full = absurd (let no : false ≡ true = full in let g : ⊥ = cc in g)
    by false is full = leb-false (live rows + length row) cells is

module _ (problem : Problem) where
  -- what a column costs isn't too far from 0
  pub cost_near : (column : ℕ) (entry : Entry) → IsProblem problem → column < columns problem
      → entry ≡ record {
        column = column;
        value = slice_index_or problem.costs column (pos 0);
      } → nat_abs entry.value ≤ most_entry
  cost_near column entry valid within is =
      subst (λ (e : Entry). nat_abs e.value ≤ most_entry) (sym is)
      (valid.costs column (pos 0) within).near

  -- the rows of the first constraints are some of all rows
  rows_count : (a : ℕ) (constraints : List Constraint)
      → length (constraint_rows problem a constraints) ≡ length constraints
  rows_count a [] = refl
  rows_count a (c ∷ constraints) = ap suc (rows_count (a + 1) constraints)

  pub rows_before : (k : ℕ) → k ≤ length problem.constraints
      → length (constraint_rows problem 0 (take k problem.constraints)) ≡ k
  rows_before k few =
      rows_count 0 (take k problem.constraints) ∙ length-take-le k problem.constraints few

  rows_taken : (a k : ℕ) (constraints : List Constraint)
      → constraint_rows problem a (take k constraints)
      ≡ take k (constraint_rows problem a constraints)
  rows_taken a zero constraints = refl
  rows_taken a (suc k) [] = refl
  rows_taken a (suc k) (c ∷ constraints) =
      ap (λ (rows : List (List Entry)). constraint_row problem a c ∷ rows)
      (rows_taken (a + 1) k constraints)

  live_taken : (k : ℕ) → live (constraint_rows problem 0 (take k problem.constraints))
      ≤ live (constraint_rows problem 0 problem.constraints)
  live_taken k =
      subst (λ (rows : List (List Entry)). live rows
      ≤ live (constraint_rows problem 0 problem.constraints))
      (sym (rows_taken 0 k problem.constraints))
      (sum_by-take-le length (constraint_rows problem 0 problem.constraints) k)

  -- the row of one constraint
  module _ (k : ℕ) (constraint : Constraint) (small : k < length problem.constraints)
      (is : constraint ≡ slice_index_or problem.constraints k constraint) where
    pub constraint_is_row : IsProblem problem → IsRow (constraint_row problem k constraint)
    constraint_is_row valid =
        (constraint_part problem k constraint small
        (subst (IsConstraint (columns problem)) (sym is)
        (valid.constraints k constraint small))).is_row

    pub rows_pushed : constraint_rows problem 0 (take k problem.constraints)
        ++ constraint_row problem k constraint ∷ []
        ≡ constraint_rows problem 0 (take (k + 1) problem.constraints)
    rows_pushed =
        ap (λ (c : Constraint). constraint_rows problem 0 (take k problem.constraints)
        ++ constraint_row problem k c ∷ []) is
        ∙ sym (rows_more problem k constraint small)

    -- no room for it is none for all of them
    pub constraints_wide : (cells : ℕ) (rows : List (List Entry)) (row : List Entry)
        → rows ≡ constraint_rows problem 0 (take k problem.constraints)
        → row ≡ constraint_row problem k constraint → IsTrue (not (has_room cells rows row))
        → cells < live (constraint_rows problem 0 problem.constraints)
    constraints_wide cells rows row rows_is row_is full =
        let over = no_room cells rows row full in
        let more : live rows + length row
        ≡ live (constraint_rows problem 0 (take (k + 1) problem.constraints)) =
        sym (sum_by_push length rows row)
        ∙ ap₂ (λ (l : List (List Entry)) (r : List Entry). live (l ++ r ∷ [])) rows_is row_is
        ∙ ap live rows_pushed in
        let some = live_taken (k + 1) in
        omega (arith, over, more, some)

  -- the cost row, after all of them
  pub cost_is_row : IsProblem problem → IsRow (cost_row problem)
  cost_is_row valid = (cost_part problem valid).is_row

  pub all_count : length (constraint_rows problem 0 problem.constraints)
      ≡ length problem.constraints
  all_count = rows_count 0 problem.constraints

  pub first_count : length (first_tableau problem).rows ≡ length problem.constraints + 1
  first_count =
      length-append (constraint_rows problem 0 problem.constraints) (cost_row problem ∷ [])
      ∙ ap (λ n. n + 1) all_count

  pub costs_wide : (cells : ℕ) (rows : List (List Entry)) (row : List Entry)
      → rows ≡ constraint_rows problem 0 problem.constraints → row ≡ cost_row problem
      → IsTrue (not (has_room cells rows row)) → cells < live (first_tableau problem).rows
  costs_wide cells rows row rows_is row_is full =
      let over = no_room cells rows row full in
      let more : live rows + length row ≡ live (first_tableau problem).rows =
      sym (sum_by_push length rows row)
      ∙ ap₂ (λ (l : List (List Entry)) (r : List Entry). live (l ++ r ∷ [])) rows_is row_is in
      omega (arith, over, more)

-- each row stands for what it leaves of its limit, and it is said of the first so many rows whether
-- their right sides are negative
pub record IsSignedTo (problem : Problem) (rows : List (List Entry)) (done : ℕ) (basis : Basis)
    : Type 0 where
  pub index_of : basis.index_of.items
      ≡ range_with_len (columns problem) (length problem.constraints)
  pub count_is : length basis.row_of.items ≡ right_side problem
  pub row_of : (k : ℕ) → k < length problem.constraints
      → slice_index basis.row_of.items (columns problem + k) ≡ k
  pub bound : basis.negative.bound ≡ right_side problem
  pub signs : (k : ℕ) → k < done → has basis.negative (columns problem + k)
      ≡ int_lt (entry_at (row_at rows k) (right_side problem)) (pos 0)
  pub some : (index : ℕ) → has basis.negative index ≡ true
      → (columns problem ≤ index) × (index < columns problem + done)

module _ (problem : Problem) (rows : List (List Entry)) where
  pub signed_none : (basis : Basis)
      → basis.index_of.items ≡ range_with_len (columns problem) (length problem.constraints)
      → length basis.row_of.items ≡ right_side problem
      → ((k : ℕ) → k < length problem.constraints
      → slice_index basis.row_of.items (columns problem + k) ≡ k)
      → basis.negative.bound ≡ right_side problem
      → ((k : ℕ) → has basis.negative k ≡ false)
      → IsSignedTo problem rows 0 basis
  signed_none basis index_of count_is row_of bound none = record {
    index_of = index_of;
    count_is = count_is;
    row_of = row_of;
    bound = bound;
    signs = λ k below. absurd (omega (arith, below));
    some = λ index has_it. absurd (no_both has_it (none index));
  }

  index_is : (k : ℕ) → k < length problem.constraints
      → slice_index (range_with_len (columns problem) (length problem.constraints)) k
      ≡ columns problem + k
  index_is k small =
      get_or-range_with_len (columns problem) (length problem.constraints) k 0 small

  pub signed_more : (done : ℕ) (old new : Basis) → IsSignedTo problem rows done old
      → done < length problem.constraints
      → IsChanged (slice_index old.index_of.items done)
      (int_lt (entry_at (row_at rows done) (right_side problem)) (pos 0)) old.negative
      new.negative
      → new.index_of ≡ old.index_of → new.row_of ≡ old.row_of
      → IsSignedTo problem rows (done + 1) new
  signed_more done old new signed small change index_of row_of =
      let at : slice_index old.index_of.items done ≡ columns problem + done =
      ap (λ l. slice_index l done) signed.index_of ∙ index_is done small in
      record {
        index_of = ap (λ v. v.items) index_of ∙ signed.index_of;
        count_is = ap (λ v. length v.items) row_of ∙ signed.count_is;
        row_of = λ k below. ap (λ v. slice_index v.items (columns problem + k)) row_of
            ∙ signed.row_of k below;
        bound = change.bound ∙ signed.bound;
        signs = λ k below. elim (cases_eq k done)
            as (λ _. has new.negative (columns problem + k)
            ≡ int_lt (entry_at (row_at rows k) (right_side problem)) (pos 0)) [
              | inl same ↦ ap (λ n. has new.negative (columns problem + n)) same
                  ∙ ap (has new.negative) (sym at) ∙ change.here
                  ∙ ap (λ n. int_lt (entry_at (row_at rows n) (right_side problem)) (pos 0))
                  (sym same)
              | inr other ↦ change.others (columns problem + k)
                  (λ same. other (let e = same ∙ at in omega (arith, e)))
                  ∙ signed.signs k (omega (arith, below, other))
            ];
        some = λ index has_it. elim (cases_eq index (slice_index old.index_of.items done))
            as (λ _. (columns problem ≤ index) × (index < columns problem + (done + 1))) [
              | inl same ↦
                  let e = same ∙ at in (omega (arith, e), omega (arith, e))
              | inr other ↦
                  let known = signed.some index (sym (change.others index other) ∙ has_it) in
                  (known.0, let below = known.1 in omega (arith, below))
            ];
      }

  pub signed_all : (basis : Basis)
      → IsSignedTo problem rows (length problem.constraints) basis
      → AreFound problem (record { rows = rows; basis = basis.index_of.items })
      basis.row_of.items basis.negative
  signed_all basis signed = record {
    count_is = signed.count_is;
    bound = signed.bound;
    back = λ k small. ap (slice_index basis.row_of.items) (own k small) ∙ signed.row_of k small;
    signs = λ k small. ap (has basis.negative) (own k small) ∙ signed.signs k small;
    some = λ index has_it. known index (signed.some index has_it);
  }
    where
      own : (k : ℕ) → k < length problem.constraints
          → slice_index basis.index_of.items k ≡ columns problem + k
      own k small = ap (λ l. slice_index l k) signed.index_of ∙ index_is k small

      at : (index k : ℕ) → k < length problem.constraints → columns problem + k ≡ index
          → (slice_index basis.row_of.items index < length problem.constraints)
          × (slice_index basis.index_of.items (slice_index basis.row_of.items index) ≡ index)
      at index k small same =
          let back : slice_index basis.row_of.items index ≡ k =
          ap (slice_index basis.row_of.items) (sym same) ∙ signed.row_of k small in (
            subst (λ n. n < length problem.constraints) (sym back) small,
            ap (slice_index basis.index_of.items) back ∙ own k small ∙ same,
          )

      known : (index : ℕ)
          → (columns problem ≤ index) × (index < columns problem + length problem.constraints)
          → (slice_index basis.row_of.items index < length problem.constraints)
          × (slice_index basis.index_of.items (slice_index basis.row_of.items index) ≡ index)
      known index (low, below) =
          at index (index - columns problem) (omega (arith, low, below)) (omega (arith, low))

-- the indices that the rows stand for at first come before the right side
pub first_indices : (problem : Problem) (indices : List ℕ)
    → indices ≡ range_with_len (columns problem) (length problem.constraints)
    → All (λ index. index < right_side problem) indices
first_indices problem indices is =
    subst (All (λ index. index < right_side problem)) (sym is) within
  where
    within : All (λ index. index < right_side problem)
        (range_with_len (columns problem) (length problem.constraints))
    within k d small =
        let count = length-range_with_len (columns problem) (length problem.constraints) in
        let below : k < length problem.constraints = omega (arith, small, count) in
        let here = get_or-range_with_len (columns problem) (length problem.constraints) k d below in
        omega (arith, here, below)

-- what the first board is made of
pub first_is_board : (problem : Problem) (board : Board)
    → board.arena.rows ≡ (first_tableau problem).rows
    → board.basis.index_of.items
    ≡ range_with_len (columns problem) (length problem.constraints)
    → AreFound problem (record {
      rows = board.arena.rows;
      basis = board.basis.index_of.items;
    }) board.basis.row_of.items board.basis.negative
    → AreListed board.arena.rows (length problem.constraints) (right_side problem)
    board.lists.rows
    → board.arena.cells ≤ board.lists.room → board.lists.room ≤ vec_capacity board.todo
    → IsBoard problem board
first_is_board problem board rows index_of found listed room todo = record {
  rows = ap length rows ∙ first_count problem;
  basis = ap length index_of
      ∙ length-range_with_len (columns problem) (length problem.constraints);
  indices = first_indices problem board.basis.index_of.items index_of;
  found = found;
  listed = listed;
  room = room;
  todo = todo;
}
