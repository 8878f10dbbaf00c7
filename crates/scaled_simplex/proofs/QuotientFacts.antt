-- Which row stands for a column, and the value of a column: its bottom is above 0, and its top 0 or
-- more.
use Rattle.std.proofs.Common.{◌≡◌, ◌≢◌, ◌⊎◌, inl, inr, ℕ, zero, suc, ◌<◌, ◌==◌, ◌≤◌, Bool, List, get_or, length, slice_index, Option, None, Some, if◌then◌else◌, pos, ◌≤ℤ◌, ◌<ℤ◌, refl, sym, ap, ◌∙◌, subst, arith}
use Rattle.std.proofs.lemmas.Bool.Decides.{eqb_tells}
use Rattle.std.proofs.lemmas.List.{get_or_read}
use Rattle.row_arena.specs.Arena.{row_at}
use Rattle.row_arena.specs.Rows.{entry_at}
use Rattle.number_set.specs.Numbers.{Numbers}
use Rattle.scaled_simplex.specs.declared.board.Board.{Board}
use Rattle.scaled_simplex.specs.Board.{AreFound, IsBasic}
use Rattle.scaled_simplex.specs.BoardOf.{IsBoard, tableau_of}
use Rattle.scaled_simplex.specs.Fractions.{bottom_at, bottom_in, row_for, row_of_column, top_at, top_in}
use Rattle.scaled_simplex.specs.Program.{Problem, columns}
use Rattle.scaled_simplex.specs.Run.{leaving}
use Rattle.scaled_simplex.specs.Tableau.{Tableau}
use Rattle.scaled_simplex.proofs.Choices.{none_leaves}
use Rattle.scaled_simplex.proofs.EntryLaws.{Tells}
use Rattle.row_arena.proofs.WholeLaws.{linear}

module _ (basis : List ℕ) (index : ℕ) where
  abbrev IsRow : ℕ → Option ℕ → Type 0
  IsRow count None = (j : ℕ) → j < count → slice_index basis j ≢ index
  IsRow count (Some k) = (k < count) × (slice_index basis k ≡ index)

  more : (count : ℕ) → slice_index basis count ≢ index → (o : Option ℕ) → IsRow count o
      → IsRow (suc count) o
  more count other None none = λ j small. by j (last_or j count small)
    where
      last_or : (j n : ℕ) → j < suc n → (j < n) ⊎ (j ≡ n)
      last_or j n small = grind arith

      by : (j : ℕ) → (j < count) ⊎ (j ≡ count) → slice_index basis j ≢ index
      by j (inl before) = none j before
      by j (inr at) = λ e. other (ap (slice_index basis) (sym at) ∙ e)
  more count other (Some k) is = (let small = is.0 in omega (arith, small), is.1)

  -- the row that is found stands for the index, and where none is found none does
  pub row_is : (count : ℕ) → IsRow count (row_for basis index count)
  row_is zero = λ j small. absurd (omega (arith, small))
  row_is (suc k) = by (eqb_tells (slice_index basis k) index) (row_is k)
    where
      by : Tells (slice_index basis k) index → IsRow k (row_for basis index k)
          → IsRow (suc k) (if slice_index basis k == index then Some k else row_for basis index k)
      by (inl is) rest =
          subst (λ (b : Bool). IsRow (suc k) (if b then Some k else row_for basis index k))
          (sym is.0) (omega arith, is.1)
      by (inr isnt) rest =
          subst (λ (b : Bool). IsRow (suc k) (if b then Some k else row_for basis index k))
          (sym isnt.0) (more k isnt.1 (row_for basis index k) rest)

  pub row_some : (count k : ℕ) → row_for basis index count ≡ Some k
      → (k < count) × (slice_index basis k ≡ index)
  row_some count k is = subst (IsRow count) is (row_is count)

  pub row_none : (count : ℕ) → row_for basis index count ≡ None
      → (j : ℕ) → j < count → slice_index basis j ≢ index
  row_none count is = subst (IsRow count) is (row_is count)

module _ (problem : Problem) (tableau : Tableau) (row_of : List ℕ) (negative : Numbers)
    (found : AreFound problem tableau row_of negative) (column : ℕ) where
  abbrev row : ℕ
  row = slice_index row_of column

  -- whichever row is found is that of the list
  same_row : (o : Option ℕ) → row_of_column problem tableau column ≡ o
      → (row < length problem.constraints → slice_index tableau.basis row ≡ column
      → Some row ≡ row_of_column problem tableau column)
  same_row None none small stands =
      absurd (row_none tableau.basis column (length problem.constraints) none row small stands)
  same_row (Some k) some small stands =
      let is = row_some tableau.basis column (length problem.constraints) k some in
      let same : k ≡ row = sym (found.back k is.0) ∙ ap (slice_index row_of) is.1 in
      ap Some (sym same) ∙ sym some

  pub row_found : row < length problem.constraints → slice_index tableau.basis row ≡ column
      → Some row ≡ row_of_column problem tableau column
  row_found = same_row (row_of_column problem tableau column) refl

  pub row_lost : (row < length problem.constraints → slice_index tableau.basis row ≢ column)
      → None ≡ row_of_column problem tableau column
  row_lost other = by (row_of_column problem tableau column) refl
    where
      by : (o : Option ℕ) → row_of_column problem tableau column ≡ o → None ≡ o
      by None none = refl
      by (Some k) some =
          let is = row_some tableau.basis column (length problem.constraints) k some in
          let same : k ≡ row = sym (found.back k is.0) ∙ ap (slice_index row_of) is.1 in
          absurd (other (subst (λ n. n < length problem.constraints) same is.0)
          (subst (λ n. slice_index tableau.basis n ≡ column) same is.1))

module _ (problem : Problem) (tableau : Tableau) (column : ℕ) where
  pub bottom_above : IsBasic problem tableau → pos 0 <ℤ bottom_at problem tableau column
  bottom_above basic =
      by (row_of_column problem tableau column)
      (row_is tableau.basis column (length problem.constraints))
    where
      by : (o : Option ℕ) → IsRow tableau.basis column (length problem.constraints) o
          → pos 0 <ℤ bottom_in problem tableau column o
      by None none = omega (arith, linear)
      by (Some k) is =
          subst (λ n. pos 0 <ℤ entry_at (row_at tableau.rows k) n) is.1 (basic.own k is.0)

  pub top_low : leaving problem tableau ≡ None → pos 0 ≤ℤ top_at problem tableau column
  top_low none =
      by (row_of_column problem tableau column)
      (row_is tableau.basis column (length problem.constraints))
    where
      by : (o : Option ℕ) → IsRow tableau.basis column (length problem.constraints) o
          → pos 0 ≤ℤ top_in problem tableau o
      by None no_row = omega (arith, linear)
      by (Some k) is = none_leaves problem tableau none k is.0

-- The row that a board's list has for a column.
module _ (problem : Problem) (board : Board) (is : IsBoard problem board) (column : ℕ)
    (within : column < columns problem) (row : ℕ)
    (read : row ≡ get_or board.basis.row_of.items column row) where
  here : row ≡ slice_index board.basis.row_of.items column
  here =
      get_or_read board.basis.row_of.items column row
      (let count = is.found.count_is in omega (arith, count, within)) read 0

  at_row : row < length problem.constraints → (index : ℕ)
      → index ≡ get_or board.basis.index_of.items row index
      → index ≡ slice_index board.basis.index_of.items row
  at_row small index read_index =
      get_or_read board.basis.index_of.items row index
      (let count = is.basis in omega (arith, count, small)) read_index 0

  pub there_found : row < length problem.constraints → (index : ℕ)
      → index ≡ get_or board.basis.index_of.items row index → index ≡ column
      → Some row ≡ row_of_column problem (tableau_of board) column
  there_found small index read_index same =
      ap Some here
      ∙ row_found problem (tableau_of board) board.basis.row_of.items board.basis.negative is.found
      column (subst (λ n. n < length problem.constraints) here small)
      (ap (slice_index board.basis.index_of.items) (sym here)
      ∙ sym (at_row small index read_index) ∙ same)

  lost : (row < length problem.constraints
      → slice_index board.basis.index_of.items row ≢ column)
      → None ≡ row_of_column problem (tableau_of board) column
  lost other =
      row_lost problem (tableau_of board) board.basis.row_of.items board.basis.negative is.found
      column
      (subst (λ n. n < length problem.constraints
      → slice_index board.basis.index_of.items n ≢ column) here other)

  pub there_past : length problem.constraints ≤ row
      → None ≡ row_of_column problem (tableau_of board) column
  there_past past = lost (λ small. absurd (omega (arith, past, small)))

  pub there_lost : row < length problem.constraints → (index : ℕ)
      → index ≡ get_or board.basis.index_of.items row index → index ≢ column
      → None ≡ row_of_column problem (tableau_of board) column
  there_lost small index read_index other =
      lost (λ _ same. other (at_row small index read_index ∙ same))

-- What the row that stands for a column has there.
pub row_above : (problem : Problem) (tableau : Tableau) (row column : ℕ) → IsBasic problem tableau
    → Some row ≡ row_of_column problem tableau column
    → (row < length problem.constraints) × (pos 0 <ℤ entry_at (row_at tableau.rows row) column)
row_above problem tableau row column basic is =
    let some = row_some tableau.basis column (length problem.constraints) row (sym is) in (
      some.0,
      subst (λ n. pos 0 <ℤ entry_at (row_at tableau.rows row) n) some.1
          (basic.own row some.0),
    )
