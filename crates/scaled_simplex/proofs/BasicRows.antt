-- Each constraint's row alone has an entry at the index that it stands for, and one above 0. So no
-- two rows stand for one index.
use Rattle.std.proofs.Common.{◌≡◌, ◌≢◌, ◌⊎◌, inl, inr, ℕ, ◌+◌, ◌<◌, List, length, set, slice_index, Some, Ok, pos, neg_ℤ, ◌<ℤ◌, sym, ap, ◌∙◌, arith}
use Rattle.std.proofs.lemmas.List.{get_or-set_same, get_or-set_other}
use Rattle.std.proofs.lemmas.List.FromFn.{get_or-range_with_len}
use Rattle.row_arena.specs.declared.entry.Entry.{Entry}
use Rattle.row_arena.specs.Arena.{row_at}
use Rattle.row_arena.specs.Rows.{entry_at, negated}
use Rattle.scaled_simplex.specs.Board.{IsBasic}
use Rattle.scaled_simplex.specs.Program.{IsProblem, Problem, columns}
use Rattle.scaled_simplex.specs.Run.{entering, leaving, pivoted}
use Rattle.scaled_simplex.specs.Tableau.{Tableau, first_tableau}
use Rattle.scaled_simplex.proofs.Choices.{entering_positive, leaving_within}
use Rattle.scaled_simplex.proofs.ClearedRows.{cleared_above, cleared_there, cleared_zero}
use Rattle.scaled_simplex.proofs.ConstraintRows.{at_others, at_slack}
use Rattle.scaled_simplex.proofs.EntryLaws.{entry_negated}
use Rattle.scaled_simplex.proofs.FirstTableau.{cost_slack, last_is, row_is, there, valid_at}
use Rattle.row_arena.proofs.WholeLaws.{linear}
use Rattle.scaled_simplex.proofs.Sweeps.{IsPivoted, pivoted_each, pivoted_is}

pub basic_distinct : (problem : Problem) (tableau : Tableau) (j k : ℕ)
    → IsBasic problem tableau → j < length problem.constraints → k < length problem.constraints
    → k ≢ j → slice_index tableau.basis k ≢ slice_index tableau.basis j
basic_distinct problem tableau j k basic small_j small_k other same =
    let some = basic.own k small_k in
    let none = ap (entry_at (row_at tableau.rows k)) same
    ∙ basic.apart j k small_j (omega (arith, small_k)) other in
    omega (arith, linear, some, none)

either : (j l : ℕ) → (j ≡ l) ⊎ (j ≢ l)
either j l = grind arith

module _ (problem : Problem) (tableau : Tableau)
    (rows_count : length tableau.rows ≡ length problem.constraints + 1)
    (basis_count : length tableau.basis ≡ length problem.constraints)
    (basic : IsBasic problem tableau) (leaves enters cells : ℕ) (rows : List (List Entry))
    (leaving_is : leaving problem tableau ≡ Some leaves)
    (entering_is : entering problem tableau (row_at tableau.rows leaves) ≡ Some enters)
    (done : pivoted problem cells tableau leaves enters ≡ Ok rows) where
  abbrev turned : List Entry
  turned = negated (row_at tableau.rows leaves)

  abbrev after : List ℕ
  after = set tableau.basis leaves enters

  within : leaves < length problem.constraints
  within = leaving_within problem tableau leaves leaving_is

  swept : IsPivoted problem tableau.rows rows leaves enters
  swept = pivoted_is problem leaves enters cells tableau rows rows_count within done

  there_now : slice_index after leaves ≡ enters
  there_now = get_or-set_same tableau.basis leaves enters 0
      (let same = basis_count in let small = within in omega (arith, same, small))

  others_now : (j : ℕ) → j ≢ leaves → slice_index after j ≡ slice_index tableau.basis j
  others_now j other = get_or-set_other tableau.basis leaves j enters 0 other

  turned_none : (j : ℕ) → j < length problem.constraints → j ≢ leaves
      → entry_at turned (slice_index tableau.basis j) ≡ pos 0
  turned_none j small other =
      entry_negated (row_at tableau.rows leaves) (slice_index tableau.basis j)
      ∙ ap neg_ℤ (basic.apart j leaves small
      (let inside = within in omega (arith, inside)) (λ e. other (sym e)))

  own_after : (j : ℕ) → j < length problem.constraints
      → pos 0 <ℤ entry_at (row_at rows j) (slice_index after j)
  own_after j small = by (either j leaves)
    where
      by : (j ≡ leaves) ⊎ (j ≢ leaves)
          → pos 0 <ℤ entry_at (row_at rows j) (slice_index after j)
      by (inl at) =
          rw (at, there_now, swept.pivots)
          (entering_positive problem tableau (row_at tableau.rows leaves) enters entering_is)
      by (inr other) =
          rw (others_now j other)
          (pivoted_each problem tableau.rows rows leaves enters swept
          (λ (r : List Entry). pos 0 <ℤ entry_at r (slice_index tableau.basis j)) j
          (omega (arith, small)) (λ at. absurd (other at))
          (λ _. cleared_above enters (row_at tableau.rows j) turned (slice_index tableau.basis j)
          (entering_positive problem tableau (row_at tableau.rows leaves) enters entering_is)
          (basic.own j small) (turned_none j small other))
          (λ _ _. basic.own j small))

  apart_after : (j k : ℕ) → j < length problem.constraints
      → k < length problem.constraints + 1 → k ≢ j
      → entry_at (row_at rows k) (slice_index after j) ≡ pos 0
  apart_after j k small_j small_k apart = by (either j leaves)
    where
      by : (j ≡ leaves) ⊎ (j ≢ leaves) → entry_at (row_at rows k) (slice_index after j) ≡ pos 0
      by (inl at) =
          ap (entry_at (row_at rows k)) (ap (slice_index after) at ∙ there_now)
          ∙ pivoted_each problem tableau.rows rows leaves enters swept
          (λ (r : List Entry). entry_at r enters ≡ pos 0) k small_k
          (λ here. absurd (apart (here ∙ sym at)))
          (λ _. cleared_there enters (row_at tableau.rows k) turned)
          (λ _ none. none)
      by (inr other) =
          ap (entry_at (row_at rows k)) (others_now j other)
          ∙ pivoted_each problem tableau.rows rows leaves enters swept
          (λ (r : List Entry). entry_at r (slice_index tableau.basis j) ≡ pos 0) k small_k
          (λ _. turned_none j small_j other)
          (λ _. cleared_zero enters (row_at tableau.rows k) turned (slice_index tableau.basis j)
          (basic.apart j k small_j small_k apart) (turned_none j small_j other))
          (λ _ _. basic.apart j k small_j small_k apart)

  -- a pivot keeps it so
  pub pivot_basic : IsBasic problem
      (record { rows = rows; basis = set tableau.basis leaves enters })
  pivot_basic = record { own = own_after; apart = apart_after }

-- and the first tableau is so
module _ (problem : Problem) (valid : IsProblem problem) where
  first_index : (j : ℕ) → j < length problem.constraints
      → slice_index (first_tableau problem).basis j ≡ columns problem + j
  first_index j small =
      get_or-range_with_len (columns problem) (length problem.constraints) j 0 small

  first_own : (j : ℕ) → j < length problem.constraints
      → pos 0 <ℤ entry_at (row_at (first_tableau problem).rows j)
      (slice_index (first_tableau problem).basis j)
  first_own j small =
      let found = there problem j small in
      let one = ap (entry_at (row_at (first_tableau problem).rows j)) (first_index j small)
      ∙ ap (λ (r : List Entry). entry_at r (columns problem + j))
      (row_is problem j small found.0 found.1)
      ∙ at_slack problem j found.0 small (valid_at problem j small valid found.0 found.1) in
      omega (arith, linear, one)

  last_or : (k m : ℕ) → k < m + 1 → (k < m) ⊎ (k ≡ m)
  last_or k m small = grind arith

  first_apart : (j k : ℕ) → j < length problem.constraints
      → k < length problem.constraints + 1 → k ≢ j
      → entry_at (row_at (first_tableau problem).rows k)
      (slice_index (first_tableau problem).basis j) ≡ pos 0
  first_apart j k small_j small_k other =
      ap (entry_at (row_at (first_tableau problem).rows k)) (first_index j small_j)
      ∙ by (last_or k (length problem.constraints) small_k)
    where
      by : (k < length problem.constraints) ⊎ (k ≡ length problem.constraints)
          → entry_at (row_at (first_tableau problem).rows k) (columns problem + j) ≡ pos 0
      by (inl small) =
          let found = there problem k small in
          ap (λ (r : List Entry). entry_at r (columns problem + j))
          (row_is problem k small found.0 found.1)
          ∙ at_others problem k found.0 small (valid_at problem k small valid found.0 found.1)
          (columns problem + j) (omega arith) (omega (arith, small_j))
          (λ e. other (omega (arith, e)))
      by (inr last) =
          ap (λ (n : ℕ). entry_at (row_at (first_tableau problem).rows n) (columns problem + j))
          last
          ∙ ap (λ (r : List Entry). entry_at r (columns problem + j)) (last_is problem)
          ∙ cost_slack problem (columns problem + j) (omega arith) (omega (arith, small_j))

  pub first_basic : IsBasic problem (first_tableau problem)
  first_basic = record { own = first_own; apart = first_apart }
