-- The run: which index leaves and which enters, how the rows change, when it ends, and what the end
-- tells. It is the dual simplex in whole numbers: each row is as often itself as it needs, so that
-- nothing is ever rounded.
use Rattle.std.specs.Prelude.{ℕ, zero, suc, ◌+◌, ◌==◌, Bool, false, true, not, ◌&&◌, ◌||◌, nat_lt, List, length, set, slice_index, Option, None, Some, Result, Ok, Err, if◌then◌else◌, ℤ, pos, neg_ℤ, ◌-ℤ◌, ◌*ℤ◌, int_lt}
use Rattle.std.specs.Ordering.{int_eq}
use Rattle.row_arena.specs.declared.entry.Entry.{Entry}
use Rattle.row_arena.specs.declared.wide.Wide.{Wide}
use Rattle.row_arena.specs.Arena.{combined, live, row_at}
use Rattle.row_arena.specs.Rows.{entry_at, negated}
use Rattle.scaled_simplex.specs.declared.end.End.{End}
use Rattle.scaled_simplex.specs.declared.end.End.TheVariants.{Cut, Infeasible, Limit, Optimal, Wide as TooWide}
use Rattle.scaled_simplex.specs.declared.iteration.Iteration.{Iteration}
use Rattle.scaled_simplex.specs.declared.iteration.Iteration.TheVariants.{Ends, Pivots}
use Rattle.scaled_simplex.specs.Program.{Problem, columns}
use Rattle.scaled_simplex.specs.Search.{first_best}
use Rattle.scaled_simplex.specs.Tableau.{Tableau, bare_row, first_tableau, right_side, weight_index}

-- how a run ended, and the row that tells the multipliers: the cost row, or after Infeasible the
-- row that no column can repair
pub record Outcome : Type 0 where
  pub end : End
  pub row : List Entry

abbrev pub is_infeasible : End → Bool
is_infeasible Optimal = false
is_infeasible Cut = false
is_infeasible Infeasible = true
is_infeasible Limit = false
is_infeasible TooWide = false

-- what comes next: the run ends, and which row tells why; or a row leaves and an index enters
abbrev pub iteration_entering : ℕ → Option ℕ → Iteration
iteration_entering leaves None = Ends Infeasible leaves
iteration_entering leaves (Some enters) = Pivots leaves enters

module _ (problem : Problem) where
  abbrev pub last_row : Tableau → List Entry
  last_row tableau = row_at tableau.rows (length problem.constraints)

  abbrev pub cost_at : Tableau → ℕ → ℤ
  cost_at tableau index = entry_at (last_row tableau) index

  abbrev pub right_at : Tableau → ℕ → ℤ
  right_at tableau k = entry_at (row_at tableau.rows k) (right_side problem)

  -- the value, rounded up, is at least the cutoff
  abbrev pub is_cut : Option ℤ → Tableau → Bool
  is_cut None tableau = false
  is_cut (Some cutoff) tableau =
      int_lt ((cutoff -ℤ pos 1) *ℤ cost_at tableau (weight_index problem))
      (cost_at tableau (right_side problem))

  -- of the rows with a negative right side, the one that stands for the least index leaves
  abbrev pub leaving : Tableau → Option ℕ
  leaving tableau =
      first_best (λ k. int_lt (right_at tableau k) (pos 0))
      (λ a b. nat_lt (slice_index tableau.basis a) (slice_index tableau.basis b))
      (length problem.constraints)

  -- one ratio of the cost to the entry is less than the other
  abbrev pub is_less_ratio : Tableau → List Entry → ℕ → ℕ → Bool
  is_less_ratio tableau row a b =
      int_lt (neg_ℤ (cost_at tableau a) *ℤ neg_ℤ (entry_at row b))
      (neg_ℤ (cost_at tableau b) *ℤ neg_ℤ (entry_at row a))

  -- of the indices at which the leaving row is negative, the first of the least ratio enters
  abbrev pub entering : Tableau → List Entry → Option ℕ
  entering tableau row =
      first_best (λ index. int_lt (entry_at row index) (pos 0)) (is_less_ratio tableau row)
      (right_side problem)

  -- each other row that has an entry at the index is cleared there by the pivot row, and last the
  -- cost row, also where it has none
  abbrev pub is_swept : List (List Entry) → ℕ → ℕ → ℕ → Bool
  is_swept rows pivot index k =
      not (k == pivot) && ((k == length problem.constraints)
      || not (int_eq (entry_at (row_at rows k) index) (pos 0)))

  module _ (cells pivot index : ℕ) where
    abbrev pub swept_at : List (List Entry) → ℕ → Result (List (List Entry)) Wide
    swept_at rows k =
        if is_swept rows pivot index k then combined cells rows k pivot index else Ok rows

    abbrev pub swept_after : (ℕ → List (List Entry) → Result (List (List Entry)) Wide) → ℕ
        → Result (List (List Entry)) Wide → Result (List (List Entry)) Wide
    swept_after rest next (Err wide) = Err wide
    swept_after rest next (Ok rows) = rest next rows

    -- so many rows from one on
    abbrev pub swept : ℕ → ℕ → List (List Entry) → Result (List (List Entry)) Wide
    swept k zero rows = Ok rows
    swept k (suc count) rows =
        swept_after (λ next changed. swept next count changed) (k + 1) (swept_at rows k)

  -- the leaving row, turned round, becomes that of the entering index
  abbrev pub pivoted : ℕ → Tableau → ℕ → ℕ → Result (List (List Entry)) Wide
  pivoted cells tableau leaves enters =
      swept cells leaves enters 0 (length problem.constraints + 1)
      (set tableau.rows leaves (negated (row_at tableau.rows leaves)))

  abbrev pub iteration_leaving : Tableau → Option ℕ → Iteration
  iteration_leaving tableau None = Ends Optimal (length problem.constraints)
  iteration_leaving tableau (Some leaves) =
      iteration_entering leaves (entering tableau (row_at tableau.rows leaves))

  abbrev pub iteration_of : Option ℤ → Tableau → Iteration
  iteration_of cutoff tableau =
      if is_cut cutoff tableau then Ends Cut (length problem.constraints)
      else iteration_leaving tableau (leaving tableau)

  abbrev pub ended : End → Tableau → Outcome
  ended end tableau = record { end = end; row = last_row tableau }

  module _ (cells : ℕ) (cutoff : Option ℤ) where
    -- where no pivot is left
    abbrev pub run_ended : Tableau → Iteration → Outcome
    run_ended tableau (Ends end row) = record { end = end; row = row_at tableau.rows row }
    run_ended tableau (Pivots leaves enters) = ended Limit tableau

    abbrev pub run_pivoted : (Tableau → Outcome) → Tableau → ℕ → ℕ
        → Result (List (List Entry)) Wide → Outcome
    run_pivoted rest tableau leaves enters (Err wide) = ended TooWide tableau
    run_pivoted rest tableau leaves enters (Ok rows) =
        rest (record { rows = rows; basis = set tableau.basis leaves enters })

    abbrev pub run_on : (Tableau → Outcome) → Tableau → Iteration → Outcome
    run_on rest tableau (Ends end row) = run_ended tableau (Ends end row)
    run_on rest tableau (Pivots leaves enters) =
        run_pivoted rest tableau leaves enters (pivoted cells tableau leaves enters)

    -- iteration by iteration, with so many pivots left
    abbrev pub run_from : ℕ → Tableau → Outcome
    run_from zero tableau = run_ended tableau (iteration_of cutoff tableau)
    run_from (suc pivots) tableau =
        run_on (λ next. run_from pivots next) tableau (iteration_of cutoff tableau)

  -- the run, with so many pivots at the most, and so many entries
  abbrev pub simplex_run : ℕ → ℕ → Option ℤ → Outcome
  simplex_run pivots cells cutoff =
      let first = first_tableau problem in
      if nat_lt cells (live first.rows) then record { end = TooWide; row = bare_row problem }
      else run_from cells cutoff pivots first

  -- the multiplier of a constraint, the weight of the cost, and what the two are worth
  abbrev pub multiplier_in : Outcome → ℕ → ℤ
  multiplier_in outcome k =
      let entry = entry_at outcome.row (columns problem + k) in
      if is_infeasible outcome.end then entry else neg_ℤ entry

  abbrev pub weight_in : Outcome → ℤ
  weight_in outcome = entry_at outcome.row (weight_index problem)

  abbrev pub value_in : Outcome → ℤ
  value_in outcome = entry_at outcome.row (right_side problem)
