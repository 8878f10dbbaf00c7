-- What solves the rows after a pivot solves those before it, and so those of the first tableau.
use Rattle.std.proofs.Common.{◌≡◌, ℕ, suc, ◌+◌, ◌<◌, List, length, set, None, Some, Ok, refl, pos, neg_ℤ, ◌*ℤ◌, ◌<ℤ◌, sym, ap, ◌∙◌, subst, arith}
use Rattle.row_arena.specs.declared.entry.Entry.{Entry}
use Rattle.row_arena.specs.Arena.{row_at}
use Rattle.row_arena.specs.Combining.{cleared}
use Rattle.row_arena.specs.Rows.{entry_at, negated}
use Rattle.scaled_simplex.specs.Derived.{AreSolved, IsDerived, row_with}
use Rattle.scaled_simplex.specs.declared.iteration.Iteration.TheVariants.{Pivots}
use Rattle.scaled_simplex.specs.LastTableau.{tableau_next, tableau_pivoted, tableau_iterated}
use Rattle.scaled_simplex.specs.Program.{IsProblem, Problem}
use Rattle.scaled_simplex.specs.Run.{entering, leaving, pivoted, iteration_entering, iteration_leaving, iteration_of}
use Rattle.scaled_simplex.specs.Tableau.{Tableau, first_tableau, weight_index}
use Rattle.scaled_simplex.proofs.Choices.{entering_positive, leaving_within}
use Rattle.scaled_simplex.proofs.ClearedRows.{cleared_zero}
use Rattle.scaled_simplex.proofs.EntryLaws.{cleared_by, entry_negated}
use Rattle.scaled_simplex.proofs.FirstTableau.{first_lawful}
use Rattle.row_arena.proofs.WholeLaws.{linear, times_zero, zero_back}
use Rattle.scaled_simplex.proofs.RowValues.{with_cleared, with_negated}
use Rattle.scaled_simplex.proofs.Sweeps.{IsPivoted, pivoted_each, pivoted_is}

-- a row that was turned round, and one that was cleared
negated_back : (row values : List Entry) → row_with values (negated row) ≡ pos 0
    → row_with values row ≡ pos 0
negated_back row values is =
    let turned = with_negated row values in omega (arith, linear, turned, is)

cleared_back : (column : ℕ) (target pivot values : List Entry) → pos 0 <ℤ entry_at pivot column
    → row_with values (cleared column target pivot) ≡ pos 0 → row_with values pivot ≡ pos 0
    → row_with values target ≡ pos 0
cleared_back column target pivot values above is by_pivot =
    let whole = with_cleared column target pivot values in
    let one = ap (λ n. pos (cleared_by column target pivot) *ℤ n) is in
    let two = ap (λ n. entry_at target column *ℤ n) by_pivot in
    let three = times_zero (pos (cleared_by column target pivot)) in
    let four = times_zero (entry_at target column) in
    zero_back (entry_at pivot column) (row_with values target) above
    (omega (arith, linear, whole, one, two, three, four))

module _ (problem : Problem) (tableau : Tableau)
    (rows_count : length tableau.rows ≡ length problem.constraints + 1)
    (leaves enters cells : ℕ) (derived : IsDerived problem cells tableau) (rows : List (List Entry))
    (leaving_is : leaving problem tableau ≡ Some leaves)
    (entering_is : entering problem tableau (row_at tableau.rows leaves) ≡ Some enters)
    (done : pivoted problem cells tableau leaves enters ≡ Ok rows) where
  abbrev turned : List Entry
  turned = negated (row_at tableau.rows leaves)

  within : leaves < length problem.constraints
  within = leaving_within problem tableau leaves leaving_is

  swept : IsPivoted problem tableau.rows rows leaves enters
  swept = pivoted_is problem leaves enters cells tableau rows rows_count within done

  solved_before : (values : List Entry) → AreSolved problem rows values
      → AreSolved problem tableau.rows values
  solved_before values solved = record { each = before }
    where
      of_turned : row_with values turned ≡ pos 0
      of_turned =
          subst (λ (r : List Entry). row_with values r ≡ pos 0) swept.pivots
          (solved.each leaves (let small = within in omega (arith, small)))

      before : (k : ℕ) → k < length problem.constraints + 1
          → row_with values (row_at tableau.rows k) ≡ pos 0
      before k small =
          pivoted_each problem tableau.rows rows leaves enters swept
          (λ (r : List Entry). row_with values r ≡ pos 0
          → row_with values (row_at tableau.rows k) ≡ pos 0) k small
          (λ at is. subst (λ n. row_with values (row_at tableau.rows n) ≡ pos 0) (sym at)
          (negated_back (row_at tableau.rows leaves) values is))
          (λ _ is. cleared_back enters (row_at tableau.rows k) turned values
          (entering_positive problem tableau (row_at tableau.rows leaves) enters entering_is) is
          of_turned)
          (λ _ _ is. is)
          (solved.each k small)

  turned_weightless : entry_at turned (weight_index problem) ≡ pos 0
  turned_weightless =
      entry_negated (row_at tableau.rows leaves) (weight_index problem)
      ∙ ap neg_ℤ (derived.weightless leaves within)

  weightless_after : (k : ℕ) → k < length problem.constraints
      → entry_at (row_at rows k) (weight_index problem) ≡ pos 0
  weightless_after k small =
      pivoted_each problem tableau.rows rows leaves enters swept
      (λ (r : List Entry). entry_at r (weight_index problem) ≡ pos 0) k (omega (arith, small))
      (λ _. turned_weightless)
      (λ _. cleared_zero enters (row_at tableau.rows k) turned (weight_index problem)
      (derived.weightless k small) turned_weightless)
      (λ _ _. derived.weightless k small)

  iteration_is : iteration_of problem None tableau ≡ Pivots leaves enters
  iteration_is = ap (iteration_leaving problem tableau) leaving_is
      ∙ ap (iteration_entering leaves) entering_is

  -- a pivot keeps it so
  pub pivot_derived : IsDerived problem cells
      (record { rows = rows; basis = set tableau.basis leaves enters })
  pivot_derived = record {
    reached = record {
      pivots = suc derived.reached.pivots;
      is = ap (tableau_next problem cells) derived.reached.is
          ∙ ap (tableau_iterated problem cells tableau) iteration_is
          ∙ ap (tableau_pivoted problem cells tableau leaves enters) done;
    };
    weightless = weightless_after;
    back = λ values solved. derived.back values (solved_before values solved);
  }

pub first_derived : (problem : Problem) (cells : ℕ) → IsProblem problem
    → IsDerived problem cells (first_tableau problem)
first_derived problem cells valid = record {
  reached = record { pivots = 0; is = refl };
  weightless = (first_lawful problem valid).weightless;
  back = λ values solved. solved;
}
