-- The law of the run: however it ends, its row tells what holds of all values of the columns.
use Rattle.std.proofs.Common.{◌≡◌, ℕ, zero, suc, ◌+◌, Bool, true, false, nat_lt, List, length, set, slice_index_or, Option, None, Some, Result, Ok, Err, if◌then◌else◌, ℤ, pos, neg_ℤ, ◌*ℤ◌, refl, sym, ap, ◌∙◌, subst, arith}
use Rattle.row_arena.specs.declared.entry.Entry.{Entry}
use Rattle.row_arena.specs.declared.wide.Wide.{Wide}
use Rattle.row_arena.specs.Arena.{live, row_at}
use Rattle.row_arena.specs.Rows.{entry_at}
use Rattle.scaled_simplex.specs.declared.end.End.{End}
use Rattle.scaled_simplex.specs.declared.end.End.TheVariants.{Cut, Infeasible, Limit, Optimal, Wide as TooWide}
use Rattle.scaled_simplex.specs.declared.iteration.Iteration.{Iteration}
use Rattle.scaled_simplex.specs.declared.iteration.Iteration.TheVariants.{Ends, Pivots}
use Rattle.scaled_simplex.specs.Multipliers.{AreBound, IsJustified}
use Rattle.scaled_simplex.specs.Program.{IsProblem, Problem, columns}
use Rattle.scaled_simplex.specs.Run.{Outcome, entering, is_cut, is_infeasible, last_row, leaving, pivoted, run_ended, run_from, run_on, run_pivoted, simplex_run, iteration_entering, iteration_leaving, iteration_of}
use Rattle.scaled_simplex.specs.Tableau.{Tableau, bare_row, first_tableau}
use Rattle.scaled_simplex.proofs.Choices.{leaving_negative, leaving_within, none_enters}
use Rattle.scaled_simplex.proofs.ConstraintRows.{over_none}
use Rattle.scaled_simplex.proofs.FirstTableau.{bare_below, bare_right, bare_weight, first_lawful}
use Rattle.scaled_simplex.proofs.Lawful.{IsLawful, pivot_lawful}
use Rattle.row_arena.proofs.WholeLaws.{linear, one_times}
use Rattle.scaled_simplex.proofs.Tellings.{row_bounds, row_refutes}

only_bound : (problem : Problem) (outcome : Outcome) → is_infeasible outcome.end ≡ false
    → AreBound problem outcome → IsJustified problem outcome
only_bound problem outcome isnt bound = record {
  bound = λ _. bound;
  refutation = λ is. absurd (let e : false ≡ true = sym isnt ∙ is in cc);
}

module _ (problem : Problem) where
  -- the cost row of a lawful tableau tells a bound, at any end but Infeasible
  pub cost_row_tells : (tableau : Tableau) (end : End) → IsLawful problem tableau
      → is_infeasible end ≡ false
      → IsJustified problem (record { end = end; row = last_row problem tableau })
  cost_row_tells tableau end lawful isnt =
      let made = lawful.made (length problem.constraints) (omega arith) in
      only_bound problem (record { end = end; row = last_row problem tableau }) isnt
      (row_bounds problem end (last_row problem tableau) isnt lawful.weight
      (λ k small. lawful.costs (columns problem + k) (omega (arith, small)))
      (λ column within.
      let none = made.columns_left column within in
      let low = lawful.costs column (omega (arith, within)) in
      omega (arith, linear, none, low))
      made.limits_left)

  -- the row that leaves, where no index can enter, tells that there is nothing
  pub unrepaired_tells : (tableau : Tableau) (leaves : ℕ) → IsLawful problem tableau
      → leaving problem tableau ≡ Some leaves
      → entering problem tableau (row_at tableau.rows leaves) ≡ None
      → IsJustified problem (record { end = Infeasible; row = row_at tableau.rows leaves })
  unrepaired_tells tableau leaves lawful leaving_is none_is =
      let within = leaving_within problem tableau leaves leaving_is in
      record {
        bound = λ isnt. absurd (let e : true ≡ false = isnt in cc);
        refutation = λ is.
            row_refutes problem Infeasible (row_at tableau.rows leaves) is
            (lawful.weightless leaves within)
            (λ k small. none_enters problem tableau (row_at tableau.rows leaves) k none_is small)
            (leaving_negative problem tableau leaves leaving_is)
            (lawful.made leaves (omega (arith, within)));
      }

  -- what an iteration rests on: the row with which it ends tells, or its row leaves and its index
  -- enters
  abbrev pub IsIteration : Tableau → Iteration → Type 0
  IsIteration tableau (Ends end row) =
      IsJustified problem (record { end = end; row = row_at tableau.rows row })
  IsIteration tableau (Pivots leaves enters) =
      (leaving problem tableau ≡ Some leaves)
      × (entering problem tableau (row_at tableau.rows leaves) ≡ Some enters)

  module _ (tableau : Tableau) (lawful : IsLawful problem tableau) where
    entering_iteration : (leaves : ℕ) → leaving problem tableau ≡ Some leaves → (o : Option ℕ)
        → entering problem tableau (row_at tableau.rows leaves) ≡ o
        → IsIteration tableau (iteration_entering leaves o)
    entering_iteration leaves leaving_is None none_is =
        unrepaired_tells tableau leaves lawful leaving_is none_is
    entering_iteration leaves leaving_is (Some enters) entering_is = (leaving_is, entering_is)

    leaving_iteration : (o : Option ℕ) → leaving problem tableau ≡ o
        → IsIteration tableau (iteration_leaving problem tableau o)
    leaving_iteration None none_is = cost_row_tells tableau Optimal lawful refl
    leaving_iteration (Some leaves) leaving_is =
        entering_iteration leaves leaving_is (entering problem tableau (row_at tableau.rows leaves))
        refl

    pub iteration_is : (cutoff : Option ℤ)
        → IsIteration tableau (iteration_of problem cutoff tableau)
    iteration_is cutoff = by (is_cut problem cutoff tableau)
      where
        by : (b : Bool) → IsIteration tableau (if b then Ends Cut (length problem.constraints)
            else iteration_leaving problem tableau (leaving problem tableau))
        by true = cost_row_tells tableau Cut lawful refl
        by false = leaving_iteration (leaving problem tableau) refl

    -- where an iteration pivots, its two numbers are the leaving row and the entering index
    pub iteration_pivots : (cutoff : Option ℤ) (leaves enters : ℕ)
        → iteration_of problem cutoff tableau ≡ Pivots leaves enters
        → (leaving problem tableau ≡ Some leaves)
        × (entering problem tableau (row_at tableau.rows leaves) ≡ Some enters)
    iteration_pivots cutoff leaves enters is = subst (IsIteration tableau) is (iteration_is cutoff)

  module _ (cells : ℕ) (cutoff : Option ℤ) where
    ended_tells : (tableau : Tableau) → IsLawful problem tableau → (iteration : Iteration)
        → IsIteration tableau iteration
        → IsJustified problem (run_ended problem cells cutoff tableau iteration)
    ended_tells tableau lawful (Ends end row) is = is
    ended_tells tableau lawful (Pivots leaves enters) is =
        cost_row_tells tableau Limit lawful refl

    module _ (rest : Tableau → Outcome)
        (more : (next : Tableau) → IsLawful problem next → IsJustified problem (rest next))
        (tableau : Tableau) (lawful : IsLawful problem tableau) where
      pivoted_tells : (leaves enters : ℕ) → leaving problem tableau ≡ Some leaves
          → entering problem tableau (row_at tableau.rows leaves) ≡ Some enters
          → (r : Result (List (List Entry)) Wide)
          → pivoted problem cells tableau leaves enters ≡ r
          → IsJustified problem (run_pivoted problem cells cutoff rest tableau leaves enters r)
      pivoted_tells leaves enters leaving_is entering_is (Err wide) is =
          cost_row_tells tableau TooWide lawful refl
      pivoted_tells leaves enters leaving_is entering_is (Ok rows) is =
          more (record { rows = rows; basis = set tableau.basis leaves enters })
          (pivot_lawful problem tableau lawful leaves enters cells rows leaving_is entering_is is)

      on_tells : (iteration : Iteration) → IsIteration tableau iteration
          → IsJustified problem (run_on problem cells cutoff rest tableau iteration)
      on_tells (Ends end row) is = is
      on_tells (Pivots leaves enters) is =
          pivoted_tells leaves enters is.0 is.1 (pivoted problem cells tableau leaves enters) refl

    -- from any lawful tableau on
    pub run_from_tells : (pivots : ℕ) (tableau : Tableau) → IsLawful problem tableau
        → IsJustified problem (run_from problem cells cutoff pivots tableau)
    run_from_tells zero tableau lawful =
        ended_tells tableau lawful (iteration_of problem cutoff tableau)
        (iteration_is tableau lawful cutoff)
    run_from_tells (suc pivots) tableau lawful =
        on_tells (λ next. run_from problem cells cutoff pivots next)
        (λ next kept. run_from_tells pivots next kept) tableau lawful
        (iteration_of problem cutoff tableau) (iteration_is tableau lawful cutoff)

  -- where the first tableau has no room, all columns at 0 tell a bound
  pub bare_tells : IsProblem problem
      → IsJustified problem (record { end = TooWide; row = bare_row problem })
  bare_tells valid =
      only_bound problem (record { end = TooWide; row = bare_row problem }) refl
      (row_bounds problem TooWide (bare_row problem) refl
      (let one = bare_weight problem in omega (arith, linear, one))
      (λ k small.
      let none = bare_below problem (columns problem + k) (omega (arith, small)) in
      omega (arith, linear, none))
      (λ column within.
      let none = bare_below problem column (omega (arith, within)) in
      let over = over_none (λ constraint. entry_at constraint.terms column)
      (entry_at (bare_row problem)) (columns problem) problem.constraints
      (λ k since below. bare_below problem k below) in
      let cost = slice_index_or problem.costs column (pos 0) in
      let paid = ap (λ n. n *ℤ cost) (bare_weight problem) in
      let once = one_times cost in
      let low = (valid.costs column (pos 0) within).low in
      omega (arith, linear, none, over, paid, once, low))
      (let over = over_none (λ constraint. constraint.limit) (entry_at (bare_row problem))
      (columns problem) problem.constraints (λ k since below. bare_below problem k below) in
      let own = bare_right problem in
      let paid = ap (λ n. n *ℤ neg_ℤ problem.constant) (bare_weight problem) in
      let once = one_times (neg_ℤ problem.constant) in
      omega (arith, linear, over, own, paid, once)))

pub run_tells : (problem : Problem) → IsProblem problem → (pivots cells : ℕ) (cutoff : Option ℤ)
    → IsJustified problem (simplex_run problem pivots cells cutoff)
run_tells problem valid pivots cells cutoff =
    by (nat_lt cells (live (first_tableau problem).rows))
  where
    by : (b : Bool)
        → IsJustified problem (if b then record { end = TooWide; row = bare_row problem }
        else run_from problem cells cutoff pivots (first_tableau problem))
    by true = bare_tells problem valid
    by false =
        run_from_tells problem cells cutoff pivots (first_tableau problem)
        (first_lawful problem valid)
