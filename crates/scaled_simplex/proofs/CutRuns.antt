-- A run that ended Cut has reached its cutoff: its value, rounded up, is no less.
use Rattle.std.proofs.Common.{◌≡◌, ℕ, zero, suc, Bool, true, false, nat_lt, List, length, set, Option, None, Some, Result, Ok, Err, if◌then◌else◌, ℤ, pos, ◌-ℤ◌, ◌*ℤ◌, ◌<ℤ◌, refl}
use Rattle.row_arena.specs.declared.entry.Entry.{Entry}
use Rattle.row_arena.specs.declared.wide.Wide.{Wide}
use Rattle.row_arena.specs.Arena.{live, row_at}
use Rattle.scaled_simplex.specs.declared.end.End.TheVariants.{Cut, Infeasible, Limit, Optimal, Wide as TooWide}
use Rattle.scaled_simplex.specs.declared.iteration.Iteration.{Iteration}
use Rattle.scaled_simplex.specs.declared.iteration.Iteration.TheVariants.{Ends, Pivots}
use Rattle.scaled_simplex.specs.Program.{Problem}
use Rattle.scaled_simplex.specs.Run.{Outcome, cost_at, entering, is_cut, leaving, pivoted, run_ended, run_from, run_on, run_pivoted, simplex_run, iteration_entering, iteration_leaving, iteration_of, value_in, weight_in}
use Rattle.scaled_simplex.specs.Tableau.{Tableau, bare_row, first_tableau, right_side, weight_index}
use Rattle.row_arena.proofs.WholeLaws.{less_is}

abbrev pub HasReached : Problem → Option ℤ → Outcome → Type 0
HasReached problem None outcome = ⊥
HasReached problem (Some cutoff) outcome =
    ((cutoff -ℤ pos 1) *ℤ weight_in problem outcome) <ℤ value_in problem outcome

abbrev pub IsReachedWhereCut : Problem → Option ℤ → Outcome → Type 0
IsReachedWhereCut problem cutoff outcome = outcome.end ≡ Cut → HasReached problem cutoff outcome

module _ (problem : Problem) (cutoff : Option ℤ) where
  abbrev IsReachedAt : Tableau → Iteration → Type 0
  IsReachedAt tableau (Ends end row) =
      IsReachedWhereCut problem cutoff (record { end = end; row = row_at tableau.rows row })
  IsReachedAt tableau (Pivots leaves enters) = Unit {0}

  entering_reached : (tableau : Tableau) (leaves : ℕ) (o : Option ℕ)
      → IsReachedAt tableau (iteration_entering leaves o)
  entering_reached tableau leaves None = λ e. absurd (let other : Infeasible ≡ Cut = e in cc)
  entering_reached tableau leaves (Some enters) = tt

  leaving_reached : (tableau : Tableau) (o : Option ℕ)
      → IsReachedAt tableau (iteration_leaving problem tableau o)
  leaving_reached tableau None = λ e. absurd (let other : Optimal ≡ Cut = e in cc)
  leaving_reached tableau (Some leaves) =
      entering_reached tableau leaves (entering problem tableau (row_at tableau.rows leaves))

  cut_reached : (tableau : Tableau) (limit : Option ℤ) → is_cut problem limit tableau ≡ true
      → HasReached problem limit
      (record { end = Cut; row = row_at tableau.rows (length problem.constraints) })
  cut_reached tableau None is = absurd (let e : false ≡ true = is in cc)
  cut_reached tableau (Some limit) is =
      less_is ((limit -ℤ pos 1) *ℤ cost_at problem tableau (weight_index problem))
      (cost_at problem tableau (right_side problem)) is

  iteration_reached : (tableau : Tableau)
      → IsReachedAt tableau (iteration_of problem cutoff tableau)
  iteration_reached tableau = by (is_cut problem cutoff tableau) refl
    where
      by : (b : Bool) → is_cut problem cutoff tableau ≡ b
          → IsReachedAt tableau (if b then Ends Cut (length problem.constraints)
          else iteration_leaving problem tableau (leaving problem tableau))
      by true cut = λ _. cut_reached tableau cutoff cut
      by false uncut = leaving_reached tableau (leaving problem tableau)

  ended_reached : (cells : ℕ) (tableau : Tableau) (iteration : Iteration)
      → IsReachedAt tableau iteration
      → IsReachedWhereCut problem cutoff (run_ended problem cells cutoff tableau iteration)
  ended_reached cells tableau (Ends end row) reached = reached
  ended_reached cells tableau (Pivots leaves enters) reached =
      λ e. absurd (let other : Limit ≡ Cut = e in cc)

  module _ (cells : ℕ) (rest : Tableau → Outcome)
      (reached_after : (next : Tableau) → IsReachedWhereCut problem cutoff (rest next)) where
    pivoted_reached : (tableau : Tableau) (leaves enters : ℕ)
        (rows : Result (List (List Entry)) Wide)
        → IsReachedWhereCut problem cutoff
        (run_pivoted problem cells cutoff rest tableau leaves enters rows)
    pivoted_reached tableau leaves enters (Err wide) =
        λ e. absurd (let other : TooWide ≡ Cut = e in cc)
    pivoted_reached tableau leaves enters (Ok rows) =
        reached_after (record { rows = rows; basis = set tableau.basis leaves enters })

    on_reached : (tableau : Tableau) (iteration : Iteration) → IsReachedAt tableau iteration
        → IsReachedWhereCut problem cutoff (run_on problem cells cutoff rest tableau iteration)
    on_reached tableau (Ends end row) reached = reached
    on_reached tableau (Pivots leaves enters) reached =
        pivoted_reached tableau leaves enters (pivoted problem cells tableau leaves enters)

  from_reached : (cells pivots : ℕ) (tableau : Tableau)
      → IsReachedWhereCut problem cutoff (run_from problem cells cutoff pivots tableau)
  from_reached cells zero tableau =
      ended_reached cells tableau (iteration_of problem cutoff tableau) (iteration_reached tableau)
  from_reached cells (suc pivots) tableau =
      on_reached cells (λ next. run_from problem cells cutoff pivots next)
      (from_reached cells pivots) tableau (iteration_of problem cutoff tableau)
      (iteration_reached tableau)

  pub run_reached : (pivots cells : ℕ)
      → IsReachedWhereCut problem cutoff (simplex_run problem pivots cells cutoff)
  run_reached pivots cells = by (nat_lt cells (live (first_tableau problem).rows))
    where
      by : (b : Bool) → IsReachedWhereCut problem cutoff
          (if b then record { end = TooWide; row = bare_row problem }
          else run_from problem cells cutoff pivots (first_tableau problem))
      by true = λ e. absurd (let other : TooWide ≡ Cut = e in cc)
      by false = from_reached cells pivots (first_tableau problem)
