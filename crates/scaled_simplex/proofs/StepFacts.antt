-- What an iteration makes of a run.
use Rattle.std.proofs.Common.{◌≡◌, ℕ, zero, suc, ◌+◌, ◌-◌, ◌<◌, Bool, true, false, List, length, set, Option, None, Some, Ok, Err, if◌then◌else◌, ℤ, pos, ◌-ℤ◌, ◌*ℤ◌, refl, sym, ap, ◌∙◌, subst, arith}
use Rattle.row_arena.specs.declared.entry.Entry.{Entry}
use Rattle.row_arena.specs.declared.wide.Wide.{Wide}
use Rattle.row_arena.specs.Arena.{row_at}
use Rattle.scaled_simplex.specs.declared.board.Board.{Board}
use Rattle.scaled_simplex.specs.declared.end.End.{End}
use Rattle.scaled_simplex.specs.declared.end.End.TheVariants.{Cut, Infeasible, Limit, Optimal, Wide as TooWide}
use Rattle.scaled_simplex.specs.declared.iteration.Iteration.{Iteration}
use Rattle.scaled_simplex.specs.declared.iteration.Iteration.TheVariants.{Ends, Pivots}
use Rattle.scaled_simplex.specs.Board.{IsBasic}
use Rattle.scaled_simplex.specs.BoardOf.{IsBoard, IsChosen, tableau_of}
use Rattle.scaled_simplex.specs.Derived.{IsDerived}
use Rattle.scaled_simplex.specs.LastPoint.{IsBelow}
use Rattle.scaled_simplex.specs.Program.{Problem}
use Rattle.scaled_simplex.specs.Run.{cost_at, entering, is_cut, last_row, leaving, pivoted, run_ended, run_from, run_on, run_pivoted, iteration_entering, iteration_leaving, iteration_of}
use Rattle.scaled_simplex.specs.Steps.{IsOnward, IsTelling}
use Rattle.scaled_simplex.specs.Tableau.{Tableau, right_side, weight_index}
use Rattle.scaled_simplex.proofs.BasicRows.{pivot_basic}
use Rattle.scaled_simplex.proofs.Choices.{leaving_within}
use Rattle.scaled_simplex.proofs.DerivedRows.{pivot_derived}
use Rattle.row_arena.proofs.WholeLaws.{less_isnt}

module _ (problem : Problem) (tableau : Tableau) where
  -- what is known of an iteration: the telling row is one of the rows, and a pivot is at the row
  -- that leaves and the index that enters
  abbrev IsKnown : Iteration → Type 0
  IsKnown (Ends end row) = row < length problem.constraints + 1
  IsKnown (Pivots row index) = IsChosen problem tableau row index

  entering_known : (row : ℕ) → leaving problem tableau ≡ Some row → (o : Option ℕ)
      → entering problem tableau (row_at tableau.rows row) ≡ o → IsKnown (iteration_entering row o)
  entering_known row leaves None enters =
      let within = leaving_within problem tableau row leaves in omega (arith, within)
  entering_known row leaves (Some index) enters = record { leaves = leaves; enters = enters }

  leaving_known : (o : Option ℕ) → leaving problem tableau ≡ o
      → IsKnown (iteration_leaving problem tableau o)
  leaving_known None leaves = omega arith
  leaving_known (Some row) leaves =
      entering_known row leaves (entering problem tableau (row_at tableau.rows row)) refl

  iteration_known : (cutoff : Option ℤ) → IsKnown (iteration_of problem cutoff tableau)
  iteration_known cutoff = by (is_cut problem cutoff tableau)
    where
      by : (b : Bool) → IsKnown (if b then Ends Cut (length problem.constraints)
          else iteration_leaving problem tableau (leaving problem tableau))
      by true = omega arith
      by false = leaving_known (leaving problem tableau) refl

  pub chosen_told : (cutoff : Option ℤ) (row index : ℕ)
      → iteration_of problem cutoff tableau ≡ Pivots row index → IsChosen problem tableau row index
  chosen_told cutoff row index is = subst IsKnown is (iteration_known cutoff)

  pub row_told : (cutoff : Option ℤ) (end : End) (row : ℕ)
      → iteration_of problem cutoff tableau ≡ Ends end row → row < length problem.constraints + 1
  row_told cutoff end row is = subst IsKnown is (iteration_known cutoff)

-- the run by its iteration
module _ (problem : Problem) (cells : ℕ) (cutoff : Option ℤ) (tableau : Tableau) where
  run_ends : (left : ℕ) (end : End) (row : ℕ) → iteration_of problem cutoff tableau ≡ Ends end row
      → run_from problem cells cutoff left tableau
      ≡ record { end = end; row = row_at tableau.rows row }
  run_ends zero end row is = ap (run_ended problem cells cutoff tableau) is
  run_ends (suc left) end row is =
      ap (run_on problem cells cutoff (λ next. run_from problem cells cutoff left next) tableau) is

  run_stops : (row index : ℕ) → iteration_of problem cutoff tableau ≡ Pivots row index
      → run_from problem cells cutoff 0 tableau
      ≡ record { end = Limit; row = last_row problem tableau }
  run_stops row index is = ap (run_ended problem cells cutoff tableau) is

  run_pivots : (left row index : ℕ) → iteration_of problem cutoff tableau ≡ Pivots row index
      → 0 < left → run_from problem cells cutoff left tableau
      ≡ run_pivoted problem cells cutoff
      (λ next. run_from problem cells cutoff (left - 1) next) tableau row index
      (pivoted problem cells tableau row index)
  run_pivots zero row index is some = absurd (omega (arith, some))
  run_pivots (suc left) row index is some =
      ap (run_on problem cells cutoff (λ next. run_from problem cells cutoff left next) tableau) is
      ∙ ap (λ n. run_pivoted problem cells cutoff
      (λ next. run_from problem cells cutoff n next) tableau row index
      (pivoted problem cells tableau row index)) (less left)
    where
      less : (n : ℕ) → n ≡ suc n - 1
      less n = omega arith

-- where an iteration ends the run with Optimal, no right side is negative, the cost row tells, and
-- the value is below the cutoff
record IsOptimal (problem : Problem) (cutoff : Option ℤ) (tableau : Tableau) (row : ℕ)
    : Type 0 where
  none : leaving problem tableau ≡ None
  costs : row ≡ length problem.constraints
  uncut : is_cut problem cutoff tableau ≡ false

module _ (problem : Problem) (cutoff : Option ℤ) (tableau : Tableau) where
  abbrev IsSoAt : Iteration → Type 0
  IsSoAt (Ends end row) = end ≡ Optimal → IsOptimal problem cutoff tableau row
  IsSoAt (Pivots row index) = Unit {0}

  entering_so : (row : ℕ) (o : Option ℕ) → IsSoAt (iteration_entering row o)
  entering_so row None = λ e. absurd (let other : Infeasible ≡ Optimal = e in cc)
  entering_so row (Some index) = tt

  leaving_so : is_cut problem cutoff tableau ≡ false → (o : Option ℕ) → leaving problem tableau ≡ o
      → IsSoAt (iteration_leaving problem tableau o)
  leaving_so uncut None none = λ _. record { none = none; costs = refl; uncut = uncut }
  leaving_so uncut (Some row) leaves =
      entering_so row (entering problem tableau (row_at tableau.rows row))

  iteration_so : IsSoAt (iteration_of problem cutoff tableau)
  iteration_so = by (is_cut problem cutoff tableau) refl
    where
      by : (b : Bool) → is_cut problem cutoff tableau ≡ b
          → IsSoAt (if b then Ends Cut (length problem.constraints)
          else iteration_leaving problem tableau (leaving problem tableau))
      by true cut = λ e. absurd (let other : Cut ≡ Optimal = e in cc)
      by false uncut = leaving_so uncut (leaving problem tableau) refl

  is_optimal : (end : End) (row : ℕ) → iteration_of problem cutoff tableau ≡ Ends end row
      → end ≡ Optimal → IsOptimal problem cutoff tableau row
  is_optimal end row is = subst IsSoAt is iteration_so

  -- and so is what the run tells
  uncut_below : (end : End) → is_cut problem cutoff tableau ≡ false
      → IsBelow problem cutoff (record { end = end; row = last_row problem tableau })
  uncut_below end uncut = by cutoff uncut
    where
      by : (limit : Option ℤ) → is_cut problem limit tableau ≡ false
          → IsBelow problem limit (record { end = end; row = last_row problem tableau })
      by None isnt = tt
      by (Some limit) isnt =
          less_isnt ((limit -ℤ pos 1) *ℤ cost_at problem tableau (weight_index problem))
          (cost_at problem tableau (right_side problem)) isnt

module _ (problem : Problem) (cutoff : Option ℤ) (left : ℕ) (old : Board)
    (is : IsBoard problem old) where
  -- the run ends here
  pub ended_told : IsBasic problem (tableau_of old)
      → IsDerived problem old.arena.cells (tableau_of old)
      → (end : End) (row : ℕ)
      → iteration_of problem cutoff (tableau_of old) ≡ Ends end row
      → IsTelling problem old.arena.cells cutoff left (tableau_of old) old
      (record { end = end; row = row })
  ended_told basic derived end row iteration = record {
    outcome = sym (run_ends problem old.arena.cells cutoff (tableau_of old) left end row iteration);
    within = let below = row_told problem (tableau_of old) cutoff end row iteration in
        let count = is.rows in omega (arith, below, count);
    last = λ optimal.
        let so = is_optimal problem cutoff (tableau_of old) end row iteration optimal in (
          record { board_is = is; basic = basic; derived = derived; none = so.none },
          so.costs,
        );
    below = λ optimal.
        let so = is_optimal problem cutoff (tableau_of old) end row iteration optimal in
        subst (λ n. IsBelow problem cutoff (record { end = end; row = row_at old.arena.rows n }))
        (sym so.costs) (uncut_below problem cutoff (tableau_of old) end so.uncut);
  }

  module _ (new : Board) (row index : ℕ)
      (iteration : iteration_of problem cutoff (tableau_of old) ≡ Pivots row index)
      (some : 0 < left) where
    -- there is no room for the pivot
    pub wide_told : (wide : Wide)
        → pivoted problem old.arena.cells (tableau_of old) row index ≡ Err wide
        → length new.arena.rows ≡ length old.arena.rows
        → row_at new.arena.rows (length problem.constraints)
        ≡ row_at old.arena.rows (length problem.constraints)
        → IsTelling problem old.arena.cells cutoff left (tableau_of old) new
        (record { end = TooWide; row = length problem.constraints })
    wide_told wide full count costs = record {
      outcome = ap (λ (r : List Entry). record { end = TooWide; row = r }) costs
          ∙ sym (run_pivots problem old.arena.cells cutoff (tableau_of old) left row index iteration
          some
          ∙ ap (run_pivoted problem old.arena.cells cutoff
          (λ next. run_from problem old.arena.cells cutoff (left - 1) next) (tableau_of old) row
          index) full);
      within = let rows = is.rows in omega (arith, count, rows);
      last = λ e. absurd (let other : TooWide ≡ Optimal = e in cc);
      below = λ e. absurd (let other : TooWide ≡ Optimal = e in cc);
    }

    -- the run goes on
    pub onward_told : IsBasic problem (tableau_of old)
        → IsDerived problem old.arena.cells (tableau_of old)
        → pivoted problem old.arena.cells (tableau_of old) row index ≡ Ok new.arena.rows
        → new.basis.index_of.items ≡ set old.basis.index_of.items row index
        → IsBoard problem new → new.arena.cells ≡ old.arena.cells
        → IsOnward problem cutoff left old new
    onward_told basic derived done basis board cells =
        let chosen = chosen_told problem (tableau_of old) cutoff row index iteration in
        let after : record { rows = new.arena.rows; basis = set old.basis.index_of.items row index }
        ≡ tableau_of new = ap (λ b. record { rows = new.arena.rows; basis = b }) (sym basis) in
        record {
          some = some;
          same = run_pivots problem old.arena.cells cutoff (tableau_of old) left row index iteration
              some
              ∙ ap (run_pivoted problem old.arena.cells cutoff
              (λ next. run_from problem old.arena.cells cutoff (left - 1) next) (tableau_of old)
              row index) done
              ∙ ap (run_from problem old.arena.cells cutoff (left - 1)) after;
          board = board;
          basic = subst (IsBasic problem) after
              (pivot_basic problem (tableau_of old) is.rows is.basis basic row index
              old.arena.cells new.arena.rows chosen.leaves chosen.enters done);
          derived = subst (λ n. IsDerived problem n (tableau_of new)) (sym cells)
              (subst (IsDerived problem old.arena.cells) after
              (pivot_derived problem (tableau_of old) is.rows row index old.arena.cells derived
              new.arena.rows chosen.leaves chosen.enters done));
          cells = cells;
        }
