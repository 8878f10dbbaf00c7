-- How sums grow by a form: something over the values of variables.
use Rattle.std.specs.Prelude.{◌≡◌, ℕ, ◌+◌, ◌≤◌, List, ◌++◌, length, Option, ℤ, ◌+ℤ◌}
use Rattle.flow_types.specs.declared.flight.Flight.{Flight}
use Rattle.flow_types.specs.declared.parts.Parts.{Parts}
use Rattle.bytime_model.specs.declared.variables.Term.{Term}
use Rattle.bytime_model.specs.declared.variables.Var.{Var}
use Rattle.bytime_model.specs.CostRow.{late_step_at, late_variable, most_late_at, most_wait_at, steps, wait_step_at, wait_variable}
use Rattle.bytime_model.specs.Landing.{choice_in}
use Rattle.cut_rows.specs.declared.relaxation.Relaxation.{Relaxation}
use Rattle.cut_rows.specs.Relaxations.{parts_under}
use Rattle.dual_sums.specs.Sums.{Summed, mass, sum_at}

-- The sums grow by a form: so they do whatever is said of the positions. Their numbers grow by no
-- more than a size.
pub record Grows (at : (ℕ → ℕ) → Var → ℕ) (form : (Var → ℕ) → ℤ) (size : ℕ) (old new : Summed)
    : Type 0 where
  pub sum : (bit : ℕ → ℕ) → sum_at bit new ≡ sum_at bit old +ℤ form (at bit)
  pub mass : mass new ≤ mass old + size
  pub same : length new.factors ≡ length old.factors

-- the terms of the cost row for a flight that may not be there: those of being late, those of
-- waiting, and both
abbrev pub late_terms_at : Parts → ℕ → Option Flight → List Term
late_terms_at parts number found =
    steps (late_step_at parts.tables found) (late_variable number found)
    (most_late_at parts.day.periods found)

abbrev pub wait_terms_at : Parts → ℕ → Option Flight → List Term
wait_terms_at parts number found =
    steps (wait_step_at parts.tables found) (wait_variable number found)
    (most_wait_at parts.day.periods found)

abbrev pub terms_at : Parts → ℕ → Option Flight → List Term
terms_at parts number found = late_terms_at parts number found ++ wait_terms_at parts number found

-- the values of variables in the box of a relaxation, by what is said of the positions
abbrev pub choice_under : Relaxation → (ℕ → ℕ) → Var → ℕ
choice_under relaxation =
    choice_in (parts_under relaxation) relaxation.table.now.columns relaxation.problem.boxes.now
