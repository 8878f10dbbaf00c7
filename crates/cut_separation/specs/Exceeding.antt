-- The whole cuts that a point exceeds.
use Rattle.std.specs.Prelude.{◌≡◌, ℕ, ◌≤◌, Bool, take, List, ◌++◌, length, ℤ, ◌*ℤ◌, int_lt}
use Rattle.std.specs.List.{filter}
use Rattle.exact_sums.specs.Sums.{total}
use Rattle.flow_types.specs.declared.parts.Parts.{Parts}
use Rattle.time_windows.specs.Boxes.{Box}
use Rattle.bytime_model.specs.declared.variables.Term.{Term}
use Rattle.bytime_model.specs.declared.variables.Var.{Var}
use Rattle.bytime_model.specs.Rows.{AtMost}
use Rattle.cut_rows.specs.declared.names.CutName.{CutName}
use Rattle.cut_rows.specs.Cuts.{cut_row}
use Rattle.cut_separation.specs.declared.point.FreePoint.{FreePoint}
use Rattle.cut_separation.specs.Points.{fraction_in}
use Rattle.cut_separation.specs.Whole.{whole_cuts}

-- the sum of terms, where variables have these numerators
abbrev pub form_at : (Var → ℤ) → List Term → ℤ
form_at value terms = total (λ term. term.factor *ℤ value term.variable) terms

-- the row's sum is above its limit
abbrev pub is_exceeded : (Var → ℤ) → ℤ → AtMost → Bool
is_exceeded value denominator row = int_lt (row.limit *ℤ denominator) (form_at value row.terms)

abbrev pub exceeds : Parts → Box → FreePoint → CutName → Bool
exceeds parts box point cut =
    is_exceeded (fraction_in parts box point) point.denominator (cut_row parts cut)

-- how many cuts are taken at the most
abbrev pub most_cuts : ℕ
most_cuts = 10000

-- the first of the whole cuts that the point exceeds
abbrev pub exceeded_cuts : Parts → Box → FreePoint → List CutName
exceeded_cuts parts box point = take most_cuts (filter (exceeds parts box point) (whole_cuts parts))

-- Of more cuts those that pass the test, as long as there are no more than so many. No public
-- clause cites this.
pub record AddsFirst (most : ℕ) (test : CutName → Bool) (more old new : List CutName)
    : Type 0 where
  pub few : length new ≤ most
  pub first : new ≡ take most (old ++ filter test more)
