-- What a Dual leaf comes to: so many times the cost, and so many times what each row is above its
-- limit. A plan that keeps every rule is above no limit, so as many times its cost is no less.
use Rattle.std.specs.Prelude.{◌≡◌, ℕ, ◌<◌, ◌≤◌, true, false, List, Some, slice_get, Result, Ok, Err, ℤ, pos, ◌*ℤ◌, ◌+ℤ◌, ◌-ℤ◌}
use Rattle.exact_sums.specs.Leasts.{IsLeast}
use Rattle.exact_sums.specs.Sums.{total}
use Rattle.flow_types.specs.declared.flight.Flight.{Flight}
use Rattle.flow_types.specs.declared.parts.Parts.{Parts}
use Rattle.time_windows.specs.Boxes.{Box}
use Rattle.bytime_model.specs.declared.variables.Var.{Var}
use Rattle.bytime_model.specs.CostRow.{cost_row, priced_value}
use Rattle.bytime_model.specs.Left.{Agrees, left_of}
use Rattle.bytime_model.specs.Rows.{AtMost}
use Rattle.bytime_model.specs.Values.{form_value}
use Rattle.bytime_model.specs.declared.multiplier.Multiplier.{Multiplier}
use Rattle.cut_rows.specs.declared.names.CutName.{CutName}
use Rattle.cut_rows.specs.Pools.{is_row_with, row_with}

-- how far a row is above its limit, where variables have these values
abbrev pub excess : (Var → ℕ) → AtMost → ℤ
excess value row = form_value value row.terms -ℤ row.limit

-- how far each row is above its limit, so many times, added up
abbrev pub excesses : Parts → List CutName → List Multiplier → (Var → ℕ) → ℤ
excesses parts pool rows value =
    total (λ multiplier. pos multiplier.value *ℤ excess value (row_with parts pool multiplier.row))
    rows

abbrev pub dual_at : Parts → List CutName → ℕ → List Multiplier → (Var → ℕ) → ℤ
dual_at parts pool weight rows value =
    pos weight *ℤ priced_value value (cost_row parts) +ℤ excesses parts pool rows value

-- each variable is 0 or 1, and as the box leaves it
pub record IsChoice (flights : List Flight) (box : Box) (value : Var → ℕ) : Type 0 where
  pub bits : (variable : Var) → value variable ≤ 1
  pub agree : (variable : Var) → Agrees value variable (left_of flights box variable)

-- the least of it over all such values
abbrev pub IsDualValue : Parts → List CutName → Box → ℕ → List Multiplier → ℤ → Type 0
IsDualValue parts pool box weight rows least =
    IsLeast (IsChoice parts.flights box) (dual_at parts pool weight rows) (Some least)

-- each of these rows is there
abbrev pub AreKnown : Parts → List CutName → List Multiplier → Type 0
AreKnown parts pool rows = (k : ℕ) (multiplier : Multiplier) → slice_get rows k ≡ Some multiplier
    → is_row_with parts pool multiplier.row ≡ true

-- the first that isn't
pub record IsFirstUnknown (parts : Parts) (pool : List CutName) (rows : List Multiplier)
    (position : ℕ) : Type 0 where
  pub multiplier : Multiplier
  pub here : slice_get rows position ≡ Some multiplier
  pub unknown : is_row_with parts pool multiplier.row ≡ false
  pub known_before : (k : ℕ) (other : Multiplier) → k < position
      → slice_get rows k ≡ Some other → is_row_with parts pool other.row ≡ true

-- the value of rows that are all there, or the first that isn't
abbrev pub IsValued : Parts → List CutName → Box → ℕ → List Multiplier → Result ℤ ℕ → Type 0
IsValued parts pool box weight rows (Ok value) =
    AreKnown parts pool rows × IsDualValue parts pool box weight rows value
IsValued parts pool box weight rows (Err position) = IsFirstUnknown parts pool rows position
