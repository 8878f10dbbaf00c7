-- Trips that use nothing more often than it may be used. No public clause cites these.
use Rattle.std.specs.Prelude.{◌≡◌, ℕ, ◌<◌, ◌≤◌, true}
use Rattle.flow_types.specs.declared.bound.PriceKind.{PriceKind}
use Rattle.flow_types.specs.declared.parts.Parts.{Parts}
use Rattle.flight_routes.specs.Prices.{row_count}
use Rattle.priced_plans.specs.Keys.{row_has_limit}
use Rattle.priced_plans.specs.Usage.{Traffic, limit_at, used_at}

-- what a price may be put on, in a row and period
abbrev pub IsWithin : Parts → Traffic → PriceKind → ℕ → ℕ → Type 0
IsWithin parts traffic kind row period =
    row_has_limit parts kind row ≡ true
    → used_at parts traffic kind row period ≤ limit_at parts traffic kind row period

-- in each period, in each row, of each kind
abbrev pub IsRowWithin : Parts → Traffic → PriceKind → ℕ → Type 0
IsRowWithin parts traffic kind row =
    (period : ℕ) → period < parts.day.periods → IsWithin parts traffic kind row period

abbrev pub IsKindWithin : Parts → Traffic → PriceKind → Type 0
IsKindWithin parts traffic kind =
    (row : ℕ) → row < row_count parts kind → IsRowWithin parts traffic kind row

abbrev pub AreWithin : Parts → Traffic → Type 0
AreWithin parts traffic = (kind : PriceKind) → IsKindWithin parts traffic kind
