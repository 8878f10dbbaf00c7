-- Prices that are listed by their rows, in the order of kinds, then of places and connections, then
-- of periods. No public clause cites these.
use Rattle.std.specs.Prelude.{◌≡◌, ℕ, ◌+◌, ◌*◌, ◌^◌, ◌<◌, ◌≤◌, Bool, true, ◌&&◌, ◌||◌, nat_eq, nat_lt, if◌then◌else◌, List, All, length}
use Rattle.flow_types.specs.declared.bound.PriceKey.{PriceKey}
use Rattle.flow_types.specs.declared.parts.Parts.{Parts}
use Rattle.flight_routes.specs.Prices.{PriceTable, kind_number, price_at}
use Rattle.priced_plans.specs.Keys.{IsKeyFor}
use Rattle.bytime_model.specs.declared.multiplier.Multiplier.{Multiplier}
use Rattle.dual_leaf.specs.Lag.{ArePriceable, set_by}
use Rattle.dual_leaf.specs.PriceRows.{name_of}
use Rattle.bytime_model.specs.Multipliers.{AreAscending, ArePositive}

-- the key comes before this kind, row and period
abbrev pub is_listed : ℕ → ℕ → ℕ → PriceKey → Bool
is_listed kind row period key =
    nat_lt (kind_number key.kind) kind
    || (nat_eq (kind_number key.kind) kind && (nat_lt key.row row
    || (nat_eq key.row row && nat_lt key.period period)))

-- the multiplier is of a price that comes before
pub record IsNamedBelow (parts : Parts) (kind row period : ℕ) (multiplier : Multiplier)
    : Type 0 where
  pub key : PriceKey
  pub there : IsKeyFor parts key
  pub is : multiplier.row ≡ name_of key
  pub listed : is_listed kind row period key ≡ true

-- no fewer than come before
abbrev pub most_listed : ℕ → ℕ → ℕ → ℕ
most_listed kind row period = kind * 2 ^ 29 + (row * 2 ^ 9 + period)

-- the multipliers are the prices that come before and aren't 0, in their order
pub record IsListed (parts : Parts) (table : PriceTable) (kind row period : ℕ)
    (rows : List Multiplier) : Type 0 where
  pub priceable : ArePriceable parts rows
  pub each : (key : PriceKey) → IsKeyFor parts key → set_by rows key 0
      ≡ (if is_listed kind row period key then price_at table key else 0)
  pub positive : ArePositive rows
  pub ascending : AreAscending rows
  pub named : All (IsNamedBelow parts kind row period) rows
  pub small : All (λ multiplier. multiplier.value < 2 ^ 62) rows
  pub few : length rows ≤ most_listed kind row period
