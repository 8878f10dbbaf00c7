-- Prices that are moved one after another.
use Rattle.std.specs.Prelude.{◌≡◌, ◌≤◌, ◌<◌, ℕ, ◌+◌, ◌^◌, Bool, ◌&&◌, nat_eq, nat_lt, if◌then◌else◌}
use Rattle.flow_types.specs.declared.bound.PriceKey.{PriceKey}
use Rattle.flow_types.specs.declared.bound.PriceKind.{PriceKind}
use Rattle.flow_types.specs.declared.parts.Parts.{Parts}
use Rattle.flight_routes.specs.Prices.{ArePricesOf, PriceTable, key_in, kind_number, price_at, row_count}
use Rattle.priced_plans.specs.Keys.{IsKeyFor}
use Rattle.priced_plans.specs.Usage.{Traffic, used_at}

-- those of a row before a period; those of the first rows; those of first kinds
abbrev pub is_in_row : ℕ → ℕ → ℕ → PriceKey → Bool
is_in_row kind row period key =
    nat_eq (kind_number key.kind) kind && (nat_eq (key.row) row && nat_lt (key.period) period)

abbrev pub is_in_rows : ℕ → ℕ → PriceKey → Bool
is_in_rows kind row key = nat_eq (kind_number key.kind) kind && nat_lt (key.row) row

abbrev pub is_in_kinds : ℕ → PriceKey → Bool
is_in_kinds kind key = nat_lt (kind_number key.kind) kind

-- by how much a price may rise in a round
abbrev pub most_rise : ℕ
most_rise = 2 ^ 42

-- prices that are moved where a test holds, and are as before elsewhere
pub record AreMoved (parts : Parts) (move : PriceKey → ℕ → ℕ) (test : PriceKey → Bool)
    (old new : PriceTable) : Type 0 where
  pub size : ArePricesOf parts new
  pub each : (key : PriceKey) → IsKeyFor parts key
      → price_at new key ≡ (if test key then move key (price_at old key) else price_at old key)
  pub rise : (key : PriceKey) → IsKeyFor parts key
      → price_at new key ≤ price_at old key + most_rise

-- the prices of a row have room to rise, and those of all rows of a kind
abbrev pub HasRoomIn : Parts → PriceKind → PriceTable → ℕ → Type 0
HasRoomIn parts kind table row =
    (period : ℕ) → period < parts.day.periods → price_at table (key_in kind row period) < 2 ^ 61

abbrev pub HaveRoom : Parts → PriceKind → PriceTable → Type 0
HaveRoom parts kind table =
    (row : ℕ) → row < row_count parts kind → HasRoomIn parts kind table row

-- no flight uses a row, and its prices are 0
abbrev pub IsIdle : Parts → Traffic → PriceKind → PriceTable → ℕ → Type 0
IsIdle parts traffic kind table row =
    (period : ℕ) → period < parts.day.periods
    → (price_at table (key_in kind row period) ≡ 0)
    × (used_at parts traffic kind row period ≡ 0)
