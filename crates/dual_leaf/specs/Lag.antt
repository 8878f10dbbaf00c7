-- What a Lag leaf comes to: its multipliers are prices on the capacities and connections that their
-- rows are of. The value of prices, and that it is a bound, are those of `priced_plans`.
use Rattle.std.specs.Prelude.{◌≡◌, ℕ, ◌<◌, Bool, false, true, ◌&&◌, is_some, if◌then◌else◌, List, [], ◌∷◌, Option, None, Some, slice_get}
use Rattle.flow_types.specs.declared.bound.PriceKey.{PriceKey}
use Rattle.flow_types.specs.declared.parts.Parts.{Parts}
use Rattle.flight_routes.specs.Prices.{ArePricesOf, IsKeyOf, PriceTable, kind_number, price_at}
use Rattle.priced_plans.specs.Keys.{is_at}
use Rattle.bytime_model.specs.declared.names.RowName.{RowName}
use Rattle.bytime_model.specs.Rows.{is_row}
use Rattle.bytime_model.specs.declared.multiplier.Multiplier.{Multiplier}
use Rattle.dual_leaf.specs.PriceRows.{key_of}

-- the row is there, and may have a price
abbrev pub is_priceable : Parts → RowName → Bool
is_priceable parts row = is_some (key_of row) && is_row parts row

abbrev pub ArePriceable : Parts → List Multiplier → Type 0
ArePriceable parts rows = (k : ℕ) (multiplier : Multiplier) → slice_get rows k ≡ Some multiplier
    → is_priceable parts multiplier.row ≡ true

-- the first that isn't
pub record IsFirstUnpriceable (parts : Parts) (rows : List Multiplier) (position : ℕ)
    : Type 0 where
  pub multiplier : Multiplier
  pub here : slice_get rows position ≡ Some multiplier
  pub unpriceable : is_priceable parts multiplier.row ≡ false
  pub before : (k : ℕ) (other : Multiplier) → k < position → slice_get rows k ≡ Some other
      → is_priceable parts other.row ≡ true

-- the key is the one that is named
abbrev pub is_key : PriceKey → PriceKey → Bool
is_key named key = is_at (kind_number named.kind) named.row named.period key

-- a price after it was set on what is named, if that is what it is put on
abbrev pub set_on : Option PriceKey → ℕ → PriceKey → ℕ → ℕ
set_on None value key price = price
set_on (Some named) value key price = if is_key named key then value else price

-- the price of a key once these multipliers are set in turn, where it was so much before; so the
-- last multiplier of a row counts
abbrev pub set_by : List Multiplier → PriceKey → ℕ → ℕ
set_by [] key price = price
set_by (multiplier ∷ rows) key price =
    set_by rows key (set_on (key_of multiplier.row) multiplier.value key price)

-- the multipliers are the prices of their rows, and all other prices are 0
pub record ArePricedBy (parts : Parts) (rows : List Multiplier) (table : PriceTable)
    : Type 0 where
  pub size : ArePricesOf parts table
  pub each : (key : PriceKey) → IsKeyOf table key → price_at table key ≡ set_by rows key 0

-- one multiplier more is set. No public clause cites this.
pub record IsSetBy (parts : Parts) (multiplier : Multiplier) (old new : PriceTable)
    : Type 0 where
  pub size : ArePricesOf parts new
  pub each : (key : PriceKey) → IsKeyOf new key → price_at new key
      ≡ set_on (key_of multiplier.row) multiplier.value key (price_at old key)
