-- Prices that a climb moves, and which prices are good: of the scenario, each where a capacity
-- of its kind or a connection is, and below 2^62.
use Rattle.std.specs.Prelude.{◌≡◌, true, List, All}
use Rattle.flow_types.specs.declared.bound.PriceKey.{PriceKey}
use Rattle.flow_types.specs.declared.parts.Parts.{Parts}
use Rattle.flight_routes.specs.Prices.{ArePricesOf, PriceTable}
use Rattle.priced_plans.specs.Keys.{ArePlaced, IsKeyFor, has_limit}
use Rattle.priced_plans.specs.Valuing.{AreSmall}
use Rattle.price_ascent.specs.declared.slopes.Slope.{Slope}

-- prices of the scenario, none where nothing may have one, and none too high
pub record IsGood (parts : Parts) (table : PriceTable) : Type 0 where
  pub size : ArePricesOf parts table
  pub placed : ArePlaced parts table
  pub small : AreSmall table

-- a price of the scenario that may rise
pub record IsSlopeKey (parts : Parts) (key : PriceKey) : Type 0 where
  pub there : IsKeyFor parts key
  pub limit : has_limit parts key ≡ true

abbrev pub AreSlopesFor : Parts → List Slope → Type 0
AreSlopesFor parts slopes = All (λ slope. IsSlopeKey parts slope.key) slopes
