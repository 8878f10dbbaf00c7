-- Prices that are found in rounds, each from those before it, and the bound that a round tells.
use Rattle.std.specs.Prelude.{◌≡◌, ◌⊎◌, ℕ, zero, suc, ◌+◌, ◌-◌, ◌*◌, ◌/◌, if◌then◌else◌, List, length, Some, slice_get}
use Rattle.exact_sums.specs.Leasts.{IsFirstLeast}
use Rattle.flow_types.specs.declared.bound.Bound.{Bound}
use Rattle.flow_types.specs.declared.bound.PriceKey.{PriceKey}
use Rattle.flow_types.specs.declared.parts.Parts.{Parts}
use Rattle.flow_types.specs.declared.plan.Stop.{Stop}
use Rattle.flight_routes.specs.Inside.{IsTripIn}
use Rattle.flight_routes.specs.Prices.{AreFree, ArePricesOf, PriceTable, price_at, priced_cost}
use Rattle.flight_routes.specs.TripOrder.{IsNoLater}
use Rattle.priced_plans.specs.Keys.{IsKeyFor, has_limit}
use Rattle.priced_plans.specs.PricedBound.{IsPricedBound}
use Rattle.priced_plans.specs.Usage.{Traffic, limit, traffic_of, used}
use Rattle.priced_plans.specs.Valuing.{LacksTrip}
use Rattle.time_windows.specs.Boxes.{Box}

-- how much costs weigh beside prices
abbrev pub cost_weight : ℕ
cost_weight = 1024

-- by how much a price rises, in a round, for each one too many
abbrev pub step_of : ℕ → ℕ
step_of round = 1024 / round

-- of the trips of the flight in the box that cost the least with their prices, the first
abbrev pub IsLeastTrip : Parts → Box → PriceTable → ℕ → List Stop → Type 0
IsLeastTrip parts box table number =
    IsFirstLeast (IsTripIn parts box number) (priced_cost cost_weight table parts number) IsNoLater

-- that of each flight
pub record AreLeastTrips (parts : Parts) (box : Box) (table : PriceTable)
    (trips : List (List Stop)) : Type 0 where
  pub whole : length trips ≡ length parts.flights
  pub each : (number : ℕ) (trip : List Stop) → slice_get trips number ≡ Some trip
      → IsLeastTrip parts box table number trip

-- a price and a step more for each by which a count exceeds the limit, a step less for each by
-- which it falls short; no less than 0
abbrev pub moved : ℕ → ℕ → ℕ → ℕ → ℕ
moved step count limit price = (price + step * count) - step * limit

-- that of what a price may be put on; elsewhere the price stays
abbrev pub moved_price : Parts → Traffic → ℕ → PriceKey → ℕ → ℕ
moved_price parts traffic step key price =
    if has_limit parts key then moved step (used parts traffic key) (limit parts traffic key) price
    else price

-- all prices of the day, by how often these trips use what they are put on
pub record IsMovedBy (parts : Parts) (trips : List (List Stop)) (step : ℕ)
    (old new : PriceTable) : Type 0 where
  pub size : ArePricesOf parts new
  pub each : (key : PriceKey) → IsKeyFor parts key → price_at new key
      ≡ moved_price parts (traffic_of parts trips) step key (price_at old key)

-- a round moves all prices by the least trips under them
pub record IsRoundBy (parts : Parts) (box : Box) (round : ℕ) (old new : PriceTable)
    (trips : List (List Stop)) : Type 0 where
  pub least : AreLeastTrips parts box old trips
  pub moved : IsMovedBy parts trips (step_of round) old new

-- or leaves them where a flight has no trip in the box
pub record IsRoundWithout (parts : Parts) (box : Box) (old new : PriceTable) : Type 0 where
  pub none : LacksTrip parts box
  pub same : new ≡ old

abbrev pub IsRoundStep : Parts → Box → ℕ → PriceTable → PriceTable → Type 0
IsRoundStep parts box round old new =
    ((trips : List (List Stop)) × IsRoundBy parts box round old new trips)
    ⊎ IsRoundWithout parts box old new

-- the prices after so many rounds, which begin with prices of 0
abbrev pub IsRoundTable : Parts → Box → ℕ → PriceTable → Type 0
IsRoundTable parts box zero table = ArePricesOf parts table × AreFree table
IsRoundTable parts box (suc before) table =
    (old : PriceTable) × IsRoundTable parts box before old
    × IsRoundStep parts box (suc before) old table

-- what prices tell: their value, in units of cost
abbrev pub IsTableBound : Parts → Box → PriceTable → Bound → Type 0
IsTableBound parts box table bound = IsPricedBound parts box cost_weight table bound

-- what the prices after so many rounds tell
abbrev pub IsRoundBound : Parts → Box → ℕ → Bound → Type 0
IsRoundBound parts box round bound =
    (table : PriceTable) × IsRoundTable parts box round table × IsTableBound parts box table bound
