-- What plans pay where prices are put on capacities and connections, what all capacities would pay,
-- and the value that the least trips under these prices have.
use Rattle.std.specs.Prelude.{◌≡◌, ℕ, zero, suc, ◌+◌, ◌*◌, nat_le, List, [], ◌∷◌, length, get_or, slice_get, if◌then◌else◌, sum_by, ℤ, pos, ◌+ℤ◌, ◌-ℤ◌, ◌*ℤ◌, ◌≤ℤ◌}
use Rattle.std.specs.List.{range_with_len}
use Rattle.exact_sums.specs.Leasts.{IsLeastAt}
use Rattle.flow_types.specs.declared.flight.Connection.{Connection}
use Rattle.flow_types.specs.declared.flight.Flight.{Flight}
use Rattle.flow_types.specs.declared.parts.Parts.{Parts}
use Rattle.flow_types.specs.declared.place.CapKind.{CapKind}
use Rattle.flow_types.specs.declared.place.CapKind.TheVariants as kind
use Rattle.flow_types.specs.declared.plan.Stop.{Stop}
use Rattle.flow_types.specs.Capacities.{capacity_of, has_kind}
use Rattle.flow_types.specs.Costs.{plan_cost}
use Rattle.flow_types.specs.Counts.{arrivals_at, departures_at, occupancy_at, one_if}
use Rattle.flow_types.specs.Trips.{arrival_from}
use Rattle.flight_routes.specs.Inside.{IsTripIn}
use Rattle.flight_routes.specs.Prices.{Block, PriceTable, price_in, priced_cost, trip_price}
use Rattle.time_windows.specs.Boxes.{Box}
use Rattle.time_windows.specs.Plans.{IsPlanIn}

-- what the trips of these flights pay, less what they are paid back; the first has this number
abbrev pub plan_price : PriceTable → Parts → ℕ → List Flight → List (List Stop) → ℤ
plan_price table parts number [] plan = pos 0
plan_price table parts number (flight ∷ flights) [] = pos 0
plan_price table parts number (flight ∷ flights) (trip ∷ plan) =
    trip_price table parts number flight trip
    +ℤ plan_price table parts (number + 1) flights plan

-- a number of each place and period of the day, added up
abbrev pub over_places : Parts → (ℕ → ℕ → ℕ) → ℕ
over_places parts amount =
    sum_by (λ k. sum_by (amount k) (range_with_len 0 parts.day.periods))
    (range_with_len 0 (length parts.places))

-- the prices of a block times the capacities of a kind
abbrev pub capacity_price : Parts → CapKind → Block → ℕ
capacity_price parts kind block =
    over_places parts (λ k t. price_in block k t * capacity_of parts.places kind k t)

-- what all departures, arrivals and flights inside sectors that there is room for would pay
abbrev pub limit_price : Parts → PriceTable → ℕ
limit_price parts table =
    capacity_price parts kind.Dep table.departures + capacity_price parts kind.Arr table.arrivals
    + capacity_price parts kind.Sector table.inside

-- the price of a block where the place has capacities of the kind
abbrev pub price_of : Parts → CapKind → Block → ℕ → ℕ → ℕ
price_of parts kind block k t =
    if has_kind kind (slice_get parts.places k) then price_in block k t else 0

-- these prices times a count of each place and period
abbrev pub counts_price : Parts → CapKind → Block → (ℕ → ℕ → ℕ) → ℕ
counts_price parts kind block count =
    over_places parts (λ k t. price_of parts kind block k t * count k t)

-- what departures, arrivals and flights inside sectors pay, by how many there are
abbrev pub loads_price : PriceTable → Parts → List (List Stop) → ℕ
loads_price table parts plan =
    counts_price parts kind.Dep table.departures (departures_at parts.flights plan)
    + counts_price parts kind.Arr table.arrivals (arrivals_at parts.flights plan)
    + counts_price parts kind.Sector table.inside (occupancy_at parts.flights plan)

-- the period in which a trip departs, and that in which it arrives; 0 where it has no stops
abbrev pub leaves_in : List Stop → ℕ
leaves_in [] = 0
leaves_in (stop ∷ rest) = stop.time

abbrev pub arrives_in : List Stop → ℕ
arrives_in [] = 0
arrives_in (stop ∷ rest) = arrival_from stop rest

-- 1 where the second flight of a connection has departed by the period
abbrev pub has_left : List (List Stop) → Connection → ℕ → ℕ
has_left plan connection period =
    one_if (nat_le (leaves_in (get_or plan connection.second [])) period)

-- 1 where the first has arrived by the turnaround before the period
abbrev pub is_ready : List (List Stop) → Connection → ℕ → ℕ
is_ready plan connection period =
    one_if (nat_le (arrives_in (get_or plan connection.first []) + connection.turnaround) period)

-- a price of each period of the day times a count of it, added up
abbrev pub over_day : ℕ → (ℕ → ℕ) → (ℕ → ℕ) → ℕ
over_day periods price count = sum_by (λ t. price t * count t) (range_with_len 0 periods)

-- what is paid for these connections, less what is paid back; the first has this number
abbrev pub turns_price : PriceTable → ℕ → List (List Stop) → ℕ → List Connection → ℤ
turns_price table periods plan k [] = pos 0
turns_price table periods plan k (connection ∷ connections) =
    (pos (over_day periods (price_in table.turns k) (has_left plan connection))
    -ℤ pos (over_day periods (price_in table.turns k) (is_ready plan connection)))
    +ℤ turns_price table periods plan (k + 1) connections

-- the least that trips in the box cost with their prices, added up over the first so many flights
abbrev pub IsPricedSum : Parts → Box → ℕ → PriceTable → ℕ → ℤ → Type 0
IsPricedSum parts box weight table zero sum = sum ≡ pos 0
IsPricedSum parts box weight table (suc number) sum =
    (before least : ℤ) × IsPricedSum parts box weight table number before
    × IsLeastAt (IsTripIn parts box number) (priced_cost weight table parts number) least
    × (sum ≡ before +ℤ least)

-- the value of prices: the least trips of all flights, less what all capacities would pay
pub record IsPricedValue (parts : Parts) (box : Box) (weight : ℕ) (table : PriceTable)
    (value : ℤ) : Type 0 where
  pub sum : ℤ
  pub least : IsPricedSum parts box weight table (length parts.flights) sum
  pub less : value ≡ sum -ℤ pos (limit_price parts table)

-- the cost of a feasible plan in the box, times the weight, is no less than the value
abbrev pub BoundsPlans : Parts → Box → ℕ → ℤ → Type 0
BoundsPlans parts box weight value =
    (plan : List (List Stop)) → IsPlanIn parts box plan
    → value ≤ℤ (pos weight *ℤ plan_cost parts.tables parts.flights plan)
