-- What a trip pays where prices are put on capacities and connections.
use Rattle.std.specs.Prelude.{◌≡◌, ◌≢◌, ◌<◌, length, ℕ, ◌+◌, ◌*◌, ◌-◌, ◌==◌, List, [], ◌∷◌, slice_index, sum_by, if◌then◌else◌, ℤ, pos, ◌+ℤ◌, ◌-ℤ◌, ◌*ℤ◌, Option, None, Some}
use Rattle.std.specs.List.{range_with_len}
use Rattle.flow_types.specs.declared.bound.PriceKey.{PriceKey}
use Rattle.flow_types.specs.declared.bound.PriceKind.{PriceKind}
use Rattle.flow_types.specs.declared.bound.PriceKind.TheVariants.{Capacity, Connection as Connected}
use Rattle.flow_types.specs.declared.flight.Connection.{Connection}
use Rattle.flow_types.specs.declared.flight.Flight.{Flight}
use Rattle.flow_types.specs.declared.parts.Parts.{Parts}
use Rattle.flow_types.specs.declared.place.CapKind.TheVariants as cap
use Rattle.flow_types.specs.declared.plan.Stop.{Stop}
use Rattle.flow_types.specs.Costs.{trip_cost}
use Rattle.flow_types.specs.Trips.{arrival_from, place_at}
use Rattle.std.specs.Prelude.{slice_get}

-- a price for each row and period, row after row
pub record Block : Type 0 where
  pub rows : ℕ
  pub periods : ℕ
  pub prices : List ℕ

-- the prices of a day
pub record PriceTable : Type 0 where
  pub departures : Block
  pub arrivals : Block
  pub inside : Block
  pub turns : Block

abbrev pub price_in : Block → ℕ → ℕ → ℕ
price_in block row period = slice_index block.prices (row * block.periods + period)

-- the prices of a kind: of departures, of arrivals, of periods in sectors, or of connections from
-- each period on
abbrev pub block_of : PriceKind → PriceTable → Block
block_of (Capacity cap.Dep) table = table.departures
block_of (Capacity cap.Arr) table = table.arrivals
block_of (Capacity cap.Sector) table = table.inside
block_of Connected table = table.turns

-- the kinds in their order
abbrev pub kind_number : PriceKind → ℕ
kind_number (Capacity cap.Dep) = 0
kind_number (Capacity cap.Arr) = 1
kind_number (Capacity cap.Sector) = 2
kind_number Connected = 3

-- how many rows they have: places, or connections
abbrev pub row_count : Parts → PriceKind → ℕ
row_count parts (Capacity kind) = length parts.places
row_count parts Connected = length parts.connections

abbrev pub key_in : PriceKind → ℕ → ℕ → PriceKey
key_in kind row period = record { kind = kind; row = row; period = period }

abbrev pub price_at : PriceTable → PriceKey → ℕ
price_at table key = price_in (block_of key.kind table) key.row key.period

-- a price added up over the periods from one up to another
abbrev pub summed : (ℕ → ℕ) → ℕ → ℕ → ℕ
summed price from to = sum_by price (range_with_len from (to - from))

-- for every period in a sector; the time before the first sector costs nothing
abbrev pub stay_price : PriceTable → Flight → Stop → ℕ → ℕ
stay_price table flight stop leaves =
    if stop.node == 0 then 0
    else summed (price_in table.inside (place_at flight stop.node)) stop.time leaves

abbrev pub stays_price : PriceTable → Flight → Stop → List Stop → ℕ
stays_price table flight stop [] = 0
stays_price table flight stop (next ∷ rest) =
    stay_price table flight stop next.time + stays_price table flight next rest

-- as the second of a connection the flight pays for each period from its departure on
abbrev pub turns_paid : PriceTable → ℕ → ℕ → ℕ → ℕ → List Connection → ℕ
turns_paid table periods number leaves k [] = 0
turns_paid table periods number leaves k (connection ∷ connections) =
    (if connection.second == number then summed (price_in table.turns k) leaves periods else 0)
    + turns_paid table periods number leaves (k + 1) connections

-- as the first it is paid back for each period from the turnaround after its arrival on
abbrev pub turns_back : PriceTable → ℕ → ℕ → ℕ → ℕ → List Connection → ℕ
turns_back table periods number arrives k [] = 0
turns_back table periods number arrives k (connection ∷ connections) =
    (if connection.first == number
    then summed (price_in table.turns k) (arrives + connection.turnaround) periods else 0)
    + turns_back table periods number arrives (k + 1) connections

-- what a trip of the flight at the position pays, less what it is paid back
abbrev pub trip_price : PriceTable → Parts → ℕ → Flight → List Stop → ℤ
trip_price table parts number flight [] = pos 0
trip_price table parts number flight (stop ∷ rest) =
    pos (price_in table.departures flight.from stop.time
    + stays_price table flight stop rest
    + turns_paid table parts.day.periods number stop.time 0 parts.connections
    + price_in table.arrivals flight.to (arrival_from stop rest))
    -ℤ pos (turns_back table parts.day.periods number (arrival_from stop rest) 0 parts.connections)

-- weight times the cost, and the prices
abbrev pub priced_cost_of : ℕ → PriceTable → Parts → ℕ → Option Flight → List Stop → ℤ
priced_cost_of weight table parts number None stops = pos 0
priced_cost_of weight table parts number (Some flight) stops =
    pos weight *ℤ trip_cost parts.tables flight stops +ℤ trip_price table parts number flight stops

abbrev pub priced_cost : ℕ → PriceTable → Parts → ℕ → List Stop → ℤ
priced_cost weight table parts number stops =
    priced_cost_of weight table parts number (slice_get parts.flights number) stops

-- the row and the period are among those of the block
pub record IsPlaceIn (block : Block) (row period : ℕ) : Type 0 where
  pub within : row < block.rows
  pub in_day : period < block.periods

-- the key names a price of the table
abbrev pub IsKeyOf : PriceTable → PriceKey → Type 0
IsKeyOf table key = IsPlaceIn (block_of key.kind table) key.row key.period

-- as many rows and periods
pub record IsSized (rows periods : ℕ) (block : Block) : Type 0 where
  pub wide : block.rows ≡ rows
  pub long : block.periods ≡ periods

-- the prices have room for the scenario's places, connections and periods
pub record ArePricesOf (parts : Parts) (table : PriceTable) : Type 0 where
  pub departures : IsSized (length parts.places) parts.day.periods table.departures
  pub arrivals : IsSized (length parts.places) parts.day.periods table.arrivals
  pub inside : IsSized (length parts.places) parts.day.periods table.inside
  pub turns : IsSized (length parts.connections) parts.day.periods table.turns

-- two tables of the same size
pub record AreAlike (a b : PriceTable) : Type 0 where
  pub departures : IsSized b.departures.rows b.departures.periods a.departures
  pub arrivals : IsSized b.arrivals.rows b.arrivals.periods a.arrivals
  pub inside : IsSized b.inside.rows b.inside.periods a.inside
  pub turns : IsSized b.turns.rows b.turns.periods a.turns

-- every price is 0
abbrev pub AreFree : PriceTable → Type 0
AreFree table = (key : PriceKey) → price_at table key ≡ 0

-- of a block: the same size, and one price set
pub record SetsPrice (row period value : ℕ) (old new : Block) : Type 0 where
  pub rows : new.rows ≡ old.rows
  pub periods : new.periods ≡ old.periods
  pub here : price_in new row period ≡ value
  pub others : (k t : ℕ) → IsPlaceIn old k t → ((k ≡ row) × (t ≡ period) → ⊥)
      → price_in new k t ≡ price_in old k t

-- of a table: one price set in the block of its kind, and the other blocks as before
pub record Sets (key : PriceKey) (value : ℕ) (old new : PriceTable) : Type 0 where
  pub here : SetsPrice key.row key.period value (block_of key.kind old) (block_of key.kind new)
  pub others : (kind : PriceKind) → kind ≢ key.kind → block_of kind new ≡ block_of kind old
