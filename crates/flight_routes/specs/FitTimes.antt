-- The periods in which a flight may leave, arrive or stay beside the loads.
use Rattle.std.specs.Prelude.{◌≡◌, ℕ, ◌+◌, ◌<◌, ◌≤◌, List, Option, slice_index, ℤ, pos, ◌-ℤ◌}
use Rattle.flow_types.specs.declared.flight.CostTable.{CostTable}
use Rattle.flow_types.specs.declared.flight.Flight.{Flight}
use Rattle.flow_types.specs.declared.parts.Parts.{Parts}
use Rattle.flow_types.specs.declared.place.CapKind.{CapKind}
use Rattle.flow_types.specs.declared.place.CapKind.TheVariants as kind
use Rattle.flow_types.specs.Capacities.{capacity_of}
use Rattle.plan_rules.specs.Tally.{Tally}
use Rattle.plan_rules.specs.Loads.{load_at}
use Rattle.time_windows.specs.declared.access.Window.{Window}
use Rattle.time_windows.specs.declared.ends.End.{End}
use Rattle.time_windows.specs.declared.ends.End.TheVariants.{Arrival, Departure}
use Rattle.flight_routes.specs.Ends.{kind_at}
use Rattle.flight_routes.specs.PriceRates.{airport_of}
use Rattle.flight_routes.specs.Rates.{IsClear, Rates}
use Rattle.flight_routes.specs.TimeCosts.{credit_then, total_then}

-- room for one more flight
abbrev pub HasSpace : Parts → Tally → CapKind → ℕ → ℕ → Type 0
HasSpace parts loads kind place time =
    load_at loads kind place time + 1 ≤ capacity_of parts.places kind place time

-- a departure from a period on, an arrival before one
abbrev pub IsInTimeAt : End → ℕ → ℕ → Type 0
IsInTimeAt Departure bound time = bound ≤ time
IsInTimeAt Arrival bound time = time < bound

-- in time, and with room for one more flight at that end of its trip
pub record IsFreeAt (end : End) (parts : Parts) (loads : Tally) (flight : Option Flight)
    (bound time : ℕ) : Type 0 where
  pub in_time : IsInTimeAt end bound time
  pub space : HasSpace parts loads (kind_at end) (airport_of end flight) time

-- what it costs then: the departure pays back its credit
abbrev pub fit_value : End → List CostTable → Option Flight → ℕ → ℤ
fit_value Departure tables flight time = pos 0 -ℤ credit_then tables flight time
fit_value Arrival tables flight time = total_then tables flight time

-- the first period from one on without room in the sector, or a number past the last one
pub record IsFirstFull (parts : Parts) (loads : Tally) (place last time first : ℕ)
    : Type 0 where
  pub late : time ≤ first
  pub free : (p : ℕ) → time ≤ p → p < first → p ≤ last
      → HasSpace parts loads kind.Sector place p
  pub full : first ≤ last → HasSpace parts loads kind.Sector place first → ⊥

-- the period, if no room is left in it, and else a later one
pub record IsNextFull (counts capacities : List ℕ) (time later first : ℕ) : Type 0 where
  pub room : slice_index counts time + 1 ≤ slice_index capacities time → first ≡ later
  pub none : (slice_index counts time + 1 ≤ slice_index capacities time → ⊥) → first ≡ time

-- of one node: the first full period is the period, or that of the next one
abbrev pub IsClearAt : Window → ℕ → Rates → Type 0
IsClearAt span node rates = IsClear span.lo span.hi (rates.clear node)
