-- What a plan costs: each flight's total for its arrival delay less its credit for its ground
-- delay.
use Rattle.std.specs.Prelude.{ℕ, ◌-◌, ◌*◌, List, [], ◌∷◌, Option, Some, None, slice_get, slice_index_or, ℤ, pos, ◌+ℤ◌, ◌-ℤ◌}
use Rattle.flow_types.specs.declared.flight.Cost.{Cost}
use Rattle.flow_types.specs.declared.flight.Cost.TheVariants.{Linear, Tables}
use Rattle.flow_types.specs.declared.flight.CostTable.{CostTable}
use Rattle.flow_types.specs.declared.flight.Flight.{Flight}
use Rattle.flow_types.specs.declared.plan.Stop.{Stop}
use Rattle.flow_types.specs.Trips.{arrival_from}

-- the value of a table at a delay
abbrev pub value_at : Option CostTable → ℕ → ℤ
value_at None delay = pos 0
value_at (Some table) delay = slice_index_or table.values delay (pos 0)

-- what so much arrival delay costs
abbrev pub total_of : List CostTable → Cost → ℕ → ℤ
total_of tables (Linear on_ground airborne) delay = pos (airborne * delay)
total_of tables (Tables total credit) delay = value_at (slice_get tables total) delay

-- what so much of it costs less for having been spent on the ground
abbrev pub credit_of : List CostTable → Cost → ℕ → ℤ
credit_of tables (Linear on_ground airborne) delay =
    pos (airborne * delay) -ℤ pos (on_ground * delay)
credit_of tables (Tables total credit) delay = value_at (slice_get tables credit) delay

-- the cost of departing and arriving in these periods
abbrev pub times_cost : List CostTable → Flight → ℕ → ℕ → ℤ
times_cost tables flight departure arrival =
    total_of tables flight.cost (arrival - flight.sa) -ℤ credit_of tables flight.cost
    (departure - flight.sd)

abbrev pub trip_cost : List CostTable → Flight → List Stop → ℤ
trip_cost tables flight [] = pos 0
trip_cost tables flight (stop ∷ rest) = times_cost tables flight stop.time (arrival_from stop rest)

-- the costs of all trips
abbrev pub plan_cost : List CostTable → List Flight → List (List Stop) → ℤ
plan_cost tables [] plan = pos 0
plan_cost tables (flight ∷ flights) [] = pos 0
plan_cost tables (flight ∷ flights) (trip ∷ plan) =
    trip_cost tables flight trip +ℤ plan_cost tables flights plan

-- totals, credits and costs of a flight that may not be there, none of which costs anything then
abbrev pub total_at : List CostTable → Option Flight → ℕ → ℤ
total_at tables None delay = pos 0
total_at tables (Some flight) delay = total_of tables flight.cost delay

abbrev pub credit_at : List CostTable → Option Flight → ℕ → ℤ
credit_at tables None delay = pos 0
credit_at tables (Some flight) delay = credit_of tables flight.cost delay

abbrev pub trip_cost_at : List CostTable → Option Flight → List Stop → ℤ
trip_cost_at tables None stops = pos 0
trip_cost_at tables (Some flight) stops = trip_cost tables flight stops
