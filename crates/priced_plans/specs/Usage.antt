-- How often trips use what a price is put on, and how often they may.
use Rattle.std.specs.Prelude.{ℕ, ◌+◌, nat_le, List, [], Option, None, Some, slice_get, slice_index_or}
use Rattle.flow_types.specs.declared.bound.PriceKey.{PriceKey}
use Rattle.flow_types.specs.declared.bound.PriceKind.{PriceKind}
use Rattle.flow_types.specs.declared.bound.PriceKind.TheVariants.{Capacity, Connection as Connected}
use Rattle.flow_types.specs.declared.flight.Connection.{Connection}
use Rattle.flow_types.specs.declared.parts.Parts.{Parts}
use Rattle.flow_types.specs.declared.place.CapKind.{CapKind}
use Rattle.flow_types.specs.declared.place.CapKind.TheVariants as cap
use Rattle.flow_types.specs.declared.plan.Stop.{Stop}
use Rattle.flow_types.specs.Capacities.{capacity_of}
use Rattle.flow_types.specs.Counts.{arrivals_at, departures_at, occupancy_at, one_if}
use Rattle.flow_types.specs.Trips.{arrival_of, departure_of}
use Rattle.plan_rules.specs.Tally.{Tally}
use Rattle.plan_rules.specs.Loads.{arrival_at, departure_at, load_at}

-- how many flights depart, arrive or are inside, by place and period; and when each flight departs
-- and arrives
pub record Traffic : Type 0 where
  pub count : CapKind → ℕ → ℕ → ℕ
  pub leaves : ℕ → Option ℕ
  pub arrives : ℕ → Option ℕ

-- how many flights depart, arrive or are inside by these trips, and the traffic that trips are
abbrev pub count_at : Parts → List (List Stop) → CapKind → ℕ → ℕ → ℕ
count_at parts trips cap.Dep = departures_at parts.flights trips
count_at parts trips cap.Arr = arrivals_at parts.flights trips
count_at parts trips cap.Sector = occupancy_at parts.flights trips

abbrev pub traffic_of : Parts → List (List Stop) → Traffic
traffic_of parts trips = record {
  count = count_at parts trips;
  leaves = λ f. departure_of (slice_index_or trips f []);
  arrives = λ f. arrival_of (slice_index_or trips f []);
}

-- the traffic that loads count
abbrev pub traffic_in : Tally → Traffic
traffic_in loads = record {
  count = load_at loads;
  leaves = departure_at loads;
  arrives = arrival_at loads;
}

-- 1 where a time, and so long after it, is no later than the period
abbrev pub is_by : Option ℕ → ℕ → ℕ → ℕ
is_by None after period = 0
is_by (Some time) after period = one_if (nat_le (time + after) period)

-- 1 where the second flight of a connection has departed by the period, and where the first has
-- arrived the turnaround before it
abbrev pub left_by : Traffic → Option Connection → ℕ → ℕ
left_by traffic None period = 0
left_by traffic (Some connection) period = is_by (traffic.leaves connection.second) 0 period

abbrev pub ready_by : Traffic → Option Connection → ℕ → ℕ
ready_by traffic None period = 0
ready_by traffic (Some connection) period =
    is_by (traffic.arrives connection.first) connection.turnaround period

-- how often it is used: the flights that a capacity is for, or whether a connection has been left
abbrev pub used_at : Parts → Traffic → PriceKind → ℕ → ℕ → ℕ
used_at parts traffic (Capacity kind) row period = traffic.count kind row period
used_at parts traffic Connected row period =
    left_by traffic (slice_get parts.connections row) period

abbrev pub used : Parts → Traffic → PriceKey → ℕ
used parts traffic key = used_at parts traffic key.kind key.row key.period

-- how often it may be: the capacity, or whether a connection is ready
abbrev pub limit_at : Parts → Traffic → PriceKind → ℕ → ℕ → ℕ
limit_at parts traffic (Capacity kind) row period = capacity_of parts.places kind row period
limit_at parts traffic Connected row period =
    ready_by traffic (slice_get parts.connections row) period

abbrev pub limit : Parts → Traffic → PriceKey → ℕ
limit parts traffic key = limit_at parts traffic key.kind key.row key.period
