-- What loads count is what the trips do that they count.
use Rattle.std.proofs.Common.{◌≡◌, ◌⊎◌, ℕ, ◌<◌, ◌≤◌, List, [], length, Option, None, Some, slice_get, slice_index_or, inl, inr, refl, sym, ap, ◌∙◌, arith}
use Rattle.std.proofs.lemmas.Bool.{cases_lt}
use Rattle.std.proofs.lemmas.List.{get_or_past}
use Rattle.flow_types.specs.declared.bound.PriceKind.{PriceKind}
use Rattle.flow_types.specs.declared.bound.PriceKind.TheVariants.{Capacity, Connection as Connected}
use Rattle.flow_types.specs.declared.flight.Connection.{Connection}
use Rattle.flow_types.specs.declared.parts.Parts.{Parts}
use Rattle.flow_types.specs.declared.place.CapKind.TheVariants as cap
use Rattle.flow_types.specs.declared.plan.Stop.{Stop}
use Rattle.flow_types.specs.Trips.{arrival_of, departure_of}
use Rattle.flight_routes.specs.Prices.{row_count}
use Rattle.plan_rules.specs.Tally.{Tally}
use Rattle.plan_rules.specs.Loads.{AreLoads, arrival_at, departure_at}
use Rattle.plan_rules.proofs.CountFacts.{AreTripsOrNone-length}
use Rattle.priced_plans.specs.Usage.{is_by, left_by, limit_at, ready_by, traffic_in, traffic_of, used_at}

module _ (parts : Parts) (trips : List (List Stop)) (loads : Tally)
    (are : AreLoads parts trips loads) where
  left_is : (f : ℕ) → departure_at loads f ≡ departure_of (slice_index_or trips f [])
  left_is f = by (cases_lt f (length parts.flights))
    where
      by : (f < length parts.flights) ⊎ (length parts.flights ≤ f)
          → departure_at loads f ≡ departure_of (slice_index_or trips f [])
      by (inl within) = are.leaves f within
      by (inr past) =
          let same : length trips ≡ length parts.flights =
          AreTripsOrNone-length parts.day.periods parts.flights trips are.each in
          get_or_past loads.leaves f None (omega (arith, past, are.made.leaves))
          ∙ sym (ap departure_of (get_or_past trips f [] (omega (arith, past, same))))

  arrived_is : (f : ℕ) → arrival_at loads f ≡ arrival_of (slice_index_or trips f [])
  arrived_is f = by (cases_lt f (length parts.flights))
    where
      by : (f < length parts.flights) ⊎ (length parts.flights ≤ f)
          → arrival_at loads f ≡ arrival_of (slice_index_or trips f [])
      by (inl within) = are.arrives f within
      by (inr past) =
          let same : length trips ≡ length parts.flights =
          AreTripsOrNone-length parts.day.periods parts.flights trips are.each in
          get_or_past loads.arrives f None (omega (arith, past, are.made.arrives))
          ∙ sym (ap arrival_of (get_or_past trips f [] (omega (arith, past, same))))

  left_same : (connection : Option Connection) (period : ℕ)
      → left_by (traffic_in loads) connection period
      ≡ left_by (traffic_of parts trips) connection period
  left_same None period = refl
  left_same (Some connection) period =
      ap (λ time. is_by time 0 period) (left_is connection.second)

  ready_same : (connection : Option Connection) (period : ℕ)
      → ready_by (traffic_in loads) connection period
      ≡ ready_by (traffic_of parts trips) connection period
  ready_same None period = refl
  ready_same (Some connection) period =
      ap (λ time. is_by time connection.turnaround period) (arrived_is connection.first)

  pub used_same : (kind : PriceKind) (row period : ℕ) → row < row_count parts kind
      → period < parts.day.periods → used_at parts (traffic_in loads) kind row period
      ≡ used_at parts (traffic_of parts trips) kind row period
  used_same (Capacity cap.Dep) row period within in_day = are.departures row period within in_day
  used_same (Capacity cap.Arr) row period within in_day = are.arrivals row period within in_day
  used_same (Capacity cap.Sector) row period within in_day = are.sectors row period within in_day
  used_same Connected row period within in_day =
      left_same (slice_get parts.connections row) period

  pub limit_same : (kind : PriceKind) (row period : ℕ)
      → limit_at parts (traffic_in loads) kind row period
      ≡ limit_at parts (traffic_of parts trips) kind row period
  limit_same (Capacity kind) row period = refl
  limit_same Connected row period = ready_same (slice_get parts.connections row) period
