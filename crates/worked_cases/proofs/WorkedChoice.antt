-- A flight with two trips that cost the same: the one that comes first in the order of trips is
-- the least, and the other isn't.
use Rattle.std.proofs.Common.{◌≡◌, ◌⊎◌, ℕ, zero, suc, ◌+◌, ◌<◌, ◌≤◌, ◌==◌, ◌||◌, true, List, [], ◌∷◌, Some, slice_get, ℤ, pos, ◌≤ℤ◌, inl, inr, refl, sym, ap, ap₂, subst, arith}
use Rattle.std.specs.Prelude.{codes}
use Rattle.std.specs.List.{Any}
use Rattle.std.proofs.lemmas.Int.{ints}
use Rattle.exact_sums.specs.Leasts.{IsFirstLeast}
use Rattle.exact_sums.proofs.ShortLists.{all_three}
use Rattle.flow_types.specs.declared.flight.Flight.{Flight}
use Rattle.flow_types.specs.declared.flight.Leg.{Leg}
use Rattle.flow_types.specs.declared.parts.Parts.{Parts}
use Rattle.flow_types.specs.declared.plan.Stop.{Stop}
use Rattle.flow_types.specs.Costs.{trip_cost_at}
use Rattle.flow_types.specs.Trips.{IsLegBetween, IsOnward, IsStep, IsTrip, IsWithinHours, earliest_of, latest_of}
use Rattle.flight_routes.specs.Inside.{IsTripIn}
use Rattle.flight_routes.specs.TripOrder.{IsNoLater}
use Rattle.time_windows.specs.Boxes.{IsInWindow, closed, root_box}
use Rattle.time_windows.specs.declared.access.Access.{Access}
use Rattle.time_windows.proofs.WindowFacts.{if_lt}
use Rattle.time_windows.proofs.AnyFacts.{any_cases, any_none}
use Rattle.worked_days.specs.Days.{airport_with, day, sector_with, stop_at, there}

abbrev leg_with : ℕ → ℕ → ℕ → Leg
leg_with from to least = record { from = from; to = to; least = least }

-- It departs in period 0 and arrives in period 2, by way of either sector, with no time to lose.
abbrev flight : Flight
flight = record there {
  mg = 0;
  md = 0;
  nodes = 0 ∷ 2 ∷ 3 ∷ 1 ∷ [];
  legs = leg_with 0 1 0 ∷ leg_with 1 3 2 ∷ leg_with 0 2 0 ∷ leg_with 2 3 2 ∷ [];
}

abbrev parts : Parts
parts = record {
  day = day;
  places = airport_with (codes "ORIG") 9 9 ∷ airport_with (codes "DEST") 9 9
      ∷ sector_with (codes "S") 9 ∷ sector_with (codes "S2") 9 ∷ [];
  flights = flight ∷ [];
  tables = [];
  connections = [];
}

-- out of the origin at once, and to the destination in time
abbrev trip_by : ℕ → List Stop
trip_by sector = stop_at 0 0 ∷ stop_at sector 0 ∷ stop_at 3 2 ∷ []

-- the trips of the flight in the root box
abbrev is_in_root : List Stop → Type 0
is_in_root = IsTripIn parts (root_box parts) 0

-- what each leg gives
by_leg : {P : Type 0} (stop next : Stop) → IsStep flight.legs stop next
    → (IsLegBetween stop next (leg_with 0 1 0) → P) → (IsLegBetween stop next (leg_with 1 3 2) → P)
    → (IsLegBetween stop next (leg_with 0 2 0) → P) → (IsLegBetween stop next (leg_with 2 3 2) → P)
    → P
by_leg {P} stop next step a b c d =
    let Q = IsLegBetween stop next in
    let last = leg_with 2 3 2 ∷ [] in
    let two = leg_with 0 2 0 ∷ last in
    let three = leg_with 1 3 2 ∷ two in
    elim (any_cases Q (leg_with 0 1 0) three step) as (λ _. P) [
      | inl leg ↦ a leg
      | inr others ↦ elim (any_cases Q (leg_with 1 3 2) two others) as (λ _. P) [
        | inl leg ↦ b leg
        | inr others ↦ elim (any_cases Q (leg_with 0 2 0) last others) as (λ _. P) [
          | inl leg ↦ c leg
          | inr others ↦ elim (any_cases Q (leg_with 2 3 2) [] others) as (λ _. P) [
            | inl leg ↦ d leg
            | inr none ↦ absurd (any_none Q none)
          ]
        ]
      ]
    ]

-- from the origin to a sector, from there to the destination, and no further
from_origin : (stop next : Stop) → stop.node ≡ 0 → IsStep flight.legs stop next
    → (next.node ≡ 1) ⊎ (next.node ≡ 2)
from_origin stop next at step =
    by_leg stop next step (λ leg. inl (omega (arith, leg.to)))
    (λ leg. absurd (omega (arith, at, leg.from))) (λ leg. inr (omega (arith, leg.to)))
    (λ leg. absurd (omega (arith, at, leg.from)))

from_sector : (stop next : Stop) → 0 < stop.node → IsStep flight.legs stop next
    → (next.node ≡ 3) × (stop.time + 2 ≤ next.time)
from_sector stop next inner step =
    by_leg stop next step (λ leg. absurd (omega (arith, inner, leg.from)))
    (λ leg. (omega (arith, leg.to), leg.least)) (λ leg. absurd (omega (arith, inner, leg.from)))
    (λ leg. (omega (arith, leg.to), leg.least))

no_further : (stop next : Stop) → stop.node ≡ 3 → IsStep flight.legs stop next → ⊥
no_further stop next at step =
    by_leg stop next step (λ leg. omega (arith, at, leg.from)) (λ leg. omega (arith, at, leg.from))
    (λ leg. omega (arith, at, leg.from)) (λ leg. omega (arith, at, leg.from))

the_stop : (stop : Stop) (node time : ℕ) → stop.node ≡ node → stop.time ≡ time
    → stop ≡ stop_at node time
the_stop stop node time at when = ap₂ stop_at at when

at_end : (stop : Stop) (rest : List Stop) → stop.node ≡ 3 → IsOnward 8 flight stop rest
    → rest ≡ []
at_end stop [] at onward = refl
at_end stop (next ∷ rest) at onward = absurd (no_further stop next at onward.0)

in_sector : (stop : Stop) (rest : List Stop) → 0 < stop.node → stop.node < 3
    → IsOnward 8 flight stop rest → (stop.time ≡ 0) × (rest ≡ stop_at 3 2 ∷ [])
in_sector stop [] inner short onward = absurd (omega (arith, short, onward))
in_sector stop (next ∷ rest) inner short onward =
    let on = from_sector stop next inner onward.0 in
    let late = subst (λ n. next.time ≤ latest_of 8 flight n) on.0 onward.1.late in (
      omega (arith, on.1, late),
      ap₂ (λ s trip. s ∷ trip) (the_stop next 3 2 on.0 (omega (arith, on.1, late)))
          (at_end next rest on.0 onward.2),
    )

by_sector : (sector : ℕ) (stop next : Stop) (rest : List Stop) → stop ≡ stop_at 0 0
    → next.node ≡ sector → 0 < sector → sector < 3 → IsOnward 8 flight next rest
    → stop ∷ next ∷ rest ≡ trip_by sector
by_sector sector stop next rest first at inner short onward =
    let on = in_sector next rest (omega (arith, at, inner)) (omega (arith, at, short)) onward in
    ap₂ (λ s trip. s ∷ trip) first
    (ap₂ (λ s trip. s ∷ trip) (the_stop next sector 0 at on.0) on.1)

-- The flight has these two trips alone.
two_trips : (stops : List Stop) → IsTrip 8 flight stops
    → (stops ≡ trip_by 1) ⊎ (stops ≡ trip_by 2)
two_trips [] trip = absurd trip
two_trips (stop ∷ []) trip = absurd (omega (arith, trip.0, trip.2))
two_trips (stop ∷ next ∷ rest) trip =
    let late = subst (λ n. stop.time ≤ latest_of 8 flight n) trip.0 trip.1.late in
    let first = the_stop stop 0 0 trip.0 (omega (arith, late)) in
    elim (from_origin stop next trip.0 trip.2.0)
    as (λ _. (stop ∷ next ∷ rest ≡ trip_by 1) ⊎ (stop ∷ next ∷ rest ≡ trip_by 2)) [
      | inl at ↦ inl (by_sector 1 stop next rest first at (omega arith) (omega arith) trip.2.2)
      | inr at ↦ inr (by_sector 2 stop next rest first at (omega arith) (omega arith) trip.2.2)
    ]

trips_in : (stops : List Stop) → is_in_root stops → (stops ≡ trip_by 1) ⊎ (stops ≡ trip_by 2)
trips_in stops is =
    let same : is.flight ≡ flight = cc (is.there) in
    two_trips stops (subst (λ (f : Flight). IsTrip 8 f stops) same is.trip)

-- only the ends must be entered
past_the_nodes : (node : ℕ) → 4 ≤ node → (root_box parts 0 node).must ≡ true → ⊥
past_the_nodes node past =
    if_lt (λ (access : Access). access.must ≡ true → ⊥) node 4
    (record {
      window = Some (record { lo = earliest_of flight node; hi = latest_of 8 flight node });
      must = (node == 0) || (node + 1 == 4);
    }) closed (λ below. absurd (omega (arith, past, below))) (λ _ must. cc)

-- Both are in the root box.
abbrev window_at : Stop → Type 0
window_at stop = IsInWindow (root_box parts 0 stop.node).window stop.time

through : (sector : ℕ) → IsStep flight.legs (stop_at 0 0) (stop_at sector 0)
    → IsWithinHours 8 flight (stop_at sector 0)
    → IsStep flight.legs (stop_at sector 0) (stop_at 3 2) → window_at (stop_at sector 0)
    → is_in_root (trip_by sector)
through sector in_step hours out_step window = record {
  flight = flight;
  there = refl;
  trip = (
    refl,
    record { early = omega arith; late = omega arith },
    (in_step, hours, (out_step, record { early = omega arith; late = omega arith }, refl)),
  );
  inside = record {
    windows = all_three window_at (stop_at 0 0) (stop_at sector 0) (stop_at 3 2)
        (omega arith, omega arith) window (omega arith, omega arith);
    musts = visited;
  };
}
  where
    visited : (node : ℕ) → (root_box parts 0 node).must ≡ true
        → Any (λ stop. stop.node ≡ node) (trip_by sector)
    visited zero must = (0, stop_at 0 0, omega arith, refl, refl)
    visited (suc zero) must = absurd cc
    visited (suc (suc zero)) must = absurd cc
    visited (suc (suc (suc zero))) must = (2, stop_at 3 2, omega arith, refl, refl)
    visited (suc (suc (suc (suc n)))) must =
        absurd (past_the_nodes (suc (suc (suc (suc n)))) (omega arith) must)

first_is_in : is_in_root (trip_by 1)
first_is_in =
    through 1
    (0, leg_with 0 1 0, omega arith, refl, record { from = refl; to = refl; least = omega arith })
    (record { early = omega arith; late = omega arith })
    (1, leg_with 1 3 2, omega arith, refl, record { from = refl; to = refl; least = omega arith })
    (omega arith, omega arith)

second_is_in : is_in_root (trip_by 2)
second_is_in =
    through 2
    (2, leg_with 0 2 0, omega arith, refl, record { from = refl; to = refl; least = omega arith })
    (record { early = omega arith; late = omega arith })
    (3, leg_with 2 3 2, omega arith, refl, record { from = refl; to = refl; least = omega arith })
    (omega arith, omega arith)

-- Both cost nothing, and the first stands before the second.
abbrev cost_of : List Stop → ℤ
cost_of = trip_cost_at parts.tables (slice_get parts.flights 0)

first_cost : cost_of (trip_by 1) ≡ pos 0
first_cost = refl

second_cost : cost_of (trip_by 2) ≡ pos 0
second_cost = refl

first_is_no_later : IsNoLater (trip_by 1) (trip_by 2)
first_is_no_later = inr (refl, inl (inl (omega arith)))

second_is_later : IsNoLater (trip_by 2) (trip_by 1) → ⊥
second_is_later (inl (inl node)) = omega (arith, node)
second_is_later (inl (inr time)) = omega (arith, time.1)
second_is_later (inr (same, inl (inl node))) = omega (arith, node)
second_is_later (inr (same, inl (inr time))) = omega (arith, time.0)
second_is_later (inr (same, inr rest)) = omega (arith, ap (λ (s : Stop). s.node) rest.0)

same_is_no_later : IsNoLater (trip_by 1) (trip_by 1)
same_is_no_later = inr (refl, inr (refl, inr (refl, tt)))

-- So the first is the one that is chosen, and the second isn't.
first_is_chosen : IsFirstLeast is_in_root cost_of IsNoLater (trip_by 1)
first_is_chosen = record {
  inside = first_is_in;
  least = λ stops is. elim (trips_in stops is) as (λ _. cost_of (trip_by 1) ≤ℤ cost_of stops) [
    | inl same ↦ subst (λ trip. pos 0 ≤ℤ cost_of trip) (sym same) (omega (arith, ints))
    | inr same ↦ subst (λ trip. pos 0 ≤ℤ cost_of trip) (sym same) (omega (arith, ints))
  ];
  first = λ stops is equal. elim (trips_in stops is) as (λ _. IsNoLater (trip_by 1) stops) [
    | inl same ↦ subst (IsNoLater (trip_by 1)) (sym same) same_is_no_later
    | inr same ↦ subst (IsNoLater (trip_by 1)) (sym same) first_is_no_later
  ];
}

second_is_not_chosen : IsFirstLeast is_in_root cost_of IsNoLater (trip_by 2) → ⊥
second_is_not_chosen chosen = second_is_later (chosen.first (trip_by 1) first_is_in refl)
