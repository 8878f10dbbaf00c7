-- The worked days are valid scenarios, and what more proofs of other crates need of them.
use Rattle.std.specs.Prelude.{codes}
use Rattle.std.proofs.Common.{◌≡◌, ◌≢◌, ℕ, suc, zero, ◌+◌, ◌<◌, ◌≤◌, Bool, true, ◌&&◌, nat_le, min, List, [], ◌∷◌, length, slice_get, slice_index, IsTrue, All, AllPairs, ap, refl, arith}
use Rattle.std.proofs.lemmas.Bool.{and_parts}
use Rattle.std.proofs.lemmas.Bool.Decides.{nat_tests}
use Rattle.std.proofs.lemmas.List.Elements.{All-cons, All-nil}
use Rattle.exact_sums.proofs.ShortLists.{all_one, all_three, all_two, no_pairs, pairs_three, pairs_two}
use Rattle.flow_types.specs.declared.flight.Connection.{Connection}
use Rattle.flow_types.specs.declared.flight.Cost.{Cost}
use Rattle.flow_types.specs.declared.flight.Cost.TheVariants.{Linear}
use Rattle.flow_types.specs.declared.flight.Flight.{Flight}
use Rattle.flow_types.specs.declared.flight.Leg.{Leg}
use Rattle.flow_types.specs.declared.parts.Parts.{Parts}
use Rattle.flow_types.specs.declared.place.CapKind.{CapKind}
use Rattle.flow_types.specs.declared.place.CapKind.TheVariants as kind
use Rattle.flow_types.specs.declared.place.Place.{Place}
use Rattle.flow_types.specs.declared.plan.Stop.{Stop}
use Rattle.flow_types.specs.Capacities.{capacity_of, has_kind}
use Rattle.flow_types.specs.Counts.{arrivals_at, departures_at, occupancy_at}
use Rattle.flow_types.specs.Feasible.{AreTrips, IsFeasible, KeepsTurn}
use Rattle.flow_types.specs.Limits.{most_capacity, most_delay}
use Rattle.flow_types.specs.Routes.{IsChain, IsLeg, IsOtherLeg, IsRoute, is_airport, is_entered, is_left, is_sector}
use Rattle.flow_types.specs.Trips.{IsTrip}
use Rattle.flow_types.specs.Valid.{IsConnection, IsFlight, IsOtherConnection, IsPlace, IsScenario}
use Rattle.flow_types.specs.Words.{is_name}
use Rattle.flow_types.proofs.PlaceFacts.{has_kind-within}
use Rattle.worked_days.specs.Days.{all_day, back, beside, day_with, flight_with, legs_with, places_with, there, there_and_back, trip_at, two_flights}

-- two names that are one have one letter at each place; the letters below are `O`, `D`, `S`, `F`,
-- `G`, `1` and `2`
by_letter : {a b : List ℕ} (k : ℕ) → a ≡ b → slice_index a k ≡ slice_index b k
by_letter k is = ap (λ (name : List ℕ). slice_index name k) is

-- capacities that are the same all day
all_day_within : (n : ℕ) → n ≤ most_capacity → All (λ c. c ≤ most_capacity) (all_day n)
all_day_within n few =
    let P = λ (c : ℕ). c ≤ most_capacity in
    All-cons P n (n ∷ n ∷ n ∷ n ∷ n ∷ n ∷ n ∷ []) few
    (All-cons P n (n ∷ n ∷ n ∷ n ∷ n ∷ n ∷ []) few
    (All-cons P n (n ∷ n ∷ n ∷ n ∷ n ∷ []) few
    (All-cons P n (n ∷ n ∷ n ∷ n ∷ []) few
    (All-cons P n (n ∷ n ∷ n ∷ []) few
    (all_three P n n n few few few)))))

-- two different airports
pub record AreEnds (from to : ℕ) : Type 0 where
  pub origin : from < 2
  pub destination : to < 2
  pub apart : from ≢ to

module _ (leave arrive inside : ℕ) (few_leave : leave ≤ most_capacity)
    (few_arrive : arrive ≤ most_capacity) (few_inside : inside ≤ most_capacity) where
  places_are : All (IsPlace 8) (places_with leave arrive inside)
  places_are =
      let nine : All (λ c. c ≤ most_capacity) (all_day 9) = all_day_within 9 (omega arith) in
      all_three (IsPlace 8) _ _ _
      (record {
        name = refl;
        first_count = refl;
        second_count = refl;
        first = all_day_within leave few_leave;
        second = nine;
      })
      (record {
        name = refl;
        first_count = refl;
        second_count = refl;
        first = nine;
        second = all_day_within arrive few_arrive;
      })
      (record {
        name = refl;
        first_count = refl;
        second_count = refl;
        first = all_day_within inside few_inside;
        second = All-nil (λ c. c ≤ most_capacity);
      })

  airport_at : (k : ℕ) → k < 2 → IsTrue (is_airport (slice_get (places_with leave arrive inside) k))
  airport_at zero within = refl
  airport_at (suc zero) within = refl
  airport_at (suc (suc k)) within = absurd (omega (arith, within))

  module _ (name : List ℕ) (named : is_name name ≡ true) (from to departs : ℕ)
      (ends : AreEnds from to) (early : departs < 6) where
    abbrev flight : Flight
    flight = flight_with name from to departs (Linear 1 2)

    pub route_is : IsRoute (places_with leave arrive inside) from to flight.nodes (legs_with 2)
    route_is = record {
      nodes_from = omega arith;
      nodes_to = omega arith;
      legs_to_limit = omega arith;
      first = refl;
      last = refl;
      sectors = sectors;
      different = pairs_three (λ a b. a ≢ b) from 2 to
          (λ is. omega (arith, is, ends.origin)) ends.apart
          (λ is. omega (arith, is, ends.destination));
      each_leg = all_two (IsLeg 3) _ _ (record {
        upward = omega arith;
        within = omega arith;
        least = omega arith;
      }) (record {
        upward = omega arith;
        within = omega arith;
        least = omega arith;
      });
      once = pairs_two IsOtherLeg _ _ (λ from. absurd (omega (arith, from)));
      order = refl;
      entered = entered;
      left = left;
    } where
      sectors : (k : ℕ) → 0 < k → k + 1 < 3
          → IsTrue (is_sector (slice_get (places_with leave arrive inside)
          (slice_index flight.nodes k)))
      sectors zero inner within = absurd (omega (arith, inner))
      sectors (suc zero) inner within = refl
      sectors (suc (suc k)) inner within = absurd (omega (arith, within))

      entered : (k : ℕ) → 0 < k → k < 3 → IsTrue (is_entered (legs_with 2) k)
      entered zero inner within = absurd (omega (arith, inner))
      entered (suc zero) inner within = refl
      entered (suc (suc zero)) inner within = refl
      entered (suc (suc (suc k))) inner within = absurd (omega (arith, within))

      left : (k : ℕ) → k + 1 < 3 → IsTrue (is_left (legs_with 2) k)
      left zero within = refl
      left (suc zero) within = refl
      left (suc (suc k)) within = absurd (omega (arith, within))

    pub flight_is : IsFlight 8 (places_with leave arrive inside) [] flight
    flight_is = record {
      name = named;
      forward = omega arith;
      within = omega arith;
      ground_delay = omega arith;
      arrival_delay = omega arith;
      origin = airport_at from ends.origin;
      destination = airport_at to ends.destination;
      apart = ends.apart;
      route = route_is;
      cost = refl;
    }

  outward : AreEnds 0 1
  outward = record {
    origin = omega arith;
    destination = omega arith;
    apart = λ is. omega (arith, is);
  }

  pub there_flies : IsFlight 8 (places_with leave arrive inside) [] there
  there_flies = flight_is (codes "F1") refl 0 1 0 outward (omega arith)

  pub beside_flies : IsFlight 8 (places_with leave arrive inside) [] beside
  beside_flies = flight_is (codes "F2") refl 0 1 0 outward (omega arith)

  pub back_flies : IsFlight 8 (places_with leave arrive inside) [] back
  back_flies =
      let inward : AreEnds 1 0 =
      record {
        origin = omega arith;
        destination = omega arith;
        apart = λ is. omega (arith, is);
      } in
      flight_is (codes "G1") refl 1 0 3 inward (omega arith)

  -- a day of the first flight and another one
  pub day_is : (second : Flight) (connections : List Connection)
      → IsFlight 8 (places_with leave arrive inside) [] second → there.name ≢ second.name
      → length second.nodes ≤ 3 → length connections ≤ 1
      → All (IsConnection (there ∷ second ∷ [])) connections
      → AllPairs IsOtherConnection connections
      → IsScenario (day_with (places_with leave arrive inside) second connections)
  day_is second connections flies other short few each once = record {
    day = record {
      year_from = omega arith;
      year_to = omega arith;
      date = record {
        month_from = omega arith;
        month_to = omega arith;
        day_from = omega arith;
        day_to = omega arith;
      };
      hour = omega arith;
      minute = omega arith;
      minutes_from = omega arith;
      minutes_to = omega arith;
      periods_from = omega arith;
      periods_to = omega arith;
    };
    places = record {
      few = omega arith;
      each = places_are;
      names = pairs_three (λ (a b : Place). a.name ≢ b.name) _ _ _
          (λ is. let letter : 79 ≡ 68 = by_letter 0 is in omega (arith, letter))
          (λ is. let letter : 79 ≡ 83 = by_letter 0 is in omega (arith, letter))
          (λ is. let letter : 68 ≡ 83 = by_letter 0 is in omega (arith, letter));
    };
    flights = record {
      few = omega arith;
      each = all_two (IsFlight 8 (places_with leave arrive inside) []) there second there_flies
          flies;
      names = pairs_two (λ (a b : Flight). a.name ≢ b.name) there second other;
      nodes_few = omega (arith, short);
    };
    tables = record {
      few = omega arith;
      each = λ k d within. absurd (omega (arith, within));
      names = λ i j d less within. absurd (omega (arith, within));
    };
    connections = record {
      few = omega (arith, few);
      each = each;
      once = once;
    };
  }

  pub two_flights-valid : IsScenario (two_flights leave arrive inside)
  two_flights-valid =
      day_is beside [] beside_flies (λ is. let letter : 49 ≡ 50 = by_letter 1 is in
      omega (arith, letter)) (omega arith) (omega arith)
      (All-nil (IsConnection (there ∷ beside ∷ []))) (no_pairs IsOtherConnection)

pub there_and_back-valid : (leave turnaround : ℕ) → leave ≤ most_capacity → turnaround ≤ most_delay
    → IsScenario (there_and_back leave turnaround)
there_and_back-valid leave turnaround few short =
    let connection : Connection = record { first = 0; second = 1; turnaround = turnaround } in
    day_is leave 9 9 few (omega arith) (omega arith) back (connection ∷ [])
    (back_flies leave 9 9 few (omega arith) (omega arith))
    (λ is. let letter : 70 ≡ 71 = by_letter 0 is in
    omega (arith, letter)) (omega arith) (omega arith)
    (all_one (IsConnection (there ∷ back ∷ [])) connection (record {
      first = omega arith;
      second = omega arith;
      together = refl;
      turnaround = short;
    }))
    (λ i j d less within. absurd (omega (arith, less, within)))

-- There is one way on from each node.
pub one_way_on : IsChain (legs_with 2)
one_way_on = pairs_two (λ (a b : Leg). a.from ≢ b.from) _ _ (λ is. omega (arith, is))

-- Such a trip in the flight's windows, with two periods inside the sector, is one of the flight.
pub trip_is : (name : List ℕ) (from to sd : ℕ) (cost : Cost) (departure arrival : ℕ)
    → sd ≤ departure → departure ≤ min (sd + 4) 7
    → sd + 2 ≤ arrival → arrival ≤ min (sd + 2 + 5) 7 → departure + 2 ≤ arrival
    → IsTrip 8 (flight_with name from to sd cost) (trip_at departure arrival)
trip_is name from to sd cost departure arrival early late after before long = (
  refl,
  record { early = early; late = late },
  (
    (
      0,
      record { from = 0; to = 1; least = 0 },
      omega arith,
      refl,
      record {
        from = refl;
        to = refl;
        least = omega arith;
      },
    ),
    record { early = omega arith; late = omega arith },
    (
      (
        1,
        record { from = 1; to = 2; least = 2 },
        omega arith,
        refl,
        record {
          from = refl;
          to = refl;
          least = omega arith;
        },
      ),
      record { early = after; late = before },
      refl,
    ),
  ),
)

pub there_is : IsTrip 8 there (trip_at 0 2)
there_is = trip_is (codes "F1") 0 1 0 (Linear 1 2) 0 2 (omega arith) (omega arith) (omega arith)
    (omega arith) (omega arith)

pub beside_is : (departure arrival : ℕ) → departure ≤ 4 → arrival ≤ 7 → departure + 2 ≤ arrival
    → IsTrip 8 beside (trip_at departure arrival)
beside_is departure arrival late before long =
    trip_is (codes "F2") 0 1 0 (Linear 1 2) departure arrival (omega arith) (omega (arith, late))
    (omega (arith, long)) (omega (arith, before)) long

pub back_is : IsTrip 8 back (trip_at 3 5)
back_is = trip_is (codes "G1") 1 0 3 (Linear 1 2) 3 5 (omega arith) (omega arith) (omega arith)
    (omega arith) (omega arith)

-- the test holds of each number below n
abbrev pub all_below : ℕ → (ℕ → Bool) → Bool
all_below zero test = true
all_below (suc n) test = test 0 && all_below n (λ k. test (suc k))

below : (n k : ℕ) (test : ℕ → Bool) → all_below n test ≡ true → k < n → test k ≡ true
below zero k test all less = absurd (omega (arith, less))
below (suc n) zero test all less = (and_parts (test 0) _ all).0
below (suc n) (suc k) test all less =
    below n k (λ k. test (suc k)) (and_parts (test 0) _ all).1 (omega (arith, less))

least_or_same : (a b : ℕ) → nat_le a b ≡ true → a ≤ b
least_or_same a b test = grind (arith, nat_tests)

module _ (parts : Parts) (plan : List (List Stop)) where
  -- the counts are within the capacities of this kind in each place and period
  abbrev pub fits : CapKind → (ℕ → ℕ → ℕ) → Bool
  fits kind count = all_below (length parts.places)
      (λ k. all_below parts.day.periods
      (λ t. nat_le (count k t) (capacity_of parts.places kind k t)))

  fits_at : (kind : CapKind) (count : ℕ → ℕ → ℕ) → fits kind count ≡ true
      → (k t : ℕ) → IsTrue (has_kind kind (slice_get parts.places k)) → t < parts.day.periods
      → count k t ≤ capacity_of parts.places kind k t
  fits_at kind count all k t has period =
      let test : ℕ → ℕ → Bool = λ k t. nat_le (count k t) (capacity_of parts.places kind k t) in
      let place = below (length parts.places) k (λ k. all_below parts.day.periods (test k)) all
      (has_kind-within kind parts.places k has) in
      least_or_same (count k t) (capacity_of parts.places kind k t)
      (below parts.day.periods t (test k) place period)

  -- a plan of trips with their turnarounds is feasible where its counts fit
  pub feasible_is : AreTrips parts.day.periods parts.flights plan
      → All (KeepsTurn plan) parts.connections
      → fits kind.Dep (departures_at parts.flights plan) ≡ true
      → fits kind.Arr (arrivals_at parts.flights plan) ≡ true
      → fits kind.Sector (occupancy_at parts.flights plan) ≡ true → IsFeasible parts plan
  feasible_is trips turns departures arrivals sectors = record {
    trips = trips;
    turns = turns;
    departures = fits_at kind.Dep (departures_at parts.flights plan) departures;
    arrivals = fits_at kind.Arr (arrivals_at parts.flights plan) arrivals;
    sectors = fits_at kind.Sector (occupancy_at parts.flights plan) sectors;
  }
