-- Counts over the trips of a plan.
use Rattle.std.proofs.Common.{◌≡◌, ℕ, suc, zero, ◌+◌, ◌<◌, ◌≤◌, ◌==◌, ◌&&◌, Bool, true, false, nat_le, nat_lt, List, [], ◌∷◌, length, map, get_or, set, slice_get, Some, refl, ap, ◌∙◌, subst, arith}
use Rattle.std.proofs.lemmas.Bool.Decides.{nat_tests}
use Rattle.flow_types.specs.declared.flight.Flight.{Flight}
use Rattle.flow_types.specs.declared.flight.Leg.{Leg}
use Rattle.flow_types.specs.declared.plan.Stop.{Stop}
use Rattle.flow_types.specs.Counts.{one_if, departs_at, arrives_from, arrives_at, stays_from, stays_at, counted}
use Rattle.flow_types.specs.Trips.{IsTrip, IsOnward, IsStep, place_at}
use Rattle.plan_rules.specs.Loads.{IsTripOrNone, AreTripsOrNone}

-- a test counts once
pub one_if-le : (b : Bool) → one_if b ≤ 1
one_if-le true = omega arith
one_if-le false = omega arith

-- what isn't there counts nothing
pub counted-none : (count : Flight → List Stop → ℕ) → ((flight : Flight) → count flight [] ≡ 0)
    → (flights : List Flight) → counted count flights (map (λ flight. []) flights) ≡ 0
counted-none count none [] = refl
counted-none count none (flight ∷ flights) =
    omega (arith, none flight, counted-none count none flights)

-- a trip in place of another one counts as much more as it counts more
pub counted-put : (count : Flight → List Stop → ℕ) (flights : List Flight)
    (trips : List (List Stop)) (n : ℕ) (flight : Flight) (before stops : List Stop)
    → slice_get flights n ≡ Some flight → slice_get trips n ≡ Some before
    → counted count flights (set trips n stops) + count flight before
    ≡ counted count flights trips + count flight stops
counted-put count [] trips n flight before stops here held = cc
counted-put count (f ∷ flights) [] n flight before stops here held = cc
counted-put count (f ∷ flights) (trip ∷ trips) zero flight before stops here held =
    let same : f ≡ flight = cc in
    let was : trip ≡ before = cc in
    let then : count f trip ≡ count flight before =
    ap (λ (g : Flight). count g trip) same ∙ ap (count flight) was in
    let now : count f stops ≡ count flight stops = ap (λ (g : Flight). count g stops) same in
    omega arith
counted-put count (f ∷ flights) (trip ∷ trips) (suc n) flight before stops here held =
    omega (arith, counted-put count flights trips n flight before stops here held)

-- one trip more counts as much more
pub counted-set : (count : Flight → List Stop → ℕ) → ((flight : Flight) → count flight [] ≡ 0)
    → (flights : List Flight) (trips : List (List Stop)) (n : ℕ) (flight : Flight)
    (stops : List Stop)
    → slice_get flights n ≡ Some flight → slice_get trips n ≡ Some []
    → counted count flights (set trips n stops) ≡ counted count flights trips + count flight stops
counted-set count none flights trips n flight stops here empty =
    omega (arith, none flight, counted-put count flights trips n flight [] stops here empty)

-- if each trip counts once, there are no more than flights
pub counted-le : (count : Flight → List Stop → ℕ) (periods : ℕ)
    → ((flight : Flight) (trip : List Stop) → IsTripOrNone periods flight trip
    → count flight trip ≤ 1)
    → (flights : List Flight) (trips : List (List Stop)) → AreTripsOrNone periods flights trips
    → counted count flights trips ≤ length flights
counted-le count periods once [] trips each = omega arith
counted-le count periods once (flight ∷ flights) [] each = absurd each
counted-le count periods once (flight ∷ flights) (trip ∷ trips) each =
    omega (arith, once flight trip each.0, counted-le count periods once flights trips each.1)

-- a trip departs once, arrives once, and is in a place at most once a period
pub departs_at-le : (k t : ℕ) (flight : Flight) (trip : List Stop) → departs_at k t flight trip ≤ 1
departs_at-le k t flight [] = omega arith
departs_at-le k t flight (stop ∷ rest) =
    one_if-le ((place_at flight stop.node == k) && (stop.time == t))

arrives_from-le : (k t : ℕ) (flight : Flight) (stop : Stop) (rest : List Stop)
    → arrives_from k t flight stop rest ≤ 1
arrives_from-le k t flight stop [] =
    one_if-le ((place_at flight stop.node == k) && (stop.time == t))
arrives_from-le k t flight stop (next ∷ rest) = arrives_from-le k t flight next rest

pub arrives_at-le : (k t : ℕ) (flight : Flight) (trip : List Stop) → arrives_at k t flight trip ≤ 1
arrives_at-le k t flight [] = omega arith
arrives_at-le k t flight (stop ∷ rest) = arrives_from-le k t flight stop rest

-- time goes on along a step
step_later : (legs : List Leg) (stop next : Stop) → IsStep legs stop next → stop.time ≤ next.time
step_later legs stop next step = omega (arith, step.4.least)

-- a stay from a stop on: none before the stop, and at most one in a period
record StaysOnce (k t : ℕ) (flight : Flight) (stop : Stop) (rest : List Stop) : Type 0 where
  before : t < stop.time → stays_from k t flight stop rest ≡ 0
  once : stays_from k t flight stop rest ≤ 1

one_stay : (b : Bool) (k t a n more total : ℕ) → a ≤ n
    → total ≡ one_if (b && nat_le a t && nat_lt t n) + more → (t < n → more ≡ 0) → more ≤ 1
    → (t < a → total ≡ 0) × (total ≤ 1)
one_stay true k t a n more total later is before once =
    (λ early. grind (arith, nat_tests), grind (arith, nat_tests))
one_stay false k t a n more total later is before once =
    (λ early. grind (arith, nat_tests), grind (arith, nat_tests))

stays_once : (periods k t : ℕ) (flight : Flight) (stop : Stop) (rest : List Stop)
    → IsOnward periods flight stop rest → StaysOnce k t flight stop rest
stays_once periods k t flight stop [] onward = record { before = λ early. refl; once = omega arith }
stays_once periods k t flight stop (next ∷ rest) onward =
    let more = stays_once periods k t flight next rest onward.2 in
    let both = one_stay (place_at flight stop.node == k) k t stop.time next.time
    (stays_from k t flight next rest) _
    (step_later flight.legs stop next onward.0) refl more.before more.once in
    record { before = both.0; once = both.1 }

pub stays_at-le : (periods k t : ℕ) (flight : Flight) (trip : List Stop)
    → IsTripOrNone periods flight trip → stays_at k t flight trip ≤ 1
stays_at-le periods k t flight [] trip = omega arith
stays_at-le periods k t flight (stop ∷ rest) trip =
    (stays_once periods k t flight stop rest trip.2).once

pub stays_at-once : (periods k t : ℕ) (flight : Flight) (trip : List Stop)
    → IsTrip periods flight trip → stays_at k t flight trip ≤ 1
stays_at-once periods k t flight [] trip = absurd trip
stays_at-once periods k t flight (stop ∷ rest) trip =
    (stays_once periods k t flight stop rest trip.2).once

-- one more flight is there
pub AreTripsOrNone-set : (periods : ℕ) (flights : List Flight) (trips : List (List Stop)) (n : ℕ)
    (flight : Flight) (stops : List Stop)
    → slice_get flights n ≡ Some flight → IsTripOrNone periods flight stops
    → AreTripsOrNone periods flights trips → AreTripsOrNone periods flights (set trips n stops)
AreTripsOrNone-set periods [] trips n flight stops here trip each = cc
AreTripsOrNone-set periods (f ∷ flights) [] n flight stops here trip each = absurd each
AreTripsOrNone-set periods (f ∷ flights) (t ∷ trips) zero flight stops here trip each =
    let same : flight ≡ f = cc in
    (subst (λ (g : Flight). IsTripOrNone periods g stops) same trip, each.1)
AreTripsOrNone-set periods (f ∷ flights) (t ∷ trips) (suc n) flight stops here trip each =
    (each.0, AreTripsOrNone-set periods flights trips n flight stops here trip each.1)

-- no flight is there
pub AreTripsOrNone-none : (periods : ℕ) (flights : List Flight)
    → AreTripsOrNone periods flights (map (λ flight. []) flights)
AreTripsOrNone-none periods [] = tt
AreTripsOrNone-none periods (flight ∷ flights) = (tt, AreTripsOrNone-none periods flights)

pub AreTripsOrNone-length : (periods : ℕ) (flights : List Flight) (trips : List (List Stop))
    → AreTripsOrNone periods flights trips → length trips ≡ length flights
AreTripsOrNone-length periods [] [] each = refl
AreTripsOrNone-length periods [] (trip ∷ trips) each = absurd each
AreTripsOrNone-length periods (flight ∷ flights) [] each = absurd each
AreTripsOrNone-length periods (flight ∷ flights) (trip ∷ trips) each =
    ap suc (AreTripsOrNone-length periods flights trips each.1)

-- whose trip is empty in a plan of empty trips
pub none_at : (flights : List Flight) (n : ℕ)
    → get_or {A = List Stop} (map (λ flight. []) flights) n [] ≡ []
none_at [] n = refl
none_at (flight ∷ flights) zero = refl
none_at (flight ∷ flights) (suc n) = none_at flights n
