-- A trip breaks no rule exactly where it is a trip.
use Rattle.std.proofs.Common.{◌≡◌, ℕ, suc, zero, ◌+◌, ◌<◌, ◌≤◌, ◌==◌, Bool, true, false, ◌&&◌, cond, nat_le, List, [], ◌∷◌, length, get_or, slice_get, Some, None, All, AllPairs, refl, sym, ap, ◌∙◌, subst, arith}
use Rattle.std.proofs.lemmas.Bool.Decides.{nat_tests}
use Rattle.std.proofs.lemmas.List.{get_or_read}
use Rattle.flow_types.specs.declared.flight.Flight.{Flight}
use Rattle.flow_types.specs.declared.flight.Leg.{Leg}
use Rattle.flow_types.specs.declared.plan.Stop.{Stop}
use Rattle.flow_types.specs.Feasible.{AreTrips}
use Rattle.flow_types.specs.Routes.{IsOtherLeg}
use Rattle.flow_types.specs.Trips.{IsOnward, IsStep, IsTrip, IsWithinHours, earliest_of, latest_of}
use Rattle.plan_rules.specs.FirstBroken.{broken_onward, broken_step, broken_trip, broken_trip_in, broken_window, first_along, is_within_hours, leg_between, unless}
use Rattle.plan_rules.specs.Judge.{IsUpward}
use Rattle.plan_rules.specs.declared.broken.Broken.TheVariants as broken
use Rattle.plan_rules.proofs.FirstFacts.{first_along-at, first_along-none, or_none, or_nones, unless_none, unless_true}
use Rattle.plan_rules.proofs.JudgeFacts.{AreTrips-at}

-- the window of a stop
pub window_from : (periods number : ℕ) (flight : Flight) (place : ℕ) (stop : Stop)
    → broken_window periods number flight place stop ≡ None → IsWithinHours periods flight stop
window_from periods number flight place stop none =
    let holds = unless_none (is_within_hours periods flight stop)
    (broken.Window number place) none in
    record { early = grind (arith, nat_tests); late = grind (arith, nat_tests) }

pub window_to : (periods number : ℕ) (flight : Flight) (place : ℕ) (stop : Stop)
    → IsWithinHours periods flight stop → broken_window periods number flight place stop ≡ None
window_to periods number flight place stop hours =
    let early : earliest_of flight stop.node ≤ stop.time = hours.early in
    let late : stop.time ≤ latest_of periods flight stop.node = hours.late in
    unless_true (is_within_hours periods flight stop) (broken.Window number place)
    (grind (arith, nat_tests))

-- the leg joins the nodes
abbrev joins : ℕ → ℕ → Leg → Bool
joins from to leg = (leg.from == from) && (leg.to == to)

ends : (from to : ℕ) (leg : Leg) → joins from to leg ≡ true → (leg.from ≡ from) × (leg.to ≡ to)
ends from to leg test = (grind (arith, nat_tests), grind (arith, nat_tests))

joined : (from to : ℕ) (leg : Leg) → leg.from ≡ from → leg.to ≡ to → joins from to leg ≡ true
joined from to leg starts leads = grind (arith, nat_tests)

in_time : (a b : ℕ) → nat_le a b ≡ true → a ≤ b
in_time a b test = grind (arith, nat_tests)

timely : (a b : ℕ) → a ≤ b → nat_le a b ≡ true
timely a b less = grind (arith, nat_tests)

-- a leg is found, and it is in time
one_step : (number place : ℕ) (stop next : Stop) (leg : Leg) (legs : List Leg) (test : Bool)
    → joins stop.node next.node leg ≡ test
    → (broken_step number place stop next (leg_between legs stop.node next.node) ≡ None
    → IsStep legs stop next)
    → broken_step number place stop next
    (cond test (Some leg) (leg_between legs stop.node next.node)) ≡ None
    → IsStep (leg ∷ legs) stop next
one_step number place stop next leg legs true test more none =
    let both = ends stop.node next.node leg test in
    let least = in_time (stop.time + leg.least) next.time
    (unless_none (nat_le (stop.time + leg.least) next.time)
    (broken.Least number place leg.least) none) in
    (0, leg, omega arith, refl, record { from = both.0; to = both.1; least = least })
one_step number place stop next leg legs false test more none =
    let step = more none in (suc step.0, step.1, omega (arith, step.2), step.3, step.4)

pub step_from : (number place : ℕ) (stop next : Stop) (legs : List Leg)
    → broken_step number place stop next (leg_between legs stop.node next.node) ≡ None
    → IsStep legs stop next
step_from number place stop next [] none = cc
step_from number place stop next (leg ∷ legs) none =
    one_step number place stop next leg legs (joins stop.node next.node leg) refl
    (step_from number place stop next legs) none

-- the leg is the one that is found, since no other one joins the same nodes
other_leg : (from to k : ℕ) (first leg : Leg) (legs : List Leg) (test : Bool)
    → joins from to first ≡ test → AllPairs IsOtherLeg (first ∷ legs) → k < length legs
    → get_or legs k leg ≡ leg
    → joins from to leg ≡ true → leg_between legs from to ≡ Some leg
    → cond test (Some first) (leg_between legs from to) ≡ Some leg
other_leg from to k first leg legs false test once within is here found = found
other_leg from to k first leg legs true test once within is here found =
    let differ : IsOtherLeg first leg =
    subst (λ (l : Leg). IsOtherLeg first l) is
    (once 0 (suc k) leg (omega arith) (omega arith)) in
    let a = ends from to first test in
    let b = ends from to leg here in
    absurd (differ (a.0 ∙ sym b.0) (a.1 ∙ sym b.1))

the_leg : (from to k : ℕ) (leg : Leg) (legs : List Leg) → AllPairs IsOtherLeg legs → k < length legs
    → get_or legs k leg ≡ leg → joins from to leg ≡ true → leg_between legs from to ≡ Some leg
the_leg from to k leg [] once within is here = absurd (omega arith)
the_leg from to zero leg (first ∷ legs) once within is here =
    let found : joins from to first ≡ true = ap (joins from to) is ∙ here in rw found (ap Some is)
the_leg from to (suc k) leg (first ∷ legs) once within is here =
    other_leg from to k first leg legs (joins from to first) refl once (omega arith) is here
    (the_leg from to k leg legs
    (λ i j d less more. once (suc i) (suc j) d (omega arith) (omega arith))
    (omega arith) is here)

step_to : (number place : ℕ) (stop next : Stop) (legs : List Leg) → AllPairs IsOtherLeg legs
    → IsStep legs stop next
    → broken_step number place stop next (leg_between legs stop.node next.node) ≡ None
step_to number place stop next legs once step =
    let leg = step.1 in
    ap (broken_step number place stop next)
    (the_leg stop.node next.node step.0 leg legs once step.2 step.3
    (joined stop.node next.node leg step.4.from step.4.to))
    ∙ unless_true (nat_le (stop.time + leg.least) next.time) (broken.Least number place leg.least)
    (timely (stop.time + leg.least) next.time step.4.least)

-- the rest of the trip
onward_from : (periods number : ℕ) (flight : Flight) (place : ℕ) (stop : Stop) (rest : List Stop)
    → broken_onward periods number flight place stop rest ≡ None → IsOnward periods flight stop rest
onward_from periods number flight place stop [] none =
    let last = unless_none (stop.node + 1 == length flight.nodes) (broken.Ending number) none in
    grind (arith, nat_tests)
onward_from periods number flight place stop (next ∷ rest) none =
    let step = or_none (broken_step number place stop next
    (leg_between flight.legs stop.node next.node)) _ none in
    let hours = or_none (broken_window periods number flight (place + 1) next) _ step.1 in (
      step_from number place stop next flight.legs step.0,
      window_from periods number flight
          (place + 1) next hours.0,
      onward_from periods number flight (place + 1) next rest hours.1,
    )

onward_to : (periods number : ℕ) (flight : Flight) → AllPairs IsOtherLeg flight.legs
    → (place : ℕ) (stop : Stop) (rest : List Stop) → IsOnward periods flight stop rest
    → broken_onward periods number flight place stop rest ≡ None
onward_to periods number flight once place stop [] onward =
    unless_true (stop.node + 1 == length flight.nodes) (broken.Ending number)
    (grind (arith, nat_tests))
onward_to periods number flight once place stop (next ∷ rest) onward =
    or_nones _ _ (step_to number place stop next flight.legs once onward.0)
    (or_nones _ _ (window_to periods number flight (place + 1) next onward.1)
    (onward_to periods number flight once (place + 1) next rest onward.2))

pub trip_from : (periods number : ℕ) (flight : Flight) (stops : List Stop)
    → broken_trip periods number flight stops ≡ None → IsTrip periods flight stops
trip_from periods number flight [] none = cc
trip_from periods number flight (stop ∷ rest) none =
    let start = or_none (unless (stop.node == 0) (broken.Start number)) _ none in
    let hours = or_none (broken_window periods number flight 0 stop) _ start.1 in
    let zeroth = unless_none (stop.node == 0) (broken.Start number) start.0 in (
      grind (arith, nat_tests),
      window_from periods number flight 0 stop hours.0,
      onward_from periods
          number flight 0 stop rest hours.1,
    )

pub trip_to : (periods number : ℕ) (flight : Flight) (stops : List Stop)
    → AllPairs IsOtherLeg flight.legs → IsTrip periods flight stops
    → broken_trip periods number flight stops ≡ None
trip_to periods number flight [] once trip = absurd trip
trip_to periods number flight (stop ∷ rest) once trip =
    let start : stop.node ≡ 0 = trip.0 in
    or_nones _ _ (unless_true (stop.node == 0) (broken.Start number) (grind (arith, nat_tests)))
    (or_nones _ _ (window_to periods number flight 0 stop trip.1)
    (onward_to periods number flight once 0 stop rest trip.2))

-- each flight has a trip, and there are as many
trips_each : (periods : ℕ) (flights : List Flight) (plan : List (List Stop))
    → length plan ≡ length flights
    → ((k : ℕ) (flight : Flight) → slice_get flights k ≡ Some flight
    → IsTrip periods flight (get_or plan k [])) → AreTrips periods flights plan
trips_each periods [] [] same each = tt
trips_each periods [] (trip ∷ plan) same each = absurd (omega arith)
trips_each periods (flight ∷ flights) [] same each = absurd (omega arith)
trips_each periods (flight ∷ flights) (trip ∷ plan) same each = (
  each 0 flight refl,
  trips_each periods flights plan (omega arith)
      (λ k f is. each (suc k) f is),
)

pub trips_from : (periods : ℕ) (flights : List Flight) (plan : List (List Stop))
    → length plan ≡ length flights → first_along (broken_trip_in periods plan) flights ≡ None
    → AreTrips periods flights plan
trips_from periods flights plan same none =
    trips_each periods flights plan same
    (λ k flight is. trip_from periods k flight (get_or plan k [])
    (first_along-at (broken_trip_in periods plan) flights k flight none is))

pub trips_to : (periods : ℕ) (flights : List Flight) (plan : List (List Stop))
    → ((k : ℕ) (flight : Flight) → slice_get flights k ≡ Some flight
    → AllPairs IsOtherLeg flight.legs)
    → ((k : ℕ) (flight : Flight) → slice_get flights k ≡ Some flight → k < length plan)
    → AreTrips periods flights plan → first_along (broken_trip_in periods plan) flights ≡ None
trips_to periods flights plan once within trips =
    first_along-none (broken_trip_in periods plan) flights
    (λ k flight is. trip_to periods k flight (get_or plan k []) (once k flight is)
    (AreTrips-at periods flights plan k [] flight trips is (within k flight is)))

-- the leg that is found leads upward
one_upward : (from to : ℕ) (leg first : Leg) (legs : List Leg) (test : Bool)
    → joins from to first ≡ test → IsUpward first
    → (leg_between legs from to ≡ Some leg → from < to)
    → cond test (Some first) (leg_between legs from to) ≡ Some leg → from < to
one_upward from to leg first legs true test upward more found =
    let both = ends from to first test in omega (arith, upward, both.0, both.1)
one_upward from to leg first legs false test upward more found = more found

pub leg_upward : (from to : ℕ) (leg : Leg) (legs : List Leg) → All IsUpward legs
    → leg_between legs from to ≡ Some leg → from < to
leg_upward from to leg [] upward found = cc
leg_upward from to leg (first ∷ legs) upward found =
    one_upward from to leg first legs (joins from to first) refl (upward 0 first (omega arith))
    (leg_upward from to leg legs (λ k d within. upward (suc k) d (omega arith))) found

-- the trip at a position, as it is read
pub trip_read : (periods : ℕ) (plan : List (List Stop)) (k : ℕ) (flight : Flight)
    (trip stops : List Stop) → k < length plan → trip ≡ get_or plan k trip → stops ≡ trip
    → broken_trip_in periods plan k flight ≡ broken_trip periods k flight stops
trip_read periods plan k flight trip stops within is same =
    ap (broken_trip periods k flight) (sym (get_or_read plan k trip within is []) ∙ sym same)
