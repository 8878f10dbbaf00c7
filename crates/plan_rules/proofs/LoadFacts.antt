-- Loads with no trips, and with one trip more or less.
use Rattle.std.proofs.Common.{◌≡◌, ◌≢◌, ◌⊎◌, ℕ, ◌+◌, ◌<◌, ◌≤◌, List, [], ◌∷◌, length, get_or, set, slice_get, Some, None, Option, refl, sym, ap, ◌∙◌, inl, inr, replicate, arith}
use Rattle.std.proofs.lemmas.Bool.{cases_eq, cases_lt}
use Rattle.std.proofs.lemmas.List.{get_or-set_same, get_or-set_other, get_or-replicate, get_or_past, length-replicate, length-set}
use Rattle.flow_types.specs.declared.flight.Flight.{Flight}
use Rattle.flow_types.specs.declared.parts.Parts.{Parts}
use Rattle.flow_types.specs.declared.plan.Stop.{Stop}
use Rattle.flow_types.specs.Counts.{departs_at, arrives_at, stays_at, counted}
use Rattle.flow_types.specs.Limits.{most_flights}
use Rattle.flow_types.specs.Trips.{IsTrip, departure_of, arrival_of}
use Rattle.plan_rules.specs.Loads.{AreLoads, AreTripsOrNone, ChangesTrip, HasSize, IsClear, IsMadeFor, IsTripOrNone, no_trips, stops_after}
use Rattle.plan_rules.specs.Tally.{CountGrid, Tally}
use Rattle.plan_rules.specs.Grid.{Changes, Fits, IsEmpty, changed, count_at}
use Rattle.plan_rules.specs.declared.grid.Change.{Change}
use Rattle.plan_rules.specs.declared.grid.Change.TheVariants as change
use Rattle.plan_rules.proofs.CountFacts.{counted-none, counted-put, counted-le, departs_at-le, arrives_at-le, stays_at-le, AreTripsOrNone-set, AreTripsOrNone-none, AreTripsOrNone-length, none_at}

-- an empty grid counts no trips
empty_counts : (parts : Parts) (grid : CountGrid) (count : ℕ → ℕ → Flight → List Stop → ℕ)
    → ((k t : ℕ) (flight : Flight) → count k t flight [] ≡ 0)
    → HasSize (length parts.places) parts.day.periods grid → IsEmpty grid
    → (k t : ℕ) → k < length parts.places → t < parts.day.periods
    → count_at grid k t ≡ counted (count k t) parts.flights (no_trips parts)
empty_counts parts grid count none size empty k t k_in t_in =
    empty k t (omega (arith, size.wide)) (omega (arith, size.long))
    ∙ sym (counted-none (count k t) (none k t) parts.flights)

-- loads with nothing in them
pub AreLoads-none : (parts : Parts) (loads : Tally) → IsMadeFor parts loads → IsClear loads
    → AreLoads parts (no_trips parts) loads
AreLoads-none parts loads made clear = record {
  made = made;
  each = AreTripsOrNone-none parts.day.periods parts.flights;
  departures = empty_counts parts loads.departures departs_at
      (λ k t flight. refl) made.departures clear.departures;
  arrivals = empty_counts parts loads.arrivals arrives_at
      (λ k t flight. refl) made.arrivals clear.arrivals;
  sectors = empty_counts parts loads.inside stays_at (λ k t flight. refl) made.inside clear.inside;
  leaves = λ f f_in. clear.leaves f ∙ sym (ap departure_of (none_at parts.flights f));
  arrives = λ f f_in. clear.arrives f ∙ sym (ap arrival_of (none_at parts.flights f));
}

-- loads stay those of the scenario with a trip more, and with one less
IsMadeFor-change : (parts : Parts) (change : Change) (flight : Flight) (n : ℕ) (stops : List Stop)
    (old new : Tally) → IsMadeFor parts old → ChangesTrip change flight n stops old new
    → IsMadeFor parts new
IsMadeFor-change parts change flight n stops old new made changes = record {
  departures = record {
    wide = changes.departures.places ∙ made.departures.wide;
    long = changes.departures.periods ∙ made.departures.long;
  };
  arrivals = record {
    wide = changes.arrivals.places ∙ made.arrivals.wide;
    long = changes.arrivals.periods ∙ made.arrivals.long;
  };
  inside = record {
    wide = changes.inside.places ∙ made.inside.wide;
    long = changes.inside.periods ∙ made.inside.long;
  };
  leaves = ap length changes.leaves
      ∙ length-set old.leaves n (departure_of (stops_after change stops)) ∙ made.leaves;
  arrives = ap length changes.arrives
      ∙ length-set old.arrives n (arrival_of (stops_after change stops)) ∙ made.arrives;
}

-- what is there of a trip before the change
abbrev pub stops_before : Change → List Stop → List Stop
stops_before change.More stops = []
stops_before change.Less stops = stops

-- a count changes by that of the trip, as the sum over all trips does
sum_changed : (change : Change) (count : List Stop → ℕ) (moved : List Stop) (old new was now : ℕ)
    → count [] ≡ 0 → old ≡ was → was ≤ most_flights
    → now + count (stops_before change moved) ≡ was + count (stops_after change moved)
    → count (stops_after change moved) ≤ 1
    → (Fits change old (count moved) → new ≡ changed change old (count moved)) → new ≡ now
sum_changed change.More count moved old new was now none is few put once changes =
    let grown = changes (omega (arith, is, few, once)) in
    omega (arith, grown, put, none, is)
sum_changed change.Less count moved old new was now none is few put once changes =
    let shrunk = changes tt in
    omega (arith, shrunk, put, none, is)

-- the trips with one more, or one less
module _ (parts : Parts) (few : length parts.flights ≤ most_flights) (trips : List (List Stop))
    (each : AreTripsOrNone parts.day.periods parts.flights trips) (change : Change)
    (n : ℕ) (flight : Flight) (moved : List Stop)
    (here : slice_get parts.flights n ≡ Some flight)
    (held : slice_get trips n ≡ Some (stops_before change moved))
    (trip : IsTripOrNone parts.day.periods flight (stops_after change moved)) where
  abbrev stops : List Stop
  stops = stops_after change moved

  -- a grid counts them
  trip_changed : (count : ℕ → ℕ → Flight → List Stop → ℕ)
      → ((k t : ℕ) (f : Flight) → count k t f [] ≡ 0)
      → ((k t : ℕ) (f : Flight) (s : List Stop) → IsTripOrNone parts.day.periods f s
      → count k t f s ≤ 1)
      → (old new : CountGrid) → HasSize (length parts.places) parts.day.periods old
      → Changes change (λ k t. count k t flight moved) old new
      → ((k t : ℕ) → k < length parts.places → t < parts.day.periods
      → count_at old k t ≡ counted (count k t) parts.flights trips)
      → (k t : ℕ) → k < length parts.places → t < parts.day.periods
      → count_at new k t ≡ counted (count k t) parts.flights (set trips n stops)
  trip_changed count none once old new size changes are k t k_in t_in =
      let small = counted-le (count k t) parts.day.periods (once k t) parts.flights trips each in
      sum_changed change (count k t flight) moved (count_at old k t) (count_at new k t)
      (counted (count k t) parts.flights trips)
      (counted (count k t) parts.flights (set trips n stops)) (none k t flight)
      (are k t k_in t_in) (omega arith)
      (counted-put (count k t) parts.flights trips n flight (stops_before change moved) stops here
      held) (once k t flight stops trip)
      (changes.each k t (omega (arith, size.wide)) (omega (arith, size.long)))

  -- the times of the flights after it
  times_at : (time : List Stop → Option ℕ) (times : List (Option ℕ))
      → length times ≡ length parts.flights
      → ((f : ℕ) → f < length parts.flights → get_or times f None ≡ time (get_or trips f []))
      → n < length parts.flights → (f : ℕ) → f < length parts.flights → (f ≡ n) ⊎ (f ≢ n)
      → get_or (set times n (time stops)) f None ≡ time (get_or (set trips n stops) f [])
  times_at time times long are n_in f f_in (inl same) =
      let there = AreTripsOrNone-length parts.day.periods parts.flights trips each in
      ap (λ i. get_or (set times n (time stops)) i None) same
      ∙ get_or-set_same times n (time stops) None (omega arith)
      ∙ sym (ap time (ap (λ i. get_or (set trips n stops) i []) same
      ∙ get_or-set_same trips n stops [] (omega arith)))
  times_at time times long are n_in f f_in (inr other) =
      get_or-set_other times n f (time stops) None other ∙ are f f_in
      ∙ sym (ap time (get_or-set_other trips n f stops [] other))

  times_set : (time : List Stop → Option ℕ) (times : List (Option ℕ))
      → length times ≡ length parts.flights
      → ((f : ℕ) → f < length parts.flights → get_or times f None ≡ time (get_or trips f []))
      → n < length parts.flights → (f : ℕ) → f < length parts.flights
      → get_or (set times n (time stops)) f None ≡ time (get_or (set trips n stops) f [])
  times_set time times long are n_in f f_in =
      times_at time times long are n_in f f_in (cases_eq f n)

  -- the loads count them
  pub AreLoads-change : (old new : Tally) → AreLoads parts trips old
      → ChangesTrip change flight n moved old new → n < length parts.flights
      → AreLoads parts (set trips n stops) new
  AreLoads-change old new are changes n_in = record {
    made = IsMadeFor-change parts change flight n moved old new are.made changes;
    each = AreTripsOrNone-set parts.day.periods parts.flights trips n flight stops here trip each;
    departures = trip_changed departs_at (λ k t f. refl) (λ k t f s h. departs_at-le k t f s)
        old.departures new.departures are.made.departures changes.departures are.departures;
    arrivals = trip_changed arrives_at (λ k t f. refl) (λ k t f s h. arrives_at-le k t f s)
        old.arrivals new.arrivals are.made.arrivals changes.arrivals are.arrivals;
    sectors = trip_changed stays_at (λ k t f. refl)
        (λ k t f s h. stays_at-le parts.day.periods k t f s h) old.inside new.inside
        are.made.inside changes.inside are.sectors;
    leaves = λ f f_in. ap (λ times. get_or times f None) changes.leaves
        ∙ times_set departure_of old.leaves are.made.leaves are.leaves n_in f f_in;
    arrives = λ f f_in. ap (λ times. get_or times f None) changes.arrives
        ∙ times_set arrival_of old.arrives are.made.arrives are.arrives n_in f f_in;
  }

-- a trip is there
pub trip_there : (periods : ℕ) (flight : Flight) (stops : List Stop) → IsTrip periods flight stops
    → IsTripOrNone periods flight stops
trip_there periods flight [] trip = tt
trip_there periods flight (stop ∷ rest) trip = trip

none_in_by : (n f : ℕ) → (f < n) ⊎ (n ≤ f) → get_or {A = Option ℕ} (replicate n None) f None ≡ None
none_in_by n f (inl within) = get_or-replicate n f None None within
none_in_by n f (inr past) =
    let none : Option ℕ = None in
    let long = length-replicate n none in
    get_or_past (replicate n none) f none (omega arith)

-- no flight is there
pub none_in : (times : List (Option ℕ)) (n f : ℕ) → times ≡ replicate n None
    → get_or times f None ≡ None
none_in times n f is = ap (λ ts. get_or ts f None) is ∙ none_in_by n f (cases_lt f n)
