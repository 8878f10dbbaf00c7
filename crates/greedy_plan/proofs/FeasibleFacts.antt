-- Trips that fit, one after another, make a plan that keeps every rule.
use Rattle.std.proofs.Common.{Option, None, Bool, true, false, not, MatchOption, ℤ, ◌≡◌, ◌≢◌, ◌⊎◌, ℕ, zero, suc, ◌+◌, ◌<◌, ◌≤◌, List, [], ◌∷◌, ◌++◌, length, map, take, get_or, set, slice_get, Some, IsTrue, length-append, refl, sym, ap, ◌∙◌, subst, inl, inr, arith}
use Rattle.std.proofs.lemmas.Bool.{cases_eq, cases_lt}
use Rattle.std.proofs.Math.Seq.{take-append_seam, take-length}
use Rattle.std.proofs.lemmas.List.{length-take-le, take-append-le}
use Rattle.std.proofs.lemmas.Option.{slice_get-get_or, slice_get_within}
use Rattle.std.specs.Option.{is_some, option_and_then}
use Rattle.exact_sums.specs.Leasts.{IsLeast}
use Rattle.exact_sums.proofs.ItemFacts.{All-item, slice_get-set_other}
use Rattle.flow_types.specs.declared.flight.Connection.{Connection}
use Rattle.flow_types.specs.declared.flight.Flight.{Flight}
use Rattle.flow_types.specs.declared.parts.Parts.{Parts}
use Rattle.flow_types.specs.declared.place.CapKind.{CapKind}
use Rattle.flow_types.specs.declared.place.CapKind.TheVariants as kind
use Rattle.flow_types.specs.declared.plan.Stop.{Stop}
use Rattle.flow_types.specs.Capacities.{capacity_of, has_kind}
use Rattle.flow_types.specs.Counts.{arrives_at, arrivals_at, counted, departs_at, departures_at, occupancy_at, stays_at}
use Rattle.flow_types.specs.Feasible.{AreTrips, IsFeasible, KeepsTurn}
use Rattle.flow_types.specs.Trips.{IsTrip, arrival_of, departure_of}
use Rattle.flight_routes.specs.Fits.{FitsAs, HasRoom, KeepsOwnTurn}
use Rattle.flight_routes.specs.Inside.{IsTripIn}
use Rattle.plan_rules.proofs.CountFacts.{counted-none, counted-set}
use Rattle.time_windows.specs.Boxes.{Box}
use Rattle.plan_rules.specs.Tally.{Tally}
use Rattle.plan_rules.specs.Loads.{AreLoads, IsTripAt, no_trips}
use Rattle.greedy_plan.specs.Greedy.{AreChosen, IsChosen, IsGreedy, IsOneMore, with_rest}

-- trips, and no stops for the other flights
with_rest-none : (flights : List Flight) → with_rest flights [] ≡ map (λ flight. []) flights
with_rest-none [] = refl
with_rest-none (flight ∷ flights) = ap (λ trips. [] ∷ trips) (with_rest-none flights)

pub with_rest-next : (flights : List Flight) (plan : List (List Stop)) (flight : Flight)
    → slice_get flights (length plan) ≡ Some flight
    → slice_get (with_rest flights plan) (length plan) ≡ Some []
with_rest-next [] plan flight here = cc
with_rest-next (f ∷ flights) [] flight here = refl
with_rest-next (f ∷ flights) (trip ∷ plan) flight here = with_rest-next flights plan flight here

pub with_rest-more : (flights : List Flight) (plan : List (List Stop)) (n : ℕ) (flight : Flight)
    (trip : List Stop) → slice_get flights n ≡ Some flight → slice_get plan n ≡ Some trip
    → with_rest flights (take (suc n) plan) ≡ set (with_rest flights (take n plan)) n trip
with_rest-more [] plan n flight trip here is = cc
with_rest-more (f ∷ flights) [] n flight trip here is = cc
with_rest-more (f ∷ flights) (t ∷ plan) zero flight trip here is =
    let same : t ≡ trip = cc in
    ap (λ x. x ∷ with_rest flights []) same
with_rest-more (f ∷ flights) (t ∷ plan) (suc n) flight trip here is =
    ap (λ trips. t ∷ trips) (with_rest-more flights plan n flight trip here is)

pub with_rest-all : (flights : List Flight) (plan : List (List Stop))
    → length plan ≡ length flights → with_rest flights plan ≡ plan
with_rest-all [] [] long = refl
with_rest-all [] (trip ∷ plan) long = absurd (omega (arith, long))
with_rest-all (f ∷ flights) [] long = absurd (omega (arith, long))
with_rest-all (f ∷ flights) (trip ∷ plan) long =
    ap (λ trips. trip ∷ trips) (with_rest-all flights plan (omega (arith, long)))

-- every capacity and every connection is kept
record KeepsAll (parts : Parts) (trips : List (List Stop)) : Type 0 where
  departures : (k t : ℕ) → IsTrue (has_kind kind.Dep (slice_get parts.places k))
      → departures_at parts.flights trips k t ≤ capacity_of parts.places kind.Dep k t
  arrivals : (k t : ℕ) → IsTrue (has_kind kind.Arr (slice_get parts.places k))
      → arrivals_at parts.flights trips k t ≤ capacity_of parts.places kind.Arr k t
  sectors : (k t : ℕ) → IsTrue (has_kind kind.Sector (slice_get parts.places k))
      → occupancy_at parts.flights trips k t ≤ capacity_of parts.places kind.Sector k t
  turns : (n : ℕ) (connection : Connection) → slice_get parts.connections n ≡ Some connection
      → KeepsTurn trips connection

-- a count that has room for what is added to it
room_by : (old more new room : ℕ) → new ≡ old + more → old ≤ room → (0 < more → old + more ≤ room)
    → (0 < more) ⊎ (more ≤ 0) → new ≤ room
room_by old more new room is kept fits (inl some) = omega (arith, fits some)
room_by old more new room is kept fits (inr none) = omega arith

module _ (parts : Parts) (trips : List (List Stop)) (n : ℕ) (flight : Flight) (stops : List Stop)
    (here : slice_get parts.flights n ≡ Some flight) (absent : slice_get trips n ≡ Some []) where
  room_kept : (kind : CapKind) (count : ℕ → ℕ → Flight → List Stop → ℕ)
      → ((k t : ℕ) (f : Flight) → count k t f [] ≡ 0)
      → ((k t : ℕ) → IsTrue (has_kind kind (slice_get parts.places k))
      → counted (count k t) parts.flights trips ≤ capacity_of parts.places kind k t)
      → HasRoom parts kind (λ k t. counted (count k t) parts.flights trips)
      (λ k t. count k t flight stops)
      → (k t : ℕ) → IsTrue (has_kind kind (slice_get parts.places k))
      → counted (count k t) parts.flights (set trips n stops) ≤ capacity_of parts.places kind k t
  room_kept kind count none kept room k t has =
      room_by (counted (count k t) parts.flights trips) (count k t flight stops)
      (counted (count k t) parts.flights (set trips n stops)) (capacity_of parts.places kind k t)
      (counted-set (count k t) (none k t) parts.flights trips n flight stops here absent)
      (kept k t has) (room k t has) (cases_lt 0 (count k t flight stops))

  -- a connection of which the flight has no part is as it was
  turn_by : (connection : Connection) → KeepsTurn trips connection
      → KeepsOwnTurn (set trips n stops) n connection
      → (connection.first ≡ n) ⊎ (connection.first ≢ n)
      → (connection.second ≡ n) ⊎ (connection.second ≢ n)
      → KeepsTurn (set trips n stops) connection
  turn_by connection kept own (inl first) second = own (inl first)
  turn_by connection kept own (inr other) (inl second) = own (inr second)
  turn_by connection kept own (inr other) (inr another) = λ arrives leaves a l.
      kept arrives leaves
      (ap (option_and_then arrival_of)
      (sym (slice_get-set_other trips n connection.first stops other)) ∙ a)
      (ap (option_and_then departure_of)
      (sym (slice_get-set_other trips n connection.second stops another)) ∙ l)

  keeps_more : KeepsAll parts trips → FitsAs parts trips n flight stops
      → KeepsAll parts (set trips n stops)
  keeps_more kept fits = record {
    departures = room_kept kind.Dep departs_at (λ k t f. refl) kept.departures fits.departures;
    arrivals = room_kept kind.Arr arrives_at (λ k t f. refl) kept.arrivals fits.arrivals;
    sectors = room_kept kind.Sector stays_at (λ k t f. refl) kept.sectors fits.sectors;
    turns = λ i connection is. turn_by connection (kept.turns i connection is)
        (All-item (KeepsOwnTurn (set trips n stops) n) parts.connections i connection fits.turns is)
        (cases_eq connection.first n) (cases_eq connection.second n);
  }

-- no trip takes no room
nothing_kept : (parts : Parts) (count : Flight → List Stop → ℕ)
    → ((f : Flight) → count f [] ≡ 0) → (room : ℕ)
    → counted count parts.flights (with_rest parts.flights []) ≤ room
nothing_kept parts count none room =
    let zero_of : counted count parts.flights (with_rest parts.flights []) ≡ 0 =
    ap (counted count parts.flights) (with_rest-none parts.flights)
    ∙ counted-none count none parts.flights in
    omega arith

no_arrival : (flights : List Flight) (n arrives : ℕ)
    → option_and_then arrival_of (slice_get (with_rest flights []) n) ≡ Some arrives → ⊥
no_arrival [] n arrives is = cc
no_arrival (flight ∷ flights) zero arrives is = cc
no_arrival (flight ∷ flights) (suc n) arrives is = no_arrival flights n arrives is

keeps_none : (parts : Parts) → KeepsAll parts (with_rest parts.flights [])
keeps_none parts = record {
  departures = λ k t has. nothing_kept parts (departs_at k t) (λ f. refl) _;
  arrivals = λ k t has. nothing_kept parts (arrives_at k t) (λ f. refl) _;
  sectors = λ k t has. nothing_kept parts (stays_at k t) (λ f. refl) _;
  turns = λ n connection is arrives leaves a l.
      absurd (no_arrival parts.flights connection.first arrives a);
}

module _ (parts : Parts) (box : Box) (plan : List (List Stop))
    (greedy : IsGreedy parts box plan) where
  -- the trip at a position, and its flight
  trip_at : (n : ℕ) → n < length plan → (d : List Stop)
      → IsChosen parts box (take n plan) n (get_or plan n d)
  trip_at n within d = greedy.chosen n (get_or plan n d) (slice_get-get_or plan n d within)

  keeps_first : (n : ℕ) → n ≤ length plan
      → KeepsAll parts (with_rest parts.flights (take n plan))
  keeps_first zero upto = keeps_none parts
  keeps_first (suc n) upto =
      let trip = get_or plan n [] in
      let chosen = trip_at n (omega arith) [] in
      let there = chosen.inside.inside in
      let is : slice_get plan n ≡ Some trip = slice_get-get_or plan n [] (omega arith) in
      let long = length-take-le n plan (omega arith) in
      let absent = subst
      (λ m. slice_get (with_rest parts.flights (take n plan)) m ≡ Some []) long
      (with_rest-next parts.flights (take n plan) there.flight
      (ap (slice_get parts.flights) long ∙ there.there)) in
      subst (KeepsAll parts)
      (sym (with_rest-more parts.flights plan n there.flight trip there.there is))
      (keeps_more parts (with_rest parts.flights (take n plan)) n there.flight trip there.there
      absent (keeps_first n (omega arith)) (chosen.inside.fits there.flight there.there))

-- every trip is one of its flight
are_trips : (periods : ℕ) (flights : List Flight) (plan : List (List Stop))
    → length plan ≡ length flights
    → ((n : ℕ) (flight : Flight) (trip : List Stop) → slice_get flights n ≡ Some flight
    → slice_get plan n ≡ Some trip → IsTrip periods flight trip)
    → AreTrips periods flights plan
are_trips periods [] [] long each = tt
are_trips periods [] (trip ∷ plan) long each = absurd (omega (arith, long))
are_trips periods (flight ∷ flights) [] long each = absurd (omega (arith, long))
are_trips periods (flight ∷ flights) (trip ∷ plan) long each = (
  each 0 flight trip refl refl,
  are_trips periods flights plan (omega (arith, long)) (λ n f t. each (suc n) f t),
)

same_flight : (parts : Parts) (box : Box) (n : ℕ) (flight : Flight) (trip : List Stop)
    → IsTripIn parts box n trip → slice_get parts.flights n ≡ Some flight
    → IsTrip parts.day.periods flight trip
same_flight parts box n flight trip inside here =
    let same : inside.flight ≡ flight = cc in
    subst (λ (f : Flight). IsTrip parts.day.periods f trip) same inside.trip

-- the greedy plan keeps every rule
pub greedy_feasible : (parts : Parts) (box : Box) (plan : List (List Stop))
    → IsGreedy parts box plan → IsFeasible parts plan
greedy_feasible parts box plan greedy =
    let whole : with_rest parts.flights (take (length plan) plan) ≡ plan =
    ap (with_rest parts.flights) (take-length plan)
    ∙ with_rest-all parts.flights plan greedy.whole in
    let kept = subst (KeepsAll parts) whole
    (keeps_first parts box plan greedy (length plan) (omega arith)) in
    record {
      trips = are_trips parts.day.periods parts.flights plan greedy.whole
          (λ n flight trip here is. same_flight parts box n flight trip
          (greedy.chosen n trip is).inside.inside here);
      turns = λ k d within. kept.turns k (get_or parts.connections k d)
          (slice_get-get_or parts.connections k d within);
      departures = λ k t airport within. kept.departures k t airport;
      arrivals = λ k t airport within. kept.arrivals k t airport;
      sectors = λ k t sector within. kept.sectors k t sector;
    }

-- one trip more
pub with_rest-push : (flights : List Flight) (plan : List (List Stop)) (trip : List Stop)
    → length plan < length flights
    → set (with_rest flights plan) (length plan) trip ≡ with_rest flights (plan ++ trip ∷ [])
with_rest-push [] plan trip within = absurd (omega (arith, within))
with_rest-push (f ∷ flights) [] trip within = refl
with_rest-push (f ∷ flights) (t ∷ plan) trip within =
    ap (λ trips. t ∷ trips) (with_rest-push flights plan trip (omega (arith, within)))

get_push : (plan : List (List Stop)) (trip : List Stop) (n : ℕ) (t : List Stop)
    → slice_get (plan ++ trip ∷ []) n ≡ Some t
    → ((n < length plan) × (slice_get plan n ≡ Some t)) ⊎ ((n ≡ length plan) × (t ≡ trip))
get_push [] trip zero t is = inr (refl, cc)
get_push [] trip (suc n) t is = absurd (let no : ⊥ = cc in no)
get_push (x ∷ plan) trip zero t is = inl (omega arith, is)
get_push (x ∷ plan) trip (suc n) t is =
    elim (get_push plan trip n t is)
    as (λ w. ((suc n < length (x ∷ plan)) × (slice_get (x ∷ plan) (suc n) ≡ Some t))
    ⊎ ((suc n ≡ length (x ∷ plan)) × (t ≡ trip))) [
      | inl before ↦ inl (omega (arith, before.0), before.1)
      | inr last ↦ inr (ap suc last.0, last.1)
    ]

pub chosen_more : (parts : Parts) (box : Box) (plan : List (List Stop)) (trip : List Stop)
    → AreChosen parts box plan → IsChosen parts box plan (length plan) trip
    → AreChosen parts box (plan ++ trip ∷ [])
chosen_more parts box plan trip chosen here n t is =
    elim (get_push plan trip n t is)
    as (λ w. IsChosen parts box (take n (plan ++ trip ∷ [])) n t) [
      | inl before ↦ subst (λ trips. IsChosen parts box trips n t)
          (sym (take-append-le n plan (trip ∷ []) (omega (arith, before.0))))
          (chosen n t before.1)
      | inr last ↦ subst (λ trips. IsChosen parts box trips n t)
          (sym (ap (λ m. take m (plan ++ trip ∷ [])) last.0
          ∙ take-append_seam plan (trip ∷ [])))
          (subst (λ m. IsChosen parts box plan m t) (sym last.0)
          (subst (IsChosen parts box plan (length plan)) (sym last.1) here))
    ]

-- before the first trip
pub chosen_none : (parts : Parts) (box : Box) (plan : List (List Stop)) → plan ≡ []
    → AreChosen parts box plan
chosen_none parts box plan is n trip here =
    let no : slice_get {X = List Stop} [] n ≡ Some trip = ap (λ p. slice_get p n) (sym is) ∙ here in
    absurd (let e : ⊥ = cc in e)

pub loads_none : (parts : Parts) (plan : List (List Stop)) (loads : Tally) → plan ≡ []
    → AreLoads parts (no_trips parts) loads
    → AreLoads parts (with_rest parts.flights plan) loads
loads_none parts plan loads is are =
    subst (λ trips. AreLoads parts trips loads)
    (sym (ap (with_rest parts.flights) is ∙ with_rest-none parts.flights)) are

-- what is added, as the code says it
pub one_more : (parts : Parts) (box : Box) (old new : List (List Stop)) (before after : Tally)
    (number : ℕ) (trip : List Stop) (flight : Flight)
    → slice_get parts.flights number ≡ Some flight → length old ≡ number
    → new ≡ old ++ trip ∷ [] → IsChosen parts box old number trip
    → AreLoads parts (with_rest parts.flights old) before
    → (slice_get (with_rest parts.flights old) number ≡ Some []
    → IsTripAt parts number trip
    → AreLoads parts (set (with_rest parts.flights old) number trip) after)
    → IsOneMore parts box old new after
one_more parts box old new before after number trip flight here count is chosen are added =
    let mine : IsChosen parts box old (length old) trip =
    subst (λ n. IsChosen parts box old n trip) (sym count) chosen in
    let inside = chosen.inside.inside in
    let absent = subst (λ n. slice_get (with_rest parts.flights old) n ≡ Some []) count
    (with_rest-next parts.flights old flight (ap (slice_get parts.flights) count ∙ here)) in
    let within : length old < length parts.flights =
    omega (arith, count, slice_get_within parts.flights number flight here) in
    record {
      chosen = λ earlier. subst (AreChosen parts box) (sym is)
          (chosen_more parts box old trip earlier mine);
      count = ap length is ∙ length-append old (trip ∷ []);
      loads_are = subst (λ trips. AreLoads parts trips after)
          (ap (λ n. set (with_rest parts.flights old) n trip) (sym count)
          ∙ with_rest-push parts.flights old trip within
          ∙ ap (with_rest parts.flights) (sym is))
          (added absent (λ f there. same_flight parts box number f trip inside there));
    }

-- what a search for the least says where it is none, and where it isn't
pub none_of : {A : Type 0} (P : A → Type 0) (cost : A → ℤ) (least : Option ℤ) (none : Bool)
    → IsLeast P cost least → is_some least ≡ not none → none ≡ true → (x : A) → P x → ⊥
none_of P cost None none is told yes' = is
none_of P cost (Some least) true is told yes' = let no : ⊥ = cc in absurd no
none_of P cost (Some least) false is told yes' = let no : ⊥ = cc in absurd no

pub some_of : (Empty Found : Type 0) (least : Option ℤ) (none : Bool)
    → MatchOption least Empty (λ l. Found) → is_some least ≡ not none → none ≡ false → Found
some_of Empty Found None true is told no' = let no : ⊥ = cc in absurd no
some_of Empty Found None false is told no' = let no : ⊥ = cc in absurd no
some_of Empty Found (Some least) none is told no' = is
