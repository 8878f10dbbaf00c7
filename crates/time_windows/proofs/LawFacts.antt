-- The root box holds every trip, and a split shares out the plans of a box.
use Rattle.std.proofs.Common.{◌≡◌, ◌⊎◌, ℕ, ◌+◌, ◌<◌, ◌≤◌, ◌==◌, ◌||◌, true, max, List, [], ◌∷◌, length, get_or, All, Option, None, Some, slice_get, inl, inr, refl, sym, ◌∙◌, ap, subst, arith}
use Rattle.std.proofs.lemmas.Bool.{cases_eq, cases_lt, or_cases}
use Rattle.std.proofs.lemmas.Bool.Decides.{Decides-eqb, eqb_tells}
use Rattle.std.proofs.lemmas.List.Elements.{All-contains, All-weaker}
use Rattle.std.specs.List.{Any, Contains}
use Rattle.flow_types.specs.declared.flight.Flight.{Flight}
use Rattle.flow_types.specs.declared.parts.Parts.{Parts}
use Rattle.flow_types.specs.declared.plan.Stop.{Stop}
use Rattle.flow_types.specs.Feasible.{AreTrips}
use Rattle.flow_types.specs.Trips.{IsTrip, IsWithinHours, earliest_of, latest_of}
use Rattle.flow_types.specs.Valid.{IsScenario}
use Rattle.time_windows.specs.declared.access.Access.{Access}
use Rattle.time_windows.specs.declared.access.Window.{Window}
use Rattle.time_windows.specs.Boxes.{Box, IsInBox, IsInWindow, IsTripInBox, closed, root_access, root_box, root_row}
use Rattle.time_windows.specs.Splits.{after, changed_at, early_branch, late_branch, until}
use Rattle.time_windows.proofs.AnyFacts.{any_here, any_there}
use Rattle.time_windows.proofs.PlanFacts.{found_at, legs_up, planned, planned_flight, trip_each}
use Rattle.time_windows.proofs.RootFacts.{flight_in}
use Rattle.time_windows.proofs.TripFacts.{at_node, at_skip, each_within, moment, visits_last}
use Rattle.time_windows.proofs.WindowFacts.{if_lt}

-- a stop within the hours of its node
root_window : (periods : ℕ) (flight : Flight) (stop : Stop) → stop.node < length flight.nodes
    → IsWithinHours periods flight stop
    → IsInWindow (root_access periods flight stop.node).window stop.time
root_window periods flight stop below hours =
    if_lt (λ (a : Access). IsInWindow a.window stop.time) stop.node (length flight.nodes)
    (record {
      window = Some (record {
        lo = earliest_of flight stop.node;
        hi = latest_of periods flight stop.node;
      });
      must = (stop.node == 0) || (stop.node + 1 == length flight.nodes);
    }) closed (λ _. (hours.early, hours.late)) (λ past. absurd (omega arith))

-- only the ends must be entered
root_must : (periods : ℕ) (flight : Flight) (node : ℕ)
    → (root_access periods flight node).must ≡ true
    → (node ≡ 0) ⊎ (node + 1 ≡ length flight.nodes)
root_must periods flight node =
    if_lt (λ (a : Access). a.must ≡ true → (node ≡ 0) ⊎ (node + 1 ≡ length flight.nodes)) node
    (length flight.nodes)
    (record {
      window = Some (record {
        lo = earliest_of flight node;
        hi = latest_of periods flight node;
      });
      must = (node == 0) || (node + 1 == length flight.nodes);
    }) closed
    (λ _ must. ends (or_cases (node == 0) (node + 1 == length flight.nodes) must))
    (λ _ must. absurd cc)
  where
    ends : ((node == 0) ≡ true) ⊎ ((node + 1 == length flight.nodes) ≡ true)
        → (node ≡ 0) ⊎ (node + 1 ≡ length flight.nodes)
    ends (inl first) = inl ((Decides-eqb node 0).0 first)
    ends (inr last) = inr ((Decides-eqb (node + 1) (length flight.nodes)).0 last)

root_trip_in : (parts : Parts) (f : ℕ) (flight : Flight) (stops : List Stop) → IsScenario parts
    → slice_get parts.flights f ≡ Some flight → IsTrip parts.day.periods flight stops
    → IsTripInBox (root_access parts.day.periods flight) stops
root_trip_in parts f flight [] valid is trip = absurd trip
root_trip_in parts f flight (stop ∷ rest) valid is trip =
    let ok = flight_in parts f flight valid is in
    let periods = parts.day.periods in
    let up = legs_up parts f flight valid is in
    record {
      windows = All-weaker (λ s. (s.node < length flight.nodes) × IsWithinHours periods flight s)
          (λ s. IsInWindow (root_access periods flight s.node).window s.time)
          (λ s both. root_window periods flight s both.0 both.1) (stop ∷ rest)
          (each_within periods flight up stop rest
          (omega (arith, trip.0, ok.route.nodes_from)) trip.1 trip.2);
      musts = λ node must. elim (root_must periods flight node must)
          as (λ _. Any (λ s. s.node ≡ node) (stop ∷ rest)) [
            | inl first ↦ any_here (λ s. s.node ≡ node) stop rest (trip.0 ∙ sym first)
            | inr last ↦ visits_last periods flight up stop rest node last trip.2
          ];
    }

pub root_trip : (parts : Parts) (f : ℕ) (flight : Flight) (stops : List Stop) → IsScenario parts
    → slice_get parts.flights f ≡ Some flight → IsTrip parts.day.periods flight stops
    → IsTripInBox (root_box parts f) stops
root_trip parts f flight stops valid is trip =
    subst (λ found. IsTripInBox (root_row parts.day.periods found) stops) (sym is)
    (root_trip_in parts f flight stops valid is trip)

pub root_plan : (parts : Parts) (plan : List (List Stop)) → IsScenario parts
    → AreTrips parts.day.periods parts.flights plan → IsInBox (root_box parts) plan
root_plan parts plan valid trips f trip is =
    let at = planned_flight parts.day.periods parts.flights plan f trip trips is in
    root_trip parts f at.0 trip valid at.1 at.2

-- the changed node, and the others
pub changed_cases : (P : Access → Type 0) (flight node : ℕ) (access : Access) (box : Box) (f n : ℕ)
    → (f ≡ flight → n ≡ node → P access)
    → ((f ≡ flight → n ≡ node → ⊥) → P (box f n)) → P (changed_at flight node access box f n)
changed_cases P flight node access box f n here other =
    elim (eqb_tells f flight) as (λ _. P (changed_at flight node access box f n)) [
      | inl t ↦ elim (eqb_tells n node) as (λ _. P (changed_at flight node access box f n)) [
        | inl u ↦ rw (t.0, u.0) (here t.1 u.1)
        | inr v ↦ rw (t.0, v.0) (other (λ _ e. v.1 e))
      ]
      | inr v ↦ rw v.0 (other (λ e _. v.1 e))
    ]

until_in : (w : Option Window) (limit time : ℕ) → IsInWindow w time → time ≤ limit
    → IsInWindow (until w limit) time
until_in None limit time within early = within
until_in (Some w) limit time within early = (within.0, omega (arith, within.1))

in_until : (w : Option Window) (limit time : ℕ) → IsInWindow (until w limit) time → time ≤ limit
in_until None limit time within = absurd within
in_until (Some w) limit time within = omega (arith, within.1)

after_in : (w : Option Window) (limit time : ℕ) → IsInWindow w time → limit < time
    → IsInWindow (after w limit) time
after_in None limit time within late = within
after_in (Some w) limit time within late =
    if_lt (λ x. IsInWindow x time) limit w.hi
    (Some (record { lo = max w.lo (limit + 1); hi = w.hi }))
    None (λ _. (omega (arith, within.0), within.1)) (λ past. omega (arith, within.1))

in_after : (w : Option Window) (limit time : ℕ) → IsInWindow (after w limit) time → limit < time
in_after None limit time = λ within. absurd within
in_after (Some w) limit time =
    if_lt (λ x. IsInWindow x time → limit < time) limit w.hi
    (Some (record { lo = max w.lo (limit + 1); hi = w.hi })) None
    (λ _ within. omega (arith, within.0)) (λ _ within. absurd within)

same_trip : (plan : List (List Stop)) (flight f : ℕ) (trip other : List Stop)
    → slice_get plan flight ≡ Some trip → slice_get plan f ≡ Some other → f ≡ flight
    → trip ≡ other
same_trip plan flight f trip other is found same =
    let there = ap (slice_get plan) same in
    cc

visited : (trip : List Stop) (node : ℕ) (w : Window) → at_node trip node ≡ Some w
    → Any (λ s. s.node ≡ node) trip
visited [] node w is = absurd cc
visited (stop ∷ rest) node w is = elim (cases_eq stop.node node)
    as (λ _. Any (λ s. s.node ≡ node) (stop ∷ rest)) [
      | inl here ↦ any_here (λ s. s.node ≡ node) stop rest here
      | inr apart ↦ any_there (λ s. s.node ≡ node) stop rest
          (visited rest node w (sym (at_skip stop rest node apart) ∙ is))
    ]

module _ (box : Box) (flight node limit : ℕ) where
  abbrev early : Access
  early = record { window = until (box flight node).window limit; must = true }

  abbrev late : Access
  late = record { window = after (box flight node).window limit; must = (box flight node).must }

  -- the stops of a trip are in the early side
  early_trip : (f : ℕ) (trip : List Stop) → IsTripInBox (box f) trip
      → (f ≡ flight → All (λ s. s.node ≡ node → s.time ≤ limit) trip)
      → (f ≡ flight → Any (λ s. s.node ≡ node) trip)
      → IsTripInBox (early_branch flight node limit box f) trip
  early_trip f trip inside by there = record {
    windows = λ k d below.
        let s = get_or trip k d in
        let was : IsInWindow (box f s.node).window s.time = inside.windows k d below in
        changed_cases (λ a. IsInWindow a.window s.time) flight node early box f s.node
        (λ same too. until_in (box flight node).window limit s.time (rw (same, too) at was)
        (by same k d below too)) (λ _. was);
    musts = λ n. changed_cases (λ a. a.must ≡ true → Any (λ s. s.node ≡ n) trip) flight node early
        box f n (λ same too _. rw too (there same)) (λ _ must. inside.musts n must);
  }

  -- or in the late one
  late_trip : (f : ℕ) (trip : List Stop) → IsTripInBox (box f) trip
      → (f ≡ flight → All (λ s. s.node ≡ node → limit < s.time) trip)
      → IsTripInBox (late_branch flight node limit box f) trip
  late_trip f trip inside past = record {
    windows = λ k d below.
        let s = get_or trip k d in
        let was : IsInWindow (box f s.node).window s.time = inside.windows k d below in
        changed_cases (λ a. IsInWindow a.window s.time) flight node late box f s.node
        (λ same too. after_in (box flight node).window limit s.time (rw (same, too) at was)
        (past same k d below too)) (λ _. was);
    musts = λ n. changed_cases (λ a. a.must ≡ true → Any (λ s. s.node ≡ n) trip) flight node late
        box f n
        (λ same too must. inside.musts n (rw (same, too) must)) (λ _ must. inside.musts n must);
  }

  early_plan : (plan : List (List Stop)) (trip : List Stop) → slice_get plan flight ≡ Some trip
      → IsInBox box plan → All (λ s. s.node ≡ node → s.time ≤ limit) trip
      → Any (λ s. s.node ≡ node) trip → IsInBox (early_branch flight node limit box) plan
  early_plan plan trip is inside by there f other found =
      early_trip f other (inside f other found)
      (λ same. subst (All (λ s. s.node ≡ node → s.time ≤ limit))
      (same_trip plan flight f trip other is found same) by)
      (λ same. subst (Any (λ s. s.node ≡ node))
      (same_trip plan flight f trip other is found same) there)

  late_plan : (plan : List (List Stop)) (trip : List Stop) → slice_get plan flight ≡ Some trip
      → IsInBox box plan → All (λ s. s.node ≡ node → limit < s.time) trip
      → IsInBox (late_branch flight node limit box) plan
  late_plan plan trip is inside past f other found =
      late_trip f other (inside f other found)
      (λ same. subst (All (λ s. s.node ≡ node → limit < s.time))
      (same_trip plan flight f trip other is found same) past)

  -- a trip that is at the node at a time
  share : (trip : List Stop) → All (λ s. at_node trip s.node ≡ Some (moment s.time)) trip
      → (found : Option Window) → at_node trip node ≡ found
      → (All (λ s. s.node ≡ node → s.time ≤ limit) trip × Any (λ s. s.node ≡ node) trip)
      ⊎ All (λ s. s.node ≡ node → limit < s.time) trip
  share trip each None is = inr (λ k d below here.
      let found = subst (λ m. at_node trip m ≡ Some (moment (get_or trip k d).time)) here
      (each k d below) in
      absurd cc)
  share trip each (Some w) is = elim (cases_lt limit w.lo)
      as (λ _. (All (λ s. s.node ≡ node → s.time ≤ limit) trip × Any (λ s. s.node ≡ node) trip)
      ⊎ All (λ s. s.node ≡ node → limit < s.time) trip) [
        | inl past ↦ inr (λ k d below here. omega (arith, past, time_is k d below here))
        | inr by ↦ inl (
          λ k d below here. omega (arith, by, time_is k d below here),
          visited trip node w is,
        )
      ]
    where
      time_is : (k : ℕ) (d : Stop) → k < length trip → (get_or trip k d).node ≡ node
          → w.lo ≡ (get_or trip k d).time
      time_is k d below here =
          let found = subst (λ m. at_node trip m ≡ Some (moment (get_or trip k d).time)) here
          (each k d below) in
          let same : w ≡ moment (get_or trip k d).time = cc in
          ap (λ (x : Window). x.lo) same

  pub share_plan : (parts : Parts) (plan : List (List Stop)) → IsScenario parts
      → flight < length parts.flights → AreTrips parts.day.periods parts.flights plan
      → IsInBox box plan
      → IsInBox (early_branch flight node limit box) plan
      ⊎ IsInBox (late_branch flight node limit box) plan
  share_plan parts plan valid below trips inside =
      let found = found_at parts.flights flight below in
      let at = planned parts.day.periods parts.flights plan flight found.0 trips found.1 in
      elim (share at.trip (trip_each parts.day.periods found.0
      (legs_up parts flight found.0 valid found.1) (λ n. true) at.trip at.valid)
      (at_node at.trip node) refl)
      as (λ _. IsInBox (early_branch flight node limit box) plan
      ⊎ IsInBox (late_branch flight node limit box) plan) [
        | inl both ↦ inl (early_plan plan at.trip at.is inside both.0 both.1)
        | inr past ↦ inr (late_plan plan at.trip at.is inside past)
      ]

  -- no trip is in both
  early_here : (early_branch flight node limit box flight node) ≡ early
  early_here = changed_cases (λ a. a ≡ early) flight node early box flight node (λ _ _. refl)
      (λ apart. absurd (apart refl refl))

  late_here : (late_branch flight node limit box flight node) ≡ late
  late_here = changed_cases (λ a. a ≡ late) flight node late box flight node (λ _ _. refl)
      (λ apart. absurd (apart refl refl))

  trip_apart : (trip : List Stop) → IsTripInBox (early_branch flight node limit box flight) trip
      → IsTripInBox (late_branch flight node limit box flight) trip → ⊥
  trip_apart trip one two =
      let there = one.musts node (ap (λ (a : Access). a.must) early_here) in
      let stop = there.1 in
      let on : Contains trip stop = (there.0, there.2, there.3) in
      let by : IsInWindow (early_branch flight node limit box flight stop.node).window stop.time =
      All-contains
      (λ s. IsInWindow (early_branch flight node limit box flight s.node).window s.time)
      trip stop one.windows on in
      let past : IsInWindow (late_branch flight node limit box flight stop.node).window stop.time =
      All-contains
      (λ s. IsInWindow (late_branch flight node limit box flight s.node).window s.time)
      trip stop two.windows on in
      omega (
        arith,
        in_until (box flight node).window limit stop.time
            (subst (λ (a : Access). IsInWindow a.window stop.time) early_here
            (subst (λ m. IsInWindow (early_branch flight node limit box flight m).window stop.time)
            there.4 by)),
        in_after (box flight node).window limit stop.time
            (subst (λ (a : Access). IsInWindow a.window stop.time) late_here
            (subst (λ m. IsInWindow (late_branch flight node limit box flight m).window stop.time)
            there.4 past)),
      )

  pub plan_apart : (parts : Parts) (plan : List (List Stop)) → flight < length parts.flights
      → AreTrips parts.day.periods parts.flights plan
      → IsInBox (early_branch flight node limit box) plan
      → IsInBox (late_branch flight node limit box) plan → ⊥
  plan_apart parts plan below trips one two =
      let found = found_at parts.flights flight below in
      let at = planned parts.day.periods parts.flights plan flight found.0 trips found.1 in
      trip_apart at.trip (one flight at.trip at.is) (two flight at.trip at.is)
