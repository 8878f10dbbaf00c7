-- Where a plan is outside a box first; and a plan that is nowhere outside is in the box.
use Rattle.std.proofs.Common.{◌≡◌, ◌⊎◌, inl, inr, ℕ, zero, suc, ◌+◌, ◌<◌, ◌≤◌, Bool, true, false, List, [], ◌∷◌, length, get_or, All, Option, None, Some, refl, sym, ap, subst, ◌∙◌, arith, slice_get}
use Rattle.std.specs.Prelude.{◌==◌, ◌&&◌, ◌||◌, not, nat_le, option_map, if◌then◌else◌}
use Rattle.std.specs.List.{Any, list_any}
use Rattle.std.specs.Option.{option_or}
use Rattle.std.proofs.lemmas.Bool.{and_from, and_parts, cases_lt, eq-eqb, eqb-true, le-leb, le-ltb, leb-true}
use Rattle.std.proofs.lemmas.List.{get_or_default}
use Rattle.std.proofs.lemmas.List.Elements.{All-weaker}
use Rattle.std.proofs.lemmas.List.Folds.{Any-from_list_any, list_any-from_Any}
use Rattle.flow_types.specs.declared.flight.Flight.{Flight}
use Rattle.flow_types.specs.declared.parts.Parts.{Parts}
use Rattle.flow_types.specs.declared.plan.Stop.{Stop}
use Rattle.flow_types.specs.Feasible.{AreTrips}
use Rattle.flow_types.specs.Limits.{most_nodes}
use Rattle.flow_types.specs.Trips.{IsTrip, IsWithinHours}
use Rattle.flow_types.specs.Valid.{IsScenario}
use Rattle.time_windows.specs.declared.access.Access.{Access}
use Rattle.time_windows.specs.declared.access.Window.{Window}
use Rattle.time_windows.specs.Boxes.{Box, IsBoxOf, IsInBox, IsInWindow, IsTripInBox, root_box}
use Rattle.time_windows.proofs.AnyFacts.{any_map}
use Rattle.time_windows.proofs.PlanFacts.{legs_up, planned_flight}
use Rattle.time_windows.proofs.RootFacts.{flight_in}
use Rattle.time_windows.proofs.TripFacts.{each_within}
use Rattle.cert_checker.specs.Outside.{first_below, first_outside, is_at, is_in_window, is_outside, is_stray, node_outside, outside_from}

-- the first number at which the test holds
pub first_is : (test : ℕ → Bool) (n k : ℕ) → k < n → first_below test k ≡ None → test k ≡ true
    → first_below test n ≡ Some k
unfolding first_below
first_is test zero k below none holds = absurd (omega (arith, below))
first_is test (suc n) k below none holds =
    elim (cases_lt k n) as (λ _. first_below test (suc n) ≡ Some k) [
      | inl less ↦ rw (first_is test n k less none holds) refl
      | inr past ↦ (let same : k ≡ n = omega (arith, past, below) in
          let here : first_below test (suc k) ≡ Some k = rw (none, holds) refl in
          subst (λ (m : ℕ). first_below test (suc m) ≡ Some k) same here)
    ]

-- none so far
pub none_more : (test : ℕ → Bool) (k : ℕ) → first_below test k ≡ None → test k ≡ false
    → first_below test (k + 1) ≡ None
unfolding first_below
none_more test k none fails = rw (one_more k, none, fails) refl
  where
    one_more : (n : ℕ) → n + 1 ≡ suc n
    one_more n = omega arith

or_none : {X : Type 0} (a b : Option X) → option_or a b ≡ None → (a ≡ None) × (b ≡ None)
or_none None b is = (refl, is)
or_none (Some x) b is = absurd (let e : ⊥ = cc is in e)

if_none : (b : Bool) (n : ℕ) → (if b then Some n else None) ≡ None → b ≡ false
if_none true n is = absurd (let e : ⊥ = cc is in e)
if_none false n is = refl

-- the test fails at each number
none_below : (test : ℕ → Bool) (n : ℕ) → first_below test n ≡ None → (k : ℕ) → k < n
    → test k ≡ false
unfolding first_below
none_below test zero is k below = absurd (omega (arith, below))
none_below test (suc n) is k below =
    let parts = or_none (first_below test n) (if test n then Some n else None) is in
    elim (cases_lt k n) as (λ _. test k ≡ false) [
      | inl less ↦ none_below test n parts.0 k less
      | inr past ↦ (let same : n ≡ k = omega (arith, past, below) in
          subst (λ (m : ℕ). test m ≡ false) same (if_none (test n) n parts.1))
    ]

or_parts : (a b : Bool) → (a || b) ≡ false → (a ≡ false) × (b ≡ false)
or_parts true b is = absurd (let e : ⊥ = cc is in e)
or_parts false b is = (refl, is)

and_not : (a b : Bool) → (a && not b) ≡ false → a ≡ true → b ≡ true
and_not true true none holds = refl
and_not true false none holds = absurd (let e : ⊥ = cc none in e)
and_not false b none holds = absurd (let e : ⊥ = cc holds in e)

in_window : (window : Option Window) (time : ℕ) → is_in_window window time ≡ true
    → IsInWindow window time
in_window None time is = absurd (let e : ⊥ = cc is in e)
in_window (Some window) time is =
    let both = and_parts (nat_le window.lo time) (nat_le time window.hi) is in
    (leb-true window.lo time both.0, leb-true time window.hi both.1)

-- an item that passes a test is one of a list
none_passes : {X : Type 0} (test : X → Bool) (xs : List X) → list_any test xs ≡ false
    → All (λ x. test x ≡ false) xs
none_passes test xs none k d below = by (test (get_or xs k d)) refl
  where
    by : (b : Bool) → test (get_or xs k d) ≡ b → test (get_or xs k d) ≡ false
    by false is = is
    by true is =
        let found : list_any test xs ≡ true = list_any-from_Any test xs
        (k, get_or xs k d, below, get_or_default xs k (get_or xs k d) d below, is) in
        absurd (let e : ⊥ = cc (sym found ∙ none) in e)

module _ (row : ℕ → Access) (stops : List Stop) (none : node_outside row stops ≡ None) where
  inside_at : (node : ℕ) → node < most_nodes → is_outside (row node) node stops ≡ false
  inside_at = none_below (λ node. is_outside (row node) node stops) most_nodes none

  -- each stop is in its window
  in_windows : All (λ stop. stop.node < most_nodes) stops
      → All (λ stop. IsInWindow (row stop.node).window stop.time) stops
  in_windows nodes k d below =
      let stop : Stop = get_or stops k d in
      let parts = or_parts (list_any (is_stray (row stop.node).window stop.node) stops)
      ((row stop.node).must && not (list_any (is_at stop.node) stops))
      (inside_at stop.node (nodes k d below)) in
      let here = none_passes (is_stray (row stop.node).window stop.node) stops parts.0 k d below in
      in_window (row stop.node).window stop.time
      (and_not (stop.node == stop.node) (is_in_window (row stop.node).window stop.time) here
      (eq-eqb stop.node stop.node refl))

  -- and each node that must be entered is
  at_musts : (node : ℕ) → node < most_nodes → (row node).must ≡ true
      → Any (λ stop. stop.node ≡ node) stops
  at_musts node below must =
      let parts = or_parts (list_any (is_stray (row node).window node) stops)
      ((row node).must && not (list_any (is_at node) stops)) (inside_at node below) in
      let found = Any-from_list_any (is_at node) stops
      (and_not (row node).must (list_any (is_at node) stops) parts.1 must) in
      any_map (λ stop. is_at node stop ≡ true) (λ stop. stop.node ≡ node) stops
      (λ stop here is. eqb-true stop.node node is) found

abbrev at_flight : ℕ → ℕ → ℕ × ℕ
at_flight flight node = (flight, node)

none_from : (box : Box) (plan : List (List Stop)) (from k : ℕ) (trip : List Stop)
    → outside_from box from plan ≡ None → slice_get plan k ≡ Some trip
    → node_outside (box (from + k)) trip ≡ None
none_from box [] from k trip none is = absurd (let e : ⊥ = cc is in e)
none_from box (first ∷ plan) from zero trip none is =
    let parts = or_none (option_map (at_flight from) (node_outside (box from) first))
    (outside_from box (from + 1) plan) none in
    let same : first ≡ trip = cc is in
    let zero_is : from ≡ from + 0 = omega arith in
    subst (λ (f : ℕ). node_outside (box f) trip ≡ None) zero_is
    (subst (λ (t : List Stop). node_outside (box from) t ≡ None) same
    (map_none (node_outside (box from) first) parts.0))
  where
    map_none : (found : Option ℕ) → option_map (at_flight from) found ≡ None
        → found ≡ None
    map_none None is_none = refl
    map_none (Some n) is_none = absurd (let e : ⊥ = cc is_none in e)
none_from box (first ∷ plan) from (suc k) trip none is =
    let parts = or_none (option_map (at_flight from) (node_outside (box from) first))
    (outside_from box (from + 1) plan) none in
    let next : from + 1 + k ≡ from + suc k = omega arith in
    subst (λ (f : ℕ). node_outside (box f) trip ≡ None) next
    (none_from box plan (from + 1) k trip parts.1 is)

-- of a flight's trip, whose stops are at nodes
module _ (parts : Parts) (valid : IsScenario parts) (root : Box) (inside : IsBoxOf parts root)
    (plan : List (List Stop)) (trips : AreTrips parts.day.periods parts.flights plan) where
  few_nodes : (f : ℕ) (flight : Flight) → slice_get parts.flights f ≡ Some flight
      → length flight.nodes ≤ most_nodes
  few_nodes f flight is = (flight_in parts f flight valid is).route.nodes_to

  stop_nodes : (f : ℕ) (flight : Flight) (stops : List Stop)
      → slice_get parts.flights f ≡ Some flight → IsTrip parts.day.periods flight stops
      → All (λ stop. stop.node < most_nodes) stops
  stop_nodes f flight [] is trip = absurd trip
  stop_nodes f flight (stop ∷ rest) is trip =
      let route = (flight_in parts f flight valid is).route in
      let few = few_nodes f flight is in
      All-weaker (λ s. (s.node < length flight.nodes)
      × IsWithinHours parts.day.periods flight s) (λ s. s.node < most_nodes)
      (λ s both. let there = both.0 in omega (arith, there, few)) (stop ∷ rest)
      (each_within parts.day.periods flight (legs_up parts f flight valid is) stop rest
      (omega (arith, trip.0, route.nodes_from)) trip.1 trip.2)

  shut_past : (flight : Flight) (node : ℕ) → length flight.nodes ≤ node → (f : ℕ)
      → slice_get parts.flights f ≡ Some flight → (root_box parts f node).window ≡ None
  shut_past flight node past f is = rw (is, le-ltb node (length flight.nodes) past) refl

  -- past its nodes nothing is marked
  no_must : (f node : ℕ) (flight : Flight) → slice_get parts.flights f ≡ Some flight
      → most_nodes ≤ node → (root f node).must ≡ true → ⊥
  no_must f node flight is past must =
      let few = few_nodes f flight is in
      let shut : (root_box parts f node).window ≡ None =
      shut_past flight node (omega (arith, few, past)) f is in
      let unmarked = inside.nodes f node shut in
      let e : ⊥ = cc (sym must ∙ unmarked) in e

  pub in_box : first_outside root plan ≡ None → IsInBox root plan
  in_box none f trip is =
      let at = planned_flight parts.day.periods parts.flights plan f trip trips is in
      let same : 0 + f ≡ f = omega arith in
      let here : node_outside (root f) trip ≡ None =
      subst (λ (k : ℕ). node_outside (root k) trip ≡ None) same
      (none_from root plan 0 f trip none is) in
      record {
        windows = in_windows (root f) trip here (stop_nodes f at.0 trip at.1 at.2);
        musts = λ node must. by_node f trip at.0 at.1 here node must
            (cases_lt node most_nodes);
      }
    where
      by_node : (f : ℕ) (trip : List Stop) (flight : Flight)
          → slice_get parts.flights f ≡ Some flight → node_outside (root f) trip ≡ None
          → (node : ℕ) → (root f node).must ≡ true → (node < most_nodes) ⊎ (most_nodes ≤ node)
          → Any (λ stop. stop.node ≡ node) trip
      by_node f trip flight there here node must (inl below) =
          at_musts (root f) trip here node below must
      by_node f trip flight there here node must (inr past) =
          absurd (no_must f node flight there past must)

-- And a plan in the box is nowhere outside.

all_none : (test : ℕ → Bool) (n : ℕ) → ((k : ℕ) → test k ≡ false) → first_below test n ≡ None
unfolding first_below
all_none test zero fails = refl
all_none test (suc n) fails = rw (all_none test n fails, fails n) refl

into_window : (window : Option Window) (time : ℕ) → IsInWindow window time
    → is_in_window window time ≡ true
into_window None time is = absurd is
into_window (Some window) time is =
    and_from (nat_le window.lo time) (nat_le time window.hi) (le-leb window.lo time is.0)
    (le-leb time window.hi is.1)

module _ (row : ℕ → Access) (stops : List Stop) (inside : IsTripInBox row stops) (node : ℕ) where
  none_stray : list_any (is_stray (row node).window node) stops ≡ false
  none_stray = by (list_any (is_stray (row node).window node) stops) refl
    where
      none : Any (λ stop. is_stray (row node).window node stop ≡ true) stops → ⊥
      none (k, stop, below, same, stray) =
          let both = and_parts (stop.node == node) (not (is_in_window (row node).window stop.time))
          stray in
          let here : stop.node ≡ node = eqb-true stop.node node both.0 in
          let within : IsInWindow (row stop.node).window stop.time =
          subst (λ (s : Stop). IsInWindow (row s.node).window s.time) same
          (inside.windows k stop below) in
          let found : is_in_window (row node).window stop.time ≡ true =
          into_window (row node).window stop.time
          (subst (λ n. IsInWindow (row n).window stop.time) here within) in
          let wrong : true ≡ false = sym both.1 ∙ ap not found in cc wrong

      by : (b : Bool) → list_any (is_stray (row node).window node) stops ≡ b
          → list_any (is_stray (row node).window node) stops ≡ false
      by false is = is
      by true is =
          absurd (none (Any-from_list_any (is_stray (row node).window node) stops is))

  none_missing : (must : Bool) → (row node).must ≡ must
      → (must && not (list_any (is_at node) stops)) ≡ false
  none_missing false is = refl
  none_missing true is =
      let found : list_any (is_at node) stops ≡ true =
      list_any-from_Any (is_at node) stops
      (any_map (λ stop. stop.node ≡ node) (λ stop. is_at node stop ≡ true) stops
      (λ stop here at. eq-eqb stop.node node at) (inside.musts node is)) in
      rw found refl

  not_outside : is_outside (row node) node stops ≡ false
  not_outside = rw (none_stray, none_missing (row node).must refl) refl

nowhere_from : (box : Box) (plan : List (List Stop)) (from : ℕ)
    → ((f : ℕ) (trip : List Stop) → slice_get plan f ≡ Some trip
    → IsTripInBox (box (from + f)) trip)
    → outside_from box from plan ≡ None
nowhere_from box [] from inside = refl
nowhere_from box (trip ∷ plan) from inside =
    let first : IsTripInBox (box from) trip =
    subst (λ f. IsTripInBox (box f) trip) (omega arith) (inside 0 trip refl) in
    let here : node_outside (box from) trip ≡ None =
    all_none (λ node. is_outside (box from node) node trip) most_nodes
    (not_outside (box from) trip first) in
    let more : outside_from box (from + 1) plan ≡ None =
    nowhere_from box plan (from + 1) (λ f other is.
    subst (λ k. IsTripInBox (box k) other) (omega arith) (inside (suc f) other is)) in
    rw (here, more) refl

pub nowhere_outside : (box : Box) (plan : List (List Stop)) → IsInBox box plan
    → first_outside box plan ≡ None
nowhere_outside box plan inside =
    nowhere_from box plan 0 (λ f trip is.
    subst (λ k. IsTripInBox (box k) trip) (omega arith) (inside f trip is))
