-- What a box leaves of a variable agrees with the values at every plan in it.
use Rattle.std.proofs.Common.{◌≡◌, ◌≢◌, ℕ, ◌+◌, ◌<◌, ◌≤◌, ◌==◌, Bool, true, false, ◌&&◌, not, nat_le, nat_lt, List, [], ◌∷◌, length, get_or, Option, None, Some, slice_get, All, AllPairs, if◌then◌else◌, inl, inr, refl, sym, ◌∙◌, ap, subst, arith}
use Rattle.std.proofs.lemmas.Bool.{cases_order, and_parts, eq-eqb, eqb-true, lt-ltb, leb-true, ltb-true}
use Rattle.std.proofs.lemmas.List.Elements.{All-contains, All-head, All-tail}
use Rattle.std.proofs.lemmas.List.Folds.{list_any-from_Any}
use Rattle.std.specs.Cmp.Derive.{both_true}
use Rattle.std.specs.List.{Any, list_any}
use Rattle.flow_types.specs.declared.flight.Flight.{Flight}
use Rattle.flow_types.specs.declared.parts.Parts.{Parts}
use Rattle.flow_types.specs.declared.plan.Stop.{Stop}
use Rattle.flow_types.specs.Counts.{one_if, stays_at, stays_from}
use Rattle.flow_types.specs.Feasible.{AreTrips}
use Rattle.flow_types.specs.Routes.{IsLeg}
use Rattle.flow_types.specs.Trips.{IsLegBetween, IsOnward, IsTrip, place_at}
use Rattle.flow_types.specs.Valid.{IsScenario}
use Rattle.time_windows.specs.declared.access.Access.{Access}
use Rattle.time_windows.specs.declared.access.Window.{Window}
use Rattle.time_windows.specs.Boxes.{Box, IsBoxOf, IsInBox, IsInWindow, IsTripInBox, IsWindowWithin, root_row}
use Rattle.time_windows.proofs.AnyFacts.{any_cases, any_map, any_none}
use Rattle.time_windows.proofs.PlanFacts.{planned_flight}
use Rattle.time_windows.proofs.RootFacts.{flight_in}
use Rattle.bytime_model.specs.declared.left.Left.TheVariants.{Free, One, Same, Zero}
use Rattle.bytime_model.specs.declared.variables.Var.{Var}
use Rattle.bytime_model.specs.declared.variables.Var.TheVariants.{By, Inside}
use Rattle.bytime_model.specs.Left.{Agrees, by_left, inside_left, is_before_end, left_of, may_stay}
use Rattle.bytime_model.specs.Values.{by_at, by_of, has_inside, inside_at, is_plain, value_at}
use Rattle.bytime_model.proofs.EntryFacts.{by_cases, by_few, by_grows, by_here, by_skip}
use Rattle.bytime_model.proofs.TripFacts.{is_by_at, not_by, step_up}
use Rattle.bytime_model.proofs.UseFacts.{IsFlown, by_value, inside_read}
use Rattle.bytime_model.proofs.ValidFacts.{flown}

-- of a list of stops
pub never_by : (node time : ℕ) (stops : List Stop)
    → All (λ stop. stop.node ≡ node → stop.time ≤ time → ⊥) stops → by_of node time stops ≡ 0
never_by node time [] all = refl
never_by node time (stop ∷ rest) all =
    by_skip node time stop rest (not_by node time stop
    (All-head (λ s. s.node ≡ node → s.time ≤ time → ⊥) stop rest all))
    ∙ never_by node time rest (All-tail (λ s. s.node ≡ node → s.time ≤ time → ⊥) stop rest all)

pub once_by : (node time : ℕ) (stops : List Stop)
    → Any (λ stop. (stop.node ≡ node) × (stop.time ≤ time)) stops → by_of node time stops ≡ 1
once_by node time [] any = absurd (any_none (λ stop. (stop.node ≡ node) × (stop.time ≤ time)) any)
once_by node time (stop ∷ rest) any =
    elim (any_cases (λ stop. (stop.node ≡ node) × (stop.time ≤ time)) stop rest any)
    as (λ _. by_of node time (stop ∷ rest) ≡ 1) [
      | inl here ↦ by_here node time stop rest (is_by_at stop node time here.0 here.1)
      | inr later ↦ omega (
        arith,
        once_by node time rest later,
        by_grows node time stop rest,
        by_few node time (stop ∷ rest),
      )
    ]

pub same_by : (node last time : ℕ) (stops : List Stop) → last ≤ time
    → All (λ stop. stop.node ≡ node → stop.time ≤ last) stops
    → by_of node time stops ≡ by_of node last stops
same_by node last time [] le all = refl
same_by node last time (stop ∷ rest) le all =
    let rest_same = same_by node last time rest le
    (All-tail (λ s. s.node ≡ node → s.time ≤ last) stop rest all) in
    let here = All-head (λ s. s.node ≡ node → s.time ≤ last) stop rest all in
    elim (by_cases node time stop)
    as (λ _. by_of node time (stop ∷ rest) ≡ by_of node last (stop ∷ rest)) [
      | inl is ↦ by_here node time stop rest is
          ∙ sym (by_here node last stop rest (is_by_at stop node last is.there (here is.there)))
      | inr not ↦ by_skip node time stop rest not ∙ rest_same
          ∙ sym (by_skip node last stop rest (not_by node last stop
          (λ same early. not.apart same (omega (arith, early, le)))))
    ]

-- the windows of a trip in a box
at_window : (row : ℕ → Access) (stop : Stop) (node : ℕ) (window : Option Window)
    → (row node).window ≡ window → stop.node ≡ node → IsInWindow (row stop.node).window stop.time
    → IsInWindow window stop.time
at_window row stop node window at same is =
    subst (λ w. IsInWindow w stop.time) at
    (subst (λ n. IsInWindow (row n).window stop.time) same is)

module _ (row : ℕ → Access) (trip : List Stop) (inside : IsTripInBox row trip) (f : ℕ)
    (value : Var → ℕ) (read : (n t : ℕ) → value (By f n t) ≡ by_of n t trip) where
  shut_agrees : (node time : ℕ) → (row node).window ≡ None → value (By f node time) ≡ 0
  shut_agrees node time shut =
      read node time ∙ never_by node time trip (λ k d below same early.
      at_window row (get_or trip k d) node None shut same (inside.windows k d below))

  early_agrees : (node time : ℕ) (window : Window) → (row node).window ≡ Some window
      → time < window.lo → value (By f node time) ≡ 0
  early_agrees node time window open_at early =
      read node time ∙ never_by node time trip (λ k d below same by.
      let is = at_window row (get_or trip k d) node (Some window) open_at same
      (inside.windows k d below) in
      omega (arith, is.0, by, early))

  late_agrees : (node time : ℕ) (window : Window) → (row node).window ≡ Some window
      → (row node).must ≡ true → window.hi ≤ time → value (By f node time) ≡ 1
  late_agrees node time window open_at must late =
      read node time ∙ once_by node time trip
      (any_map (λ stop. stop.node ≡ node) (λ stop. (stop.node ≡ node) × (stop.time ≤ time)) trip
      (λ stop on same.
      let is = at_window row stop node (Some window) open_at same
      (All-contains (λ s. IsInWindow (row s.node).window s.time) trip stop inside.windows on) in
      (same, omega (arith, is.1, late))) (inside.musts node must))

  past_agrees : (node time : ℕ) (window : Window) → (row node).window ≡ Some window
      → window.hi < time → value (By f node time) ≡ value (By f node window.hi)
  past_agrees node time window open_at past =
      read node time ∙ same_by node window.hi time trip (omega (arith, past)) (λ k d below same.
      (at_window row (get_or trip k d) node (Some window) open_at same
      (inside.windows k d below)).1) ∙ sym (read node window.hi)

  pub by_agrees : (node time : ℕ) (window : Option Window) (must : Bool)
      → (row node).window ≡ window → (row node).must ≡ must
      → Agrees value (By f node time) (by_left must window f node time)
  by_agrees node time None must shut marked = shut_agrees node time shut
  by_agrees node time (Some window) must open_at marked =
      by must marked (nat_lt time window.lo) refl (nat_le window.hi time) refl
      (nat_lt window.hi time) refl
    where
      by : (m : Bool) → (row node).must ≡ m → (a : Bool) → nat_lt time window.lo ≡ a → (b : Bool)
          → nat_le window.hi time ≡ b → (c : Bool) → nat_lt window.hi time ≡ c
          → Agrees value (By f node time) (if a then Zero
          else (if m then (if b then One else Free)
          else (if c then Same (By f node window.hi) else Free)))
      by m marked true early b late c past =
          early_agrees node time window open_at (ltb-true time window.lo early)
      by true marked false early true late c past =
          late_agrees node time window open_at marked (leb-true window.hi time late)
      by true marked false early false late c past = tt
      by false marked false early b late true past =
          past_agrees node time window open_at (ltb-true window.hi time past)
      by false marked false early b late false past = tt

-- A stay at a node of its own: no pair of stops makes one.
module _ (periods : ℕ) (flight : Flight) (row : ℕ → Access) (node time : ℕ)
    (legs : All (IsLeg (length flight.nodes)) flight.legs)
    (own : (m : ℕ) → m < length flight.nodes → place_at flight m ≡ place_at flight node
    → m ≡ node) where
  abbrev pub IsStay : Stop → Stop → Type 0
  IsStay stop next = (stop.node ≡ node) × (stop.time ≤ time) × (time < next.time)
      × Any (IsLegBetween stop next) flight.legs
      × IsInWindow (row stop.node).window stop.time × IsInWindow (row next.node).window next.time

  pair_none : (stop next : Stop) → (IsStay stop next → ⊥) → Any (IsLegBetween stop next) flight.legs
      → IsInWindow (row stop.node).window stop.time → IsInWindow (row next.node).window next.time
      → one_if ((place_at flight stop.node == place_at flight node) && nat_le stop.time time
      && nat_lt time next.time) ≡ 0
  pair_none stop next none step here there =
      by (place_at flight stop.node == place_at flight node) refl (nat_le stop.time time) refl
      (nat_lt time next.time) refl
    where
      by : (a : Bool) → (place_at flight stop.node == place_at flight node) ≡ a → (b : Bool)
          → nat_le stop.time time ≡ b → (c : Bool) → nat_lt time next.time ≡ c
          → one_if (a && b && c) ≡ 0
      by false at b since c yet = refl
      by true at false since c yet = refl
      by true at true since false yet = refl
      by true at true since true yet =
          let up = step_up flight stop next legs step in
          absurd (none (
            own stop.node (omega (arith, up.1))
                (eqb-true (place_at flight stop.node) (place_at flight node) at),
            leb-true stop.time time since,
            ltb-true time next.time yet,
            step,
            here,
            there,
          ))

  pub stays_none : ((stop next : Stop) → IsStay stop next → ⊥) → (stop : Stop) (rest : List Stop)
      → IsOnward periods flight stop rest
      → All (λ s. IsInWindow (row s.node).window s.time) (stop ∷ rest)
      → stays_from (place_at flight node) time flight stop rest ≡ 0
  stays_none none stop [] onward windows = refl
  stays_none none stop (next ∷ rest) onward windows =
      let here = All-head (λ s. IsInWindow (row s.node).window s.time) stop (next ∷ rest) windows in
      let more = All-tail (λ s. IsInWindow (row s.node).window s.time) stop (next ∷ rest) windows in
      let there = All-head (λ s. IsInWindow (row s.node).window s.time) next rest more in
      omega (
        arith,
        pair_none stop next (none stop next) onward.0 here there,
        stays_none none next rest onward.2 more,
      )

-- nothing of what isn't there
zero_agrees : (value : Var → ℕ) (variable : Var) (window : Option Window) (stays : Bool) (time : ℕ)
    → value variable ≡ 0 → Agrees value variable (inside_left window stays time)
zero_agrees value variable None stays time none = none
zero_agrees value variable (Some window) stays time none = by (nat_lt time window.lo) stays
  where
    by : (a b : Bool) → Agrees value variable (if a then Zero else (if b then Free else Zero))
    by true b = none
    by false true = tt
    by false false = none

-- nodes are at different places
own_place : (flight : Flight) (node : ℕ) → AllPairs (λ a b. a ≢ b) flight.nodes
    → node < length flight.nodes → (m : ℕ) → m < length flight.nodes
    → place_at flight m ≡ place_at flight node → m ≡ node
own_place flight node apart within m inside same =
    elim (cases_order m node) as (λ _. m ≡ node) [
      | inl is ↦ is
      | inr other ↦ elim other as (λ _. m ≡ node) [
        | inl before ↦ absurd (apart m node 0 before within same)
        | inr after ↦ absurd (apart node m 0 after inside (sym same))
      ]
    ]

module _ (parts : Parts) (plan : List (List Stop)) (scenario : IsScenario parts)
    (trips : AreTrips parts.day.periods parts.flights plan) (box : Box)
    (made : IsBoxOf parts box) (inside : IsInBox box plan) where
  abbrev value : Var → ℕ
  value = value_at parts.flights plan

  -- where there is no flight, all is closed
  no_flight : (f n : ℕ) → slice_get parts.flights f ≡ None → (box f n).window ≡ None
  no_flight f n none = shut (box f n).window
      (subst (λ o. IsWindowWithin (box f n).window (root_row parts.day.periods o n).window) none
      (made.windows f n))
    where
      shut : (w : Option Window) → IsWindowWithin w None → w ≡ None
      shut None within = refl
      shut (Some w) within = absurd within

  by_box : (f n t : ℕ) (found : Option Flight) → slice_get parts.flights f ≡ found
      → Agrees value (By f n t) (by_left (box f n).must (box f n).window f n t)
  by_box f n t None none =
      let shut = no_flight f n none in
      subst (λ w. Agrees value (By f n t) (by_left (box f n).must w f n t)) (sym shut)
      (no_trip (slice_get plan f) refl)
    where
      no_trip : (found : Option (List Stop)) → slice_get plan f ≡ found → value (By f n t) ≡ 0
      no_trip None is = ap (by_at n t) is
      no_trip (Some trip) is =
          let flight = planned_flight parts.day.periods parts.flights plan f trip trips is in
          let bad : Some flight.0 ≡ None = sym flight.1 ∙ none in
          absurd cc
  by_box f n t (Some flight) found =
      let own = flown parts plan scenario trips f flight found in
      by_agrees (box f) own.0 (inside f own.0 own.1.flown) f value
      (λ m u. by_value parts.flights plan parts.day.periods f flight own.0 own.1 m u) n t
      (box f n).window (box f n).must refl refl

  -- a node between the ends
  node_within : (flight : Flight) (n : ℕ) → has_inside (Some flight) n ≡ true
      → n < length flight.nodes
  node_within flight n has =
      let within = ltb-true (n + 1) (length flight.nodes)
      (and_parts (nat_lt (n + 1) (length flight.nodes)) (not (is_plain flight n))
      (and_parts (nat_lt 0 n) (nat_lt (n + 1) (length flight.nodes)
      && not (is_plain flight n)) has).1).0 in
      omega (arith, within)

  module _ (f n t : ℕ) (flight : Flight) (trip : List Stop)
      (is : IsFlown parts.flights plan parts.day.periods f flight trip) where
    abbrev Stay : Stop → Stop → Type 0
    Stay stop next = (stop.node ≡ n) × (stop.time ≤ t) × (t < next.time)
        × Any (IsLegBetween stop next) flight.legs
        × IsInWindow (box f stop.node).window stop.time
        × IsInWindow (box f next.node).window next.time

    stays_of : has_inside (Some flight) n ≡ true → ((stop next : Stop) → Stay stop next → ⊥)
        → (stops : List Stop) → stops ≡ trip → stays_at (place_at flight n) t flight stops ≡ 0
    stays_of has none [] same =
        absurd (subst (IsTrip parts.day.periods flight) (sym same) is.valid)
    stays_of has none (stop ∷ rest) same =
        let valid : IsTrip parts.day.periods flight (stop ∷ rest) =
        subst (IsTrip parts.day.periods flight) (sym same) is.valid in
        stays_none parts.day.periods flight (box f) n t is.legs
        (own_place flight n (flight_in parts f flight scenario is.found).route.different
        (node_within flight n has)) none stop rest valid.2
        (subst (All (λ s. IsInWindow (box f s.node).window s.time)) (sym same)
        (inside f trip is.flown).windows)

    not_inside : ((stop next : Stop) → Stay stop next → ⊥) → value (Inside f n t) ≡ 0
    not_inside none =
        inside_read parts.flights plan parts.day.periods f flight trip is n t
        ∙ by (has_inside (Some flight) n) refl
      where
        by : (b : Bool) → has_inside (Some flight) n ≡ b
            → (if b then stays_at (place_at flight n) t flight trip else 0) ≡ 0
        by false has = refl
        by true has = stays_of has none trip refl

    -- whoever stays has a next node that is open until later
    stays_before : (stop next : Stop) → Stay stop next
        → list_any (λ leg. (leg.from == n) && is_before_end t (box f leg.to).window) flight.legs
        ≡ true
    stays_before stop next stay =
        list_any-from_Any (λ leg. (leg.from == n) && is_before_end t (box f leg.to).window)
        flight.legs (any_map (IsLegBetween stop next)
        (λ leg. ((leg.from == n) && is_before_end t (box f leg.to).window) ≡ true) flight.legs
        (λ leg on between. both_true (eq-eqb leg.from n (between.from ∙ stay.0))
        (subst (λ m. is_before_end t (box f m).window ≡ true) (sym between.to)
        (open_later (box f next.node).window stay.5))) stay.3)
      where
        open_later : (w : Option Window) → IsInWindow w next.time → is_before_end t w ≡ true
        open_later None at = absurd at
        open_later (Some w) at =
            let later = stay.2 in lt-ltb t w.hi (omega (arith, later, at.1))

    inside_flight : (window : Option Window) → (box f n).window ≡ window → (b : Bool)
        → list_any (λ leg. (leg.from == n) && is_before_end t (box f leg.to).window) flight.legs ≡ b
        → Agrees value (Inside f n t) (inside_left window b t)
    inside_flight None shut b stays =
        not_inside (λ stop next stay. at_window (box f) stop n None shut stay.0 stay.4)
    inside_flight (Some window) open_at b stays = by (nat_lt t window.lo) refl b stays
      where
        by : (a : Bool) → nat_lt t window.lo ≡ a → (c : Bool)
            → list_any (λ leg. (leg.from == n) && is_before_end t (box f leg.to).window)
            flight.legs ≡ c
            → Agrees value (Inside f n t) (if a then Zero else (if c then Free else Zero))
        by true early c stays =
            not_inside (λ stop next stay.
            let at = at_window (box f) stop n (Some window) open_at stay.0 stay.4 in
            omega (arith, at.0, stay.1, ltb-true t window.lo early))
        by false early true stays = tt
        by false early false stays =
            not_inside (λ stop next stay. let more = stays_before stop next stay in
            let bad : true ≡ false = sym more ∙ stays in absurd cc)

  inside_box : (f n t : ℕ) (found : Option Flight) → slice_get parts.flights f ≡ found
      → Agrees value (Inside f n t) (inside_left (box f n).window (may_stay found (box f) n t) t)
  inside_box f n t None none =
      zero_agrees value (Inside f n t) (box f n).window false t
      (ap (λ o. inside_at n t o (slice_get plan f)) none)
  inside_box f n t (Some flight) found =
      let own = flown parts plan scenario trips f flight found in
      inside_flight f n t flight own.0 own.1 (box f n).window refl
      (may_stay (Some flight) (box f) n t) refl

  pub agrees : (variable : Var) → Agrees value variable (left_of parts.flights box variable)
  agrees (By f n t) = by_box f n t (slice_get parts.flights f) refl
  agrees (Inside f n t) = inside_box f n t (slice_get parts.flights f) refl
