-- The distances of a flight: the least over all walks, and where walks lead.
use Rattle.std.proofs.Common.{◌≡◌, ◌↔◌, ℕ, zero, suc, ◌+◌, ◌<◌, ◌≤◌, ◌==◌, Bool, true, false, List, [], ◌∷◌, ◌++◌, length, get_or, All, IsTrue, Option, None, Some, slice_get, slice_index, slice_index_or, inl, inr, refl, sym, ◌∙◌, ap, subst, arith}
use Rattle.std.specs.List.{Contains}
use Rattle.std.proofs.lemmas.Bool.{cases_eq, cases_lt, eqb-true}
use Rattle.std.proofs.lemmas.List.{get_or_past}
use Rattle.std.proofs.lemmas.List.Folds.{Any-from_list_any}
use Rattle.std.proofs.lemmas.Option.{slice_get-get_or}
use Rattle.exact_sums.proofs.ItemFacts.{All-item}
use Rattle.flow_types.specs.declared.flight.Flight.{Flight}
use Rattle.flow_types.specs.declared.flight.Leg.{Leg}
use Rattle.flow_types.specs.declared.parts.Parts.{Parts}
use Rattle.flow_types.specs.Limits.{most_nodes}
use Rattle.flow_types.specs.Routes.{IsLeg, is_entered}
use Rattle.flow_types.specs.Valid.{IsFlight, IsScenario}
use Rattle.route_distances.specs.Walks.{HasNode, IsReached, IsShortest, IsWalk, far_upto, least_into, legs_of, or_zero, reach_upto, reaches_of, shortest_of, time_of}
use Rattle.route_distances.specs.Ways.{AreAllReached, AreReached, AreShortest, AreWaysAlong, Ways, reaches_in, shortest_in}
use Rattle.route_distances.proofs.WalkFacts.{IsUpTo, far_along, far_beyond, far_is, far_stays, leg_is, least_le, least_met, led_by, reach_along, reach_beyond, reach_from_none, reach_is, reach_stays}

-- a walk and a leg more
walk_on : (legs : List Leg) (from : ℕ) (walk : List Leg) (leg : Leg)
    → IsWalk legs from walk leg.from → Contains legs leg
    → IsWalk legs from (walk ++ leg ∷ []) leg.to
walk_on legs from [] leg is there = (there, sym is, refl)
walk_on legs from (first ∷ walk) leg is there =
    (is.0, is.1, walk_on legs first.to walk leg is.2 there)

time_on : (walk : List Leg) (leg : Leg) → time_of (walk ++ leg ∷ []) ≡ time_of walk + leg.least
time_on [] leg = omega arith
time_on (first ∷ walk) leg = omega (arith, time_on walk leg)

module _ (count : ℕ) (legs : List Leg) (network : All (IsLeg count) legs) where
  -- no walk is shorter
  walk_far : (from : ℕ) (walk : List Leg) (to : ℕ) → IsWalk legs from walk to
      → shortest_of legs to ≤ shortest_of legs from + time_of walk
  walk_far from [] to is = omega (arith, ap (shortest_of legs) is)
  walk_far from (leg ∷ walk) to is =
      omega (
        arith,
        ap (shortest_of legs) is.1,
        far_along count legs network leg is.0,
        walk_far leg.to walk to is.2,
      )

  pub first_far : shortest_of legs 0 ≡ 0
  first_far = by (least_into (far_upto legs 0) 0 legs) refl
    where
      by : (o : Option ℕ) → least_into (far_upto legs 0) 0 legs ≡ o → shortest_of legs 0 ≡ 0
      by None none = far_is legs 0 ∙ ap or_zero none
      by (Some time) some =
          let met = least_met (far_upto legs 0) 0 legs time some in
          let up = (leg_is count legs network met.leg met.there).upward in
          absurd (omega (arith, up, met.to))

  pub shortest_below : (node : ℕ) (walk : List Leg) → IsWalk legs 0 walk node
      → shortest_of legs node ≤ time_of walk
  shortest_below node walk is = omega (arith, walk_far 0 walk node is, first_far)

  abbrev IsMade : ℕ → Type 0
  IsMade node = (walk : List Leg) × IsWalk legs 0 walk node × (time_of walk ≡ shortest_of legs node)

  -- and one takes as long, where each node but the first is entered
  module _ (entered : (k : ℕ) → 0 < k → k < count → IsTrue (is_entered legs k)) where
    made_by : (node : ℕ) → 0 < node → node < count → (o : Option ℕ)
        → least_into (far_upto legs node) node legs ≡ o
        → ((before : ℕ) → before < node → IsMade before) → IsMade node
    made_by node from within None none each =
        let any = Any-from_list_any (λ (leg : Leg). leg.to == node) legs (entered node from within)
        in
        absurd (subst (IsUpTo (far_upto legs node any.1.from + any.1.least)) none
        (least_le (far_upto legs node) node legs any.1 (any.0, any.2, any.3)
        (eqb-true any.1.to node any.4)))
    made_by node from within (Some time) some each =
        let met = least_met (far_upto legs node) node legs time some in
        let up = (leg_is count legs network met.leg met.there).upward in
        let below : met.leg.from < node = omega (arith, up, met.to) in
        let before = each met.leg.from below in (
          before.0 ++ met.leg ∷ [],
          subst (IsWalk legs 0 (before.0 ++ met.leg ∷ [])) met.to
              (walk_on legs 0 before.0 met.leg before.1 met.there),
          omega (
            arith,
            time_on before.0 met.leg,
            before.2,
            far_stays legs node met.leg.from below,
            met.is,
            far_is legs node,
            ap or_zero some,
          ),
        )

    made_upto : (n node : ℕ) → node < n → node < count → IsMade node
    made_upto zero node below within = absurd (omega arith)
    made_upto (suc n) node below within =
        elim (cases_eq node 0) as (λ _. IsMade node) [
          | inl first ↦ subst IsMade (sym first) ([], refl, sym first_far)
          | inr later ↦ made_by node (omega (arith, later)) within
              (least_into (far_upto legs node) node legs) refl
              (λ before less. made_upto n before (omega (arith, less, below))
              (omega (arith, less, within)))
        ]

    pub shortest_is : (node : ℕ) → node < count → IsShortest legs node (shortest_of legs node)
    shortest_is node within = record {
      reached = made_upto (suc node) node (omega arith) within;
      below = shortest_below node;
    }

  -- a walk leads where its last leg does
  walk_reaches : (from here : ℕ) (walk : List Leg) (to : ℕ) → IsWalk legs here walk to
      → reaches_of legs from here ≡ true → reaches_of legs from to ≡ true
  walk_reaches from here [] to is led = subst (λ n. reaches_of legs from n ≡ true) is led
  walk_reaches from here (leg ∷ walk) to is led =
      walk_reaches from leg.to walk to is.2
      (reach_along count legs network from leg is.0
      (inr (subst (λ n. reaches_of legs from n ≡ true) (sym is.1) led)))

  reached_on : (from to : ℕ) → IsReached legs from to → reaches_of legs from to ≡ true
  reached_on from to reached =
      walk_reaches from reached.0.to reached.1 to reached.2.2
      (reach_along count legs network from reached.0 reached.2.0 (inl reached.2.1))

  reached_by : (from n node : ℕ) → node < n → reaches_of legs from node ≡ true
      → IsReached legs from node
  reached_by from zero node below is = absurd (omega arith)
  reached_by from (suc n) node below is =
      let led = led_by (reach_upto legs from node) from node legs
      (sym (reach_is legs from node) ∙ is) in
      let up = (leg_is count legs network led.leg led.there).upward in
      let less : led.leg.from < node = omega (arith, up, led.to) in
      elim led.start as (λ _. IsReached legs from node) [
        | inl start ↦ (led.leg, [], (led.there, start, led.to))
        | inr start ↦
            let before = reached_by from n led.leg.from (omega (arith, less, below))
            (sym (reach_stays legs from node led.leg.from less) ∙ start) in (
              before.0,
              before.1 ++ led.leg ∷ [],
              (
                before.2.0,
                before.2.1,
                subst (IsWalk legs before.0.to (before.1 ++ led.leg ∷ [])) led.to
                    (walk_on legs before.0.to before.1 led.leg before.2.2 led.there),
              ),
            )
      ]

  pub reaches_exactly : (from to : ℕ) → (reaches_of legs from to ≡ true) ↔ IsReached legs from to
  reaches_exactly from to = (reached_by from (suc to) to (omega arith), reached_on from to)

  -- what is kept of so many nodes
  module _ (times : List ℕ) (reached : List (List Bool)) (far : AreShortest legs count times)
      (led : AreAllReached legs count count reached) where
    abbrev kept : Ways
    kept = record { times = times; reached = reached }

    shortest_kept : (node : ℕ) → slice_index times node ≡ shortest_of legs node
    shortest_kept node =
        elim (cases_lt node count) as (λ _. slice_index times node ≡ shortest_of legs node) [
          | inl less ↦ far.each node less
          | inr more ↦ get_or_past times node 0 (omega (arith, more, far.long))
              ∙ sym (far_beyond count legs network node more)
        ]

    marks_kept : (from : ℕ) (marks : List Bool) → AreReached legs from count marks → (to : ℕ)
        → slice_index_or marks to false ≡ reaches_of legs from to
    marks_kept from marks are to =
        elim (cases_lt to count) as (λ _. slice_index_or marks to false ≡ reaches_of legs from to) [
          | inl less ↦ are.each to less
          | inr more ↦ get_or_past marks to false (omega (arith, more, are.long))
              ∙ sym (reach_beyond count legs network from to more)
        ]

    reaches_kept : (from to : ℕ) → reaches_in kept from to ≡ reaches_of legs from to
    reaches_kept from to =
        elim (cases_lt from count) as (λ _. reaches_in kept from to ≡ reaches_of legs from to) [
          | inl less ↦ marks_kept from (slice_index_or reached from []) (led.each from less) to
          | inr more ↦
              ap (λ marks. slice_index_or marks to false)
              (get_or_past reached from [] (omega (arith, more, led.long)))
              ∙ sym (reach_from_none count legs network from to more)
        ]

    pub ways_kept : AreWaysAlong legs kept
    ways_kept = record { shortest = shortest_kept; reaches = reaches_kept }

-- of a flight of a day
module _ (parts : Parts) (f : ℕ) (flight : Flight) (scenario : IsScenario parts)
    (found : slice_get parts.flights f ≡ Some flight) where
  proper : IsFlight parts.day.periods parts.places parts.tables flight
  proper = All-item (IsFlight parts.day.periods parts.places parts.tables) parts.flights f flight
      scenario.flights.each found

  pub legs_are : All (IsLeg (length flight.nodes)) flight.legs
  legs_are = proper.route.each_leg

  pub entered_are : (k : ℕ) → 0 < k → k < length flight.nodes → IsTrue (is_entered flight.legs k)
  entered_are = proper.route.entered

-- what is known along its legs holds of all walks
module _ (parts : Parts) (scenario : IsScenario parts) (f : ℕ) (d : Flight)
    (within : f < length parts.flights) where
  abbrev here : Flight
  here = get_or parts.flights f d

  found_here : slice_get parts.flights f ≡ Some here
  found_here = slice_get-get_or parts.flights f d within

  pub flight_legs : All (IsLeg (length here.nodes)) here.legs
  flight_legs = legs_are parts f here scenario found_here

  pub flight_nodes : length here.nodes ≤ most_nodes
  flight_nodes = (proper parts f here scenario found_here).route.nodes_to

  module _ (ways : Ways) (along : AreWaysAlong here.legs ways) where
    pub ways_along : AreWaysAlong (legs_of (slice_get parts.flights f)) ways
    ways_along = subst (λ o. AreWaysAlong (legs_of o) ways) (sym found_here) along

    least_here : (node : ℕ) → HasNode (Some here) node
        → IsShortest here.legs node (shortest_in ways node)
    least_here node has = subst (IsShortest here.legs node) (sym (along.shortest node))
        (shortest_is (length here.nodes) here.legs flight_legs
        (entered_are parts f here scenario found_here) node has)

    pub ways_least : (node : ℕ) → HasNode (slice_get parts.flights f) node
        → IsShortest (legs_of (slice_get parts.flights f)) node (shortest_in ways node)
    ways_least = subst (λ o. (node : ℕ) → HasNode o node
        → IsShortest (legs_of o) node (shortest_in ways node)) (sym found_here) least_here

    leads_here : (from to : ℕ) → (reaches_in ways from to ≡ true) ↔ IsReached here.legs from to
    leads_here from to = subst (λ b. (b ≡ true) ↔ IsReached here.legs from to)
        (sym (along.reaches from to)) (reaches_exactly (length here.nodes) here.legs flight_legs
        from to)

    pub ways_lead : (from to : ℕ) → (reaches_in ways from to ≡ true)
        ↔ IsReached (legs_of (slice_get parts.flights f)) from to
    ways_lead = subst (λ o. (from to : ℕ) → (reaches_in ways from to ≡ true)
        ↔ IsReached (legs_of o) from to) (sym found_here) leads_here
