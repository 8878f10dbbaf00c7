-- What a trip has entered, by the network of its flight: nothing twice, nothing too soon, and only
-- what walks lead to.
use Rattle.std.proofs.Common.{◌≡◌, ◌⊎◌, ℕ, suc, ◌+◌, ◌-◌, ◌<◌, ◌≤◌, ◌==◌, Bool, true, false, not, List, [], ◌∷◌, length, get_or, cond, All, AllPairs, if◌then◌else◌, inl, inr, refl, sym, ◌∙◌, ap, subst, arith, Some}
use Rattle.std.specs.List.{Any, Contains, find, list_all}
use Rattle.std.proofs.lemmas.Bool.{and_from, and_parts, cases_eq, cond-false, cond-true, eq-eqb, eqb-true, ne_eqb, not-true}
use Rattle.std.proofs.lemmas.List.Elements.{All-contains}
use Rattle.flow_types.specs.declared.flight.Flight.{Flight}
use Rattle.flow_types.specs.declared.flight.Leg.{Leg}
use Rattle.flow_types.specs.declared.plan.Stop.{Stop}
use Rattle.flow_types.specs.Routes.{IsLeg, IsOtherLeg}
use Rattle.flow_types.specs.Trips.{IsLegBetween, IsOnward}
use Rattle.bytime_model.specs.Values.{by_of}
use Rattle.bytime_model.proofs.EntryFacts.{by_cases, by_few, by_grows, by_here, by_skip}
use Rattle.bytime_model.proofs.TripFacts.{before, before_in, is_by_at, not_by}
use Rattle.route_distances.specs.Walks.{reaches_of, shortest_of}
use Rattle.route_distances.proofs.WalkFacts.{far_along, reach_along, there_cases}
use Rattle.route_distances.proofs.WayFacts.{first_far}
use Rattle.cut_rows.specs.Cuts.{is_head, joins, leads_to_none, least_between, least_of}
use Rattle.cut_rows.proofs.NodeFacts.{head_from, passes}
use Rattle.cut_rows.proofs.SumFacts.{named_or_not, only, only_here, only_le, only_more}

-- the leg of a step, which is one of the flight's
step_leg : (legs : List Leg) (stop next : Stop) → Any (IsLegBetween stop next) legs
    → (leg : Leg) × Contains legs leg × IsLegBetween stop next leg
step_leg legs stop next any = (any.1, (any.0, any.2, any.3), any.4)

module _ (periods : ℕ) (flight : Flight) (network : All (IsLeg (length flight.nodes)) flight.legs)
  where
    abbrev legs : List Leg
    legs = flight.legs

    step_up : (stop next : Stop) → Any (IsLegBetween stop next) legs → stop.node < next.node
    step_up stop next step =
        let leg = step_leg legs stop next step in
        let up = (All-contains (IsLeg (length flight.nodes)) legs leg.0 network leg.1).upward in
        omega (arith, up, leg.2.from, leg.2.to)

    -- later stops are at higher nodes
    later : (node time : ℕ) (stop : Stop) (rest : List Stop) → IsOnward periods flight stop rest
        → node ≤ stop.node → by_of node time rest ≡ 0
    later node time stop [] onward low = refl
    later node time stop (next ∷ rest) onward low =
        let up = step_up stop next onward.0 in
        by_skip node time next rest (not_by node time next (λ same _. omega (arith, same, up, low)))
        ∙ later node time next rest onward.2 (omega (arith, up, low))

    -- No node is entered sooner than the shortest way there takes.
    pub not_sooner : (node time : ℕ) (stop : Stop) (rest : List Stop)
        → IsOnward periods flight stop rest → 1 ≤ by_of node time (stop ∷ rest)
        → shortest_of legs node + stop.time ≤ shortest_of legs stop.node + time
    not_sooner node time stop [] onward there =
        elim (by_cases node time stop)
        as (λ _. shortest_of legs node + stop.time ≤ shortest_of legs stop.node + time) [
          | inl is ↦ let early = is.early in
              omega (arith, early, ap (shortest_of legs) is.there)
          | inr other ↦ absurd (omega (arith, there, by_skip node time stop [] other))
        ]
    not_sooner node time stop (next ∷ rest) onward there =
        elim (by_cases node time stop)
        as (λ _. shortest_of legs node + stop.time ≤ shortest_of legs stop.node + time) [
          | inl is ↦ let early = is.early in
              omega (arith, early, ap (shortest_of legs) is.there)
          | inr other ↦
              let leg = step_leg legs stop next onward.0 in
              let least = leg.2.least in
              omega (
                arith,
                not_sooner node time next rest onward.2 (omega (
                  arith,
                  there,
                  by_skip node time stop (next ∷ rest) other,
                )),
                far_along (length flight.nodes) legs network leg.0 leg.1,
                ap (shortest_of legs) leg.2.from,
                ap (shortest_of legs) leg.2.to,
                least,
              )
        ]

    -- So whoever has entered a node had departed in time for it.
    pub departed_before : (node time : ℕ) (stop : Stop) (rest : List Stop) → stop.node ≡ 0
        → IsOnward periods flight stop rest
        → by_of node time (stop ∷ rest)
        ≤ before (λ t. by_of 0 t (stop ∷ rest)) time (shortest_of legs node)
    departed_before node time stop rest first onward =
        elim (cases_eq (by_of node time (stop ∷ rest)) 0) as (λ _. by_of node time (stop ∷ rest)
        ≤ before (λ t. by_of 0 t (stop ∷ rest)) time (shortest_of legs node)) [
          | inl none ↦ omega (arith, none)
          | inr some ↦
              let soon = not_sooner node time stop rest onward (omega (arith, some)) in
              let from = ap (shortest_of legs) first in
              let zero_at = first_far (length flight.nodes) legs network in
              let wait : shortest_of legs node + stop.time ≤ time = omega
              (arith, soon, from, zero_at)
              in
              omega (
                arith,
                by_few node time (stop ∷ rest),
                before_in (λ t. by_of 0 t (stop ∷ rest)) time (shortest_of legs node) (omega (
                  arith,
                  wait,
                )),
                by_here 0 (time - shortest_of legs node) stop rest
                    (is_by_at stop 0 (time - shortest_of legs node) first (omega (arith, wait))),
              )
        ]

    -- What is entered after a stop is led to from its node.
    reached_after : (from node time : ℕ) (stop : Stop) (rest : List Stop)
        → IsOnward periods flight stop rest
        → (stop.node ≡ from) ⊎ (reaches_of legs from stop.node ≡ true)
        → 1 ≤ by_of node time rest → reaches_of legs from node ≡ true
    reached_after from node time stop [] onward start there = absurd (omega (arith, there))
    reached_after from node time stop (next ∷ rest) onward start there =
        let leg = step_leg legs stop next onward.0 in
        let led : reaches_of legs from next.node ≡ true =
        subst (λ n. reaches_of legs from n ≡ true) leg.2.to
        (reach_along (length flight.nodes) legs network from leg.0 leg.1
        (elim start as (λ _. (leg.0.from ≡ from) ⊎ (reaches_of legs from leg.0.from ≡ true)) [
          | inl is ↦ inl (leg.2.from ∙ is)
          | inr is ↦ inr (subst (λ n. reaches_of legs from n ≡ true) (sym leg.2.from) is)
        ])) in
        elim (by_cases node time next) as (λ _. reaches_of legs from node ≡ true) [
          | inl is ↦ subst (λ n. reaches_of legs from n ≡ true) is.there led
          | inr other ↦ reached_after from node time next rest onward.2 (inr led)
              (omega (arith, there, by_skip node time next rest other))
        ]

    pub led_after : (node time : ℕ) (stop : Stop) (rest : List Stop)
        → IsOnward periods flight stop rest → 1 ≤ by_of node time rest
        → reaches_of legs stop.node node ≡ true
    led_after node time stop rest onward there =
        reached_after stop.node node time stop rest onward (inl refl) there

-- the leg between two nodes is the one that joins them
joins_both : (from to : ℕ) (leg : Leg) → joins from to leg ≡ true → (leg.from ≡ from) × (leg.to
    ≡ to)
joins_both from to leg is =
    let both = and_parts (leg.from == from) (leg.to == to) is in
    (eqb-true leg.from from both.0, eqb-true leg.to to both.1)

least_by : (legs : List Leg) (leg first : Leg) (b : Bool) → joins leg.from leg.to first ≡ b
    → (first ≡ leg) ⊎ Contains legs leg → (Contains legs leg → first.from ≡ leg.from
    → first.to ≡ leg.to → ⊥) → (Contains legs leg
    → least_of (find (joins leg.from leg.to) legs) ≡ leg.least)
    → least_of (cond b (Some first) (find (joins leg.from leg.to) legs)) ≡ leg.least
least_by legs leg first true is (inl same) other rest = ap (λ (l : Leg). l.least) same
least_by legs leg first true is (inr there) other rest =
    let ends = joins_both leg.from leg.to first is in
    absurd (other there ends.0 ends.1)
least_by legs leg first false is (inl same) other rest =
    absurd (let own : joins leg.from leg.to first ≡ true =
    and_from (first.from == leg.from) (first.to == leg.to)
    (eq-eqb first.from leg.from (ap (λ (l : Leg). l.from) same))
    (eq-eqb first.to leg.to (ap (λ (l : Leg). l.to) same)) in
    let bad : ⊥ = cc in bad)
least_by legs leg first false is (inr there) other rest = rest there

pub least_is : (legs : List Leg) (leg : Leg) → AllPairs IsOtherLeg legs → Contains legs leg
    → least_between leg.from leg.to legs ≡ leg.least
least_is [] leg apart there = absurd (omega (arith, there.1))
least_is (first ∷ legs) leg apart there =
    least_by legs leg first (joins leg.from leg.to first) refl (there_cases leg first legs there)
    (λ later from to. apart_at later (apart 0 (suc later.0) leg (omega arith)
    (omega (arith, later.1))) from to)
    (λ later. least_is legs leg (λ i j d less within. apart (suc i) (suc j) d (omega (arith, less))
    (omega (arith, within))) later)
  where
    apart_at : (later : Contains legs leg) → IsOtherLeg first (get_or legs later.0 leg)
        → first.from ≡ leg.from → first.to ≡ leg.to → ⊥
    apart_at later other from to =
        (subst (λ l. IsOtherLeg first l) later.2 other) from to

-- the node that a trip enters after one, if it does
abbrev pub after : ℕ → Stop → List Stop → ℕ
after node stop [] = 0
after node stop (next ∷ rest) = if stop.node == node then next.node else after node next rest

after_here : (node : ℕ) (stop next : Stop) (rest : List Stop) → stop.node ≡ node
    → after node stop (next ∷ rest) ≡ next.node
after_here node stop next rest is =
    cond-true (stop.node == node) next.node (after node next rest) (eq-eqb stop.node node is)

after_on : (node : ℕ) (stop next : Stop) (rest : List Stop) → (stop.node ≡ node → ⊥)
    → after node stop (next ∷ rest) ≡ after node next rest
after_on node stop next rest other =
    cond-false (stop.node == node) next.node (after node next rest)
    (ne_eqb stop.node node other)

module _ (periods : ℕ) (flight : Flight) (network : All (IsLeg (length flight.nodes)) flight.legs)
    (once : AllPairs IsOtherLeg flight.legs) where
  -- Whoever has entered a head, which the node alone leads to, had entered the node as long before
  -- as the leg takes, and enters no other head.
  module _ (node time head by : ℕ) (is_own : is_head flight.legs node head ≡ true)
      (soon : by ≤ time + least_between node head flight.legs) where
    next_is : (stop next : Stop) → Any (IsLegBetween stop next) flight.legs → next.node ≡ head
        → (stop.node ≡ node) × (next.time ≤ by → stop.time ≤ time)
    next_is stop next step same =
        let leg = step_leg flight.legs stop next step in
        let to : leg.0.to ≡ head = leg.2.to ∙ same in
        let from : leg.0.from ≡ node = head_from flight.legs node head leg.0 is_own leg.1 to in
        let least = leg.2.least in
        let takes : least_between node head flight.legs ≡ leg.0.least =
        subst (λ n. least_between n head flight.legs ≡ leg.0.least) from
        (subst (λ m. least_between leg.0.from m flight.legs ≡ leg.0.least) to
        (least_is flight.legs leg.0 once leg.1)) in
        (sym leg.2.from ∙ from, λ early. omega (arith, early, soon, takes, least))

    pub head_by : (stop : Stop) (rest : List Stop) → IsOnward periods flight stop rest
        → (head ≡ stop.node → ⊥)
        → by_of head by (stop ∷ rest)
        ≤ only (after node stop rest) (by_of node time (stop ∷ rest)) head
    head_by stop [] onward other =
        omega (arith, by_skip head by stop [] (not_by head by stop (λ same _. other (sym same))))
    head_by stop (next ∷ rest) onward other =
        let skip = by_skip head by stop (next ∷ rest)
        (not_by head by stop (λ same _. other (sym same))) in
        let count = by_of node time (stop ∷ next ∷ rest) in
        elim (cases_eq next.node head) as (λ _. by_of head by (stop ∷ next ∷ rest)
        ≤ only (after node stop (next ∷ rest)) count head) [
          | inl same ↦
              let own = next_is stop next onward.0 same in
              let at = after_here node stop next rest own.0 ∙ same in
              let here : only (after node stop (next ∷ rest)) count head ≡ count =
              ap (λ n. only n count head) at ∙ only_here head count in
              elim (by_cases head by next) as (λ _. by_of head by (stop ∷ next ∷ rest)
              ≤ only (after node stop (next ∷ rest)) count head) [
                | inl is ↦
                    omega (
                      arith,
                      skip,
                      here,
                      by_few head by (next ∷ rest),
                      by_here node time stop (next ∷ rest)
                          (is_by_at stop node time own.0 (own.1 is.early)),
                    )
                | inr not_yet ↦
                    omega (
                      arith,
                      skip,
                      by_skip head by next rest not_yet,
                      later periods flight network head by next rest onward.2
                          (omega (arith, same)),
                    )
              ]
          | inr apart ↦
              let rest_by = head_by next rest onward.2 (λ same. apart (sym same)) in
              elim (cases_eq stop.node node) as (λ _. by_of head by (stop ∷ next ∷ rest)
              ≤ only (after node stop (next ∷ rest)) count head) [
                | inl here ↦
                    omega (
                      arith,
                      skip,
                      rest_by,
                      only_le (after node next rest) (by_of node time (next ∷ rest)) head,
                      later periods flight network node time stop (next ∷ rest) onward
                          (omega (arith, here)),
                    )
                | inr before_it ↦
                    omega (
                      arith,
                      skip,
                      rest_by,
                      only_more (after node next rest) (by_of node time (next ∷ rest)) count head
                          (by_grows node time stop (next ∷ rest)),
                      ap (λ n. only n count head) (after_on node stop next rest before_it),
                    )
              ]
        ]

  -- Of nodes of which none leads to another it enters one at the most.
  module _ (time : ℕ) (nodes : List ℕ)
      (apart : list_all (leads_to_none flight.legs nodes) nodes ≡ true) where
    abbrev IsOne : Stop → List Stop → ℕ → Type 0
    IsOne stop rest here = (node : ℕ) → Contains nodes node
        → by_of node time (stop ∷ rest) ≤ only here 1 node

    skips : (node : ℕ) (stop : Stop) (rest : List Stop) → (node ≡ stop.node → ⊥)
        → by_of node time (stop ∷ rest) ≡ by_of node time rest
    skips node stop rest other =
        by_skip node time stop rest (not_by node time stop (λ same _. other (sym same)))

    not_led : (from to : ℕ) → Contains nodes from → Contains nodes to
        → reaches_of flight.legs from to ≡ true → ⊥
    not_led from to one two led =
        let none = passes (leads_to_none flight.legs nodes) nodes from apart one in
        let not_one = passes (λ n. not (reaches_of flight.legs from n)) nodes to none two in
        let no = not-true (reaches_of flight.legs from to) not_one in
        let bad : ⊥ = cc in bad

    one_here : (stop : Stop) (rest : List Stop) → IsOnward periods flight stop rest
        → Contains nodes stop.node → IsOne stop rest stop.node
    one_here stop rest onward named node there =
        elim (cases_eq node stop.node)
        as (λ _. by_of node time (stop ∷ rest) ≤ only stop.node 1 node) [
          | inl same ↦ omega (
            arith,
            by_few node time (stop ∷ rest),
            ap (only stop.node 1) same,
            only_here stop.node 1,
          )
          | inr other ↦ elim (cases_eq (by_of node time rest) 0)
              as (λ _. by_of node time (stop ∷ rest) ≤ only stop.node 1 node) [
                | inl none ↦ omega (arith, skips node stop rest other, none)
                | inr some ↦ absurd (not_led stop.node node named there
                    (led_after periods flight network node time stop rest onward
                    (omega (arith, some))))
              ]
        ]

    pub apart_by : (stop : Stop) (rest : List Stop) → IsOnward periods flight stop rest
        → (here : ℕ) × IsOne stop rest here
    apart_by stop [] onward = (
      stop.node,
      λ node there. elim (cases_eq node stop.node)
          as (λ _. by_of node time (stop ∷ []) ≤ only stop.node 1 node) [
            | inl same ↦ omega (
              arith,
              by_few node time (stop ∷ []),
              ap (only stop.node 1) same,
              only_here stop.node 1,
            )
            | inr other ↦ omega (arith, skips node stop [] other)
          ],
    )
    apart_by stop (next ∷ rest) onward =
        elim (named_or_not nodes stop.node)
        as (λ _. (here : ℕ) × IsOne stop (next ∷ rest) here) [
          | inl named ↦ (stop.node, one_here stop (next ∷ rest) onward named)
          | inr unnamed ↦
              let before_it = apart_by next rest onward.2 in (
                before_it.0,
                λ node there. omega (
                  arith,
                  skips node stop (next ∷ rest) (unnamed node there),
                  before_it.1 node there,
                ),
              )
        ]
