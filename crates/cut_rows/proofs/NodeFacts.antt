-- Nodes that a cut names: their order, what of it a loop has seen, and how many they are.
use Rattle.std.proofs.Common.{◌≡◌, ℕ, zero, suc, ◌+◌, ◌<◌, ◌≤◌, ◌==◌, Bool, true, false, ◌&&◌, not, nat_le, nat_lt, List, [], ◌∷◌, length, get_or, drop, All, Option, None, Some, slice_get, inl, inr, refl, ◌∙◌, ap, subst, arith}
use Rattle.std.specs.List.{Contains, list_all, list_any}
use Rattle.std.proofs.Math.Seq.{drop-cons}
use Rattle.std.proofs.lemmas.Bool.{and_left, and_parts, eq-eqb, eqb-true, le-leb, leb-true, lt-leb, ltb-true, or_cases}
use Rattle.std.proofs.lemmas.List.Elements.{All-contains, All-nil, All-weaker}
use Rattle.std.proofs.lemmas.List.Folds.{Any-from_list_any}
use Rattle.flow_types.specs.declared.flight.Flight.{Flight}
use Rattle.flow_types.specs.declared.flight.Leg.{Leg}
use Rattle.flow_types.specs.declared.parts.Parts.{Parts}
use Rattle.flow_types.specs.Limits.{most_nodes}
use Rattle.flow_types.specs.Routes.{IsLeg}
use Rattle.flow_types.specs.Valid.{IsScenario}
use Rattle.bytime_model.specs.Rows.{is_node}
use Rattle.route_distances.specs.Walks.{legs_of}
use Rattle.time_windows.proofs.RootFacts.{flight_in}
use Rattle.cut_rows.specs.Cuts.{are_apart, are_heads, ascends_from, is_from, is_head, joins, leads_to_none}

-- a loop that has seen the nodes before a position
module _ (low : ℕ) (nodes : List ℕ) (i : ℕ) (within : i < length nodes) where
  abbrev here : ℕ
  here = get_or nodes i 0

  ascends_on : ascends_from low (drop i nodes)
      ≡ (nat_le low here && ascends_from (here + 1) (drop (i + 1) nodes))
  ascends_on =
      let next : suc i ≡ i + 1 = omega arith in
      ap (ascends_from low) (drop-cons nodes i 0 within)
      ∙ ap (λ n. nat_le low here && ascends_from (here + 1) (drop n nodes)) next

  pub falls_here : here < low → ascends_from low (drop i nodes) ≡ false
  falls_here less =
      ascends_on ∙ and_left (nat_le low here) (ascends_from (here + 1) (drop (i + 1) nodes))
      (lt-leb low here less)

  pub rises_here : low ≤ here
      → ascends_from low (drop i nodes) ≡ ascends_from (here + 1) (drop (i + 1) nodes)
  rises_here le =
      ascends_on ∙ ap (λ b. b && ascends_from (here + 1) (drop (i + 1) nodes)) (le-leb low here le)

-- where all pass a test each does
pub pass_at : {X : Type 0} (test : X → Bool) (xs : List X) (k : ℕ) (d : X)
    → list_all test xs ≡ true → k < length xs → test (get_or xs k d) ≡ true
pass_at test [] k d all within = absurd (omega (arith, within))
pass_at test (x ∷ xs) zero d all within = (and_parts (test x) (list_all test xs) all).0
pass_at test (x ∷ xs) (suc k) d all within =
    pass_at test xs k d (and_parts (test x) (list_all test xs) all).1 (omega (arith, within))

pub passes : {X : Type 0} (test : X → Bool) (xs : List X) (x : X) → list_all test xs ≡ true
    → Contains xs x → test x ≡ true
passes test xs x all there =
    subst (λ y. test y ≡ true) there.2 (pass_at test xs there.0 x all there.1)

-- no more than numbers below a bound
few_below : (bound low : ℕ) (nodes : List ℕ) → ascends_from low nodes ≡ true
    → ((node : ℕ) → Contains nodes node → node < bound) → low ≤ bound → low + length nodes ≤ bound
few_below bound low [] up below le = omega (arith, le)
few_below bound low (node ∷ nodes) up below le =
    let both = and_parts (nat_le low node) (ascends_from (node + 1) nodes) up in
    let above : low ≤ node = leb-true low node both.0 in
    let here : node < bound = below node (0, omega arith, refl) in
    omega (
      arith,
      above,
      few_below bound (node + 1) nodes both.1
          (λ other there. below other (suc there.0, omega (arith, there.1), there.2))
          (omega (arith, here)),
    )

-- a head is led to from the node alone
pub head_from : (legs : List Leg) (node head : ℕ) (leg : Leg) → is_head legs node head ≡ true
    → Contains legs leg → leg.to ≡ head → leg.from ≡ node
head_from legs node head leg is there to =
    let both = and_parts (list_any (joins node head) legs) (list_all (is_from node head) legs) is in
    let own = passes (is_from node head) legs leg both.1 there in
    elim (or_cases (not (leg.to == head)) (leg.from == node) own) as (λ _. leg.from ≡ node) [
      | inl other ↦ absurd (let same : (leg.to == head) ≡ true = eq-eqb leg.to head to in
          let bad : ⊥ = cc in bad)
      | inr from ↦ eqb-true leg.from node from
    ]

-- a leg from the node to it
pub record IsLegTo (legs : List Leg) (node head : ℕ) : Type 0 where
  pub leg : Leg
  pub there : Contains legs leg
  pub from : leg.from ≡ node
  pub to : leg.to ≡ head

pub head_leg : (legs : List Leg) (node head : ℕ) → is_head legs node head ≡ true
    → IsLegTo legs node head
head_leg legs node head is =
    let both = and_parts (list_any (joins node head) legs) (list_all (is_from node head) legs) is in
    let any = Any-from_list_any (joins node head) legs both.0 in
    let ends = and_parts (any.1.from == node) (any.1.to == head) any.4 in
    record {
      leg = any.1;
      there = (any.0, any.2, any.3);
      from = eqb-true any.1.from node ends.0;
      to = eqb-true any.1.to head ends.1;
    }

pub head_within : (count : ℕ) (legs : List Leg) (node head : ℕ) → All (IsLeg count) legs
    → is_head legs node head ≡ true → (node < head) × (head < count)
head_within count legs node head network is =
    let leg = head_leg legs node head is in
    let own = All-contains (IsLeg count) legs leg.leg network leg.there in
    let up = own.upward in
    let inside = own.within in
    (omega (arith, up, leg.from, leg.to), omega (arith, inside, leg.to))

-- the parts of what cuts want of their nodes
pub record AreHeads (legs : List Leg) (node : ℕ) (heads : List ℕ) : Type 0 where
  pub up : ascends_from 0 heads ≡ true
  pub each : list_all (is_head legs node) heads ≡ true

pub heads_are : (legs : List Leg) (node : ℕ) (heads : List ℕ) → are_heads legs node heads ≡ true
    → AreHeads legs node heads
heads_are legs node heads is =
    let more = (and_parts (nat_lt 0 (length heads))
    (ascends_from 0 heads && list_all (is_head legs node) heads) is).1 in
    let both = and_parts (ascends_from 0 heads) (list_all (is_head legs node) heads) more in
    record { up = both.0; each = both.1 }

pub record AreApart (flight : Option Flight) (nodes : List ℕ) : Type 0 where
  pub up : ascends_from 0 nodes ≡ true
  pub there : list_all (is_node flight) nodes ≡ true
  pub apart : list_all (leads_to_none (legs_of flight) nodes) nodes ≡ true

pub nodes_apart : (flight : Option Flight) (nodes : List ℕ) → are_apart flight nodes ≡ true
    → AreApart flight nodes
nodes_apart flight nodes is =
    let more = (and_parts (nat_lt 1 (length nodes)) (ascends_from 0 nodes
    && (list_all (is_node flight) nodes
    && list_all (leads_to_none (legs_of flight) nodes) nodes)) is).1 in
    let both = and_parts (ascends_from 0 nodes) (list_all (is_node flight) nodes
    && list_all (leads_to_none (legs_of flight) nodes) nodes) more in
    let last = and_parts (list_all (is_node flight) nodes)
    (list_all (leads_to_none (legs_of flight) nodes) nodes) both.1 in
    record { up = both.0; there = last.0; apart = last.1 }

-- legs of a flight that isn't there, or of one that is
pub legs_network : (parts : Parts) (f : ℕ) (found : Option Flight) → IsScenario parts
    → slice_get parts.flights f ≡ found → All (IsLeg most_nodes) (legs_of found)
legs_network parts f None scenario is = All-nil (IsLeg most_nodes)
legs_network parts f (Some flight) scenario is =
    let route = (flight_in parts f flight scenario is).route in
    All-weaker (IsLeg (length flight.nodes)) (IsLeg most_nodes)
    (λ leg own. record {
      upward = own.upward;
      within = let inside = own.within in
          let few = route.nodes_to in omega (arith, inside, few);
      least = own.least;
    }) flight.legs route.each_leg

-- so they are few
pub heads_few : (parts : Parts) (f node : ℕ) (heads : List ℕ) → IsScenario parts
    → are_heads (legs_of (slice_get parts.flights f)) node heads ≡ true
    → length heads ≤ most_nodes
heads_few parts f node heads scenario is =
    let legs = legs_of (slice_get parts.flights f) in
    let own = heads_are legs node heads is in
    omega (
      arith,
      few_below most_nodes 0 heads own.up
          (λ head there. (head_within most_nodes legs node head
          (legs_network parts f (slice_get parts.flights f) scenario refl)
          (passes (is_head legs node) heads head own.each there)).1) (omega arith),
    )

node_few : (parts : Parts) (f node : ℕ) (found : Option Flight) → IsScenario parts
    → slice_get parts.flights f ≡ found → is_node found node ≡ true → node < most_nodes
node_few parts f node None scenario is there = absurd cc
node_few parts f node (Some flight) scenario is there =
    let few = (flight_in parts f flight scenario is).route.nodes_to in
    omega (arith, few, ltb-true node (length flight.nodes) there)

pub nodes_few : (parts : Parts) (f : ℕ) (nodes : List ℕ) → IsScenario parts
    → are_apart (slice_get parts.flights f) nodes ≡ true → length nodes ≤ most_nodes
nodes_few parts f nodes scenario is =
    let own = nodes_apart (slice_get parts.flights f) nodes is in
    omega (
      arith,
      few_below most_nodes 0 nodes own.up
          (λ node there. node_few parts f node (slice_get parts.flights f) scenario refl
          (passes (is_node (slice_get parts.flights f)) nodes node own.there there)) (omega arith),
    )
