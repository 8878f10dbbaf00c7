-- No plan that keeps every rule breaks the row of a cut, and like terms of it are collected.
use Rattle.std.proofs.Common.{◌≡◌, ℕ, zero, suc, ◌+◌, ◌-◌, ◌<◌, ◌≤◌, Bool, true, false, ◌&&◌, nat_le, nat_lt, List, [], ◌∷◌, ◌++◌, length, map, get_or, Option, None, Some, slice_get, All, pos, ◌≤ℤ◌, inl, inr, refl, sym, ◌∙◌, ap, subst, arith}
use Rattle.std.specs.List.{Contains, list_all}
use Rattle.std.proofs.lemmas.Bool.{and_parts, leb-true, ltb-true}
use Rattle.std.proofs.lemmas.Int.{ints}
use Rattle.std.proofs.lemmas.List.Elements.{All-append, All-cons, All-nil, All-map}
use Rattle.flow_types.specs.declared.flight.Flight.{Flight}
use Rattle.flow_types.specs.declared.flight.Leg.{Leg}
use Rattle.flow_types.specs.declared.parts.Parts.{Parts}
use Rattle.flow_types.specs.declared.plan.Stop.{Stop}
use Rattle.flow_types.specs.Feasible.{IsFeasible}
use Rattle.flow_types.specs.Limits.{most_nodes}
use Rattle.flow_types.specs.Routes.{IsLeg}
use Rattle.flow_types.specs.Trips.{IsTrip}
use Rattle.flow_types.specs.Valid.{IsFlight, IsScenario}
use Rattle.time_windows.proofs.RootFacts.{flight_in}
use Rattle.exact_sums.proofs.ShortLists.{no_pairs}
use Rattle.bytime_model.specs.declared.variables.Term.{Term}
use Rattle.bytime_model.specs.declared.variables.Var.{Var}
use Rattle.bytime_model.specs.declared.variables.Var.TheVariants.{By, Inside}
use Rattle.bytime_model.specs.Rows.{AreCollected, AreOther, AtMost, IsValid, RowHolds, by_before, is_node, minus_one, no_row, one, term_of}
use Rattle.bytime_model.specs.Values.{by_of, form_value, value_at}
use Rattle.bytime_model.proofs.FormFacts.{form-append, form-before, form-minus, form-one}
use Rattle.bytime_model.proofs.NameLists.{Ascending, Each, ascending_append, ascending_if, ascending_pairs, each_if, each_weaker}
use Rattle.bytime_model.proofs.SmallFacts.{IsUnit, all_if, with_one}
use Rattle.bytime_model.proofs.OnceFacts.{unit_not_0}
use Rattle.bytime_model.proofs.TripFacts.{before, before_le}
use Rattle.bytime_model.proofs.UseFacts.{IsFlown, by_value}
use Rattle.bytime_model.proofs.ValidFacts.{flown}
use Rattle.route_distances.specs.Walks.{legs_of, shortest_of}
use Rattle.cut_rows.specs.declared.names.CutName.{CutName}
use Rattle.cut_rows.specs.declared.names.CutName.TheVariants.{Apart, Departed, Heads}
use Rattle.cut_rows.specs.Cuts.{apart_term, apart_terms, are_apart, are_heads, ascends_from, cut_row, cut_terms, departed_terms, head_term, head_time, heads_terms, is_cut, is_head, leads_to_none}
use Rattle.cut_rows.proofs.NodeFacts.{head_leg, head_within, heads_are, legs_network, nodes_apart, passes}
use Rattle.cut_rows.proofs.SumFacts.{only, sum_le, sum_of, sum_once}
use Rattle.cut_rows.proofs.WayFacts.{after, apart_by, departed_before, head_by}

-- entered nodes, added up
form_units : (value : Var → ℕ) (f : ℕ) (by : ℕ → ℕ) (nodes : List ℕ)
    → form_value value (map (λ node. term_of one (By f node (by node))) nodes)
    ≡ pos (sum_of (λ node. value (By f node (by node))) nodes)
form_units value f by [] = refl
form_units value f by (node ∷ nodes) =
    omega (
      arith,
      ints,
      form-one value (By f node (by node))
          (map (λ n. term_of one (By f n (by n))) nodes),
      form_units value f by nodes,
    )

module _ (parts : Parts) (plan : List (List Stop)) (f : ℕ) (flight : Flight) (trip : List Stop)
    (proper : IsFlight parts.day.periods parts.places parts.tables flight)
    (is : IsFlown parts.flights plan parts.day.periods f flight trip) where
  abbrev value : Var → ℕ
  value = value_at parts.flights plan

  at_trip : (node time : ℕ) → value (By f node time) ≡ by_of node time trip
  at_trip = by_value parts.flights plan parts.day.periods f flight trip is

  -- of a trip stop by stop
  heads_sum : (node time : ℕ) (heads : List ℕ) → ascends_from 0 heads ≡ true
      → list_all (is_head flight.legs node) heads ≡ true → (stops : List Stop) → stops ≡ trip
      → sum_of (λ head. value (By f head (head_time parts.day.periods flight.legs node time head)))
      heads ≤ by_of node time trip
  heads_sum node time heads up each [] same =
      absurd (subst (IsTrip parts.day.periods flight) (sym same) is.valid)
  heads_sum node time heads up each (stop ∷ rest) same =
      let valid : IsTrip parts.day.periods flight (stop ∷ rest) =
      subst (IsTrip parts.day.periods flight) (sym same) is.valid in
      let by = head_time parts.day.periods flight.legs node time in
      let count = by_of node time (stop ∷ rest) in
      let here = after node stop rest in
      omega (
        arith,
        ap (by_of node time) same,
        sum_once here count 0 heads up,
        sum_le (λ head. value (By f head (by head))) (only here count) heads
            (λ head there.
            let own = passes (is_head flight.legs node) heads head each there in
            let above = (head_within (length flight.nodes) flight.legs node head
            proper.route.each_leg own).0 in
            omega (
              arith,
              at_trip head (by head),
              ap (by_of head (by head)) same,
              head_by parts.day.periods flight proper.route.each_leg proper.route.once node time
                  head (by head) own (omega arith) stop rest valid.2
                  (λ first. omega (arith, first, above, valid.0)),
            )),
      )

  pub heads_kept : (node time : ℕ) (heads : List ℕ) → are_heads flight.legs node heads ≡ true
      → form_value value (heads_terms parts.day.periods flight.legs f node time heads) ≤ℤ pos 0
  heads_kept node time heads are =
      let own = heads_are flight.legs node heads are in
      let by = head_time parts.day.periods flight.legs node time in
      omega (
        arith,
        ints,
        form-append value (map (head_term parts.day.periods flight.legs f node time) heads)
            (term_of minus_one (By f node time) ∷ []),
        form_units value f by heads,
        form-minus value (By f node time) [],
        heads_sum node time heads own.up own.each trip refl,
        at_trip node time,
      )

  apart_sum : (time : ℕ) (nodes : List ℕ) → ascends_from 0 nodes ≡ true
      → list_all (leads_to_none flight.legs nodes) nodes ≡ true → (stops : List Stop)
      → stops ≡ trip → sum_of (λ node. value (By f node time)) nodes ≤ 1
  apart_sum time nodes up apart [] same =
      absurd (subst (IsTrip parts.day.periods flight) (sym same) is.valid)
  apart_sum time nodes up apart (stop ∷ rest) same =
      let valid : IsTrip parts.day.periods flight (stop ∷ rest) =
      subst (IsTrip parts.day.periods flight) (sym same) is.valid in
      let one_of = apart_by parts.day.periods flight proper.route.each_leg proper.route.once time
      nodes apart stop rest valid.2 in
      omega (
        arith,
        sum_once one_of.0 1 0 nodes up,
        sum_le (λ node. value (By f node time)) (only one_of.0 1) nodes
            (λ node there. omega (
              arith,
              at_trip node time,
              ap (by_of node time) same,
              one_of.1 node there,
            )),
      )

  pub apart_kept : (time : ℕ) (nodes : List ℕ) → are_apart (Some flight) nodes ≡ true
      → form_value value (apart_terms f time nodes) ≤ℤ pos 1
  apart_kept time nodes are =
      let own = nodes_apart (Some flight) nodes are in
      omega (
        arith,
        ints,
        form_units value f (λ node. time) nodes,
        apart_sum time nodes own.up own.apart trip refl,
      )

  departed_sum : (node time : ℕ) (stops : List Stop) → stops ≡ trip
      → by_of node time trip
      ≤ before (λ t. by_of 0 t trip) time (shortest_of flight.legs node)
  departed_sum node time [] same =
      absurd (subst (IsTrip parts.day.periods flight) (sym same) is.valid)
  departed_sum node time (stop ∷ rest) same =
      let valid : IsTrip parts.day.periods flight (stop ∷ rest) =
      subst (IsTrip parts.day.periods flight) (sym same) is.valid in
      subst (λ stops. by_of node time stops
      ≤ before (λ t. by_of 0 t stops) time (shortest_of flight.legs node)) same
      (departed_before parts.day.periods flight proper.route.each_leg node time stop rest valid.0
      valid.2)

  pub departed_kept : (node time : ℕ)
      → form_value value (departed_terms flight.legs f node time) ≤ℤ pos 0
  departed_kept node time =
      omega (
        arith,
        ints,
        form-one value (By f node time)
            (by_before minus_one f 0 time (shortest_of flight.legs node)),
        form-before value f 0 time (shortest_of flight.legs node),
        at_trip node time,
        departed_sum node time trip refl,
        before_le (λ t. by_of 0 t trip) (λ t. value (By f 0 t)) time
            (shortest_of flight.legs node) (λ t. omega (arith, at_trip 0 t)),
      )

-- by its name
module _ (parts : Parts) (plan : List (List Stop)) (scenario : IsScenario parts)
    (feasible : IsFeasible parts plan) where
  abbrev at_plan : Var → ℕ
  at_plan = value_at parts.flights plan

  proper_in : (f : ℕ) (flight : Flight) → slice_get parts.flights f ≡ Some flight
      → IsFlight parts.day.periods parts.places parts.tables flight
  proper_in f flight found = flight_in parts f flight scenario found

  no_heads : (node : ℕ) (heads : List ℕ) → are_heads [] node heads ≡ true → ⊥
  no_heads node [] are = cc
  no_heads node (head ∷ heads) are =
      let own = heads_are [] node (head ∷ heads) are in
      let leg = head_leg [] node head
      (passes (is_head [] node) (head ∷ heads) head own.each (0, omega arith, refl)) in
      let there = leg.there in
      omega (arith, there.1)

  heads_row : (f n t : ℕ) (heads : List ℕ) (found : Option Flight)
      → slice_get parts.flights f ≡ found → are_heads (legs_of found) n heads ≡ true
      → form_value at_plan (heads_terms parts.day.periods (legs_of found) f n t heads) ≤ℤ pos 0
  heads_row f n t heads None is are = absurd (no_heads n heads are)
  heads_row f n t heads (Some flight) is are =
      let own = flown parts plan scenario feasible.trips f flight is in
      heads_kept parts plan f flight own.0 (proper_in f flight is) own.1 n t heads are

  no_apart : (nodes : List ℕ) → are_apart None nodes ≡ true → ⊥
  no_apart [] are = cc
  no_apart (node ∷ nodes) are =
      let own = nodes_apart None (node ∷ nodes) are in
      let there = passes (is_node None) (node ∷ nodes) node own.there (0, omega arith, refl) in
      cc

  apart_row : (f t : ℕ) (nodes : List ℕ) (found : Option Flight)
      → slice_get parts.flights f ≡ found → are_apart found nodes ≡ true
      → form_value at_plan (apart_terms f t nodes) ≤ℤ pos 1
  apart_row f t nodes None is are = absurd (no_apart nodes are)
  apart_row f t nodes (Some flight) is are =
      let own = flown parts plan scenario feasible.trips f flight is in
      apart_kept parts plan f flight own.0 (proper_in f flight is) own.1 t nodes are

  departed_row : (f n t : ℕ) (found : Option Flight) → slice_get parts.flights f ≡ found
      → is_node found n ≡ true
      → form_value at_plan (departed_terms (legs_of found) f n t) ≤ℤ pos 0
  departed_row f n t None is there = absurd cc
  departed_row f n t (Some flight) is there =
      let own = flown parts plan scenario feasible.trips f flight is in
      departed_kept parts plan f flight own.0 (proper_in f flight is) own.1 n t

  pub cut_kept : (cut : CutName) → is_cut parts cut ≡ true → RowHolds at_plan (cut_row parts cut)
  cut_kept (Heads f n t heads) is =
      heads_row f n t heads (slice_get parts.flights f) refl
      (and_parts (nat_lt t parts.day.periods)
      (are_heads (legs_of (slice_get parts.flights f)) n heads) is).1
  cut_kept (Apart f t nodes) is =
      apart_row f t nodes (slice_get parts.flights f) refl
      (and_parts (nat_lt t parts.day.periods) (are_apart (slice_get parts.flights f) nodes) is).1
  cut_kept (Departed f n t) is =
      departed_row f n t (slice_get parts.flights f) refl
      (and_parts (nat_lt 0 n) (is_node (slice_get parts.flights f) n)
      (and_parts (nat_lt t parts.day.periods) (nat_lt 0 n && is_node (slice_get parts.flights f) n)
      is).1).1

-- what is held is kept by every plan: the row of a cut, or none
pub none_valid : (parts : Parts) → IsValid parts no_row
none_valid parts plan feasible = omega (arith, ints)

pub held_valid : (parts : Parts) (cut : CutName) (held : AtMost) (told : Bool) → IsScenario parts
    → told ≡ is_cut parts cut → (told ≡ true → held ≡ cut_row parts cut)
    → (told ≡ false → held ≡ no_row) → IsValid parts held
held_valid parts cut held true scenario is row none =
    subst (IsValid parts) (sym (row refl))
    (λ plan feasible. cut_kept parts plan scenario feasible cut (sym is))
held_valid parts cut held false scenario is row none =
    subst (IsValid parts) (sym (none refl)) (none_valid parts)

-- like terms are collected
abbrev node_of : Var → ℕ
node_of (By f n t) = n
node_of (Inside f n t) = n

other_node : (n m : ℕ) (a b : Term) → (n ≡ m → ⊥) → node_of a.variable ≡ n
    → node_of b.variable ≡ m → AreOther a b
other_node n m a b other one_is two_is same = other (sym one_is ∙ ap node_of same ∙ two_is)

abbrev IsPart : (ℕ → Term) → Type 0
IsPart part = (node : ℕ) → (node_of (part node).variable ≡ node) × ((part node).factor ≡ one)

each_above : (part : ℕ → Term) → IsPart part → (low : ℕ) (nodes : List ℕ)
    → ((node : ℕ) → Contains nodes node → low ≤ node)
    → Each (λ (term : Term). low ≤ node_of term.variable) (map part nodes)
each_above part is low [] above = tt
each_above part is low (node ∷ nodes) above = (
  omega (arith, above node (0, omega arith, refl), (is node).0),
  each_above part is low nodes
      (λ other there. above other (suc there.0, omega (arith, there.1), there.2)),
)

ascends_above : (low : ℕ) (nodes : List ℕ) → ascends_from low nodes ≡ true → (node k : ℕ)
    → k < length nodes → get_or nodes k node ≡ node → low ≤ node
ascends_above low [] up node k within there = absurd (omega (arith, within))
ascends_above low (first ∷ nodes) up node zero within there =
    let both = and_parts (nat_le low first) (ascends_from (first + 1) nodes) up in
    omega (arith, leb-true low first both.0, there)
ascends_above low (first ∷ nodes) up node (suc k) within there =
    let both = and_parts (nat_le low first) (ascends_from (first + 1) nodes) up in
    omega (
      arith,
      leb-true low first both.0,
      ascends_above (first + 1) nodes both.1 node k (omega (arith, within)) there,
    )

mapped_once : (part : ℕ → Term) → IsPart part → (low : ℕ) (nodes : List ℕ)
    → ascends_from low nodes ≡ true → Ascending AreOther (map part nodes)
mapped_once part is low [] up = tt
mapped_once part is low (node ∷ nodes) up =
    let both = and_parts (nat_le low node) (ascends_from (node + 1) nodes) up in (
      each_weaker (λ (term : Term). node + 1 ≤ node_of term.variable) (AreOther (part node))
          (map part nodes)
          (λ term above. other_node node (node_of term.variable) (part node) term
          (λ same. omega (arith, same, above)) (is node).0 refl)
          (each_above part is (node + 1) nodes
          (λ other there. ascends_above (node + 1) nodes both.1 other there.0 there.1 there.2)),
      mapped_once part is (node + 1) nodes both.1,
    )

-- what holds of the term of each node
pub all_mapped : (P : Term → Type 0) (part : ℕ → Term) → ((node : ℕ) → P (part node))
    → (nodes : List ℕ) → All P (map part nodes)
all_mapped P part each nodes = All-map P part nodes (λ k d within. each (get_or nodes k d))

unit_minus : (variable : Var) → All IsUnit (term_of minus_one variable ∷ [])
unit_minus variable =
    All-cons IsUnit (term_of minus_one variable) [] (inr refl) (All-nil IsUnit)

collected : (terms : List Term) → Ascending AreOther terms → All IsUnit terms → AreCollected terms
collected terms once units = record {
  once = ascending_pairs AreOther terms once;
  no_zero = λ k d within. unit_not_0 (get_or terms k d).factor (units k d within);
}

module _ (parts : Parts) where
  heads_collected : (f n t : ℕ) (heads : List ℕ) (legs : List Leg) (count : ℕ)
      → All (IsLeg count) legs → are_heads legs n heads ≡ true
      → AreCollected (heads_terms parts.day.periods legs f n t heads)
  heads_collected f n t heads legs count network are =
      let own = heads_are legs n heads are in
      let part = head_term parts.day.periods legs f n t in
      let last = term_of minus_one (By f n t) in
      collected (map part heads ++ last ∷ [])
      (ascending_append AreOther (λ (term : Term). n + 1 ≤ node_of term.variable)
      (λ (term : Term). node_of term.variable ≡ n) (map part heads) (last ∷ [])
      (λ x y above is. other_node (node_of x.variable) n x y
      (λ same. omega (arith, same, above)) refl is)
      (each_above part (λ node. (refl, refl)) (n + 1) heads
      (λ head there. omega (
        arith,
        (head_within count legs n head network (passes (is_head legs n) heads head own.each
            there)).0,
      )))
      (refl, tt)
      (mapped_once part (λ node. (refl, refl)) 0 heads own.up)
      (tt, tt))
      (All-append IsUnit (map part heads) (last ∷ []) (all_mapped IsUnit part (λ node. inl refl)
      heads) (unit_minus (By f n t)))

  apart_collected : (f t : ℕ) (nodes : List ℕ) (found : Option Flight)
      → are_apart found nodes ≡ true → AreCollected (apart_terms f t nodes)
  apart_collected f t nodes found are =
      let own = nodes_apart found nodes are in
      collected (apart_terms f t nodes)
      (mapped_once (apart_term f t) (λ node. (refl, refl)) 0 nodes own.up)
      (all_mapped IsUnit (apart_term f t) (λ node. inl refl) nodes)

  departed_collected : (f n t : ℕ) (legs : List Leg) → 0 < n
      → AreCollected (departed_terms legs f n t)
  departed_collected f n t legs from =
      let first = term_of one (By f n t) in
      let wait = shortest_of legs n in
      let last = term_of minus_one (By f 0 (t - wait)) in
      collected (departed_terms legs f n t) (
        each_if (AreOther first) (nat_le wait t) (last ∷ [])
            (λ in_day. (
              other_node n 0 first last (λ same. omega (arith, same, from)) refl refl,
              tt,
            )),
        ascending_if AreOther (nat_le wait t) (last ∷ []) (tt, tt),
      )
      (with_one (By f n t) (by_before minus_one f 0 t wait)
      (all_if IsUnit (nat_le wait t) (last ∷ []) (unit_minus (By f 0 (t - wait)))))

  pub cut_collected : (cut : CutName) → IsScenario parts → is_cut parts cut ≡ true
      → AreCollected (cut_terms parts cut)
  cut_collected (Heads f n t heads) scenario is =
      heads_collected f n t heads (legs_of (slice_get parts.flights f)) most_nodes
      (legs_network parts f (slice_get parts.flights f) scenario refl)
      (and_parts (nat_lt t parts.day.periods)
      (are_heads (legs_of (slice_get parts.flights f)) n heads) is).1
  cut_collected (Apart f t nodes) scenario is =
      apart_collected f t nodes (slice_get parts.flights f)
      (and_parts (nat_lt t parts.day.periods) (are_apart (slice_get parts.flights f) nodes) is).1
  cut_collected (Departed f n t) scenario is =
      departed_collected f n t (legs_of (slice_get parts.flights f))
      (ltb-true 0 n (and_parts (nat_lt 0 n) (is_node (slice_get parts.flights f) n)
      (and_parts (nat_lt t parts.day.periods) (nat_lt 0 n && is_node (slice_get parts.flights f) n)
      is).1).0)

pub none_collected : AreCollected no_row.terms
none_collected = record {
  once = no_pairs AreOther;
  no_zero = λ k d within. absurd (omega (arith, within));
}

-- of what a buffer holds
pub held_collected : (parts : Parts) (cut : CutName) (held : AtMost) (told : Bool)
    → IsScenario parts → told ≡ is_cut parts cut → (told ≡ true → held ≡ cut_row parts cut)
    → (told ≡ false → held ≡ no_row) → AreCollected held.terms
held_collected parts cut held true scenario is row none =
    subst (λ (h : AtMost). AreCollected h.terms) (sym (row refl))
    (cut_collected parts cut scenario (sym is))
held_collected parts cut held false scenario is row none =
    subst (λ (h : AtMost). AreCollected h.terms) (sym (none refl)) none_collected
