-- What a flight takes of a capacity, as a sum of terms, is no more than what its trip is counted
-- for.
use Rattle.std.proofs.Common.{◌≡◌, ◌≢◌, ℕ, ◌+◌, ◌-◌, ◌<◌, ◌≤◌, ◌==◌, Bool, true, false, ◌&&◌, nat_lt, List, [], ◌∷◌, length, Option, None, Some, slice_get, count_by, All, suc, if◌then◌else◌, pos, ◌≤ℤ◌, refl, sym, ◌∙◌, ap, subst, arith}
use Rattle.std.proofs.lemmas.Bool.{and_parts, eq-eqb, eqb-true, ltb-true}
use Rattle.std.proofs.lemmas.Int.{ints}
use Rattle.flow_types.specs.declared.flight.Flight.{Flight}
use Rattle.flow_types.specs.declared.place.CapKind.{CapKind}
use Rattle.flow_types.specs.declared.place.CapKind.TheVariants as kind
use Rattle.flow_types.specs.declared.plan.Stop.{Stop}
use Rattle.flow_types.specs.Counts.{arrives_at, counted, departs_at, one_if, stays_at}
use Rattle.flow_types.specs.Feasible.{AreTrips}
use Rattle.flow_types.specs.Routes.{IsLeg, next_of}
use Rattle.flow_types.specs.Trips.{IsTrip, arrival_from, place_at}
use Rattle.bytime_model.specs.declared.variables.Term.{Term}
use Rattle.bytime_model.specs.declared.variables.Var.{Var}
use Rattle.bytime_model.specs.declared.variables.Var.TheVariants.{By, Inside}
use Rattle.bytime_model.specs.Rows.{by_before, enters_in, minus_one, node_from, on_terms, one, stay_terms_at, term_of, use_terms}
use Rattle.bytime_model.specs.Values.{by_at, by_of, form_value, has_inside, inside_at, is_plain, value_at}
use Rattle.bytime_model.proofs.FormFacts.{form-append, form-before, form-on, form-one}
use Rattle.bytime_model.proofs.EntryFacts.{by_here, by_skip}
use Rattle.bytime_model.proofs.NodeFacts.{node_found}
use Rattle.bytime_model.proofs.TripFacts.{arrived, arrives, before, before_le, departs, is_by_at, no_origin, not_arrived, not_by, occupied, on_le, on_sum}
use Rattle.exact_sums.specs.Lists.{flat_map_from}

-- a flight with its trip in a plan, and what is known of its network
pub record IsFlown (flights : List Flight) (plan : List (List Stop)) (periods f : ℕ)
    (flight : Flight) (trip : List Stop) : Type 0 where
  pub found : slice_get flights f ≡ Some flight
  pub flown : slice_get plan f ≡ Some trip
  pub valid : IsTrip periods flight trip
  pub legs : All (IsLeg (length flight.nodes)) flight.legs
  pub some : 2 ≤ length flight.nodes
  pub first : place_at flight 0 ≡ flight.from
  pub last : place_at flight (length flight.nodes - 1) ≡ flight.to

-- what each kind counts
abbrev pub count_of : CapKind → ℕ → ℕ → Flight → List Stop → ℕ
count_of kind.Dep place time flight trip = departs_at place time flight trip
count_of kind.Arr place time flight trip = arrives_at place time flight trip
count_of kind.Sector place time flight trip = stays_at place time flight trip

module _ (flights : List Flight) (plan : List (List Stop)) (periods f : ℕ) (flight : Flight)
    (trip : List Stop) (is : IsFlown flights plan periods f flight trip) where
  abbrev value : Var → ℕ
  value = value_at flights plan

  pub by_value : (node time : ℕ) → value (By f node time) ≡ by_of node time trip
  by_value node time = ap (by_at node time) is.flown

  pub inside_read : (node time : ℕ) → value (Inside f node time)
      ≡ (if has_inside (Some flight) node
      then stays_at (place_at flight node) time flight trip else 0)
  inside_read node time =
      ap (λ o. inside_at node time o (slice_get plan f)) is.found
      ∙ ap (inside_at node time (Some flight)) is.flown

  pub inside_value : (node time : ℕ) → has_inside (Some flight) node ≡ true
      → value (Inside f node time) ≡ stays_at (place_at flight node) time flight trip
  inside_value node time has = inside_read node time ∙ rw has refl

  inside_le : (node time : ℕ)
      → value (Inside f node time) ≤ stays_at (place_at flight node) time flight trip
  inside_le node time = omega (arith, inside_read node time, by (has_inside (Some flight) node))
    where
      by : (b : Bool) → (if b then stays_at (place_at flight node) time flight trip else 0)
          ≤ stays_at (place_at flight node) time flight trip
      by true = omega arith
      by false = omega arith

  -- entered in this very period
  entry_le : (node time count : ℕ)
      → by_of node time trip ≤ before (λ t. by_of node t trip) time 1 + count
      → form_value value (enters_in f node time) ≤ℤ pos count
  entry_le node time count le =
      omega (
        arith,
        ints,
        form-one value (By f node time) (by_before minus_one f node time 1),
        form-before value f node time 1,
        by_value node time,
        le,
        before_le (λ t. by_of node t trip) (λ t. value (By f node t)) time 1
            (λ t. omega (arith, by_value node t)),
      )

  none_le : (count : ℕ) → form_value value [] ≤ℤ pos count
  none_le count = omega (arith, ints)

  dep_le : (place time : ℕ) (stops : List Stop) → stops ≡ trip
      → form_value value (use_terms kind.Dep place time f flight)
      ≤ℤ pos (departs_at place time flight stops)
  dep_le place time [] same = absurd (subst (IsTrip periods flight) (sym same) is.valid)
  dep_le place time (stop ∷ rest) same =
      by (flight.from == place) refl (subst (IsTrip periods flight) (sym same) is.valid)
    where
      by : (b : Bool) → (flight.from == place) ≡ b → IsTrip periods flight (stop ∷ rest)
          → form_value value (if b then enters_in f 0 time else [])
          ≤ℤ pos (one_if ((place_at flight stop.node == place) && (stop.time == time)))
      by true from valid =
          let here : (place_at flight stop.node == place) ≡ true =
          eq-eqb (place_at flight stop.node) place (ap (place_at flight) valid.0 ∙ is.first
          ∙ eqb-true flight.from place from) in
          entry_le 0 time (one_if ((place_at flight stop.node == place) && (stop.time == time)))
          (rw here (subst (λ s. by_of 0 time s ≤ before (λ t. by_of 0 t s) time 1
          + one_if (stop.time == time)) same
          (departs periods flight time stop rest is.legs valid.0 valid.2)))
      by false from valid =
          none_le (one_if ((place_at flight stop.node == place) && (stop.time == time)))

  arr_le : (place time : ℕ) (stops : List Stop) → stops ≡ trip
      → form_value value (use_terms kind.Arr place time f flight)
      ≤ℤ pos (arrives_at place time flight stops)
  arr_le place time [] same = absurd (subst (IsTrip periods flight) (sym same) is.valid)
  arr_le place time (stop ∷ rest) same =
      by (flight.to == place) refl (subst (IsTrip periods flight) (sym same) is.valid)
    where
      by : (b : Bool) → (flight.to == place) ≡ b → IsTrip periods flight (stop ∷ rest)
          → form_value value (if b then enters_in f (length flight.nodes - 1) time else [])
          ≤ℤ pos (arrives_at place time flight (stop ∷ rest))
      by true to valid =
          entry_le (length flight.nodes - 1) time (arrives_at place time flight (stop ∷ rest))
          (subst (λ s. by_of (length flight.nodes - 1) time s
          ≤ before (λ t. by_of (length flight.nodes - 1) t s) time 1
          + arrives_at place time flight (stop ∷ rest)) same
          (arrives periods flight place time (length flight.nodes - 1) stop rest is.legs
          (omega (arith, is.some)) (is.last ∙ eqb-true flight.to place to) valid.2))
      by false to valid = none_le (arrives_at place time flight (stop ∷ rest))

  -- entered, and neither further on nor inside
  pub stay_le : (node time : ℕ) (stops : List Stop) → stops ≡ trip
      → node + 1 ≢ length flight.nodes
      → by_of node time trip ≤ on_sum (λ m. value (By f m time)) node flight.legs
      + stays_at (place_at flight node) time flight trip
  stay_le node time [] same last =
      absurd (subst (IsTrip periods flight) (sym same) is.valid)
  stay_le node time (stop ∷ rest) same last =
      let valid : IsTrip periods flight (stop ∷ rest) =
      subst (IsTrip periods flight) (sym same) is.valid in
      let inside = subst (λ s. by_of node time s ≤ on_sum (λ m. by_of m time s) node flight.legs
      + stays_at (place_at flight node) time flight s) same
      (occupied periods flight node time stop rest last valid.2) in
      omega (
        arith,
        inside,
        on_le (λ m. by_of m time trip) (λ m. value (By f m time)) node
            flight.legs (λ m. omega (arith, by_value m time)),
      )

  sector_le : (place time : ℕ) (at : Option ℕ)
      → ((node : ℕ) → at ≡ Some node → place_at flight node ≡ place)
      → form_value value (stay_terms_at f flight time at) ≤ℤ pos (stays_at place time flight trip)
  sector_le place time None there = none_le (stays_at place time flight trip)
  sector_le place time (Some node) there = by (is_plain flight node) refl
    where
      at : place_at flight node ≡ place
      at = there node refl

      by : (b : Bool) → is_plain flight node ≡ b
          → form_value value (if b then term_of one (By f node time) ∷ on_terms f flight node time
          else term_of one (Inside f node time) ∷ [])
          ≤ℤ pos (stays_at place time flight trip)
      by true plain =
          let within : node + 1 < length flight.nodes = ltb-true (node + 1) (length flight.nodes)
          (and_parts (nat_lt (node + 1) (length flight.nodes))
          ((count_by (λ leg. leg.from == node) flight.legs == 1)
          && (count_by (λ leg. leg.to == next_of flight.legs node) flight.legs == 1))
          (and_parts (nat_lt 0 node) (nat_lt (node + 1) (length flight.nodes)
          && ((count_by (λ leg. leg.from == node) flight.legs == 1)
          && (count_by (λ leg. leg.to == next_of flight.legs node) flight.legs == 1))) plain).1).0
          in
          omega (
            arith,
            ints,
            form-one value (By f node time) (on_terms f flight node time),
            form-on value f node time flight.legs,
            by_value node time,
            stay_le node time trip refl (λ end. omega (arith, within, end)),
            ap (λ p. stays_at p time flight trip) at,
          )
      by false plain =
          omega (
            arith,
            ints,
            form-one value (Inside f node time) [],
            inside_le node time,
            ap (λ p. stays_at p time flight trip) at,
          )

  pub use_le : (kind : CapKind) (place time : ℕ)
      → form_value value (use_terms kind place time f flight)
      ≤ℤ pos (count_of kind place time flight trip)
  use_le kind.Dep place time = dep_le place time trip refl
  use_le kind.Arr place time = arr_le place time trip refl
  use_le kind.Sector place time =
      sector_le place time (node_from place 0 flight.nodes)
      (λ node found. let at = node_found place 0 node flight.nodes found in
      ap (place_at flight) (omega (arith, at.1)) ∙ at.2)

  -- it hasn't departed before its departure, and has by then
  pub departed : (t : ℕ) (stop : Stop) (rest : List Stop) → stop ∷ rest ≡ trip → t < stop.time
      → by_of 0 t trip ≡ 0
  departed t stop rest same early =
      let valid : IsTrip periods flight (stop ∷ rest) =
      subst (IsTrip periods flight) (sym same) is.valid in
      ap (by_of 0 t) (sym same)
      ∙ by_skip 0 t stop rest (not_by 0 t stop (λ _ at. omega (arith, at, early)))
      ∙ no_origin periods flight t stop rest is.legs valid.2

  pub departed_by : (t : ℕ) (stop : Stop) (rest : List Stop) → stop ∷ rest ≡ trip → stop.time ≤ t
      → by_of 0 t trip ≡ 1
  departed_by t stop rest same late =
      let valid : IsTrip periods flight (stop ∷ rest) =
      subst (IsTrip periods flight) (sym same) is.valid in
      ap (by_of 0 t) (sym same) ∙ by_here 0 t stop rest (is_by_at stop 0 t valid.0 late)

  -- nor arrived before its arrival, and has by then
  pub not_arrived_by : (t : ℕ) (stop : Stop) (rest : List Stop) → stop ∷ rest ≡ trip
      → t < arrival_from stop rest → by_of (length flight.nodes - 1) t trip ≡ 0
  not_arrived_by t stop rest same early =
      let valid : IsTrip periods flight (stop ∷ rest) =
      subst (IsTrip periods flight) (sym same) is.valid in
      ap (by_of (length flight.nodes - 1) t) (sym same)
      ∙ not_arrived periods flight t (length flight.nodes - 1) stop rest is.legs
      (omega (arith, is.some)) valid.2 early

  pub arrived_by : (t : ℕ) (stop : Stop) (rest : List Stop) → stop ∷ rest ≡ trip
      → arrival_from stop rest ≤ t → 1 ≤ by_of (length flight.nodes - 1) t trip
  arrived_by t stop rest same late =
      let valid : IsTrip periods flight (stop ∷ rest) =
      subst (IsTrip periods flight) (sym same) is.valid in
      subst (λ s. 1 ≤ by_of (length flight.nodes - 1) t s) same
      (arrived periods flight t (length flight.nodes - 1) stop rest
      (omega (arith, is.some)) valid.2 late)

-- and so for all flights
pub over_le : (value : Var → ℕ) (part : ℕ → Flight → List Term) (count : Flight → List Stop → ℕ)
    (periods k : ℕ) (flights : List Flight) (plan : List (List Stop))
    → AreTrips periods flights plan
    → ((i : ℕ) (flight : Flight) (trip : List Stop) → slice_get flights i ≡ Some flight
    → slice_get plan i ≡ Some trip
    → form_value value (part (k + i) flight) ≤ℤ pos (count flight trip))
    → form_value value (flat_map_from part k flights) ≤ℤ pos (counted count flights plan)
over_le value part count periods k [] plan trips each = omega (arith, ints)
over_le value part count periods k (flight ∷ flights) [] trips each = absurd trips
over_le value part count periods k (flight ∷ flights) (trip ∷ plan) trips each =
    let here = each 0 flight trip refl refl in
    let same : part (k + 0) flight ≡ part k flight = ap (λ n. part n flight) (omega arith) in
    let rest = over_le value part count periods (k + 1) flights plan trips.1
    (λ i fl tr is too. subst (λ n. form_value value (part n fl) ≤ℤ pos (count fl tr))
    (omega arith) (each (suc i) fl tr is too)) in
    omega (
      arith,
      ints,
      form-append value (part k flight) (flat_map_from part (k + 1) flights),
      subst (λ terms. form_value value terms ≤ℤ pos (count flight trip)) same here,
      rest,
    )
