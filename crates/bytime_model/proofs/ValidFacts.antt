-- No plan that keeps every rule breaks a row.
use Rattle.std.proofs.Common.{◌≡◌, ◌≢◌, ℕ, ◌+◌, ◌-◌, ◌<◌, ◌≤◌, true, List, [], ◌∷◌, ◌++◌, length, Option, None, Some, slice_get, pos, ◌≤ℤ◌, inl, inr, refl, sym, ap, subst, arith}
use Rattle.std.proofs.lemmas.Bool.{cases_lt}
use Rattle.std.proofs.lemmas.Int.{ints}
use Rattle.std.specs.Option.{option_and_then}
use Rattle.flow_types.specs.declared.flight.Connection.{Connection}
use Rattle.flow_types.specs.declared.flight.Flight.{Flight}
use Rattle.flow_types.specs.declared.parts.Parts.{Parts}
use Rattle.flow_types.specs.declared.place.CapKind.{CapKind}
use Rattle.flow_types.specs.declared.plan.Stop.{Stop}
use Rattle.flow_types.specs.Counts.{counted}
use Rattle.flow_types.specs.Feasible.{AreTrips, IsFeasible, KeepsTurn}
use Rattle.flow_types.specs.Trips.{IsTrip, arrival_from, arrival_of, departure_of}
use Rattle.flow_types.specs.Valid.{IsConnection, IsScenario}
use Rattle.time_windows.proofs.PlanFacts.{found_at, planned}
use Rattle.time_windows.proofs.RootFacts.{flight_in}
use Rattle.bytime_model.specs.declared.variables.Term.{Term}
use Rattle.bytime_model.specs.declared.variables.Var.{Var}
use Rattle.bytime_model.specs.declared.variables.Var.TheVariants.{By, Inside}
use Rattle.bytime_model.specs.Rows.{back_terms, by_before, connect_terms, enter_terms, last_node, leave_terms, minus_one, occupy_terms, of_flight, on_terms, one, term_of, use_terms}
use Rattle.bytime_model.specs.Values.{by_at, by_of, form_value, has_inside, value_at}
use Rattle.bytime_model.proofs.EntryFacts.{by_few, by_later, by_skip}
use Rattle.bytime_model.proofs.FormFacts.{form-append, form-back, form-before, form-minus, form-on, form-one}
use Rattle.bytime_model.proofs.TripFacts.{back_le, back_sum, before, before_in, before_le, entered, left, not_by, on_le, on_sum}
use Rattle.bytime_model.proofs.UseFacts.{IsFlown, arrived_by, by_value, departed, count_of, inside_value, over_le, stay_le, use_le}
use Rattle.exact_sums.specs.Lists.{flat_map_from}

module _ (parts : Parts) (plan : List (List Stop)) (scenario : IsScenario parts)
    (trips : AreTrips parts.day.periods parts.flights plan) where
  abbrev value : Var → ℕ
  value = value_at parts.flights plan

  -- each flight has its trip
  pub flown : (f : ℕ) (flight : Flight) → slice_get parts.flights f ≡ Some flight
      → (trip : List Stop) × IsFlown parts.flights plan parts.day.periods f flight trip
  flown f flight found =
      let own = planned parts.day.periods parts.flights plan f flight trips found in
      let route = (flight_in parts f flight scenario found).route in (
        own.trip,
        record {
          found = found;
          flown = own.is;
          valid = own.valid;
          legs = route.each_leg;
          some = route.nodes_from;
          first = route.first;
          last = route.last;
        },
      )

  -- what all flights take of a capacity is what is counted
  pub uses_le : (kind : CapKind) (place time : ℕ)
      → form_value value (flat_map_from (use_terms kind place time) 0 parts.flights)
      ≤ℤ pos (counted (count_of kind place time) parts.flights plan)
  uses_le kind place time =
      over_le value (use_terms kind place time) (count_of kind place time) parts.day.periods 0
      parts.flights plan trips
      (λ i flight trip found is.
      let own = flown i flight found in
      let same : own.0 ≡ trip = some_same (own.1.flown) is in
      let number : i ≡ 0 + i = omega arith in
      subst (λ n. form_value value (use_terms kind place time n flight)
      ≤ℤ pos (count_of kind place time flight trip)) number
      (subst (λ t. form_value value (use_terms kind place time i flight)
      ≤ℤ pos (count_of kind place time flight t)) same
      (use_le parts.flights plan parts.day.periods i flight own.0 own.1 kind place time)))
    where
      some_same : {A : Type 0} {o : Option A} {a b : A} → o ≡ Some a → o ≡ Some b → a ≡ b
      some_same p q = cc

  by_grows_at : (node time later : ℕ) (found : Option (List Stop)) → time ≤ later
      → by_at node time found ≤ by_at node later found
  by_grows_at node time later None le = omega arith
  by_grows_at node time later (Some trip) le = by_later node time later trip le

  by_few_at : (node time : ℕ) (found : Option (List Stop)) → by_at node time found ≤ 1
  by_few_at node time None = omega arith
  by_few_at node time (Some trip) = by_few node time trip

  pub mono_kept : (f n t : ℕ)
      → form_value value (term_of one (By f n (t - 1)) ∷ term_of minus_one (By f n t) ∷ [])
      ≤ℤ pos 0
  mono_kept f n t =
      omega (
        arith,
        ints,
        form-one value (By f n (t - 1)) (term_of minus_one (By f n t) ∷ []),
        form-minus value (By f n t) [],
        by_grows_at n (t - 1) t (slice_get plan f) (omega arith),
      )

  pub top_kept : (f n t : ℕ) → form_value value (term_of one (By f n t) ∷ []) ≤ℤ pos 1
  top_kept f n t =
      omega (arith, ints, form-one value (By f n t) [], by_few_at n t (slice_get plan f))

  module _ (f : ℕ) (flight : Flight) (trip : List Stop)
      (is : IsFlown parts.flights plan parts.day.periods f flight trip) where
    pub occupy_kept : (n t : ℕ) → has_inside (Some flight) n ≡ true → n + 1 ≢ length flight.nodes
        → form_value value (occupy_terms f flight n t) ≤ℤ pos 0
    occupy_kept n t has last =
        omega (
          arith,
          ints,
          form-one value (By f n t) (on_terms f flight n t ++ term_of minus_one (Inside f n t) ∷
              []),
          form-append value (on_terms f flight n t) (term_of minus_one (Inside f n t) ∷ []),
          form-on value f n t flight.legs,
          form-minus value (Inside f n t) [],
          by_value parts.flights plan parts.day.periods f flight trip is n t,
          inside_value parts.flights plan parts.day.periods f flight trip is n t has,
          stay_le parts.flights plan parts.day.periods f flight trip is n t trip refl last,
        )

    entered_by : (n t : ℕ) (stops : List Stop) → stops ≡ trip → 0 < n
        → by_of n t trip ≤ back_sum (λ m u. value (By f m u)) n t flight.legs
    entered_by n t [] same from =
        absurd (subst (IsTrip parts.day.periods flight) (sym same) is.valid)
    entered_by n t (stop ∷ rest) same from =
        let valid : IsTrip parts.day.periods flight (stop ∷ rest) =
        subst (IsTrip parts.day.periods flight) (sym same) is.valid in
        let skip = by_skip n t stop rest (not_by n t stop (λ at _. omega (
          arith,
          at,
          valid.0,
          from,
        ))) in
        let inside = entered parts.day.periods flight n t stop rest valid.2 in
        let whole : by_of n t trip ≤ back_sum (λ m u. by_of m u trip) n t flight.legs =
        subst (λ s. by_of n t s ≤ back_sum (λ m u. by_of m u s) n t flight.legs) same
        (omega (arith, skip, inside)) in
        omega (
          arith,
          whole,
          back_le (λ m u. by_of m u trip) (λ m u. value (By f m u)) n t
              flight.legs (λ m u. omega (
                arith,
                by_value parts.flights plan parts.day.periods f flight trip is m u,
              )),
        )

    pub enter_kept : (n t : ℕ) → 0 < n → form_value value (enter_terms f flight n t) ≤ℤ pos 0
    enter_kept n t from =
        omega (
          arith,
          ints,
          form-one value (By f n t) (back_terms f flight n t),
          form-back value f n t flight.legs,
          by_value parts.flights plan parts.day.periods f flight trip is n t,
          entered_by n t trip refl from,
        )

    left_by : (n : ℕ) (stops : List Stop) → stops ≡ trip → n + 1 ≢ length flight.nodes
        → by_of n (parts.day.periods - 1) trip
        ≤ on_sum (λ m. value (By f m (parts.day.periods - 1))) n flight.legs
    left_by n [] same last =
        absurd (subst (IsTrip parts.day.periods flight) (sym same) is.valid)
    left_by n (stop ∷ rest) same last =
        let valid : IsTrip parts.day.periods flight (stop ∷ rest) =
        subst (IsTrip parts.day.periods flight) (sym same) is.valid in
        let whole : by_of n (parts.day.periods - 1) trip
        ≤ on_sum (λ m. by_of m (parts.day.periods - 1) trip) n flight.legs =
        subst (λ s. by_of n (parts.day.periods - 1) s
        ≤ on_sum (λ m. by_of m (parts.day.periods - 1) s) n flight.legs) same
        (left parts.day.periods flight n stop rest last valid.2) in
        omega (
          arith,
          whole,
          on_le (λ m. by_of m (parts.day.periods - 1) trip)
              (λ m. value (By f m (parts.day.periods - 1))) n flight.legs (λ m. omega (
                arith,
                by_value parts.flights plan parts.day.periods f flight trip is m (parts.day.periods
                    - 1),
              )),
        )

    pub leave_kept : (n : ℕ) → n + 1 ≢ length flight.nodes
        → form_value value (leave_terms f flight n (parts.day.periods - 1)) ≤ℤ pos 0
    leave_kept n last =
        omega (
          arith,
          ints,
          form-one value (By f n (parts.day.periods - 1))
              (on_terms f flight n (parts.day.periods - 1)),
          form-on value f n (parts.day.periods - 1) flight.legs,
          by_value parts.flights plan parts.day.periods f flight trip is n (parts.day.periods - 1),
          left_by n trip refl last,
        )

  -- Where the second flight of a connection has departed, the first had arrived in time for it.
  connect_le : (connection : Connection) (time : ℕ) (one two : Flight) (a b : List Stop)
      → IsFlown parts.flights plan parts.day.periods connection.first one a
      → IsFlown parts.flights plan parts.day.periods connection.second two b
      → KeepsTurn plan connection
      → by_of 0 time b
      ≤ before (λ t. by_of (length one.nodes - 1) t a) time connection.turnaround
  connect_le connection time first second [] b is too keeps = absurd is.valid
  connect_le connection time first second (stop ∷ rest) [] is too keeps = absurd too.valid
  connect_le connection time first second (stop ∷ rest) (leaves ∷ more) is too keeps =
      let kept = keeps (arrival_from stop rest) leaves.time
      (ap (option_and_then arrival_of) is.flown) (ap (option_and_then departure_of) too.flown) in
      elim (cases_lt time leaves.time) as (λ _. by_of 0 time (leaves ∷ more)
      ≤ before (λ t. by_of (length first.nodes - 1) t (stop ∷ rest)) time connection.turnaround) [
        | inl yet ↦ omega (
          arith,
          departed parts.flights plan parts.day.periods connection.second
              second (leaves ∷ more) too time leaves more refl yet,
        )
        | inr gone ↦ omega (
          arith,
          by_few 0 time (leaves ∷ more),
          before_in (λ t. by_of (length first.nodes - 1) t (stop ∷ rest)) time
              connection.turnaround (omega (arith, kept, gone)),
          arrived_by parts.flights plan parts.day.periods connection.first first (stop ∷ rest) is
              (time - connection.turnaround) stop rest refl (omega (arith, kept, gone)),
        )
      ]

  pub connect_kept : (connection : Connection) (time : ℕ) → IsConnection parts.flights connection
      → KeepsTurn plan connection
      → form_value value (connect_terms parts.flights connection time) ≤ℤ pos 0
  connect_kept connection time joined keeps =
      let first = found_at parts.flights connection.first joined.first in
      let second = found_at parts.flights connection.second joined.second in
      let a = flown connection.first first.0 first.1 in
      let b = flown connection.second second.0 second.1 in
      let last = length first.0.nodes - 1 in
      let at : last_node (slice_get parts.flights connection.first) ≡ last = ap last_node first.1 in
      let le = connect_le connection time first.0 second.0 a.0 b.0 a.1 b.1 keeps in
      omega (
        arith,
        ints,
        form-one value (By connection.second 0 time)
            (by_before minus_one connection.first
            (last_node (slice_get parts.flights connection.first)) time connection.turnaround),
        form-before value connection.first (last_node (slice_get parts.flights connection.first))
            time
            connection.turnaround,
        by_value parts.flights plan parts.day.periods connection.second second.0 b.0 b.1 0 time,
        ap (λ n. before (λ t. value (By connection.first n t)) time connection.turnaround) at,
        le,
        before_le (λ t. by_of last t a.0) (λ t. value (By connection.first last t)) time
            connection.turnaround (λ t. omega (
              arith,
              by_value parts.flights plan parts.day.periods connection.first first.0 a.0 a.1 last t,
            )),
      )

-- by its name
module _ (parts : Parts) (plan : List (List Stop)) (scenario : IsScenario parts)
    (feasible : IsFeasible parts plan) where
  abbrev at_plan : Var → ℕ
  at_plan = value_at parts.flights plan

  -- a capacity is kept where its count is
  pub within_capacity : (kind : CapKind) (place time capacity : ℕ)
      → counted (count_of kind place time) parts.flights plan ≤ capacity
      → form_value at_plan (flat_map_from (use_terms kind place time) 0 parts.flights)
      ≤ℤ pos capacity
  within_capacity kind place time capacity le =
      omega (arith, ints, uses_le parts plan scenario feasible.trips kind place time, le)

  -- what holds of the flight that is there
  pub of_flight_kept : (terms : Flight → List Term) (f : ℕ) (found : Option Flight)
      → slice_get parts.flights f ≡ found
      → ((flight : Flight) → slice_get parts.flights f ≡ Some flight
      → form_value at_plan (terms flight) ≤ℤ pos 0)
      → form_value at_plan (of_flight terms found) ≤ℤ pos 0
  of_flight_kept terms f None is each = omega (arith, ints)
  of_flight_kept terms f (Some flight) is each = each flight is
