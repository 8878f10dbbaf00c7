-- What holds of each row, name by name: a new kind of rows has its clause in each of these.
use Rattle.std.proofs.Common.{◌≡◌, ◌≢◌, ℕ, ◌+◌, ◌-◌, ◌<◌, ◌≤◌, Bool, true, false, not, ◌&&◌, nat_lt, List, [], ◌∷◌, ◌++◌, length, Some, slice_get, get_or, All, pos, ◌≤ℤ◌, refl, sym, subst, arith}
use Rattle.std.proofs.lemmas.Bool.{and_parts, ltb-true}
use Rattle.std.proofs.lemmas.Int.{ints}
use Rattle.std.proofs.lemmas.List.{length-append}
use Rattle.std.proofs.lemmas.List.Elements.{All-append, All-nil}
use Rattle.std.proofs.lemmas.Option.{get_or_from_slice_get}
use Rattle.exact_sums.proofs.ShortLists.{no_pairs}
use Rattle.flow_types.specs.declared.flight.Flight.{Flight}
use Rattle.flow_types.specs.declared.parts.Parts.{Parts}
use Rattle.flow_types.specs.declared.place.CapKind.TheVariants as kind
use Rattle.flow_types.specs.declared.plan.Stop.{Stop}
use Rattle.flow_types.specs.Feasible.{IsFeasible, KeepsTurn}
use Rattle.flow_types.specs.Limits.{most_capacity}
use Rattle.flow_types.specs.Routes.{is_airport, is_sector}
use Rattle.flow_types.specs.Valid.{IsConnection, IsScenario}
use Rattle.time_windows.proofs.PlanFacts.{found_at}
use Rattle.bytime_model.specs.declared.names.RowName.{RowName}
use Rattle.bytime_model.specs.declared.names.RowName.TheVariants.{Arr, Connect, Cut, Dep, Enter, Leave, Mono, Occupy, Sector, Top}
use Rattle.bytime_model.specs.declared.variables.Var.{Var}
use Rattle.bytime_model.specs.declared.variables.Var.TheVariants.{By, Inside}
use Rattle.bytime_model.specs.Rows.{AreCollected, AreOther, AtMost, RowHolds, IsValid, back_term, back_terms, connect_terms, enter_terms, goes_on, is_node, is_row, leave_terms, minus_one, most_terms, no_row, occupy_terms, of_connection, on_terms, one, row_limit, row_of, row_terms, term_of}
use Rattle.bytime_model.specs.Values.{form_value, has_inside, is_plain, value_at}
use Rattle.bytime_model.proofs.FillFacts.{back_few, on_all_few, parts_few}
use Rattle.bytime_model.proofs.NameLists.{ascending_pairs}
use Rattle.bytime_model.proofs.OnceFacts.{IsNotZero, Once, capacity_once, connect_once, enter_once, leave_once, occupy_once, of_once, other_time, unit_not_0}
use Rattle.bytime_model.proofs.SmallFacts.{IsUnit, all_of, back_units, caps_small, capacity_few, capacity_units, connect_few, connect_units, minus, of_few, on_units, with_one}
use Rattle.bytime_model.proofs.ThereFacts.{Has, back_there, by_there, capacity_there, connect_there, inside_there, on_there}
use Rattle.bytime_model.proofs.ValidFacts.{connect_kept, enter_kept, flown, leave_kept, mono_kept, occupy_kept, of_flight_kept, top_kept, within_capacity}

-- every factor of a row is 1 or -1
pub row_units : (parts : Parts) (name : RowName) → All IsUnit (row_terms parts name)
row_units parts (Mono f n t) =
    with_one (By f n (t - 1)) (term_of minus_one (By f n t) ∷ []) (minus (By f n t))
row_units parts (Top f n) =
    with_one (By f n (parts.day.periods - 1)) [] (All-nil IsUnit)
row_units parts (Dep p t) = capacity_units parts kind.Dep p t
row_units parts (Arr p t) = capacity_units parts kind.Arr p t
row_units parts (Sector p t) = capacity_units parts kind.Sector p t
row_units parts (Occupy f n t) =
    all_of IsUnit (λ flight. occupy_terms f flight n t) (slice_get parts.flights f)
    (λ flight. with_one (By f n t)
    (on_terms f flight n t ++ term_of minus_one (Inside f n t) ∷ [])
    (All-append IsUnit (on_terms f flight n t) (term_of minus_one (Inside f n t) ∷ [])
    (on_units f flight n t) (minus (Inside f n t))))
row_units parts (Enter f n t) =
    all_of IsUnit (λ flight. enter_terms f flight n t) (slice_get parts.flights f)
    (λ flight. with_one (By f n t) (back_terms f flight n t) (back_units f flight n t))
row_units parts (Leave f n) =
    all_of IsUnit (λ flight. leave_terms f flight n (parts.day.periods - 1))
    (slice_get parts.flights f)
    (λ flight. with_one (By f n (parts.day.periods - 1))
    (on_terms f flight n (parts.day.periods - 1))
    (on_units f flight n (parts.day.periods - 1)))
row_units parts (Connect c t) = connect_units parts.flights t (slice_get parts.connections c)
row_units parts (Cut i) = All-nil IsUnit

-- no limit of a row is greater than a capacity may be
pub row_limit_small : (parts : Parts) (name : RowName) → IsScenario parts
    → row_limit parts name ≤ most_capacity
row_limit_small parts (Mono f n t) valid = omega arith
row_limit_small parts (Top f n) valid = omega arith
row_limit_small parts (Dep p t) valid =
    caps_small kind.Dep parts p t (slice_get parts.places p) valid refl
row_limit_small parts (Arr p t) valid =
    caps_small kind.Arr parts p t (slice_get parts.places p) valid refl
row_limit_small parts (Sector p t) valid =
    caps_small kind.Sector parts p t (slice_get parts.places p) valid refl
row_limit_small parts (Occupy f n t) valid = omega arith
row_limit_small parts (Enter f n t) valid = omega arith
row_limit_small parts (Leave f n) valid = omega arith
row_limit_small parts (Connect c t) valid = omega arith
row_limit_small parts (Cut i) valid = omega arith

-- no row has more terms than there is room for
pub row_few : (parts : Parts) (name : RowName) → IsScenario parts
    → length (row_terms parts name) ≤ most_terms
row_few parts (Mono f n t) valid = omega arith
row_few parts (Top f n) valid = omega arith
row_few parts (Dep p t) valid = capacity_few parts kind.Dep p t valid
row_few parts (Arr p t) valid = capacity_few parts kind.Arr p t valid
row_few parts (Sector p t) valid = capacity_few parts kind.Sector p t valid
row_few parts (Occupy f n t) valid =
    of_few parts f (λ flight. occupy_terms f flight n t) (slice_get parts.flights f) valid refl
    (λ flight. omega (
      arith,
      length-append (on_terms f flight n t) (term_of minus_one (Inside f n t) ∷ []),
      on_all_few f n t flight.legs,
    ))
row_few parts (Enter f n t) valid =
    of_few parts f (λ flight. enter_terms f flight n t) (slice_get parts.flights f) valid refl
    (λ flight. omega (arith, parts_few (back_term f n t) flight.legs (back_few f n t)))
row_few parts (Leave f n) valid =
    of_few parts f (λ flight. leave_terms f flight n (parts.day.periods - 1))
    (slice_get parts.flights f) valid refl
    (λ flight. omega (arith, on_all_few f n (parts.day.periods - 1) flight.legs))
row_few parts (Connect c t) valid = connect_few parts.flights t (slice_get parts.connections c)
row_few parts (Cut i) valid = omega arith

-- like terms are collected
module _ (parts : Parts) (scenario : IsScenario parts) where
  named_once : (name : RowName) → is_row parts name ≡ true → Once (row_terms parts name)
  named_once (Mono f n t) is =
      let ends = and_parts (nat_lt 0 t) (nat_lt t parts.day.periods)
      (and_parts (is_node (slice_get parts.flights f) n)
      (nat_lt 0 t && nat_lt t parts.day.periods) is).1 in
      let from : 0 < t = ltb-true 0 t ends.0 in (
        (
          other_time (t - 1) t (term_of one (By f n (t - 1))) (term_of minus_one (By f n t))
              (λ same. omega (arith, from, same)) refl refl,
          tt,
        ),
        (tt, tt),
      )
  named_once (Top f n) is = (tt, tt)
  named_once (Dep p t) is = capacity_once parts scenario kind.Dep p t
  named_once (Arr p t) is = capacity_once parts scenario kind.Arr p t
  named_once (Sector p t) is = capacity_once parts scenario kind.Sector p t
  named_once (Occupy f n t) is =
      of_once parts scenario f (λ flight. occupy_terms f flight n t) (slice_get parts.flights f)
      refl
      (λ flight proper. occupy_once f (length flight.nodes) flight proper.route.each_leg
      proper.route.once n t)
  named_once (Enter f n t) is =
      of_once parts scenario f (λ flight. enter_terms f flight n t) (slice_get parts.flights f) refl
      (λ flight proper. enter_once f (length flight.nodes) flight proper.route.each_leg
      proper.route.once n t)
  named_once (Leave f n) is =
      of_once parts scenario f (λ flight. leave_terms f flight n (parts.day.periods - 1))
      (slice_get parts.flights f) refl
      (λ flight proper. leave_once f (length flight.nodes) flight proper.route.each_leg
      proper.route.once n (parts.day.periods - 1))
  named_once (Connect c t) is = connect_once parts scenario c t (slice_get parts.connections c) refl
  named_once (Cut i) is = tt

  pub row_collected : (name : RowName) → is_row parts name ≡ true
      → AreCollected (row_terms parts name)
  row_collected name is = record {
    once = ascending_pairs AreOther (row_terms parts name) (named_once name is);
    no_zero = λ k d within. unit_not_0 (get_or (row_terms parts name) k d).factor
        (row_units parts name k d within);
  }

  -- of what a buffer holds
  pub held_collected : (name : RowName) (held : AtMost) (told : Bool)
      → told ≡ is_row parts name → (told ≡ true → held ≡ row_of parts name)
      → (told ≡ false → held ≡ no_row) → AreCollected held.terms
  held_collected name held true told row none =
      subst (λ h. AreCollected h.terms) (sym (row refl)) (row_collected name (sym told))
  held_collected name held false told row none =
      subst (λ h. AreCollected h.terms) (sym (none refl)) (record {
        once = no_pairs AreOther;
        no_zero = All-nil IsNotZero;
      })

-- it names variables of the program alone
module _ (parts : Parts) (scenario : IsScenario parts) where
  pub row_there : (name : RowName) → is_row parts name ≡ true
      → All (Has parts.flights) (row_terms parts name)
  row_there (Mono f n t) is =
      by_there parts.flights one f n (t - 1) (term_of minus_one (By f n t) ∷ [])
      (by_there parts.flights minus_one f n t [] (All-nil (Has parts.flights)))
  row_there (Top f n) is =
      by_there parts.flights one f n (parts.day.periods - 1) [] (All-nil (Has parts.flights))
  row_there (Dep p t) is =
      capacity_there parts scenario kind.Dep p t (λ other. absurd (let e : ⊥ = cc in e))
  row_there (Arr p t) is =
      capacity_there parts scenario kind.Arr p t (λ other. absurd (let e : ⊥ = cc in e))
  row_there (Sector p t) is =
      capacity_there parts scenario kind.Sector p t (λ same.
      (and_parts (is_sector (slice_get parts.places p)) (nat_lt t parts.day.periods) is).0)
  row_there (Occupy f n t) is =
      let has = (and_parts (has_inside (slice_get parts.flights f) n) (nat_lt t parts.day.periods)
      is).0 in
      all_of (Has parts.flights) (λ flight. occupy_terms f flight n t) (slice_get parts.flights f)
      (λ flight. by_there parts.flights one f n t
      (on_terms f flight n t ++ term_of minus_one (Inside f n t) ∷ [])
      (All-append (Has parts.flights) (on_terms f flight n t)
      (term_of minus_one (Inside f n t) ∷ []) (on_there parts.flights f flight n t)
      (inside_there parts.flights minus_one f n t has)))
  row_there (Enter f n t) is =
      all_of (Has parts.flights) (λ flight. enter_terms f flight n t) (slice_get parts.flights f)
      (λ flight. by_there parts.flights one f n t (back_terms f flight n t)
      (back_there parts.flights f flight n t))
  row_there (Leave f n) is =
      all_of (Has parts.flights) (λ flight. leave_terms f flight n (parts.day.periods - 1))
      (slice_get parts.flights f)
      (λ flight. by_there parts.flights one f n (parts.day.periods - 1)
      (on_terms f flight n (parts.day.periods - 1))
      (on_there parts.flights f flight n (parts.day.periods - 1)))
  row_there (Connect c t) is = connect_there parts.flights t (slice_get parts.connections c)
  row_there (Cut i) is = All-nil (Has parts.flights)

-- and no plan that keeps every rule breaks it
module _ (parts : Parts) (plan : List (List Stop)) (scenario : IsScenario parts)
    (feasible : IsFeasible parts plan) where
  abbrev at_plan : Var → ℕ
  at_plan = value_at parts.flights plan

  pub row_kept : (name : RowName) → is_row parts name ≡ true → RowHolds at_plan (row_of parts name)
  row_kept (Mono f n t) is = mono_kept parts plan scenario feasible.trips f n t
  row_kept (Top f n) is = top_kept parts plan scenario feasible.trips f n (parts.day.periods - 1)
  row_kept (Dep p t) is =
      let both = and_parts (is_airport (slice_get parts.places p)) (nat_lt t parts.day.periods) is
      in
      within_capacity parts plan scenario feasible kind.Dep p t _ (feasible.departures p t both.0
      (ltb-true t parts.day.periods both.1))
  row_kept (Arr p t) is =
      let both = and_parts (is_airport (slice_get parts.places p)) (nat_lt t parts.day.periods) is
      in
      within_capacity parts plan scenario feasible kind.Arr p t _ (feasible.arrivals p t both.0
      (ltb-true t parts.day.periods both.1))
  row_kept (Sector p t) is =
      let both = and_parts (is_sector (slice_get parts.places p)) (nat_lt t parts.day.periods) is in
      within_capacity parts plan scenario feasible kind.Sector p t _ (feasible.sectors p t both.0
      (ltb-true t parts.day.periods both.1))
  row_kept (Occupy f n t) is =
      of_flight_kept parts plan scenario feasible (λ flight. occupy_terms f flight n t) f
      (slice_get parts.flights f) refl
      (λ flight found. let own = flown parts plan scenario feasible.trips f flight found in
      occupy_kept parts plan scenario feasible.trips f flight own.0 own.1 n t
      (inside f n t flight found is)
      (occupied_inside flight n (inside f n t flight found is)))
    where
      inside : (f n t : ℕ) (flight : Flight) → slice_get parts.flights f ≡ Some flight
          → is_row parts (Occupy f n t) ≡ true → has_inside (Some flight) n ≡ true
      inside f n t flight found is = subst (λ o. has_inside o n ≡ true) found
          (and_parts (has_inside (slice_get parts.flights f) n) (nat_lt t parts.day.periods) is).0

      occupied_inside : (flight : Flight) (n : ℕ) → has_inside (Some flight) n ≡ true
          → n + 1 ≢ length flight.nodes
      occupied_inside flight n inside =
          let within = ltb-true (n + 1) (length flight.nodes)
          (and_parts (nat_lt (n + 1) (length flight.nodes)) (not (is_plain flight n))
          (and_parts (nat_lt 0 n) (nat_lt (n + 1) (length flight.nodes)
          && not (is_plain flight n)) inside).1).0 in
          λ end. omega (arith, within, end)
  row_kept (Enter f n t) is =
      let both = and_parts (is_node (slice_get parts.flights f) n) (nat_lt 0 n
      && nat_lt t parts.day.periods) is in
      let from = ltb-true 0 n (and_parts (nat_lt 0 n) (nat_lt t parts.day.periods) both.1).0 in
      of_flight_kept parts plan scenario feasible (λ flight. enter_terms f flight n t) f
      (slice_get parts.flights f) refl
      (λ flight found. let own = flown parts plan scenario feasible.trips f flight found in
      enter_kept parts plan scenario feasible.trips f flight own.0 own.1 n t from)
  row_kept (Leave f n) is =
      of_flight_kept parts plan scenario feasible
      (λ flight. leave_terms f flight n (parts.day.periods - 1)) f
      (slice_get parts.flights f) refl
      (λ flight found. let own = flown parts plan scenario feasible.trips f flight found in
      let within = ltb-true (n + 1) (length flight.nodes)
      (subst (λ o. goes_on o n ≡ true) found is) in
      leave_kept parts plan scenario feasible.trips f flight own.0 own.1 n
      (λ end. omega (arith, within, end)))
  row_kept (Connect c t) is =
      let within = ltb-true c (length parts.connections) (and_parts
      (nat_lt c (length parts.connections)) (nat_lt t parts.day.periods) is).0 in
      let found = found_at parts.connections c within in
      let same = get_or_from_slice_get parts.connections c found.0 found.0 found.1 in
      subst (λ o. form_value at_plan (of_connection (λ connection.
      connect_terms parts.flights connection t) o) ≤ℤ pos 0) (sym found.1)
      (connect_kept parts plan scenario feasible.trips found.0 t
      (subst (IsConnection parts.flights) same (scenario.connections.each c found.0 within))
      (subst (KeepsTurn plan) same (feasible.turns c found.0 within)))
  row_kept (Cut i) is = absurd cc

-- what is held is kept by every plan: the row of a name, or none
pub row_valid : (parts : Parts) (name : RowName) (held : AtMost) (told : Bool) → IsScenario parts
    → told ≡ is_row parts name → (told ≡ true → held ≡ row_of parts name)
    → (told ≡ false → held ≡ no_row) → IsValid parts held
row_valid parts name held true scenario is row none plan feasible =
    subst (RowHolds (value_at parts.flights plan)) (sym (row refl))
    (row_kept parts plan scenario feasible name (sym is))
row_valid parts name held false scenario is row none plan feasible =
    subst (RowHolds (value_at parts.flights plan)) (sym (none refl)) (omega (arith, ints))
