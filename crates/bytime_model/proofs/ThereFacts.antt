-- Rows name variables of the program alone.
use Rattle.std.proofs.Common.{◌≡◌, ◌⊎◌, ℕ, suc, ◌+◌, ◌-◌, ◌<◌, ◌≤◌, ◌==◌, Bool, true, false, not, nat_le, List, [], ◌∷◌, All, IsTrue, length, Option, None, Some, slice_get, slice_index, if◌then◌else◌, inl, inr, refl, sym, ap, ◌∙◌, subst, arith}
use Rattle.std.specs.Cmp.Derive.{both_true}
use Rattle.std.proofs.lemmas.Bool.{cases_lt, lt-ltb}
use Rattle.std.proofs.lemmas.List.Elements.{All-append, All-cons, All-nil}
use Rattle.flow_types.specs.declared.flight.Connection.{Connection}
use Rattle.flow_types.specs.declared.flight.Flight.{Flight}
use Rattle.flow_types.specs.declared.parts.Parts.{Parts}
use Rattle.flow_types.specs.declared.place.CapKind.{CapKind}
use Rattle.flow_types.specs.declared.place.CapKind.TheVariants as kind
use Rattle.flow_types.specs.declared.place.Place.{Place}
use Rattle.flow_types.specs.Routes.{is_airport, is_airport_kind, is_sector}
use Rattle.flow_types.specs.Valid.{IsFlight, IsScenario}
use Rattle.time_windows.proofs.RootFacts.{flight_in}
use Rattle.bytime_model.specs.declared.variables.Term.{Term}
use Rattle.bytime_model.specs.declared.variables.Var.TheVariants.{By, Inside}
use Rattle.bytime_model.specs.Rows.{back_term, back_terms, by_before, connect_terms, enters_in, last_node, minus_one, node_from, of_connection, on_term, on_terms, one, stay_terms, stay_terms_at, term_of, use_terms}
use Rattle.bytime_model.specs.Values.{has_inside, is_plain}
use Rattle.bytime_model.proofs.NodeFacts.{node_found}
use Rattle.bytime_model.proofs.SmallFacts.{all_flat, all_if}
use Rattle.bytime_model.specs.Columns.{IsThere}
use Rattle.exact_sums.specs.Lists.{flat_map_from}

-- not both
not_both : (found : Option Place) → IsTrue (is_airport found) → IsTrue (is_sector found) → ⊥
not_both None a b = absurd (let e : ⊥ = cc in e)
not_both (Some place) a b = by (is_airport_kind place.kind) a b
  where
    by : (b : Bool) → IsTrue b → IsTrue (not b) → ⊥
    by true a b = let e : ⊥ = cc in e
    by false a b = let e : ⊥ = cc in e

module _ (flights : List Flight) where
  abbrev pub Has : Term → Type 0
  Has term = IsThere flights term.variable

  pub by_there : (factor : _) (f n t : ℕ) (terms : List Term) → All Has terms
      → All Has (term_of factor (By f n t) ∷ terms)
  by_there factor f n t terms all = All-cons Has (term_of factor (By f n t)) terms tt all

  before_there : (f n t w : ℕ) → All Has (by_before minus_one f n t w)
  before_there f n t w =
      all_if Has (nat_le w t) (term_of minus_one (By f n (t - w)) ∷ [])
      (by_there minus_one f n (t - w) [] (All-nil Has))

  entry_there : (f n t : ℕ) → All Has (enters_in f n t)
  entry_there f n t = by_there one f n t (by_before minus_one f n t 1) (before_there f n t 1)

  pub on_there : (f : ℕ) (flight : Flight) (n t : ℕ) → All Has (on_terms f flight n t)
  on_there f flight n t =
      all_flat Has (on_term f n t) flight.legs
      (λ leg. all_if Has (leg.from == n) (term_of minus_one (By f leg.to t) ∷ [])
      (by_there minus_one f leg.to t [] (All-nil Has)))

  pub back_there : (f : ℕ) (flight : Flight) (n t : ℕ) → All Has (back_terms f flight n t)
  back_there f flight n t =
      all_flat Has (back_term f n t) flight.legs
      (λ leg. all_if Has (leg.to == n) (by_before minus_one f leg.from t leg.least)
      (before_there f leg.from t leg.least))

  pub inside_there : (factor : _) (f n t : ℕ) → has_inside (slice_get flights f) n ≡ true
      → All Has (term_of factor (Inside f n t) ∷ [])
  inside_there factor f n t there =
      All-cons Has (term_of factor (Inside f n t)) [] there (All-nil Has)

  pub connect_there : (t : ℕ) (connection : Option Connection)
      → All Has (of_connection (λ c. connect_terms flights c t) connection)
  connect_there t None = All-nil Has
  connect_there t (Some c) =
      by_there one c.second 0 t
      (by_before minus_one c.first (last_node (slice_get flights c.first)) t c.turnaround)
      (before_there c.first (last_node (slice_get flights c.first)) t c.turnaround)

  over_there : (part : ℕ → Flight → List Term) (k : ℕ) (some : List Flight)
      → ((i : ℕ) (flight : Flight) → slice_get some i ≡ Some flight → All Has (part (k + i) flight))
      → All Has (flat_map_from part k some)
  over_there part k [] each = All-nil Has
  over_there part k (flight ∷ some) each =
      All-append Has (part k flight) (flat_map_from part (k + 1) some)
      (subst (λ n. All Has (part n flight)) (plus_zero k) (each 0 flight refl))
      (over_there part (k + 1) some
      (λ i f is. subst (λ n. All Has (part n f)) (next k i) (each (suc i) f is)))
    where
      plus_zero : (n : ℕ) → n + 0 ≡ n
      plus_zero n = omega arith

      next : (n m : ℕ) → n + suc m ≡ n + 1 + m
      next n m = omega arith

module _ (parts : Parts) (scenario : IsScenario parts) where
  -- a node at a sector is between the ends
  between : (f node place : ℕ) (flight : Flight) → slice_get parts.flights f ≡ Some flight
      → IsTrue (is_sector (slice_get parts.places place)) → node < length flight.nodes
      → slice_index flight.nodes node ≡ place
      → (0 < node) × (node + 1 < length flight.nodes)
  between f node place flight here sector inside at =
      (from (cases_lt 0 node), to (cases_lt (node + 1) (length flight.nodes)))
    where
      is : IsFlight parts.day.periods parts.places parts.tables flight
      is = flight_in parts f flight scenario here

      from : (0 < node) ⊎ (node ≤ 0) → 0 < node
      from (inl lt) = lt
      from (inr le) =
          let first : node ≡ 0 = omega (arith, le) in
          let same : flight.from ≡ place =
          sym is.route.first ∙ ap (slice_index flight.nodes) (sym first) ∙ at in
          absurd (not_both (slice_get parts.places place)
          (subst (λ p. IsTrue (is_airport (slice_get parts.places p))) same is.origin) sector)

      to : (node + 1 < length flight.nodes) ⊎ (length flight.nodes ≤ node + 1)
          → node + 1 < length flight.nodes
      to (inl lt) = lt
      to (inr le) =
          let last : node ≡ length flight.nodes - 1 = omega (arith, le, inside) in
          let same : flight.to ≡ place =
          sym is.route.last ∙ ap (slice_index flight.nodes) (sym last) ∙ at in
          absurd (not_both (slice_get parts.places place)
          (subst (λ p. IsTrue (is_airport (slice_get parts.places p))) same is.destination) sector)

  stay_there : (f node place time : ℕ) (flight : Flight)
      → slice_get parts.flights f ≡ Some flight
      → IsTrue (is_sector (slice_get parts.places place)) → node < length flight.nodes
      → slice_index flight.nodes node ≡ place
      → All (Has parts.flights) (stay_terms f flight time node)
  stay_there f node place time flight here sector inside at = by (is_plain flight node) refl
    where
      by : (b : Bool) → is_plain flight node ≡ b → All (Has parts.flights)
          (if b then term_of one (By f node time) ∷ on_terms f flight node time
          else term_of one (Inside f node time) ∷ [])
      by true plain =
          by_there parts.flights one f node time (on_terms f flight node time)
          (on_there parts.flights f flight node time)
      by false plain =
          let ends = between f node place flight here sector inside at in
          let has : has_inside (Some flight) node ≡ true =
          both_true (lt-ltb 0 node ends.0)
          (both_true (lt-ltb (node + 1) (length flight.nodes) ends.1) (ap not plain)) in
          inside_there parts.flights one f node time
          (ap (λ o. has_inside o node) here ∙ has)

  use_there : (k : CapKind) (f place time : ℕ) (flight : Flight)
      → slice_get parts.flights f ≡ Some flight
      → (k ≡ kind.Sector → IsTrue (is_sector (slice_get parts.places place)))
      → All (Has parts.flights) (use_terms k place time f flight)
  use_there kind.Dep f place time flight here sector =
      all_if (Has parts.flights) (flight.from == place) (enters_in f 0 time)
      (entry_there parts.flights f 0 time)
  use_there kind.Arr f place time flight here sector =
      all_if (Has parts.flights) (flight.to == place) (enters_in f (length flight.nodes - 1) time)
      (entry_there parts.flights f (length flight.nodes - 1) time)
  use_there kind.Sector f place time flight here sector =
      by (node_from place 0 flight.nodes) refl
    where
      by : (found : Option ℕ) → node_from place 0 flight.nodes ≡ found
          → All (Has parts.flights) (stay_terms_at f flight time found)
      by None none = All-nil (Has parts.flights)
      by (Some node) found =
          let at = node_found place 0 node flight.nodes found in
          let same : at.0 ≡ node = omega (arith, at.1) in
          subst (λ n. All (Has parts.flights) (stay_terms f flight time n)) same
          (stay_there f at.0 place time flight here (sector refl) at.3 at.2)

  pub capacity_there : (k : CapKind) (place time : ℕ)
      → (k ≡ kind.Sector → IsTrue (is_sector (slice_get parts.places place)))
      → All (Has parts.flights) (flat_map_from (use_terms k place time) 0 parts.flights)
  capacity_there k place time sector =
      over_there parts.flights (use_terms k place time) 0 parts.flights
      (λ i flight here. subst (λ n. All (Has parts.flights) (use_terms k place time n flight))
      (zero_plus i) (use_there k i place time flight here sector))
    where
      zero_plus : (n : ℕ) → n ≡ 0 + n
      zero_plus n = omega arith
