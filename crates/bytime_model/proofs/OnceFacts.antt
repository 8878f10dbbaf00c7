-- Like terms are collected in every row, and in the cost row.
use Rattle.std.proofs.Common.{◌≡◌, ◌≢◌, ℕ, zero, suc, ◌+◌, ◌-◌, ◌<◌, ◌≤◌, ◌==◌, Bool, true, false, nat_le, List, [], ◌∷◌, length, Option, None, Some, slice_get, All, AllPairs, if◌then◌else◌, ℤ, pos, inl, inr, ◌⊎◌, refl, sym, ◌∙◌, ap, subst, arith}
use Rattle.std.proofs.lemmas.Bool.{eqb-true, leb-true}
use Rattle.std.proofs.lemmas.List.Elements.{All-head, All-tail}
use Rattle.std.proofs.lemmas.Bool.Decides.{Decides-int_eq}
use Rattle.std.proofs.lemmas.Int.{ints}
use Rattle.std.specs.List.{flat_map, range_with_len}
use Rattle.std.specs.Ordering.{int_eq}
use Rattle.exact_sums.proofs.ItemFacts.{All-item}
use Rattle.flow_types.specs.declared.flight.Connection.{Connection}
use Rattle.flow_types.specs.declared.flight.Flight.{Flight}
use Rattle.flow_types.specs.declared.flight.Leg.{Leg}
use Rattle.flow_types.specs.declared.parts.Parts.{Parts}
use Rattle.flow_types.specs.declared.place.CapKind.{CapKind}
use Rattle.flow_types.specs.declared.place.CapKind.TheVariants as kind
use Rattle.flow_types.specs.Routes.{IsLeg, IsOtherLeg}
use Rattle.flow_types.specs.Valid.{IsConnection, IsFlight, IsScenario, destination_of, origin_of}
use Rattle.time_windows.proofs.PlanFacts.{found_at}
use Rattle.time_windows.proofs.RootFacts.{flight_in}
use Rattle.bytime_model.specs.declared.variables.Term.{Term}
use Rattle.bytime_model.specs.declared.variables.Var.{Var}
use Rattle.bytime_model.specs.declared.variables.Var.TheVariants.{By, Inside}
use Rattle.bytime_model.specs.CostRow.{cost_row, flight_terms, late_step, late_terms, most_late, most_wait, steps, unless_zero, wait_step, wait_terms}
use Rattle.bytime_model.specs.Rows.{AreCollected, AreOther, back_term, by_before, connect_terms, enter_terms, enters_in, last_node, leave_terms, minus_one, node_from, occupy_terms, of_connection, of_flight, on_term, on_terms, one, stay_terms, stay_terms_at, term_of, turn_terms, use_terms}
use Rattle.bytime_model.specs.Values.{is_plain}
use Rattle.bytime_model.proofs.SmallFacts.{all_over}
use Rattle.bytime_model.proofs.NameLists.{Ascending, Each, ascending_append, ascending_flat, ascending_if, ascending_pairs, each_all, each_append, each_if, each_weaker}
use Rattle.exact_sums.specs.Lists.{flat_map_from}

-- what a variable is of
abbrev flight_of : Var → ℕ
flight_of (By f n t) = f
flight_of (Inside f n t) = f

abbrev node_of : Var → ℕ
node_of (By f n t) = n
node_of (Inside f n t) = n

abbrev time_of : Var → ℕ
time_of (By f n t) = t
time_of (Inside f n t) = t

abbrev is_by : Var → Bool
is_by (By f n t) = true
is_by (Inside f n t) = false

abbrev pub Once : List Term → Type 0
Once = Ascending AreOther

abbrev HasFlight : ℕ → Term → Type 0
HasFlight f term = flight_of term.variable ≡ f

abbrev HasNode : ℕ → Term → Type 0
HasNode n term = node_of term.variable ≡ n

abbrev HasTime : ℕ → Term → Type 0
HasTime t term = time_of term.variable ≡ t

abbrev IsBy : Term → Type 0
IsBy term = is_by term.variable ≡ true

other_flight : (f g : ℕ) (a b : Term) → f ≢ g → HasFlight f a → HasFlight g b → AreOther a b
other_flight f g a b other one two same = other (sym one ∙ ap flight_of same ∙ two)

other_node : (n m : ℕ) (a b : Term) → n ≢ m → HasNode n a → HasNode m b → AreOther a b
other_node n m a b other one two same = other (sym one ∙ ap node_of same ∙ two)

pub other_time : (t u : ℕ) (a b : Term) → t ≢ u → HasTime t a → HasTime u b → AreOther a b
other_time t u a b other one two same = other (sym one ∙ ap time_of same ∙ two)

-- parts of a list, where the parts of different items have nothing in common
module _ {X Y : Type 0} (P : X → Y → Type 0) (part : X → List Y)
    (of : (x : X) → Each (P x) (part x)) where
  parts_each : (Q : X → Type 0) (R : Y → Type 0) (xs : List X) → All Q xs
      → ((x : X) (y : Y) → Q x → P x y → R y) → Each R (flat_map part xs)
  parts_each Q R [] all is = tt
  parts_each Q R (x ∷ xs) all is =
      each_append R (part x) (flat_map part xs)
      (each_weaker (P x) R (part x) (λ y p. is x y (All-head Q x xs all) p) (of x))
      (parts_each Q R xs (All-tail Q x xs all) is)

  -- of an item that the first differs from
  record IsLater (D : X → X → Type 0) (first : X) (y : Y) : Type 0 where
    item : X
    differs : D first item
    is : P item y

  parts_once : (D : X → X → Type 0) (R : Y → Y → Type 0) (xs : List X) → AllPairs D xs
      → ((a b : X) (x y : Y) → D a b → P a x → P b y → R x y)
      → ((x : X) → Ascending R (part x)) → Ascending R (flat_map part xs)
  parts_once D R [] apart is each = tt
  parts_once D R (x ∷ xs) apart is each =
      ascending_append R (P x) (IsLater D x) (part x) (flat_map part xs)
      (λ y z here later. is x later.item y z later.differs here later.is)
      (of x)
      (parts_each (D x) (IsLater D x) xs
      (λ k d within. apart 0 (suc k) d (omega arith) (omega (arith, within)))
      (λ y z differs p. record { item = y; differs = differs; is = p }))
      (each x)
      (parts_once D R xs
      (λ i j d less within. apart (suc i) (suc j) d (omega (arith, less)) (omega (arith, within)))
      is each)

-- where a leg leads, and where it comes from
record IsOn (node : ℕ) (leg : Leg) (term : Term) : Type 0 where
  from : leg.from ≡ node
  to : HasNode leg.to term
  by : IsBy term

record IsBack (node : ℕ) (leg : Leg) (term : Term) : Type 0 where
  to : leg.to ≡ node
  from : HasNode leg.from term

module _ (f : ℕ) where
  before_of : (P : Term → Type 0) (n t wait : ℕ)
      → (wait ≤ t → P (term_of minus_one (By f n (t - wait))))
      → Each P (by_before minus_one f n t wait)
  before_of P n t wait is =
      each_if P (nat_le wait t) (term_of minus_one (By f n (t - wait)) ∷ [])
      (λ some. (is (leb-true wait t some), tt))

  before_once : (n t wait : ℕ) → Once (by_before minus_one f n t wait)
  before_once n t wait =
      ascending_if AreOther (nat_le wait t) (term_of minus_one (By f n (t - wait)) ∷ []) (tt, tt)

  entry_once : (n t : ℕ) → Once (enters_in f n t)
  entry_once n t = (
    before_of (AreOther (term_of one (By f n t))) n t 1
        (λ from. other_time t (t - 1) (term_of one (By f n t)) (term_of minus_one (By f n (t - 1)))
        (λ same. omega (arith, from, same)) refl refl),
    before_once n t 1,
  )

  entry_flight : (n t : ℕ) → Each (HasFlight f) (enters_in f n t)
  entry_flight n t = (refl, before_of (HasFlight f) n t 1 (λ from. refl))

  on_is : (n t : ℕ) (leg : Leg) → Each (IsOn n leg) (on_term f n t leg)
  on_is n t leg =
      each_if (IsOn n leg) (leg.from == n) (term_of minus_one (By f leg.to t) ∷ [])
      (λ is. (record { from = eqb-true leg.from n is; to = refl; by = refl }, tt))

  back_is : (n t : ℕ) (leg : Leg) → Each (IsBack n leg) (back_term f n t leg)
  back_is n t leg =
      each_if (IsBack n leg) (leg.to == n) (by_before minus_one f leg.from t leg.least)
      (λ is. before_of (IsBack n leg) leg.from t leg.least
      (λ from. record { to = eqb-true leg.to n is; from = refl }))

  on_flight : (n t : ℕ) (legs : List Leg) → Each (HasFlight f) (flat_map (on_term f n t) legs)
  on_flight n t [] = tt
  on_flight n t (leg ∷ legs) =
      each_append (HasFlight f) (on_term f n t leg) (flat_map (on_term f n t) legs)
      (each_if (HasFlight f) (leg.from == n) (term_of minus_one (By f leg.to t) ∷ [])
      (λ is. (refl, tt)))
      (on_flight n t legs)

  -- no variable of a node comes after those of the legs from it, or to it
  on_once : (n t : ℕ) (legs : List Leg) → AllPairs IsOtherLeg legs
      → Once (flat_map (on_term f n t) legs)
  on_once n t legs apart =
      parts_once (IsOn n) (on_term f n t) (on_is n t) IsOtherLeg AreOther legs apart
      (λ a b x y differs one two.
      other_node a.to b.to x y (differs (one.from ∙ sym two.from)) one.to two.to)
      (λ leg. ascending_if AreOther (leg.from == n) (term_of minus_one (By f leg.to t) ∷ [])
      (tt, tt))

  back_once : (n t : ℕ) (legs : List Leg) → AllPairs IsOtherLeg legs
      → Once (flat_map (back_term f n t) legs)
  back_once n t legs apart =
      parts_once (IsBack n) (back_term f n t) (back_is n t) IsOtherLeg AreOther legs apart
      (λ a b x y differs one two.
      other_node a.from b.from x y (λ same. differs same (one.to ∙ sym two.to)) one.from two.from)
      (λ leg. ascending_if AreOther (leg.to == n) (by_before minus_one f leg.from t leg.least)
      (before_once leg.from t leg.least))

  module _ (nodes : ℕ) (flight : Flight) (each : All (IsLeg nodes) flight.legs)
      (apart : AllPairs IsOtherLeg flight.legs) where
    pub leave_once : (n t : ℕ) → Once (leave_terms f flight n t)
    leave_once n t = (
      parts_each (IsOn n) (on_term f n t) (on_is n t) (IsLeg nodes)
          (AreOther (term_of one (By f n t))) flight.legs each
          (λ leg y proper on.
          let up = proper.upward in
          let from = on.from in
          other_node n leg.to (term_of one (By f n t)) y (λ same. omega (arith, up, from, same))
          refl on.to),
      on_once n t flight.legs apart,
    )

    pub enter_once : (n t : ℕ) → Once (enter_terms f flight n t)
    enter_once n t = (
      parts_each (IsBack n) (back_term f n t) (back_is n t) (IsLeg nodes)
          (AreOther (term_of one (By f n t))) flight.legs each
          (λ leg y proper back.
          let up = proper.upward in
          let to = back.to in
          other_node n leg.from (term_of one (By f n t)) y (λ same. omega (arith, up, to, same))
          refl back.from),
      back_once n t flight.legs apart,
    )

    inside_other : (n t : ℕ) (a : Term) → IsBy a
        → AreOther a (term_of minus_one (Inside f n t))
    inside_other n t a by same = absurd (let e : true ≡ false = sym by ∙ ap is_by same in cc)

    pub occupy_once : (n t : ℕ) → Once (occupy_terms f flight n t)
    occupy_once n t =
        let leave = leave_once n t in
        let last = term_of minus_one (Inside f n t) in
        let first = term_of one (By f n t) in (
          each_append (AreOther first) (on_terms f flight n t) (last ∷ []) leave.0
              (inside_other n t first refl, tt),
          ascending_append AreOther IsBy (λ y. y ≡ last) (on_terms f flight n t) (last ∷ [])
              (λ x y by is. subst (AreOther x) (sym is) (inside_other n t x by))
              (parts_each (IsOn n) (on_term f n t) (on_is n t) (IsLeg nodes) IsBy flight.legs each
              (λ leg y proper on. on.by))
              (refl, tt) leave.1 (tt, tt),
        )

    stay_once : (t n : ℕ) → Once (stay_terms f flight t n)
    stay_once t n = by (is_plain flight n)
      where
        by : (b : Bool) → Once (if b then leave_terms f flight n t
            else term_of one (Inside f n t) ∷ [])
        by true = leave_once n t
        by false = (tt, tt)

  stay_flight : (flight : Flight) (t n : ℕ) → Each (HasFlight f) (stay_terms f flight t n)
  stay_flight flight t n = by (is_plain flight n)
    where
      by : (b : Bool) → Each (HasFlight f) (if b then leave_terms f flight n t
          else term_of one (Inside f n t) ∷ [])
      by true = (refl, on_flight n t flight.legs)
      by false = (refl, tt)

  stay_at_flight : (flight : Flight) (t : ℕ) (node : Option ℕ)
      → Each (HasFlight f) (stay_terms_at f flight t node)
  stay_at_flight flight t None = tt
  stay_at_flight flight t (Some n) = stay_flight flight t n

  use_flight : (k : CapKind) (place t : ℕ) (flight : Flight)
      → Each (HasFlight f) (use_terms k place t f flight)
  use_flight kind.Dep place t flight =
      each_if (HasFlight f) (flight.from == place) (enters_in f 0 t) (λ _. entry_flight 0 t)
  use_flight kind.Arr place t flight =
      each_if (HasFlight f) (flight.to == place) (enters_in f (length flight.nodes - 1) t)
      (λ _. entry_flight (length flight.nodes - 1) t)
  use_flight kind.Sector place t flight =
      stay_at_flight flight t (node_from place 0 flight.nodes)

  module _ (periods : ℕ) (parts : Parts) (flight : Flight)
      (is : IsFlight periods parts.places parts.tables flight) where
    stay_at_once : (t : ℕ) (node : Option ℕ) → Once (stay_terms_at f flight t node)
    stay_at_once t None = tt
    stay_at_once t (Some n) =
        stay_once (length flight.nodes) flight is.route.each_leg is.route.once t n

    use_once : (k : CapKind) (place t : ℕ) → Once (use_terms k place t f flight)
    use_once kind.Dep place t =
        ascending_if AreOther (flight.from == place) (enters_in f 0 t) (entry_once 0 t)
    use_once kind.Arr place t =
        ascending_if AreOther (flight.to == place) (enters_in f (length flight.nodes - 1) t)
        (entry_once (length flight.nodes - 1) t)
    use_once kind.Sector place t = stay_at_once t (node_from place 0 flight.nodes)

-- from a flight on
record IsFrom (k : ℕ) (term : Term) : Type 0 where
  from : k ≤ flight_of term.variable

module _ (part : ℕ → Flight → List Term)
    (of : (f : ℕ) (flight : Flight) → Each (HasFlight f) (part f flight)) where
  over_from : (from k : ℕ) (flights : List Flight) → from ≤ k
      → Each (IsFrom from) (flat_map_from part k flights)
  over_from from k [] past = tt
  over_from from k (flight ∷ flights) past =
      each_append (IsFrom from) (part k flight) (flat_map_from part (k + 1) flights)
      (each_weaker (HasFlight k) (IsFrom from) (part k flight)
      (λ term has. record { from = omega (arith, past, has) }) (of k flight))
      (over_from from (k + 1) flights (omega (arith, past)))

  over_once : (P : Flight → Type 0) (k : ℕ) (flights : List Flight) → All P flights
      → ((f : ℕ) (flight : Flight) → P flight → Once (part f flight))
      → Once (flat_map_from part k flights)
  over_once P k [] all each = tt
  over_once P k (flight ∷ flights) all each =
      ascending_append AreOther (HasFlight k) (IsFrom (k + 1)) (part k flight)
      (flat_map_from part (k + 1) flights)
      (λ a b here later same.
      let past = later.from in
      let flight : flight_of a.variable ≡ flight_of b.variable = ap flight_of same in
      omega (arith, past, here, flight))
      (of k flight) (over_from (k + 1) (k + 1) flights (omega arith))
      (each k flight (All-head P flight flights all))
      (over_once P (k + 1) flights (All-tail P flight flights all) each)

-- a term is there where its factor isn't 0
abbrev IsNot0 : ℤ → Type 0
IsNot0 factor = int_eq factor (pos 0) ≡ false

step_each : (P : Term → Type 0) (factor : ℤ) (variable : Var)
    → (IsNot0 factor → P (term_of factor variable)) → Each P (unless_zero factor variable)
step_each P factor variable is = by (int_eq factor (pos 0)) refl
  where
    by : (b : Bool) → int_eq factor (pos 0) ≡ b
        → Each P (if b then [] else term_of factor variable ∷ [])
    by true none = tt
    by false other = (is other, tt)

steps_each : (P : Term → Type 0) (step : ℕ → ℤ) (variable : ℕ → Var) (from count : ℕ)
    → ((delay : ℕ) → IsNot0 (step delay) → P (term_of (step delay) (variable delay)))
    → Each P (flat_map (λ delay. unless_zero (step delay) (variable delay))
    (range_with_len from count))
steps_each P step variable from zero is = tt
steps_each P step variable from (suc count) is =
    each_append P (unless_zero (step from) (variable from))
    (flat_map (λ delay. unless_zero (step delay) (variable delay))
    (range_with_len (from + 1) count))
    (step_each P (step from) (variable from) (is from))
    (steps_each P step variable (from + 1) count is)

abbrev pub IsNotZero : Term → Type 0
IsNotZero term = term.factor ≢ pos 0

not_0 : (factor : ℤ) → IsNot0 factor → factor ≢ pos 0
not_0 factor other same =
    let is : int_eq factor (pos 0) ≡ true = (Decides-int_eq factor (pos 0)).1 same in
    absurd cc

pub unit_not_0 : (factor : ℤ) → (factor ≡ one) ⊎ (factor ≡ minus_one) → factor ≢ pos 0
unit_not_0 factor (inl is) same = absurd (omega (arith, ints, is, same))
unit_not_0 factor (inr is) same = absurd (omega (arith, ints, is, same))

-- the step of each delay is of a period of its own
steps_once : (step : ℕ → ℤ) (f n base count : ℕ)
    → Once (steps step (λ delay. By f n (base + delay)) count)
steps_once step f n base count =
    ascending_flat AreOther (λ delay. HasTime (base + delay))
    (λ delay. unless_zero (step delay) (By f n (base + delay))) 0 count
    (λ a b x y less one two.
    other_time (base + a) (base + b) x y (λ same. omega (arith, less, same)) one two)
    (λ delay. step_each (HasTime (base + delay)) (step delay) (By f n (base + delay)) (λ _. refl))
    (λ delay. step_alone (step delay) (By f n (base + delay)))
  where
    step_alone : (factor : ℤ) (variable : Var) → Once (unless_zero factor variable)
    step_alone factor variable = by (int_eq factor (pos 0))
      where
        by : (b : Bool) → Once (if b then [] else term_of factor variable ∷ [])
        by true = tt
        by false = (tt, tt)

module _ (parts : Parts) where
  priced_flight : (f : ℕ) (flight : Flight)
      → Each (HasFlight f) (flight_terms parts.tables parts.day.periods f flight)
  priced_flight f flight =
      each_append (HasFlight f) (late_terms parts.tables parts.day.periods f flight)
      (wait_terms parts.tables parts.day.periods f flight)
      (steps_each (HasFlight f) (late_step parts.tables flight)
      (λ delay. By f (length flight.nodes - 1) (flight.sa + delay)) 0
      (most_late parts.day.periods flight) (λ delay _. refl))
      (steps_each (HasFlight f) (wait_step parts.tables flight)
      (λ delay. By f 0 (flight.sd + delay)) 0 (most_wait parts.day.periods flight)
      (λ delay _. refl))

  priced_each : (f : ℕ) (flight : Flight)
      → Each IsNotZero (flight_terms parts.tables parts.day.periods f flight)
  priced_each f flight =
      each_append IsNotZero (late_terms parts.tables parts.day.periods f flight)
      (wait_terms parts.tables parts.day.periods f flight)
      (steps_each IsNotZero (late_step parts.tables flight)
      (λ delay. By f (length flight.nodes - 1) (flight.sa + delay)) 0
      (most_late parts.day.periods flight)
      (λ delay. not_0 (late_step parts.tables flight delay)))
      (steps_each IsNotZero (wait_step parts.tables flight)
      (λ delay. By f 0 (flight.sd + delay)) 0 (most_wait parts.day.periods flight)
      (λ delay. not_0 (wait_step parts.tables flight delay)))

  priced_once : (f : ℕ) (flight : Flight)
      → IsFlight parts.day.periods parts.places parts.tables flight
      → Once (flight_terms parts.tables parts.day.periods f flight)
  priced_once f flight is =
      let last = length flight.nodes - 1 in
      let from = is.route.nodes_from in
      ascending_append AreOther (HasNode last) (HasNode 0)
      (late_terms parts.tables parts.day.periods f flight)
      (wait_terms parts.tables parts.day.periods f flight)
      (λ a b one two. other_node last 0 a b (λ same. omega (arith, from, same)) one two)
      (steps_each (HasNode last) (late_step parts.tables flight)
      (λ delay. By f last (flight.sa + delay)) 0 (most_late parts.day.periods flight)
      (λ delay _. refl))
      (steps_each (HasNode 0) (wait_step parts.tables flight)
      (λ delay. By f 0 (flight.sd + delay)) 0 (most_wait parts.day.periods flight)
      (λ delay _. refl))
      (steps_once (late_step parts.tables flight) f last flight.sa
      (most_late parts.day.periods flight))
      (steps_once (wait_step parts.tables flight) f 0 flight.sd
      (most_wait parts.day.periods flight))

  module _ (scenario : IsScenario parts) where
    -- the flights of a connection differ
    ends_differ : (first second : ℕ) → first < length parts.flights
        → origin_of (slice_get parts.flights second)
        ≡ destination_of (slice_get parts.flights first)
        → second ≢ first
    ends_differ first second within together same =
        let found = found_at parts.flights first within in
        let meet : Some found.0.from ≡ Some found.0.to =
        sym (ap origin_of (ap (slice_get parts.flights) same ∙ found.1))
        ∙ together ∙ ap destination_of found.1 in
        (flight_in parts first found.0 scenario found.1).apart (let e : _ = cc in e)

    turn_once : (connection : Connection) (last t : ℕ) → IsConnection parts.flights connection
        → Once (turn_terms connection last t)
    turn_once connection last t joined =
        let first = term_of one (By connection.second 0 t) in (
          before_of connection.first (AreOther first) last t connection.turnaround
              (λ from. other_flight connection.second connection.first first
              (term_of minus_one (By connection.first last (t - connection.turnaround)))
              (ends_differ connection.first connection.second joined.first joined.together) refl
              refl),
          before_once connection.first last t connection.turnaround,
        )

    pub connect_once : (c t : ℕ) (found : Option Connection) → slice_get parts.connections c ≡ found
        → Once (of_connection (λ connection. connect_terms parts.flights connection t) found)
    connect_once c t None is = tt
    connect_once c t (Some connection) is =
        turn_once connection (last_node (slice_get parts.flights connection.first)) t
        (All-item (IsConnection parts.flights) parts.connections c connection
        scenario.connections.each
        is)

    pub capacity_once : (k : CapKind) (place t : ℕ)
        → Once (flat_map_from (use_terms k place t) 0 parts.flights)
    capacity_once k place t =
        over_once (use_terms k place t) (λ f flight. use_flight f k place t flight)
        (IsFlight parts.day.periods parts.places parts.tables) 0 parts.flights scenario.flights.each
        (λ f flight is. use_once f parts.day.periods parts flight is k place t)

    pub of_once : (f : ℕ) (terms : Flight → List Term) (found : Option Flight)
        → slice_get parts.flights f ≡ found
        → ((flight : Flight) → IsFlight parts.day.periods parts.places parts.tables flight
        → Once (terms flight))
        → Once (of_flight terms found)
    of_once f terms None is each = tt
    of_once f terms (Some flight) is each = each flight (flight_in parts f flight scenario is)

    pub cost_collected : AreCollected (cost_row parts).terms
    cost_collected = record {
      once = ascending_pairs AreOther (cost_row parts).terms
          (over_once (flight_terms parts.tables parts.day.periods) priced_flight
          (IsFlight parts.day.periods parts.places parts.tables) 0 parts.flights
          scenario.flights.each
          (λ f flight is. priced_once f flight is));
      no_zero = all_over IsNotZero (flight_terms parts.tables parts.day.periods) 0 parts.flights
          (λ f flight. each_all IsNotZero (flight_terms parts.tables parts.day.periods f flight)
          (priced_each f flight));
    }
