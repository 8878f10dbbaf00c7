-- At the rates of the loads, a trip is allowed exactly where it fits, at its own cost.
use Rattle.std.proofs.Common.{◌≡◌, ◌≢◌, ◌⊎◌, ℕ, ◌+◌, ◌-◌, ◌<◌, ◌≤◌, ◌==◌, ◌&&◌, Bool, true, false, not, nat_le, nat_lt, List, [], ◌∷◌, length, get_or, set, slice_get, Option, Some, None, All, IsTrue, IsSome, ℤ, pos, ◌-ℤ◌, refl, sym, ap, ◌∙◌, subst, inl, inr, arith}
use Rattle.std.specs.Option.{option_and_then}
use Rattle.std.proofs.lemmas.Bool.{cases_lt}
use Rattle.std.proofs.lemmas.Bool.Decides.{nat_tests}
use Rattle.std.proofs.lemmas.Int.{ints}
use Rattle.std.proofs.lemmas.List.Elements.{All-head, All-tail}
use Rattle.std.proofs.lemmas.Option.{slice_get-get_or}
use Rattle.exact_sums.proofs.ItemFacts.{All-item, slice_get-set_other, slice_get-set_same}
use Rattle.flow_types.specs.declared.flight.Connection.{Connection}
use Rattle.flow_types.specs.declared.flight.Flight.{Flight}
use Rattle.flow_types.specs.declared.parts.Parts.{Parts}
use Rattle.flow_types.specs.declared.place.CapKind.TheVariants as kind
use Rattle.flow_types.specs.declared.place.Place.{Place}
use Rattle.flow_types.specs.declared.plan.Stop.{Stop}
use Rattle.flow_types.specs.Capacities.{capacity_of}
use Rattle.flow_types.specs.Costs.{credit_of, total_of, trip_cost}
use Rattle.flow_types.specs.Counts.{arrives_at, arrives_from, arrivals_at, departs_at, departures_at, one_if, stays_from}
use Rattle.flow_types.specs.Routes.{is_airport, is_airport_kind, is_sector}
use Rattle.flow_types.specs.Trips.{IsOnward, IsTrip, arrival_from, departure_of, arrival_of, place_at}
use Rattle.flow_types.specs.Valid.{IsConnection, IsFlight, IsScenario, destination_of, origin_of}
use Rattle.plan_rules.proofs.CountFacts.{arrives_at-le, departs_at-le, stays_at-once}
use Rattle.time_windows.specs.declared.access.Access.{Access}
use Rattle.time_windows.specs.declared.access.Window.{Window}
use Rattle.time_windows.specs.Boxes.{IsInWindow, IsTripInBox}
use Rattle.flight_routes.specs.FitRates.{AreFitRates, IsGiven, LeavesTimeFor, MayArrive, MayLeave, MayStay, WaitsFor}
use Rattle.flight_routes.specs.Fits.{FitsAs, KeepsOwnTurn}
use Rattle.flight_routes.specs.Rates.{Rates, value_or_zero, whole_cost}
use Rattle.flight_routes.specs.Ready.{IsInSpan}
use Rattle.flight_routes.proofs.TripFacts.{ClearOn, EndsIn, IsAllowed, ends_in, in_day, stays_cost, step_up, whole_cost_is}

-- what is given is there
given_some : (given : Option ℤ) (May : Type 0) (value : ℤ) → IsGiven given May value → May
    → IsSome given × (value_or_zero given ≡ value)
given_some None May value is may = absurd (is may)
given_some (Some v) May value is may = (refl, is.1)

given_may : (given : Option ℤ) (May : Type 0) (value : ℤ) → IsGiven given May value → IsSome given
    → May × (value_or_zero given ≡ value)
given_may None May value is some = let no : ⊥ = cc in absurd no
given_may (Some v) May value is some = is

-- a trip departs at the origin, and arrives at the last node
departs_there : (flight : Flight) (stop : Stop) (rest : List Stop)
    → departs_at (place_at flight stop.node) stop.time flight (stop ∷ rest) ≡ 1
departs_there flight stop rest = grind (arith, nat_tests)

arrives_there : (periods : ℕ) (flight : Flight) (stop : Stop) (rest : List Stop) (n : ℕ)
    → IsOnward periods flight stop rest → n + 1 ≡ length flight.nodes
    → (k t : ℕ) → arrives_from k t flight stop rest
    ≡ one_if ((place_at flight n == k) && (arrival_from stop rest == t))
arrives_there periods flight stop [] n onward last k t =
    let same : stop.node ≡ n = omega (arith, onward) in
    ap (λ m. one_if ((place_at flight m == k) && (stop.time == t))) same
arrives_there periods flight stop (next ∷ rest) n onward last k t =
    arrives_there periods flight next rest n onward.2 last k t

both_same : (a b t : ℕ) → a ≡ b → one_if ((a == b) && (t == t)) ≡ 1
both_same a b t same = grind (arith, nat_tests)

-- a count of one test that is more than nothing
both_hold : (a b k t : ℕ) → 0 < one_if ((a == k) && (b == t)) → (a ≡ k) × (b ≡ t)
both_hold a b k t some = (grind (arith, nat_tests), grind (arith, nat_tests))

module _ (parts : Parts) (valid : IsScenario parts) (trips : List (List Stop)) (number : ℕ)
    (flight : Flight) (here : slice_get parts.flights number ≡ Some flight)
    (long : number < length trips) where
  fine : IsFlight parts.day.periods parts.places parts.tables flight
  fine = All-item (IsFlight parts.day.periods parts.places parts.tables) parts.flights number flight
      valid.flights.each here

  from_is : place_at flight 0 ≡ flight.from
  from_is = fine.route.first

  -- no flight waits for itself
  apart : (connection : Connection)
      → origin_of (slice_get parts.flights connection.second)
      ≡ destination_of (slice_get parts.flights connection.first)
      → connection.second ≡ number → connection.first ≡ number → ⊥
  apart connection together second first =
      let one = ap (λ n. origin_of (slice_get parts.flights n)) second ∙ ap origin_of here in
      let two = ap (λ n. destination_of (slice_get parts.flights n)) first
      ∙ ap destination_of here in
      let both : Some flight.from ≡ Some flight.to = sym one ∙ together ∙ two in
      fine.apart (let e : flight.from ≡ flight.to = cc in e)

  module _ (stop : Stop) (rest : List Stop)
      (trip : IsTrip parts.day.periods flight (stop ∷ rest)) where
    stops : List Stop
    stops = stop ∷ rest

    -- a turnaround that is kept, told from either end
    waits : (connection : Connection)
        → origin_of (slice_get parts.flights connection.second)
        ≡ destination_of (slice_get parts.flights connection.first)
        → KeepsOwnTurn (set trips number (stop ∷ rest)) number connection
        → WaitsFor trips number stop.time connection
    waits connection together own second arrives arrived =
        let other : connection.first ≢ number = λ e. apart connection together second e in
        own (inr second) arrives stop.time
        (ap (option_and_then arrival_of)
        (slice_get-set_other trips number connection.first (stop ∷ rest) other) ∙ arrived)
        (ap (λ n. option_and_then departure_of
        (slice_get (set trips number (stop ∷ rest)) n)) second
        ∙ ap (option_and_then departure_of)
        (slice_get-set_same trips number (stop ∷ rest) long))

    leaves_time : (connection : Connection)
        → origin_of (slice_get parts.flights connection.second)
        ≡ destination_of (slice_get parts.flights connection.first)
        → KeepsOwnTurn (set trips number (stop ∷ rest)) number connection
        → LeavesTimeFor trips number (arrival_from stop rest) connection
    leaves_time connection together own first leaves left =
        let other : connection.second ≢ number = λ e. apart connection together e first in
        own (inl first) (arrival_from stop rest) leaves
        (ap (λ n. option_and_then arrival_of
        (slice_get (set trips number (stop ∷ rest)) n)) first
        ∙ ap (option_and_then arrival_of)
        (slice_get-set_same trips number (stop ∷ rest) long))
        (ap (option_and_then departure_of)
        (slice_get-set_other trips number connection.second (stop ∷ rest) other) ∙ left)

    same_some : (a b : ℕ) → Some a ≡ Some b → a ≡ b
    same_some a b e = cc

    keeps_own : (connection : Connection)
        → origin_of (slice_get parts.flights connection.second)
        ≡ destination_of (slice_get parts.flights connection.first)
        → WaitsFor trips number stop.time connection
        → LeavesTimeFor trips number (arrival_from stop rest) connection
        → KeepsOwnTurn (set trips number (stop ∷ rest)) number connection
    keeps_own connection together waiting leaving (inl first) arrives leaves arrived left =
        let other : connection.second ≢ number = λ e. apart connection together e first in
        let mine = same_some (arrival_from stop rest) arrives
        (sym (ap (λ n. option_and_then arrival_of
        (slice_get (set trips number (stop ∷ rest)) n)) first
        ∙ ap (option_and_then arrival_of)
        (slice_get-set_same trips number (stop ∷ rest) long)) ∙ arrived) in
        let kept = leaving first leaves (sym (ap (option_and_then departure_of)
        (slice_get-set_other trips number connection.second (stop ∷ rest) other)) ∙ left) in
        omega arith
    keeps_own connection together waiting leaving (inr second) arrives leaves arrived left =
        let other : connection.first ≢ number = λ e. apart connection together second e in
        let mine = same_some stop.time leaves
        (sym (ap (λ n. option_and_then departure_of
        (slice_get (set trips number (stop ∷ rest)) n)) second
        ∙ ap (option_and_then departure_of)
        (slice_get-set_same trips number (stop ∷ rest) long)) ∙ left) in
        let kept = waiting second arrives (sym (ap (option_and_then arrival_of)
        (slice_get-set_other trips number connection.first (stop ∷ rest) other)) ∙ arrived) in
        omega arith

-- a stay of one step
stay_some : (a k from t to : ℕ) → a ≡ k → from ≤ t → t < to
    → one_if ((a == k) && nat_le from t && nat_lt t to) ≡ 1
stay_some a k from t to same low high = grind (arith, nat_tests)

stay_where : (a k from t to : ℕ) → 0 < one_if ((a == k) && nat_le from t && nat_lt t to)
    → (a ≡ k) × (from ≤ t) × (t < to)
stay_where a k from t to some =
    (grind (arith, nat_tests), grind (arith, nat_tests), grind (arith, nat_tests))

neither : (b : Bool) → IsTrue (not b) → IsTrue b → ⊥
neither true sector airport = cc
neither false sector airport = cc

module _ (parts : Parts) (valid : IsScenario parts) (trips : List (List Stop)) (number : ℕ)
    (flight : Flight) (here : slice_get parts.flights number ≡ Some flight)
    (row : ℕ → Access) (span : Window)
    (within : (n t : ℕ) → IsInWindow (row n).window t → IsInSpan span t) (rates : Rates)
    (are : AreFitRates parts trips number flight row span rates) where
  fine_too : IsFlight parts.day.periods parts.places parts.tables flight
  fine_too = All-item (IsFlight parts.day.periods parts.places parts.tables) parts.flights number
      flight valid.flights.each here

  -- in each period of a stay there is room
  pub RoomOn : Stop → List Stop → Type 0
  RoomOn stop rest = (k t : ℕ) → IsTrue (is_sector (slice_get parts.places k))
      → 0 < stays_from k t flight stop rest → MayStay parts trips k t

  -- two stops one after the other are in the span, and the rest is in its windows
  both_in_span : (stop next : Stop) (rest : List Stop)
      → All (λ (s : Stop). IsInWindow (row s.node).window s.time) (stop ∷ next ∷ rest)
      → IsInSpan span stop.time × IsInSpan span next.time
      × All (λ (s : Stop). IsInWindow (row s.node).window s.time) (next ∷ rest)
  both_in_span stop next rest windows =
      let later = All-tail (λ (s : Stop). IsInWindow (row s.node).window s.time) stop (next ∷ rest)
      windows in (
        within stop.node stop.time
            (All-head (λ (s : Stop). IsInWindow (row s.node).window s.time) stop (next ∷ rest)
            windows),
        within next.node next.time
            (All-head (λ (s : Stop). IsInWindow (row s.node).window s.time) next rest later),
        later,
      )

  clear_step : (stop next : Stop) (rest : List Stop)
      → (stop.node < next.node) × (next.node < length flight.nodes)
      → next.time < parts.day.periods → stop.time ≤ next.time
      → IsInSpan span stop.time → IsInSpan span next.time
      → ((k t : ℕ) → IsTrue (is_sector (slice_get parts.places k))
      → 0 < stays_from k t flight stop (next ∷ rest) → MayStay parts trips k t)
      → (0 < stop.node) ⊎ (stop.node ≤ 0) → next.time ≤ rates.clear stop.node stop.time
  clear_step stop next rest up day later from to room (inl above) =
      are.clear stop.node stop.time next.time above (omega (arith, up.0, up.1)) from.0 later to.1
      (λ p low high. room (place_at flight stop.node) p
      (fine_too.route.sectors stop.node above (omega (arith, up.0, up.1)))
      (omega (
        arith,
        stay_some (place_at flight stop.node) (place_at flight stop.node) stop.time p
            next.time refl low high,
      )))
  clear_step stop next rest up day later from to room (inr at_first) =
      let is : 0 ≡ stop.node = omega arith in
      subst (λ n. next.time ≤ rates.clear n stop.time) is (are.first stop.time next.time later day)

  pub room_clear : (stop : Stop) (rest : List Stop)
      → IsOnward parts.day.periods flight stop rest
      → All (λ (s : Stop). IsInWindow (row s.node).window s.time) (stop ∷ rest)
      → ((k t : ℕ) → IsTrue (is_sector (slice_get parts.places k))
      → 0 < stays_from k t flight stop rest → MayStay parts trips k t)
      → ClearOn rates stop rest
  room_clear stop [] onward windows room = tt
  room_clear stop (next ∷ rest) onward windows room =
      let up = step_up flight fine_too.route.each_leg stop next onward.0 in
      let spans = both_in_span stop next rest windows in (
        clear_step stop next rest up
            (in_day parts.day.periods flight next valid.day.periods_from onward.1)
            (omega (arith, onward.0.4.least)) spans.0 spans.1 room (cases_lt 0 stop.node),
        room_clear next rest onward.2 spans.2
            (λ k t sector some. room k t sector (omega (arith, some))),
      )

  room_step : (stop next : Stop) (k t : ℕ)
      → (stop.node < next.node) × (next.node < length flight.nodes)
      → next.time < parts.day.periods → stop.time ≤ next.time
      → IsInSpan span stop.time → IsInSpan span next.time
      → next.time ≤ rates.clear stop.node stop.time
      → IsTrue (is_sector (slice_get parts.places k))
      → (place_at flight stop.node ≡ k) × (stop.time ≤ t) × (t < next.time)
      → (0 < stop.node) ⊎ (stop.node ≤ 0) → MayStay parts trips k t
  room_step stop next k t up day later from to clear sector at (inl above) =
      subst (λ place. MayStay parts trips place t) at.0
      (are.stays stop.node stop.time next.time above (omega (arith, up.0, up.1)) from.0 later to.1
      clear t
      at.1 at.2)
  room_step stop next k t up day later from to clear sector at (inr at_first) =
      let is : stop.node ≡ 0 = omega arith in
      let origin : flight.from ≡ k =
      sym fine_too.route.first ∙ ap (place_at flight) (sym is) ∙ at.0 in
      absurd (no_airport (slice_get parts.places k) sector
      (subst (λ place. IsTrue (is_airport (slice_get parts.places place))) origin fine_too.origin))
    where
      no_airport : (place : Option Place) → IsTrue (is_sector place) → IsTrue (is_airport place) → ⊥
      no_airport None sector airport = cc
      no_airport (Some place) sector airport = neither (is_airport_kind place.kind) sector airport

  pub clear_room : (stop : Stop) (rest : List Stop)
      → IsOnward parts.day.periods flight stop rest
      → All (λ (s : Stop). IsInWindow (row s.node).window s.time) (stop ∷ rest)
      → ClearOn rates stop rest → (k t : ℕ) → IsTrue (is_sector (slice_get parts.places k))
      → 0 < stays_from k t flight stop rest → MayStay parts trips k t
  clear_room stop [] onward windows clear k t sector some = absurd (omega (arith, some))
  clear_room stop (next ∷ rest) onward windows clear k t sector some =
      let up = step_up flight fine_too.route.each_leg stop next onward.0 in
      let spans = both_in_span stop next rest windows in
      elim (cases_lt 0 (one_if ((place_at flight stop.node == k) && nat_le stop.time t
      && nat_lt t next.time))) as (λ w. MayStay parts trips k t) [
        | inl now ↦ room_step stop next k t up
            (in_day parts.day.periods flight next valid.day.periods_from onward.1)
            (omega (arith, onward.0.4.least)) spans.0 spans.1 clear.0 sector
            (stay_where (place_at flight stop.node) k stop.time t next.time now)
            (cases_lt 0 stop.node)
        | inr none ↦ clear_room next rest onward.2 spans.2 clear.1 k t sector
            (omega (arith, some, none))
      ]

  -- nothing is paid for staying
  pub stays_free : (stop : Stop) (rest : List Stop) → stays_cost rates stop rest ≡ pos 0
  stays_free stop [] = refl
  stays_free stop (next ∷ rest) =
      omega (
        arith,
        ints,
        stays_free next rest,
        are.paid stop.node next.time,
        are.paid stop.node stop.time,
      )

module _ (parts : Parts) (valid : IsScenario parts) (trips : List (List Stop)) (number : ℕ)
    (flight : Flight) (here : slice_get parts.flights number ≡ Some flight)
    (long : number < length trips) (row : ℕ → Access) (span : Window)
    (within : (n t : ℕ) → IsInWindow (row n).window t → IsInSpan span t) (rates : Rates)
    (are : AreFitRates parts trips number flight row span rates)
    (stop : Stop) (rest : List Stop) (trip : IsTrip parts.day.periods flight (stop ∷ rest))
    (inside : IsTripInBox row (stop ∷ rest)) where
  first_in : IsInWindow (row 0).window stop.time
  first_in = subst (λ n. IsInWindow (row n).window stop.time) trip.0
      (All-head (λ (s : Stop). IsInWindow (row s.node).window s.time) stop rest inside.windows)

  last_in : EndsIn flight row stop rest
  last_in = ends_in parts.day.periods flight row stop rest trip.2 inside.windows

  there_is : IsFlight parts.day.periods parts.places parts.tables flight
  there_is = fine parts valid trips number flight here long

  begins_at : place_at flight stop.node ≡ flight.from
  begins_at = ap (place_at flight) trip.0 ∙ there_is.route.first

  ends_at : place_at flight last_in.node ≡ flight.to
  ends_at =
      let same : last_in.node ≡ length flight.nodes - 1 = omega (arith, last_in.last) in
      ap (place_at flight) same ∙ there_is.route.last

  together : (k : ℕ) (connection : Connection) → slice_get parts.connections k ≡ Some connection
      → origin_of (slice_get parts.flights connection.second)
      ≡ destination_of (slice_get parts.flights connection.first)
  together k connection is =
      (All-item (IsConnection parts.flights) parts.connections k connection valid.connections.each
      is).together

  connection_at : (k : ℕ) (d : Connection) → k < length parts.connections
      → slice_get parts.connections k ≡ Some (get_or parts.connections k d)
  connection_at k d within = slice_get-get_or parts.connections k d within

  may_leave : FitsAs parts trips number flight (stop ∷ rest)
      → MayLeave parts trips number flight stop.time
  may_leave fits = record {
    room =
        let one : departs_at flight.from stop.time flight (stop ∷ rest) ≡ 1 =
        ap (λ k. departs_at k stop.time flight (stop ∷ rest)) (sym begins_at)
        ∙ departs_there flight stop rest in
        let room = fits.departures flight.from stop.time there_is.origin (omega (arith, one)) in
        omega (arith, room, one);
    turns = λ k d within.
        let is = connection_at k d within in
        waits parts valid trips number flight here long stop rest trip
        (get_or parts.connections k d) (together k _ is) (fits.turns k d within);
  }

  may_arrive : FitsAs parts trips number flight (stop ∷ rest)
      → MayArrive parts trips number flight (arrival_from stop rest)
  may_arrive fits = record {
    room =
        let one : arrives_at flight.to (arrival_from stop rest) flight (stop ∷ rest) ≡ 1 =
        arrives_there parts.day.periods flight stop rest last_in.node trip.2 last_in.last flight.to
        (arrival_from stop rest)
        ∙ both_same (place_at flight last_in.node) flight.to (arrival_from stop rest) ends_at in
        let room = fits.arrivals flight.to (arrival_from stop rest) there_is.destination
        (omega (arith, one)) in
        omega (arith, room, one);
    turns = λ k d within.
        let is = connection_at k d within in
        leaves_time parts valid trips number flight here long stop rest trip
        (get_or parts.connections k d) (together k _ is) (fits.turns k d within);
  }

  -- a trip that fits is allowed
  pub fits_allowed : FitsAs parts trips number flight (stop ∷ rest) → IsAllowed rates (stop ∷ rest)
  fits_allowed fits = (
    (given_some (rates.leaves stop.time) (MayLeave parts trips number flight stop.time)
        (pos 0 -ℤ credit_of parts.tables flight.cost (stop.time - flight.sd))
        (are.leaves stop.time first_in) (may_leave fits)).0,
    (given_some (rates.arrives (arrival_from stop rest))
        (MayArrive parts trips number flight (arrival_from stop rest))
        (total_of parts.tables flight.cost (arrival_from stop rest - flight.sa))
        (are.arrives last_in.node (arrival_from stop rest) last_in.last last_in.window)
        (may_arrive fits)).0,
    room_clear parts valid trips number flight here row span within rates are stop rest trip.2
        inside.windows
        (λ k t sector some.
        let room = fits.sectors k t sector some in
        omega (arith, room, some)),
  )

  leave_given : IsAllowed rates (stop ∷ rest)
      → MayLeave parts trips number flight stop.time
      × (value_or_zero (rates.leaves stop.time)
      ≡ pos 0 -ℤ credit_of parts.tables flight.cost (stop.time - flight.sd))
  leave_given allowed = given_may (rates.leaves stop.time)
      (MayLeave parts trips number flight stop.time)
      (pos 0 -ℤ credit_of parts.tables flight.cost (stop.time - flight.sd))
      (are.leaves stop.time first_in) allowed.0

  arrive_given : IsAllowed rates (stop ∷ rest)
      → MayArrive parts trips number flight (arrival_from stop rest)
      × (value_or_zero (rates.arrives (arrival_from stop rest))
      ≡ total_of parts.tables flight.cost (arrival_from stop rest - flight.sa))
  arrive_given allowed = given_may (rates.arrives (arrival_from stop rest))
      (MayArrive parts trips number flight (arrival_from stop rest))
      (total_of parts.tables flight.cost (arrival_from stop rest - flight.sa))
      (are.arrives last_in.node (arrival_from stop rest) last_in.last last_in.window) allowed.1

  -- a trip that is allowed fits
  pub allowed_fits : IsAllowed rates (stop ∷ rest) → FitsAs parts trips number flight (stop ∷ rest)
  allowed_fits allowed =
      let leave = (leave_given allowed).0 in
      let arrive = (arrive_given allowed).0 in
      record {
        departures = λ k t has some.
            let at = both_hold (place_at flight stop.node) stop.time k t some in
            departs_with k t (sym begins_at ∙ at.0) at.1 leave.room;
        arrivals = λ k t has some.
            let counts = arrives_there parts.day.periods flight stop rest last_in.node trip.2
            last_in.last k t in
            let at = both_hold (place_at flight last_in.node) (arrival_from stop rest) k t
            (omega (arith, some, counts)) in
            arrives_with k t (sym ends_at ∙ at.0) at.1 arrive.room;
        sectors = λ k t has some.
            let once = stays_at-once parts.day.periods k t flight (stop ∷ rest) trip in
            let room = clear_room parts valid trips number flight here row span within rates are
            stop rest trip.2 inside.windows allowed.2 k t has some in
            omega (arith, once, room, some);
        turns = λ k d within.
            let is = connection_at k d within in
            keeps_own parts valid trips number flight here long stop rest trip
            (get_or parts.connections k d) (together k _ is) (leave.turns k d within)
            (arrive.turns k d within);
      }
    where
      departs_with : (k t : ℕ) → flight.from ≡ k → stop.time ≡ t
          → departures_at parts.flights trips flight.from stop.time + 1
          ≤ capacity_of parts.places kind.Dep flight.from stop.time
          → departures_at parts.flights trips k t + departs_at k t flight (stop ∷ rest)
          ≤ capacity_of parts.places kind.Dep k t
      departs_with k t place time room =
          let once = departs_at-le k t flight (stop ∷ rest) in
          let moved = subst (λ m. departures_at parts.flights trips k m + 1
          ≤ capacity_of parts.places kind.Dep k m) time
          (subst (λ m. departures_at parts.flights trips m stop.time + 1
          ≤ capacity_of parts.places kind.Dep m stop.time) place room) in
          omega (arith, once, moved)

      arrives_with : (k t : ℕ) → flight.to ≡ k → arrival_from stop rest ≡ t
          → arrivals_at parts.flights trips flight.to (arrival_from stop rest) + 1
          ≤ capacity_of parts.places kind.Arr flight.to (arrival_from stop rest)
          → arrivals_at parts.flights trips k t + arrives_at k t flight (stop ∷ rest)
          ≤ capacity_of parts.places kind.Arr k t
      arrives_with k t place time room =
          let once = arrives_at-le k t flight (stop ∷ rest) in
          let moved = subst (λ m. arrivals_at parts.flights trips k m + 1
          ≤ capacity_of parts.places kind.Arr k m) time
          (subst (λ m. arrivals_at parts.flights trips m (arrival_from stop rest) + 1
          ≤ capacity_of parts.places kind.Arr m (arrival_from stop rest)) place room) in
          omega (arith, once, moved)

  -- at its own cost
  pub allowed_cost : IsAllowed rates (stop ∷ rest)
      → whole_cost rates (stop ∷ rest) ≡ trip_cost parts.tables flight (stop ∷ rest)
  allowed_cost allowed =
      omega (
        arith,
        ints,
        whole_cost_is rates stop rest,
        (leave_given allowed).1,
        (arrive_given allowed).1,
        stays_free parts valid trips number flight here row span within rates are stop rest,
      )
