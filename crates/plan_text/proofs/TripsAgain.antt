-- A trip that its line tells is read back: its stops are at nodes of the flight, in periods of the
-- day, and no more than its nodes.
use Rattle.std.specs.Prelude.{codes}
use Rattle.std.proofs.Common.{◌≡◌, ◌⊎◌, ℕ, zero, suc, ◌+◌, ◌-◌, ◌*◌, ◌^◌, ◌<◌, ◌≤◌, true, List, [], ◌∷◌, ◌++◌, length, Option, Some, None, Ok, All, slice_get, refl, sym, ap, subst, ◌∙◌, inl, inr, arith, append_assoc, length-append}
use Rattle.std.specs.Fmt.{decimal}
use Rattle.std.proofs.Math.Seq.{get_or-append_seam}
use Rattle.std.proofs.lemmas.Bool.{cases_lt, false≢true, le-ltb, lt-ltb}
use Rattle.std.proofs.lemmas.List.Elements.{All-get_or}
use Rattle.std.proofs.lemmas.Option.{slice_get-get_or, slice_get_within, get_or_from_slice_get}
use Rattle.flow_types.specs.declared.flight.Flight.{Flight}
use Rattle.flow_types.specs.declared.parts.Parts.{Parts}
use Rattle.flow_types.specs.declared.place.Place.{Place}
use Rattle.flow_types.specs.declared.plan.Stop.{Stop}
use Rattle.flow_types.specs.Routes.{IsLeg, is_airport, is_sector}
use Rattle.flow_types.specs.Trips.{IsOnward, IsTrip, IsWithinHours, latest_of, place_at}
use Rattle.flow_types.specs.Valid.{IsFlight, IsPlace, IsScenario}
use Rattle.flow_types.proofs.CostFacts.{latest_to}
use Rattle.text_records.specs.Names.{position_of}
use Rattle.text_records.specs.Rows.{Fields}
use Rattle.plan_text.specs.Lines.{place_name}
use Rattle.plan_text.specs.Names.{flight_names, node_named}
use Rattle.plan_text.specs.Trips.{TripsRead, flight_in, stop_in, stops_from, trip_of}
use Rattle.plan_text.proofs.ReadBack.{name_back, named_at, node_back, number_in_back}

pub record IsReadBack (periods : ℕ) (flight : Flight) (stop : Stop) : Type 0 where
  pub node : stop.node < length flight.nodes
  pub time : stop.time < periods

abbrev pub AreReadBack : ℕ → Flight → List Stop → Type 0
AreReadBack periods flight [] = Unit {0}
AreReadBack periods flight (stop ∷ stops) = IsReadBack periods flight stop
    × AreReadBack periods flight stops

module _ (periods : ℕ) (some : 1 ≤ periods) (flight : Flight)
    (legs : All (IsLeg (length flight.nodes)) flight.legs) where
  in_day : (stop : Stop) → IsWithinHours periods flight stop → stop.time < periods
  in_day stop hours =
      let late : stop.time ≤ latest_of periods flight stop.node = hours.late in
      let last : latest_of periods flight stop.node ≤ periods - 1 =
      latest_to periods flight stop.node in
      omega (arith, late, last, some)

  nodes_left : (stop : Stop) (rest : List Stop) → IsOnward periods flight stop rest
      → stop.node + suc (length rest) ≤ length flight.nodes
  nodes_left stop [] on = omega (arith, on)
  nodes_left stop (next ∷ rest) on =
      let step = on.0 in
      let leg : IsLeg (length flight.nodes) step.1 =
      subst (IsLeg (length flight.nodes)) step.3 (legs step.0 step.1 step.2) in
      let up : step.1.from < step.1.to = leg.upward in
      let from : step.1.from ≡ stop.node = step.4.from in
      let to : step.1.to ≡ next.node = step.4.to in
      omega (arith, up, from, to, nodes_left next rest on.2)

  told_onward : (stop : Stop) (rest : List Stop) → IsWithinHours periods flight stop
      → IsOnward periods flight stop rest → AreReadBack periods flight (stop ∷ rest)
  told_onward stop [] hours on =
      (record { node = omega (arith, nodes_left stop [] on); time = in_day stop hours }, tt)
  told_onward stop (next ∷ rest) hours on = (
    record {
      node = omega (arith, nodes_left stop (next ∷ rest) on);
      time = in_day stop hours;
    },
    told_onward next rest on.1 on.2,
  )

  pub are_read_back : (trip : List Stop) → IsTrip periods flight trip
      → AreReadBack periods flight trip
  are_read_back [] is = absurd is
  are_read_back (stop ∷ rest) is = told_onward stop rest is.1 is.2

  pub few_stops : (trip : List Stop) → IsTrip periods flight trip
      → length trip ≤ length flight.nodes
  few_stops [] is = absurd is
  few_stops (stop ∷ rest) is = let left = nodes_left stop rest is.2 in omega (arith, left)

some_airport : (place : Option Place) → is_airport place ≡ true → (found : Place)
    × (place ≡ Some found)
some_airport None is = absurd (false≢true is)
some_airport (Some place) is = (place, refl)

some_sector : (place : Option Place) → is_sector place ≡ true → (found : Place)
    × (place ≡ Some found)
some_sector None is = absurd (false≢true is)
some_sector (Some place) is = (place, refl)

module _ (periods : ℕ) (places : List Place) (tables : List _) (flight : Flight)
    (valid : IsFlight periods places tables flight) where
  abbrev IsThere : ℕ → Type 0
  IsThere k = (found : Place) × (slice_get places k ≡ Some found)

  pub place_there : (node : ℕ) → node < length flight.nodes → IsThere (place_at flight node)
  place_there node within = by (cases_lt 0 node) (cases_lt (node + 1) (length flight.nodes)) where
    by : (0 < node) ⊎ (node ≤ 0) → (node + 1 < length flight.nodes)
        ⊎ (length flight.nodes ≤ node + 1) → IsThere (place_at flight node)
    by (inr none) either =
        let zero_is : 0 ≡ node = omega arith in
        subst (λ (n : ℕ). IsThere (place_at flight n)) zero_is
        (subst IsThere (sym valid.route.first)
        (some_airport (slice_get places flight.from) valid.origin))
    by (inl some) (inl before) =
        some_sector (slice_get places (place_at flight node)) (valid.route.sectors node some before)
    by (inl some) (inr past) =
        let last_is : length flight.nodes - 1 ≡ node = omega arith in
        subst (λ (n : ℕ). IsThere (place_at flight n)) last_is
        (subst IsThere (sym valid.route.last)
        (some_airport (slice_get places flight.to) valid.destination))

abbrev pub stop_fields : List Place → Flight → List Stop → Fields
stop_fields places flight [] = []
stop_fields places flight (stop ∷ stops) =
    place_name (slice_get places (place_at flight stop.node)) ∷ decimal stop.time
    ∷ stop_fields places flight stops

abbrev pub trip_fields : List Place → Flight → List Stop → Fields
trip_fields places flight stops = codes "trip" ∷ flight.name ∷ stop_fields places flight stops

length_of_fields : (places : List Place) (flight : Flight) (stops : List Stop)
    → length (stop_fields places flight stops) ≡ 2 * length stops
length_of_fields places flight [] = refl
length_of_fields places flight (stop ∷ stops) = omega (arith, length_of_fields places flight stops)

-- the field behind a front, and the one behind that
at_seam : (front : Fields) (x : List ℕ) (rest : Fields)
    → slice_get (front ++ x ∷ rest) (length front) ≡ Some x
at_seam front x rest =
    slice_get-get_or (front ++ x ∷ rest) (length front) []
    (omega (arith, length-append front (x ∷ rest)))
    ∙ ap Some (get_or-append_seam front x rest [])

past_seam : (front : Fields) (x y : List ℕ) (rest : Fields)
    → slice_get (front ++ x ∷ y ∷ rest) (length front + 1) ≡ Some y
past_seam front x y rest =
    let grouped : (front ++ x ∷ []) ++ y ∷ rest ≡ front ++ x ∷ y ∷ rest =
    append_assoc front (x ∷ []) (y ∷ rest) in
    let count : length (front ++ x ∷ []) ≡ length front + 1 = length-append front (x ∷ []) in
    subst (λ (n : ℕ). slice_get (front ++ x ∷ y ∷ rest) n ≡ Some y) count
    (subst (λ (fields : Fields). slice_get fields (length (front ++ x ∷ [])) ≡ Some y) grouped
    (at_seam (front ++ x ∷ []) y rest))

module _ (parts : Parts) (valid : IsScenario parts) (k : ℕ) (flight : Flight)
    (there : slice_get parts.flights k ≡ Some flight) where
  pub is_flight : IsFlight parts.day.periods parts.places parts.tables flight
  is_flight =
      subst (IsFlight parts.day.periods parts.places parts.tables)
      (get_or_from_slice_get parts.flights k flight flight there)
      (All-get_or (IsFlight parts.day.periods parts.places parts.tables) parts.flights k flight
      (slice_get_within parts.flights k flight there) valid.flights.each)

  pub is_place : (at : ℕ) (place : Place) → slice_get parts.places at ≡ Some place
      → IsPlace parts.day.periods place
  is_place at place here =
      subst (IsPlace parts.day.periods) (get_or_from_slice_get parts.places at place place here)
      (All-get_or (IsPlace parts.day.periods) parts.places at place
      (slice_get_within parts.places at place here) valid.places.each)

  module _ (stop : Stop) (trips : IsReadBack parts.day.periods flight stop) (fields : Fields)
      (number : ℕ) where
    abbrev at : ℕ
    at = place_at flight stop.node

    node_there : (place : Place) → slice_get parts.places at ≡ Some place
        → node_named parts.places flight.nodes place.name ≡ Some stop.node
    node_there place here =
        rw (named_at (λ (p : Place). p.name) parts.places at place valid.places.names here)
        (node_back flight.nodes stop.node is_flight.route.different trips.node)

    stop_back : slice_get fields (number - 1) ≡ Some (place_name (slice_get parts.places at))
        → slice_get fields (number + 1 - 1) ≡ Some (decimal stop.time)
        → stop_in parts flight.nodes fields number ≡ Ok stop
    unfolding stop_in
    stop_back name time =
        let found = place_there parts.day.periods parts.places parts.tables flight is_flight
        stop.node trips.node in
        let named : slice_get fields (number - 1) ≡ Some found.0.name =
        name ∙ ap (λ (p : Option Place). Some (place_name p)) found.1 in
        let last : stop.time ≤ parts.day.periods - 1 = let early = trips.time in
        omega (arith, early) in
        let small : stop.time < 10 ^ 18 = let early = trips.time in
        let most = valid.day.periods_to in omega (arith, early, most) in
        rw (
          name_back fields number found.0.name named
              (is_place at found.0 found.1).name,
          node_there found.0 found.1,
          number_in_back fields
              (number + 1) stop.time (parts.day.periods - 1) time small last,
        ) refl

  stops_back : (stops : List Stop) (front : Fields) (most : ℕ)
      → AreReadBack parts.day.periods flight stops → length stops ≤ most
      → stops_from parts flight.nodes (front ++ stop_fields parts.places flight stops) most
      (length front + 1) ≡ Ok stops
  unfolding stops_from
  stops_back [] front zero trips few = refl
  stops_back (stop ∷ stops) front zero trips few = absurd (omega (arith, few))
  stops_back [] front (suc most) trips few =
      rw (lt-ltb (length (front ++ [])) (length front + 1) (omega (arith, length-append front [])))
      refl
  stops_back (stop ∷ stops) front (suc most) trips few =
      let name = place_name (slice_get parts.places (place_at flight stop.node)) in
      let rest = stop_fields parts.places flight stops in
      let fields = front ++ name ∷ decimal stop.time ∷ rest in
      let within : length front + 1 ≤ length fields =
      omega (arith, length-append front (name ∷ decimal stop.time ∷ rest)) in
      let here : length front + 1 - 1 ≡ length front = omega arith in
      let next : length front + 1 + 1 - 1 ≡ length front + 1 = omega arith in
      let is_stop : stop_in parts flight.nodes fields (length front + 1) ≡ Ok stop =
      stop_back stop trips.0 fields (length front + 1)
      (ap (slice_get fields) here ∙ at_seam front name (decimal stop.time ∷ rest))
      (ap (slice_get fields) next ∙ past_seam front name (decimal stop.time) rest) in
      let grouped : (front ++ name ∷ decimal stop.time ∷ []) ++ rest ≡ fields =
      append_assoc front (name ∷ decimal stop.time ∷ []) rest in
      let number : length (front ++ name ∷ decimal stop.time ∷ []) + 1 ≡ length front + 1 + 2 =
      omega (arith, length-append front (name ∷ decimal stop.time ∷ [])) in
      let more : stops_from parts flight.nodes fields most (length front + 1 + 2) ≡ Ok stops =
      subst (λ (n : ℕ). stops_from parts flight.nodes fields most n ≡ Ok stops) number
      (subst (λ (all : Fields). stops_from parts flight.nodes all most
      (length (front ++ name ∷ decimal stop.time ∷ []) + 1) ≡ Ok stops) grouped
      (stops_back stops (front ++ name ∷ decimal stop.time ∷ []) most trips.1 (omega (arith, few))))
      in
      rw (le-ltb (length fields) (length front + 1) within, is_stop, more) refl

  -- the line of a trip is read as the trip, where no line before it trips one
  pub trip_back : (trips : TripsRead) (trip : List Stop) → slice_get trips k ≡ Some None
      → IsTrip parts.day.periods flight trip
      → trip_of parts trips (trip_fields parts.places flight trip) ≡ Ok (k, trip)
  unfolding trip_of flight_in
  trip_back trips trip untold is =
      let fields = trip_fields parts.places flight trip in
      let legs = is_flight.route.each_leg in
      let some : 1 ≤ parts.day.periods = valid.day.periods_from in
      let few : length trip ≤ 32 = let short =
      few_stops parts.day.periods some flight legs trip is in
      let most = is_flight.route.nodes_to in omega (arith, short, most) in
      let known : position_of flight.name (flight_names parts.flights) ≡ Some k =
      named_at (λ (f : Flight). f.name) parts.flights k flight valid.flights.names there in
      let stops : stops_from parts flight.nodes fields 32 3 ≡ Ok trip =
      stops_back trip (codes "trip" ∷ flight.name ∷ []) 32
      (are_read_back parts.day.periods some flight legs trip is) few in
      let ended : length fields ≤ 66 =
      omega (arith, few, length_of_fields parts.places flight trip) in
      rw (
        name_back fields 2 flight.name refl is_flight.name,
        known,
        untold,
        there,
        stops,
        le-ltb 66
            (length fields) ended,
      ) refl
