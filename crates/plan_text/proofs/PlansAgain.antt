-- The lines of a plan's trips are read as the plan.
use Rattle.std.specs.Prelude.{codes}
use Rattle.std.proofs.Common.{◌≡◌, ℕ, ◌+◌, List, [], ◌∷◌, ◌++◌, length, Option, Some, None, Ok, map, set, slice_get, refl, sym, ap, subst, ◌∙◌, arith, append_assoc, length-append}
use Rattle.std.specs.Fmt.{decimal}
use Rattle.std.proofs.Math.Seq.{get_or-append_seam, set-append_seam}
use Rattle.std.proofs.lemmas.List.{append-nil, length-map, map-append}
use Rattle.std.proofs.lemmas.Option.{slice_get-get_or}
use Rattle.flow_types.specs.declared.flight.Flight.{Flight}
use Rattle.flow_types.specs.declared.parts.Parts.{Parts}
use Rattle.flow_types.specs.declared.place.Place.{Place}
use Rattle.flow_types.specs.declared.plan.Stop.{Stop}
use Rattle.flow_types.specs.Feasible.{AreTrips}
use Rattle.flow_types.specs.Trips.{IsTrip, place_at}
use Rattle.flow_types.specs.Valid.{IsScenario}
use Rattle.text_records.specs.Rows.{Fields}
use Rattle.text_records.proofs.LineFacts.{ArePlain, ArePlainLines, IsPlain, line_of, more_fields, plain_decimal, plain_if_name}
use Rattle.plan_text.specs.Kinds.{kind_of}
use Rattle.plan_text.specs.Lines.{place_name, stop_text, stops_text, trip_text}
use Rattle.plan_text.specs.Plans.{none_read, record_step, records_step, trip_step, trips_of}
use Rattle.plan_text.specs.Trips.{TripsRead}
use Rattle.plan_text.specs.declared.kind.Kind.TheVariants as kind
use Rattle.plan_text.proofs.TripsAgain.{AreReadBack, are_read_back, is_flight, is_place, place_there, stop_fields, trip_back, trip_fields}

-- what stands behind a front
seam : {A : Type 0} (front : List A) (x : A) (rest : List A)
    → slice_get (front ++ x ∷ rest) (length front) ≡ Some x
seam front x rest =
    slice_get-get_or (front ++ x ∷ rest) (length front) x
    (omega (arith, length-append front (x ∷ rest)))
    ∙ ap Some (get_or-append_seam front x rest x)

-- the records of the trips
abbrev pub trip_rows : List Place → List Flight → List (List Stop) → List Fields
trip_rows places flights [] = []
trip_rows places [] (trip ∷ plan) = []
trip_rows places (flight ∷ flights) (trip ∷ plan) =
    trip_fields places flight trip ∷ trip_rows places flights plan

-- a record that says nothing of the trips
pub passed_over : (parts : Parts) (at : ℕ) (trips : TripsRead) (word : List ℕ) (fields : Fields)
    (rows : List Fields) → kind_of word ≡ Some kind.PassedOver
    → records_step parts at trips ((word ∷ fields) ∷ rows) ≡ records_step parts (at + 1) trips rows
unfolding records_step record_step
passed_over parts at trips word fields rows is = rw is refl

module _ (parts : Parts) (valid : IsScenario parts) where
  trip_read : (k : ℕ) (flight : Flight) (trips : TripsRead) (trip : List Stop)
      → slice_get parts.flights k ≡ Some flight → slice_get trips k ≡ Some None
      → IsTrip parts.day.periods flight trip
      → record_step parts trips (trip_fields parts.places flight trip)
      ≡ Ok (set trips k (Some trip))
  unfolding record_step trip_step
  trip_read k flight trips trip there unread is =
      rw (trip_back parts valid k flight there trips trip unread is) refl

  one_read : (front : List (List Stop)) (trip : List Stop) (more : TripsRead)
      → set (map Some front ++ None ∷ more) (length front) (Some trip)
      ≡ map Some (front ++ trip ∷ []) ++ more
  one_read front trip more =
      ap (λ (k : ℕ). set (map Some front ++ None ∷ more) k (Some trip))
      (sym (length-map front Some))
      ∙ set-append_seam (map Some front) None more (Some trip)
      ∙ sym (append_assoc (map Some front) (Some trip ∷ []) more)
      ∙ ap (λ (trips : TripsRead). trips ++ more) (sym (map-append Some front (trip ∷ [])))

  pub all_read : (at : ℕ) (before flights : List Flight) (front plan : List (List Stop))
      → parts.flights ≡ before ++ flights → length before ≡ length front
      → AreTrips parts.day.periods flights plan
      → records_step parts at (map Some front ++ none_read flights)
      (trip_rows parts.places flights plan) ≡ Ok (map Some (front ++ plan))
  unfolding records_step
  all_read at before [] front [] are same trips =
      ap (λ (trips : TripsRead). Ok trips)
      (append-nil (map Some front)
      ∙ sym (ap (λ (plan : List (List Stop)). map Some plan) (append-nil front)))
  all_read at before [] front (trip ∷ plan) are same trips = absurd trips
  all_read at before (flight ∷ flights) front [] are same trips = absurd trips
  all_read at before (flight ∷ flights) front (trip ∷ plan) are same trips =
      let read = map Some front ++ None ∷ none_read flights in
      let there : slice_get parts.flights (length front) ≡ Some flight =
      subst (λ (k : ℕ). slice_get parts.flights k ≡ Some flight) same
      (rw are (seam before flight flights)) in
      let unread : slice_get read (length front) ≡ Some None =
      subst (λ (k : ℕ). slice_get read k ≡ Some None) (length-map front Some)
      (seam (map Some front) None (none_read flights)) in
      let step : record_step parts read (trip_fields parts.places flight trip)
      ≡ Ok (map Some (front ++ trip ∷ []) ++ none_read flights) =
      trip_read (length front) flight read trip there unread trips.0
      ∙ ap (λ (all : TripsRead). Ok all) (one_read front trip (none_read flights)) in
      let longer : length (before ++ flight ∷ []) ≡ length (front ++ trip ∷ []) =
      omega (arith, length-append before (flight ∷ []), length-append front (trip ∷ []), same)
      in
      let rest = all_read (at + 1) (before ++ flight ∷ []) flights (front ++ trip ∷ []) plan
      (are ∙ sym (append_assoc before (flight ∷ []) flights)) longer trips.1 in
      rw step (rest ∙ ap (λ (all : List (List Stop)). Ok (map Some all))
      (append_assoc front (trip ∷ []) plan))

-- the trips that were read are the plan
pub trips_of_all : (plan : List (List Stop)) → trips_of (map Some plan) ≡ plan
trips_of_all [] = refl
trips_of_all (trip ∷ plan) = ap (λ (trips : List (List Stop)). trip ∷ trips) (trips_of_all plan)

stops_line : (places : List Place) (flight : Flight) (stops : List Stop)
    → stops_text places flight stops ≡ more_fields (stop_fields places flight stops)
stops_line places flight [] = refl
stops_line places flight (stop ∷ stops) =
    let name = place_name (slice_get places (place_at flight stop.node)) in
    ap (λ (bytes : List ℕ). stop_text places flight stop ++ bytes) (stops_line places flight stops)
    ∙ ap (λ (bytes : List ℕ). 44 ∷ bytes)
    (append_assoc name (44 ∷ decimal stop.time) (more_fields (stop_fields places flight stops)))

pub trip_is_line : (places : List Place) (flight : Flight) (trip : List Stop)
    → trip_text places flight trip ≡ line_of (trip_fields places flight trip)
trip_is_line places flight trip =
    ap (λ (stops : List ℕ). codes "trip," ++ (flight.name ++ (stops ++ codes "\n")))
    (stops_line places flight trip)
    ∙ ap (λ (bytes : List ℕ). codes "trip," ++ bytes)
    (sym (append_assoc flight.name (more_fields (stop_fields places flight trip)) (codes "\n")))

module _ (parts : Parts) (valid : IsScenario parts) where
  plain_stops : (k : ℕ) (flight : Flight) → slice_get parts.flights k ≡ Some flight
      → (stops : List Stop) → AreReadBack parts.day.periods flight stops
      → ArePlain (stop_fields parts.places flight stops)
  plain_stops k flight there [] trips = tt
  plain_stops k flight there (stop ∷ stops) trips =
      let found = place_there parts.day.periods parts.places parts.tables flight
      (is_flight parts valid k flight there) stop.node trips.0.node in
      let named : IsPlain found.0.name =
      plain_if_name found.0.name
      (is_place parts valid k flight there (place_at flight stop.node) found.0 found.1).name in
      let name : IsPlain (place_name (slice_get parts.places (place_at flight stop.node))) =
      subst (λ (place : Option Place). IsPlain (place_name place)) (sym found.1) named in
      (name, (plain_decimal stop.time, plain_stops k flight there stops trips.1))

  pub plain_trips : (before flights : List Flight) (plan : List (List Stop))
      → parts.flights ≡ before ++ flights → AreTrips parts.day.periods flights plan
      → ArePlainLines (trip_rows parts.places flights plan)
  plain_trips before [] [] are trips = tt
  plain_trips before [] (trip ∷ plan) are trips = absurd trips
  plain_trips before (flight ∷ flights) [] are trips = absurd trips
  plain_trips before (flight ∷ flights) (trip ∷ plan) are trips =
      let there : slice_get parts.flights (length before) ≡ Some flight =
      rw are (seam before flight flights) in
      let valid_flight = is_flight parts valid (length before) flight there in
      let back = are_read_back parts.day.periods valid.day.periods_from flight
      valid_flight.route.each_leg trip trips.0 in (
        (
          refl,
          (
            plain_if_name flight.name valid_flight.name,
            plain_stops
                (length before) flight there trip back,
          ),
        ),
        plain_trips (before ++ flight ∷ []) flights plan
            (are ∙ sym (append_assoc before (flight ∷ []) flights)) trips.1,
      )
