-- A trip of a flight of the day is read back from its line.
use Rattle.std.proofs.Common.{◌≡◌, ◌≢◌, ◌⊎◌, ℕ, zero, suc, ◌+◌, ◌<◌, ◌≤◌, List, [], ◌∷◌, length, Some, Ok, refl, sym, ap, ◌∙◌, inl, inr, arith, slice_get, get_or}
use Rattle.std.specs.Prelude.{AllPairs}
use Rattle.std.specs.Fmt.{decimal}
use Rattle.std.specs.Str.{bytes_eq}
use Rattle.std.proofs.lemmas.Bool.{cases_lt}
use Rattle.std.proofs.lemmas.Option.{slice_get_within, get_or_from_slice_get}
use Rattle.std.proofs.lemmas.Slice.Eq.{bytes_eq-Decides}
use Rattle.flow_types.specs.declared.flight.Flight.{Flight}
use Rattle.flow_types.specs.declared.parts.Parts.{Parts}
use Rattle.flow_types.specs.declared.place.Place.{Place}
use Rattle.flow_types.specs.declared.plan.Stop.{Stop}
use Rattle.flow_types.specs.Limits.{most_nodes}
use Rattle.flow_types.specs.Trips.{place_at}
use Rattle.flow_types.specs.Valid.{IsScenario}
use Rattle.plan_text.specs.Lines.{place_name}
use Rattle.plan_text.proofs.TripsAgain.{is_flight, place_there}
use Rattle.plan_text.proofs.ReadBack.{found_at}
use Rattle.certificate.specs.Items.{name_at, node_called, stop_from, stops_from, trip_for}
use Rattle.certificate.specs.Limits.{most_period}
use Rattle.certificate.specs.Lines.{stop_fields}
use Rattle.certificate.specs.Ranges.{AreStopsInRange, IsStopInRange}
use Rattle.certificate.specs.declared.item.CertItem.TheVariants as item
use Rattle.certificate.proofs.BackFacts.{apart_bytes, number_back}

-- places of one name are one place
place_once : (places : List Place) → AllPairs (λ a b. a.name ≢ b.name) places
    → (a b : ℕ) (p q : Place) → slice_get places a ≡ Some p → slice_get places b ≡ Some q
    → p.name ≡ q.name → a ≡ b
place_once places apart a b p q here there same = by (cases_lt a b) (cases_lt b a) where
  first : get_or places a p ≡ p
  first = get_or_from_slice_get places a p p here

  second : get_or places b p ≡ q
  second = get_or_from_slice_get places b q p there

  by : (a < b) ⊎ (b ≤ a) → (b < a) ⊎ (a ≤ b) → a ≡ b
  by (inl less) other =
      absurd (apart a b p less (slice_get_within places b q there)
      (ap (λ (x : Place). x.name) first ∙ same ∙ ap (λ (x : Place). x.name) (sym second)))
  by (inr more) (inl less) =
      absurd (apart b a p less (slice_get_within places a p here)
      (ap (λ (x : Place). x.name) second ∙ sym same ∙ ap (λ (x : Place). x.name) (sym first)))
  by (inr more) (inr less) = omega (arith, more, less)

module _ (parts : Parts) (valid : IsScenario parts) (k : ℕ) (flight : Flight)
    (there : slice_get parts.flights k ≡ Some flight) where
  -- and a flight has one node there
  node_once : (i j : ℕ) → i < length flight.nodes → j < length flight.nodes
      → name_at parts.places (place_at flight i) ≡ name_at parts.places (place_at flight j)
      → i ≡ j
  node_once i j inside within same =
      let route = (is_flight parts valid k flight there).route in
      let p = place_there parts.day.periods parts.places parts.tables flight
      (is_flight parts valid k flight there) i inside in
      let q = place_there parts.day.periods parts.places parts.tables flight
      (is_flight parts valid k flight there) j within in
      let names : p.0.name ≡ q.0.name =
      sym (ap place_name p.1) ∙ same ∙ ap place_name q.1 in
      let places : place_at flight i ≡ place_at flight j =
      place_once parts.places valid.places.names (place_at flight i) (place_at flight j) p.0 q.0
      p.1 q.1 names in
      by route.different places (cases_lt i j) (cases_lt j i)
    where
      by : AllPairs (λ a b. a ≢ b) flight.nodes → place_at flight i ≡ place_at flight j
          → (i < j) ⊎ (j ≤ i) → (j < i) ⊎ (i ≤ j) → i ≡ j
      by apart places (inl less) other = absurd (apart i j 0 less within places)
      by apart places (inr more) (inl less) = absurd (apart j i 0 less inside (sym places))
      by apart places (inr more) (inr less) = omega (arith, more, less)

  node_back : (node : ℕ) → node < length flight.nodes
      → node_called parts.places flight.nodes (name_at parts.places (place_at flight node))
      ≡ Some node
  node_back node within =
      found_at (λ at. bytes_eq (name_at parts.places at)
      (name_at parts.places (place_at flight node))) flight.nodes node 0 within
      (λ i less. apart_bytes (name_at parts.places (place_at flight i))
      (name_at parts.places (place_at flight node))
      (λ same. let e : i ≡ node = node_once i node (omega (arith, less, within)) within same in
      omega (arith, e, less)))
      ((bytes_eq-Decides (name_at parts.places (place_at flight node))
      (name_at parts.places (place_at flight node))).1 refl)

  stop_back : (stop : Stop) (number : ℕ) (rest : List (List ℕ)) → IsStopInRange flight stop
      → stop_from parts.places flight.nodes (record {
        number = number;
        fields = name_at parts.places (place_at flight stop.node) ∷ decimal stop.time ∷ rest;
      }) ≡ Ok (stop, record { number = number + 1 + 1; fields = rest })
  unfolding stop_from
  stop_back stop number rest is =
      rw (
        node_back stop.node is.node_to,
        number_back (number + 1) rest 0 most_period stop.time (omega arith) is.time_to
            (omega arith),
      )
      refl

  stops_back : (stops : List Stop) (most number : ℕ) → AreStopsInRange flight stops
      → length stops ≤ most
      → stops_from parts.places flight.nodes most (record {
        number = number;
        fields = stop_fields parts.places flight stops;
      }) ≡ Ok stops
  unfolding stops_from
  stops_back [] zero number are few = refl
  stops_back [] (suc most) number are few = refl
  stops_back (stop ∷ stops) zero number are few = absurd (omega (arith, few))
  stops_back (stop ∷ stops) (suc most) number are few =
      rw (
        stop_back stop number (stop_fields parts.places flight stops) are.0,
        stops_back stops most (number + 1 + 1) are.1 (omega (arith, few)),
      ) refl

  pub trip_back : (trip : List Stop) → AreStopsInRange flight trip → length trip ≤ most_nodes
      → trip_for parts.places flight (record {
        number = 2;
        fields = flight.name ∷ stop_fields parts.places flight trip;
      }) ≡ Ok (item.Trip trip)
  unfolding trip_for
  trip_back trip are few =
      rw ((bytes_eq-Decides flight.name flight.name).1 refl, stops_back trip 32 3 are few) refl
