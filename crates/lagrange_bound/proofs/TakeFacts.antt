-- Least trips that are taken flight by flight.
use Rattle.std.proofs.Common.{◌≡◌, ◌≢◌, ◌⊎◌, ℕ, zero, suc, ◌+◌, ◌<◌, List, [], ◌∷◌, length, map, set, slice_get, Some, inl, inr, refl, sym, subst, ◌∙◌, arith}
use Rattle.std.proofs.lemmas.Bool.{cases_eq}
use Rattle.std.proofs.lemmas.Option.{slice_get_within}
use Rattle.exact_sums.proofs.ItemFacts.{slice_get-set_other, slice_get-set_same}
use Rattle.flow_types.specs.declared.flight.Flight.{Flight}
use Rattle.flow_types.specs.declared.parts.Parts.{Parts}
use Rattle.flow_types.specs.declared.plan.Stop.{Stop}
use Rattle.flow_types.specs.Trips.{IsTrip}
use Rattle.flight_routes.specs.Inside.{IsTripIn}
use Rattle.flight_routes.specs.Prices.{PriceTable}
use Rattle.plan_rules.specs.Tally.{Tally}
use Rattle.plan_rules.specs.Loads.{AreLoads, IsTripAt, no_trips}
use Rattle.plan_rules.proofs.CountFacts.{AreTripsOrNone-length}
use Rattle.time_windows.specs.Boxes.{Box}
use Rattle.lagrange_bound.specs.Rounds.{AreLeastTrips, IsLeastTrip}
use Rattle.lagrange_bound.specs.Taking.{AreTaken, HaveTaken}

some_same : {A : Type 0} (a b : A) → Some a ≡ Some b → a ≡ b
some_same a b is = cc

abbrev no_stops : List Stop
no_stops = []

none_there : (flights : List Flight) (k : ℕ) → k < length flights
    → slice_get (map (λ (flight : Flight). no_stops) flights) k ≡ Some []
none_there [] k within = absurd (omega (arith, within))
none_there (flight ∷ flights) zero within = refl
none_there (flight ∷ flights) (suc k) within = none_there flights k (omega (arith, within))

module _ (parts : Parts) (box : Box) (table : PriceTable) where
  pub none_taken : (loads : Tally) → AreLoads parts (no_trips parts) loads
      → HaveTaken parts box table 0 loads
  none_taken loads counted = (
    no_trips parts,
    record {
      counted = counted;
      taken = λ k trip below. absurd (omega (arith, below));
      rest = λ k past within. none_there parts.flights k within;
    },
  )

  pub trip_of : (number : ℕ) (stops : List Stop) → IsTripIn parts box number stops
      → IsTripAt parts number stops
  trip_of number stops inside flight here =
      subst (λ (f : Flight). IsTrip parts.day.periods f stops)
      (some_same inside.flight flight (sym inside.there ∙ here)) inside.trip

  module _ (number : ℕ) (stops : List Stop) (trips : List (List Stop))
      (is : IsLeastTrip parts box table number stops) (within : number < length trips) where
    taken_by : (k : ℕ) (trip : List Stop) → k < number + 1
        → (k < number → slice_get trips k ≡ Some trip → IsLeastTrip parts box table k trip)
        → slice_get (set trips number stops) k ≡ Some trip → (k ≡ number) ⊎ (k ≢ number)
        → IsLeastTrip parts box table k trip
    taken_by k trip below before there (inl same) =
        subst (λ n. IsLeastTrip parts box table n trip) (sym same)
        (subst (IsLeastTrip parts box table number) (some_same stops trip
        (sym (slice_get-set_same trips number stops within)
        ∙ subst (λ n. slice_get (set trips number stops) n ≡ Some trip) same there)) is)
    taken_by k trip below before there (inr other) =
        before (omega (arith, below, other))
        (sym (slice_get-set_other trips number k stops other) ∙ there)

  pub one_taken : (number : ℕ) (stops : List Stop) (old new : Tally)
      → number < length parts.flights → IsLeastTrip parts box table number stops
      → ((trips : List (List Stop)) → AreLoads parts trips old
      → slice_get trips number ≡ Some [] → IsTripAt parts number stops
      → AreLoads parts (set trips number stops) new)
      → HaveTaken parts box table number old → HaveTaken parts box table (number + 1) new
  one_taken number stops old new within least adds (trips, have) =
      let empty = have.rest number (omega arith) within in
      let inside = slice_get_within trips number [] empty in (
        set trips number stops,
        record {
          counted = adds trips have.counted empty (trip_of number stops least.inside);
          taken = λ k trip below there.
              taken_by number stops trips least inside k trip below (have.taken k trip) there
              (cases_eq k number);
          rest = λ k past day.
              slice_get-set_other trips number k stops (λ same. omega (arith, same, past))
              ∙ have.rest k (omega (arith, past)) day;
        },
      )

  pub all_taken : (loads : Tally) (trips : List (List Stop))
      → AreTaken parts box table (length parts.flights) loads trips
      → AreLeastTrips parts box table trips
  all_taken loads trips have =
      let whole : length trips ≡ length parts.flights =
      AreTripsOrNone-length parts.day.periods parts.flights trips have.counted.each in
      record {
        whole = whole;
        each = λ k trip there.
            have.taken k trip (omega (arith, whole, slice_get_within trips k trip there)) there;
      }
