-- The lines of trips that are left: one less after each, and none where the flights or the trips
-- are at their end.
use Rattle.std.proofs.Common.{◌≡◌, ◌⊎◌, ℕ, suc, ◌+◌, ◌<◌, ◌≤◌, List, [], ◌∷◌, ◌++◌, length, drop, get_or, slice_get, min, Option, None, Some, IfSome, refl, ap, subst, ◌∙◌, inl, inr, add-one, append_assoc, arith}
use Rattle.std.proofs.lemmas.Bool.{cases_lt}
use Rattle.std.proofs.lemmas.Option.{slice_get_cases}
use Rattle.std.proofs.Math.Seq.{drop-cons}
use Rattle.std.proofs.Math.ListN.{drop_of_length-le}
use Rattle.flow_types.specs.declared.flight.Flight.{Flight}
use Rattle.flow_types.specs.declared.place.Place.{Place}
use Rattle.flow_types.specs.declared.plan.Stop.{Stop}
use Rattle.plan_text.specs.Lines.{trip_text}
use Rattle.delay_report.specs.Texts.{trips_text}

no_flights : (places : List Place) (plan : List (List Stop)) → trips_text places [] plan ≡ []
no_flights places [] = refl
no_flights places (trip ∷ plan) = refl

module _ (places : List Place) (flights : List Flight) (plan : List (List Stop)) (at : ℕ) where
  pub none_left : min (length flights) (length plan) ≤ at
      → trips_text places (drop at flights) (drop at plan) ≡ []
  none_left past = by_cases (cases_lt at (length plan)) where
    by_cases : (at < length plan) ⊎ (length plan ≤ at)
        → trips_text places (drop at flights) (drop at plan) ≡ []
    by_cases (inr over) = ap (trips_text places (drop at flights)) (drop_of_length-le plan over)
    by_cases (inl within) =
        ap (λ fs. trips_text places fs (drop at plan)) (drop_of_length-le flights (omega arith))
        ∙ no_flights places (drop at plan)

-- One line more: what is left after it is what was left before it, without that line.
module _ (places : List Place) (flights : List Flight) (plan : List (List Stop)) (at : ℕ)
    (trip : List Stop) (out line new : List ℕ) where
  abbrev IsLine : Option Flight → Type 0
  IsLine flight = IfSome flight (λ flight. line ≡ trip_text places flight trip)

  abbrev StillWhole : Type 0
  StillWhole = new ++ trips_text places (drop (at + 1) flights) (drop (at + 1) plan) ≡ out
      ++ trips_text places (drop at flights) (drop at plan)

  one_of : (flight : Flight) → at < length flights → at < length plan
      → slice_get flights at ≡ Some flight → get_or flights at flight ≡ flight
      → trip ≡ get_or plan at trip → IsLine (slice_get flights at) → new ≡ out ++ line → StillWhole
  one_of flight less within here is_flight is_trip is_line put =
      let text : line ≡ trip_text places flight trip = subst IsLine here is_line in
      let ends : new ≡ out ++ trip_text places flight trip =
      put ∙ ap (λ (bytes : List ℕ). out ++ bytes) text in
      let first : drop at flights ≡ flight ∷ drop (suc at) flights =
      rw is_flight at (drop-cons flights at flight less) in
      let next : drop at plan ≡ trip ∷ drop (suc at) plan =
      rw (← is_trip) at (drop-cons plan at trip within) in
      rw (ends, add-one, first, next)
      (append_assoc out (trip_text places flight trip)
      (trips_text places (drop (suc at) flights) (drop (suc at) plan)))

  pub one_more : at < min (length flights) (length plan) → trip ≡ get_or plan at trip
      → IsLine (slice_get flights at) → new ≡ out ++ line → StillWhole
  one_more less is_trip is_line put = by_cases (slice_get_cases flights at).1 where
    by_cases : ((flight : Flight) × (at < length flights) × (slice_get flights at ≡ Some flight)
        × (get_or flights at flight ≡ flight))
        ⊎ ((length flights ≤ at) × (slice_get flights at ≡ None)) → StillWhole
    by_cases (inl found) = one_of found.0 found.1 (omega arith) found.2 found.3 is_trip is_line put
    by_cases (inr past) = let over = past.0 in absurd (omega arith)
