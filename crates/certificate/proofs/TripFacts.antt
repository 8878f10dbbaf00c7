-- The lines of trips that are left.
use Rattle.std.proofs.Common.{◌≡◌, ◌⊎◌, ℕ, ◌<◌, ◌≤◌, List, [], ◌∷◌, length, drop, min, refl, ap, ◌∙◌, inl, inr, arith}
use Rattle.std.proofs.lemmas.Bool.{cases_lt}
use Rattle.std.proofs.Math.ListN.{drop_of_length-le}
use Rattle.flow_types.specs.declared.flight.Flight.{Flight}
use Rattle.flow_types.specs.declared.place.Place.{Place}
use Rattle.flow_types.specs.declared.plan.Stop.{Stop}
use Rattle.certificate.specs.Texts.{trips_text}

no_flights : (places : List Place) (plan : List (List Stop)) → trips_text places [] plan ≡ []
no_flights places [] = refl
no_flights places (trip ∷ plan) = refl

-- none where the flights or the trips are at their end
pub none_left : (places : List Place) (flights : List Flight) (plan : List (List Stop)) (at : ℕ)
    → min (length flights) (length plan) ≤ at
    → trips_text places (drop at flights) (drop at plan) ≡ []
none_left places flights plan at past = by_cases (cases_lt at (length plan)) where
  by_cases : (at < length plan) ⊎ (length plan ≤ at)
      → trips_text places (drop at flights) (drop at plan) ≡ []
  by_cases (inr over) =
      ap (trips_text places (drop at flights)) (drop_of_length-le plan {i = at} over)
  by_cases (inl within) =
      ap (λ fs. trips_text places fs (drop at plan))
      (drop_of_length-le flights {i = at} (omega arith))
      ∙ no_flights places (drop at plan)
