-- Flights in their list, one of which has a leg more.
use Rattle.std.proofs.Common.{◌≡◌, ℕ, zero, suc, ◌<◌, List, [], ◌∷◌, length, get_or, set, refl, ap, arith, ◌∙◌}
use Rattle.std.proofs.Math.Seq.{map-set_same}
use Rattle.scenario_reader.specs.Legs.{with_leg, with_leg_at}
use Rattle.scenario_reader.specs.DraftParts.{flight_names}
use Rattle.scenario_reader.specs.declared.flight_draft.FlightDraft.{FlightDraft}
use Rattle.scenario_reader.specs.declared.flight_draft.PlaceLeg.{PlaceLeg}

pub set-with_leg : (flights : List FlightDraft) (k : ℕ) (leg : PlaceLeg) (flight new : FlightDraft)
    → k < length flights
    → flight ≡ get_or flights k flight → new ≡ with_leg flight leg
    → set flights k new ≡ with_leg_at flights k leg
set-with_leg [] k leg flight new within here is = absurd (omega arith)
set-with_leg (first ∷ flights) zero leg flight new within here is = rw (is, here) refl
set-with_leg (first ∷ flights) (suc k) leg flight new within here is =
    ap (λ (rest : List FlightDraft). first ∷ rest)
    (set-with_leg flights k leg flight new (omega arith) here is)

pub names-set : (flights : List FlightDraft) (k : ℕ) (flight new : FlightDraft)
    → flight ≡ get_or flights k flight
    → new.name ≡ flight.name → flight_names (set flights k new) ≡ flight_names flights
names-set flights k flight new here same =
    map-set_same (λ (f : FlightDraft). f.name) flights k new flight
    (same ∙ ap (λ (f : FlightDraft). f.name) here)
