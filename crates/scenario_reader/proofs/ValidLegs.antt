-- What is known of a leg that reads.
use Rattle.std.proofs.Common.{◌≡◌, ℕ, ◌==◌, ◌<◌, false, ◌&&◌, ◌||◌, IsTrue, List, length, Option, Some, None, Ok, refl, subst}
use Rattle.std.specs.Prelude.{nat_le, slice_get}
use Rattle.std.proofs.lemmas.Bool.{leb-false}
use Rattle.flow_types.specs.Limits.{most_delay, most_legs}
use Rattle.flow_types.specs.declared.place.Place.{Place}
use Rattle.text_records.specs.Fields.{ends_after, name_in, number_in}
use Rattle.text_records.specs.Names.{position_of}
use Rattle.text_records.specs.Rows.{Fields}
use Rattle.scenario_reader.specs.DraftParts.{DraftParts, flight_names, node_total, place_names}
use Rattle.scenario_reader.specs.Legs.{adds_node, end_in, flight_at, flight_in, is_among, is_back, is_full, is_joined, is_own, leg_in, leg_of, own_at, own_in, start_in}
use Rattle.scenario_reader.specs.Validity.{IsNewLeg}
use Rattle.scenario_reader.specs.declared.flight_draft.FlightDraft.{FlightDraft}
use Rattle.scenario_reader.specs.declared.flight_draft.PlaceLeg.{PlaceLeg}
use Rattle.text_records.proofs.StepFacts.{bound, holds, ok_is, passed}
use Rattle.scenario_reader.proofs.ValidFields.{number_is}

-- the flight at a position, with room for a leg
record IsFlightAt (flights : List FlightDraft) (found : ℕ × FlightDraft) : Type 0 where
  here : slice_get flights found.0 ≡ Some found.1
  room : length found.1.legs < most_legs

found_flight : (flights : List FlightDraft) (known : Option ℕ) (found : ℕ × FlightDraft)
    → flight_at flights known ≡ Ok found → IsFlightAt flights found
found_flight flights None found e = absurd cc
found_flight flights (Some k) found e = by (slice_get flights k) refl e
  where
    by : (there : Option FlightDraft) → slice_get flights k ≡ there
        → flight_at flights (Some k) ≡ Ok found → IsFlightAt flights found
    by None here e = let none = rw here at e in absurd cc
    by (Some flight) here e =
        let few = passed (nat_le most_legs (length flight.legs)) _ found _ (rw here at e) in
        subst (IsFlightAt flights) (ok_is _ found few.1) (record {
          here = here;
          room = leb-false most_legs (length flight.legs) few.0;
        })

flight_there : (flights : List FlightDraft) (fields : Fields) (found : ℕ × FlightDraft)
    → flight_in flights fields ≡ Ok found → IsFlightAt flights found
unfolding flight_in
flight_there flights fields found e =
    let name = bound (name_in fields 2) _ found e in
    found_flight flights (position_of name.0 (flight_names flights)) found name.2

own_there : (number : ℕ) (places : List Place) (flight : FlightDraft) (known : Option ℕ) (place : ℕ)
    → own_at number places flight known ≡ Ok place → IsTrue (is_own places flight place)
own_there number places flight None place e = absurd cc
own_there number places flight (Some k) place e = holds (is_own places flight) k place _ e

own_is : (number : ℕ) (places : List Place) (flight : FlightDraft) (fields : Fields) (place : ℕ)
    → own_in number places flight fields ≡ Ok place → IsTrue (is_own places flight place)
unfolding own_in
own_is number places flight fields place e =
    let name = bound (name_in fields number) _ place e in
    own_there number places flight (position_of name.0 (place_names places)) place name.2

start_is : (places : List Place) (flight : FlightDraft) (fields : Fields) (place : ℕ)
    → start_in places flight fields ≡ Ok place
    → IsTrue (place == flight.from || is_among flight.reached place)
unfolding start_in
start_is places flight fields place e =
    let own = bound (own_in 3 places flight fields) _ place e in
    holds (λ p. p == flight.from || is_among flight.reached p) own.0 place _ own.2

-- where a leg may lead
record IsEnd (places : List Place) (total : ℕ) (flight : FlightDraft)
    (from place : ℕ) : Type 0 where
  own : IsTrue (is_own places flight place)
  once : is_joined flight.legs from place ≡ false
  onward : is_back flight from place ≡ false
  few : (adds_node flight place && is_full total flight) ≡ false

end_is : (places : List Place) (total : ℕ) (flight : FlightDraft) (from : ℕ) (fields : Fields)
    (place : ℕ) → end_in places total flight from fields ≡ Ok place
    → IsEnd places total flight from place
unfolding end_in
end_is places total flight from fields place e =
    let own = bound (own_in 4 places flight fields) _ place e in
    let once = passed (is_joined flight.legs from own.0) _ place _ own.2 in
    let onward = passed (is_back flight from own.0) _ place _ once.1 in
    let few = passed (adds_node flight own.0 && is_full total flight) _ place _ onward.1 in
    subst (IsEnd places total flight from) (ok_is _ place few.1) (record {
      own = own_is 4 places flight fields own.0 own.1;
      once = once.0;
      onward = onward.0;
      few = few.0;
    })

leg_is : (places : List Place) (total : ℕ) (flight : FlightDraft) (fields : Fields) (leg : PlaceLeg)
    → length flight.legs < most_legs → leg_of places total flight fields ≡ Ok leg
    → IsNewLeg places total flight leg
unfolding leg_of
leg_is places total flight fields leg room e =
    let from = bound (start_in places flight fields) _ leg e in
    let to = bound (end_in places total flight from.0 fields) _ leg from.2 in
    let least = bound (number_in fields 5 0 most_delay) _ leg to.2 in
    let ended = bound (ends_after fields 5) _ leg least.2 in
    let end = end_is places total flight from.0 fields to.0 to.1 in
    subst (IsNewLeg places total flight) (ok_is _ leg ended.2) (record {
      room = room;
      start = start_is places flight fields from.0 from.1;
      own = end.own;
      once = end.once;
      onward = end.onward;
      few = end.few;
      least = (number_is fields 5 0 most_delay least.0 least.1).to;
    })

-- a leg that the flight at a position may have next
pub record IsLegFound (draft : DraftParts) (found : ℕ × PlaceLeg) : Type 0 where
  pub flight : FlightDraft
  pub here : slice_get draft.flights found.0 ≡ Some flight
  pub valid : IsNewLeg draft.places (node_total draft.flights) flight found.1

pub leg_found : (draft : DraftParts) (fields : Fields) (found : ℕ × PlaceLeg)
    → leg_in draft fields ≡ Ok found → IsLegFound draft found
unfolding leg_in
leg_found draft fields found e =
    let at = bound (flight_in draft.flights fields) _ found e in
    let leg = bound (leg_of draft.places (node_total draft.flights) at.0.1 fields) _ found at.2 in
    let there = flight_there draft.flights fields at.0 at.1 in
    subst (IsLegFound draft) (ok_is _ found leg.2) (record {
      flight = at.0.1;
      here = there.here;
      valid = leg_is draft.places (node_total draft.flights) at.0.1 fields leg.0 there.room leg.1;
    })
