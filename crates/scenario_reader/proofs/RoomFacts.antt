-- There is room for the sectors of a leg that a flight may have next.
use Rattle.std.proofs.Common.{◌≡◌, ℕ, ◌+◌, ◌<◌, ◌≤◌, Bool, true, false, ◌||◌, ◌&&◌, length, List, arith}
use Rattle.std.specs.Prelude.{nat_le}
use Rattle.std.proofs.lemmas.Bool.{leb-false, or_parts}
use Rattle.flow_types.specs.declared.place.Place.{Place}
use Rattle.scenario_reader.specs.Legs.{HasRoom, adds_node, passes_new, with_leg, with_new}
use Rattle.scenario_reader.specs.Validity.{IsNetwork, IsNewLeg}
use Rattle.scenario_reader.specs.declared.flight_draft.FlightDraft.{FlightDraft}
use Rattle.scenario_reader.specs.declared.flight_draft.PlaceLeg.{PlaceLeg}
use Rattle.scenario_reader.proofs.NetworkFacts.{network_grows}
use Rattle.scenario_reader.proofs.PlaceFacts.{length_new}
use Rattle.scenario_reader.proofs.RouteFacts.{passed_few}

not_full : (adds full other : Bool) → (adds && (full || other)) ≡ false → adds ≡ true → full ≡ false
not_full adds full other none e = (or_parts full other (rw e at none)).0

room_before : (b : Bool) (places : List ℕ) (new : ℕ) → length (with_new b places new) ≤ 30
    → b ≡ true → length places < 30
room_before true places new few e = let more = length_new true places new in omega arith
room_before false places new few e = absurd cc

-- the network with the leg has at most 30 sectors, and the lists have one more where one is new
pub has_room : (places : List Place) (total : ℕ) (flight : FlightDraft) (leg : PlaceLeg)
    → IsNetwork places flight → IsNewLeg places total flight leg → HasRoom flight leg
has_room places total flight leg network new =
    let grown = network_grows places total flight leg network new in
    let few = passed_few places (with_leg flight leg) grown in
    let reached_few = grown.reached_few in
    record {
      passed = room_before (passes_new flight leg.from) flight.passed leg.from (omega arith);
      reached = λ e.
          let none = not_full (adds_node flight leg.to) (nat_le 32 (length flight.reached + 2))
          (nat_le 20000 total) new.few e in
          let least = leb-false 32 (length flight.reached + 2) none in
          omega arith;
    }
