-- A flight whose windows have legs in and out.
use Rattle.std.proofs.Common.{◌≡◌, ℕ, ◌<◌, List, get_or, set, replicate, Option, Some, slice_get, refl, ◌∙◌, subst, arith}
use Rattle.std.proofs.lemmas.List.{get_or-replicate, get_or-set_other}
use Rattle.flow_types.specs.declared.flight.Flight.{Flight}
use Rattle.flow_types.specs.declared.flight.Leg.{Leg}
use Rattle.flow_types.specs.declared.parts.Parts.{Parts}
use Rattle.flow_types.specs.Valid.{IsScenario}
use Rattle.time_windows.specs.declared.access.Access.{Access}
use Rattle.time_windows.specs.Groups.{Grouped}
use Rattle.time_windows.specs.Held.{AreLegGroupsOf, access_at}
use Rattle.time_windows.specs.Narrowing.{AreLegGroupsAt, IsLoweredTo, IsRaisedTo, IsSettled, NarrowsRow}
use Rattle.time_windows.specs.Steps.{never}
use Rattle.time_windows.specs.Tight.{IsTight, IsTightRow}
use Rattle.time_windows.proofs.NarrowFacts.{narrows_for, row_then}
use Rattle.time_windows.proofs.RootFacts.{flight_in}
use Rattle.time_windows.proofs.WindowFacts.{sound_proper}

-- before the first node no entry is known but that of the first
entry_none : (size latest m : ℕ) → 0 < m → m < size
    → get_or (set (replicate size latest) 0 0) m 0 ≡ latest
entry_none size latest m pos few =
    get_or-set_other (replicate size latest) 0 m 0 0 (λ e. omega arith)
    ∙ get_or-replicate size m latest 0 few

pub raised_none : (flight : Flight) (row : ℕ → Access)
    → IsRaisedTo flight row (set (replicate 32 never) 0 0) 0
raised_none flight row = record {
  length = refl;
  first = refl;
  reached = λ m time pos few low early.
      absurd (omega (arith, entry_none 32 never m pos few, early, low));
  below = λ m time few low any. absurd (omega (arith, any.4.from));
  entered = λ n window pos below is. absurd (omega (arith, below));
}

settled_row : (flight : Flight) (number : ℕ) (old new : List Access)
    → NarrowsRow flight number old new → IsLoweredTo flight (access_at new number) 0
    → IsTightRow flight (access_at new number)
settled_row flight number old new narrows lowered = record {
  proper = λ n. sound_proper (access_at new number n).window (narrows.narrows.sound number n);
  entered = lowered.entered;
  left = λ n window below is. lowered.left n window (omega arith) below is;
}

same_flight : (found : Option Flight) (a b : Flight) → found ≡ Some a → found ≡ Some b → a ≡ b
same_flight found a b is other = cc

pub settled : (parts : Parts) (number : ℕ) (flight : Flight) (old mid new : List Access)
    → slice_get parts.flights number ≡ Some flight → NarrowsRow flight number old mid
    → NarrowsRow flight number mid new → IsLoweredTo flight (access_at new number) 0
    → IsSettled parts number old new
settled parts number flight old mid new is first second lowered =
    let both = row_then flight number old mid new first second in
    record {
      narrows = narrows_for (λ box. IsTightRow flight (box number)) (IsTight parts) old new
          (λ other tight. tight.rows number flight is) both.narrows;
      others = both.others;
      row = λ other there. subst (λ (x : Flight). IsTightRow x (access_at new number))
          (same_flight (slice_get parts.flights number) flight other is there)
          (settled_row flight number mid new second lowered);
    }

-- the groups of a flight
pub leg_groups_at : (parts : Parts) (number : ℕ) (flight : Flight) (leg_groups : Grouped Leg)
    → IsScenario parts → slice_get parts.flights number ≡ Some flight
    → AreLegGroupsOf parts leg_groups
    → AreLegGroupsAt leg_groups number flight
leg_groups_at parts number flight leg_groups valid is groups =
    let route = (flight_in parts number flight valid is).route in
    record {
      groups = λ n below. groups number n flight is below;
      some = omega (arith, route.nodes_from);
      few = route.nodes_to;
      legs = route.each_leg;
    }
