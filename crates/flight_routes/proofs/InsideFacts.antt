-- A flight's trip in a plan of the box is one of its trips in the box.
use Rattle.std.proofs.Common.{◌≡◌, ℕ, ◌<◌, List, Some, length, slice_get}
use Rattle.exact_sums.proofs.ItemFacts.{item_there}
use Rattle.flow_types.specs.declared.parts.Parts.{Parts}
use Rattle.flow_types.specs.declared.plan.Stop.{Stop}
use Rattle.flow_types.specs.Feasible.{AreTrips}
use Rattle.time_windows.specs.Boxes.{Box, IsInBox}
use Rattle.time_windows.proofs.PlanFacts.{planned}
use Rattle.flight_routes.specs.Inside.{IsTripIn}

pub trip_inside : (parts : Parts) (box : Box) (plan : List (List Stop))
    → AreTrips parts.day.periods parts.flights plan → IsInBox box plan → (number : ℕ)
    → number < length parts.flights
    → (trip : List Stop) × (slice_get plan number ≡ Some trip) × IsTripIn parts box number trip
trip_inside parts box plan trips inside number within =
    let flight = item_there parts.flights number within in
    let own = planned parts.day.periods parts.flights plan number flight.0 trips flight.1 in (
      own.trip,
      own.is,
      record {
        flight = flight.0;
        there = flight.1;
        trip = own.valid;
        inside = inside number own.trip own.is;
      },
    )
