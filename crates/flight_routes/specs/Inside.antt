-- The trips of a flight that are in a box.
use Rattle.std.specs.Prelude.{◌≡◌, ℕ, List, Some, slice_get}
use Rattle.flow_types.specs.declared.flight.Flight.{Flight}
use Rattle.flow_types.specs.declared.parts.Parts.{Parts}
use Rattle.flow_types.specs.declared.plan.Stop.{Stop}
use Rattle.flow_types.specs.Trips.{IsTrip}
use Rattle.time_windows.specs.Boxes.{Box, IsTripInBox}

-- a trip of the flight at the position, each stop in its window, each node visited that must be
pub record IsTripIn (parts : Parts) (box : Box) (number : ℕ) (stops : List Stop) : Type 0 where
  pub flight : Flight
  pub there : slice_get parts.flights number ≡ Some flight
  pub trip : IsTrip parts.day.periods flight stops
  pub inside : IsTripInBox (box number) stops
