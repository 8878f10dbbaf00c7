use Rattle.std.proofs.Common.{◌≡◌, ℕ, ◌<◌, Some, slice_get}
use Rattle.flow_types.specs.declared.flight.Flight.{Flight}
use Rattle.flow_types.specs.Scenario.{parts_of}
use Rattle.time_windows.specs.Held.{access_at}
use Rattle.time_windows.specs.Narrowing.{Narrows}
use Rattle.time_windows.specs.Tight.{IsTight, IsTightRow}
use Rattle.time_windows.proofs.rows.settle_flights.Given as goal

abbrev pub invariant-loop-number : goal.invariant-loop-number
invariant-loop-number l =
    Narrows (IsTight (parts_of l.s)) l.initial.accesses l.accesses
    × ((f : ℕ) (flight : Flight) → f < l.number
    → slice_get (parts_of l.s).flights f ≡ Some flight
    → IsTightRow flight (access_at l.accesses f))
