use Rattle.std.proofs.Common.{◌≡◌, take}
use Rattle.plan_text.specs.Names.{flight_names}
use Rattle.plan_text.proofs.names.names_of_flights.Given as goal

-- the names so far
abbrev pub invariant-loop-flight : goal.invariant-loop-flight
invariant-loop-flight l = l.index ≡ flight_names (take l.flight-index l.fn.flights)
