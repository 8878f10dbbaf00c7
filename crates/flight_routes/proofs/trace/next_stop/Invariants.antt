use Rattle.flight_routes.specs.Firsts.{IsFirst, IsNextAmong}
use Rattle.flight_routes.specs.RateLists.{rates_of}
use Rattle.flight_routes.specs.Ready.{row_of}
use Rattle.flight_routes.proofs.trace.next_stop.Given as goal

-- the first stop to go on to by the legs so far
abbrev pub invariant-loop-at : goal.invariant-loop-at
invariant-loop-at l =
    IsFirst (IsNextAmong l.legs l.at (row_of l.ways.accesses.now) (rates_of l.ways.rates.now)
    l.cells l.stop l.value)
    l.first
