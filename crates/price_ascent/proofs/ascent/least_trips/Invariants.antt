use Rattle.flight_routes.specs.Work.{IsWorkFor}
use Rattle.time_windows.specs.Subproblems.{parts_in}
use Rattle.price_ascent.proofs.ascent.least_trips.Given as goal

abbrev pub invariant-loop-number : goal.invariant-loop-number
invariant-loop-number l = IsWorkFor (parts_in l.problem) l.work
