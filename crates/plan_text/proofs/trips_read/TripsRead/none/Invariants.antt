use Rattle.std.proofs.Common.{◌≡◌, None, replicate}
use Rattle.plan_text.proofs.trips_read.TripsRead.none.Given as goal

-- none so far
abbrev pub invariant-loop : goal.invariant-loop
invariant-loop l = l.trips.items ≡ replicate l.counter None
