use Rattle.std.proofs.Common.{◌≡◌}
use Rattle.plan_text.specs.Plans.{trips_of}
use Rattle.plan_text.proofs.trips_read.TripsRead.into_plan.Given as goal

-- the trips so far
abbrev pub invariant-loop-trip : goal.invariant-loop-trip
invariant-loop-trip l = l.plan ≡ trips_of l.yielded
