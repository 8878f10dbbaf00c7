use Rattle.std.proofs.Common.{◌≡◌, take}
use Rattle.flow_types.proofs.plan.Sequence+Trip.copy.Given as goal

abbrev pub invariant-loop-trip : goal.invariant-loop-trip
invariant-loop-trip l = l.plan ≡ take l.trip-index l.trip-items
