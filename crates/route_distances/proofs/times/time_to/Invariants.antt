use Rattle.std.proofs.Common.{◌≡◌, slice_index, take}
use Rattle.route_distances.specs.Walks.{least_into}
use Rattle.route_distances.proofs.times.time_to.Given as goal

-- the least over the legs so far
abbrev pub invariant-loop-leg : goal.invariant-loop-leg
invariant-loop-leg l =
    l.least ≡ least_into (slice_index l.times) l.node (take l.leg-index l.legs)
