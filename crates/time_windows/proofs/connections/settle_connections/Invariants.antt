use Rattle.std.proofs.Common.{◌+◌, ◌*◌, All, length}
use Rattle.flow_types.specs.Scenario.{parts_of}
use Rattle.time_windows.specs.Narrowing.{AreTightRows, AreWaiting, IsDone, Narrows, total_width}
use Rattle.time_windows.specs.Tight.{IsTight}
use Rattle.number_set.specs.Few.{count_in}
use Rattle.time_windows.proofs.connections.settle_connections.Given as goal

abbrev pub invariant-loop-flight : goal.invariant-loop-flight
invariant-loop-flight l =
    Narrows (IsTight (parts_of l.network.s.now)) l.initial.accesses l.accesses
    × AreTightRows (parts_of l.network.s.now) l.accesses
    × AreWaiting (parts_of l.network.s.now) l.waiting
    × All (IsDone (parts_of l.network.s.now) l.accesses l.waiting)
    (parts_of l.network.s.now).connections

abbrev pub decreases-loop-flight : goal.decreases-loop-flight
decreases-loop-flight l = total_width l.accesses * (length (parts_of l.network.s.now).flights + 1)
    + count_in l.waiting (length (parts_of l.network.s.now).flights)
