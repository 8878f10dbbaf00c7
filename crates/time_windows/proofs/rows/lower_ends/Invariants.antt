use Rattle.time_windows.specs.Held.{access_at}
use Rattle.time_windows.specs.Narrowing.{IsLoweredTo, NarrowsRow}
use Rattle.time_windows.proofs.rows.lower_ends.Given as goal

abbrev pub invariant-loop-node : goal.invariant-loop-node
invariant-loop-node l =
    NarrowsRow l.flight l.number l.initial.accesses l.accesses
    × IsLoweredTo l.flight (access_at l.accesses l.number) l.node
