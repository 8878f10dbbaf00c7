use Rattle.time_windows.specs.Held.{access_at}
use Rattle.time_windows.specs.Narrowing.{IsRaisedTo, NarrowsRow}
use Rattle.time_windows.proofs.rows.raise_starts.Given as goal

abbrev pub invariant-loop-node : goal.invariant-loop-node
invariant-loop-node l =
    NarrowsRow l.flight l.number l.initial.accesses l.accesses
    × IsRaisedTo l.flight (access_at l.accesses l.number) l.entries l.node
