use Rattle.std.proofs.Common.{◌<◌, ℕ}
use Rattle.time_windows.specs.Boxes.{IsInWindow}
use Rattle.flight_routes.specs.Ready.{IsInSpan, row_of}
use Rattle.flight_routes.proofs.accesses.span_of.Given as goal

-- the windows so far are in the span
abbrev pub invariant-loop-node : goal.invariant-loop-node
invariant-loop-node l =
    ((n t : ℕ) → n < l.node → IsInWindow (row_of l.accesses n).window t → IsInSpan l.span t)
    × (l.span.hi < l.periods)
