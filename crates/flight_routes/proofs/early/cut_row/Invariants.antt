use Rattle.std.proofs.Common.{◌≡◌, ◌<◌, ℕ}
use Rattle.flight_routes.specs.Early.{ahead_in, cut_at}
use Rattle.flight_routes.specs.Ready.{row_of}
use Rattle.flight_routes.proofs.early.cut_row.Given as goal

-- the nodes so far
abbrev pub invariant-loop-node : goal.invariant-loop-node
invariant-loop-node l =
    (n : ℕ) → n < l.node
    → row_of l.cut n ≡ cut_at l.cap (ahead_in l.distances n) (row_of l.accesses n)
