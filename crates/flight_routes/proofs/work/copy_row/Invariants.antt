use Rattle.std.proofs.Common.{◌≡◌, ◌<◌, ℕ}
use Rattle.time_windows.specs.Boxes.{IsProper}
use Rattle.time_windows.specs.Held.{box_of}
use Rattle.flight_routes.specs.Ready.{row_of}
use Rattle.flight_routes.proofs.work.copy_row.Given as goal

abbrev pub invariant-loop-node : goal.invariant-loop-node
invariant-loop-node l =
    ((n : ℕ) → n < l.node → row_of l.accesses n ≡ box_of l.boxes l.flight n)
    × ((n : ℕ) → n < l.node → IsProper (row_of l.accesses n).window)
