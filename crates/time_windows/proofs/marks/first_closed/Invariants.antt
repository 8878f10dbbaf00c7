use Rattle.std.proofs.Common.{ℕ, ◌<◌, get_or}
use Rattle.time_windows.specs.Boxes.{IsClosedMust, closed}
use Rattle.time_windows.proofs.marks.first_closed.Given as goal

abbrev pub invariant-loop-index : goal.invariant-loop-index
invariant-loop-index l =
    (j : ℕ) → j < l.index → IsClosedMust (get_or l.accesses j closed) → ⊥
