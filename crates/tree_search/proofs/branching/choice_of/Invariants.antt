use Rattle.std.proofs.Common.{ℕ, ◌<◌, ◌≤◌}
use Rattle.time_windows.specs.Boxes.{options_of}
use Rattle.time_windows.specs.Held.{box_of}
use Rattle.tree_search.proofs.branching.choice_of.Given as goal

abbrev pub invariant-loop-at : goal.invariant-loop-at
invariant-loop-at l = (n : ℕ) → n < l.at → options_of (box_of l.boxes l.flight n) ≤ 1
