use Rattle.std.proofs.Common.{ℕ, ◌<◌, ◌≤◌}
use Rattle.flow_types.specs.Limits.{most_nodes}
use Rattle.time_windows.specs.Boxes.{options_of}
use Rattle.time_windows.specs.Subproblems.{box_in}
use Rattle.tree_search.proofs.branching.first_choice.Given as goal

abbrev pub invariant-loop-flight : goal.invariant-loop-flight
invariant-loop-flight l = (f n : ℕ) → f < l.flight → n < most_nodes
    → options_of (box_in l.problem f n) ≤ 1
