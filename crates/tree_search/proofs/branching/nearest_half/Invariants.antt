use Rattle.tree_search.specs.Seen.{IsBranchOf}
use Rattle.time_windows.specs.Subproblems.{box_in, parts_in}
use Rattle.tree_search.proofs.branching.nearest_half.Given as goal

abbrev pub invariant-loop-at : goal.invariant-loop-at
invariant-loop-at l = IsBranchOf (parts_in l.problem) (box_in l.problem) l.nearest
