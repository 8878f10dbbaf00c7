use Rattle.std.proofs.Common.{All}
use Rattle.tree_search.specs.Seen.{IsBranchOf}
use Rattle.time_windows.specs.Subproblems.{box_in, parts_in}
use Rattle.tree_search.proofs.branching.most_spread.Given as goal

abbrev pub invariant-loop : goal.invariant-loop
invariant-loop l = All (IsBranchOf (parts_in l.problem) (box_in l.problem)) l.found.items
