use Rattle.std.proofs.Common.{IfSome}
use Rattle.tree_search.specs.Seen.{IsBranchOf}
use Rattle.time_windows.specs.Subproblems.{box_in, parts_in}
use Rattle.tree_search.proofs.branching.next_spread.Given as goal

abbrev pub invariant-loop-flight : goal.invariant-loop-flight
invariant-loop-flight l =
    IfSome l.next (λ found. IsBranchOf (parts_in l.problem) (box_in l.problem) found.0)

abbrev pub invariant-loop-node : goal.invariant-loop-node
invariant-loop-node l =
    IfSome l.next (λ found. IsBranchOf (parts_in l.problem) (box_in l.problem) found.0)
