use Rattle.std.proofs.Common.{◌≡◌, drop}
use Rattle.flow_types.specs.Bounds.{least_of, lesser}
use Rattle.tree_search.proofs.searching.least_of.Given as goal

abbrev pub invariant-loop-at : goal.invariant-loop-at
invariant-loop-at l = lesser l.least (least_of (drop l.at l.bounds)) ≡ least_of l.bounds
