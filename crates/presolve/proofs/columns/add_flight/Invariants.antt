use Rattle.time_windows.specs.Subproblems.{box_in, parts_in}
use Rattle.exact_sums.proofs.LoopFacts.{AreOfNumbers}
use Rattle.presolve.specs.Variables.{node_columns}
use Rattle.presolve.proofs.columns.add_flight.Given as goal

abbrev pub invariant-loop-node : goal.invariant-loop-node
invariant-loop-node l =
    AreOfNumbers (node_columns (parts_in l.problem) (box_in l.problem) l.flight) 0 l.node
    l.initial.columns l.columns
