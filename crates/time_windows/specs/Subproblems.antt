-- The scenario and the box of a subproblem, as the clauses of all crates above cite them.
use Rattle.flow_types.specs.declared.parts.Parts.{Parts}
use Rattle.flow_types.specs.Scenario.{parts_of}
use Rattle.time_windows.specs.Boxes.{Box}
use Rattle.time_windows.specs.Held.{box_of}
use Rattle.time_windows.specs.declared.subproblem.Subproblem.{Subproblem}

abbrev pub parts_in : Subproblem → Parts
parts_in problem = parts_of problem.s.now

abbrev pub box_in : Subproblem → Box
box_in problem = box_of problem.boxes.now
