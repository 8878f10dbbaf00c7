-- The scenario and the box of a relaxation.
use Rattle.flow_types.specs.declared.parts.Parts.{Parts}
use Rattle.time_windows.specs.Boxes.{Box}
use Rattle.time_windows.specs.Subproblems.{box_in, parts_in}
use Rattle.cut_rows.specs.declared.relaxation.Relaxation.{Relaxation}

abbrev pub parts_under : Relaxation → Parts
parts_under relaxation = parts_in relaxation.problem

abbrev pub box_under : Relaxation → Box
box_under relaxation = box_in relaxation.problem
