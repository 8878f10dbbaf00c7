-- What the rows of a program are made by. No public clause cites these.
use Rattle.std.specs.Prelude.{◌≡◌, List}
use Rattle.flow_types.specs.declared.parts.Parts.{Parts}
use Rattle.time_windows.specs.Boxes.{Box}
use Rattle.cut_rows.specs.declared.names.CutName.{CutName}
use Rattle.cut_rows.specs.Pools.{IsPoolOf}
use Rattle.cut_rows.specs.Relaxations.{box_under, parts_under}
use Rattle.presolve.specs.declared.frame.Frame.{Frame}
use Rattle.presolve.specs.Gathering.{IsNumberedFor}
use Rattle.presolve.specs.Relaxed.{flipped_of}

abbrev pub parts_in : Frame → Parts
parts_in frame = parts_under frame.relaxation

abbrev pub pool_in : Frame → List CutName
pool_in frame = frame.relaxation.pool.now

abbrev pub box_in : Frame → Box
box_in frame = box_under frame.relaxation

-- the numbers are those of the box's columns, the cuts are of the scenario, and the columns whose
-- variables have a negative cost are flipped
pub record IsFramed (frame : Frame) : Type 0 where
  pub numbers : IsNumberedFor (parts_in frame) frame.relaxation.problem.boxes.now frame.numbers
  pub cuts : IsPoolOf (parts_in frame) (pool_in frame)
  pub flips : frame.flips.items ≡ flipped_of (parts_in frame) (box_in frame)
