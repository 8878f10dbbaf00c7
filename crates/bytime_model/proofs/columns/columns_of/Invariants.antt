use Rattle.time_windows.specs.Held.{box_of}
use Rattle.bytime_model.specs.Columns.{AreColumnsTo}
use Rattle.bytime_model.proofs.columns.columns_of.Given as goal

abbrev pub invariant-loop-index : goal.invariant-loop-index
invariant-loop-index l =
    AreColumnsTo l.fn.s.parts.flights (box_of l.fn.boxes) l.index l.columns
