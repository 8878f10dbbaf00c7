use Rattle.flow_types.specs.Scenario.{parts_of}
use Rattle.time_windows.specs.Held.{box_of}
use Rattle.cut_separation.specs.Points.{AreSetTo}
use Rattle.cut_separation.proofs.values.by_position.Given as goal

-- the columns so far are set
abbrev pub invariant-loop-column : goal.invariant-loop-column
invariant-loop-column l =
    AreSetTo (parts_of l.s) l.columns (box_of l.boxes) l.point l.column l.numbers.items
