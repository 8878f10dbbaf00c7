use Rattle.std.proofs.Common.{◌≡◌, drop}
use Rattle.time_windows.specs.Steps.{with_entries}
use Rattle.time_windows.proofs.rows.take_entries.Given as goal

abbrev pub invariant-loop-leg : goal.invariant-loop-leg
invariant-loop-leg l = with_entries l.window (drop l.leg-index l.legs) l.entries
    ≡ with_entries l.window l.legs l.initial.entries
