use Rattle.std.proofs.Common.{◌≡◌, drop}
use Rattle.time_windows.specs.Held.{box_of}
use Rattle.bytime_model.specs.Columns.{latest_end}
use Rattle.bytime_model.proofs.columns.latest_end.Given as goal

abbrev pub invariant-loop-leg : goal.invariant-loop-leg
invariant-loop-leg l =
    latest_end (box_of l.fn.boxes l.flight) (drop l.leg-index l.legs) l.latest
    ≡ latest_end (box_of l.fn.boxes l.flight) l.legs 0
