use Rattle.std.proofs.Common.{◌≡◌, ◌<◌, ℕ, List, Some, slice_get}
use Rattle.flow_types.specs.declared.plan.Stop.{Stop}
use Rattle.time_windows.specs.Boxes.{IsTripInBox}
use Rattle.time_windows.specs.Held.{box_of}
use Rattle.plan_improver.proofs.inside.is_in_box.Given as goal

-- each trip so far is in the box
abbrev pub invariant-loop-flight : goal.invariant-loop-flight
invariant-loop-flight l =
    (f : ℕ) (trip : List Stop) → f < l.flight → slice_get l.plan f ≡ Some trip
    → IsTripInBox (box_of l.boxes f) trip
