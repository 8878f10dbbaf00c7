use Rattle.std.proofs.Common.{ℕ, ◌<◌}
use Rattle.time_windows.specs.Held.{box_of}
use Rattle.dual_leaf.specs.Options.{IsOfKind}
use Rattle.dual_leaf.proofs.options.first_in.Given as goal

abbrev pub invariant-loop-place : goal.invariant-loop-place
invariant-loop-place l =
    (n : ℕ) → n < l.place → IsOfKind l.fn.kind (box_of l.fn.boxes l.fn.flight n) → ⊥
