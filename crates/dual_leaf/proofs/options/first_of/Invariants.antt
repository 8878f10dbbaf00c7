use Rattle.std.proofs.Common.{ℕ, ◌<◌}
use Rattle.time_windows.specs.Held.{box_of}
use Rattle.dual_leaf.specs.Options.{HasNoneIn}
use Rattle.dual_leaf.proofs.options.first_of.Given as goal

abbrev pub invariant-loop-number : goal.invariant-loop-number
invariant-loop-number l =
    (f : ℕ) → f < l.number → HasNoneIn l.fn.kind (box_of l.fn.boxes f)
