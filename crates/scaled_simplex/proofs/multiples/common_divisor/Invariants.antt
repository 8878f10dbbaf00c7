use Rattle.std.proofs.Common.{ℕ}
use Rattle.scaled_simplex.specs.Multiples.{IsDivisor}
use Rattle.scaled_simplex.proofs.multiples.common_divisor.Given as goal

abbrev pub invariant-loop-y : goal.invariant-loop-y
invariant-loop-y l = (g : ℕ) → IsDivisor l.x l.y g → IsDivisor l.fn.a l.fn.b g

abbrev pub decreases-loop-y : goal.decreases-loop-y
decreases-loop-y l = l.y
