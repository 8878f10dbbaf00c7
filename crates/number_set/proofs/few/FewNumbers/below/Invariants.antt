use Rattle.std.proofs.Common.{◌<◌, ℕ, ◌↔◌}
use Rattle.number_set.specs.Few.{IsIn}
use Rattle.number_set.proofs.few.FewNumbers.below.Given as goal

abbrev pub invariant-loop-number : goal.invariant-loop-number
invariant-loop-number l = (k : ℕ) → IsIn l.numbers k ↔ k < l.number
