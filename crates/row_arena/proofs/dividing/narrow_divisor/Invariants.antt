use Rattle.std.proofs.Common.{take}
use Rattle.row_arena.proofs.DivisorFacts.{IsCommon}
use Rattle.row_arena.proofs.dividing.narrow_divisor.Given as goal

abbrev pub invariant-loop-k : goal.invariant-loop-k
invariant-loop-k l = IsCommon l.divisor (take l.k l.entries)
