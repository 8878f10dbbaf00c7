use Rattle.std.proofs.Common.{take}
use Rattle.row_arena.specs.Products.{entries_of}
use Rattle.row_arena.proofs.DivisorFacts.{IsCommon}
use Rattle.row_arena.proofs.dividing.common_divisor.Given as goal

abbrev pub invariant-loop-k : goal.invariant-loop-k
invariant-loop-k l = IsCommon l.divisor (take l.k (entries_of l.entries))
