use Rattle.std.proofs.Common.{[], neg_ℤ, pos, slice_index_or}
use Rattle.exact_sums.proofs.LoopFacts.{AreOfNumbers}
use Rattle.row_arena.specs.Rows.{unless_zero}
use Rattle.scaled_simplex.proofs.first.push_costs.Given as goal

abbrev pub invariant-loop-column : goal.invariant-loop-column
invariant-loop-column l =
    AreOfNumbers
    (λ column. unless_zero column (neg_ℤ (slice_index_or l.program.costs column (pos 0)))) 0
    l.column [] l.row.items
