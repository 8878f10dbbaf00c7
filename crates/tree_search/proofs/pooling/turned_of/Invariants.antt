use Rattle.std.proofs.Common.{[], ◌∷◌}
use Rattle.exact_sums.proofs.LoopFacts.{AreOfNumbers}
use Rattle.tree_search.specs.Pools.{turned_at}
use Rattle.tree_search.proofs.pooling.turned_of.Given as goal

abbrev pub invariant-loop-column : goal.invariant-loop-column
invariant-loop-column l =
    AreOfNumbers (λ column. turned_at l.point column ∷ []) 0 l.column [] l.numerators
