use Rattle.std.proofs.Common.{[], ◌∷◌}
use Rattle.bytime_model.specs.declared.names.RowName.TheVariants.{Cut}
use Rattle.exact_sums.proofs.LoopFacts.{AreOfNumbers}
use Rattle.cut_rows.proofs.pool.cut_names.Given as goal

abbrev pub invariant-loop-index : goal.invariant-loop-index
invariant-loop-index l = AreOfNumbers (λ index. Cut index ∷ []) 0 l.index [] l.names
