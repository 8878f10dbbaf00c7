use Rattle.std.proofs.Common.{◌++◌, ◌∷◌, [], ◌∙◌, ap}
use Rattle.std.specs.Int.{w128}
use Rattle.std.proofs.lemmas.Int.{to_z-of_z}
use Rattle.exact_sums.proofs.LoopFacts.{numbers_more}
use Rattle.tree_search.proofs.pooling.turned_of.Goals as goal

pub loop-column-preserved : goal.loop-column-preserved
loop-column-preserved c =
    numbers_more c.loop-column.invariant
    (c.in_ok-add.ensures.ok
    ∙ ap (λ numerator. c.loop-column.numerators ++ numerator ∷ [])
    (to_z-of_z w128 c.turned_at.result (record { sfits = c.turned_at.type_inv })
    ∙ c.turned_at.ensures))
