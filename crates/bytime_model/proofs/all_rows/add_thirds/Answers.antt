use Rattle.std.proofs.Common.{[], ◌∷◌, ◌++◌, ◌∙◌, ap}
use Rattle.exact_sums.proofs.LoopFacts.{numbers_more}
use Rattle.bytime_model.proofs.all_rows.add_thirds.Goals as goal

pub loop-third-preserved : goal.loop-third-preserved
loop-third-preserved c =
    numbers_more c.loop-third.invariant (c.in_ok-add.ensures.ok
    ∙ ap (λ name. c.loop-third.names ++ name ∷ []) c.name_at.ensures)
