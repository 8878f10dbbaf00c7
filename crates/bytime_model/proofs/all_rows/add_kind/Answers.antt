use Rattle.exact_sums.proofs.LoopFacts.{numbers_more}
use Rattle.bytime_model.proofs.all_rows.add_kind.Goals as goal

pub loop-position-preserved : goal.loop-position-preserved
loop-position-preserved c =
    numbers_more c.loop-position.invariant c.in_ok-add_part.ensures
