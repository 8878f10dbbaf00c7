use Rattle.exact_sums.proofs.LoopFacts.{numbers_more}
use Rattle.bytime_model.proofs.all_rows.add_part.Goals as goal

pub loop-second-preserved : goal.loop-second-preserved
loop-second-preserved c =
    numbers_more c.loop-second.invariant c.in_ok-add_thirds.ensures
