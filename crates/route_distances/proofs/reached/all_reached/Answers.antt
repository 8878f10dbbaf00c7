use Rattle.exact_sums.proofs.EachFacts.{each_more}
use Rattle.route_distances.proofs.reached.all_reached.Goals as goal

pub loop-from-preserved : goal.loop-from-preserved
loop-from-preserved c =
    each_more c.loop-from.invariant c.in_ok-reached_from.ensures c.in_ok-add.ensures.ok
