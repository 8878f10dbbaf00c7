use Rattle.exact_sums.proofs.EachFacts.{each_more}
use Rattle.cut_rows.proofs.routes.Routes.new.Goals as goal

pub loop-flight-preserved : goal.loop-flight-preserved
loop-flight-preserved c =
    each_more c.loop-flight.invariant c.in_ok-new.ensures.ways c.in_ok-add.ensures.ok
