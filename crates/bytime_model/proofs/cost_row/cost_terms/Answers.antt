use Rattle.std.proofs.Common.{arith}
use Rattle.exact_sums.proofs.LoopFacts.{numbered_more}
use Rattle.bytime_model.proofs.cost_row.cost_terms.Goals as goal

pub loop-number-preserved : goal.loop-number-preserved
loop-number-preserved c =
    numbered_more c.index-flights-number.result (omega (arith, c.loop-number-test.true))
    c.index-flights-number.is c.loop-number.invariant c.in_ok-add_flight_terms.ensures
