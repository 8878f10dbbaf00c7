use Rattle.std.proofs.Common.{◌∙◌, ◌++◌, ap, refl, arith}
use Rattle.exact_sums.proofs.LoopFacts.{numbered_more}
use Rattle.bytime_model.specs.Visits.{stands_from}
use Rattle.bytime_model.proofs.visits.all_stands.Goals as goal

pub loop-number-preserved : goal.loop-number-preserved
loop-number-preserved c =
    numbered_more c.index-flights-number.result (omega (arith, c.loop-number-test.true))
    refl c.loop-number.invariant (c.in_ok-add_stands.ensures
    ∙ ap (λ nodes. c.loop-number.stands ++ stands_from c.loop-number.number 0 nodes)
    c.items.ensures)
