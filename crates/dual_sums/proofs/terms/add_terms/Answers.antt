use Rattle.dual_sums.specs.Growing.{choice_under}
use Rattle.dual_sums.proofs.GrowFacts.{terms_more}
use Rattle.dual_sums.proofs.terms.add_terms.Goals as goal

pub loop-term-preserved : goal.loop-term-preserved
loop-term-preserved c =
    terms_more (choice_under c.args.relaxation) c.args.count
    c.loop-term.term-index c.args.terms.now _ c.args.sums.now c.loop-term.sums c.add_term.new.sums
    c.loop-term-test.true c.loop-term.invariant c.add_term.ensures
