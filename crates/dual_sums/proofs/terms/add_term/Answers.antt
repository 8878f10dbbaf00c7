use Rattle.std.proofs.Common.{◌^◌, ◌*ℤ◌, pos, unsigned_abs, subst, arith}
use Rattle.dual_sums.specs.Growing.{Grows, choice_under}
use Rattle.dual_sums.proofs.GrowFacts.{term_grows}
use Rattle.dual_sums.proofs.SumsFacts.{whole_small}
use Rattle.dual_sums.proofs.terms.add_term.Goals as goal

pub returns : goal.returns
returns c =
    let small = c.times-more.ensures.small in
    term_grows (choice_under c.args.relaxation) (2 ^ 62)
    c.args.count c.args.term c.times-more.result c.args.sums.now c.add_variable.new.sums
    c.times-more.ensures.product small
    (subst (λ m. Grows (choice_under c.args.relaxation)
    (λ value. m *ℤ pos (value c.args.term.variable)) (unsigned_abs m) c.args.sums.now
    c.add_variable.new.sums) (whole_small c.times-more.result (omega (arith, small)))
    c.add_variable.ensures)
