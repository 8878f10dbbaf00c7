use Rattle.std.proofs.Common.{◌*◌, ◌+ℤ◌, ◌*ℤ◌, ◌^◌, ◌∙◌, ap, length, pos, unsigned_abs, subst, arith}
use Rattle.bytime_model.specs.Values.{form_value}
use Rattle.dual_sums.specs.Growing.{Grows, choice_under}
use Rattle.dual_sums.specs.Sums.{sum_at}
use Rattle.dual_sums.proofs.RowGrowFacts.{row_grows}
use Rattle.dual_sums.proofs.SumsFacts.{whole_small}
use Rattle.dual_sums.proofs.rows.add_row.Goals as goal

pub returns : goal.returns
returns c =
    let small = c.charge.ensures.small in
    let whole = whole_small c.charge.result (omega (arith, small)) in
    row_grows (choice_under c.args.relaxation) c.args.count
    c.args.row.now c.charge.result c.args.sums.now c.add_terms.new.sums c.land.new.self
    c.requires.few
    (subst (λ terms. Grows (choice_under c.args.relaxation)
    (λ value. pos c.args.count *ℤ form_value value terms) (length terms * 2 ^ 62) c.args.sums.now
    c.add_terms.new.sums) c.terms.ensures c.add_terms.ensures) c.charge.ensures.charge small
    (λ bit. c.land.ensures.sum bit
    ∙ ap (λ more. sum_at bit c.add_terms.new.sums +ℤ more *ℤ pos 1) whole)
    (let le = c.land.ensures.mass in let same = ap unsigned_abs whole in omega (arith, le, same))
    c.land.ensures.same
