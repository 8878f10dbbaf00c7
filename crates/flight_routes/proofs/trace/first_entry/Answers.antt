use Rattle.std.proofs.Common.{◌∙◌, ◌^◌, ℤ, Option, IfSome, None, min, pos, ap, subst, sym, arith}
use Rattle.std.proofs.lemmas.Int.{ints}
use Rattle.flight_routes.specs.Entries.{cell_at, cell_in}
use Rattle.flight_routes.specs.RateLists.{paid_in, rates_of}
use Rattle.exact_sums.specs.Near.{IsNear}
use Rattle.flight_routes.proofs.FirstFacts.{first_kept}
use Rattle.flight_routes.proofs.MoveFacts.{part_all, part_at}
use Rattle.flight_routes.proofs.trace.first_entry.Goals as goal

pub first_cost-requires-clause-small : goal.first_cost-requires-clause-small
first_cost-requires-clause-small c =
    part_all (IsNear (2 ^ 100)) c.paid_part-paid.result.now (pos 0)
    c.paid_part-paid.ensures.length
    (record { low = omega (arith, ints); high = omega (arith, ints) })
    (λ t in_day. subst (IsNear (2 ^ 100))
    (sym (part_at c.args.rates.now.paid c.args.leg.from (pos 0) c.paid_part-paid.result.now
    c.paid_part-paid.ensures.part t in_day))
    (c.requires.paid c.args.leg.from t))

pub first_cost-requires-clause-costs : goal.first_cost-requires-clause-costs
first_cost-requires-clause-costs c = λ u from to.
    subst (λ (o : Option ℤ). IfSome o (IsNear (2 ^ 111)))
    (sym (part_at c.args.cells.now c.args.leg.to None c.part_of.result.now c.part_of.ensures.part u
    (omega (arith, to, c.min-last.ensures, c.requires.last))))
    (c.requires.costs u (omega (arith, from, c.max-first.ensures))
    (omega (arith, to, c.min-last.ensures)))

pub returns : goal.returns
returns c =
    first_kept (rates_of c.args.rates.now) (cell_at c.args.cells.now c.args.leg.to) c.args.next
    c.args.leg.from c.args.leg.least c.args.from c.args.value c.requires.some
    (paid_in c.paid_part-paid.result.now) (cell_in c.part_of.result.now)
    c.max-first.result c.min-last.result c.with_paid-wanted.result c.max-first.ensures
    (c.min-last.ensures ∙ ap (min c.args.next.hi) c.clear_at.ensures) c.requires.last
    c.with_paid-wanted.ensures
    (part_at c.args.rates.now.paid c.args.leg.from (pos 0) c.paid_part-paid.result.now
    c.paid_part-paid.ensures.part)
    (part_at c.args.cells.now c.args.leg.to None c.part_of.result.now c.part_of.ensures.part)
    c.first_cost.result c.first_cost.ensures
