use Rattle.std.proofs.Common.{◌∙◌, ◌^◌, ℤ, None, pos, neg_ℤ, ap, slice_index_or, sym, subst, arith}
use Rattle.std.proofs.lemmas.Int.{ints}
use Rattle.exact_sums.specs.Leasts.{raised}
use Rattle.flight_routes.specs.RateLists.{rates_of}
use Rattle.exact_sums.specs.Near.{IsNear}
use Rattle.flight_routes.specs.Ready.{row_of}
use Rattle.flight_routes.specs.Ways.{IsCell}
use Rattle.flight_routes.proofs.MoveFacts.{part_all, part_at, window_last}
use Rattle.flight_routes.proofs.WayFacts.{entered_is, entered_within}
use Rattle.flight_routes.proofs.fill.leave_row.Goals as goal

pub lower_row-requires-clause-end : goal.lower_row-requires-clause-end
lower_row-requires-clause-end c =
    let last = window_last c.args.ways.rates.now.span (row_of c.args.ways.accesses.now) c.args.node
    c.args.window c.args.ways.ready.windows c.requires.window in
    omega (arith, last.1, c.args.ways.ready.day.few)

pub lower_row-requires-clause-small : goal.lower_row-requires-clause-small
lower_row-requires-clause-small c =
    part_all (IsNear (2 ^ 100)) c.paid_part.result.now (pos 0) c.paid_part.ensures.length
    (record { low = omega (arith, ints); high = omega (arith, ints) })
    (λ t in_day. subst (IsNear (2 ^ 100))
    (sym (part_at c.args.ways.rates.now.paid c.args.node (pos 0) c.paid_part.result.now
    c.paid_part.ensures.part t in_day))
    (c.args.ways.ready.day.small.paid c.args.node t))

pub lower_row-requires-clause-costs : goal.lower_row-requires-clause-costs
lower_row-requires-clause-costs c = λ t from to.
    entered_within c.args.ways.flight.now (row_of c.args.ways.accesses.now)
    (rates_of c.args.ways.rates.now)
    c.args.ways.ready.network c.args.ways.ready.day.small c.args.node t
    (slice_index_or c.enter_row.new.row t None) (c.enter_row.ensures t from to)

pub returns : goal.returns
returns c = λ t from to.
    let last = window_last c.args.ways.rates.now.span (row_of c.args.ways.accesses.now) c.args.node
    c.args.window c.args.ways.ready.windows c.requires.window in
    let paid = part_at c.args.ways.rates.now.paid c.args.node (pos 0) c.paid_part.result.now
    c.paid_part.ensures.part t (omega (arith, to, last.1, c.args.ways.ready.day.few)) in
    subst (IsCell c.args.ways.flight.now (row_of c.args.ways.accesses.now)
    (rates_of c.args.ways.rates.now)
    c.args.node t)
    (ap (λ (p : ℤ). raised (neg_ℤ p) (slice_index_or c.enter_row.new.row t None)) (sym paid)
    ∙ sym (c.lower_row.ensures t from to))
    (entered_is c.args.ways.flight.now (row_of c.args.ways.accesses.now)
    (rates_of c.args.ways.rates.now)
    c.args.ways.ready.network c.args.node t (slice_index_or c.enter_row.new.row t None)
    (c.enter_row.ensures t from to))
