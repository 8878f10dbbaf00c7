use Rattle.std.proofs.Common.{◌∙◌, ◌^◌, ℤ, Option, IfSome, None, pos, arith, slice_index_or, subst, sym}
use Rattle.std.proofs.lemmas.Int.{ints}
use Rattle.flow_types.specs.Limits.{most_periods}
use Rattle.time_windows.specs.Boxes.{IsInWindow}
use Rattle.flight_routes.specs.Entries.{cell_in}
use Rattle.flight_routes.specs.RateLists.{clear_in, paid_in, rates_of}
use Rattle.exact_sums.specs.Near.{IsNear}
use Rattle.flight_routes.specs.Ready.{row_of}
use Rattle.flight_routes.proofs.MoveFacts.{offers_by, part_all, part_at, part_clear, window_last}
use Rattle.flight_routes.proofs.fill.relax_leg.Goals as goal

pub invariant_of-passage-clause-last : goal.invariant_of-passage-clause-last
invariant_of-passage-clause-last c =
    let last = window_last c.args.ways.rates.now.span (row_of c.args.ways.accesses.now)
    c.args.leg.to
    c.in-Some.next c.args.ways.ready.windows (sym c.window_at.ensures ∙ c.in-Some.is) in
    omega (arith, last.1, c.args.ways.ready.day.few)

pub relax-requires-clause-end : goal.relax-requires-clause-end
relax-requires-clause-end c =
    let last = window_last c.args.ways.rates.now.span (row_of c.args.ways.accesses.now)
    c.args.origin.node
    c.args.origin.window c.args.ways.ready.windows c.requires.window in
    omega (arith, last.1, c.args.ways.ready.day.few)

pub relax-requires-clause-kept : goal.relax-requires-clause-kept
relax-requires-clause-kept c =
    let last = window_last c.args.ways.rates.now.span (row_of c.args.ways.accesses.now)
    c.args.leg.to
    c.in-Some.next c.args.ways.ready.windows (sym c.window_at.ensures ∙ c.in-Some.is) in
    let here = window_last c.args.ways.rates.now.span (row_of c.args.ways.accesses.now)
    c.args.origin.node
    c.args.origin.window c.args.ways.ready.windows c.requires.window in
    part_clear c.args.ways.rates.now.span (rates_of c.args.ways.rates.now) c.args.origin.node
    c.args.origin.window.lo
    c.in-Some.next.hi (clear_in c.clear_part.result.now)
    (c.args.ways.ready.clear c.args.origin.node
    (omega (arith, c.requires.leg.upward, c.requires.leg.within, c.if-leg-node.true))) here.2 last.1
    c.args.ways.ready.day.few
    (part_at c.args.ways.rates.now.clear c.args.origin.node most_periods c.clear_part.result.now
    c.clear_part.ensures.part)

pub invariant_of-passage-clause-small : goal.invariant_of-passage-clause-small
invariant_of-passage-clause-small c =
    part_all (IsNear (2 ^ 100)) c.paid_part.result.now (pos 0) c.paid_part.ensures.length
    (record { low = omega (arith, ints); high = omega (arith, ints) })
    (λ t in_day. subst (IsNear (2 ^ 100))
    (sym (part_at c.args.ways.rates.now.paid c.args.origin.node (pos 0) c.paid_part.result.now
    c.paid_part.ensures.part t in_day))
    (c.args.ways.ready.day.small.paid c.args.origin.node t))

pub invariant_of-passage-clause-costs : goal.invariant_of-passage-clause-costs
invariant_of-passage-clause-costs c = λ u from to.
    let next = c.in-Some.next in
    let is = sym c.window_at.ensures ∙ c.in-Some.is in
    let last = window_last c.args.ways.rates.now.span (row_of c.args.ways.accesses.now)
    c.args.leg.to
    next c.args.ways.ready.windows is in
    subst (λ (o : Option ℤ). IfSome o (IsNear (2 ^ 111)))
    (sym (part_at c.args.cells.now c.args.leg.to None c.part_of.result.now c.part_of.ensures.part u
    (omega (arith, to, last.1, c.args.ways.ready.day.few))))
    (c.requires.costs c.args.leg.to u
    (omega (arith, c.requires.leg.upward, c.if-leg-node.true)) c.requires.leg.within
    (subst (λ w. IsInWindow w u) (sym is) (from, to)))

pub returns-in-Some : goal.returns-in-Some
returns-in-Some c = λ t from to.
    let next = c.in-Some.next in
    let is = sym c.window_at.ensures ∙ c.in-Some.is in
    let last = window_last c.args.ways.rates.now.span (row_of c.args.ways.accesses.now)
    c.args.leg.to
    next c.args.ways.ready.windows is in
    let end = window_last c.args.ways.rates.now.span (row_of c.args.ways.accesses.now)
    c.args.origin.node
    c.args.origin.window c.args.ways.ready.windows c.requires.window in
    offers_by (row_of c.args.ways.accesses.now) (rates_of c.args.ways.rates.now) c.args.cells.now
    c.args.leg
    c.args.origin.node t (clear_in c.clear_part.result.now) (paid_in c.paid_part.result.now)
    (cell_in c.part_of.result.now)
    (part_at c.args.ways.rates.now.clear c.args.origin.node most_periods c.clear_part.result.now
    c.clear_part.ensures.part)
    (part_at c.args.ways.rates.now.paid c.args.origin.node (pos 0) c.paid_part.result.now
    c.paid_part.ensures.part)
    (part_at c.args.cells.now c.args.leg.to None c.part_of.result.now c.part_of.ensures.part)
    (omega (arith, to, end.1, c.args.ways.ready.day.few)) next is
    (omega (arith, last.1, c.args.ways.ready.day.few)) c.if-leg-node.true
    (c.requires.limit.free c.args.leg.to c.if-leg-limit.true)
    (slice_index_or c.args.row.now t None) (slice_index_or c.relax.new.row t None)
    (c.relax.ensures t from to)
