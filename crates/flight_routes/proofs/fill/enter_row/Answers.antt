use Rattle.std.proofs.Common.{◌≡◌, ◌+◌, ℕ, None, length, slice_index_or, sym, subst, arith}
use Rattle.std.proofs.lemmas.List.{get_or_default}
use Rattle.exact_sums.specs.Leasts.{IsLeast}
use Rattle.flight_routes.specs.RateLists.{rates_of}
use Rattle.flight_routes.specs.Ready.{row_of}
use Rattle.flight_routes.specs.Ways.{IsWayAmong, entered_cost, stop_at}
use Rattle.flight_routes.proofs.MoveFacts.{window_last}
use Rattle.flight_routes.proofs.WayFacts.{among_is, among_next, among_none, cells_within, leg_at}
use Rattle.flight_routes.proofs.fill.enter_row.Goals as goal

pub clear_row-requires-clause-end : goal.clear_row-requires-clause-end
clear_row-requires-clause-end c =
    let last = window_last c.args.ways.rates.now.span (row_of c.args.ways.accesses.now) c.args.node
    c.args.window c.args.ways.ready.windows c.requires.window in
    omega (arith, last.1, c.args.ways.ready.day.few)

pub relax_leg-requires-clause-leg : goal.relax_leg-requires-clause-leg
relax_leg-requires-clause-leg c =
    leg_at c.args.ways.flight.now c.args.ways.ready.network c.args.legs.now c.args.node
    c.requires.legs c.loop-at.at _ c.loop-at-test.true

pub relax_leg-requires-clause-costs : goal.relax_leg-requires-clause-costs
relax_leg-requires-clause-costs c = λ n u after inside within.
    cells_within c.args.ways.flight.now (row_of c.args.ways.accesses.now)
    (rates_of c.args.ways.rates.now)
    c.args.ways.ready.network c.args.ways.ready.day.small (c.args.node + 1) c.args.cells.now
    c.requires.cells n u (omega arith) inside within

pub loop-at-init : goal.loop-at-init
loop-at-init c = λ t from to.
    subst (IsLeast (IsWayAmong c.args.ways.flight.now c.args.legs.now 0
    (row_of c.args.ways.accesses.now)
    (rates_of c.args.ways.rates.now) (stop_at c.args.node t))
    (entered_cost (rates_of c.args.ways.rates.now) (stop_at c.args.node t)))
    (sym (c.clear_row.ensures t from to))
    (among_none c.args.ways.flight.now (row_of c.args.ways.accesses.now)
    (rates_of c.args.ways.rates.now)
    c.args.ways.ready.network c.args.legs.now c.args.node t)

pub loop-at-preserved : goal.loop-at-preserved
loop-at-preserved c = λ t from to.
    let leg = slice_index_or c.args.legs.now c.loop-at.at
    (record { from = 0; to = 0; least = 0 }) in
    among_next c.args.ways.flight.now (row_of c.args.ways.accesses.now)
    (rates_of c.args.ways.rates.now)
    c.args.ways.ready.network c.args.legs.now c.args.node t c.args.cells.now c.requires.cells leg
    (leg_at c.args.ways.flight.now c.args.ways.ready.network c.args.legs.now c.args.node
    c.requires.legs c.loop-at.at _ c.loop-at-test.true)
    c.loop-at.at c.loop-at-test.true (get_or_default c.args.legs.now c.loop-at.at _ _
    c.loop-at-test.true)
    (slice_index_or c.loop-at.row t None) (slice_index_or c.relax_leg.new.row t None)
    (c.loop-at.invariant t from to) (c.relax_leg.ensures t from to)

pub returns : goal.returns
returns c = λ t from to.
    let same : c.loop-at.at ≡ length c.args.legs.now = omega arith in
    among_is c.args.ways.flight.now (row_of c.args.ways.accesses.now)
    (rates_of c.args.ways.rates.now)
    c.args.ways.ready.network c.args.legs.now c.args.node t c.requires.legs c.requires.node
    (slice_index_or c.loop-at.row t None)
    (subst (λ (k : ℕ). IsLeast (IsWayAmong c.args.ways.flight.now c.args.legs.now k
    (row_of c.args.ways.accesses.now) (rates_of c.args.ways.rates.now) (stop_at c.args.node t))
    (entered_cost (rates_of c.args.ways.rates.now) (stop_at c.args.node t))
    (slice_index_or c.loop-at.row t None)) same (c.loop-at.invariant t from to))
