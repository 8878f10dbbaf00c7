use Rattle.std.proofs.Common.{◌≡◌, ◌+◌, ◌^◌, ℕ, Option, ℤ, IfSome, IsSome, length, slice_index_or, sym, subst, arith}
use Rattle.std.proofs.lemmas.List.{get_or_default}
use Rattle.flow_types.specs.declared.plan.Stop.{Stop}
use Rattle.flight_routes.specs.Firsts.{IsFirst, IsFirstAt, IsNext, IsNextAmong}
use Rattle.flight_routes.specs.RateLists.{rates_of}
use Rattle.exact_sums.specs.Near.{IsNear}
use Rattle.flight_routes.specs.Ready.{row_of}
use Rattle.flight_routes.specs.Ways.{HasLegsFrom, IsCell}
use Rattle.flight_routes.proofs.CellFacts.{all_legs}
use Rattle.flight_routes.proofs.FirstFacts.{first_more, first_of_all, not_none}
use Rattle.flight_routes.proofs.WayFacts.{cells_within}
use Rattle.flight_routes.proofs.trace.next_stop.Goals as goal

pub first_by-requires-clause-costs : goal.first_by-requires-clause-costs
first_by-requires-clause-costs c = λ n u inside within.
    cells_within c.args.ways.flight.now (row_of c.args.ways.accesses.now)
    (rates_of c.args.ways.rates.now)
    c.args.ways.ready.network c.args.ways.ready.day.small 0 c.args.cells.now c.requires.cells n u
    (omega arith) inside within

pub first_by-requires-clause-value : goal.first_by-requires-clause-value
first_by-requires-clause-value c =
    subst (λ (o : Option ℤ). IfSome o (IsNear (2 ^ 111))) (sym c.cell_at-value.ensures)
    (cells_within c.args.ways.flight.now (row_of c.args.ways.accesses.now)
    (rates_of c.args.ways.rates.now)
    c.args.ways.ready.network c.args.ways.ready.day.small 0 c.args.cells.now c.requires.cells
    c.args.stop.node c.args.stop.time (omega arith) (omega (arith, c.requires.node))
    c.requires.window)

pub loop-at-preserved : goal.loop-at-preserved
loop-at-preserved c =
    let legs = c.items-legs.result.now in
    let row = row_of c.args.ways.accesses.now in
    let rates = rates_of c.args.ways.rates.now in
    let value = c.cell_at-value.result in
    let leg = slice_index_or legs c.loop-at.at (record { from = 0; to = 0; least = 0 }) in
    subst
    (IsFirst (IsNextAmong legs (c.loop-at.at + 1) row rates c.args.cells.now c.args.stop value))
    (sym c.earlier-first.ensures)
    (first_more legs row rates c.args.cells.now c.args.stop value leg c.loop-at.at
    c.loop-at-test.true (get_or_default legs c.loop-at.at _ _ c.loop-at-test.true)
    c.loop-at.first c.first_by.result c.loop-at.invariant c.first_by.ensures)

pub unreachable-requires : goal.unreachable-requires
unreachable-requires c =
    let flight = c.args.ways.flight.now in
    let row = row_of c.args.ways.accesses.now in
    let rates = rates_of c.args.ways.rates.now in
    let legs = c.items-legs.result.now in
    let value = c.cell_at-value.result in
    let stop = c.args.stop in
    let same : c.loop-at.at ≡ length legs = omega arith in
    let none = subst (λ (o : Option Stop). IsFirst
    (IsNextAmong legs c.loop-at.at row rates c.args.cells.now stop value) o) c.in-None.is
    c.loop-at.invariant in
    not_none flight row rates c.args.ways.rates.now.span c.args.ways.ready c.args.cells.now
    c.requires.cells legs stop value
    (subst (HasLegsFrom stop.node flight.legs) (sym c.items-legs.ensures)
    (all_legs stop.node flight.legs))
    c.requires.node
    (subst (IsCell flight row rates stop.node stop.time) (sym c.cell_at-value.ensures)
    (c.requires.cells.each stop.node stop.time (omega arith) (omega (arith, c.requires.node))
    c.requires.window))
    (subst (λ (o : Option ℤ). IsSome o) (sym c.cell_at-value.ensures) c.requires.reaches)
    (subst (λ (n : ℕ). (next : Stop)
    → IsNextAmong legs n row rates c.args.cells.now stop value next → ⊥) same none)

pub returns : goal.returns
returns c =
    let flight = c.args.ways.flight.now in
    let row = row_of c.args.ways.accesses.now in
    let rates = rates_of c.args.ways.rates.now in
    let legs = c.items-legs.result.now in
    let stop = c.args.stop in
    let same : c.loop-at.at ≡ length legs = omega arith in
    let found = subst (λ (o : Option Stop). IsFirst
    (IsNextAmong legs c.loop-at.at row rates c.args.cells.now stop c.cell_at-value.result) o)
    c.in-Some.is c.loop-at.invariant in
    subst (λ (o : Option ℤ). IsFirstAt (IsNext flight row rates c.args.cells.now stop o)
    c.in-Some.next) c.cell_at-value.ensures
    (first_of_all flight row rates c.args.ways.rates.now.span c.args.ways.ready c.args.cells.now
    c.requires.cells legs stop c.in-Some.next c.cell_at-value.result
    (subst (HasLegsFrom stop.node flight.legs) (sym c.items-legs.ensures)
    (all_legs stop.node flight.legs))
    (subst (λ (n : ℕ). IsFirstAt (IsNextAmong legs n row rates c.args.cells.now stop
    c.cell_at-value.result) c.in-Some.next) same found))
