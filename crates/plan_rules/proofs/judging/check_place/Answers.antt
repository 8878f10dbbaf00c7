use Rattle.std.proofs.Common.{◌≡◌, ◌∙◌, true, slice_get, ap, arith}
use Rattle.flow_types.specs.declared.day.Day.{Day}
use Rattle.flow_types.specs.Capacities.{has_kind}
use Rattle.flow_types.specs.Scenario.{parts_of}
use Rattle.plan_rules.specs.FirstBroken.{broken_capacity}
use Rattle.plan_rules.specs.Loads.{load_at}
use Rattle.plan_rules.proofs.CapacityFacts.{capacity_over, place_with}
use Rattle.plan_rules.proofs.FirstFacts.{first_below-found}
use Rattle.plan_rules.proofs.judging.check_place.Goals as goal

pub returns-then-load-capacity : goal.returns-then-load-capacity
returns-then-load-capacity c =
    let parts = parts_of c.args.s.now in
    let kind = c.args.kind in
    let load = load_at c.args.loads.now kind in
    let place = c.args.place in
    let period = c.loop-period.period in
    let kinds = rw c.places.ensures at c.has_kind.ensures in
    let has : has_kind kind (slice_get parts.places place) ≡ true = cc in
    let periods = ap (λ (d : Day). d.periods) c.day-period-end.ensures in
    place_with parts kind load place has
    ∙ first_below-found parts.day.periods period
    (broken_capacity parts kind load place) c.over.result c.loop-period.invariant
    (capacity_over parts kind load place period c.load-load.result c.capacity-capacity.result
    c.over.result c.load-load.ensures c.capacity-capacity.ensures c.if-load-capacity.true
    c.over.ensures)
    (omega arith)
