use Rattle.std.proofs.Common.{◌/◌, ◌<◌, length, refl, arith}
use Rattle.std.proofs.lemmas.Option.{slice_get_read}
use Rattle.flow_types.specs.Scenario.{parts_of}
use Rattle.time_windows.proofs.LegGroupFacts.{all_leg_groups, leg_groups_more}
use Rattle.time_windows.proofs.leg_groups.leg_groups_of.Goals as goal

pub loop-index-preserved : goal.loop-index-preserved
loop-index-preserved c =
    let flights = c.flights-flights.result.now in
    let index = c.loop-index.index in
    let flight = c.index-flights-index.result in
    let below : index / 32 < length flights = omega (arith, c.loop-index-test.true) in
    leg_groups_more flights c.loop-index.leg_groups c.add_legs.new.leg_groups c.close.new.self index
    flight
    c.loop-index.invariant
    (slice_get_read flights (length flights) (index / 32) flight refl below
    c.index-flights-index.is)
    c.in_ok-add_legs.ensures.closed c.in_ok-add_legs.ensures.added
    c.in_ok-close.ensures.closed c.in_ok-close.ensures.pending

pub returns : goal.returns
returns c =
    all_leg_groups (parts_of c.args.s.now) c.loop-index.leg_groups c.loop-index.index
    (rw c.flights-flights.ensures at c.loop-index-test.false)
    (rw c.flights-flights.ensures at c.loop-index.invariant)
