use Rattle.std.proofs.Common.{◌≡◌, ◌++◌, ◌∙◌, ◌<◌, ◌≤◌, length, min, ap, rules}
use Rattle.flow_types.specs.Scenario.{parts_of}
use Rattle.delay_report.proofs.TextFacts.{none_left, one_more}
use Rattle.delay_report.proofs.report.put_trips.Goals as goal

pub loop-at-preserved : goal.loop-at-preserved
loop-at-preserved c =
    let parts = parts_of c.args.s.now in
    let less : c.loop-at.at < min (length parts.flights) (length c.args.trips.now) =
    rw (c.min-at-end.ensures, c.flights.ensures) at c.loop-at-test.true in
    let put : c.put.new.text.items ≡ c.loop-at.out.items ++ c.in_ok-trip_line.field-0.items =
    c.in_ok-put.ensures ∙ ap (λ bytes. c.loop-at.out.items ++ bytes) c.deref.ensures.value in
    one_more parts.places parts.flights c.args.trips.now c.loop-at.at c.index-trips-at.result
    c.loop-at.out.items c.in_ok-trip_line.field-0.items c.put.new.text.items
    less c.index-trips-at.is (rw c.items.ensures at c.in_ok-trip_line.ensures) put
    ∙ c.loop-at.invariant

pub returns : goal.returns
returns c =
    let parts = parts_of c.args.s.now in
    let past : min (length parts.flights) (length c.args.trips.now) ≤ c.loop-at.at =
    rw (c.min-at-end.ensures, c.flights.ensures) at c.loop-at-test.false in
    let end = none_left parts.places parts.flights c.args.trips.now c.loop-at.at past in
    search (rules, end)
