use Rattle.std.proofs.Common.{length, refl}
use Rattle.std.proofs.lemmas.Option.{slice_get_read}
use Rattle.flow_types.specs.Scenario.{parts_of}
use Rattle.time_windows.proofs.SettleFacts.{settled, leg_groups_at}
use Rattle.time_windows.proofs.rows.settle.Goals as goal

pub raise_starts-requires-clause-leg_groups : goal.raise_starts-requires-clause-leg_groups
raise_starts-requires-clause-leg_groups c =
    let parts = parts_of c.args.s.now in
    let flight = c.index-flights-number.result in
    leg_groups_at parts c.args.number flight c.args.leg_groups.now c.args.s.now.valid
    (slice_get_read parts.flights (length parts.flights) c.args.number flight refl
    c.requires.flight (rw c.flights.ensures at c.index-flights-number.is)) c.requires.leg_groups

pub lower_ends-requires-clause-leg_groups : goal.lower_ends-requires-clause-leg_groups
lower_ends-requires-clause-leg_groups c =
    let parts = parts_of c.args.s.now in
    let flight = c.index-flights-number.result in
    leg_groups_at parts c.args.number flight c.args.leg_groups.now c.args.s.now.valid
    (slice_get_read parts.flights (length parts.flights) c.args.number flight refl
    c.requires.flight (rw c.flights.ensures at c.index-flights-number.is)) c.requires.leg_groups

pub returns : goal.returns
returns c =
    let parts = parts_of c.args.s.now in
    let is = rw c.flights.ensures at c.index-flights-number.is in
    settled parts c.args.number c.index-flights-number.result c.args.accesses.now
    c.raise_starts.new.accesses c.lower_ends.new.accesses
    (slice_get_read parts.flights (length parts.flights) c.args.number
    c.index-flights-number.result refl c.requires.flight is)
    c.raise_starts.ensures.narrows c.lower_ends.ensures.narrows c.lower_ends.ensures.lowered
