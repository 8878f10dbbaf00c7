use Rattle.std.proofs.Common.{◌≡◌, Some, slice_get, refl}
use Rattle.std.proofs.lemmas.Option.{slice_get_read}
use Rattle.flow_types.specs.Scenario.{parts_of}
use Rattle.plan_rules.specs.declared.grid.Change.TheVariants as change
use Rattle.plan_rules.proofs.LoadFacts.{AreLoads-change}
use Rattle.plan_rules.proofs.loads.Loads.remove.Goals as goal

pub returns-clause-trips : goal.returns-clause-trips
returns-clause-trips c =
    let parts = parts_of c.args.s.now in
    let flight = c.index-flights-flight.result in
    let here : slice_get parts.flights c.args.flight ≡ Some flight =
    slice_get_read parts.flights _ c.args.flight flight refl c.requires.flight
    (rw c.flights.ensures at c.index-flights-flight.is) in
    λ trips are held.
    AreLoads-change parts c.args.s.now.valid.flights.few trips are.each change.Less c.args.flight
    flight c.args.stops.now here held tt c.args.self.now c.change_trip.new.self are
    c.change_trip.ensures c.requires.flight
