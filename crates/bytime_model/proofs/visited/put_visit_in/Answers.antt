use Rattle.std.proofs.Common.{ap, ◌∙◌, sym, List, length, slice_get, refl}
use Rattle.std.proofs.lemmas.Option.{slice_get_past, slice_get_read}
use Rattle.flow_types.specs.declared.flight.Flight.{Flight}
use Rattle.flow_types.specs.Scenario.{parts_of}
use Rattle.bytime_model.proofs.VisitFacts.{none_takes, some_takes}
use Rattle.bytime_model.proofs.visited.put_visit_in.Goals as goal

pub returns-in-None : goal.returns-in-None
returns-in-None c =
    none_takes c.args.kind c.args.time (parts_of c.args.s.now).flights c.args.visit
    c.args.buffer.now
    (ap (λ (flights : List Flight). slice_get flights c.args.visit.flight) (sym c.flights.ensures)
    ∙ slice_get_past c.flights.result.now c.args.visit.flight c.in-None.ensures.lookup.3)

pub returns-in-Some : goal.returns-in-Some
returns-in-Some c =
    some_takes c.args.kind c.args.time (parts_of c.args.s.now).flights c.args.visit
    c.in-Some.flight.now c.args.buffer.now c.put_visit.new.buffer
    (ap (λ (flights : List Flight). slice_get flights c.args.visit.flight) (sym c.flights.ensures)
    ∙ slice_get_read c.flights.result.now (length c.flights.result.now) c.args.visit.flight
    c.in-Some.flight.now refl c.in-Some.ensures.lookup.3.0 c.in-Some.ensures.lookup.1)
    c.put_visit.ensures
