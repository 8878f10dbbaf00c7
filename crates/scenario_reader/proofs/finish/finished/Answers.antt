use Rattle.scenario_reader.proofs.FinishFacts.{passed_within, scenario_is}
use Rattle.scenario_reader.proofs.finish.finished.Goals as goal

pub finished_flights-requires : goal.finished_flights-requires
finished_flights-requires c =
    rw (c.items.ensures, c.flights.ensures, ← c.draft.view_is)
    (passed_within _ c.draft.invariant.parts)

pub of_valid-requires : goal.of_valid-requires
of_valid-requires c =
    rw (c.into_items.ensures, c.into_items-2.ensures)
    (scenario_is _ _ c.draft.invariant.parts
    (rw (c.items.ensures, c.flights.ensures, ← c.draft.view_is) at c.in_ok-flights.ensures))
