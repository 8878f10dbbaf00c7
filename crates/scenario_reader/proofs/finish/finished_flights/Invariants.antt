use Rattle.std.proofs.Common.{◌≡◌, drop}
use Rattle.scenario_reader.specs.Finish.{finished_flights}
use Rattle.scenario_reader.proofs.FinishFacts.{with_front}
use Rattle.scenario_reader.proofs.finish.finished_flights.Given as goal

abbrev pub invariant-loop-flight : goal.invariant-loop-flight
invariant-loop-flight l =
    with_front l.found (finished_flights (drop l.flight-index l.flights))
    ≡ finished_flights l.flights
