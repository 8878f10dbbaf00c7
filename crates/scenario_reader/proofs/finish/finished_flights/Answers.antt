use Rattle.std.proofs.lemmas.Result.{err_from_is_err_and}
use Rattle.scenario_reader.proofs.FinishFacts.{all_done, one_more, refused_at}
use Rattle.scenario_reader.proofs.finish.finished_flights.Goals as goal

pub returns-in_err-finished_flight : goal.returns-in_err-finished_flight
returns-in_err-finished_flight c =
    let exit = err_from_is_err_and c.from_residual.result c.from_residual.ensures.1 in
    rw (exit.1, exit.2)
    (refused_at _ _ _ _ _ _ c.loop-flight-test.true c.flight-item.is
    c.in_err-finished_flight.ensures c.loop-flight.invariant)

pub loop-flight-preserved : goal.loop-flight-preserved
loop-flight-preserved c =
    rw c.in_ok-add.ensures.ok
    (one_more _ _ _ _ _ _ c.loop-flight-test.true c.flight-item.is c.in_ok-finished_flight.ensures
    c.loop-flight.invariant)

pub returns : goal.returns
returns c = all_done _ _ _ _ c.loop-flight-test.false c.loop-flight.invariant
