use Rattle.scenario_maker.proofs.TextFacts.{more_traffic}
use Rattle.scenario_maker.proofs.traffic.put_all.Goals as goal

pub loop-k-preserved : goal.loop-k-preserved
loop-k-preserved c =
    more_traffic c.args.places.now c.args.tables.now c.args.flights.now c.args.flights.now
    c.loop-k.k c.index-flights-k.result c.loop-k.waiting.now c.in_ok-waiting.waiting.now
    c.loop-k.out.items c.put_flight.new.out.items c.put_standing.new.out.items _
    c.loop-k-test.true c.index-flights-k.is c.loop-k.invariant c.in_ok-put_flight.ensures
    c.in_ok-waiting.ensures.text c.in_ok-waiting.ensures.left
