use Rattle.plan_rules.proofs.StayFacts.{arrival_last}
use Rattle.plan_rules.proofs.trip_counts.arrival_of.Goals as goal

pub returns-in-Some : goal.returns-in-Some
returns-in-Some c = arrival_last c.args.stops.now c.in-Some.stop.now c.in-Some.ensures.value
