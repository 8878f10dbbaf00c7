use Rattle.std.proofs.Common.{◌==◌, ◌&&◌}
use Rattle.flow_types.specs.Counts.{one_if, arrives_at}
use Rattle.plan_rules.proofs.StayFacts.{arrives_last}
use Rattle.plan_rules.proofs.GridFacts.{changes_same}
use Rattle.plan_rules.proofs.trip_counts.change_arrival.Goals as goal

pub returns-in-Some : goal.returns-in-Some
returns-in-Some c =
    let stop = c.in-Some.stop.now in
    changes_same c.args.change (λ k t. one_if ((c.place_at.result == k) && (stop.time == t)))
    (λ k t. arrives_at k t c.args.flight.now c.args.stops.now) c.args.grid.now c.change.new.self
    (λ k t k_in t_in. arrives_last c.args.stops.now stop c.in-Some.ensures.value c.place_at.result
    c.args.flight.now c.place_at.ensures k t) c.change.ensures
