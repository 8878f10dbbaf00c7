use Rattle.std.proofs.Common.{length, subst}
use Rattle.route_distances.specs.Ways.{AreAllReached, AreShortest}
use Rattle.route_distances.proofs.WayFacts.{ways_kept}
use Rattle.route_distances.proofs.distances.distances_along.Goals as goal

pub returns : goal.returns
returns c =
    let flight = c.args.flight.now in
    let times = c.in_ok-shortest_times.field-0 in
    let reached = c.in_ok-all_reached.field-0 in
    ways_kept (length flight.nodes) flight.legs c.requires.legs times reached
    (subst (λ nodes. AreShortest flight.legs (length nodes) times) c.items.ensures
    (subst (λ legs. AreShortest legs (length c.items.result.now) times) c.items-legs.ensures
    c.in_ok-shortest_times.ensures))
    (subst (λ nodes. AreAllReached flight.legs (length nodes) (length nodes) reached)
    c.items.ensures
    (subst (λ legs. AreAllReached legs (length c.items.result.now) (length c.items.result.now)
    reached) c.items-legs.ensures c.in_ok-all_reached.ensures))
