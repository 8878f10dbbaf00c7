use Rattle.std.proofs.Common.{◌≡◌, ◌-◌, length, get_or, replicate, set, ap, ◌∙◌, arith}
use Rattle.flow_types.specs.Limits.{most_nodes, most_periods}
use Rattle.flight_routes.proofs.DistanceFacts.{few_first, last_zero}
use Rattle.flight_routes.proofs.WayFacts.{leg_is}
use Rattle.flight_routes.proofs.distances.distances_of.Goals as goal

pub loop-node-init : goal.loop-node-init
loop-node-init c =
    let last = length c.items.result.now - 1 in
    let few = ap length c.items.ensures in
    record {
      legs = λ leg has from.
          let is = leg_is (length c.args.flight.now.nodes) c.args.flight.now.legs leg
          c.requires.legs has in
          omega (arith, is.upward, is.within, from, few);
      last =
          let same : length c.args.flight.now.nodes - 1 ≡ last = omega (arith, few) in
          ap (λ k. get_or (set (replicate most_nodes most_periods) last 0) k 0) same
          ∙ last_zero last (omega (arith, few, c.requires.nodes_from, c.requires.nodes_to));
      few = few_first last;
    }
