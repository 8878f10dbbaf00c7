use Rattle.route_distances.proofs.ReachFacts.{one_more}
use Rattle.route_distances.proofs.reached.reached_from.Goals as goal

pub loop-node-preserved : goal.loop-node-preserved
loop-node-preserved c =
    one_more c.args.legs.now c.args.from c.loop-node.node c.loop-node.marks c.items.result.now
    c.add.new.self c.is_led_to.result c.loop-node.invariant c.items.ensures c.is_led_to.ensures
    c.in_ok-add.ensures.ok
