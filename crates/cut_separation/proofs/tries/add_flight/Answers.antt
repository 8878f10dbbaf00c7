use Rattle.cut_separation.specs.Exceeding.{most_cuts}
use Rattle.cut_separation.specs.Framed.{is_taken, parts_in}
use Rattle.cut_separation.specs.Whole.{node_cuts}
use Rattle.cut_separation.proofs.FirstFacts.{adds_none, adds_part}
use Rattle.cut_separation.proofs.tries.add_flight.Goals as goal

pub loop-node-init : goal.loop-node-init
loop-node-init c =
    adds_none most_cuts (is_taken c.args.frame.now) c.args.draft.now.cuts c.requires.few

pub loop-node-preserved : goal.loop-node-preserved
loop-node-preserved c =
    adds_part most_cuts (is_taken c.args.frame.now)
    (node_cuts c.args.kind (parts_in c.args.frame.now) c.args.flight) c.loop-node.node
    c.args.draft.now.cuts c.loop-node.draft.cuts c.add_node.new.draft.cuts c.loop-node.invariant
    c.in_ok-add_node.ensures
