use Rattle.std.proofs.Common.{◌∙◌, sym, arith}
use Rattle.bytime_model.proofs.NodeFacts.{node_here, node_later, node_none}
use Rattle.bytime_model.proofs.fill.node_at.Goals as goal

pub returns-then-nodes-node : goal.returns-then-nodes-node
returns-then-nodes-node c =
    sym (c.loop-node.invariant
    ∙ node_here c.args.place c.args.nodes.now c.loop-node.node 0
    (omega (arith, c.loop-node-test.true)) c.if-nodes-node.true)

pub loop-node-preserved : goal.loop-node-preserved
loop-node-preserved c =
    c.loop-node.invariant
    ∙ node_later c.args.place c.args.nodes.now c.loop-node.node 0
    (omega (arith, c.loop-node-test.true)) c.if-nodes-node.false

pub returns : goal.returns
returns c =
    sym (c.loop-node.invariant
    ∙ node_none c.args.place c.args.nodes.now c.loop-node.node
    (omega (arith, c.loop-node-test.false)))
