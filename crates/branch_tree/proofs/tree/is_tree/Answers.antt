use Rattle.std.proofs.Common.{arith}
use Rattle.branch_tree.proofs.TreeFacts.{ended, none_waits, stepped}
use Rattle.branch_tree.proofs.tree.is_tree.Goals as goal

pub returns-then-waiting-eq0 : goal.returns-then-waiting-eq0
returns-then-waiting-eq0 c =
    none_waits c.args.nodes.now c.loop-node.node-index c.loop-node.waiting c.node-item.result
    c.loop-node.invariant c.loop-node-test.true c.if-waiting-eq0.true

pub loop-node-preserved : goal.loop-node-preserved
loop-node-preserved c =
    stepped c.args.nodes.now c.loop-node.node-index c.loop-node.waiting c.node-item.result
    c.left_after-waiting.result c.loop-node.invariant c.loop-node-test.true
    (omega (arith, c.if-waiting-eq0.false))
    c.node-item.is c.left_after-waiting.ensures

pub returns : goal.returns
returns c =
    ended c.args.nodes.now c.loop-node.node-index c.loop-node.waiting c.loop-node.invariant
    c.loop-node-test.false
