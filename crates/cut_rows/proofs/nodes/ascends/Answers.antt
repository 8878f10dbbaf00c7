use Rattle.std.proofs.Common.{◌+◌, ◌∙◌, ap, drop, sym, arith}
use Rattle.std.proofs.lemmas.List.{at_drop_all}
use Rattle.cut_rows.specs.Cuts.{ascends_from}
use Rattle.cut_rows.proofs.NodeFacts.{falls_here, rises_here}
use Rattle.cut_rows.proofs.nodes.ascends.Goals as goal

pub returns-then-from-low : goal.returns-then-from-low
returns-then-from-low c =
    sym (c.loop-node.invariant
    ∙ falls_here c.loop-node.low c.args.nodes.now c.loop-node.node-index (omega arith)
    (omega (arith, c.from.ensures)))

pub loop-node-preserved : goal.loop-node-preserved
loop-node-preserved c =
    c.loop-node.invariant
    ∙ rises_here c.loop-node.low c.args.nodes.now c.loop-node.node-index (omega arith)
    (omega (arith, c.from.ensures))
    ∙ ap (λ n. ascends_from (n + 1) (drop (c.loop-node.node-index + 1) c.args.nodes.now))
    (sym c.from-low.ensures)

pub returns : goal.returns
returns c =
    sym (c.loop-node.invariant
    ∙ at_drop_all (ascends_from c.loop-node.low) c.args.nodes.now c.loop-node.node-index
    (omega arith))
