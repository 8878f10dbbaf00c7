use Rattle.std.proofs.Common.{ℕ, List, ◌++◌, drop}
use Rattle.certificate.specs.Put.{HoldsFront}
use Rattle.certificate.specs.Texts.{tree_text}
use Rattle.certificate.proofs.text.put_tree.Given as goal

abbrev pub invariant-loop-node : goal.invariant-loop-node
invariant-loop-node g l = (text : List ℕ) → g.O.Out.holds l.fn.out text
    → HoldsFront (g.O.Out.holds l.out) (text ++ tree_text l.nodes)
    (tree_text (drop l.node-index l.nodes))
