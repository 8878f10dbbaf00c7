use Rattle.std.proofs.Common.{ℕ, List, ◌++◌, drop, map}
use Rattle.std.specs.Fmt.{decimal}
use Rattle.certificate.specs.Lines.{fields_text}
use Rattle.certificate.specs.Put.{HoldsFront}
use Rattle.certificate.proofs.text.put_nodes.Given as goal

abbrev pub invariant-loop-node : goal.invariant-loop-node
invariant-loop-node g l = (text : List ℕ) → g.O.Out.holds l.fn.out text
    → HoldsFront (g.O.Out.holds l.out) (text ++ fields_text (map decimal l.nodes))
    (fields_text (map decimal (drop l.node-index l.nodes)))
