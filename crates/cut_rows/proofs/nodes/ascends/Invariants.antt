use Rattle.std.proofs.Common.{◌≡◌, drop}
use Rattle.cut_rows.specs.Cuts.{ascends_from}
use Rattle.cut_rows.proofs.nodes.ascends.Given as goal

-- it goes by the nodes that are left
abbrev pub invariant-loop-node : goal.invariant-loop-node
invariant-loop-node l = ascends_from 0 l.nodes ≡ ascends_from l.low (drop l.node-index l.nodes)
