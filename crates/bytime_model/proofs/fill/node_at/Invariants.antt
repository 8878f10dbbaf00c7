use Rattle.std.proofs.Common.{◌≡◌, drop}
use Rattle.bytime_model.specs.Rows.{node_from}
use Rattle.bytime_model.proofs.fill.node_at.Given as goal

abbrev pub invariant-loop-node : goal.invariant-loop-node
invariant-loop-node l =
    node_from l.place 0 l.nodes ≡ node_from l.place l.node (drop l.node l.nodes)
