use Rattle.std.proofs.Common.{◌≡◌}
use Rattle.certificate.specs.Cuts.{nodes_from}
use Rattle.certificate.proofs.ItemFacts.{with_nodes}
use Rattle.certificate.proofs.cut_names.nodes_from.Given as goal

-- the nodes so far and those that are left are all
abbrev pub invariant-nodes : goal.invariant-nodes
invariant-nodes l = with_nodes l.nodes (nodes_from l.left l.fields)
    ≡ nodes_from l.fn.most l.fn.fields

abbrev pub decreases-nodes : goal.decreases-nodes
decreases-nodes l = l.left
