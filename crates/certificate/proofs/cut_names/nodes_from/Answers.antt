use Rattle.std.proofs.Common.{◌≡◌, ◌++◌, ◌∷◌, [], ◌∙◌, sym, rules}
use Rattle.std.proofs.lemmas.Result.{err_from_is_err_and}
use Rattle.certificate.proofs.ItemFacts.{bad_node, last_node, no_nodes, one_node}
use Rattle.certificate.proofs.cut_names.nodes_from.Goals as goal

pub nodes-init : goal.nodes-init
nodes-init c = rw c.empty-nodes.ensures (no_nodes _)

pub nodes-preserved : goal.nodes-preserved
nodes-preserved c =
    let more : c.add.new.self ≡ c.nodes.nodes ++ c.in_ok-number.field-0 ∷ [] = search rules in
    rw more (sym (one_node c.nodes.nodes c.nodes.left c.nodes.fields c.number.new.self
    c.in_ok-number.field-0 (sym c.has_more.ensures ∙ c.nodes-test.true)
    c.in_ok-number.ensures.found) ∙ c.nodes.invariant)

pub returns-in_err-number : goal.returns-in_err-number
returns-in_err-number c =
    let exit = err_from_is_err_and c.from_residual.result c.from_residual.ensures.1 in
    rw (exit.1, exit.2) (sym c.nodes.invariant
    ∙ bad_node c.nodes.nodes c.nodes.left c.nodes.fields _
    (sym c.has_more.ensures ∙ c.nodes-test.true) c.in_err-number.ensures.found)

pub returns : goal.returns
returns c =
    sym c.nodes.invariant
    ∙ last_node c.nodes.nodes c.nodes.left c.nodes.fields
    (sym c.has_more.ensures ∙ c.nodes-test.false)
