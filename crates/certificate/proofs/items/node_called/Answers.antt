use Rattle.std.proofs.Common.{rules, tests, ◌≡◌, ◌∙◌, sym, position}
use Rattle.std.specs.Str.{bytes_eq}
use Rattle.std.proofs.lemmas.Iterator.{YieldsList-from_slice}
use Rattle.std.proofs.lemmas.Iterator.Search.{position_from_yields_List}
use Rattle.certificate.specs.Items.{name_at}
use Rattle.certificate.proofs.items.node_called.Goals as goal

pub returns-in_err-node : goal.returns-in_err-node
returns-in_err-node c =
    let found : c.position.result
    ≡ position (λ at. bytes_eq (name_at c.args.places.now at) c.args.name.now) c.args.nodes.now =
    position_from_yields_List (λ at. bytes_eq (name_at c.args.places.now at) c.args.name.now)
    _ _ _ c.position.ensures.ran (YieldsList-from_slice c.args.nodes.now cc)
    (λ x b q k. search (rules, tests)) in
    c.from_residual.ensures ∙ sym c.in_err-node.was ∙ found

pub returns : goal.returns
returns c =
    let found : c.position.result
    ≡ position (λ at. bytes_eq (name_at c.args.places.now at) c.args.name.now) c.args.nodes.now =
    position_from_yields_List (λ at. bytes_eq (name_at c.args.places.now at) c.args.name.now)
    _ _ _ c.position.ensures.ran (YieldsList-from_slice c.args.nodes.now cc)
    (λ x b q k. search (rules, tests)) in
    sym c.in_ok-node.was ∙ found
