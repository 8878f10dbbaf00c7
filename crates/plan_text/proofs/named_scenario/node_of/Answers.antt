use Rattle.std.proofs.Common.{rules, tests, ◌≡◌, ◌==◌, ◌∙◌, sym, position}
use Rattle.std.proofs.lemmas.Iterator.{YieldsList-from_slice}
use Rattle.std.proofs.lemmas.Iterator.Search.{position_from_yields_List}
use Rattle.plan_text.proofs.named_scenario.node_of.Goals as goal

pub returns-in-Some : goal.returns-in-Some
returns-in-Some c =
    let found : c.position.result ≡ position (λ node. node == c.args.place) c.args.nodes.now =
    position_from_yields_List (λ node. node == c.args.place) _ _ _ c.position.ensures.ran
    (YieldsList-from_slice c.args.nodes.now cc) (λ x b q k. search (rules, tests)) in
    sym c.in-Some.is ∙ found

pub returns-in-None : goal.returns-in-None
returns-in-None c =
    let found : c.position.result ≡ position (λ node. node == c.args.place) c.args.nodes.now =
    position_from_yields_List (λ node. node == c.args.place) _ _ _ c.position.ensures.ran
    (YieldsList-from_slice c.args.nodes.now cc) (λ x b q k. search (rules, tests)) in
    sym c.in-None.is ∙ found
