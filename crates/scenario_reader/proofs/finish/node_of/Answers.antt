use Rattle.std.proofs.Common.{rules, tests, ◌≡◌, ◌==◌, ◌∙◌, sym, position}
use Rattle.std.proofs.lemmas.Iterator.{YieldsList-from_slice}
use Rattle.std.proofs.lemmas.Iterator.Search.{position_from_yields_List}
use Rattle.scenario_reader.proofs.FinishFacts.{node_found, node_missing}
use Rattle.scenario_reader.proofs.finish.node_of.Goals as goal

pub returns-in-Some : goal.returns-in-Some
returns-in-Some c =
    let found : c.position.result ≡ position (λ node. node == c.args.place) c.args.nodes.now =
    position_from_yields_List (λ node. node == c.args.place) _ _ _ c.position.ensures.ran
    (YieldsList-from_slice c.args.nodes.now cc) (λ x b q k. search (rules, tests)) in
    node_found c.args.nodes.now c.args.place c.in-Some.node (sym found ∙ c.in-Some.is)

pub returns-in-None : goal.returns-in-None
returns-in-None c =
    let found : c.position.result ≡ position (λ node. node == c.args.place) c.args.nodes.now =
    position_from_yields_List (λ node. node == c.args.place) _ _ _ c.position.ensures.ran
    (YieldsList-from_slice c.args.nodes.now cc) (λ x b q k. search (rules, tests)) in
    node_missing c.args.nodes.now c.args.place (sym found ∙ c.in-None.is)
