use Rattle.std.proofs.Common.{◌∷◌, List, set, vec_capacity, ap, ◌∙◌}
use Rattle.scaled_simplex.specs.declared.link.Link.{Link}
use Rattle.scaled_simplex.specs.Links.{chains}
use Rattle.scaled_simplex.proofs.LinkFacts.{begun_chains, chain_one}
use Rattle.scaled_simplex.proofs.lists.RowLists.leave.Goals as goal

pub returns-clause-rows : goal.returns-clause-rows
returns-clause-rows c =
    let links = c.self.inside.links.items in
    let firsts = c.self.inside.firsts.items in
    let link : Link = record { row = c.args.row; next = 0 } in
    rw (← c.self.view_is)
    (ap (λ (l : List Link). chains l c.begin.new.firsts.items) c.begin.ensures.links
    ∙ begun_chains links firsts c.self.inside.room (vec_capacity c.self.inside.links)
    c.args.index link c.self.invariant c.begin.new.firsts.items
    c.begin.ensures.firsts
    ∙ ap (λ l. set (chains links firsts) c.args.index (c.args.row ∷ l)) (chain_one links))
