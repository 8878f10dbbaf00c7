use Rattle.std.proofs.Common.{length}
use Rattle.std.proofs.lemmas.List.{length-map}
use Rattle.scaled_simplex.specs.Links.{chain}
use Rattle.scaled_simplex.proofs.LinkFacts.{no_lists}
use Rattle.scaled_simplex.proofs.lists.RowLists.empty.Goals as goal

pub returns : goal.returns
returns c =
    let links = c.self.inside.links.items in
    let firsts = c.self.inside.firsts.items in
    let size = length-map firsts (chain links (length links)) in
    rw (← c.self.view_is)
    (no_lists (length firsts) _ c.self.inside.room c.clear.ensures.items c.put_zeros.ensures size)
