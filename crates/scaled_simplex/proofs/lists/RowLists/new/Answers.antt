use Rattle.std.proofs.Common.{refl}
use Rattle.scaled_simplex.proofs.LinkFacts.{no_lists}
use Rattle.scaled_simplex.proofs.lists.RowLists.new.Goals as goal

pub returns : goal.returns
returns c =
    no_lists c.args.indices c.args.indices c.args.room c.in_ok-with_capacity.ensures.items
    c.in_ok-zeros.ensures refl
