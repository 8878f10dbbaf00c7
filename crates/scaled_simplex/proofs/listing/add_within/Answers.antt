use Rattle.scaled_simplex.proofs.ListedFacts.{added_one}
use Rattle.scaled_simplex.proofs.listing.add_within.Goals as goal

pub returns-then-index-indices-clause-added : goal.returns-then-index-indices-clause-added
returns-then-index-indices-clause-added c =
    rw c.add.ensures.rows
    (added_one c.args.row c.args.index c.args.lists.now.rows
    (rw c.indices.ensures at c.if-index-indices.true))
