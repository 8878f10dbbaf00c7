use Rattle.row_arena.proofs.ShelfSteps.{negated_rows, negated_shelf}
use Rattle.row_arena.proofs.shelf.Shelf.negate.Goals as goal

pub returns-clause-shelf : goal.returns-clause-shelf
returns-clause-shelf c =
    negated_shelf c.args.self.now c.requires.shelf c.args.row c.index.result.now
    c.requires.within c.index.ensures c.negate_at.new.block c.negate_at.ensures

pub returns-clause-rows : goal.returns-clause-rows
returns-clause-rows c =
    negated_rows c.args.self.now c.requires.shelf c.args.row c.index.result.now
    c.requires.within c.index.ensures c.negate_at.new.block c.negate_at.ensures
