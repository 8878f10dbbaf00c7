use Rattle.row_arena.proofs.ShelfSteps.{laid}
use Rattle.row_arena.proofs.shelf.lay.Goals as goal

pub returns-clause-moving : goal.returns-clause-moving
returns-clause-moving c =
    laid c.args.shelf.now c.args.row c.args.to c.requires.moving c.index-place.result.now
    c.requires.within c.index-place.ensures c.copy.new.block c.copy.ensures
