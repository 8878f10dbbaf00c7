use Rattle.row_arena.proofs.ShelfSteps.{row_is_read}
use Rattle.row_arena.proofs.shelf.Shelf.row.Goals as goal

pub returns : goal.returns
returns c =
    row_is_read c.args.self.now c.args.row c.index-place.result.now c.run.result.now
    c.requires.within c.index-place.ensures c.run.ensures
