use Rattle.std.proofs.Common.{length, refl}
use Rattle.row_arena.proofs.ShelfSteps.{rewritten, rewritten_rows}
use Rattle.row_arena.proofs.shelf.Shelf.rewrite.Goals as goal

pub returns-clause-shelf : goal.returns-clause-shelf
returns-clause-shelf c =
    rewritten c.args.self.now c.requires.shelf c.args.row c.index-place.result.now
    c.args.entries.now c.requires.within c.index-place.ensures
    (length c.args.entries.now) refl
    (rw (c.index-place.ensures) (c.requires.room c.index-place.result.now))
    c.write.new.block c.write.ensures

pub returns-clause-rows : goal.returns-clause-rows
returns-clause-rows c =
    rewritten_rows c.args.self.now c.requires.shelf c.args.row c.index-place.result.now
    c.args.entries.now c.requires.within c.index-place.ensures
    (length c.args.entries.now) refl
    (rw (c.index-place.ensures) (c.requires.room c.index-place.result.now))
    c.write.new.block c.write.ensures
