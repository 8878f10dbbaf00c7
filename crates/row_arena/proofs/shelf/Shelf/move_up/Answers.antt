use Rattle.std.proofs.Common.{arith, get_or, length, refl}
use Rattle.std.proofs.lemmas.List.{get_or_default}
use Rattle.row_arena.specs.declared.place.Place.{Place}
use Rattle.row_arena.proofs.ShelfSteps.{moved, moved_rows}
use Rattle.row_arena.proofs.shelf.Shelf.move_up.Goals as goal

here : Place
here = record { from = 0; len = 0; room = 0 }

pub returns-clause-shelf : goal.returns-clause-shelf
returns-clause-shelf c =
    moved c.args.self.now c.requires.shelf c.args.row
    (get_or c.args.self.now.places.items c.args.row here) c.args.entries.now
    c.requires.within (get_or_default c.args.self.now.places.items c.args.row here _
    c.requires.within)
    (length c.args.entries.now) refl c.room_for-room.result
    c.room_for-room.ensures.enough (omega (
      arith,
      c.room_for-room.ensures.within,
      c.requires.shelf.within,
    ))
    c.write.new.block c.write.ensures

pub returns-clause-rows : goal.returns-clause-rows
returns-clause-rows c =
    moved_rows c.args.self.now c.requires.shelf c.args.row
    (get_or c.args.self.now.places.items c.args.row here) c.args.entries.now
    c.requires.within (get_or_default c.args.self.now.places.items c.args.row here _
    c.requires.within)
    (length c.args.entries.now) refl c.room_for-room.result
    c.room_for-room.ensures.enough (omega (
      arith,
      c.room_for-room.ensures.within,
      c.requires.shelf.within,
    ))
    c.write.new.block c.write.ensures
