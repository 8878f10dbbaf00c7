use Rattle.std.proofs.Common.{length, rules, refl}
use Rattle.row_arena.specs.Shelves.{rows_of}
use Rattle.row_arena.proofs.ArenaFacts.{arena_pushed, rooms_same}
use Rattle.row_arena.proofs.arena.RowArena.push_row.Goals as goal

pub invariant_of-self : goal.invariant_of-self
invariant_of-self c = (
  arena_pushed c.self.inside.live (length c.args.entries.now) c.self.inside.most_rows
      c.self.inside.cells (rows_of c.self.inside.shelf) (rows_of c.push.new.self)
      c.args.entries.now c.self.inside.desk.filled.items c.self.invariant.0 c.requires.valid
      (search rules) refl c.in_ok-check_room.ensures.ok c.push.ensures.rows,
  rooms_same c.self.inside.shelf c.push.new.self c.self.inside.most_rows c.self.inside.cells
      c.self.inside.desk c.self.invariant.1 c.push.ensures.shelf c.push.ensures.half
      c.push.ensures.places,
)
