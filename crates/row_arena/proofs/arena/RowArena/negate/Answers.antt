use Rattle.std.proofs.Common.{rules, arith}
use Rattle.row_arena.specs.Shelves.{rows_of}
use Rattle.row_arena.proofs.ArenaFacts.{arena_negated, rooms_same, row_at_valid}
use Rattle.row_arena.proofs.arena.RowArena.negate.Goals as goal

pub negate-requires-clause-valid : goal.negate-requires-clause-valid
negate-requires-clause-valid c =
    row_at_valid (rows_of c.self.inside.shelf) c.args.row c.self.invariant.0.valid (search rules)

pub invariant_of-self : goal.invariant_of-self
invariant_of-self c = (
  arena_negated c.self.inside.live c.self.inside.most_rows c.self.inside.cells c.args.row
      (rows_of c.self.inside.shelf) (rows_of c.negate.new.self) c.self.inside.desk.filled.items
      c.self.invariant.0 (search rules) c.negate.ensures.rows,
  rooms_same c.self.inside.shelf c.negate.new.self c.self.inside.most_rows c.self.inside.cells
      c.self.inside.desk c.self.invariant.1 c.negate.ensures.shelf c.negate.ensures.half
      (rw c.negate.ensures.places (omega arith)),
)
