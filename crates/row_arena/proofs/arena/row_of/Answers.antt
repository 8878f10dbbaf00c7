use Rattle.std.proofs.Common.{subst, sym}
use Rattle.row_arena.specs.Rows.{IsRow}
use Rattle.row_arena.specs.Shelves.{rows_of}
use Rattle.row_arena.proofs.ArenaFacts.{row_at_valid}
use Rattle.row_arena.proofs.arena.row_of.Goals as goal

pub returns-clause-valid : goal.returns-clause-valid
returns-clause-valid c =
    subst IsRow (sym c.row.ensures)
    (row_at_valid (rows_of c.args.shelf.now) c.args.row c.requires.valid c.requires.within)
