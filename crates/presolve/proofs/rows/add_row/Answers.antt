use Rattle.scaled_simplex.specs.Program.{columns}
use Rattle.presolve.specs.Frames.{box_in, parts_in, pool_in}
use Rattle.presolve.proofs.RowFacts.{landed_row_is, landed_within}
use Rattle.presolve.proofs.rows.add_row.Goals as goal

pub add_landed-requires-clause-row : goal.add_landed-requires-clause-row
add_landed-requires-clause-row c =
    landed_row_is (parts_in c.args.frame.now) (pool_in c.args.frame.now) (box_in c.args.frame.now)
    c.args.name c.land_row.new.room.gathering.entries c.in_ok-limit.limit c.in_ok-limit.ensures

pub add_landed-requires-clause-within : goal.add_landed-requires-clause-within
add_landed-requires-clause-within c =
    landed_within (parts_in c.args.frame.now) (pool_in c.args.frame.now) (box_in c.args.frame.now)
    c.args.name c.land_row.new.room.gathering.entries c.in_ok-limit.limit
    (columns c.args.draft.now.program) c.in_ok-limit.ensures c.requires.columns
