use Rattle.std.proofs.Common.{arith}
use Rattle.row_arena.proofs.PlaceFacts.{read_place}
use Rattle.row_arena.proofs.row.entry_in.Goals as goal

pub returns-then-position-row : goal.returns-then-position-row
returns-then-position-row c =
    read_place c.args.row.now c.requires c.place_of-position.result c.args.column
    c.place_of-position.ensures.place _ c.value_in.result (omega arith) c.value_in.ensures
