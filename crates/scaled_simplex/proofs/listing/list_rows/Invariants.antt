use Rattle.std.proofs.Common.{◌≡◌, ◌≤◌, length, take}
use Rattle.row_arena.specs.Arena.{live}
use Rattle.scaled_simplex.specs.Board.{AreListed}
use Rattle.scaled_simplex.proofs.listing.list_rows.Given as goal

abbrev pub invariant-loop-row : goal.invariant-loop-row
invariant-loop-row l =
    AreListed l.arena.rows l.row (length l.fn.lists.rows) l.lists.rows
    × (l.lists.count ≤ live (take l.row l.arena.rows))
    × (l.lists.room ≡ l.fn.lists.room)
