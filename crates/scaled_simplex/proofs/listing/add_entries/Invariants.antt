use Rattle.std.proofs.Common.{◌≡◌, ◌+◌, ◌≤◌, map, take}
use Rattle.scaled_simplex.specs.Board.{AreAdded, column_of}
use Rattle.scaled_simplex.proofs.listing.add_entries.Given as goal

abbrev pub invariant-loop-k : goal.invariant-loop-k
invariant-loop-k l =
    AreAdded l.row (take l.k (map column_of l.entries)) l.fn.lists.rows l.lists.rows
    × (l.lists.count ≤ l.fn.lists.count + l.k)
    × (l.lists.room ≡ l.fn.lists.room)
