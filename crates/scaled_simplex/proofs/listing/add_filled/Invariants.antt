use Rattle.std.proofs.Common.{◌≡◌, ◌+◌, ◌≤◌, take}
use Rattle.scaled_simplex.specs.Board.{AreAdded}
use Rattle.scaled_simplex.proofs.listing.add_filled.Given as goal

abbrev pub invariant-loop-k : goal.invariant-loop-k
invariant-loop-k l =
    AreAdded l.row (take l.k l.indices) l.fn.lists.rows l.lists.rows
    × (l.lists.count ≤ l.fn.lists.count + l.k)
    × (l.lists.room ≡ l.fn.lists.room)
