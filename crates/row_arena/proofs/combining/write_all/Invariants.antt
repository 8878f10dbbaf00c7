use Rattle.std.proofs.Common.{◌≡◌, ◌≤◌, length, take, vec_capacity}
use Rattle.row_arena.specs.Products.{entries_of}
use Rattle.row_arena.proofs.combining.write_all.Given as goal

abbrev pub invariant-loop-k : goal.invariant-loop-k
invariant-loop-k l =
    (l.entries.items ≡ entries_of (take l.k l.wides))
    × (length l.entries.items ≤ l.k)
    × (vec_capacity l.fn.entries ≤ vec_capacity l.entries)
