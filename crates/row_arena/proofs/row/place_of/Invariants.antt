use Rattle.std.proofs.Common.{◌≤◌, ◌+◌, ◌<◌, ℕ, get_or, length}
use Rattle.row_arena.specs.declared.entry.Entry.{Entry}
use Rattle.row_arena.proofs.row.place_of.Given as goal

abbrev pub invariant-loop-count : goal.invariant-loop-count
invariant-loop-count l =
    (l.low + l.count ≤ length l.row)
    × ((k : ℕ) (d : Entry) → k < l.low → (get_or l.row k d).column < l.column)
    × ((k : ℕ) (d : Entry) → l.low + l.count ≤ k → k < length l.row
    → l.column ≤ (get_or l.row k d).column)

abbrev pub decreases-loop-count : goal.decreases-loop-count
decreases-loop-count l = l.count
