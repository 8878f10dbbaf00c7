use Rattle.std.proofs.Common.{ℕ, ◌<◌, ◌≤◌, length, slice_index_or}
use Rattle.row_arena.specs.declared.entry.Entry.{Entry}
use Rattle.presolve.proofs.gather.place_of.Given as goal

abbrev pub invariant-loop-place : goal.invariant-loop-place
invariant-loop-place l = (l.place ≤ length l.entries) × ((k : ℕ) (d : Entry) → l.place ≤ k
    → k < length l.entries → l.column < (slice_index_or l.entries k d).column)

abbrev pub decreases-loop-place : goal.decreases-loop-place
decreases-loop-place l = l.place
