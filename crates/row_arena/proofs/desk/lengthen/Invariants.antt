use Rattle.std.proofs.Common.{◌-◌, ◌≤◌, length, vec_capacity}
use Rattle.row_arena.proofs.desk.lengthen.Given as goal

abbrev pub invariant-loop-item : goal.invariant-loop-item
invariant-loop-item g l = vec_capacity l.fn.items ≤ vec_capacity l.items

abbrev pub decreases-loop-item : goal.decreases-loop-item
decreases-loop-item g l = l.count - length l.items.items
