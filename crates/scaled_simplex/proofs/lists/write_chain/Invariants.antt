use Rattle.std.proofs.Common.{◌≡◌, ◌≤◌, ◌+◌, ◌++◌, length, vec_capacity}
use Rattle.scaled_simplex.specs.Links.{chain}
use Rattle.scaled_simplex.proofs.lists.write_chain.Given as goal

abbrev pub invariant-loop-next : goal.invariant-loop-next
invariant-loop-next l =
    (l.rows.items ++ chain l.links l.next l.next ≡ chain l.links (length l.links) l.first)
    × (l.next ≤ length l.links)
    × (length l.rows.items + l.next ≤ length l.links)
    × (length l.links ≤ vec_capacity l.rows)
    × (vec_capacity l.fn.rows ≤ vec_capacity l.rows)

abbrev pub decreases-loop-next : goal.decreases-loop-next
decreases-loop-next l = l.next
