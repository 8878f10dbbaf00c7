use Rattle.std.proofs.Common.{◌≡◌, drop, length, take}
use Rattle.row_arena.specs.Products.{divided_by}
use Rattle.row_arena.proofs.dividing.divide_narrow.Given as goal

abbrev pub invariant-loop-k : goal.invariant-loop-k
invariant-loop-k l =
    (length l.entries ≡ length l.fn.entries)
    × (take l.k l.entries ≡ divided_by l.divisor (take l.k l.fn.entries))
    × (drop l.k l.entries ≡ drop l.k l.fn.entries)
