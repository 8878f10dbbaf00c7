use Rattle.std.proofs.Common.{◌≡◌, take, drop}
use Rattle.row_arena.specs.Products.{divided_by, entries_of}
use Rattle.row_arena.proofs.dividing.divide.Given as goal

abbrev pub invariant-loop-k : goal.invariant-loop-k
invariant-loop-k l =
    (entries_of (take l.k l.entries)
    ≡ divided_by l.divisor (entries_of (take l.k l.initial.entries)))
    × (drop l.k l.entries ≡ drop l.k l.initial.entries)
