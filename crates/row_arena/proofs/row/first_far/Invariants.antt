use Rattle.std.proofs.Common.{◌≡◌, drop}
use Rattle.std.specs.List.{find}
use Rattle.row_arena.specs.Arena.{is_far}
use Rattle.row_arena.specs.Products.{entries_of}
use Rattle.row_arena.proofs.row.first_far.Given as goal

abbrev pub invariant-loop-k : goal.invariant-loop-k
invariant-loop-k l =
    find is_far (entries_of (drop l.k l.wides)) ≡ find is_far (entries_of l.wides)
