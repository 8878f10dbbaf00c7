use Rattle.row_arena.proofs.WriteFacts.{begun}
use Rattle.std.proofs.Common.{◌≡◌}
use Rattle.row_arena.specs.Shelves.{row_in}
use Rattle.row_arena.proofs.shelf.copy.Given as goal

abbrev pub invariant-loop-k : goal.invariant-loop-k
invariant-loop-k l =
    l.block ≡ begun l.initial.block l.to (row_in l.initial.block l.place) l.k
