use Rattle.row_arena.proofs.WriteFacts.{begun}
use Rattle.std.proofs.Common.{◌≡◌}
use Rattle.row_arena.proofs.shelf.write.Given as goal

abbrev pub invariant-loop-k : goal.invariant-loop-k
invariant-loop-k l =
    l.block ≡ begun l.initial.block l.at l.entries l.k
