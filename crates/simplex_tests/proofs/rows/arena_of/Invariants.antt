use Rattle.std.proofs.Common.{◌≡◌}
use Rattle.simplex_tests.proofs.rows.arena_of.Given as goal

abbrev pub invariant-loop-row : goal.invariant-loop-row
invariant-loop-row l = l.arena.most_rows ≡ 8
