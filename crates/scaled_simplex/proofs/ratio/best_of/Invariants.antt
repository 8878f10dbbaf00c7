use Rattle.std.proofs.Common.{◌≡◌, IfSome, None, drop, length}
use Rattle.row_arena.specs.Arena.{row_at}
use Rattle.scaled_simplex.specs.Ratios.{IsNear, best_from}
use Rattle.scaled_simplex.specs.Tableau.{right_side}
use Rattle.scaled_simplex.proofs.ratio.best_of.Given as goal

abbrev pub invariant-loop-k : goal.invariant-loop-k
invariant-loop-k l =
    (best_from (row_at l.arena.rows (length l.program.constraints)) (right_side l.program) l.best
    (drop l.k l.row)
    ≡ best_from (row_at l.arena.rows (length l.program.constraints)) (right_side l.program) None
    l.row) × IfSome l.best IsNear
