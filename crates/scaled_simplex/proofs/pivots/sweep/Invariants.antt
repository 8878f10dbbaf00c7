use Rattle.scaled_simplex.specs.BoardOf.{CanSweep, IsBoard, KeepsBoard}
use Rattle.scaled_simplex.proofs.SweepFacts.{IsSweepTo}
use Rattle.scaled_simplex.proofs.pivots.sweep.Given as goal

abbrev pub invariant-loop-p : goal.invariant-loop-p
invariant-loop-p l =
    IsSweepTo l.program l.fn.board.arena.cells l.pivot l.index l.fn.board.todo.items l.p
    l.fn.board.arena.rows l.board.arena.rows
    × IsBoard l.program l.board × CanSweep l.program l.pivot l.index l.board
    × KeepsBoard l.program l.pivot l.fn.board l.board
