use Rattle.std.proofs.Common.{ap}
use Rattle.row_arena.specs.Arena.{Rows}
use Rattle.scaled_simplex.proofs.TodoFacts.{above_after, board_turned, todo_after}
use Rattle.scaled_simplex.proofs.pivots.turn_round.Goals as goal

pub returns-clause-board : goal.returns-clause-board
returns-clause-board c =
    board_turned c.negate.new.self c.put_sign.new.self c.enter.new.self c.requires.board
    c.requires.basic c.requires.chosen (ap (λ (a : Rows). a.rows) c.negate.ensures)
    (ap (λ (a : Rows). a.cells) c.negate.ensures) c.put_sign.ensures.signs
    c.put_sign.ensures.index_of c.put_sign.ensures.row_of c.enter.ensures.index_of
    c.enter.ensures.row_of c.enter.ensures.negative

pub returns-clause-can : goal.returns-clause-can
returns-clause-can c = record {
  within = c.requires.row;
  above = above_after c.requires.board c.requires.chosen
      (ap (λ (a : Rows). a.rows) c.negate.ensures);
}

pub returns-clause-todo : goal.returns-clause-todo
returns-clause-todo c =
    todo_after c.requires.board c.requires.chosen (ap (λ (a : Rows). a.rows) c.negate.ensures)
    c.requires.todo
