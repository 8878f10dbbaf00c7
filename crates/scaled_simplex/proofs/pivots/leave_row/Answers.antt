use Rattle.scaled_simplex.proofs.TodoFacts.{board_left}
use Rattle.scaled_simplex.proofs.pivots.leave_row.Goals as goal

pub returns-else-left-eq0-clause-board : goal.returns-else-left-eq0-clause-board
returns-else-left-eq0-clause-board c =
    board_left c.args.program.now c.args.board.now c.leave.new.self c.args.row c.args.index
    c.requires.board c.requires.row c.requires.index c.requires.alone c.leave.ensures.rows
    c.leave.ensures.room
