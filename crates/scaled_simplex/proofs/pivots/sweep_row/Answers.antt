use Rattle.scaled_simplex.proofs.BoardFacts.{board_keeps, board_set}
use Rattle.scaled_simplex.proofs.pivots.sweep_row.Goals as goal

pub returns-clause-board : goal.returns-clause-board
returns-clause-board c =
    board_set c.args.program.now c.args.board.now c.args.row c.args.pivot c.args.index
    c.combine.new.self c.requires.board c.requires.row c.in_ok-combine.ensures.ok
    c.put_sign.new.self c.list_row.new.lists c.rows.result c.rows.ensures.count
    c.in_ok-combine.ensures.filled c.list_row.ensures.listed c.list_row.ensures.room
    c.combine.ensures.cells
    (rw c.is_negative-negative.ensures at c.put_sign.ensures.signs)
    c.put_sign.ensures.index_of c.put_sign.ensures.row_of

pub returns-clause-keeps : goal.returns-clause-keeps
returns-clause-keeps c =
    board_keeps c.args.program.now c.args.board.now c.args.row c.args.pivot c.args.index
    c.combine.new.self c.requires.board c.requires.row c.in_ok-combine.ensures.ok
    c.put_sign.new.self c.list_row.new.lists c.if-row-pivot.false
    c.put_sign.ensures.index_of c.combine.ensures.cells
