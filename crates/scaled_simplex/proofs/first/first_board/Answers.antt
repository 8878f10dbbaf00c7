use Rattle.std.proofs.Common.{arith}
use Rattle.scaled_simplex.proofs.FirstBoardFacts.{first_is_board}
use Rattle.scaled_simplex.proofs.first.first_board.Goals as goal

pub returns-clause-board : goal.returns-clause-board
returns-clause-board c =
    let enough = c.room_of-room.ensures in
    let cells = c.in_ok-arena.ensures.cells in
    let room = c.in_ok-lists.ensures.room in
    let todo = c.in_ok-todo.ensures in
    first_is_board c.args.program.now (record {
      arena = c.in_ok-arena.arena;
      basis = c.in_ok-basis.basis;
      lists = c.in_ok-lists.lists;
      todo = c.in_ok-todo.todo;
    }) c.in_ok-arena.ensures.rows
    c.in_ok-basis.ensures.index_of c.in_ok-basis.ensures.found c.in_ok-lists.ensures.listed
    (omega (arith, enough, cells, room)) (omega (arith, room, todo))
