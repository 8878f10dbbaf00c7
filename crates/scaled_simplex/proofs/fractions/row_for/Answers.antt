use Rattle.std.proofs.Common.{arith}
use Rattle.scaled_simplex.proofs.QuotientFacts.{there_found, there_lost, there_past}
use Rattle.scaled_simplex.proofs.fractions.row_for.Goals as goal
use Rattle.scaled_simplex.proofs.fractions.row_for.Goals.{else-row-rows-via-then-row-rows+else-index-column, else-row-rows-via-else-row-rows}

pub returns-then-index-column : goal.returns-then-index-column
returns-then-index-column c =
    there_found c.args.program.now c.args.board.now c.requires.board c.args.column
    c.requires.within c.index-row.result.now c.index-row.ensures
    (omega (arith, c.rows.ensures.count, c.if-row-rows.true)) c.index.result.now c.index.ensures
    c.if-index-column.true

pub returns-else-row-rows : goal.returns-else-row-rows
returns-else-row-rows c =
    elim c.else-row-rows.branch [
      | else-row-rows-via-then-row-rows+else-index-column w ↦
          there_lost c.args.program.now c.args.board.now c.requires.board c.args.column
          c.requires.within c.index-row.result.now c.index-row.ensures
          (omega (arith, c.rows.ensures.count, w.if-row-rows.true)) w.index.result.now
          w.index.ensures w.if-index-column.false
      | else-row-rows-via-else-row-rows w ↦
          there_past c.args.program.now c.args.board.now c.requires.board c.args.column
          c.requires.within c.index-row.result.now c.index-row.ensures
          (omega (arith, c.rows.ensures.count, w.if-row-rows.false))
    ]
