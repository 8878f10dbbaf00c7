use Rattle.std.proofs.lemmas.Result.{err_from_is_err_and}
use Rattle.std.proofs.Common.{rules}
use Rattle.scaled_simplex.proofs.BoardFacts.{can_still, keeps_on}
use Rattle.scaled_simplex.proofs.SweepFacts.{swept_all, swept_more, swept_wide}
use Rattle.scaled_simplex.proofs.pivots.sweep.Goals as goal

pub returns-in_err-sweep_row-clause-wide : goal.returns-in_err-sweep_row-clause-wide
returns-in_err-sweep_row-clause-wide c =
    let exit = err_from_is_err_and c.from_residual.result c.from_residual.ensures.1 in
    let row_is = rw c.loop-p.invariant.3.todo at c.index-row.ensures in
    rw (exit.1, exit.2)
    (swept_wide _ _ _ _ c.loop-p.invariant.0 c.index-row.result.now (search rules)
    c.requires.todo.ascending c.requires.todo.small _
    (rw (row_is, c.loop-p.invariant.3.cells) at c.in_err-sweep_row.ensures.wide))

pub loop-p-preserved : goal.loop-p-preserved
loop-p-preserved c =
    let row_is = rw c.loop-p.invariant.3.todo at c.index-row.ensures in (
      swept_more _ _ _ _ c.loop-p.invariant.0 c.index-row.result.now (search rules)
          c.requires.todo.ascending c.requires.todo.small _
          (rw (row_is, c.loop-p.invariant.3.cells) at c.in_ok-sweep_row.ensures.ok),
      c.in_ok-sweep_row.ensures.board,
      can_still c.loop-p.invariant.2 c.sweep_row.ensures.keeps,
      keeps_on c.loop-p.invariant.3 c.sweep_row.ensures.keeps,
    )

pub returns-clause-ok : goal.returns-clause-ok
returns-clause-ok c = swept_all _ _ _ _ c.loop-p.invariant.0 (search rules)
