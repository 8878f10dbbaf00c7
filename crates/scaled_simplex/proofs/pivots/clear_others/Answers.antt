use Rattle.std.proofs.Common.{◌∙◌}
use Rattle.std.proofs.lemmas.Result.{err_from_is_err_and}
use Rattle.scaled_simplex.proofs.SweepFacts.{swept_costs}
use Rattle.scaled_simplex.proofs.pivots.clear_others.Goals as goal

pub returns-in_err-clear_costs-clause-wide : goal.returns-in_err-clear_costs-clause-wide
returns-in_err-clear_costs-clause-wide c =
    let exit = err_from_is_err_and c.from_residual-in_err-clear_costs.result
    c.from_residual-in_err-clear_costs.ensures.1 in
    rw (exit.1, exit.2)
    (swept_costs c.args.program.now c.args.board.now.arena.cells c.args.pivot c.args.index
    c.args.board.now.arena.rows c.sweep.new.board.arena.rows c.requires.can.within
    c.in_ok-sweep.ensures.ok
    ∙ rw c.sweep.ensures.keeps.cells at c.in_err-clear_costs.ensures.wide)

pub returns-clause-ok : goal.returns-clause-ok
returns-clause-ok c =
    swept_costs c.args.program.now c.args.board.now.arena.cells c.args.pivot c.args.index
    c.args.board.now.arena.rows c.sweep.new.board.arena.rows c.requires.can.within
    c.in_ok-sweep.ensures.ok
    ∙ rw c.sweep.ensures.keeps.cells at c.in_ok-clear_costs.ensures.ok
