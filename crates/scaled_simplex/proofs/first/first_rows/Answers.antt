use Rattle.std.proofs.Common.{ap, ◌∙◌}
use Rattle.std.proofs.lemmas.Result.{err_from_is_err_and}
use Rattle.scaled_simplex.proofs.FirstBoardFacts.{costs_wide}
use Rattle.scaled_simplex.proofs.first.first_rows.Goals as goal

pub returns-in_err-push_row-clause-wide : goal.returns-in_err-push_row-clause-wide
returns-in_err-push_row-clause-wide c =
    let p = err_from_is_err_and c.from_residual-in_err-push_row.result
    c.from_residual-in_err-push_row.ensures.1 in
    let cells = c.in_ok-push_constraints.ensures.cells ∙ ap (λ a. a.cells) c.in_ok-arena.ensures in
    rw (p.1, p.2, ← cells)
    (costs_wide c.args.program.now c.push_constraints.new.arena.cells
    c.push_constraints.new.arena.rows c.deref.result.now
    c.in_ok-push_constraints.ensures.rows (c.deref.ensures.value ∙ c.in_ok-write_costs.ensures)
    c.in_err-push_row.ensures.wide.1)
