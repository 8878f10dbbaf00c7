use Rattle.std.proofs.Common.{subst, sym}
use Rattle.scaled_simplex.specs.declared.end.End.TheVariants.{Wide as TooWide}
use Rattle.scaled_simplex.specs.BoardOf.{tableau_of}
use Rattle.scaled_simplex.specs.Steps.{IsTelling}
use Rattle.scaled_simplex.proofs.StepFacts.{chosen_told, onward_told, wide_told}
use Rattle.scaled_simplex.proofs.steps.go_on.Goals as goal

pub pivot-requires-clause-chosen : goal.pivot-requires-clause-chosen
pivot-requires-clause-chosen c =
    chosen_told c.args.program.now (tableau_of c.args.board.now) c.args.cutoff c.args.row
    c.args.index c.requires.iteration

pub returns-in-Ok : goal.returns-in-Ok
returns-in-Ok c =
    onward_told c.args.program.now c.args.cutoff c.args.left c.args.board.now c.requires.board
    c.pivot.new.board c.args.row c.args.index c.requires.iteration c.requires.left c.requires.basic
    c.requires.derived
    c.in-Ok.ensures.ok c.in-Ok.ensures.basis c.in-Ok.ensures.board c.pivot.ensures.cells

pub returns-in-Err : goal.returns-in-Err
returns-in-Err c =
    let problem = c.args.program.now in
    let old = c.args.board.now in
    subst (λ row. IsTelling problem old.arena.cells c.args.cutoff c.args.left (tableau_of old)
    c.pivot.new.board (record { end = TooWide; row = row })) (sym c.rows.ensures.count)
    (wide_told problem c.args.cutoff c.args.left old c.requires.board c.pivot.new.board c.args.row
    c.args.index c.requires.iteration c.requires.left c.in-Err.field-0 c.in-Err.ensures.wide
    c.pivot.ensures.count c.in-Err.ensures.costs)
