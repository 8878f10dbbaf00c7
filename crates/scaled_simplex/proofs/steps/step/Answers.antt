use Rattle.std.proofs.Common.{◌∙◌, sym}
use Rattle.scaled_simplex.proofs.StepFacts.{ended_told}
use Rattle.scaled_simplex.proofs.steps.step.Goals as goal

pub returns-in-Ends : goal.returns-in-Ends
returns-in-Ends c =
    ended_told c.args.program.now c.args.cutoff c.args.left c.args.board.now c.requires.board
    c.requires.basic c.requires.derived c.in-Ends.end c.in-Ends.row
    (sym c.iteration_of.ensures ∙ c.in-Ends.is)
