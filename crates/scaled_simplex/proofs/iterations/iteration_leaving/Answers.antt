use Rattle.scaled_simplex.specs.BoardOf.{tableau_of}
use Rattle.scaled_simplex.proofs.LeavingFacts.{leaving_there}
use Rattle.scaled_simplex.proofs.iterations.iteration_leaving.Goals as goal

pub entering-requires-clause-row : goal.entering-requires-clause-row
entering-requires-clause-row c =
    leaving_there c.args.program.now (tableau_of c.args.board.now) c.args.leaves c.in-Some.row
    c.requires.leaves c.in-Some.is c.requires.board.rows
