use Rattle.presolve.proofs.ProblemFacts.{problem}
use Rattle.presolve.proofs.laws.programs_are_problems.Goals as goal

pub returns : goal.returns
returns c = problem
