use Rattle.scaled_simplex.proofs.SolverFacts.{bare_ran, first_is_basic, first_is_derived, ran}
use Rattle.scaled_simplex.proofs.solver.Solver.run.Goals as goal

pub invariant_of-result : goal.invariant_of-result
invariant_of-result c =
    bare_ran c.self.inside.program.now c.self.inside.cells c.self.inside.board c.self.invariant 0

pub run_from-ending-requires-clause-basic : goal.run_from-ending-requires-clause-basic
run_from-ending-requires-clause-basic c =
    first_is_basic c.self.inside.program.now c.self.inside.cells c.self.inside.board
    c.self.invariant c.in-Some.board c.in-Some.is

pub run_from-ending-requires-clause-derived : goal.run_from-ending-requires-clause-derived
run_from-ending-requires-clause-derived c =
    first_is_derived c.self.inside.program.now c.self.inside.cells c.self.inside.board
    c.self.invariant c.in-Some.board c.in-Some.is

pub invariant_of-result-2 : goal.invariant_of-result-2
invariant_of-result-2 c =
    ran c.self.inside.program.now c.self.inside.cells c.self.inside.board c.self.invariant
    c.in-Some.board c.in-Some.is c.args.pivots c.args.cutoff c.run_from-ending.new.board
    c.run_from-ending.result c.run_from-ending.ensures
