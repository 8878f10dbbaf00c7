use Rattle.scaled_simplex.specs.Run.{simplex_run}
use Rattle.relaxed_bound.proofs.ToldFacts.{run_leaf}
use Rattle.relaxed_bound.proofs.leaf.run_relaxed.Goals as goal

pub returns-clause-leaf : goal.returns-clause-leaf
returns-clause-leaf c =
    run_leaf c.in_ok-leaf.leaf c.args.presolved.now.kept c.args.presolved.now.program c.args.cutoff
    (simplex_run c.args.presolved.now.program c.args.limits.pivots c.args.limits.cells
    c.args.cutoff)
    c.in_ok-end.field-0.weights c.in_ok-end.ensures.weights c.in_ok-leaf.ensures
