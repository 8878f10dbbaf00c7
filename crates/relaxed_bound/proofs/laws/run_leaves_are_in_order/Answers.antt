use Rattle.relaxed_bound.proofs.RowsFacts.{run_ascends, run_positive}
use Rattle.relaxed_bound.proofs.laws.run_leaves_are_in_order.Goals as goal

pub returns-clause-ascending : goal.returns-clause-ascending
returns-clause-ascending c = run_ascends

pub returns-clause-positive : goal.returns-clause-positive
returns-clause-positive c = run_positive
