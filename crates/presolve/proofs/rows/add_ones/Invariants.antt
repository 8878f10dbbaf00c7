use Rattle.presolve.proofs.RowFacts.{AreOnes}
use Rattle.presolve.proofs.rows.add_ones.Given as goal

abbrev pub invariant-loop-column : goal.invariant-loop-column
invariant-loop-column l = AreOnes l.column l.initial.program l.program
