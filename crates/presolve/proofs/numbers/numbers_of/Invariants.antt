use Rattle.presolve.specs.Gathering.{AreNumbers}
use Rattle.presolve.proofs.numbers.numbers_of.Given as goal

abbrev pub invariant-loop-k : goal.invariant-loop-k
invariant-loop-k l = AreNumbers l.positions l.columns l.k l.numbers.items
