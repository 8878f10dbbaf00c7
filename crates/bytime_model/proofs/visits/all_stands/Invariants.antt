use Rattle.std.proofs.Common.{[]}
use Rattle.exact_sums.proofs.LoopFacts.{AreOfNumbered}
use Rattle.bytime_model.specs.Visits.{stands_of}
use Rattle.bytime_model.proofs.visits.all_stands.Given as goal

abbrev pub invariant-loop-number : goal.invariant-loop-number
invariant-loop-number l = AreOfNumbered stands_of l.flights l.number [] l.stands
