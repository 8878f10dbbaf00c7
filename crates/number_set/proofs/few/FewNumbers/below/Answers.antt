use Rattle.number_set.proofs.FewFacts.{none_below}
use Rattle.number_set.proofs.few.FewNumbers.below.Goals as goal

pub loop-number-init : goal.loop-number-init
loop-number-init c = λ k. none_below k
