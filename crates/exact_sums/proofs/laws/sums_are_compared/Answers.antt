use Rattle.exact_sums.proofs.SumFacts.{total-le}
use Rattle.exact_sums.proofs.laws.sums_are_compared.Goals as goal

pub returns : goal.returns
returns g c = total-le
