use Rattle.lagrange_bound.proofs.SameFacts.{round_same}
use Rattle.lagrange_bound.proofs.laws.round_bounds_are_the_same.Goals as goal

pub returns : goal.returns
returns c = round_same
