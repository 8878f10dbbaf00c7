use Rattle.scaled_simplex.proofs.SameFractions.{last_whole}
use Rattle.scaled_simplex.proofs.laws.values_are_whole_by_their_denominators.Goals as goal

pub returns : goal.returns
returns c = last_whole
