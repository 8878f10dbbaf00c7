use Rattle.scaled_simplex.proofs.SameFractions.{last_fractions_same}
use Rattle.scaled_simplex.proofs.laws.points_are_one.Goals as goal

pub returns : goal.returns
returns c = last_fractions_same
