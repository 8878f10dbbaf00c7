use Rattle.scaled_simplex.proofs.LastTableaus.{last_same}
use Rattle.scaled_simplex.proofs.laws.last_tableaus_are_one.Goals as goal

pub returns : goal.returns
returns c = last_same
