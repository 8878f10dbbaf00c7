use Rattle.scenario_maker.proofs.MadeSizes.{made_short}
use Rattle.scenario_maker.proofs.laws.made_texts_are_short.Goals as goal

pub returns : goal.returns
returns c = made_short
