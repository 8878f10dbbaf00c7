use Rattle.std.proofs.Common.{refl}
use Rattle.scenario_maker.specs.Made.{made_parts}
use Rattle.scenario_maker.proofs.ReadBack.{made_back}
use Rattle.scenario_maker.proofs.laws.made_texts_are_read.Goals as goal

pub returns : goal.returns
returns c = λ n few. made_back n (made_parts n) few refl
