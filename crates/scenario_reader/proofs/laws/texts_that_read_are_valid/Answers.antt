use Rattle.scenario_reader.proofs.ValidTexts.{text_is}
use Rattle.scenario_reader.proofs.laws.texts_that_read_are_valid.Goals as goal

pub returns : goal.returns
returns c = text_is
