use Rattle.scenario_reader.proofs.ValidTexts.{text_is}
use Rattle.scenario_maker.proofs.OrderFacts.{text_in_order}
use Rattle.scenario_maker.proofs.ReadBack.{text_back}
use Rattle.scenario_maker.proofs.laws.texts_that_read_are_written_again.Goals as goal

pub returns : goal.returns
returns c = λ bytes parts read.
    text_back parts (text_is bytes parts read) (text_in_order bytes parts read)
