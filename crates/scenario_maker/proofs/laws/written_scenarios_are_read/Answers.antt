use Rattle.scenario_maker.specs.Writing.{scenario_text}
use Rattle.scenario_reader.proofs.ValidTexts.{text_is}
use Rattle.scenario_maker.proofs.OrderFacts.{text_in_order}
use Rattle.scenario_maker.proofs.ReadBack.{text_back}
use Rattle.scenario_maker.proofs.laws.written_scenarios_are_read.Goals as goal

pub returns : goal.returns
returns c = λ parts. (
  λ read. (
    text_is (scenario_text parts) parts read,
    text_in_order (scenario_text parts) parts read,
  ),
  λ is. text_back parts is.0 is.1,
)
