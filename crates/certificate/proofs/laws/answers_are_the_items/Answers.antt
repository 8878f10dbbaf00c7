use Rattle.certificate.proofs.ReaderFacts.{item_read}
use Rattle.certificate.proofs.laws.answers_are_the_items.Goals as goal

pub returns : goal.returns
returns c parts held old new item read more = item_read parts held old new item read more
