use Rattle.certificate.proofs.TextsBack.{text_reads}
use Rattle.certificate.proofs.laws.texts_are_read.Goals as goal

pub returns : goal.returns
returns c parts cert valid is = text_reads parts valid cert is
