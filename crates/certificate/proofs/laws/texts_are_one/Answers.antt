use Rattle.certificate.proofs.OneText.{one_text}
use Rattle.certificate.proofs.laws.texts_are_one.Goals as goal

pub returns : goal.returns
returns c parts first second more valid one two same =
    one_text parts first second more valid one two same
