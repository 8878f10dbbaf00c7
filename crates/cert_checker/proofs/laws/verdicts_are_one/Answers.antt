use Rattle.cert_checker.proofs.OneVerdict.{one_verdict}
use Rattle.cert_checker.proofs.laws.verdicts_are_one.Goals as goal

pub returns : goal.returns
returns c parts root digest text first second valid =
    one_verdict parts valid root digest text first second
