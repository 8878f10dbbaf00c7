use Rattle.cert_checker.proofs.AcceptFacts.{accepted}
use Rattle.cert_checker.proofs.laws.lawful_certificates_are_accepted.Goals as goal

pub returns : goal.returns
returns c parts root cert valid inside writable lawful =
    accepted parts valid root inside cert writable lawful
