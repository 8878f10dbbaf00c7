use Rattle.cert_checker.proofs.SoundFacts.{claims_hold}
use Rattle.cert_checker.proofs.laws.accepted_claims_hold.Goals as goal

pub returns : goal.returns
returns c parts root digest text claim valid inside is =
    claims_hold parts root digest valid inside text claim is
