use Rattle.std.proofs.Common.{subst, sym}
use Rattle.sha2.specs.Sha256.{sha256}
use Rattle.cert_checker.specs.Verdicts.{IsVerdict}
use Rattle.flow_cli.proofs.OwnFacts.{own_accepted, own_alone, own_short, own_writable}
use Rattle.flow_cli.proofs.own_certificate.own_certificates_are_accepted.Goals as goal

pub returns-clause-writable : goal.returns-clause-writable
returns-clause-writable c = own_writable

pub returns-clause-accepted : goal.returns-clause-accepted
returns-clause-accepted c = own_accepted

pub returns-clause-short : goal.returns-clause-short
returns-clause-short c = own_short

pub returns-clause-alone : goal.returns-clause-alone
returns-clause-alone c parts root budget found day verdict valid inside few searched is =
    own_alone parts root budget found day valid inside few searched verdict is

pub returns-clause-checked : goal.returns-clause-checked
returns-clause-checked c parts root budget found day name held verdict valid inside few searched
    told checked =
    own_alone parts root budget found day valid inside few searched verdict
    (subst (λ text. IsVerdict parts root (sha256 day) text verdict) (sym (checked.told _ told))
    checked.is)
