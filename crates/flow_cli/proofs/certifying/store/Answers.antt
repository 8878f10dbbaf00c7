use Rattle.flow_cli.proofs.CertifyingFacts.{kept_stored}
use Rattle.flow_cli.proofs.certifying.store.Goals as goal

pub returns-in-Ok-clause-kept : goal.returns-in-Ok-clause-kept
returns-in-Ok-clause-kept g c =
    kept_stored (g.F.Files.seen c.args.files.now) (g.F.Files.seen c.store.new.self)
    c.args.cert.now c.deref.result.now c.in-Ok.ensures.ok c.in-Ok.ensures.faults
    c.in-Ok.ensures.counts
