use Rattle.std.proofs.Common.{inl}
use Rattle.flow_types.specs.Scenario.{parts_of}
use Rattle.flow_cli.specs.Outside.{printed_by}
use Rattle.flow_cli.proofs.CheckingFacts.{tells_claim}
use Rattle.flow_cli.proofs.checking.check_of.Goals as goal

pub returns-in_ok-claimed-in-Ok-clause-answered : goal.returns-in_ok-claimed-in-Ok-clause-answered
returns-in_ok-claimed-in-Ok-clause-answered g c =
    inl (tells_claim (parts_of c.args.s.now) c.args.s.now.valid c.in-Ok.claim
    c.in-Ok.ensures.holds (g.F.Files.seen c.args.files.now).held c.args.digest.now
    c.args.name.now c.args.view (printed_by c.in_ok-claimed-in-Ok.field-0) c.in-Ok.ensures.ok
    c.in_ok-claimed-in-Ok.ensures.shown c.in_ok-claimed-in-Ok.ensures.ends
    c.in_ok-claimed-in-Ok.ensures.no_record)
