use Rattle.flow_types.specs.Scenario.{parts_of}
use Rattle.flow_cli.proofs.CheckingFacts.{answered}
use Rattle.flow_cli.proofs.checking.check_named.Goals as goal

pub returns-clause-answered : goal.returns-clause-answered
returns-clause-answered g c =
    let seen = g.F.Files.seen in
    answered (seen c.args.files.now) (seen c.signed_day_of.new.files)
    (seen c.check_of.new.files) c.signed_day_of.ensures.kept (parts_of c.in_ok-day.day.s)
    c.args.name.now c.in_ok-day.day.digest c.args.cert.now c.args.view c.in_ok-day.ensures.day
    c.check_of.result c.check_of.ensures.answered
