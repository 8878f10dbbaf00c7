use Rattle.flow_types.specs.Scenario.{parts_of}
use Rattle.flow_cli.proofs.JudgingFacts.{answered}
use Rattle.flow_cli.proofs.judging.judge_named.Goals as goal

pub returns-clause-answered : goal.returns-clause-answered
returns-clause-answered g c =
    let seen = g.F.Files.seen in
    answered (seen c.args.files.now) (seen c.day_of.new.files)
    (seen c.judge_of.new.files) c.day_of.ensures.kept (parts_of c.in_ok-s.s) c.args.plan.now
    c.args.name.now c.in_ok-s.ensures.day c.judge_of.result c.judge_of.ensures.answered
