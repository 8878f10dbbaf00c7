use Rattle.std.proofs.Common.{inl, map, string_bytes}
use Rattle.flow_cli.specs.Outside.{change, printed_by}
use Rattle.command_words.specs.Words.{asked}
use Rattle.flow_cli.proofs.AnswerFacts.{write_fault}
use Rattle.flow_cli.proofs.running.run.Goals as goal

pub returns-in-Ok-put_all-clause-write_fault : goal.returns-in-Ok-put_all-clause-write_fault
returns-in-Ok-put_all-clause-write_fault g c =
    let seen = g.F.Files.seen in
    λ fault. inl (write_fault (change (seen c.args.files.now) (seen c.answer_to.new.files))
    (asked (map string_bytes c.args.words.now)) (printed_by c.in-Ok.answer)
    c.in-Ok.ensures.answered fault)
