use Rattle.std.proofs.Common.{Global, string_bytes}
use Rattle.command_words.proofs.FormFacts.{words_form}
use Rattle.command_words.proofs.form.is_command.Goals as goal

pub returns-in-Some : goal.returns-in-Some
returns-in-Some c =
    words_form (string_bytes {Z = Global}) c.args.words.now c.in-Some.rest.now
    c.in-Some.command.now c.as_str.result.now c.is_form_of.result c.in-Some.ensures.cases.0
    c.as_str.ensures.value c.is_form_of.ensures
