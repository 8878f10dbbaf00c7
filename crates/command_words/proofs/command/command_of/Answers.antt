use Rattle.std.proofs.Common.{◌∙◌, ◌≡◌, List, Global, ap, sym, true, is_some, map, string_bytes}
use Rattle.clap.specs.Words.{App, Text, is_simple, subcommand_of, takes}
use Rattle.command_words.specs.Reading.{told_by}
use Rattle.command_words.specs.Words.{asked}
use Rattle.command_words.proofs.AskedFacts.{asked_may, asked_taken, asked_told}
use Rattle.command_words.proofs.command.command_of.Goals as goal

pub returns-in-Ok-clause-asked : goal.returns-in-Ok-clause-asked
returns-in-Ok-clause-asked c =
    let words : List Text = map (string_bytes {Z = Global}) c.args.words.now in
    let shows = c.in_ok-flow_command.ensures.0 in
    c.told_by.ensures ∙ ap told_by ((c.in-Ok.ensures.matches (ap is_simple shows)).1
    ∙ ap (λ (a : App). subcommand_of a words) shows)
    ∙ asked_told words (sym c.is_command.ensures ∙ c.if-not-is_command.false)

pub returns-in-Ok-clause-may : goal.returns-in-Ok-clause-may
returns-in-Ok-clause-may c =
    asked_may (map (string_bytes {Z = Global}) c.args.words.now) c.told_by.result
    (returns-in-Ok-clause-asked c)

pub returns : goal.returns
returns c =
    let words : List Text = map (string_bytes {Z = Global}) c.args.words.now in
    let is : is_some (asked words) ≡ true = sym c.is_command.ensures ∙ c.if-not-is_command.false in
    absurd (c.in_default.not-OutOfMemory (c.kind.ensures
    ∙ c.in-Err.ensures.passes (ap (λ (a : App). takes a words) c.in_ok-flow_command.ensures.0
    ∙ asked_taken words is)))
