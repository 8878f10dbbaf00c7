use Rattle.std.proofs.Common.{Global, string_bytes}
use Rattle.command_words.proofs.FormFacts.{no_pair}
use Rattle.command_words.proofs.form.+are_options.Goals as goal

pub returns-in-len1 : goal.returns-in-len1
returns-in-len1 t c =
    no_pair (string_bytes {Z = Global}) c.args.words.now c.in-len1.len_at_least c.in-len1.len_below
