use Rattle.std.proofs.Common.{IfOk, subst}
use Rattle.std.proofs.lemmas.Result.{IfOk-weaker}
use Rattle.command_words.specs.Lines.{Shows}
use Rattle.command_words.proofs.BuildFacts.{subcommand_added}
use Rattle.command_words.proofs.line.with_subcommand.Goals as goal

pub returns : goal.returns
returns c = λ app sub shows shown.
    let below = subst (λ r. IfOk r (Shows sub)) c.in_ok-below.was shown in
    IfOk-weaker c.subcommand.result _ _ (λ new adds.
    subcommand_added c.args.above c.in_ok-below.field-0 new app sub adds shows below)
    c.subcommand.ensures
