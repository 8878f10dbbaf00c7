use Rattle.clap.specs.Words.{found_of}
use Rattle.std.specs.Str.Parse.{ExplainsUnsignedError, HasUnsignedDigitsIfOk, ParsesUnsigned}
use Rattle.command_words.proofs.GetFacts.{number_got}
use Rattle.command_words.proofs.reading.number_in.Goals as goal

pub returns : goal.returns
returns c =
    number_got (λ text r. ParsesUnsigned 64 10 text r × ExplainsUnsignedError 10 text r ×
    HasUnsignedDigitsIfOk text r) 64 (λ text r gives. gives.0)
    (found_of c.args.matches.now) c.args.id.now c.get_one.result c.get_one.ensures.none
    c.get_one.ensures.value
