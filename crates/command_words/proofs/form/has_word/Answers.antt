use Rattle.std.proofs.Common.{◌∙◌, Global, rules, tests, string_bytes}
use Rattle.std.specs.Str.{bytes_eq}
use Rattle.std.proofs.lemmas.Iterator.{YieldsList-from_slice}
use Rattle.std.proofs.lemmas.Iterator.Search.{any_from_yields_List}
use Rattle.clap.proofs.WalkLemmas.{list_any-map}
use Rattle.command_words.proofs.form.has_word.Goals as goal

pub returns : goal.returns
returns c =
    any_from_yields_List (λ s. bytes_eq (string_bytes s) c.args.word.now) _ _ c.any.result
    c.any.ensures.ran (YieldsList-from_slice c.args.words.now cc) (λ x b q k. search (rules, tests))
    ∙ list_any-map (λ w. bytes_eq w c.args.word.now) (string_bytes {Z = Global}) c.args.words.now
