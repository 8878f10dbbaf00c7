use Rattle.std.proofs.Common.{rules, tests, ◌≡◌, ◌∙◌, ◌+◌, ◌-◌, ◌∷◌, ℕ, List, ap, sym, position, take, drop, length, length-drop, take_all, arith}
use Rattle.std.proofs.lemmas.Iterator.{YieldsList-from_slice}
use Rattle.std.proofs.lemmas.Iterator.Search.{position_from_yields_List}
use Rattle.certificate.specs.Fields.{fields_of, is_comma}
use Rattle.certificate.proofs.SplitFacts.{none_split, some_split}
use Rattle.certificate.proofs.fields.split_field.Goals as goal

pub returns-in-None : goal.returns-in-None
returns-in-None c =
    let found : c.position.result ≡ position is_comma c.args.bytes.now =
    position_from_yields_List is_comma _ _ _ c.position.ensures.ran
    (YieldsList-from_slice c.args.bytes.now cc) (λ x b q k. search (rules, tests)) in
    none_split is_comma c.args.bytes.now (sym found ∙ c.in-None.is)

pub returns-in-Some : goal.returns-in-Some
returns-in-Some c =
    let found : c.position.result ≡ position is_comma c.args.bytes.now =
    position_from_yields_List is_comma _ _ _ c.position.ensures.ran
    (YieldsList-from_slice c.args.bytes.now cc) (λ x b q k. search (rules, tests)) in
    some_split is_comma c.args.bytes.now c.in-Some.comma (sym found ∙ c.in-Some.is)
    ∙ ap (λ (rest : List ℕ). take c.in-Some.comma c.args.bytes.now ∷ fields_of rest)
    (sym (take_all (length c.args.bytes.now - (c.in-Some.comma + 1))
    (drop (c.in-Some.comma + 1) c.args.bytes.now)
    (omega (arith, length-drop (c.in-Some.comma + 1) c.args.bytes.now))))
