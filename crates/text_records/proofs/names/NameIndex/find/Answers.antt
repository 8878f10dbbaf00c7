use Rattle.std.proofs.Common.{◌∙◌, sym}
use Rattle.std.specs.Str.{bytes_eq}
use Rattle.text_records.proofs.NameFacts.{position-map}
use Rattle.text_records.proofs.names.NameIndex.find.Goals as goal

pub returns-in-Some-clause-position : goal.returns-in-Some-clause-position
returns-in-Some-clause-position c =
    rw (← c.self.view_is)
    (sym c.in-Some.is ∙ c.get_index_of.ensures.index
    ∙ sym (position-map (bytes_eq c.args.name.now)
    (λ name. name.items) c.self.inside.names.keys))

pub returns-in-None-clause-position : goal.returns-in-None-clause-position
returns-in-None-clause-position c =
    rw (← c.self.view_is)
    (sym c.in-None.is ∙ c.get_index_of.ensures.index
    ∙ sym (position-map (bytes_eq c.args.name.now)
    (λ name. name.items) c.self.inside.names.keys))
