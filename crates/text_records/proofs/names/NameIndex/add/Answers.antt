use Rattle.std.proofs.Common.{◌≡◌, ◌++◌, ◌∷◌, [], ◌∙◌, sym, false, refl, None, position}
use Rattle.std.specs.List.{list_any}
use Rattle.std.specs.Str.{bytes_eq}
use Rattle.std.proofs.lemmas.List.{map-append}
use Rattle.text_records.proofs.NameFacts.{position-map, position-none}
use Rattle.text_records.proofs.names.NameIndex.add.Goals as goal

pub returns-clause-ok : goal.returns-clause-ok
returns-clause-ok c =
    let keys = c.self.inside.names.keys in
    let name = c.in_ok-name.name in
    let fresh : position (λ other. bytes_eq c.args.name.now other.items) keys ≡ None =
    sym (position-map (bytes_eq c.args.name.now) (λ other. other.items) keys)
    ∙ rw c.self.view_is c.requires.fresh in
    let none : list_any (λ other. bytes_eq name.items other.items) keys ≡ false =
    rw c.in_ok-name.ensures.items (position-none _ keys fresh) in
    let more : c.insert_full.new.self.keys ≡ keys ++ name ∷ [] =
    rw none at c.in_ok-insert_full.ensures.keys in
    rw (
      more,
      map-append (λ other. other.items) keys
          (name ∷ []),
      c.in_ok-name.ensures.items,
      ← c.self.view_is,
    ) refl
