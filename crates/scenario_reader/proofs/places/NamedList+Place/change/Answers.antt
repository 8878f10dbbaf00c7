use Rattle.std.proofs.Common.{◌≡◌, ◌<◌, ◌∙◌, ap, sym, refl, length, Some}
use Rattle.std.specs.Prelude.{slice_get}
use Rattle.std.proofs.lemmas.Option.{slice_get_read}
use Rattle.std.proofs.Math.Seq.{map-set_same}
use Rattle.scenario_reader.specs.Capacities.{with_change}
use Rattle.scenario_reader.proofs.ChangeFacts.{set-changed}
use Rattle.scenario_reader.proofs.DraftFacts.{name_unchanged}
use Rattle.scenario_reader.proofs.places.NamedList+Place.change.Goals as goal

pub change_place-requires : goal.change_place-requires
change_place-requires c =
    let place = c.index_mut.result.now in
    let within : c.args.change.place < length c.self.inside.items.items =
    rw (← c.self.view_is) at c.requires.here in
    let here : slice_get c.self.inside.items.items c.args.change.place ≡ Some place =
    slice_get_read c.self.inside.items.items _ c.args.change.place place refl within
    c.index_mut.ensures.value in
    c.requires.within place (rw (← c.self.view_is) here)

pub invariant_of-self : goal.invariant_of-self
invariant_of-self c =
    c.self.invariant ∙ sym
    (map-set_same (λ p. p.name) c.self.inside.items.items c.args.change.place
    c.change_place.new.place c.index_mut.result.now
    (rw c.change_place.ensures
    (name_unchanged c.args.change c.args.change.kind c.index_mut.result.now)
    ∙ ap (λ p. p.name) c.index_mut.ensures.value))

pub returns : goal.returns
returns c =
    rw (← c.self.view_is)
    (set-changed (with_change c.args.change) _ _ c.index_mut.result.now _
    (rw (← c.self.view_is) at c.requires.here) c.index_mut.ensures.value c.change_place.ensures)
