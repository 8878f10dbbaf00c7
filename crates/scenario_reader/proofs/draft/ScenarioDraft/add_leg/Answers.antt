use Rattle.std.proofs.Common.{◌≡◌, ◌+◌, ℕ, Bool, true, false, cond, refl, sym, ◌∙◌, ap, add-zero, Some}
use Rattle.std.specs.Prelude.{slice_get}
use Rattle.std.proofs.lemmas.Option.{slice_get_read}
use Rattle.scenario_reader.specs.Legs.{adds_node}
use Rattle.scenario_reader.proofs.DraftFacts.{draft_with_leg, network_at}
use Rattle.scenario_reader.proofs.RoomFacts.{has_room}
use Rattle.scenario_reader.proofs.draft.ScenarioDraft.add_leg.Goals as goal

counted : (nodes : ℕ) (adds b : Bool) → adds ≡ b → nodes + cond b 1 0 ≡ nodes + cond adds 1 0
counted nodes adds b e = ap (λ v. nodes + cond v 1 0) (sym e)

pub add_leg-requires-clause-room : goal.add_leg-requires-clause-room
add_leg-requires-clause-room c = λ draft here.
    has_room _ _ draft _ (network_at _ _ _ c.self.invariant.parts here)
    ((rw (← c.self.view_is) at c.requires.valid) draft here)

pub invariant_of-self-then-adds : goal.invariant_of-self-then-adds
invariant_of-self-then-adds c =
    let flight = c.index-items-flight.result in
    let here : slice_get c.self.inside.flights c.args.flight ≡ Some flight =
    slice_get_read c.self.inside.flights _ c.args.flight flight refl
    (rw (← c.self.view_is) at c.requires.here)
    (rw c.items.ensures at c.index-items-flight.is) in
    draft_with_leg _ _ _ _ _ _ _ _ _ _ flight c.self.invariant here
    ((rw (← c.self.view_is) at c.requires.valid) flight here) c.in_ok-add_leg.ensures.ok
    (counted c.self.inside.nodes (adds_node flight c.args.leg.to) true
    (sym c.adds_node-adds.ensures ∙ c.if-adds.true))

pub invariant_of-self-else-adds : goal.invariant_of-self-else-adds
invariant_of-self-else-adds c =
    let flight = c.index-items-flight.result in
    let here : slice_get c.self.inside.flights c.args.flight ≡ Some flight =
    slice_get_read c.self.inside.flights _ c.args.flight flight refl
    (rw (← c.self.view_is) at c.requires.here)
    (rw c.items.ensures at c.index-items-flight.is) in
    draft_with_leg _ _ _ _ _ _ _ _ _ _ flight c.self.invariant here
    ((rw (← c.self.view_is) at c.requires.valid) flight here) c.in_ok-add_leg.ensures.ok
    (sym (add-zero c.self.inside.nodes)
    ∙ counted c.self.inside.nodes (adds_node flight c.args.leg.to) false
    (sym c.adds_node-adds.ensures ∙ c.if-adds.false))
