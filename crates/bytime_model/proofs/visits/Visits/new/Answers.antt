use Rattle.std.proofs.Common.{◌^◌, ◌<◌, List, All, length, ap, ◌∙◌, subst, sym}
use Rattle.flow_types.specs.declared.place.Place.{Place}
use Rattle.flow_types.specs.Scenario.{parts_of}
use Rattle.bytime_model.specs.declared.visits.Stand.{Stand}
use Rattle.bytime_model.specs.Visits.{all_stands, visits_in}
use Rattle.bytime_model.proofs.StandFacts.{stands_few, stands_there, visits_made}
use Rattle.bytime_model.proofs.visits.Visits.new.Goals as goal

pub visits_by_place-requires-clause-few : goal.visits_by_place-requires-clause-few
visits_by_place-requires-clause-few c =
    subst (λ (stands : List Stand). length stands < 2 ^ 32)
    (sym (c.items.ensures ∙ c.in_ok-stands.ensures))
    (stands_few (parts_of c.args.s.now) c.args.s.now.valid)

pub visits_by_place-requires-clause-places : goal.visits_by_place-requires-clause-places
visits_by_place-requires-clause-places c =
    subst (λ (stands : List Stand). All (λ (s : Stand). s.place < length c.places.result.now)
    stands) (sym (c.items.ensures ∙ c.in_ok-stands.ensures))
    (subst (λ (places : List Place). All (λ (s : Stand). s.place < length places)
    (all_stands (parts_of c.args.s.now).flights)) (sym c.places.ensures)
    (stands_there (parts_of c.args.s.now) c.args.s.now.valid))

pub returns : goal.returns
returns c =
    let parts = parts_of c.args.s.now in
    visits_made parts c.in_ok-visits_by_place.field-0.closed c.args.s.now.valid
    (c.in_ok-visits_by_place.ensures.count ∙ ap length c.places.ensures)
    (λ place within. c.in_ok-visits_by_place.ensures.visits place
    (subst (λ (places : List Place). place < length places) (sym c.places.ensures) within)
    ∙ ap (visits_in place) (c.items.ensures ∙ c.in_ok-stands.ensures))
