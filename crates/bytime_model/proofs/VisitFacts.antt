-- What the visits to a place take of its capacity is what all flights take of it.
use Rattle.std.proofs.Common.{◌≡◌, ℕ, suc, ◌+◌, ◌-◌, ◌≤◌, ◌==◌, List, [], ◌∷◌, ◌++◌, length, slice_get, Option, None, Some, All, refl, sym, ap, ap₂, ◌∙◌, subst, arith}
use Rattle.std.proofs.lemmas.Grind.{flat_map-append}
use Rattle.std.proofs.lemmas.List.{append-nil, length-append}
use Rattle.std.proofs.lemmas.List.Elements.{All-head, All-tail}
use Rattle.std.specs.List.{flat_map}
use Rattle.flow_types.specs.declared.flight.Flight.{Flight}
use Rattle.flow_types.specs.declared.parts.Parts.{Parts}
use Rattle.flow_types.specs.declared.place.CapKind.{CapKind}
use Rattle.flow_types.specs.declared.place.CapKind.TheVariants as kind
use Rattle.flow_types.specs.Limits.{most_flights}
use Rattle.flow_types.specs.Valid.{IsFlight, IsScenario}
use Rattle.bytime_model.specs.declared.variables.Term.{Term}
use Rattle.bytime_model.specs.declared.visits.Visit.{Visit}
use Rattle.bytime_model.specs.Filling.{Adds, visit_terms, visit_terms_in}
use Rattle.bytime_model.specs.Rows.{AtMost, capacity_terms, enters_in, node_from, of_flight, use_terms}
use Rattle.bytime_model.specs.Visits.{visit_by, visit_with, visits_at}
use Rattle.bytime_model.proofs.FillFacts.{adds_none, entry_few, if_few, stay_few}
use Rattle.bytime_model.proofs.NodeFacts.{end_found, end_terms}
use Rattle.exact_sums.specs.Lists.{flat_map_from}

-- a visit takes two terms at the most
visit_few : (kind : CapKind) (time : ℕ) (visit : Visit) (flight : Flight)
    → length (visit_terms kind time visit flight) ≤ 2
visit_few kind.Dep time visit flight =
    if_few (visit.node == 0) (enters_in visit.flight visit.node time) 2
    (entry_few visit.flight visit.node time)
visit_few kind.Arr time visit flight =
    if_few (visit.node == length flight.nodes - 1) (enters_in visit.flight visit.node time) 2
    (entry_few visit.flight visit.node time)
visit_few kind.Sector time visit flight = stay_few visit.flight flight time visit.node

of_few : (terms : Flight → List Term) (n : ℕ) → ((flight : Flight) → length (terms flight) ≤ n)
    → (flight : Option Flight) → length (of_flight terms flight) ≤ n
of_few terms n few None = omega arith
of_few terms n few (Some flight) = few flight

pub in_few : (kind : CapKind) (time : ℕ) (flights : List Flight) (visit : Visit)
    → length (visit_terms_in kind time flights visit) ≤ 2
in_few kind time flights visit =
    of_few (visit_terms kind time visit) 2 (visit_few kind time visit)
    (slice_get flights visit.flight)

-- a flight that isn't there takes nothing
pub none_takes : (kind : CapKind) (time : ℕ) (flights : List Flight) (visit : Visit)
    (row : AtMost) → slice_get flights visit.flight ≡ None
    → Adds (visit_terms_in kind time flights visit) row row
none_takes kind time flights visit row none =
    subst (λ o. Adds (of_flight (visit_terms kind time visit) o) row row) (sym none)
    (adds_none row)

pub some_takes : (kind : CapKind) (time : ℕ) (flights : List Flight) (visit : Visit)
    (flight : Flight) (old new : AtMost) → slice_get flights visit.flight ≡ Some flight
    → Adds (visit_terms kind time visit flight) old new
    → Adds (visit_terms_in kind time flights visit) old new
some_takes kind time flights visit flight old new is adds =
    subst (λ o. Adds (of_flight (visit_terms kind time visit) o) old new) (sym is) adds

-- what a flight takes, by the node that it has at the place
abbrev terms_at : CapKind → ℕ → ℕ → Flight → Option ℕ → List Term
terms_at kind time number flight None = []
terms_at kind time number flight (Some node) =
    visit_terms kind time (record { flight = number; node = node }) flight

uses_found : (kind : CapKind) (place time number periods : ℕ) (parts : Parts) (flight : Flight)
    → IsFlight periods parts.places parts.tables flight → (found : Option ℕ)
    → node_from place 0 flight.nodes ≡ found
    → use_terms kind place time number flight ≡ terms_at kind time number flight found
uses_found kind.Dep place time number periods parts flight valid found is =
    end_found place 0 flight.from flight.nodes valid.route.first
    (omega (arith, valid.route.nodes_from)) valid.route.different
    (λ node. enters_in number node time) found is
    ∙ same found
  where
    same : (found : Option ℕ)
        → end_terms place 0 flight.from flight.nodes valid.route.first
        (omega (arith, valid.route.nodes_from)) valid.route.different
        (λ node. enters_in number node time) found
        ≡ terms_at kind.Dep time number flight found
    same None = refl
    same (Some node) = refl
uses_found kind.Arr place time number periods parts flight valid found is =
    end_found place (length flight.nodes - 1) flight.to flight.nodes valid.route.last
    (omega (arith, valid.route.nodes_from)) valid.route.different
    (λ node. enters_in number node time) found is
    ∙ same found
  where
    same : (found : Option ℕ)
        → end_terms place (length flight.nodes - 1) flight.to flight.nodes valid.route.last
        (omega (arith, valid.route.nodes_from)) valid.route.different
        (λ node. enters_in number node time) found
        ≡ terms_at kind.Arr time number flight found
    same None = refl
    same (Some node) = refl
uses_found kind.Sector place time number periods parts flight valid None is = rw is refl
uses_found kind.Sector place time number periods parts flight valid (Some node) is = rw is refl

visit_found : (kind : CapKind) (time number : ℕ) (all : List Flight) (flight : Flight)
    → slice_get all number ≡ Some flight → (found : Option ℕ)
    → flat_map (visit_terms_in kind time all) (visit_with number found)
    ≡ terms_at kind time number flight found
visit_found kind time number all flight is None = refl
visit_found kind time number all flight is (Some node) =
    append-nil (visit_terms_in kind time all (record { flight = number; node = node }))
    ∙ ap (of_flight (visit_terms kind time (record { flight = number; node = node }))) is

over_visits : (kind : CapKind) (place time k periods : ℕ) (parts : Parts) (all flights :
    List Flight) → All (IsFlight periods parts.places parts.tables) flights
    → ((i : ℕ) (flight : Flight) → slice_get flights i ≡ Some flight
    → slice_get all (k + i) ≡ Some flight)
    → flat_map (visit_terms_in kind time all) (flat_map_from (visit_by place) k flights)
    ≡ flat_map_from (use_terms kind place time) k flights
over_visits kind place time k periods parts all [] valid there = refl
over_visits kind place time k periods parts all (flight ∷ flights) valid there =
    let one = node_from place 0 flight.nodes in
    let number : k + 0 ≡ k = omega arith in
    let here : slice_get all k ≡ Some flight =
    subst (λ n. slice_get all n ≡ Some flight) number (there 0 flight refl) in
    flat_map-append (visit_terms_in kind time all) (visit_by place k flight)
    (flat_map_from (visit_by place) (k + 1) flights)
    ∙ ap₂ (λ a b. a ++ b)
    (visit_found kind time k all flight here one
    ∙ sym (uses_found kind place time k periods parts flight
    (All-head (IsFlight periods parts.places parts.tables) flight flights valid) one refl))
    (over_visits kind place time (k + 1) periods parts all flights
    (All-tail (IsFlight periods parts.places parts.tables) flight flights valid)
    (λ i f is. subst (λ n. slice_get all n ≡ Some f) (omega arith) (there (suc i) f is)))

pub visits_take : (parts : Parts) (kind : CapKind) (place time : ℕ) → IsScenario parts
    → flat_map (visit_terms_in kind time parts.flights) (visits_at place parts.flights)
    ≡ capacity_terms parts kind place time
visits_take parts kind place time valid =
    over_visits kind place time 0 parts.day.periods parts parts.flights parts.flights
    valid.flights.each
    (λ i flight is. subst (λ n. slice_get parts.flights n ≡ Some flight) (omega arith) is)

-- a flight has one node at the place at the most
with_few : (number : ℕ) (found : Option ℕ) → length (visit_with number found) ≤ 1
with_few number None = omega arith
with_few number (Some node) = omega arith

over_few : (place k : ℕ) (flights : List Flight)
    → length (flat_map_from (visit_by place) k flights) ≤ length flights
over_few place k [] = omega arith
over_few place k (flight ∷ flights) =
    omega (
      arith,
      length-append (visit_by place k flight) (flat_map_from (visit_by place) (k + 1) flights),
      with_few k (node_from place 0 flight.nodes),
      over_few place (k + 1) flights,
    )

-- the visits that were looked up
pub visits_few : (parts : Parts) (place : ℕ) (visits : List Visit) → IsScenario parts
    → visits ≡ visits_at place parts.flights → length visits ≤ most_flights
visits_few parts place visits valid are =
    omega (arith, over_few place 0 parts.flights, valid.flights.few, ap length are)

pub visited_adds : (parts : Parts) (kind : CapKind) (place time : ℕ) (visits : List Visit)
    (start now : AtMost) → IsScenario parts → visits ≡ visits_at place parts.flights
    → Adds (flat_map (visit_terms_in kind time parts.flights) visits) start now
    → Adds (capacity_terms parts kind place time) start now
visited_adds parts kind place time visits start now valid are adds =
    subst (λ terms. Adds terms start now)
    (ap (flat_map (visit_terms_in kind time parts.flights)) are
    ∙ visits_take parts kind place time valid) adds
