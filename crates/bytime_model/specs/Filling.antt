-- What each step of filling a row, or of adding up what flights cost, does. No public clause cites
-- these.
use Rattle.std.specs.Prelude.{◌≡◌, Bool, false, true, ℕ, ◌-◌, ◌==◌, List, [], ◌++◌, length, slice_get, if◌then◌else◌, pos}
use Rattle.flow_types.specs.declared.flight.Flight.{Flight}
use Rattle.flow_types.specs.declared.parts.Parts.{Parts}
use Rattle.flow_types.specs.declared.place.CapKind.{CapKind}
use Rattle.flow_types.specs.declared.place.CapKind.TheVariants as kind
use Rattle.flow_types.specs.Capacities.{capacity_of}
use Rattle.bytime_model.specs.declared.names.RowName.{RowName}
use Rattle.bytime_model.specs.declared.variables.Term.{Term}
use Rattle.bytime_model.specs.declared.visits.Visit.{Visit}
use Rattle.bytime_model.specs.Rows.{AtMost, capacity_terms, enters_in, is_capacity, is_row, no_row, of_flight, row_of, stay_terms}

-- more terms at the end, and the same limit
pub record Adds (more : List Term) (old new : AtMost) : Type 0 where
  pub terms : new.terms ≡ old.terms ++ more
  pub limit : new.limit ≡ old.limit

-- what is told of a name, and the row that is held then
pub record Fills (parts : Parts) (name : RowName) (answer : Bool) (held : AtMost) : Type 0 where
  pub told : answer ≡ is_row parts name
  pub row : answer ≡ true → held ≡ row_of parts name
  pub none : answer ≡ false → held ≡ no_row

-- what is told of the row of a capacity, and the row that is held then
pub record FillsCapacity (parts : Parts) (kind : CapKind) (place period : ℕ) (answer : Bool)
    (held : AtMost) : Type 0 where
  pub told : answer ≡ is_capacity parts kind place period
  pub row : answer ≡ true → held ≡ record {
    terms = capacity_terms parts kind place period;
    limit = pos (capacity_of parts.places kind place period);
  }
  pub none : answer ≡ false → held ≡ no_row

-- What a flight takes of a capacity in the period, by its visit to the place: it departs from its
-- first node, and arrives at its last one.
abbrev pub visit_terms : CapKind → ℕ → Visit → Flight → List Term
visit_terms kind.Dep time visit flight =
    if visit.node == 0 then enters_in visit.flight visit.node time else []
visit_terms kind.Arr time visit flight =
    if visit.node == length flight.nodes - 1 then enters_in visit.flight visit.node time else []
visit_terms kind.Sector time visit flight = stay_terms visit.flight flight time visit.node

-- the terms of a visit, by the flight's number: none where there is no such flight
abbrev pub visit_terms_in : CapKind → ℕ → List Flight → Visit → List Term
visit_terms_in kind time flights visit =
    of_flight (visit_terms kind time visit) (slice_get flights visit.flight)
