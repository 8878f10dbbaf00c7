-- The flights that have a node at each place.
use Rattle.std.specs.Prelude.{◌≡◌, ℕ, ◌+◌, ◌==◌, ◌<◌, ◌≤◌, List, [], ◌∷◌, Option, None, Some, drop, length, get_or, slice_get, slice_index, if◌then◌else◌}
use Rattle.flow_types.specs.declared.flight.Flight.{Flight}
use Rattle.flow_types.specs.declared.parts.Parts.{Parts}
use Rattle.bytime_model.specs.declared.visits.Stand.{Stand}
use Rattle.bytime_model.specs.declared.visits.Visit.{Visit}
use Rattle.bytime_model.specs.Rows.{node_from}
use Rattle.exact_sums.specs.Lists.{flat_map_from}

-- a flight with its node at the place, where it has one
abbrev pub visit_with : ℕ → Option ℕ → List Visit
visit_with flight None = []
visit_with flight (Some node) = record { flight = flight; node = node } ∷ []

abbrev pub visit_by : ℕ → ℕ → Flight → List Visit
visit_by place number flight = visit_with number (node_from place 0 flight.nodes)

-- all flights that have a node at the place, each with it
abbrev pub visits_at : ℕ → List Flight → List Visit
visits_at place flights = flat_map_from (visit_by place) 0 flights

-- the lists of all places: there is none at any other
abbrev pub AreVisitsOf : Parts → List (List Visit) → Type 0
AreVisitsOf parts lists = (place : ℕ) → get_or lists place [] ≡ visits_at place parts.flights

-- a node of a flight, with its place
abbrev pub stand_of : ℕ → ℕ → ℕ → Stand
stand_of number node place =
    record { place = place; visit = record { flight = number; node = node } }

-- The nodes of a flight from one on, each with its place, and those of all flights: of these the
-- lists are made.
abbrev pub stands_from : ℕ → ℕ → List ℕ → List Stand
stands_from number = flat_map_from (λ node place. stand_of number node place ∷ [])

abbrev pub stands_of : ℕ → Flight → List Stand
stands_of number flight = stands_from number 0 flight.nodes

abbrev pub all_stands : List Flight → List Stand
all_stands flights = flat_map_from stands_of 0 flights

-- the visits at a place
abbrev pub visits_in : ℕ → List Stand → List Visit
visits_in place [] = []
visits_in place (stand ∷ stands) =
    if stand.place == place then stand.visit ∷ visits_in place stands else visits_in place stands

-- The first position, from one on, of one at the place, or one past all: none at the place is lost
-- from the one to the other.
pub record IsNextAt (place : ℕ) (stands : List Stand) (from at : ℕ) : Type 0 where
  pub late : from ≤ at
  pub same : visits_in place (drop from stands) ≡ visits_in place (drop at stands)
  pub here : (stand : Stand) → slice_get stands at ≡ Some stand → stand.place ≡ place

-- for each from a position on the next one at its place
abbrev pub AreNexts : List Stand → ℕ → List ℕ → Type 0
AreNexts stands from nexts = (k : ℕ) (stand : Stand) → from ≤ k → slice_get stands k ≡ Some stand
    → IsNextAt stand.place stands (k + 1) (slice_index nexts k)

-- for each place the first stand from a position on, and for each stand from there the next one at
-- its place
pub record AreLinks (stands : List Stand) (from : ℕ) (firsts nexts : List ℕ) : Type 0 where
  pub first : (place : ℕ) → place < length firsts
      → IsNextAt place stands from (slice_index firsts place)
  pub next : AreNexts stands from nexts
