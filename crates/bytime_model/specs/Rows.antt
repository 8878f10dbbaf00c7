-- The rows of the by-time program, by their names.
use Rattle.std.specs.Prelude.{◌≢◌, ℕ, ◌+◌, ◌-◌, ◌==◌, Bool, false, ◌&&◌, nat_le, nat_lt, List, [], ◌∷◌, ◌++◌, length, All, AllPairs, Option, Some, None, slice_get, ℤ, pos, neg_ℤ, ◌≤ℤ◌, if◌then◌else◌}
use Rattle.std.specs.List.{flat_map}
use Rattle.flow_types.specs.declared.flight.Connection.{Connection}
use Rattle.flow_types.specs.declared.flight.Flight.{Flight}
use Rattle.flow_types.specs.declared.flight.Leg.{Leg}
use Rattle.flow_types.specs.declared.parts.Parts.{Parts}
use Rattle.flow_types.specs.declared.place.CapKind.{CapKind}
use Rattle.flow_types.specs.declared.place.CapKind.TheVariants as kind
use Rattle.flow_types.specs.declared.plan.Stop.{Stop}
use Rattle.flow_types.specs.Capacities.{capacity_of, has_kind}
use Rattle.flow_types.specs.Feasible.{IsFeasible}
use Rattle.bytime_model.specs.declared.names.RowName.{RowName}
use Rattle.bytime_model.specs.declared.names.RowName.TheVariants.{Arr, Connect, Cut, Dep, Enter, Leave, Mono, Occupy, Sector, Top}
use Rattle.bytime_model.specs.declared.variables.Term.{Term}
use Rattle.bytime_model.specs.declared.variables.Var.{Var}
use Rattle.bytime_model.specs.declared.variables.Var.TheVariants.{By, Inside}
use Rattle.bytime_model.specs.Values.{form_value, has_inside, is_plain, value_at}
use Rattle.exact_sums.specs.Lists.{flat_map_from}

abbrev pub one : ℤ
one = pos 1

abbrev pub minus_one : ℤ
minus_one = neg_ℤ (pos 1)

-- so many times the variable
abbrev pub term_of : ℤ → Var → Term
term_of factor variable = record { variable = variable; factor = factor }

-- so many times the variable of so many periods before; nothing before the day
abbrev pub by_before : ℤ → ℕ → ℕ → ℕ → ℕ → List Term
by_before factor flight node time wait =
    if nat_le wait time then term_of factor (By flight node (time - wait)) ∷ [] else []

-- entered in this very period
abbrev pub enters_in : ℕ → ℕ → ℕ → List Term
enters_in flight node time =
    term_of one (By flight node time) ∷ by_before minus_one flight node time 1

-- less having entered what the legs from a node lead to
abbrev pub on_term : ℕ → ℕ → ℕ → Leg → List Term
on_term number node time leg =
    if leg.from == node then term_of minus_one (By number leg.to time) ∷ [] else []

abbrev pub on_terms : ℕ → Flight → ℕ → ℕ → List Term
on_terms number flight node time = flat_map (on_term number node time) flight.legs

-- less having entered what the legs to a node come from, as long ago as they take
abbrev pub back_term : ℕ → ℕ → ℕ → Leg → List Term
back_term number node time leg =
    if leg.to == node then by_before minus_one number leg.from time leg.least else []

abbrev pub back_terms : ℕ → Flight → ℕ → ℕ → List Term
back_terms number flight node time = flat_map (back_term number node time) flight.legs

-- being inside the node in the period
abbrev pub stay_terms : ℕ → Flight → ℕ → ℕ → List Term
stay_terms number flight time node =
    if is_plain flight node then term_of one (By number node time) ∷ on_terms number flight node
    time
    else term_of one (Inside number node time) ∷ []

-- the node at the place: there is one at most, since all are at different places
abbrev pub node_from : ℕ → ℕ → List ℕ → Option ℕ
node_from place k [] = None
node_from place k (here ∷ nodes) = if here == place then Some k else node_from place (k + 1) nodes

abbrev pub stay_terms_at : ℕ → Flight → ℕ → Option ℕ → List Term
stay_terms_at number flight time None = []
stay_terms_at number flight time (Some node) = stay_terms number flight time node

-- what a flight takes of the place's capacity of a kind in the period: it departs, arrives, or is
-- inside
abbrev pub use_terms : CapKind → ℕ → ℕ → ℕ → Flight → List Term
use_terms kind.Dep place time number flight =
    if flight.from == place then enters_in number 0 time else []
use_terms kind.Arr place time number flight =
    if flight.to == place then enters_in number (length flight.nodes - 1) time else []
use_terms kind.Sector place time number flight =
    stay_terms_at number flight time (node_from place 0 flight.nodes)

-- what all flights take of it
abbrev pub capacity_terms : Parts → CapKind → ℕ → ℕ → List Term
capacity_terms parts kind place time = flat_map_from (use_terms kind place time) 0 parts.flights

-- there is such a capacity
abbrev pub is_capacity : Parts → CapKind → ℕ → ℕ → Bool
is_capacity parts kind place time =
    has_kind kind (slice_get parts.places place) && nat_lt time parts.day.periods

-- the node is one of the flight's
abbrev pub is_node : Option Flight → ℕ → Bool
is_node None node = false
is_node (Some flight) node = nat_lt node (length flight.nodes)

-- so many nodes
abbrev pub node_count : Option Flight → ℕ
node_count None = 0
node_count (Some flight) = length flight.nodes

-- it goes on from the node
abbrev pub goes_on : Option Flight → ℕ → Bool
goes_on None node = false
goes_on (Some flight) node = nat_lt (node + 1) (length flight.nodes)

abbrev pub last_node : Option Flight → ℕ
last_node None = 0
last_node (Some flight) = length flight.nodes - 1

-- there is such a row
abbrev pub is_row : Parts → RowName → Bool
is_row parts (Mono f n t) =
    is_node (slice_get parts.flights f) n && (nat_lt 0 t && nat_lt t parts.day.periods)
is_row parts (Top f n) = is_node (slice_get parts.flights f) n
is_row parts (Dep p t) = is_capacity parts kind.Dep p t
is_row parts (Arr p t) = is_capacity parts kind.Arr p t
is_row parts (Sector p t) = is_capacity parts kind.Sector p t
is_row parts (Occupy f n t) =
    has_inside (slice_get parts.flights f) n && nat_lt t parts.day.periods
is_row parts (Enter f n t) =
    is_node (slice_get parts.flights f) n && (nat_lt 0 n && nat_lt t parts.day.periods)
is_row parts (Leave f n) = goes_on (slice_get parts.flights f) n
is_row parts (Connect c t) = nat_lt c (length parts.connections) && nat_lt t parts.day.periods
is_row parts (Cut i) = false

-- entered by the period, and neither further on nor inside
abbrev pub occupy_terms : ℕ → Flight → ℕ → ℕ → List Term
occupy_terms number flight node time =
    term_of one (By number node time)
    ∷ (on_terms number flight node time ++ term_of minus_one (Inside number node time) ∷ [])

-- entered by the period, and none before it in time
abbrev pub enter_terms : ℕ → Flight → ℕ → ℕ → List Term
enter_terms number flight node time =
    term_of one (By number node time) ∷ back_terms number flight node time

-- entered by the period, and not further on
abbrev pub leave_terms : ℕ → Flight → ℕ → ℕ → List Term
leave_terms number flight node time =
    term_of one (By number node time) ∷ on_terms number flight node time

-- the second flight has departed, and the first hadn't entered its last node in time for it
abbrev pub turn_terms : Connection → ℕ → ℕ → List Term
turn_terms connection last time =
    term_of one (By connection.second 0 time)
    ∷ by_before minus_one connection.first last time connection.turnaround

abbrev pub connect_terms : List Flight → Connection → ℕ → List Term
connect_terms flights connection time =
    turn_terms connection (last_node (slice_get flights connection.first)) time

-- what a flight or a connection that is there puts into a row
abbrev pub of_flight : (Flight → List Term) → Option Flight → List Term
of_flight terms None = []
of_flight terms (Some flight) = terms flight

abbrev pub of_connection : (Connection → List Term) → Option Connection → List Term
of_connection terms None = []
of_connection terms (Some connection) = terms connection

-- the left side of a row
abbrev pub row_terms : Parts → RowName → List Term
row_terms parts (Mono f n t) =
    term_of one (By f n (t - 1)) ∷ term_of minus_one (By f n t) ∷ []
row_terms parts (Top f n) = term_of one (By f n (parts.day.periods - 1)) ∷ []
row_terms parts (Dep p t) = capacity_terms parts kind.Dep p t
row_terms parts (Arr p t) = capacity_terms parts kind.Arr p t
row_terms parts (Sector p t) = capacity_terms parts kind.Sector p t
row_terms parts (Occupy f n t) =
    of_flight (λ flight. occupy_terms f flight n t) (slice_get parts.flights f)
row_terms parts (Enter f n t) =
    of_flight (λ flight. enter_terms f flight n t) (slice_get parts.flights f)
row_terms parts (Leave f n) =
    of_flight (λ flight. leave_terms f flight n (parts.day.periods - 1))
    (slice_get parts.flights f)
row_terms parts (Connect c t) =
    of_connection (λ connection. connect_terms parts.flights connection t)
    (slice_get parts.connections c)
row_terms parts (Cut i) = []

-- the limit of the row of a name
abbrev pub row_limit : Parts → RowName → ℕ
row_limit parts (Mono f n t) = 0
row_limit parts (Top f n) = 1
row_limit parts (Dep p t) = capacity_of parts.places kind.Dep p t
row_limit parts (Arr p t) = capacity_of parts.places kind.Arr p t
row_limit parts (Sector p t) = capacity_of parts.places kind.Sector p t
row_limit parts (Occupy f n t) = 0
row_limit parts (Enter f n t) = 0
row_limit parts (Leave f n) = 0
row_limit parts (Connect c t) = 0
row_limit parts (Cut i) = 0

-- like terms are collected: no two are of one variable, and no factor is 0
abbrev pub AreOther : Term → Term → Type 0
AreOther a b = a.variable ≢ b.variable

pub record AreCollected (terms : List Term) : Type 0 where
  pub once : AllPairs AreOther terms
  pub no_zero : All (λ term. term.factor ≢ pos 0) terms

-- how many terms a row may have
abbrev pub most_terms : ℕ
most_terms = 8192

-- terms that are to be at most a limit
pub record AtMost : Type 0 where
  pub terms : List Term
  pub limit : ℤ

abbrev pub row_of : Parts → RowName → AtMost
row_of parts name = record { terms = row_terms parts name; limit = pos (row_limit parts name) }

-- none
abbrev pub no_row : AtMost
no_row = record { terms = []; limit = pos 0 }

-- where variables have these values, the row holds
abbrev pub RowHolds : (Var → ℕ) → AtMost → Type 0
RowHolds value row = form_value value row.terms ≤ℤ row.limit

-- no plan that keeps every rule breaks it
abbrev pub IsValid : Parts → AtMost → Type 0
IsValid parts row = (plan : List (List Stop)) → IsFeasible parts plan
    → RowHolds (value_at parts.flights plan) row
