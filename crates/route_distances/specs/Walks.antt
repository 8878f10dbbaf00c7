-- Walks along the legs of a flight: how long they take at the least, and where they lead.
use Rattle.std.specs.Prelude.{◌≡◌, ℕ, zero, suc, ◌+◌, ◌≤◌, ◌<◌, ◌==◌, Bool, false, ◌&&◌, ◌||◌, min, List, [], ◌∷◌, length, Option, None, Some, if◌then◌else◌}
use Rattle.std.specs.List.{Contains, list_any}
use Rattle.flow_types.specs.declared.flight.Flight.{Flight}
use Rattle.flow_types.specs.declared.flight.Leg.{Leg}

-- legs, one after the other, from one node to another
abbrev pub IsWalk : List Leg → ℕ → List Leg → ℕ → Type 0
IsWalk legs from [] to = from ≡ to
IsWalk legs from (leg ∷ walk) to =
    Contains legs leg × (leg.from ≡ from) × IsWalk legs leg.to walk to

-- how long they take
abbrev pub time_of : List Leg → ℕ
time_of [] = 0
time_of (leg ∷ walk) = leg.least + time_of walk

-- the least time of a walk from node 0
pub record IsShortest (legs : List Leg) (node time : ℕ) : Type 0 where
  pub reached : (walk : List Leg) × IsWalk legs 0 walk node × (time_of walk ≡ time)
  pub below : (walk : List Leg) → IsWalk legs 0 walk node → time ≤ time_of walk

-- a walk of one leg or more
abbrev pub IsReached : List Leg → ℕ → ℕ → Type 0
IsReached legs from to = (leg : Leg) × (walk : List Leg) × IsWalk legs from (leg ∷ walk) to

-- The least times node by node, since legs lead from lower nodes to higher ones: the least that the
-- legs into a node come to, by the times of where they are from.
abbrev pub sooner : ℕ → Option ℕ → ℕ
sooner time None = time
sooner time (Some other) = min time other

abbrev pub least_with : (ℕ → ℕ) → ℕ → Option ℕ → Leg → Option ℕ
least_with far node least leg =
    if leg.to == node then Some (sooner (far leg.from + leg.least) least) else least

abbrev pub least_into : (ℕ → ℕ) → ℕ → List Leg → Option ℕ
least_into far node [] = None
least_into far node (leg ∷ legs) = least_with far node (least_into far node legs) leg

abbrev pub or_zero : Option ℕ → ℕ
or_zero None = 0
or_zero (Some time) = time

-- of the first so many nodes; a node that no leg leads to is at 0
abbrev pub far_upto : List Leg → ℕ → ℕ → ℕ
far_upto legs zero node = 0
far_upto legs (suc count) node =
    if node == count then or_zero (least_into (far_upto legs count) count legs)
    else far_upto legs count node

abbrev pub shortest_of : List Leg → ℕ → ℕ
shortest_of legs node = far_upto legs (suc node) node

-- a leg into the node is from where the walk starts, or from a node that it leads to
abbrev pub leads_into : (ℕ → Bool) → ℕ → ℕ → List Leg → Bool
leads_into reached from node legs =
    list_any (λ leg. (leg.to == node) && ((leg.from == from) || reached leg.from)) legs

abbrev pub reach_upto : List Leg → ℕ → ℕ → ℕ → Bool
reach_upto legs from zero node = false
reach_upto legs from (suc count) node =
    if node == count then leads_into (reach_upto legs from count) from count legs
    else reach_upto legs from count node

abbrev pub reaches_of : List Leg → ℕ → ℕ → Bool
reaches_of legs from node = reach_upto legs from (suc node) node

-- the legs of a flight, none where there is no such flight
abbrev pub legs_of : Option Flight → List Leg
legs_of None = []
legs_of (Some flight) = flight.legs

-- the node is one of the flight's
abbrev pub HasNode : Option Flight → ℕ → Type 0
HasNode None node = ⊥
HasNode (Some flight) node = node < length flight.nodes
