-- The network of a flight: its nodes are places, and its legs lead from lower nodes to higher ones.
use Rattle.std.specs.Prelude.{◌≡◌, ◌≢◌, ℕ, ◌+◌, ◌-◌, ◌<◌, ◌≤◌, ◌==◌, Bool, true, false, ◌&&◌, not, nat_le, max, List, [], ◌∷◌, length, Option, Some, None, slice_get, slice_index, IsTrue, All, AllPairs, count_by, if◌then◌else◌}
use Rattle.std.specs.List.{list_any}
use Rattle.flow_types.specs.declared.flight.Leg.{Leg}
use Rattle.flow_types.specs.declared.place.Place.{Place}
use Rattle.flow_types.specs.declared.place.PlaceKind.{PlaceKind}
use Rattle.flow_types.specs.declared.place.PlaceKind.TheVariants.{Airport, Sector}
use Rattle.flow_types.specs.Limits.{most_delay, most_legs, most_nodes}

abbrev pub is_airport_kind : PlaceKind → Bool
is_airport_kind Airport = true
is_airport_kind Sector = false

-- there is an airport
abbrev pub is_airport : Option Place → Bool
is_airport None = false
is_airport (Some place) = is_airport_kind place.kind

-- there is a sector
abbrev pub is_sector : Option Place → Bool
is_sector None = false
is_sector (Some place) = not (is_airport_kind place.kind)

-- some leg leaves the node; some leg enters it
abbrev pub is_left : List Leg → ℕ → Bool
is_left legs node = list_any (λ leg. leg.from == node) legs

abbrev pub is_entered : List Leg → ℕ → Bool
is_entered legs node = list_any (λ leg. leg.to == node) legs

-- Each leg starts at the origin, at a sector that a leg before it started from, or at the next
-- sector: so the sectors stand in the order of their first use as the start of a leg.
abbrev pub starts_in_order : ℕ → List Leg → Bool
starts_in_order next [] = true
starts_in_order next (leg ∷ legs) =
    nat_le leg.from next && starts_in_order (max next (leg.from + 1)) legs

-- the leg is between nodes, upward, and takes no longer than it may
pub record IsLeg (nodes : ℕ) (leg : Leg) : Type 0 where
  pub upward : leg.from < leg.to
  pub within : leg.to < nodes
  pub least : leg.least ≤ most_delay

-- the two legs join different pairs of nodes
abbrev pub IsOtherLeg : Leg → Leg → Type 0
IsOtherLeg a b = a.from ≡ b.from → a.to ≢ b.to

-- The nodes are the origin, different sectors in the order of their first use, and the destination;
-- every node but the origin is entered, and every node but the destination is left.
pub record IsRoute (places : List Place) (origin destination : ℕ) (nodes : List ℕ)
    (legs : List Leg) : Type 0 where
  pub nodes_from : 2 ≤ length nodes
  pub nodes_to : length nodes ≤ most_nodes
  pub legs_to_limit : length legs ≤ most_legs
  pub first : slice_index nodes 0 ≡ origin
  pub last : slice_index nodes (length nodes - 1) ≡ destination
  pub sectors : (k : ℕ) → 0 < k → k + 1 < length nodes
      → IsTrue (is_sector (slice_get places (slice_index nodes k)))
  pub different : AllPairs (λ a b. a ≢ b) nodes
  pub each_leg : All (IsLeg (length nodes)) legs
  pub once : AllPairs IsOtherLeg legs
  pub order : IsTrue (starts_in_order 1 legs)
  pub entered : (k : ℕ) → 0 < k → k < length nodes → IsTrue (is_entered legs k)
  pub left : (k : ℕ) → k + 1 < length nodes → IsTrue (is_left legs k)

-- where the first leg from a node leads
abbrev pub next_of : List Leg → ℕ → ℕ
next_of [] node = node
next_of (leg ∷ legs) node = if leg.from == node then leg.to else next_of legs node

-- The node is a sector with one successor, of which it is the one predecessor: whoever enters it
-- is inside until the successor is entered.
pub record IsPlain (nodes : List ℕ) (legs : List Leg) (node : ℕ) : Type 0 where
  pub after_origin : 0 < node
  pub before_destination : node + 1 < length nodes
  pub one_way_on : count_by (λ leg. leg.from == node) legs ≡ 1
  pub one_way_in : count_by (λ leg. leg.to == next_of legs node) legs ≡ 1

-- no two legs leave one node: there is one way on from each
abbrev pub IsChain : List Leg → Type 0
IsChain legs = AllPairs (λ a b. a.from ≢ b.from) legs
