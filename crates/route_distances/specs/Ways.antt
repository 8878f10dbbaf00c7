-- What is known of the walks along a flight's legs.
use Rattle.std.specs.Prelude.{◌≡◌, ℕ, Bool, false, List, [], slice_index, slice_index_or}
use Rattle.exact_sums.specs.Lists.{AreEach}
use Rattle.flow_types.specs.declared.flight.Leg.{Leg}
use Rattle.route_distances.specs.Walks.{reaches_of, shortest_of}

-- the least time from node 0 to each node, and for each node a mark for each one that it leads to
pub record Ways : Type 0 where
  pub times : List ℕ
  pub reached : List (List Bool)

-- a node without a time is at 0, and one without a mark is led to by none
abbrev pub shortest_in : Ways → ℕ → ℕ
shortest_in ways node = slice_index ways.times node

abbrev pub reaches_in : Ways → ℕ → ℕ → Bool
reaches_in ways from to = slice_index_or (slice_index_or ways.reached from []) to false

-- these are the ways along the legs
pub record AreWaysAlong (legs : List Leg) (ways : Ways) : Type 0 where
  pub shortest : (node : ℕ) → shortest_in ways node ≡ shortest_of legs node
  pub reaches : (from to : ℕ) → reaches_in ways from to ≡ reaches_of legs from to

-- How they are made: for the first so many nodes. No public clause cites what follows.
abbrev pub AreShortest : List Leg → ℕ → List ℕ → Type 0
AreShortest legs = AreEach (λ node time. time ≡ shortest_of legs node) 0

abbrev pub AreReached : List Leg → ℕ → ℕ → List Bool → Type 0
AreReached legs from = AreEach (λ node mark. mark ≡ reaches_of legs from node) false

-- marks for each of so many nodes to start from
abbrev pub AreAllReached : List Leg → ℕ → ℕ → List (List Bool) → Type 0
AreAllReached legs nodes = AreEach (λ from marks. AreReached legs from nodes marks) []
