-- A network of six nodes: by one way a node is nearer than by another, and some lead to none of
-- the others.
use Rattle.std.proofs.Common.{◌≡◌, ℕ, true, false, List, [], ◌∷◌, map, refl}
use Rattle.flow_types.specs.declared.flight.Leg.{Leg}
use Rattle.route_distances.specs.Walks.{reaches_of, shortest_of}

abbrev leg_with : ℕ → ℕ → ℕ → Leg
leg_with from to least = record { from = from; to = to; least = least }

abbrev knot : List Leg
knot =
    leg_with 0 1 2 ∷ leg_with 0 2 1 ∷ leg_with 1 2 0 ∷ leg_with 1 3 4 ∷ leg_with 1 4 1
    ∷ leg_with 2 5 2 ∷ leg_with 3 5 0 ∷ leg_with 4 5 3 ∷ []

abbrev nodes : List ℕ
nodes = 0 ∷ 1 ∷ 2 ∷ 3 ∷ 4 ∷ 5 ∷ []

how_far : map (shortest_of knot) nodes ≡ 0 ∷ 2 ∷ 1 ∷ 6 ∷ 3 ∷ 3 ∷ []
how_far = refl

-- of a node that isn't there
nowhere : shortest_of knot 6 ≡ 0
nowhere = refl

from_the_origin : map (reaches_of knot 0) nodes ≡ false ∷ true ∷ true ∷ true ∷ true ∷ true ∷ []
from_the_origin = refl

from_the_first : map (reaches_of knot 1) nodes ≡ false ∷ false ∷ true ∷ true ∷ true ∷ true ∷ []
from_the_first = refl

-- these lead to the last node alone
from_the_second : map (reaches_of knot 2) nodes
    ≡ false ∷ false ∷ false ∷ false ∷ false ∷ true ∷ []
from_the_second = refl

from_the_last : map (reaches_of knot 5) nodes
    ≡ false ∷ false ∷ false ∷ false ∷ false ∷ false ∷ []
from_the_last = refl
