-- What boxes hold, and the box that this is.
use Rattle.std.specs.Prelude.{◌≡◌, ℕ, ◌+◌, ◌*◌, ◌==◌, ◌<◌, nat_lt, List, [], get_or, slice_get, slice_index_or, Some, if◌then◌else◌}
use Rattle.std.specs.List.{filter}
use Rattle.flow_types.specs.declared.flight.Flight.{Flight}
use Rattle.flow_types.specs.declared.flight.Leg.{Leg}
use Rattle.flow_types.specs.declared.parts.Parts.{Parts}
use Rattle.flow_types.specs.Limits.{most_nodes}
use Rattle.time_windows.specs.declared.access.Access.{Access}
use Rattle.time_windows.specs.Boxes.{Box, IsBoxOf, closed}
use Rattle.time_windows.specs.Groups.{Grouped}
use Rattle.time_windows.specs.Turns.{AreTurnsOf, TurnLists}

-- the accesses, and the legs grouped by flight and start, both by flight and then by node; and the
-- connections of each flight
pub record Held : Type 0 where
  pub accesses : List Access
  pub leg_groups : Grouped Leg
  pub turns : TurnLists

-- the box of a list with so many places a flight; where it has none, a node is closed
abbrev pub access_at : List Access → Box
access_at accesses flight node =
    if nat_lt node most_nodes then slice_index_or accesses (flight * most_nodes + node) closed
    else closed

abbrev pub box_of : Held → Box
box_of held = access_at held.accesses

-- the groups are those of the scenario's flights, the legs of one node in the order of the text
abbrev pub AreLegGroupsOf : Parts → Grouped Leg → Type 0
AreLegGroupsOf parts leg_groups =
    (f n : ℕ) (flight : Flight) → slice_get parts.flights f ≡ Some flight → n < most_nodes
    → get_or leg_groups.closed (f * most_nodes + n) [] ≡ filter (λ leg. leg.from == n) flight.legs

-- The boxes are of the scenario: the groups are those of its flights and connections, and the box
-- lies within its root box.
pub record IsMadeFor (parts : Parts) (held : Held) : Type 0 where
  pub leg_groups : AreLegGroupsOf parts held.leg_groups
  pub turns : AreTurnsOf parts held.turns
  pub inside : IsBoxOf parts (box_of held)
