-- Where a plan is outside a box first: by flight, then node.
use Rattle.std.specs.Prelude.{ℕ, zero, suc, ◌==◌, ◌+◌, Bool, false, ◌&&◌, ◌||◌, not, nat_le, List, [], ◌∷◌, Option, None, Some, option_map, if◌then◌else◌}
use Rattle.std.specs.List.{list_any}
use Rattle.std.specs.Option.{option_or}
use Rattle.flow_types.specs.declared.plan.Stop.{Stop}
use Rattle.flow_types.specs.Limits.{most_nodes}
use Rattle.time_windows.specs.declared.access.Access.{Access}
use Rattle.time_windows.specs.declared.access.Window.{Window}
use Rattle.time_windows.specs.Boxes.{Box}

abbrev pub is_in_window : Option Window → ℕ → Bool
is_in_window None time = false
is_in_window (Some window) time = nat_le window.lo time && nat_le time window.hi

-- a stop at the node that isn't in its window
abbrev pub is_stray : Option Window → ℕ → Stop → Bool
is_stray window node stop = (stop.node == node) && not (is_in_window window stop.time)

abbrev pub is_at : ℕ → Stop → Bool
is_at node stop = stop.node == node

-- a stop at the node that isn't in its window, or no stop there, where there must be one
abbrev pub is_outside : Access → ℕ → List Stop → Bool
is_outside access node stops =
    list_any (is_stray access.window node) stops
    || (access.must && not (list_any (is_at node) stops))

-- the first number below n at which the test holds
unfoldable pub first_below : (ℕ → Bool) → ℕ → Option ℕ
first_below test zero = None
first_below test (suc n) = option_or (first_below test n) (if test n then Some n else None)

abbrev pub node_outside : (ℕ → Access) → List Stop → Option ℕ
node_outside row stops = first_below (λ node. is_outside (row node) node stops) most_nodes

-- from the flight of this number on
abbrev pub outside_from : Box → ℕ → List (List Stop) → Option (ℕ × ℕ)
outside_from box flight [] = None
outside_from box flight (trip ∷ plan) =
    option_or (option_map (λ node. (flight, node)) (node_outside (box flight) trip))
    (outside_from box (flight + 1) plan)

abbrev pub first_outside : Box → List (List Stop) → Option (ℕ × ℕ)
first_outside box plan = outside_from box 0 plan
