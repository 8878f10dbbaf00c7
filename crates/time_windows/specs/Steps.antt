-- What one leg or one connection leaves of a window. No public clause cites these.
use Rattle.std.specs.Prelude.{ℕ, ◌+◌, ◌-◌, ◌==◌, nat_le, nat_lt, min, max, List, [], ◌∷◌, slice_index, slice_set, Option, None, Some, if◌then◌else◌}
use Rattle.std.specs.List.{filter}
use Rattle.flow_types.specs.declared.flight.Flight.{Flight}
use Rattle.flow_types.specs.declared.flight.Leg.{Leg}
use Rattle.time_windows.specs.declared.access.Access.{Access}
use Rattle.time_windows.specs.declared.access.Window.{Window}

-- later than every period
abbrev pub never : ℕ
never = 4294967295

-- the first period in which one can enter, from a node with this window
abbrev pub entry_of : Option Window → ℕ → ℕ
entry_of None least = never
entry_of (Some before) least = before.lo + least

-- before which period one has to enter, to go on to a node with this window
abbrev pub limit_of : Option Window → ℕ → ℕ
limit_of None least = 0
limit_of (Some next) least = (next.hi + 1) - least

-- no earlier than an entry
abbrev pub from_entry : Option Window → ℕ → Option Window
from_entry None entry = None
from_entry (Some window) entry =
    if nat_le entry window.hi then Some (record { lo = max window.lo entry; hi = window.hi })
    else None

-- before a limit
abbrev pub below_limit : Option Window → ℕ → Option Window
below_limit None limit = None
below_limit (Some window) limit =
    if nat_lt window.lo limit
    then Some (record { lo = window.lo; hi = min window.hi (limit - 1) }) else None

-- the entries after those by legs from a node with this window
abbrev pub with_entries : Option Window → List Leg → List ℕ → List ℕ
with_entries window [] entries = entries
with_entries window (leg ∷ legs) entries =
    with_entries window legs
    (slice_set entries leg.to (min (slice_index entries leg.to) (entry_of window leg.least)))

-- the latest of a limit and those of legs
abbrev pub latest_limit : (ℕ → Access) → List Leg → ℕ → ℕ
latest_limit row [] limit = limit
latest_limit row (leg ∷ legs) limit =
    latest_limit row legs (max limit (limit_of (row leg.to).window leg.least))

-- the legs of a flight from a node
abbrev pub legs_of : Flight → ℕ → List Leg
legs_of flight node = filter (λ leg. leg.from == node) flight.legs
