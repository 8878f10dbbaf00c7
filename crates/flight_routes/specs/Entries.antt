-- From one node to the next, by periods alone: what being at the node has cost up to each period,
-- how long it is clear from each period on, and what the next one holds for each period.
use Rattle.std.specs.Prelude.{◌≡◌, ℕ, ◌+◌, ◌<◌, ◌≤◌, ◌==◌, max, nat_le, List, Option, None, IsSome, slice_index_or, ℤ, ◌+ℤ◌, ◌-ℤ◌, if◌then◌else◌}
use Rattle.flow_types.specs.declared.flight.Leg.{Leg}
use Rattle.time_windows.specs.declared.access.Access.{Access}
use Rattle.time_windows.specs.declared.access.Window.{Window}
use Rattle.time_windows.specs.Boxes.{IsInWindow}
use Rattle.exact_sums.specs.Leasts.{IsLeast, lesser, raised}
use Rattle.flight_routes.specs.RateLists.{place_of}
use Rattle.flight_routes.specs.Rates.{PassesNoMust, Rates, value_or_zero}

-- what a table of cells holds for a node and a period
abbrev pub cell_at : List (Option ℤ) → ℕ → ℕ → Option ℤ
cell_at cells node time = slice_index_or cells (place_of node time) None

abbrev pub cell_in : List (Option ℤ) → ℕ → Option ℤ
cell_in cells time = slice_index_or cells time None

-- Whoever is at the node in a period may enter the next one in this period, and go on from there.
pub record IsEntry (clear : ℕ → ℕ) (cell : ℕ → Option ℤ) (next : Window) (from time : ℕ)
    : Type 0 where
  pub late : from ≤ time
  pub stay : time ≤ max from (clear from)
  pub lo : next.lo ≤ time
  pub hi : time ≤ next.hi
  pub reaches : IsSome (cell time)

abbrev pub entry_cost : (ℕ → ℤ) → (ℕ → Option ℤ) → ℕ → ℤ
entry_cost paid cell time = value_or_zero (cell time) +ℤ paid time

-- the least entry from a period on, by that from the next one on
abbrev pub kept_of : (ℕ → ℕ) → ℕ → Option ℤ → Option ℤ
kept_of clear time wait = if clear time == time then None else wait

abbrev pub entered_of : (ℕ → ℤ) → (ℕ → Option ℤ) → Window → ℕ → Option ℤ
entered_of paid cell next time =
    if nat_le next.lo time then raised (paid time) (cell time) else None

-- Whoever enters the node in a period may leave it by the leg and enter the next one in this one.
pub record IsMove (clear : ℕ → ℕ) (cell : ℕ → Option ℤ) (next : Window) (least from time : ℕ)
    : Type 0 where
  pub late : from + least ≤ time
  pub stay : time ≤ clear from
  pub lo : next.lo ≤ time
  pub hi : time ≤ next.hi
  pub reaches : IsSome (cell time)

abbrev pub move_cost : (ℕ → ℤ) → (ℕ → Option ℤ) → ℕ → ℕ → ℤ
move_cost paid cell from time = (paid time -ℤ paid from) +ℤ value_or_zero (cell time)

-- what a slot becomes by a leg that enters the next node in a period or later
abbrev pub offered_of : (ℕ → ℕ) → ℕ → ℕ → Option ℤ → Option ℤ → Option ℤ
offered_of clear from time wait slot =
    if nat_le time (clear from) then lesser slot wait else slot

-- the slot is now the lesser of what it was and of the least move
pub record Offers (P : ℕ → Type 0) (cost : ℕ → ℤ) (old new : Option ℤ) : Type 0 where
  pub offer : Option ℤ
  pub least : IsLeast P cost offer
  pub is : new ≡ lesser old offer

-- The leg leads from the node to one that is open in the period, in time and past no node that must
-- be entered.
pub record IsMoveBy (row : ℕ → Access) (rates : Rates) (cells : List (Option ℤ)) (leg : Leg)
    (node from time : ℕ) : Type 0 where
  pub here : leg.from ≡ node
  pub musts : PassesNoMust row node leg.to
  pub window : IsInWindow (row leg.to).window time
  pub late : from + leg.least ≤ time
  pub stay : time ≤ rates.clear node from
  pub reaches : IsSome (cell_at cells leg.to time)

-- a slot that was offered its move, if its turn has come, and otherwise is as it was
pub record IsOfferedFrom (now turn : ℕ) (P : ℕ → Type 0) (cost : ℕ → ℤ) (old new : Option ℤ)
    : Type 0 where
  pub done : now ≤ turn → Offers P cost old new
  pub left : turn < now → new ≡ old
