-- Ways that end early: those through windows that are cut.
use Rattle.std.specs.Prelude.{◌≡◌, ℕ, ◌+◌, ◌-◌, ◌≤◌, nat_le, min, List, length, Option, None, Some, IsSome, slice_index_or, ℤ, ◌≤ℤ◌, ◌<ℤ◌, if◌then◌else◌}
use Rattle.std.specs.List.{Contains}
use Rattle.flow_types.specs.declared.flight.Flight.{Flight}
use Rattle.flow_types.specs.declared.flight.Leg.{Leg}
use Rattle.time_windows.specs.declared.access.Access.{Access}
use Rattle.time_windows.specs.declared.access.Window.{Window}
use Rattle.flight_routes.specs.Rates.{Rates}

-- no more periods than the flight takes from each node to the last one
pub record AreAhead (flight : Flight) (ahead : ℕ → ℕ) : Type 0 where
  pub legs : (leg : Leg) → Contains flight.legs leg
      → ahead leg.from ≤ leg.least + ahead leg.to
  pub last : (n : ℕ) → n + 1 ≡ length flight.nodes → ahead n ≡ 0

abbrev pub ahead_in : List ℕ → ℕ → ℕ
ahead_in distances node = slice_index_or distances node 0

-- the part of a window from which one may still arrive by the period
abbrev pub cut_window : ℕ → ℕ → Option Window → Option Window
cut_window cap ahead None = None
cut_window cap ahead (Some window) =
    if nat_le (window.lo + ahead) cap
    then Some (record { lo = window.lo; hi = min window.hi (cap - ahead) }) else None

abbrev pub cut_at : ℕ → ℕ → Access → Access
cut_at cap ahead access =
    record { window = cut_window cap ahead access.window; must = access.must }

abbrev pub cut_row : ℕ → (ℕ → ℕ) → (ℕ → Access) → ℕ → Access
cut_row cap ahead row node = cut_at cap (ahead node) (row node)

-- a first and a last period that a way may have
pub record AreEnds (leave arrive : Window) (rates : Rates) (ahead from to : ℕ) : Type 0 where
  pub from_lo : leave.lo ≤ from
  pub from_hi : from ≤ leave.hi
  pub leaves : IsSome (rates.leaves from)
  pub to_lo : arrive.lo ≤ to
  pub to_hi : to ≤ arrive.hi
  pub arrives : IsSome (rates.arrives to)
  pub apart : from + ahead ≤ to

-- it is there, and no more than the value
abbrev pub IsNoMore : Option ℤ → ℤ → Type 0
IsNoMore None value = ⊥
IsNoMore (Some least) value = least ≤ℤ value

-- the first is there, and less than the second, if that is there
abbrev pub IsLess : Option ℤ → Option ℤ → Type 0
IsLess None b = ⊥
IsLess (Some a) None = Unit {0}
IsLess (Some a) (Some b) = a <ℤ b
