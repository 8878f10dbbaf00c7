-- The bound that goes with the greedy plan: what all flights would cost if each were alone.
use Rattle.std.specs.Prelude.{◌≡◌, ℕ, zero, suc, ◌<◌, List, length, slice_get, ℤ, pos, ◌+ℤ◌}
use Rattle.exact_sums.specs.Leasts.{IsLeastAt}
use Rattle.flow_types.specs.declared.bound.Bound.{Bound}
use Rattle.flow_types.specs.declared.bound.Bound.TheVariants.{AtLeast, NoPlan}
use Rattle.flow_types.specs.declared.parts.Parts.{Parts}
use Rattle.flow_types.specs.declared.plan.Stop.{Stop}
use Rattle.flow_types.specs.Costs.{trip_cost_at}
use Rattle.flight_routes.specs.Inside.{IsTripIn}
use Rattle.time_windows.specs.Boxes.{Box}

-- a flight of which no trip is in the box
pub record HasNoTrip (parts : Parts) (box : Box) (number : ℕ) : Type 0 where
  pub within : number < length parts.flights
  pub none : (stops : List Stop) → IsTripIn parts box number stops → ⊥

-- the least costs of trips in the box of the first so many flights, added up
abbrev pub IsLeastSum : Parts → Box → ℕ → ℤ → Type 0
IsLeastSum parts box zero sum = sum ≡ pos 0
IsLeastSum parts box (suc number) sum =
    (before least : ℤ) × IsLeastSum parts box number before
    × IsLeastAt (IsTripIn parts box number)
    (trip_cost_at parts.tables (slice_get parts.flights number)) least
    × (sum ≡ before +ℤ least)

-- NoPlan where a flight has no trip in the box, else the least costs of all flights added up
abbrev pub IsFirstBound : Parts → Box → Bound → Type 0
IsFirstBound parts box NoPlan = (number : ℕ) × HasNoTrip parts box number
IsFirstBound parts box (AtLeast least) = IsLeastSum parts box (length parts.flights) least
