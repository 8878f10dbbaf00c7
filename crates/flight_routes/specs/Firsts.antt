-- The first of the stops that keep a cost.
use Rattle.std.specs.Prelude.{◌≡◌, ℕ, ◌≤◌, nat_lt, List, Option, None, Some, IsSome, ℤ, ◌+ℤ◌, ◌-ℤ◌, if◌then◌else◌}
use Rattle.flow_types.specs.declared.flight.Flight.{Flight}
use Rattle.flow_types.specs.declared.flight.Leg.{Leg}
use Rattle.flow_types.specs.declared.plan.Stop.{Stop}
use Rattle.time_windows.specs.declared.access.Access.{Access}
use Rattle.time_windows.specs.declared.access.Window.{Window}
use Rattle.exact_sums.specs.Leasts.{raised}
use Rattle.flight_routes.specs.Entries.{IsMove, cell_at, move_cost}
use Rattle.flight_routes.specs.RateLists.{place_of}
use Rattle.flight_routes.specs.Rates.{IsPassage, Rates, value_or_zero}
use Rattle.flight_routes.specs.Ways.{IsPassageAmong, IsPassageBy, IsStart, start_cost}

-- of some periods the first
pub record IsFirstTimeAt (P : ℕ → Type 0) (time : ℕ) : Type 0 where
  pub inside : P time
  pub first : (u : ℕ) → P u → time ≤ u

abbrev pub IsFirstTime : (ℕ → Type 0) → Option ℕ → Type 0
IsFirstTime P None = (u : ℕ) → P u → ⊥
IsFirstTime P (Some time) = IsFirstTimeAt P time

-- stops stand in the order of their cells
abbrev pub key_of : Stop → ℕ
key_of stop = place_of stop.node stop.time

abbrev pub earlier : Option Stop → Option Stop → Option Stop
earlier None b = b
earlier (Some a) None = Some a
earlier (Some a) (Some b) = if nat_lt (key_of b) (key_of a) then Some b else Some a

-- of some stops the first
pub record IsFirstAt (P : Stop → Type 0) (stop : Stop) : Type 0 where
  pub inside : P stop
  pub first : (x : Stop) → P x → key_of stop ≤ key_of x

abbrev pub IsFirst : (Stop → Type 0) → Option Stop → Type 0
IsFirst P None = (x : Stop) → P x → ⊥
IsFirst P (Some stop) = IsFirstAt P stop

-- what going on to a stop costs, and a way on from there
abbrev pub cost_to : Rates → List (Option ℤ) → Stop → Stop → ℤ
cost_to rates cells stop next =
    (rates.paid stop.node next.time -ℤ rates.paid stop.node stop.time)
    +ℤ value_or_zero (cell_at cells next.node next.time)

-- there is a way on from the next stop, and it keeps the cost
pub record Keeps (rates : Rates) (cells : List (Option ℤ)) (stop next : Stop) (value : Option ℤ)
    : Type 0 where
  pub reaches : IsSome (cell_at cells next.node next.time)
  pub cost : Some (cost_to rates cells stop next) ≡ value

-- a next stop that keeps the cost: by a leg, by one of the first so many, by any
pub record IsNextBy (leg : Leg) (row : ℕ → Access) (rates : Rates) (cells : List (Option ℤ))
    (stop : Stop) (value : Option ℤ) (next : Stop) : Type 0 where
  pub passage : IsPassageBy leg row rates stop next
  pub keeps : Keeps rates cells stop next value

pub record IsNextAmong (legs : List Leg) (count : ℕ) (row : ℕ → Access) (rates : Rates)
    (cells : List (Option ℤ)) (stop : Stop) (value : Option ℤ) (next : Stop) : Type 0 where
  pub passage : IsPassageAmong legs count row rates stop next
  pub keeps : Keeps rates cells stop next value

pub record IsNext (flight : Flight) (row : ℕ → Access) (rates : Rates) (cells : List (Option ℤ))
    (stop : Stop) (value : Option ℤ) (next : Stop) : Type 0 where
  pub passage : IsPassage flight row rates stop next
  pub keeps : Keeps rates cells stop next value

-- a start that has the cost
pub record IsKeptStart (row : ℕ → Access) (rates : Rates) (cells : List (Option ℤ))
    (least : Option ℤ) (time : ℕ) : Type 0 where
  pub start : IsStart row rates cells time
  pub cost : Some (start_cost rates cells time) ≡ least

-- a move into a window that keeps the cost
pub record IsKeptMove (rates : Rates) (cell : ℕ → Option ℤ) (next : Window) (node least from : ℕ)
    (value : Option ℤ) (time : ℕ) : Type 0 where
  pub move : IsMove (rates.clear node) cell next least from time
  pub cost : Some (move_cost (rates.paid node) cell from time) ≡ value

-- a period from one up to another in which an entry costs so much, with a way on from there
pub record IsEntryAt (paid : ℕ → ℤ) (cell : ℕ → Option ℤ) (first last : ℕ) (wanted : Option ℤ)
    (time : ℕ) : Type 0 where
  pub from : first ≤ time
  pub to : time ≤ last
  pub cost : raised (paid time) (cell time) ≡ wanted
