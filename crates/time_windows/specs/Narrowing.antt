-- What each step of the tightening keeps. No public clause cites these.
use Rattle.std.specs.Prelude.{◌≡◌, ◌≢◌, ◌⊎◌, ℕ, ◌+◌, ◌*◌, ◌^◌, ◌<◌, ◌≤◌, List, [], get_or, length, Option, None, Some, slice_get, slice_index, All, sum_by}
use Rattle.std.specs.List.{Any}
use Rattle.flow_types.specs.declared.flight.Connection.{Connection}
use Rattle.flow_types.specs.declared.flight.Flight.{Flight}
use Rattle.flow_types.specs.declared.flight.Leg.{Leg}
use Rattle.flow_types.specs.declared.parts.Parts.{Parts}
use Rattle.flow_types.specs.Limits.{most_nodes}
use Rattle.flow_types.specs.Routes.{IsLeg}
use Rattle.time_windows.specs.declared.access.Access.{Access}
use Rattle.time_windows.specs.declared.access.Window.{Window}
use Rattle.time_windows.specs.Boxes.{Box, IsWindowWithin, IsWithin, width_of}
use Rattle.time_windows.specs.Groups.{Grouped}
use Rattle.time_windows.specs.Held.{access_at}
use Rattle.time_windows.specs.Steps.{below_limit, entry_of, from_entry, legs_of, limit_of, never}
use Rattle.time_windows.specs.Tight.{IsTight, IsTightRow, IsTightTurn, IsLegIn, IsLegOut, last_of}
use Rattle.number_set.specs.Few.{IsIn}

-- proper, and within 16 bits
abbrev pub IsSound : Option Window → Type 0
IsSound None = Unit {0}
IsSound (Some window) = (window.lo ≤ window.hi) × (window.hi < 2 ^ 16)

abbrev pub AreSound : List Access → Type 0
AreSound accesses = (f n : ℕ) → IsSound (access_at accesses f n).window

-- how many periods all windows have together
abbrev pub total_width : List Access → ℕ
total_width accesses = sum_by (λ access. width_of access.window) accesses

-- one window is another, and nothing else is
pub record IsSetAt (flight node : ℕ) (window : Option Window) (old new : List Access) : Type 0 where
  pub here : (access_at new flight node).window ≡ window
  pub marks : (f n : ℕ) → (access_at new f n).must ≡ (access_at old f n).must
  pub others : (f n : ℕ) → (f ≡ flight → n ≡ node → ⊥) → access_at new f n ≡ access_at old f n
  pub total : total_width new + width_of (access_at old flight node).window
      ≡ total_width old + width_of window

-- only flights of the scenario wait
abbrev pub AreWaiting : Parts → List ℕ → Type 0
AreWaiting parts words = (f : ℕ) → IsIn words f → f < length parts.flights

-- no wider, with every box kept that is good
pub record Narrows (Good : Box → Type 0) (old new : List Access) : Type 0 where
  pub within : IsWithin (access_at new) (access_at old)
  pub kept : (other : Box) → Good other → IsWithin other (access_at old)
      → IsWithin other (access_at new)
  pub sound : AreSound new
  pub total : total_width new ≤ total_width old

-- in one flight alone
pub record NarrowsRow (flight : Flight) (number : ℕ) (old new : List Access) : Type 0 where
  pub narrows : Narrows (λ box. IsTightRow flight (box number)) old new
  pub others : (f n : ℕ) → f ≢ number → access_at new f n ≡ access_at old f n

-- the groups are those of the flight, which has few nodes and upward legs
pub record AreLegGroupsAt (leg_groups : Grouped Leg) (number : ℕ) (flight : Flight) : Type 0 where
  pub groups : (n : ℕ) → n < most_nodes
      → get_or leg_groups.closed (number * most_nodes + n) [] ≡ legs_of flight n
  pub some : 1 ≤ length flight.nodes
  pub few : length flight.nodes ≤ most_nodes
  pub legs : All (IsLeg (length flight.nodes)) flight.legs

-- the leg enters the node from one before the bound, by the period
pub record IsLead (row : ℕ → Access) (bound node period : ℕ) (leg : Leg) : Type 0 where
  pub from : leg.from < bound
  pub to : leg.to ≡ node
  pub time : entry_of (row leg.from).window leg.least ≤ period

-- each window below the bound has a leg in
abbrev pub AreEntered : Flight → (ℕ → Access) → ℕ → Type 0
AreEntered flight row bound = (n : ℕ) (window : Window) → 0 < n → n < bound
    → (row n).window ≡ Some window → Any (IsLegIn row n window) flight.legs

-- each window from the bound on has a leg out
abbrev pub AreLeft : Flight → (ℕ → Access) → ℕ → Type 0
AreLeft flight row bound = (n : ℕ) (window : Window) → bound ≤ n → n + 1 < length flight.nodes
    → (row n).window ≡ Some window → Any (IsLegOut row n window) flight.legs

-- The windows below the bound have legs in, and the entries are the first ones from there.
pub record IsRaisedTo (flight : Flight) (row : ℕ → Access) (entries : List ℕ) (bound : ℕ)
    : Type 0 where
  pub length : length entries ≡ most_nodes
  pub first : slice_index entries 0 ≡ 0
  pub reached : (m time : ℕ) → 0 < m → m < most_nodes → time < never
      → slice_index entries m ≤ time → Any (IsLead row bound m time) flight.legs
  pub below : (m time : ℕ) → m < most_nodes → time < never
      → Any (IsLead row bound m time) flight.legs → slice_index entries m ≤ time
  pub entered : AreEntered flight row bound

-- All windows have legs in, and those from the bound on have legs out.
pub record IsLoweredTo (flight : Flight) (row : ℕ → Access) (bound : ℕ) : Type 0 where
  pub entered : AreEntered flight row (length flight.nodes)
  pub left : AreLeft flight row bound

abbrev pub AreTightRows : Parts → List Access → Type 0
AreTightRows parts accesses = (f : ℕ) (flight : Flight) → slice_get parts.flights f ≡ Some flight
    → IsTightRow flight (access_at accesses f)

-- No wider, with every tight box kept. Each flight waits now or is as it was; those that wait wait
-- on, and are flights; and where others do, the windows are less wide.
pub record IsStep (parts : Parts) (old new : List Access) (before now : List ℕ) : Type 0 where
  pub narrows : Narrows (IsTight parts) old new
  pub rows : AreTightRows parts old → AreTightRows parts new
  pub moved : (f : ℕ) → IsIn now f ⊎ ((n : ℕ) → access_at new f n ≡ access_at old f n)
  pub grown : (f : ℕ) → IsIn before f → IsIn now f
  pub there : AreWaiting parts before → AreWaiting parts now
  pub less : (now ≡ before) ⊎ (total_width new < total_width old)

-- the ends of a connection, and what it leaves of them
abbrev pub arrives_at : Parts → Box → Connection → Option Window
arrives_at parts box connection =
    (box connection.first (last_of (slice_get parts.flights connection.first))).window

abbrev pub leaves_at : Box → Connection → Option Window
leaves_at box connection = (box connection.second 0).window

-- the second flight's window is late enough
abbrev pub IsRaised : Parts → Box → Connection → Type 0
IsRaised parts box connection =
    from_entry (leaves_at box connection)
    (entry_of (arrives_at parts box connection) connection.turnaround)
    ≡ leaves_at box connection

-- the first flight's window is early enough
abbrev pub IsLowered : Parts → Box → Connection → Type 0
IsLowered parts box connection =
    below_limit (arrives_at parts box connection)
    (limit_of (leaves_at box connection) connection.turnaround)
    ≡ arrives_at parts box connection

-- the connection leaves time for the turnaround, or one of its flights waits
abbrev pub IsDone : Parts → List Access → List ℕ → Connection → Type 0
IsDone parts accesses words connection =
    IsTightTurn parts (access_at accesses) connection
    ⊎ (IsIn words connection.first ⊎ IsIn words connection.second)

-- the windows of one flight have legs in and out now, and nothing else is changed
pub record IsSettled (parts : Parts) (number : ℕ) (old new : List Access) : Type 0 where
  pub narrows : Narrows (IsTight parts) old new
  pub others : (f n : ℕ) → f ≢ number → access_at new f n ≡ access_at old f n
  pub row : (flight : Flight) → slice_get parts.flights number ≡ Some flight
      → IsTightRow flight (access_at new number)

-- tight, but for the windows of one flight
pub record IsTightApart (parts : Parts) (number : ℕ) (box : Box) : Type 0 where
  pub rows : (f : ℕ) (flight : Flight) → f ≢ number → slice_get parts.flights f ≡ Some flight
      → IsTightRow flight (box f)
  pub turns : All (λ c. c.first ≢ number → c.second ≢ number → IsTightTurn parts box c)
      parts.connections

-- each flight waits, or is noted as it is
abbrev pub AreNoted : List Access → List Access → List ℕ → Type 0
AreNoted noted accesses words = (f : ℕ) → IsIn words f
    ⊎ ((n : ℕ) → access_at noted f n ≡ access_at accesses f n)

-- every tight box within keeps to the window at the node
abbrev pub KeepsAt : Parts → ℕ → ℕ → Option Window → List Access → Type 0
KeepsAt parts flight node window old = (other : Box) → IsTight parts other
    → IsWithin other (access_at old) → IsWindowWithin (other flight node).window window

-- sound, and few enough for 32 bits
pub record AreAccesses (accesses : List Access) : Type 0 where
  pub sound : AreSound accesses
  pub few : length accesses < 2 ^ 32
