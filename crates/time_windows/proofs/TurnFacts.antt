-- The connections of a flight, as facts over all connections.
use Rattle.std.proofs.Common.{◌≡◌, ℕ, ◌+◌, ◌<◌, ◌≤◌, ◌==◌, Bool, true, false, List, [], ◌∷◌, length, All, if◌then◌else◌, refl, arith}
use Rattle.std.proofs.lemmas.Bool.Decides.{nat_tests}
use Rattle.std.proofs.lemmas.List.Elements.{All-cons, All-nil, All-head, All-tail}
use Rattle.flow_types.specs.declared.flight.Connection.{Connection}
use Rattle.flow_types.specs.declared.flight.Flight.{Flight}
use Rattle.flow_types.specs.declared.parts.Parts.{Parts}
use Rattle.flow_types.specs.Valid.{IsConnection}
use Rattle.time_windows.specs.declared.ends.End.{End}
use Rattle.time_windows.specs.declared.ends.End.TheVariants.{Arrival, Departure}
use Rattle.time_windows.specs.declared.turns.Turn.{Turn}
use Rattle.time_windows.specs.Ends.{flight_at, other_at}
use Rattle.time_windows.specs.Turns.{AreTurnsAt, AreTurnsOf, TurnLists, turns_in, turns_of}

abbrev pub turn_of : End → ℕ → Connection → Turn
turn_of end k connection =
    record { connection = k; other = other_at end connection; turnaround = connection.turnaround }

-- what holds of the flight's own holds of all of its turns
module _ (P : Turn → Type 0) (Q : Connection → Type 0) (end : End) (number : ℕ) where
  turns_by : (k : ℕ) (connection : Connection) (rest : List Turn) (b : Bool)
      → (flight_at end connection == number) ≡ b
      → (flight_at end connection ≡ number → P (turn_of end k connection)) → All P rest
      → All P (if b then turn_of end k connection ∷ rest else rest)
  turns_by k connection rest true is here later =
      All-cons P (turn_of end k connection) rest (here (grind (arith, nat_tests))) later
  turns_by k connection rest false is here later = later

  pub all_turns : (k : ℕ) (connections : List Connection) → All Q connections
      → ((i : ℕ) (connection : Connection) → Q connection → k ≤ i → i < k + length connections
      → flight_at end connection ≡ number → P (turn_of end i connection))
      → All P (turns_in end number k connections)
  all_turns k [] all each = All-nil P
  all_turns k (connection ∷ connections) all each =
      turns_by k connection (turns_in end number (k + 1) connections)
      (flight_at end connection == number) refl
      (λ own. each k connection (All-head Q connection connections all) (omega arith) (omega arith)
      own)
      (all_turns (k + 1) connections (All-tail Q connection connections all)
      (λ i c q low high own. each i c q (omega (arith, low)) (omega (arith, high)) own))

  turn_by : (k : ℕ) (connection : Connection) (rest : List Turn) (b : Bool)
      → (flight_at end connection == number) ≡ b
      → All P (if b then turn_of end k connection ∷ rest else rest)
      → (flight_at end connection ≡ number → P (turn_of end k connection)) × All P rest
  turn_by k connection rest true is all = (
    λ own. All-head P (turn_of end k connection) rest all,
    All-tail P (turn_of end k connection) rest all,
  )
  turn_by k connection rest false is all = (
    λ own. absurd (let e : (flight_at end connection == number) ≡ true = grind (arith, nat_tests)
        in let no : ⊥ = cc in no),
    all,
  )

  -- and what holds of all of its turns holds of its own connections
  pub turns_all : (R : Connection → Type 0) (k : ℕ) (connections : List Connection)
      → All Q connections → All P (turns_in end number k connections)
      → ((i : ℕ) (connection : Connection) → Q connection → flight_at end connection ≡ number
      → P (turn_of end i connection) → R connection)
      → All (λ connection. flight_at end connection ≡ number → R connection) connections
  turns_all R k [] all own each = All-nil (λ connection. flight_at end connection ≡ number
      → R connection)
  turns_all R k (connection ∷ connections) all own each =
      let both = turn_by k connection (turns_in end number (k + 1) connections)
      (flight_at end connection == number) refl own in
      All-cons (λ c. flight_at end c ≡ number → R c) connection connections
      (λ is. each k connection (All-head Q connection connections all) is (both.0 is))
      (turns_all R (k + 1) connections (All-tail Q connection connections all) both.1 each)

few_by : (b : Bool) (turn : Turn) (turns : List Turn) (n : ℕ) → length turns ≤ n
    → length (if b then turn ∷ turns else turns) ≤ n + 1
few_by true turn turns n few = omega (arith, few)
few_by false turn turns n few = omega (arith, few)

pub turns_few : (end : End) (number k : ℕ) (connections : List Connection)
    → length (turns_in end number k connections) ≤ length connections
turns_few end number k [] = omega arith
turns_few end number k (connection ∷ connections) =
    let more = few_by (flight_at end connection == number) (turn_of end k connection)
    (turns_in end number (k + 1) connections) (length connections)
    (turns_few end number (k + 1) connections) in
    omega (arith, more)

-- those at one end
pub turns_at_end : (end : End) (parts : Parts) (turns : TurnLists) → AreTurnsOf parts turns
    → AreTurnsAt end parts (turns_of end turns)
turns_at_end Departure parts turns are = are.departures
turns_at_end Arrival parts turns are = are.arrivals

-- each turn is one of the connections
pub turns_there : (end : End) (number rows : ℕ) (connections : List Connection)
    → rows ≡ length connections
    → All (λ turn. turn.connection < rows) (turns_in end number 0 connections)
turns_there end number rows connections is =
    all_turns (λ turn. turn.connection < rows) (λ c. Unit {0}) end number 0 connections
    (λ k d within. tt) (λ i c q low high own. omega (arith, is, high))

-- and the other flight is one of the day's
pub others_there : (end : End) (number flights : ℕ) (all : List Flight)
    (connections : List Connection) → flights ≡ length all
    → All (IsConnection all) connections
    → All (λ turn. turn.other < flights) (turns_in end number 0 connections)
others_there end number flights all connections is valid =
    all_turns (λ turn. turn.other < flights) (IsConnection all) end number 0 connections valid
    (λ i c fine low high own. within end c fine)
  where
    within : (e : End) (c : Connection) → IsConnection all c → other_at e c < flights
    within Arrival c fine = omega (arith, fine.second, is)
    within Departure c fine = omega (arith, fine.first, is)
