-- What the connections of a flight cost, by its turns.
use Rattle.std.proofs.Common.{◌≡◌, ℕ, ◌+◌, ◌==◌, Bool, true, false, List, [], ◌∷◌, sum_by, if◌then◌else◌, refl, ap, arith}
use Rattle.std.proofs.lemmas.List.Sums.{sum_by-cons}
use Rattle.flow_types.specs.declared.flight.Connection.{Connection}
use Rattle.time_windows.specs.declared.ends.End.TheVariants.{Arrival, Departure}
use Rattle.time_windows.specs.declared.turns.Turn.{Turn}
use Rattle.time_windows.specs.Turns.{turns_in}
use Rattle.time_windows.proofs.TurnFacts.{turn_of}
use Rattle.flight_routes.specs.Later.{shift_of}
use Rattle.flight_routes.specs.Prices.{PriceTable, price_in, summed, turns_back, turns_paid}

sum_if : (f : Turn → ℕ) (b : Bool) (turn : Turn) (turns : List Turn) (n more : ℕ)
    → n ≡ f turn → more ≡ sum_by f turns
    → (if b then n else 0) + more ≡ sum_by f (if b then turn ∷ turns else turns)
sum_if f true turn turns n more is rest =
    omega (arith, sum_by-cons f turn turns, is, rest)
sum_if f false turn turns n more is rest = omega (arith, rest)

-- what the connections of a flight cost, by its turns
pub paid_by_turns : (table : PriceTable) (periods number t k : ℕ) (connections : List Connection)
    → turns_paid table periods number t k connections
    ≡ sum_by (λ turn. summed (price_in table.turns turn.connection)
    (t + shift_of Departure turn) periods)
    (turns_in Departure number k connections)
paid_by_turns table periods number t k [] = refl
paid_by_turns table periods number t k (connection ∷ connections) =
    sum_if (λ turn. summed (price_in table.turns turn.connection)
    (t + shift_of Departure turn) periods)
    (connection.second == number) (turn_of Departure k connection)
    (turns_in Departure number (k + 1) connections) (summed (price_in table.turns k) t periods)
    (turns_paid table periods number t (k + 1) connections)
    (ap (λ n. summed (price_in table.turns k) n periods) (omega arith))
    (paid_by_turns table periods number t (k + 1) connections)

pub back_by_turns : (table : PriceTable) (periods number t k : ℕ) (connections : List Connection)
    → turns_back table periods number t k connections
    ≡ sum_by (λ turn. summed (price_in table.turns turn.connection)
    (t + shift_of Arrival turn) periods)
    (turns_in Arrival number k connections)
back_by_turns table periods number t k [] = refl
back_by_turns table periods number t k (connection ∷ connections) =
    sum_if (λ turn. summed (price_in table.turns turn.connection)
    (t + shift_of Arrival turn) periods)
    (connection.first == number) (turn_of Arrival k connection)
    (turns_in Arrival number (k + 1) connections)
    (summed (price_in table.turns k) (t + connection.turnaround) periods)
    (turns_back table periods number t (k + 1) connections) refl
    (back_by_turns table periods number t (k + 1) connections)
