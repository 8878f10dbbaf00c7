-- What leaving and arriving cost, with the connections told by turns.
use Rattle.std.proofs.Common.{◌≡◌, ◌⊎◌, ◌*◌, ◌≤◌, replicate, get_or, pos, inl, inr, subst, ℕ, ◌+◌, List, length, slice_get, Option, Some, sum_by, ◌<◌, refl, sym, ap, ◌∙◌, arith}
use Rattle.std.proofs.lemmas.Bool.{cases_lt}
use Rattle.std.proofs.lemmas.Int.{ints}
use Rattle.std.proofs.lemmas.List.{get_or-replicate, get_or_past, length-replicate}
use Rattle.exact_sums.proofs.ItemFacts.{item_there}
use Rattle.flow_types.specs.declared.flight.Flight.{Flight}
use Rattle.flow_types.specs.Limits.{most_nodes, most_periods}
use Rattle.flow_types.specs.Trips.{place_at}
use Rattle.time_windows.specs.declared.access.Access.{Access}
use Rattle.time_windows.specs.declared.access.Window.{Window}
use Rattle.time_windows.specs.Boxes.{IsInWindow}
use Rattle.flight_routes.specs.RateLists.{RateLists, place_of, rates_of}
use Rattle.flight_routes.specs.Ready.{IsInSpan}
use Rattle.flight_routes.specs.TripRates.{AreTripRates, arriving_cost, leaving_cost}
use Rattle.flight_routes.proofs.LaterFacts.{summed_join}
use Rattle.flow_types.specs.declared.parts.Parts.{Parts}
use Rattle.time_windows.specs.declared.ends.End.{End}
use Rattle.time_windows.specs.declared.ends.End.TheVariants.{Arrival, Departure}
use Rattle.time_windows.specs.declared.turns.Turn.{Turn}
use Rattle.flight_routes.specs.Later.{shift_of}
use Rattle.flight_routes.specs.PriceRates.{arrive_value, arriving_of, end_cost, end_value, leave_value, leaving_of}
use Rattle.flight_routes.specs.Prices.{PriceTable, price_in, summed, turns_back, turns_paid}
use Rattle.time_windows.specs.Turns.{turns_in}
use Rattle.flight_routes.proofs.TurnFacts.{back_by_turns, paid_by_turns}

leave_same : (weight : ℕ) (table : PriceTable) (parts : Parts) (number : ℕ) (flight : Flight)
    (there : Option Flight) (t later : ℕ) → there ≡ Some flight
    → later ≡ turns_paid table parts.day.periods number t 0 parts.connections
    → leave_value weight table parts there t later ≡ leaving_of weight table parts number there t
leave_same weight table parts number flight there t later is paid = rw (is, paid) refl

arrive_same : (weight : ℕ) (table : PriceTable) (parts : Parts) (number : ℕ) (flight : Flight)
    (there : Option Flight) (t later : ℕ) → there ≡ Some flight
    → later ≡ turns_back table parts.day.periods number t 0 parts.connections
    → arrive_value weight table parts there t later ≡ arriving_of weight table parts number there t
arrive_same weight table parts number flight there t later is back = rw (is, back) refl

module _ (weight : ℕ) (table : PriceTable) (parts : Parts) (number : ℕ)
    (within : number < length parts.flights) (turns : List Turn) (t sum periods : ℕ)
    (same : periods ≡ parts.day.periods) where
  leave_told : turns ≡ turns_in Departure number 0 parts.connections
      → sum ≡ sum_by (λ turn. summed (price_in table.turns turn.connection)
      (t + shift_of Departure turn) periods) turns
      → leave_value weight table parts (slice_get parts.flights number) t sum
      ≡ leaving_of weight table parts number (slice_get parts.flights number) t
  leave_told is told =
      let flight = item_there parts.flights number within in
      leave_same weight table parts number flight.0 (slice_get parts.flights number) t sum flight.1
      (told ∙ ap (sum_by (λ turn. summed (price_in table.turns turn.connection)
      (t + shift_of Departure turn) periods)) is
      ∙ ap (λ p. sum_by (λ turn. summed (price_in table.turns turn.connection)
      (t + shift_of Departure turn) p) (turns_in Departure number 0 parts.connections)) same
      ∙ sym (paid_by_turns table parts.day.periods number t 0 parts.connections))

  arrive_told : turns ≡ turns_in Arrival number 0 parts.connections
      → sum ≡ sum_by (λ turn. summed (price_in table.turns turn.connection)
      (t + shift_of Arrival turn) periods) turns
      → arrive_value weight table parts (slice_get parts.flights number) t sum
      ≡ arriving_of weight table parts number (slice_get parts.flights number) t
  arrive_told is told =
      let flight = item_there parts.flights number within in
      arrive_same weight table parts number flight.0 (slice_get parts.flights number) t sum flight.1
      (told ∙ ap (sum_by (λ turn. summed (price_in table.turns turn.connection)
      (t + shift_of Arrival turn) periods)) is
      ∙ ap (λ p. sum_by (λ turn. summed (price_in table.turns turn.connection)
      (t + shift_of Arrival turn) p) (turns_in Arrival number 0 parts.connections)) same
      ∙ sym (back_by_turns table parts.day.periods number t 0 parts.connections))

pub end_told : (end : End) (weight : ℕ) (table : PriceTable) (parts : Parts) (number : ℕ)
    → number < length parts.flights → (turns : List Turn) (t sum periods : ℕ)
    → periods ≡ parts.day.periods → turns ≡ turns_in end number 0 parts.connections
    → sum ≡ sum_by (λ turn. summed (price_in table.turns turn.connection)
    (t + shift_of end turn) periods) turns
    → end_value end weight table parts (slice_get parts.flights number) t sum
    ≡ end_cost end weight table parts number (slice_get parts.flights number) t
end_told Departure weight table parts number within turns t sum periods same is told =
    leave_told weight table parts number within turns t sum periods same is told
end_told Arrival weight table parts number within turns t sum periods same is told =
    arrive_told weight table parts number within turns t sum periods same is told

leaving_same : (weight : ℕ) (table : PriceTable) (parts : Parts) (number : ℕ) (flight : Flight)
    (there : Option Flight) (t : ℕ) → there ≡ Some flight
    → leaving_of weight table parts number there t ≡ leaving_cost weight table parts number flight t
leaving_same weight table parts number flight there t is = rw is refl

arriving_same : (weight : ℕ) (table : PriceTable) (parts : Parts) (number : ℕ) (flight : Flight)
    (there : Option Flight) (t : ℕ) → there ≡ Some flight
    → arriving_of weight table parts number there t
    ≡ arriving_cost weight table parts number flight t
arriving_same weight table parts number flight there t is = rw is refl

clear_by : (cells t place : ℕ) → (place < cells) ⊎ (cells ≤ place) → t ≤ most_periods
    → t ≤ get_or (replicate cells most_periods) place most_periods
clear_by cells t place (inl within) few =
    let is = get_or-replicate cells place most_periods most_periods within in
    omega (arith, is, few)
clear_by cells t place (inr past) few =
    let long = length-replicate cells most_periods in
    let is = get_or_past (replicate cells most_periods) place most_periods
    (omega (arith, long, past)) in
    omega (arith, is, few)

-- the rates of a table that was filled so
pub price_rates : (weight : ℕ) (table : PriceTable) (parts : Parts) (number last : ℕ)
    (flight : Flight) (there : Option Flight) (row : ℕ → Access) (lists : RateLists)
    → there ≡ Some flight → last + 1 ≡ length flight.nodes
    → (span : Window) → span.hi < parts.day.periods → parts.day.periods ≤ most_periods
    → ((t : ℕ) → IsInWindow (row 0).window t → (rates_of lists).leaves t
    ≡ Some (leaving_of weight table parts number there t))
    → ((t : ℕ) → IsInWindow (row last).window t → (rates_of lists).arrives t
    ≡ Some (arriving_of weight table parts number there t))
    → ((n t : ℕ) → 0 < n → n < last → IsInSpan span t → (rates_of lists).paid n t
    ≡ pos (summed (price_in table.inside (place_at flight n)) span.lo t))
    → ((t : ℕ) → t < most_periods → (rates_of lists).paid 0 t ≡ pos 0)
    → lists.clear ≡ replicate (most_nodes * most_periods) most_periods
    → AreTripRates weight table parts number flight row span (rates_of lists)
price_rates weight table parts number last flight there row lists is end span day few
    leaves arrives paid first clear = record {
      leaves = λ t window. leaves t window
          ∙ ap Some (leaving_same weight table parts number flight there t is);
      arrives = λ n t ends window.
          let same : n ≡ last = omega (arith, ends, end) in
          arrives t (subst (λ m. IsInWindow (row m).window t) same window)
          ∙ ap Some (arriving_same weight table parts number flight there t is);
      unpaid = λ t u low high. first u (omega (arith, high, few))
          ∙ sym (first t (omega (arith, low, high, few)));
      paid = λ n t u above below from low high.
          let price = price_in table.inside (place_at flight n) in
          let at = paid n t above (omega (arith, below, end)) (from, omega (arith, low, high)) in
          let to = paid n u above (omega (arith, below, end)) (omega (arith, from, low), high) in
          omega (arith, ints, at, to, summed_join price span.lo t u from low);
      clear = λ n t u high.
          subst (λ cells. u ≤ get_or cells (place_of n t) most_periods) (sym clear)
          (clear_by (most_nodes * most_periods) u (place_of n t)
          (cases_lt (place_of n t) (most_nodes * most_periods)) (omega (arith, high, few)));
    }
