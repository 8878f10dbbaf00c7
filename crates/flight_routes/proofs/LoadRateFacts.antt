-- What the loads tell of leaving, arriving and staying, told of the trips that they count.
use Rattle.std.proofs.Common.{◌≡◌, ◌↔◌, ◌⊎◌, ◌*◌, ◌^◌, inl, inr, replicate, IsTrue, ℕ, zero, suc, ◌+◌, ◌-◌, ◌<◌, ◌≤◌, List, [], ◌∷◌, length, get_or, slice_get, Option, Some, None, All, ℤ, pos, ◌-ℤ◌, refl, sym, ap, ◌∙◌, subst, arith}
use Rattle.std.specs.Option.{option_and_then}
use Rattle.std.proofs.lemmas.Bool.{cases_lt}
use Rattle.std.proofs.lemmas.List.{get_or-replicate, get_or_past, length-replicate}
use Rattle.flow_types.specs.declared.flight.Connection.{Connection}
use Rattle.flow_types.specs.declared.flight.Flight.{Flight}
use Rattle.flow_types.specs.declared.parts.Parts.{Parts}
use Rattle.flow_types.specs.declared.place.CapKind.TheVariants as kind
use Rattle.flow_types.specs.declared.plan.Stop.{Stop}
use Rattle.flow_types.specs.Costs.{credit_of, total_of}
use Rattle.flow_types.specs.declared.place.Place.{Place}
use Rattle.flow_types.specs.Limits.{most_nodes, most_periods}
use Rattle.flow_types.specs.Routes.{is_airport, is_sector}
use Rattle.flow_types.specs.Trips.{arrival_of, departure_of, place_at}
use Rattle.flow_types.specs.Valid.{IsConnection, IsFlight, IsScenario}
use Rattle.plan_rules.specs.Tally.{Tally}
use Rattle.plan_rules.specs.Loads.{AreLoads, arrival_at, departure_at}
use Rattle.exact_sums.proofs.ItemFacts.{All-item}
use Rattle.time_windows.specs.declared.access.Access.{Access}
use Rattle.time_windows.specs.declared.access.Window.{Window}
use Rattle.time_windows.specs.Boxes.{IsInWindow}
use Rattle.time_windows.specs.declared.ends.End.TheVariants.{Arrival, Departure}
use Rattle.flight_routes.specs.FitRates.{AreFitRates, IsGiven, LeavesTimeFor, MayArrive, MayLeave, MayStay, WaitsFor}
use Rattle.flight_routes.specs.FitTimes.{HasSpace, IsFirstFull, IsFreeAt}
use Rattle.flight_routes.specs.Filling.{IsFitTable}
use Rattle.flight_routes.specs.PriceRates.{airport_of}
use Rattle.flight_routes.specs.RateLists.{RateLists, place_of, rates_of}
use Rattle.flight_routes.specs.Ready.{IsInSpan}
use Rattle.flight_routes.specs.TimeCosts.{credit_then, total_then}
use Rattle.time_windows.specs.Turns.{turns_in}
use Rattle.flight_routes.specs.TurnTimes.{IsAfter, IsInTime}
use Rattle.time_windows.proofs.TurnFacts.{all_turns, turns_all}

-- given under one condition, and so under one that is the same
pub given_same : (given : Option ℤ) (A B : Type 0) (value other : ℤ) → IsGiven given A value
    → (A → B) → (B → A) → value ≡ other → IsGiven given B other
given_same None A B value other is to from same = λ b. is (from b)
given_same (Some v) A B value other is to from same = (to is.0, is.1 ∙ same)

-- a trip at a position
at_trip : (time : List Stop → Option ℕ) → time [] ≡ None → (trips : List (List Stop)) (k : ℕ)
    → option_and_then time (slice_get trips k) ≡ time (get_or trips k [])
at_trip time none [] k = sym none
at_trip time none (trip ∷ trips) zero = refl
at_trip time none (trip ∷ trips) (suc k) = at_trip time none trips k

both_all : (P Q : Connection → Type 0) (cs : List Connection) → All P cs → All Q cs
    → All (λ c. P c × Q c) cs
both_all P Q cs one two k d within = (one k d within, two k d within)

module _ (parts : Parts) (valid : IsScenario parts) (trips : List (List Stop)) (loads : Tally)
    (are : AreLoads parts trips loads) (number : ℕ) where
  arrived : (k : ℕ) → k < length parts.flights
      → arrival_at loads k ≡ option_and_then arrival_of (slice_get trips k)
  arrived k within = are.arrives k within ∙ sym (at_trip arrival_of refl trips k)

  left : (k : ℕ) → k < length parts.flights
      → departure_at loads k ≡ option_and_then departure_of (slice_get trips k)
  left k within = are.leaves k within ∙ sym (at_trip departure_of refl trips k)

  after_waits : (time : ℕ)
      → All (IsAfter loads time) (turns_in Departure number 0 parts.connections)
      → All (WaitsFor trips number time) parts.connections
  after_waits time after =
      turns_all (IsAfter loads time) (IsConnection parts.flights) Departure number
      (λ c. (arrives : ℕ) → option_and_then arrival_of (slice_get trips c.first) ≡ Some arrives
      → arrives + c.turnaround ≤ time) 0 parts.connections valid.connections.each after
      (λ i c is own late arrives at. late arrives (arrived c.first is.first ∙ at))

  waits_after : (time : ℕ) → All (WaitsFor trips number time) parts.connections
      → All (IsAfter loads time) (turns_in Departure number 0 parts.connections)
  waits_after time waits =
      all_turns (IsAfter loads time)
      (λ c. IsConnection parts.flights c × WaitsFor trips number time c) Departure number 0
      parts.connections (both_all (IsConnection parts.flights)
      (WaitsFor trips number time) parts.connections valid.connections.each waits)
      (λ i c is low high own arrives at. is.1 own arrives (sym (arrived c.first is.0.first) ∙ at))

  in_time_leaves : (time : ℕ)
      → All (IsInTime loads time) (turns_in Arrival number 0 parts.connections)
      → All (LeavesTimeFor trips number time) parts.connections
  in_time_leaves time early =
      turns_all (IsInTime loads time) (IsConnection parts.flights) Arrival number
      (λ c. (leaves : ℕ) → option_and_then departure_of (slice_get trips c.second) ≡ Some leaves
      → time + c.turnaround ≤ leaves) 0 parts.connections valid.connections.each early
      (λ i c is own before leaves at. before leaves (left c.second is.second ∙ at))

  leaves_in_time : (time : ℕ) → All (LeavesTimeFor trips number time) parts.connections
      → All (IsInTime loads time) (turns_in Arrival number 0 parts.connections)
  leaves_in_time time leaves_time =
      all_turns (IsInTime loads time)
      (λ c. IsConnection parts.flights c × LeavesTimeFor trips number time c) Arrival number 0
      parts.connections (both_all (IsConnection parts.flights)
      (LeavesTimeFor trips number time) parts.connections valid.connections.each leaves_time)
      (λ i c is low high own leaves at. is.1 own leaves (sym (left c.second is.0.second) ∙ at))

-- an airport, or a sector, is one of the places
airport_within : (places : List Place) (k : ℕ) → IsTrue (is_airport (slice_get places k))
    → k < length places
airport_within [] k airport = absurd (let no : ⊥ = cc in no)
airport_within (place ∷ places) zero airport = omega arith
airport_within (place ∷ places) (suc k) airport = omega (arith, airport_within places k airport)

sector_within : (places : List Place) (k : ℕ) → IsTrue (is_sector (slice_get places k))
    → k < length places
sector_within [] k sector = absurd (let no : ⊥ = cc in no)
sector_within (place ∷ places) zero sector = omega arith
sector_within (place ∷ places) (suc k) sector = omega (arith, sector_within places k sector)

-- the rates of a table that was filled beside the loads
module _ (parts : Parts) (valid : IsScenario parts) (trips : List (List Stop)) (loads : Tally)
    (are : AreLoads parts trips loads) (number last first limit : ℕ) (flight : Flight)
    (there : Option Flight) (is : there ≡ Some flight)
    (here : slice_get parts.flights number ≡ Some flight) where
  a_fine : IsFlight parts.day.periods parts.places parts.tables flight
  a_fine = All-item (IsFlight parts.day.periods parts.places parts.tables) parts.flights number
      flight valid.flights.each here

  from_there : airport_of Departure there ≡ flight.from
  from_there = ap (airport_of Departure) is

  to_there : airport_of Arrival there ≡ flight.to
  to_there = ap (airport_of Arrival) is

  leave_may : ((time : ℕ) → (first ≤ time)
      ↔ All (IsAfter loads time) (turns_in Departure number 0 parts.connections))
      → (t : ℕ) → t < parts.day.periods → IsFreeAt Departure parts loads there first t
      → MayLeave parts trips number flight t
  leave_may firsts t day free = record {
    room =
        let space = subst (λ k. HasSpace parts loads kind.Dep k t) from_there free.space in
        let count = are.departures flight.from t
        (airport_within parts.places flight.from a_fine.origin) day in
        omega (arith, space, count);
    turns = after_waits parts valid trips loads are number t ((firsts t).0 free.in_time);
  }

  may_leave_free : ((time : ℕ) → (first ≤ time)
      ↔ All (IsAfter loads time) (turns_in Departure number 0 parts.connections))
      → (t : ℕ) → t < parts.day.periods → MayLeave parts trips number flight t
      → IsFreeAt Departure parts loads there first t
  may_leave_free firsts t day may = record {
    in_time = (firsts t).1 (waits_after parts valid trips loads are number t may.turns);
    space =
        let count = are.departures flight.from t
        (airport_within parts.places flight.from a_fine.origin) day in
        subst (λ k. HasSpace parts loads kind.Dep k t) (sym from_there)
        (omega (arith, may.room, count));
  }

  arrive_may : ((time : ℕ) → time < 2 ^ 16 → (time < limit)
      ↔ All (IsInTime loads time) (turns_in Arrival number 0 parts.connections))
      → (t : ℕ) → t < parts.day.periods → IsFreeAt Arrival parts loads there limit t
      → MayArrive parts trips number flight t
  arrive_may limits t day free = record {
    room =
        let space = subst (λ k. HasSpace parts loads kind.Arr k t) to_there free.space in
        let count = are.arrivals flight.to t
        (airport_within parts.places flight.to a_fine.destination) day in
        omega (arith, space, count);
    turns = in_time_leaves parts valid trips loads are number t
        ((limits t (omega (arith, day, valid.day.periods_to))).0 free.in_time);
  }

  may_arrive_free : ((time : ℕ) → time < 2 ^ 16 → (time < limit)
      ↔ All (IsInTime loads time) (turns_in Arrival number 0 parts.connections))
      → (t : ℕ) → t < parts.day.periods → MayArrive parts trips number flight t
      → IsFreeAt Arrival parts loads there limit t
  may_arrive_free limits t day may = record {
    in_time = (limits t (omega (arith, day, valid.day.periods_to))).1
        (leaves_in_time parts valid trips loads are number t may.turns);
    space =
        let count = are.arrivals flight.to t
        (airport_within parts.places flight.to a_fine.destination) day in
        subst (λ k. HasSpace parts loads kind.Arr k t) (sym to_there)
        (omega (arith, may.room, count));
  }

  space_may : (n p : ℕ) → 0 < n → n + 1 < length flight.nodes → p < parts.day.periods
      → HasSpace parts loads kind.Sector (place_at flight n) p
      → MayStay parts trips (place_at flight n) p
  space_may n p above below day space =
      let count = are.sectors (place_at flight n) p
      (sector_within parts.places (place_at flight n) (a_fine.route.sectors n above below)) day in
      omega (arith, space, count)

  may_space : (n p : ℕ) → 0 < n → n + 1 < length flight.nodes → p < parts.day.periods
      → MayStay parts trips (place_at flight n) p
      → HasSpace parts loads kind.Sector (place_at flight n) p
  may_space n p above below day may =
      let count = are.sectors (place_at flight n) p
      (sector_within parts.places (place_at flight n) (a_fine.route.sectors n above below)) day in
      omega (arith, may, count)

  clear_upto : (n t u f end : ℕ) → 0 < n → n + 1 < length flight.nodes → end < parts.day.periods
      → u ≤ end → IsFirstFull parts loads (place_at flight n) end t f
      → ((p : ℕ) → t ≤ p → p < u → MayStay parts trips (place_at flight n) p)
      → (f < u) ⊎ (u ≤ f) → u ≤ f
  clear_upto n t u f end above below day to full may (inl less) =
      absurd (full.full (omega (arith, less, to))
      (may_space n f above below (omega (arith, less, day, to)) (may f full.late less)))
  clear_upto n t u f end above below day to full may (inr enough) = enough

  pub fit_rates : (row : ℕ → Access) (lists : RateLists) → last + 1 ≡ length flight.nodes
      → (span : Window) → span.hi < parts.day.periods
      → ((n t : ℕ) → IsInWindow (row n).window t → IsInSpan span t)
      → ((time : ℕ) → (first ≤ time)
      ↔ All (IsAfter loads time) (turns_in Departure number 0 parts.connections))
      → ((time : ℕ) → time < 2 ^ 16 → (time < limit)
      ↔ All (IsInTime loads time) (turns_in Arrival number 0 parts.connections))
      → ((t : ℕ) → IsInWindow (row 0).window t
      → IsGiven ((rates_of lists).leaves t) (IsFreeAt Departure parts loads there first t)
      (pos 0 -ℤ credit_then parts.tables there t))
      → ((t : ℕ) → IsInWindow (row last).window t
      → IsGiven ((rates_of lists).arrives t) (IsFreeAt Arrival parts loads there limit t)
      (total_then parts.tables there t))
      → ((n t : ℕ) → 0 < n → n < last → IsInSpan span t
      → IsFirstFull parts loads (place_at flight n) span.hi t ((rates_of lists).clear n t))
      → IsFitTable lists
      → AreFitRates parts trips number flight row span (rates_of lists)
  fit_rates row lists end span in_day windows firsts limits leaves arrives full table = record {
    leaves = λ t window.
        let day : t < parts.day.periods = omega (arith, (windows 0 t window).1, in_day) in
        given_same ((rates_of lists).leaves t) (IsFreeAt Departure parts loads there first t)
        (MayLeave parts trips number flight t) (pos 0 -ℤ credit_then parts.tables there t)
        (pos 0 -ℤ credit_of parts.tables flight.cost (t - flight.sd)) (leaves t window)
        (leave_may firsts t day) (may_leave_free firsts t day)
        (ap (λ f. pos 0 -ℤ credit_then parts.tables f t) is);
    arrives = λ n t ends window.
        let day : t < parts.day.periods = omega (arith, (windows n t window).1, in_day) in
        let same : n ≡ last = omega (arith, ends, end) in
        given_same ((rates_of lists).arrives t) (IsFreeAt Arrival parts loads there limit t)
        (MayArrive parts trips number flight t) (total_then parts.tables there t)
        (total_of parts.tables flight.cost (t - flight.sa))
        (arrives t (subst (λ m. IsInWindow (row m).window t) same window))
        (arrive_may limits t day) (may_arrive_free limits t day)
        (ap (λ f. total_then parts.tables f t) is);
    paid = λ n t.
        ap (λ costs. get_or costs (place_of n t) (pos 0)) table.free
        ∙ get_or-replicated (most_nodes * most_periods) (place_of n t);
    first = λ t u low high.
        let is_open = table.first t (omega (arith, low, high, valid.day.periods_to)) in
        omega (arith, is_open, high, valid.day.periods_to);
    stays = λ n t u above below begin low high upto p from to.
        space_may n p above below (omega (arith, to, high, in_day))
        ((full n t above (omega (arith, below, end)) (begin, omega (arith, low, high))).free p from
        (omega (arith, to, upto)) (omega (arith, to, high)));
    clear = λ n t u above below begin low high may.
        clear_upto n t u ((rates_of lists).clear n t) span.hi above below in_day high
        (full n t above (omega (arith, below, end)) (begin, omega (arith, low, high))) may
        (cases_lt ((rates_of lists).clear n t) u);
  }
    where
      get_or-replicated : (n k : ℕ) → get_or (replicate n (pos 0)) k (pos 0) ≡ pos 0
      get_or-replicated n k = by (cases_lt k n)
        where
          by : (k < n) ⊎ (n ≤ k) → get_or (replicate n (pos 0)) k (pos 0) ≡ pos 0
          by (inl within) = get_or-replicate n k (pos 0) (pos 0) within
          by (inr past) =
              let long = length-replicate n (pos 0) in
              get_or_past (replicate n (pos 0)) k (pos 0) (omega (arith, long, past))
