-- The text of a made day is short.
use Rattle.std.specs.Prelude.{codes, replicate}
use Rattle.std.proofs.Common.{◌≡◌, ℕ, zero, suc, ◌+◌, ◌*◌, ◌/◌, ◌%◌, ◌^◌, ◌<◌, ◌≤◌, ◌==◌, Bool, true, false, ◌&&◌, nat_le, List, [], ◌∷◌, ◌++◌, map, length, get_or, Option, None, Some, slice_get, All, refl, sym, ap, ap₂, subst, arith, length-append}
use Rattle.std.specs.Fmt.{decimal}
use Rattle.std.specs.List.{list_all}
use Rattle.std.proofs.Math.Nat.{pow-le-pow_right}
use Rattle.std.proofs.lemmas.Bool.{and_parts, eq-eqb, leb-true}
use Rattle.std.proofs.lemmas.Fmt.{length-decimal-le_wide}
use Rattle.std.proofs.lemmas.List.Elements.{All-append}
use Rattle.exact_sums.specs.Lists.{all_below}
use Rattle.flow_types.specs.Limits.{most_delay, most_text_bytes}
use Rattle.flow_types.specs.Routes.{IsLeg}
use Rattle.flow_types.specs.Trips.{place_at}
use Rattle.flow_types.specs.Valid.{IsFlight, IsPlace, IsScenario, IsTable}
use Rattle.flow_types.specs.Words.{is_name, is_name_byte}
use Rattle.flow_types.specs.declared.flight.Connection.{Connection}
use Rattle.flow_types.specs.declared.flight.Cost.{Cost}
use Rattle.flow_types.specs.declared.flight.Cost.TheVariants.{Linear, Tables}
use Rattle.flow_types.specs.declared.flight.CostTable.{CostTable}
use Rattle.flow_types.specs.declared.flight.Flight.{Flight}
use Rattle.flow_types.specs.declared.flight.Leg.{Leg}
use Rattle.flow_types.specs.declared.place.Place.{Place}
use Rattle.flow_types.specs.declared.parts.Parts.{Parts}
use Rattle.text_records.specs.Lines.{field_text}
use Rattle.text_records.specs.Rows.{Fields}
use Rattle.scenario_maker.specs.Made.{made_airport, made_day, made_flight, made_flights, made_parts, made_places, made_sector, made_text, ways_legs}
use Rattle.scenario_maker.specs.Writing.{airborne_of, beginning_text, cap_rows, change_rows, change_rows_of, connection_row, cost_rows, day_row, flight_name, flight_row, flight_rows, leg_row, more_text, on_ground_of, place_name, place_row, row_text, rows_text, scenario_rows, standing, table_name, traffic_rows, waiting}
use Rattle.scenario_maker.proofs.ConnectionFacts.{all_front}
use Rattle.scenario_maker.proofs.FlightFacts.{prices_low}
use Rattle.scenario_maker.proofs.MadeFacts.{below_all, below_at, below_count, few_connections, id_is_name, made_is}
use Rattle.scenario_maker.proofs.PlainFacts.{first_holds, found_holds, others_hold}
use Rattle.scenario_maker.proofs.TrafficFacts.{all_behind, standing_waiting}

-- fields of at most 32 bytes
abbrev AreShort : Fields → Type 0
AreShort [] = Unit {0}
AreShort (field ∷ fields) = (length field ≤ 32) × AreShort fields

more_short : (fields : Fields) → AreShort fields
    → length (more_text fields) ≤ 33 * length fields + 1
more_short [] short = omega arith
more_short (field ∷ fields) short =
    let one = short.0 in
    let more = more_short fields short.1 in
    let size = length-append (field_text field) (more_text fields) in
    omega (arith, one, more, size)

-- lines of at most ten of them
abbrev AreLines : List Fields → Type 0
AreLines [] = Unit {0}
AreLines (row ∷ rows) = (AreShort row × (length row ≤ 10)) × AreLines rows

line_short : (row : Fields) → AreShort row → length row ≤ 10 → length (row_text row) ≤ 400
line_short [] short few = omega arith
line_short (field ∷ fields) short few =
    let one = short.0 in
    let more = more_short fields short.1 in
    let size = length-append field (more_text fields) in
    omega (arith, one, more, size, few)

lines_short : (rows : List Fields) → AreLines rows
    → length (rows_text rows) ≤ 400 * length rows
lines_short [] lines = omega arith
lines_short (row ∷ rows) lines =
    let one = line_short row lines.0.0 lines.0.1 in
    let more = lines_short rows lines.1 in
    let size = length-append (row_text row) (rows_text rows) in
    omega (arith, one, more, size)

lines_append : (first second : List Fields) → AreLines first → AreLines second
    → AreLines (first ++ second)
lines_append [] second lines more = more
lines_append (row ∷ first) second lines more =
    (lines.0, lines_append first second lines.1 more)

-- so many lines, which are short
record AreFew (most : ℕ) (rows : List Fields) : Type 0 where
  lines : AreLines rows
  few : length rows ≤ most

few_append : (some more : ℕ) (first second : List Fields) → AreFew some first
    → AreFew more second → AreFew (some + more) (first ++ second)
few_append some more first second one other = record {
  lines = lines_append first second one.lines other.lines;
  few = let a = one.few in let b = other.few in
      let size = length-append first second in omega (arith, a, b, size);
}

few_weaker : (some most : ℕ) (rows : List Fields) → some ≤ most → AreFew some rows
    → AreFew most rows
few_weaker some most rows less are =
    let few = are.few in
    record { lines = are.lines; few = omega (arith, few, less) }

none_few : AreFew 0 []
none_few = record { lines = tt; few = omega arith }

one_few : (row : Fields) → AreShort row → length row ≤ 10 → AreFew 1 (row ∷ [])
one_few row short few = record { lines = ((short, few), tt); few = omega arith }

-- a record for each item
module _ {X : Type 0} (row_of : X → Fields) where
  each_few : (xs : List X) → All (λ x. AreFew 1 (row_of x ∷ [])) xs
      → AreFew (length xs) (map row_of xs)
  each_few [] all = none_few
  each_few (x ∷ xs) all =
      let P = λ (y : X). AreFew 1 (row_of y ∷ []) in
      few_weaker (1 + length xs) (length (x ∷ xs)) (map row_of (x ∷ xs)) (omega arith)
      (few_append 1 (length xs) (row_of x ∷ []) (map row_of xs) (first_holds P x xs all)
      (each_few xs (others_hold P x xs all)))

-- a number has so many digits
digits_to : (k n : ℕ) → 0 < k → k ≤ 38 → n < 10 ^ k → length (decimal n) ≤ k
digits_to k n some few small =
    let exponent : k ≤ 64 = omega (arith, few) in
    let wide : 10 ^ k ≤ 10 ^ 64 = pow-le-pow_right (omega arith) exponent in
    length-decimal-le_wide k n some small (omega (arith, small, wide))

number_short : (n : ℕ) → n < 10 ^ 18 → length (decimal n) ≤ 32
number_short n small =
    let digits = digits_to 18 n (omega arith) (omega arith) small in omega (arith, digits)

name_short : (bytes : List ℕ) → is_name bytes ≡ true → length bytes ≤ 32
name_short bytes is =
    let sizes = and_parts (nat_le 1 (length bytes) && nat_le (length bytes) 32)
    (list_all is_name_byte bytes) is in
    let most = and_parts (nat_le 1 (length bytes)) (nat_le (length bytes) 32) sizes.0 in
    leb-true (length bytes) 32 most.1

-- the lines of a valid day's flights and connections
module _ (parts : Parts) (valid : IsScenario parts) where
  place_short : (k : ℕ) → length (place_name (slice_get parts.places k)) ≤ 32
  place_short k = by (slice_get parts.places k) refl
    where
      by : (found : Option Place) → slice_get parts.places k ≡ found
          → length (place_name found) ≤ 32
      by None there = omega arith
      by (Some place) there =
          name_short place.name
          (found_holds (IsPlace parts.day.periods) parts.places k place valid.places.each
          there).name

  table_short : (k : ℕ) → length (table_name (slice_get parts.tables k)) ≤ 32
  table_short k = by (slice_get parts.tables k) refl
    where
      by : (found : Option CostTable) → slice_get parts.tables k ≡ found
          → length (table_name found) ≤ 32
      by None there = omega arith
      by (Some table) there =
          name_short table.name
          (found_holds IsTable parts.tables k table valid.tables.each there).name

  flight_short : (k : ℕ) → length (flight_name (slice_get parts.flights k)) ≤ 32
  flight_short k = by (slice_get parts.flights k) refl
    where
      by : (found : Option Flight) → slice_get parts.flights k ≡ found
          → length (flight_name found) ≤ 32
      by None there = omega arith
      by (Some flight) there =
          name_short flight.name
          (found_holds (IsFlight parts.day.periods parts.places parts.tables) parts.flights k flight
          valid.flights.each there).name

  leg_few : (flight : Flight) → is_name flight.name ≡ true → (leg : Leg)
      → IsLeg (length flight.nodes) leg → AreFew 1 (leg_row parts.places flight leg ∷ [])
  leg_few flight named leg is =
      let short = is.least in
      one_few (leg_row parts.places flight leg) (
        omega arith,
        (
          name_short flight.name named,
          (
            place_short (place_at flight leg.from),
            (
              place_short (place_at flight leg.to),
              (number_short leg.least (omega (arith, short)), tt),
            ),
          ),
        ),
      ) (omega arith)

  cost_few : (name : List ℕ) → is_name name ≡ true → (cost : Cost)
      → AreFew 1 (cost_rows parts.tables name cost)
  cost_few name named (Linear on_ground airborne) =
      few_weaker 0 1 [] (omega arith) none_few
  cost_few name named (Tables total credit) =
      one_few (codes "cost" ∷ name ∷ table_name (slice_get parts.tables total)
      ∷ table_name (slice_get parts.tables credit) ∷ []) (
        omega arith,
        (name_short name named, (table_short total, (table_short credit, tt))),
      ) (omega arith)

  schedule_few : (flight : Flight)
      → IsFlight parts.day.periods parts.places parts.tables flight
      → AreFew 1 (flight_row parts.places flight ∷ [])
  schedule_few flight is =
      let forward = is.forward in
      let within = is.within in
      let periods = valid.day.periods_to in
      let ground = is.ground_delay in
      let late = is.arrival_delay in
      let prices = prices_low parts.tables flight.mg flight.md flight.cost is.cost in
      let low = prices.0 in
      let low_too = prices.1 in
      one_few (flight_row parts.places flight) (
        omega arith,
        (
          name_short flight.name is.name,
          (
            place_short flight.from,
            (
              place_short flight.to,
              (
                number_short flight.sd (omega (arith, forward, within, periods)),
                (
                  number_short flight.sa (omega (arith, within, periods)),
                  (
                    number_short flight.mg (omega (arith, ground)),
                    (
                      number_short flight.md (omega (arith, late)),
                      (
                        number_short (on_ground_of flight.cost) (omega (arith, low)),
                        (number_short (airborne_of flight.cost) (omega (arith, low_too)), tt),
                      ),
                    ),
                  ),
                ),
              ),
            ),
          ),
        ),
      ) (omega arith)

  flight_few : (flight : Flight) → IsFlight parts.day.periods parts.places parts.tables flight
      → AreFew (2 + length flight.legs) (flight_rows parts.places parts.tables flight)
  flight_few flight is =
      let legs = map (leg_row parts.places flight) flight.legs in
      let costs = cost_rows parts.tables flight.name flight.cost in
      let each : All (λ leg. AreFew 1 (leg_row parts.places flight leg ∷ [])) flight.legs =
      λ k d within. leg_few flight is.name (get_or flight.legs k d)
      (is.route.each_leg k d within) in
      few_weaker (1 + (length flight.legs + 1)) (2 + length flight.legs)
      (flight_row parts.places flight ∷ (legs ++ costs)) (omega arith)
      (few_append 1 (length flight.legs + 1) (flight_row parts.places flight ∷ []) (legs ++ costs)
      (schedule_few flight is)
      (few_append (length flight.legs) 1 legs costs
      (each_few (leg_row parts.places flight) flight.legs each)
      (cost_few flight.name is.name flight.cost)))

  connections_few : (connections : List Connection)
      → All (λ c. c.turnaround ≤ most_delay) connections
      → AreFew (length connections) (map (connection_row parts.flights) connections)
  connections_few connections all =
      each_few (connection_row parts.flights) connections (λ k d within.
      let c = get_or connections k d in
      let short = all k d within in
      one_few (connection_row parts.flights c) (
        omega arith,
        (
          flight_short c.first,
          (
            flight_short c.second,
            (number_short c.turnaround (omega (arith, short)), tt),
          ),
        ),
      ) (omega arith))

  -- with at most so many legs a flight
  traffic_few : (most count : ℕ) (flights : List Flight) (connections : List Connection)
      → All (λ f. AreFew most (flight_rows parts.places parts.tables f)) flights
      → All (λ c. c.turnaround ≤ most_delay) connections
      → AreFew (length flights * most + length connections)
      (traffic_rows parts.places parts.tables parts.flights count flights connections)
  traffic_few most count [] connections each short =
      few_weaker 0 (0 * most + length connections) [] (omega arith) none_few
  traffic_few most count (flight ∷ flights) connections each short =
      let P = λ (f : Flight). AreFew most (flight_rows parts.places parts.tables f) in
      let C = λ (c : Connection). c.turnaround ≤ most_delay in
      let stand = standing (count + 1) connections in
      let wait = waiting (count + 1) connections in
      let all = standing_waiting (count + 1) connections in
      let both : All C (stand ++ wait) = subst (All C) (sym all) short in
      let size : length (stand ++ wait) ≡ length connections = ap length all in
      let parted = length-append stand wait in
      few_weaker (most + (length stand + (length flights * most + length wait)))
      (length (flight ∷ flights) * most + length connections) _
      (omega (arith, size, parted))
      (few_append most (length stand + (length flights * most + length wait))
      (flight_rows parts.places parts.tables flight) _ (first_holds P flight flights each)
      (few_append (length stand) (length flights * most + length wait)
      (map (connection_row parts.flights) stand) _
      (connections_few stand (all_front C stand wait both))
      (traffic_few most (count + 1) flights wait (others_hold P flight flights each)
      (all_behind C stand wait both))))

-- the lines of the day and its places
day_short : AreShort (day_row made_day)
unfolding beginning_text
day_short =
    let minutes = number_short 15 (omega arith) in
    let periods = number_short 96 (omega arith) in
    (omega arith, (omega arith, (minutes, (periods, tt))))

-- no capacity is another than that of period 0
no_changes : (word name : List ℕ) (usual period periods : ℕ)
    → cap_rows word name usual period (replicate periods usual) ≡ []
no_changes word name usual period zero = refl
no_changes word name usual period (suc periods) =
    rw (eq-eqb usual usual refl, no_changes word name usual (period + 1) periods) refl

no_change_rows : (places : List Place) → All (λ p. change_rows_of p.kind p ≡ []) places
    → change_rows places ≡ []
no_change_rows [] all = refl
no_change_rows (place ∷ places) all =
    let P = λ (p : Place). change_rows_of p.kind p ≡ [] in
    ap₂ (λ (a b : List Fields). a ++ b) (first_holds P place places all)
    (no_change_rows places (others_hold P place places all))

few_legs : (another : Bool) → length (ways_legs another) ≤ 5
few_legs true = omega arith
few_legs false = omega arith

module _ (n : ℕ) (small : n ≤ 2000) where
  valid : IsScenario (made_parts n)
  valid = made_is n small

  airport_few : (k : ℕ) → k < 6 → AreFew 1 (place_row (made_airport (1 + n / 120) k) ∷ [])
  airport_few k less =
      let room = number_short (1 + n / 120) (omega (arith, small)) in
      one_few (place_row (made_airport (1 + n / 120) k)) (
        omega arith,
        (
          name_short (80 ∷ decimal k) (id_is_name 80 k refl (omega (arith, less))),
          (room, (room, tt)),
        ),
      ) (omega arith)

  sector_few : (k : ℕ) → k < 10 → AreFew 1 (place_row (made_sector (1 + n / 60) k) ∷ [])
  sector_few k less =
      let room = number_short (1 + n / 60) (omega (arith, small)) in
      one_few (place_row (made_sector (1 + n / 60) k)) (
        omega arith,
        (name_short (90 ∷ decimal k) (id_is_name 90 k refl (omega (arith, less))), (room, tt)),
      ) (omega arith)

  places_few : AreFew 16 (map place_row (made_places n))
  places_few =
      let P = λ (p : Place). AreFew 1 (place_row p ∷ []) in
      let airport = made_airport (1 + n / 120) in
      let sector = made_sector (1 + n / 60) in
      each_few place_row (made_places n)
      (All-append P (all_below 6 (λ k. airport k ∷ [])) (all_below 10 (λ k. sector k ∷ []))
      (below_all airport P 6 airport_few) (below_all sector P 10 sector_few))

  changes_few : AreFew 0 (change_rows (made_places n))
  changes_few =
      let P = λ (p : Place). change_rows_of p.kind p ≡ [] in
      let airport = made_airport (1 + n / 120) in
      let sector = made_sector (1 + n / 60) in
      let none : change_rows (made_places n) ≡ [] =
      no_change_rows (made_places n)
      (All-append P (all_below 6 (λ k. airport k ∷ [])) (all_below 10 (λ k. sector k ∷ []))
      (below_all airport P 6 (λ k less. ap₂ (λ (a b : List Fields). a ++ b)
      (no_changes (codes "dep") (80 ∷ decimal k) (1 + n / 120) 0 96)
      (no_changes (codes "arr") (80 ∷ decimal k) (1 + n / 120) 0 96)))
      (below_all sector P 10
      (λ k less. no_changes (codes "sector") (90 ∷ decimal k) (1 + n / 60) 0 96))) in
      subst (AreFew 0) (sym none) none_few

  flights_few : All (λ f. AreFew 7 (flight_rows (made_places n) [] f)) (made_flights n)
  flights_few =
      below_all made_flight (λ f. AreFew 7 (flight_rows (made_places n) [] f)) n (λ i less.
      let legs = few_legs (i % 3 == 0) in
      few_weaker (2 + length (made_flight i).legs) 7 _ (omega (arith, legs))
      (flight_few (made_parts n) valid (made_flight i)
      (found_holds (IsFlight 96 (made_places n) []) (made_flights n) i (made_flight i)
      valid.flights.each (below_at made_flight n i less))))

  rows_few : AreFew (17 + (7 * n + n)) (scenario_rows (made_parts n))
  rows_few =
      let parts = made_parts n in
      let turns : All (λ c. c.turnaround ≤ most_delay) parts.connections =
      λ k d within. (valid.connections.each k d within).turnaround in
      let count = below_count made_flight n in
      let connections = few_connections n in
      let traffic = traffic_few parts valid 7 0 parts.flights parts.connections flights_few turns in
      let most = length parts.flights * 7 + length parts.connections in
      few_weaker (1 + (16 + (0 + most))) (17 + (7 * n + n)) _
      (omega (arith, count, connections))
      (few_append 1 (16 + (0 + most)) (day_row made_day ∷ []) _
      (one_few (day_row made_day) day_short (omega arith))
      (few_append 16 (0 + most) (map place_row (made_places n)) _ places_few
      (few_append 0 most (change_rows (made_places n)) _ changes_few traffic)))

  pub made_short : length (made_text n) ≤ most_text_bytes
  unfolding made_text
  made_short =
      let size = lines_short (scenario_rows (made_parts n)) rows_few.lines in
      let few = rows_few.few in
      omega (arith, size, few, small)
