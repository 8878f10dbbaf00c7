-- No field of a scenario's text calls for quotes, so its records are read as they are written.
use Rattle.std.specs.Prelude.{codes, if◌then◌else◌}
use Rattle.std.proofs.Common.{◌≡◌, ◌≢◌, ℕ, suc, ◌+◌, ◌/◌, ◌==◌, Bool, true, false, All, List, [], ◌∷◌, ◌++◌, map, Option, Some, None, slice_get, ℤ, refl, ap, subst, ◌∙◌, arith}
use Rattle.std.specs.Fmt.{signed_decimal}
use Rattle.std.proofs.lemmas.Bool.{ne_eqb}
use Rattle.std.proofs.lemmas.Option.{slice_get_within, get_or_from_slice_get}
use Rattle.csv.specs.Writing.{default_writer, needs_byte}
use Rattle.flow_types.specs.declared.day.Day.{Day}
use Rattle.flow_types.specs.declared.flight.Connection.{Connection}
use Rattle.flow_types.specs.declared.flight.Cost.{Cost}
use Rattle.flow_types.specs.declared.flight.Cost.TheVariants.{Linear, Tables}
use Rattle.flow_types.specs.declared.flight.CostTable.{CostTable}
use Rattle.flow_types.specs.declared.flight.Flight.{Flight}
use Rattle.flow_types.specs.declared.flight.Leg.{Leg}
use Rattle.flow_types.specs.declared.parts.Parts.{Parts}
use Rattle.flow_types.specs.declared.place.Place.{Place}
use Rattle.flow_types.specs.declared.place.PlaceKind.{PlaceKind}
use Rattle.flow_types.specs.declared.place.PlaceKind.TheVariants.{Airport, Sector}
use Rattle.flow_types.specs.Trips.{place_at}
use Rattle.flow_types.specs.Valid.{IsFlight, IsPlace, IsScenario, IsTable}
use Rattle.flow_types.specs.Words.{is_name}
use Rattle.text_records.specs.Rows.{Fields, rows_of}
use Rattle.text_records.proofs.LineFacts.{ArePlain, ArePlainLines, IsPlain, IsPlainLine, plain_decimal, plain_if_name, plain_signed, rows_of_lines}
use Rattle.scenario_maker.specs.Writing.{airborne_of, beginning_text, cap_row, cap_rows, change_rows, change_rows_of, connection_row, cost_rows, digit, first_of, flight_name, flight_rows, hours_fields, leg_row, on_ground_of, place_name, place_row, place_row_of, scenario_rows, scenario_text, standing, table_name, table_row, traffic_rows, waiting}
use Rattle.scenario_maker.proofs.TextFacts.{rows_are}

-- what holds of each holds of the first, of the others, and of one at a position
pub first_holds : {X : Type 0} (P : X → Type 0) (x : X) (xs : List X) → All P (x ∷ xs) → P x
first_holds P x xs all = all 0 x (omega arith)

pub others_hold : {X : Type 0} (P : X → Type 0) (x : X) (xs : List X) → All P (x ∷ xs) → All P xs
others_hold P x xs all = λ k d h. all (suc k) d (omega arith)

pub found_holds : {X : Type 0} (P : X → Type 0) (xs : List X) (k : ℕ) (x : X) → All P xs
    → slice_get xs k ≡ Some x → P x
found_holds P xs k x all there =
    subst P (get_or_from_slice_get xs k x x there) (all k x (slice_get_within xs k x there))

pub plain_append : (first second : List Fields) → ArePlainLines first → ArePlainLines second
    → ArePlainLines (first ++ second)
plain_append [] second plain more = more
plain_append (row ∷ first) second plain more =
    (plain.0, plain_append first second plain.1 more)

plain_map : {X : Type 0} (P : X → Type 0) (row_of : X → Fields) (xs : List X)
    → ((x : X) → P x → IsPlainLine (row_of x)) → All P xs → ArePlainLines (map row_of xs)
plain_map P row_of [] each all = tt
plain_map P row_of (x ∷ xs) each all =
    (each x (first_holds P x xs all), plain_map P row_of xs each (others_hold P x xs all))

plain_byte : (b : ℕ) → b ≢ 44 → b ≢ 34 → b ≢ 13 → b ≢ 10 → needs_byte default_writer b ≡ false
plain_byte b comma quote return feed =
    rw (ne_eqb b 44 comma, ne_eqb b 34 quote, ne_eqb b 13 return, ne_eqb b 10 feed) refl

plain_digit : (n : ℕ) → needs_byte default_writer (digit n) ≡ false
plain_digit n =
    plain_byte (digit n) (λ is. absurd (omega (arith, is))) (λ is. absurd (omega (arith, is)))
    (λ is. absurd (omega (arith, is))) (λ is. absurd (omega (arith, is)))

pub plain_beginning : (day : Day) → IsPlain (beginning_text day)
unfolding beginning_text
plain_beginning day =
    rw (
      plain_digit (day.year / 1000),
      plain_digit (day.year / 100),
      plain_digit (day.year / 10),
      plain_digit day.year,
      plain_digit (day.month / 10),
      plain_digit day.month,
      plain_digit (day.day / 10),
      plain_digit day.day,
      plain_digit (day.hour / 10),
      plain_digit day.hour,
      plain_digit (day.minute / 10),
      plain_digit day.minute,
    ) refl

plain_place_row : (kind : PlaceKind) (place : Place) → is_name place.name ≡ true
    → IsPlainLine (place_row_of kind place)
plain_place_row Airport place named = (
  refl,
  (
    plain_if_name place.name named,
    (plain_decimal (first_of place.first), (plain_decimal (first_of place.second), tt)),
  ),
)
plain_place_row Sector place named =
    (refl, (plain_if_name place.name named, (plain_decimal (first_of place.first), tt)))

plain_caps : (word name : List ℕ) (usual period : ℕ) (caps : List ℕ) → IsPlain word → IsPlain name
    → ArePlainLines (cap_rows word name usual period caps)
plain_caps word name usual period [] plain_word plain_name = tt
plain_caps word name usual period (value ∷ values) plain_word plain_name =
    by (value == usual) (plain_caps word name usual (period + 1) values plain_word plain_name)
  where
    by : (same : Bool) → ArePlainLines (cap_rows word name usual (period + 1) values)
        → ArePlainLines (if same then cap_rows word name usual (period + 1) values
        else cap_row word name period value ∷ cap_rows word name usual (period + 1) values)
    by true more = more
    by false more = (
      (
        refl,
        (
          plain_word,
          (
            plain_name,
            (plain_decimal period, (plain_decimal period, (plain_decimal value, tt))),
          ),
        ),
      ),
      more,
    )

plain_changes_of : (kind : PlaceKind) (place : Place) → is_name place.name ≡ true
    → ArePlainLines (change_rows_of kind place)
plain_changes_of Airport place named =
    plain_append (cap_rows (codes "dep") place.name (first_of place.first) 0 place.first)
    (cap_rows (codes "arr") place.name (first_of place.second) 0 place.second)
    (plain_caps (codes "dep") place.name (first_of place.first) 0 place.first refl
    (plain_if_name place.name named))
    (plain_caps (codes "arr") place.name (first_of place.second) 0 place.second refl
    (plain_if_name place.name named))
plain_changes_of Sector place named =
    plain_caps (codes "sector") place.name (first_of place.first) 0 place.first refl
    (plain_if_name place.name named)

plain_changes : (periods : ℕ) (places : List Place) → All (IsPlace periods) places
    → ArePlainLines (change_rows places)
plain_changes periods [] all = tt
plain_changes periods (place ∷ places) all =
    plain_append (change_rows_of place.kind place) (change_rows places)
    (plain_changes_of place.kind place (first_holds (IsPlace periods) place places all).name)
    (plain_changes periods places (others_hold (IsPlace periods) place places all))

plain_values : (values : List ℤ) → ArePlain (map signed_decimal values)
plain_values [] = tt
plain_values (value ∷ values) = (plain_signed value, plain_values values)

module _ (parts : Parts) (valid : IsScenario parts) where
  plain_place_name : (k : ℕ) → IsPlain (place_name (slice_get parts.places k))
  plain_place_name k = by (slice_get parts.places k) refl
    where
      by : (found : Option Place) → slice_get parts.places k ≡ found → IsPlain (place_name found)
      by None there = refl
      by (Some place) there =
          plain_if_name place.name
          (found_holds (IsPlace parts.day.periods) parts.places k place valid.places.each
          there).name

  plain_table_name : (k : ℕ) → IsPlain (table_name (slice_get parts.tables k))
  plain_table_name k = by (slice_get parts.tables k) refl
    where
      by : (found : Option CostTable) → slice_get parts.tables k ≡ found
          → IsPlain (table_name found)
      by None there = refl
      by (Some table) there =
          plain_if_name table.name
          (found_holds IsTable parts.tables k table valid.tables.each there).name

  plain_flight_name : (k : ℕ) → IsPlain (flight_name (slice_get parts.flights k))
  plain_flight_name k = by (slice_get parts.flights k) refl
    where
      by : (found : Option Flight) → slice_get parts.flights k ≡ found
          → IsPlain (flight_name found)
      by None there = refl
      by (Some flight) there =
          plain_if_name flight.name
          (found_holds (IsFlight parts.day.periods parts.places parts.tables) parts.flights k flight
          valid.flights.each there).name

  plain_leg : (flight : Flight) → is_name flight.name ≡ true → (leg : Leg)
      → IsPlainLine (leg_row parts.places flight leg)
  plain_leg flight named leg = (
    refl,
    (
      plain_if_name flight.name named,
      (
        plain_place_name (place_at flight leg.from),
        (plain_place_name (place_at flight leg.to), (plain_decimal leg.least, tt)),
      ),
    ),
  )

  plain_legs : (flight : Flight) → is_name flight.name ≡ true → (legs : List Leg)
      → ArePlainLines (map (leg_row parts.places flight) legs)
  plain_legs flight named [] = tt
  plain_legs flight named (leg ∷ legs) =
      (plain_leg flight named leg, plain_legs flight named legs)

  plain_cost : (name : List ℕ) → is_name name ≡ true → (cost : Cost)
      → ArePlainLines (cost_rows parts.tables name cost)
  plain_cost name named (Linear on_ground airborne) = tt
  plain_cost name named (Tables total credit) = (
    (
      refl,
      (
        plain_if_name name named,
        (plain_table_name total, (plain_table_name credit, tt)),
      ),
    ),
    tt,
  )

  plain_hours : (flight : Flight) → ArePlain (hours_fields flight)
  plain_hours flight = (
    plain_decimal flight.sd,
    (
      plain_decimal flight.sa,
      (
        plain_decimal flight.mg,
        (
          plain_decimal flight.md,
          (
            plain_decimal (on_ground_of flight.cost),
            (plain_decimal (airborne_of flight.cost), tt),
          ),
        ),
      ),
    ),
  )

  plain_flight : (flight : Flight)
      → IsFlight parts.day.periods parts.places parts.tables flight
      → ArePlainLines (flight_rows parts.places parts.tables flight)
  plain_flight flight is = (
    (
      refl,
      (
        plain_if_name flight.name is.name,
        (
          plain_place_name flight.from,
          (plain_place_name flight.to, plain_hours flight),
        ),
      ),
    ),
    plain_append (map (leg_row parts.places flight) flight.legs)
        (cost_rows parts.tables flight.name flight.cost)
        (plain_legs flight is.name flight.legs) (plain_cost flight.name is.name flight.cost),
  )

  plain_connections : (connections : List Connection)
      → ArePlainLines (map (connection_row parts.flights) connections)
  plain_connections [] = tt
  plain_connections (connection ∷ connections) = (
    (
      refl,
      (
        plain_flight_name connection.first,
        (
          plain_flight_name connection.second,
          (plain_decimal connection.turnaround, tt),
        ),
      ),
    ),
    plain_connections connections,
  )

  plain_traffic : (count : ℕ) (flights : List Flight) (connections : List Connection)
      → All (IsFlight parts.day.periods parts.places parts.tables) flights
      → ArePlainLines (traffic_rows parts.places parts.tables parts.flights count flights
      connections)
  plain_traffic count [] connections all = tt
  plain_traffic count (flight ∷ flights) connections all =
      let P = IsFlight parts.day.periods parts.places parts.tables in
      plain_append (flight_rows parts.places parts.tables flight) _
      (plain_flight flight (first_holds P flight flights all))
      (plain_append (map (connection_row parts.flights) (standing (count + 1) connections)) _
      (plain_connections (standing (count + 1) connections))
      (plain_traffic (count + 1) flights (waiting (count + 1) connections)
      (others_hold P flight flights all)))

  plain_scenario : ArePlainLines (scenario_rows parts)
  plain_scenario = (
    (
      refl,
      (
        plain_beginning parts.day,
        (plain_decimal parts.day.minutes, (plain_decimal parts.day.periods, tt)),
      ),
    ),
    plain_append (map place_row parts.places) _
        (plain_map (IsPlace parts.day.periods) place_row parts.places
        (λ place is. plain_place_row place.kind place is.name) valid.places.each)
        (plain_append (change_rows parts.places) _
        (plain_changes parts.day.periods parts.places valid.places.each)
        (plain_append (map table_row parts.tables) _
        (plain_map IsTable table_row parts.tables
        (λ table is. (refl, (plain_if_name table.name is.name, plain_values table.values)))
        valid.tables.each)
        (plain_traffic 0 parts.flights parts.connections valid.flights.each))),
  )

  -- the records that are read are those that were written
  pub rows_back : rows_of (scenario_text parts) ≡ scenario_rows parts
  rows_back =
      ap rows_of (rows_are (scenario_rows parts))
      ∙ rows_of_lines (scenario_rows parts) 100 _ plain_scenario refl refl
