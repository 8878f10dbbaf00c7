-- The records of connections are read as the connections.
use Rattle.std.specs.Prelude.{codes, nat_lt, option_map, if◌then◌else◌}
use Rattle.std.proofs.Common.{◌≡◌, ◌≢◌, ℕ, zero, suc, ◌+◌, ◌<◌, ◌≤◌, ◌==◌, Bool, true, false, ◌&&◌, List, [], ◌∷◌, ◌++◌, map, length, get_or, slice_get, Option, Some, Ok, All, AllPairs, IsTrue, refl, sym, ap, ap₂, subst, ◌∙◌, inl, inr, arith, append_assoc, length-append}
use Rattle.std.specs.Fmt.{decimal}
use Rattle.std.proofs.Math.ListN.{get_or-append}
use Rattle.std.proofs.Math.Seq.{get_or-append_seam, take-append_seam}
use Rattle.std.proofs.lemmas.Bool.{and_left, and_parts, and_right, cases_Bool, eq-eqb, eqb-true, lt-leb, ltb-true, ne_eqb, or_from}
use Rattle.std.proofs.lemmas.List.{append-nil}
use Rattle.std.proofs.lemmas.Option.{same_Some, slice_get-get_or, slice_get-map}
use Rattle.flow_types.specs.Limits.{most_connections, most_delay}
use Rattle.flow_types.specs.Valid.{IsConnection, IsOtherConnection, IsScenario, destination_of, origin_of}
use Rattle.flow_types.specs.Words.{is_name}
use Rattle.flow_types.specs.declared.flight.Connection.{Connection}
use Rattle.flow_types.specs.declared.flight.Flight.{Flight}
use Rattle.flow_types.specs.declared.parts.Parts.{Parts}
use Rattle.flow_types.proofs.PairFacts.{pairs_before}
use Rattle.plan_text.proofs.ReadBack.{named_at}
use Rattle.text_records.specs.Names.{known_in, position_of}
use Rattle.text_records.specs.Rows.{Fields}
use Rattle.scenario_reader.specs.Connections.{are_connected, connection_of, first_in, is_same_place, meet, second_in}
use Rattle.scenario_reader.specs.DraftParts.{DraftParts, destinations, flight_names, origins}
use Rattle.scenario_reader.specs.Reading.{connect_step, record_step, with_connection}
use Rattle.scenario_reader.specs.declared.flight_draft.FlightDraft.{FlightDraft}
use Rattle.scenario_maker.specs.Writing.{can_stand, connection_row, flight_name, standing}
use Rattle.scenario_maker.proofs.FlightFacts.{AreDraftsOf, drafts_destinations, drafts_names, drafts_origins, pairs_front}
use Rattle.scenario_maker.proofs.PlainFacts.{first_holds, found_holds, others_hold}
use Rattle.scenario_maker.proofs.StepFacts.{Leads, known_back, leads_more, leads_none, leads_same, number_between, seam}

module _ (fields : Fields) where
  first_back : (flights : List FlightDraft) (connections : List Connection) (first : ℕ)
      → known_in 2 (flight_names flights) fields ≡ Ok first
      → length connections < most_connections → first_in flights connections fields ≡ Ok first
  unfolding first_in
  first_back flights connections first known room =
      rw (known, lt-leb most_connections (length connections) room) refl

  second_back : (flights : List FlightDraft) (connections : List Connection) (first second : ℕ)
      → known_in 3 (flight_names flights) fields ≡ Ok second
      → are_connected connections first second ≡ false → meet flights first second ≡ true
      → second_in flights connections first fields ≡ Ok second
  unfolding second_in
  second_back flights connections first second known once together =
      rw (known, once, together) refl

  connection_back : (flights : List FlightDraft) (connections : List Connection)
      (first second turnaround : ℕ) → first_in flights connections fields ≡ Ok first
      → second_in flights connections first fields ≡ Ok second
      → slice_get fields 3 ≡ Some (decimal turnaround) → turnaround ≤ most_delay
      → length fields ≡ 4
      → connection_of flights connections fields
      ≡ Ok (record { first = first; second = second; turnaround = turnaround })
  unfolding connection_of
  connection_back flights connections first second turnaround is_first is_second there short count =
      rw (
        is_first,
        is_second,
        number_between fields 4 turnaround 0 most_delay there (omega (arith, short)) (omega arith)
            short,
        count,
      ) refl

connect_step_back : (draft : DraftParts) (at : ℕ) (rest : Fields) (connection : Connection)
    → connection_of draft.flights draft.connections (codes "connect" ∷ rest) ≡ Ok connection
    → record_step draft at (codes "connect" ∷ rest) ≡ Ok (with_connection draft connection)
unfolding record_step connect_step
connect_step_back draft at rest connection is = rw is refl

some_at : {X : Type 0} (xs : List X) (k : ℕ) → k < length xs
    → (x : X) × (slice_get xs k ≡ Some x)
some_at [] k within = absurd (omega (arith, within))
some_at (x ∷ xs) k within = (get_or (x ∷ xs) k x, slice_get-get_or (x ∷ xs) k x within)

mapped_at : {X Y : Type 0} (f : X → Y) (xs : List X) (k : ℕ) (x : X) → slice_get xs k ≡ Some x
    → slice_get (map f xs) k ≡ Some (f x)
mapped_at f xs k x there = slice_get-map f xs k ∙ ap (option_map f) there

not_connected : (before : List Connection) (connection : Connection)
    → All (λ other. IsOtherConnection other connection) before
    → are_connected before connection.first connection.second ≡ false
not_connected [] connection others = refl
not_connected (first ∷ before) connection others =
    let here = first_holds (λ (c : Connection). IsOtherConnection c connection) first before others
    in
    or_from (first.first == connection.first && first.second == connection.second)
    (are_connected before connection.first connection.second)
    (elim (cases_Bool (first.first == connection.first)) [
      | inl same ↦ and_right (first.first == connection.first)
          (first.second == connection.second) (ne_eqb first.second connection.second
          (here (eqb-true first.first connection.first same)))
      | inr other ↦ and_left (first.first == connection.first)
          (first.second == connection.second) other
    ])
    (not_connected before connection
    (others_hold (λ (c : Connection). IsOtherConnection c connection) first before others))

-- the day with its places, its tables, these flights and these connections
abbrev pub with_connections : Parts → List FlightDraft → List Connection → DraftParts
with_connections parts flights connections = record {
  day = parts.day;
  places = parts.places;
  flights = flights;
  tables = parts.tables;
  connections = connections;
}

-- a connection of flights that were read
module _ (parts : Parts) (flights : List Flight) (names : AllPairs (λ a b. a.name ≢ b.name) flights)
    (named : All (λ f. IsTrue (is_name f.name)) flights) (drafts : List FlightDraft)
    (drafted : AreDraftsOf drafts flights) where
  named_flight : (k : ℕ) (flight : Flight) → slice_get flights k ≡ Some flight
      → is_name (flight_name (slice_get flights k)) ≡ true
  named_flight k flight there =
      subst (λ (found : Option Flight). is_name (flight_name found) ≡ true) (sym there)
      (found_holds (λ (f : Flight). IsTrue (is_name f.name)) flights k flight named there)

  known_flight : (k : ℕ) (flight : Flight) → slice_get flights k ≡ Some flight
      → position_of (flight_name (slice_get flights k)) (flight_names drafts) ≡ Some k
  known_flight k flight there =
      ap (λ (found : Option Flight). position_of (flight_name found) (flight_names drafts)) there
      ∙ ap (position_of flight.name) (drafts_names drafts flights drafted)
      ∙ named_at (λ (f : Flight). f.name) flights k flight names there

  pub connection_read : (at : ℕ) (before : List Connection) (connection : Connection)
      → IsConnection flights connection → length before < most_connections
      → All (λ other. IsOtherConnection other connection) before
      → record_step (with_connections parts drafts before) at
      (connection_row flights connection)
      ≡ Ok (with_connections parts drafts (before ++ connection ∷ []))
  connection_read at before connection is room others =
      let fields = connection_row flights connection in
      let first = some_at flights connection.first is.first in
      let second = some_at flights connection.second is.second in
      let leaves : slice_get (origins drafts) connection.second ≡ Some second.0.from =
      ap (λ (xs : List ℕ). slice_get xs connection.second)
      (drafts_origins drafts flights drafted)
      ∙ mapped_at (λ (f : Flight). f.from) flights connection.second second.0 second.1 in
      let arrives : slice_get (destinations drafts) connection.first ≡ Some first.0.to =
      ap (λ (xs : List ℕ). slice_get xs connection.first)
      (drafts_destinations drafts flights drafted)
      ∙ mapped_at (λ (f : Flight). f.to) flights connection.first first.0 first.1 in
      let same : second.0.from ≡ first.0.to =
      same_Some second.0.from first.0.to (ap origin_of (sym second.1) ∙ is.together
      ∙ ap destination_of first.1) in
      let meets : meet drafts connection.first connection.second ≡ true =
      ap₂ is_same_place leaves arrives ∙ eq-eqb second.0.from first.0.to same in
      let known_first = known_back fields 2 (flight_names drafts)
      (flight_name (slice_get flights connection.first)) connection.first refl
      (named_flight connection.first first.0 first.1)
      (known_flight connection.first first.0 first.1) in
      let known_second = known_back fields 3 (flight_names drafts)
      (flight_name (slice_get flights connection.second)) connection.second refl
      (named_flight connection.second second.0 second.1)
      (known_flight connection.second second.0 second.1) in
      connect_step_back (with_connections parts drafts before) at _ connection
      (connection_back fields drafts before connection.first connection.second
      connection.turnaround (first_back fields drafts before connection.first known_first room)
      (second_back fields drafts before connection.first connection.second known_second
      (not_connected before connection others) meets) refl is.turnaround refl)

-- flights at the front are found where they were
front_at : (front rest : List Flight) (k : ℕ) → k < length front
    → slice_get (front ++ rest) k ≡ slice_get front k
front_at [] rest k within = absurd (omega (arith, within))
front_at (flight ∷ front) rest zero within = refl
front_at (flight ∷ front) rest (suc k) within = front_at front rest k (omega (arith, within))

pub all_front : {X : Type 0} (P : X → Type 0) (xs ys : List X) → All P (xs ++ ys) → All P xs
all_front P xs ys all k d within =
    let longer : k < length (xs ++ ys) = omega (arith, within, length-append xs ys) in
    subst P (get_or-append xs ys d k within) (all k d longer)

-- a connection of two flights at the front
module _ (front rest : List Flight) (connection : Connection)
    (first : connection.first < length front) (second : connection.second < length front) where
  front_row : connection_row (front ++ rest) connection ≡ connection_row front connection
  front_row =
      ap₂ (λ (a b : Option Flight). codes "connect" ∷ flight_name a ∷ flight_name b
      ∷ decimal connection.turnaround ∷ [])
      (front_at front rest connection.first first) (front_at front rest connection.second second)

  front_connection : IsConnection (front ++ rest) connection → IsConnection front connection
  front_connection is = record {
    first = first;
    second = second;
    together = ap origin_of (sym (front_at front rest connection.second second)) ∙ is.together
        ∙ ap destination_of (front_at front rest connection.first first);
    turnaround = is.turnaround;
  }

-- the connections that can stand behind the flights at the front
module _ (parts : Parts) (valid : IsScenario parts) (front rest : List Flight)
    (are : parts.flights ≡ front ++ rest) (drafts : List FlightDraft)
    (drafted : AreDraftsOf drafts front) (count : ℕ) (counted : count ≡ length front) where
  standing_read : (at : ℕ) (before connections : List Connection) (connection : Connection)
      → parts.connections ≡ before ++ connection ∷ connections → can_stand count connection ≡ true
      → record_step (with_connections parts drafts before) at
      (connection_row parts.flights connection)
      ≡ Ok (with_connections parts drafts (before ++ connection ∷ []))
  standing_read at before connections connection joined stands =
      let both = and_parts (nat_lt connection.first count) (nat_lt connection.second count) stands
      in
      let less = ltb-true connection.first count both.0 in
      let less_too = ltb-true connection.second count both.1 in
      let first : connection.first < length front = omega (arith, less, counted) in
      let second : connection.second < length front = omega (arith, less_too, counted) in
      let is : IsConnection parts.flights connection =
      found_holds (IsConnection parts.flights) parts.connections (length before) connection
      valid.connections.each (rw joined (seam before connection connections)) in
      let pairs : AllPairs IsOtherConnection (before ++ connection ∷ connections) =
      subst (AllPairs IsOtherConnection) joined valid.connections.once in
      let size : length parts.connections ≡ length before + suc (length connections) =
      ap length joined ∙ length-append before (connection ∷ connections) in
      let few = valid.connections.few in
      let within : length before < length (before ++ connection ∷ connections) =
      omega (arith, length-append before (connection ∷ connections)) in
      let others : All (λ other. IsOtherConnection other connection) before =
      subst (All (λ (other : Connection). IsOtherConnection other connection))
      (take-append_seam before (connection ∷ connections))
      (pairs_before IsOtherConnection (before ++ connection ∷ connections) (length before)
      connection within (sym (get_or-append_seam before connection connections connection)) pairs)
      in
      let R = λ (a b : Flight). a.name ≢ b.name in
      let names : AllPairs R front =
      pairs_front R front rest (subst (AllPairs R) are valid.flights.names) in
      let all_named : All (λ f. IsTrue (is_name f.name)) parts.flights =
      λ k d inside. (valid.flights.each k d inside).name in
      let named : All (λ f. IsTrue (is_name f.name)) front =
      all_front (λ (f : Flight). IsTrue (is_name f.name)) front rest
      (subst (All (λ (f : Flight). IsTrue (is_name f.name))) are all_named) in
      let same : connection_row parts.flights connection ≡ connection_row front connection =
      ap (λ (fs : List Flight). connection_row fs connection) are
      ∙ front_row front rest connection first second in
      ap (record_step (with_connections parts drafts before) at) same
      ∙ connection_read parts front names named drafts drafted at before connection
      (front_connection front rest connection first second
      (subst (λ (fs : List Flight). IsConnection fs connection) are is))
      (omega (arith, size, few)) others

  none_stands : (at : ℕ) (before : List Connection)
      → Leads at (with_connections parts drafts before) []
      (with_connections parts drafts (before ++ []))
  none_stands at before =
      leads_same at (with_connections parts drafts before) (with_connections parts drafts before)
      (with_connections parts drafts (before ++ [])) []
      (ap (with_connections parts drafts) (sym (append-nil before)))
      (leads_none at (with_connections parts drafts before))

  pub standing_lead : (at : ℕ) (before connections : List Connection)
      → parts.connections ≡ before ++ connections
      → Leads at (with_connections parts drafts before)
      (map (connection_row parts.flights) (standing count connections))
      (with_connections parts drafts (before ++ standing count connections))
  standing_lead at before [] joined = none_stands at before
  standing_lead at before (connection ∷ connections) joined =
      by (can_stand count connection) refl
      (standing_lead (at + 1) (before ++ connection ∷ []) connections
      (joined ∙ sym (append_assoc before (connection ∷ []) connections)))
    where
      by : (stands : Bool) → can_stand count connection ≡ stands
          → Leads (at + 1) (with_connections parts drafts (before ++ connection ∷ []))
          (map (connection_row parts.flights) (standing count connections))
          (with_connections parts drafts
          ((before ++ connection ∷ []) ++ standing count connections))
          → Leads at (with_connections parts drafts before)
          (map (connection_row parts.flights)
          (if stands then connection ∷ standing count connections else []))
          (with_connections parts drafts
          (before ++ (if stands then connection ∷ standing count connections else [])))
      by false is more = none_stands at before
      by true is more =
          leads_same at (with_connections parts drafts before)
          (with_connections parts drafts
          ((before ++ connection ∷ []) ++ standing count connections))
          (with_connections parts drafts (before ++ connection ∷ standing count connections))
          (connection_row parts.flights connection
          ∷ map (connection_row parts.flights) (standing count connections))
          (ap (with_connections parts drafts)
          (append_assoc before (connection ∷ []) (standing count connections)))
          (leads_more at (with_connections parts drafts before)
          (with_connections parts drafts (before ++ connection ∷ []))
          (with_connections parts drafts
          ((before ++ connection ∷ []) ++ standing count connections))
          (connection_row parts.flights connection)
          (map (connection_row parts.flights) (standing count connections))
          (standing_read at before connections connection joined is) more)
