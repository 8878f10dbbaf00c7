-- The flights that a list of valid ones becomes.
use Rattle.std.proofs.Common.{◌≡◌, ℕ, zero, suc, ◌+◌, ◌<◌, ◌≤◌, Bool, true, false, cond, ltb, ◌==◌, List, [], ◌∷◌, ◌++◌, length, get_or, drop, map, Option, Some, None, Result, Ok, Err, refl, sym, ap, subst, arith, ◌∙◌, All, append_assoc, length-append, position}
use Rattle.std.specs.Prelude.{slice_get, sum_by}
use Rattle.std.proofs.lemmas.Bool.{eqb-true}
use Rattle.std.proofs.lemmas.List.{append-nil, drop_all, length-map}
use Rattle.std.proofs.lemmas.List.Sums.{sum_by-cons}
use Rattle.std.proofs.Math.Seq.{drop-cons}
use Rattle.std.proofs.lemmas.Option.{same_Some}
use Rattle.flow_types.specs.Valid.{destination_of, IsConnection, IsFlight, IsScenario, origin_of}
use Rattle.flow_types.specs.declared.fault.Fault.{Fault}
use Rattle.flow_types.specs.declared.flight.Flight.{Flight}
use Rattle.flow_types.specs.declared.flight.CostTable.{CostTable}
use Rattle.flow_types.specs.declared.flight.Connection.{Connection}
use Rattle.flow_types.specs.declared.place.Place.{Place}
use Rattle.text_records.specs.Errors.{◌>>=◌, Refuses}
use Rattle.text_records.specs.declared.error.Refusal.{Refusal}
use Rattle.text_records.specs.declared.error.Refusal.TheVariants as refusal
use Rattle.scenario_reader.specs.Connections.{is_same_place}
use Rattle.scenario_reader.specs.Finish.{finished_flight, finished_flights, flight_with, has_route, leads_on, node_of, nodes_of}
use Rattle.scenario_reader.specs.DraftParts.{destinations, node_count, node_total, origins, DraftParts}
use Rattle.scenario_reader.specs.Validity.{IsFlightDraft, IsMeeting, IsValidDraft}
use Rattle.scenario_reader.specs.declared.flight_draft.FlightDraft.{FlightDraft}
use Rattle.text_records.proofs.NameFacts.{position-none}
use Rattle.scenario_reader.proofs.PlaceFacts.{node_outside}
use Rattle.scenario_reader.proofs.RouteFacts.{flight_is, passed_few}
use Rattle.text_records.proofs.StepFacts.{bound, given, needed, ok_is}

pub node_found : (nodes : List ℕ) (place k : ℕ) → position (λ node. node == place) nodes ≡ Some k
    → k ≡ node_of nodes place
node_found nodes place k h = by (ltb (node_of nodes place) (length nodes)) (node_of nodes place) h
  where
    by : (b : Bool) (n : ℕ) → cond b (Some n) None ≡ Some k → k ≡ n
    by true n e = same_Some k n (sym e)
    by false n e = absurd cc

pub node_missing : (nodes : List ℕ) (place : ℕ) → position (λ node. node == place) nodes ≡ None
    → length nodes ≡ node_of nodes place
node_missing nodes place h =
    sym (node_outside nodes place (position-none (λ node. node == place) nodes h))

-- the flights so far, and then those that the rest becomes
abbrev pub with_front : List Flight → Result (List Flight) Fault → Result (List Flight) Fault
with_front front read = read >>= λ flights. Ok (front ++ flights)

regroup : (front : List Flight) (flight : Flight) (read : Result (List Flight) Fault)
    → with_front front (read >>= λ others. Ok (flight ∷ others))
    ≡ with_front (front ++ flight ∷ []) read
regroup front flight (Ok others) =
    ap (λ (fs : List Flight). Ok fs) (sym (append_assoc front (flight ∷ []) others))
regroup front flight (Err fault) = refl

rest_at : (flights : List FlightDraft) (i : ℕ) (flight : FlightDraft) → i < length flights
    → flight ≡ get_or flights i flight → drop i flights ≡ flight ∷ drop (i + 1) flights
rest_at flights i flight within here =
    let one : i + 1 ≡ suc i = omega arith in
    rw one (drop-cons flights i flight within
    ∙ ap (λ (f : FlightDraft). f ∷ drop (suc i) flights) (sym here))

pub one_more : (front : List Flight) (flights : List FlightDraft) (i : ℕ) (flight : FlightDraft)
    (found : Flight) (total : Result (List Flight) Fault)
    → i < length flights → flight ≡ get_or flights i flight → finished_flight flight ≡ Ok found
    → with_front front (finished_flights (drop i flights)) ≡ total
    → with_front (front ++ found ∷ []) (finished_flights (drop (i + 1) flights)) ≡ total
unfolding finished_flights
one_more front flights i flight found total within here is so_far =
    let rest = rest_at flights i flight within here in
    let step : with_front front (finished_flights (drop i flights))
    ≡ with_front (front ++ found ∷ []) (finished_flights (drop (i + 1) flights)) =
    rw (rest, is) (regroup front found (finished_flights (drop (i + 1) flights))) in
    sym step ∙ so_far

pub refused_at : (e : Refusal) (front : List Flight) (flights : List FlightDraft) (i : ℕ)
    (flight : FlightDraft) (total : Result (List Flight) Fault)
    → i < length flights → flight ≡ get_or flights i flight → Refuses e (finished_flight flight)
    → with_front front (finished_flights (drop i flights)) ≡ total → Refuses e total
unfolding finished_flights
refused_at refusal.OutOfMemory front flights i flight total within here refuses so_far = tt
refused_at (refusal.Text fault) front flights i flight total within here refuses so_far =
    let rest = rest_at flights i flight within here in
    let step : with_front front (finished_flights (drop i flights)) ≡ Err fault =
    rw (rest, refuses) refl in
    sym so_far ∙ step

pub all_done : (front : List Flight) (flights : List FlightDraft) (i : ℕ)
    (total : Result (List Flight) Fault) → length flights ≤ i
    → with_front front (finished_flights (drop i flights)) ≡ total → total ≡ Ok front
unfolding finished_flights
all_done front flights i total le so_far =
    let step : with_front front (finished_flights (drop i flights)) ≡ Ok front =
    rw (drop_all i flights le) (ap (λ (fs : List Flight). Ok fs) (append-nil front)) in
    sym so_far ∙ step

-- a valid flight came to its end as this one
pub record IsFinished (flight : FlightDraft) (found : Flight) : Type 0 where
  pub route : has_route flight ≡ true
  pub onward : leads_on flight ≡ true
  pub is : flight_with flight (nodes_of flight) ≡ found

finished_is : (flight : FlightDraft) (found : Flight) → finished_flight flight ≡ Ok found
    → IsFinished flight found
unfolding finished_flight
finished_is flight found e =
    let route = needed (has_route flight) _ found _ e in
    let onward = given (leads_on flight) (flight_with flight (nodes_of flight)) found _ route.1 in
    record { route = route.0; onward = onward.0; is = onward.1 }

-- each of these became the one beside it
abbrev Become : List FlightDraft → List Flight → Type 0
Become [] [] = Unit {0}
Become [] (found ∷ founds) = ⊥
Become (flight ∷ flights) [] = ⊥
Become (flight ∷ flights) (found ∷ founds) = IsFinished flight found × Become flights founds

become : (flights : List FlightDraft) (founds : List Flight) → finished_flights flights ≡ Ok founds
    → Become flights founds
unfolding finished_flights
become [] founds e = subst (λ (fs : List Flight). Become [] fs) (ok_is [] founds e) tt
become (flight ∷ flights) founds e =
    let first = bound (finished_flight flight)
    (λ f. finished_flights flights >>= λ others. Ok (f ∷ others)) founds e in
    let rest = bound (finished_flights flights) (λ others. Ok (first.0 ∷ others)) founds first.2 in
    subst (λ (fs : List Flight). Become (flight ∷ flights) fs)
    (ok_is (first.0 ∷ rest.0) founds rest.2)
    (finished_is flight first.0 first.1, become flights rest.0 rest.1)

as_long : (flights : List FlightDraft) (founds : List Flight) → Become flights founds
    → length founds ≡ length flights
as_long [] [] b = refl
as_long [] (found ∷ founds) b = absurd b
as_long (flight ∷ flights) [] b = absurd b
as_long (flight ∷ flights) (found ∷ founds) b = ap suc (as_long flights founds b.1)

are_flights : (periods : ℕ) (places : List Place) (tables : List CostTable)
    (flights : List FlightDraft) (founds : List Flight)
    → All (IsFlightDraft periods places tables) flights → Become flights founds
    → All (IsFlight periods places tables) founds
are_flights periods places tables [] [] all b k d h = absurd (omega arith)
are_flights periods places tables [] (found ∷ founds) all b k d h = absurd b
are_flights periods places tables (flight ∷ flights) [] all b k d h = absurd b
are_flights periods places tables (flight ∷ flights) (found ∷ founds) all b zero d h =
    subst (λ (f : Flight). IsFlight periods places tables f) b.0.is
    (flight_is periods places tables flight (record {
      valid = all 0 flight (omega arith);
      route = b.0.route;
      onward = b.0.onward;
    }))
are_flights periods places tables (flight ∷ flights) (found ∷ founds) all b (suc k) d h =
    are_flights periods places tables flights founds
    (λ j e within. all (suc j) e (omega arith)) b.1 k d (omega arith)

same_names : (flights : List FlightDraft) (founds : List Flight) → Become flights founds
    → (k : ℕ) (d : FlightDraft) (e : Flight) → k < length flights
    → (get_or founds k e).name ≡ (get_or flights k d).name
same_names [] founds b k d e h = absurd (omega arith)
same_names (flight ∷ flights) [] b k d e h = absurd b
same_names (flight ∷ flights) (found ∷ founds) b zero d e h =
    ap (λ (f : Flight). f.name) (sym b.0.is)
same_names (flight ∷ flights) (found ∷ founds) b (suc k) d e h =
    same_names flights founds b.1 k d e (omega arith)

-- the flights have no more nodes than were counted
few_nodes : (periods : ℕ) (places : List Place) (tables : List CostTable)
    (flights : List FlightDraft) (founds : List Flight)
    → All (IsFlightDraft periods places tables) flights → Become flights founds
    → sum_by (λ (f : Flight). length f.nodes) founds ≤ node_total flights
few_nodes periods places tables [] [] all b = omega arith
few_nodes periods places tables [] (found ∷ founds) all b = absurd b
few_nodes periods places tables (flight ∷ flights) [] all b = absurd b
few_nodes periods places tables (flight ∷ flights) (found ∷ founds) all b =
    let rest = few_nodes periods places tables flights founds
    (λ j e within. all (suc j) e (omega arith)) b.1 in
    let nodes : length found.nodes ≡ length (nodes_of flight) =
    ap (λ (f : Flight). length f.nodes) (sym b.0.is) in
    let passed = passed_few places flight (all 0 flight (omega arith)).network in
    let many = length-append flight.passed (flight.to ∷ []) in
    rw (
      sum_by-cons (λ (f : Flight). length f.nodes) found founds,
      sum_by-cons node_count flight
          flights,
    ) (omega arith)

same_origins : (flights : List FlightDraft) (founds : List Flight) → Become flights founds
    → map (λ (f : Flight). f.from) founds ≡ origins flights
same_origins [] [] b = refl
same_origins [] (found ∷ founds) b = absurd b
same_origins (flight ∷ flights) [] b = absurd b
same_origins (flight ∷ flights) (found ∷ founds) b =
    let first : found.from ≡ flight.from = ap (λ (f : Flight). f.from) (sym b.0.is) in
    rw (first, same_origins flights founds b.1) refl

same_destinations : (flights : List FlightDraft) (founds : List Flight) → Become flights founds
    → map (λ (f : Flight). f.to) founds ≡ destinations flights
same_destinations [] [] b = refl
same_destinations [] (found ∷ founds) b = absurd b
same_destinations (flight ∷ flights) [] b = absurd b
same_destinations (flight ∷ flights) (found ∷ founds) b =
    let first : found.to ≡ flight.to = ap (λ (f : Flight). f.to) (sym b.0.is) in
    rw (first, same_destinations flights founds b.1) refl

origin_at : (founds : List Flight) (k : ℕ)
    → slice_get (map (λ (f : Flight). f.from) founds) k ≡ origin_of (slice_get founds k)
origin_at [] k = refl
origin_at (found ∷ founds) zero = refl
origin_at (found ∷ founds) (suc k) = origin_at founds k

destination_at : (founds : List Flight) (k : ℕ)
    → slice_get (map (λ (f : Flight). f.to) founds) k ≡ destination_of (slice_get founds k)
destination_at [] k = refl
destination_at (found ∷ founds) zero = refl
destination_at (found ∷ founds) (suc k) = destination_at founds k

same_place : (x y : Option ℕ) → is_same_place x y ≡ true → x ≡ y
same_place None y h = absurd cc
same_place (Some a) None h = absurd cc
same_place (Some a) (Some b) h = ap (λ (n : ℕ). Some n) (eqb-true a b h)

first_there : (x y : Option ℕ) → is_same_place x y ≡ true → (x ≡ None → ⊥) × (y ≡ None → ⊥)
first_there None y h = absurd cc
first_there (Some a) None h = absurd cc
first_there (Some a) (Some b) h = (λ e. cc, λ e. cc)

-- what is there stands within the list
pub within_list : {X : Type 0} (xs : List X) (k : ℕ) → (slice_get xs k ≡ None → ⊥) → k < length xs
within_list [] k some = absurd (some refl)
within_list (x ∷ xs) zero some = omega arith
within_list (x ∷ xs) (suc k) some = let less = within_list xs k some in omega arith

connection_is : (flights : List FlightDraft) (founds : List Flight) (connection : Connection)
    → Become flights founds → IsMeeting flights connection → IsConnection founds connection
connection_is flights founds connection b meeting =
    let together : is_same_place (slice_get (map (λ (f : Flight). f.from) founds) connection.second)
    (slice_get (map (λ (f : Flight). f.to) founds) connection.first) ≡ true
    = rw (same_origins flights founds b, same_destinations flights founds b) meeting.together in
    let there = first_there _ _ together in
    let first = within_list _ connection.first there.1 in
    let second = within_list _ connection.second there.0 in
    record {
      first = rw (length-map founds (λ (f : Flight). f.to)) at first;
      second = rw (length-map founds (λ (f : Flight). f.from)) at second;
      together = sym (origin_at founds connection.second) ∙ same_place _ _ together
          ∙ destination_at founds connection.first;
      turnaround = meeting.turnaround;
    }

any_flight : (flights : List FlightDraft) → 0 < length flights → FlightDraft
any_flight [] h = absurd (omega arith)
any_flight (flight ∷ flights) h = flight

pub scenario_is : (draft : DraftParts) (founds : List Flight) → IsValidDraft draft
    → finished_flights draft.flights ≡ Ok founds
    → IsScenario (record {
      day = draft.day;
      places = draft.places;
      flights = founds;
      tables = draft.tables;
      connections = draft.connections;
    })
scenario_is draft founds valid e =
    let b = become draft.flights founds e in
    let long = as_long draft.flights founds b in
    let few = few_nodes draft.day.periods draft.places draft.tables draft.flights founds
    valid.flights.each b in
    let total = valid.flights.nodes_few in
    record {
      day = valid.day;
      places = valid.places;
      flights = record {
        few = rw long valid.flights.few;
        each = are_flights draft.day.periods draft.places draft.tables draft.flights founds
            valid.flights.each b;
        names = λ i j d before within same.
            let within_flights : j < length draft.flights = omega arith in
            let some : FlightDraft = any_flight draft.flights (omega arith) in
            valid.flights.names i j some before within_flights
            (sym (same_names draft.flights founds b i some d (omega arith)) ∙ same
            ∙ same_names draft.flights founds b j some d within_flights);
        nodes_few = omega arith;
      };
      tables = valid.tables;
      connections = record {
        few = valid.connections.few;
        each = λ k d h. connection_is draft.flights founds (get_or draft.connections k d) b
            (valid.connections.each k d h);
        once = valid.connections.once;
      };
    }

pub passed_within : (draft : DraftParts) → IsValidDraft draft
    → All (λ flight. length flight.passed ≤ 30) draft.flights
passed_within draft valid k d h =
    let network = (valid.flights.each k d h).network in
    let few = passed_few draft.places (get_or draft.flights k d) network in
    let most = network.reached_few in
    omega arith
