-- The records of a flight are read as the flight.
use Rattle.std.specs.Prelude.{codes, sum_by}
use Rattle.std.proofs.Common.{◌≡◌, ◌≢◌, ℕ, suc, ◌+◌, ◌-◌, ◌<◌, ◌≤◌, ◌==◌, true, false, nat_le, List, [], ◌∷◌, ◌++◌, map, length, get_or, slice_index, slice_get, Option, Some, None, Ok, All, AllPairs, IsTrue, refl, sym, ap, subst, ◌∙◌, inl, inr, arith, append_assoc, length-append}
use Rattle.std.specs.Fmt.{decimal}
use Rattle.std.specs.List.{list_all, list_any}
use Rattle.std.proofs.Math.ListN.{get_or-append}
use Rattle.std.proofs.lemmas.Bool.{and_from, and_parts, eq-eqb, eqb-true, le-ltb, leb-true, ne_eqb, or_cases, or_left, or_right}
use Rattle.std.proofs.lemmas.List.{length-map, map-append, take_all}
use Rattle.std.proofs.lemmas.List.Sums.{sum_by-append}
use Rattle.flow_types.specs.Limits.{most_delay, most_flights, most_period_cost}
use Rattle.flow_types.specs.Routes.{IsLeg, is_airport, is_entered}
use Rattle.flow_types.specs.Valid.{IsFlight, IsScenario, IsTable, is_cost, value_count}
use Rattle.flow_types.specs.Words.{is_name}
use Rattle.flow_types.specs.declared.flight.Connection.{Connection}
use Rattle.flow_types.specs.declared.flight.Cost.{Cost}
use Rattle.flow_types.specs.declared.flight.Cost.TheVariants.{Linear, Tables}
use Rattle.flow_types.specs.declared.flight.CostTable.{CostTable}
use Rattle.flow_types.specs.declared.flight.Flight.{Flight}
use Rattle.flow_types.specs.declared.flight.Leg.{Leg}
use Rattle.flow_types.specs.declared.parts.Parts.{Parts}
use Rattle.flow_types.specs.declared.place.Place.{Place}
use Rattle.plan_text.proofs.ReadBack.{name_back, named_at}
use Rattle.text_records.specs.Names.{known_in, new_name, position_of}
use Rattle.text_records.specs.Rows.{Fields}
use Rattle.scenario_reader.specs.DraftParts.{DraftParts, destinations, flight_names, node_count, node_total, origins, place_names, table_names}
use Rattle.scenario_reader.specs.Finish.{finished_flight, finished_flights, flight_with, has_route, leads_on, leg_between, node_of, nodes_of}
use Rattle.scenario_reader.specs.Flights.{arrival_in, cost_in, destination_in, flight_name_of, flight_of, hours_in, origin_in}
use Rattle.scenario_reader.specs.Legs.{is_among}
use Rattle.scenario_reader.specs.Reading.{cost_step, flight_step, record_step, with_flight, with_pricing}
use Rattle.scenario_reader.specs.Tables.{has_tables, pricing_of, table_in, untabled_in, with_cost}
use Rattle.scenario_reader.specs.declared.flight_draft.FlightDraft.{FlightDraft}
use Rattle.scenario_reader.specs.declared.flight_draft.Hours.{Hours}
use Rattle.scenario_reader.specs.declared.flight_draft.PlaceLeg.{PlaceLeg}
use Rattle.scenario_reader.specs.declared.tables.Pricing.{Pricing}
use Rattle.scenario_reader.proofs.PlaceFacts.{node_of_at}
use Rattle.scenario_maker.specs.Order.{all_follow}
use Rattle.scenario_maker.specs.Writing.{airborne_of, cost_rows, flight_row, flight_rows, leg_row, on_ground_of, place_name, table_name}
use Rattle.scenario_maker.proofs.CapFacts.{changed_seam}
use Rattle.scenario_maker.proofs.LegFacts.{draft_of, known_place, legs_lead, named_place, with_drafts}
use Rattle.scenario_maker.proofs.NodeFacts.{IsSoFar, few_reached, middle_count, middle_of, none_so_far, place_leg, shape}
use Rattle.scenario_maker.proofs.PlaceFacts.{fresh_behind}
use Rattle.scenario_maker.proofs.PlainFacts.{first_holds, found_holds, others_hold}
use Rattle.scenario_maker.proofs.StepFacts.{Leads, known_back, leads_both, leads_more, leads_none, leads_one, new_back, number_between, seam}

module _ (fields : Fields) where
  flight_name_back : (names : List (List ℕ)) (total : ℕ) (name : List ℕ)
      → new_name most_flights names fields ≡ Ok name → total + 2 ≤ 20000
      → flight_name_of names total fields ≡ Ok name
  unfolding flight_name_of
  flight_name_back names total name new few = rw (new, le-ltb 20000 (total + 2) few) refl

  origin_back : (places : List Place) (name : List ℕ) (p : ℕ) → slice_get fields 2 ≡ Some name
      → is_name name ≡ true → position_of name (place_names places) ≡ Some p
      → is_airport (slice_get places p) ≡ true → origin_in places fields ≡ Ok p
  unfolding origin_in
  origin_back places name p there named known airport =
      rw (name_back fields 3 name there named, known, airport) refl

  destination_back : (places : List Place) (origin : ℕ) (name : List ℕ) (p : ℕ)
      → slice_get fields 3 ≡ Some name → is_name name ≡ true
      → position_of name (place_names places) ≡ Some p
      → is_airport (slice_get places p) ≡ true → p ≢ origin
      → destination_in places origin fields ≡ Ok p
  unfolding destination_in
  destination_back places origin name p there named known airport apart =
      rw (name_back fields 4 name there named, known, ne_eqb p origin apart, airport) refl

  hours_back : (periods sd sa mg md : ℕ) → slice_get fields 4 ≡ Some (decimal sd)
      → slice_get fields 5 ≡ Some (decimal sa) → slice_get fields 6 ≡ Some (decimal mg)
      → slice_get fields 7 ≡ Some (decimal md) → periods ≤ 512 → sd ≤ sa → sa < periods
      → mg ≤ most_delay → md ≤ most_delay
      → hours_in periods fields ≡ Ok (record { sd = sd; sa = sa; mg = mg; md = md })
  unfolding hours_in arrival_in
  hours_back periods sd sa mg md is_sd is_sa is_mg is_md few forward within short short_too =
      rw (
        number_between fields 5 sd 0 (periods - 1) is_sd (omega (arith, forward, within, few))
            (omega arith) (omega (arith, forward, within)),
        number_between fields 6 sa 0 (periods - 1) is_sa (omega (arith, within, few))
            (omega arith) (omega (arith, within)),
        le-ltb sa sd forward,
        number_between fields 7 mg 0 most_delay is_mg (omega (arith, short)) (omega arith) short,
        number_between fields 8 md 0 most_delay is_md (omega (arith, short_too)) (omega arith)
            short_too,
      ) refl

  cost_back : (on_ground airborne : ℕ) → slice_get fields 8 ≡ Some (decimal on_ground)
      → slice_get fields 9 ≡ Some (decimal airborne) → on_ground ≤ most_period_cost
      → airborne ≤ most_period_cost → length fields ≡ 10
      → cost_in fields ≡ Ok (Linear on_ground airborne)
  unfolding cost_in
  cost_back on_ground airborne is_ground is_air low low_too count =
      rw (
        number_between fields 9 on_ground 0 most_period_cost is_ground (omega (arith, low))
            (omega arith) low,
        number_between fields 10 airborne 0 most_period_cost is_air (omega (arith, low_too))
            (omega arith) low_too,
        count,
      ) refl

  flight_of_back : (draft : DraftParts) (at : ℕ) (name : List ℕ) (from to : ℕ) (hours : Hours)
      (cost : Cost)
      → flight_name_of (flight_names draft.flights) (node_total draft.flights) fields ≡ Ok name
      → origin_in draft.places fields ≡ Ok from → destination_in draft.places from fields ≡ Ok to
      → hours_in draft.day.periods fields ≡ Ok hours → cost_in fields ≡ Ok cost
      → flight_of draft at fields ≡ Ok (record {
        at = at;
        name = name;
        from = from;
        to = to;
        hours = hours;
        cost = cost;
        legs = [];
        passed = [];
        reached = [];
      })
  unfolding flight_of
  flight_of_back draft at name from to hours cost is_name_of is_from is_to is_hours is_cost_of =
      rw (is_name_of, is_from, is_to, is_hours, is_cost_of) refl

  untabled_back : (flights : List FlightDraft) (k : ℕ) (d : FlightDraft)
      → known_in 2 (flight_names flights) fields ≡ Ok k → slice_get flights k ≡ Some d
      → has_tables d.cost ≡ false → untabled_in flights fields ≡ Ok (k, d)
  unfolding untabled_in
  untabled_back flights k d known there untabled = rw (known, there, untabled) refl

  table_in_back : (number least : ℕ) (tables : List CostTable) (k : ℕ)
      → known_in number (table_names tables) fields ≡ Ok k
      → nat_le least (value_count (slice_get tables k)) ≡ true
      → table_in number least tables fields ≡ Ok k
  unfolding table_in
  table_in_back number least tables k known long = rw (known, long) refl

  pricing_back : (flights : List FlightDraft) (tables : List CostTable) (k : ℕ) (d : FlightDraft)
      (total credit : ℕ) → untabled_in flights fields ≡ Ok (k, d)
      → table_in 3 (d.hours.md + 1) tables fields ≡ Ok total
      → table_in 4 (d.hours.mg + 1) tables fields ≡ Ok credit → length fields ≡ 4
      → pricing_of flights tables fields
      ≡ Ok (record { flight = k; total = total; credit = credit })
  unfolding pricing_of
  pricing_back flights tables k d total credit found is_total is_credit count =
      rw (found, is_total, is_credit, count) refl

flight_step_back : (draft : DraftParts) (at : ℕ) (rest : Fields) (flight : FlightDraft)
    → flight_of draft at (codes "flight" ∷ rest) ≡ Ok flight
    → record_step draft at (codes "flight" ∷ rest) ≡ Ok (with_flight draft flight)
unfolding record_step flight_step
flight_step_back draft at rest flight is = rw is refl

cost_step_back : (draft : DraftParts) (at : ℕ) (rest : Fields) (pricing : Pricing)
    → pricing_of draft.flights draft.tables (codes "cost" ∷ rest) ≡ Ok pricing
    → record_step draft at (codes "cost" ∷ rest) ≡ Ok (with_pricing draft pricing)
unfolding record_step cost_step
cost_step_back draft at rest pricing is = rw is refl

-- what a flight's draft is in the end
pub record IsDraftOf (d : FlightDraft) (flight : Flight) : Type 0 where
  pub name : d.name ≡ flight.name
  pub from : d.from ≡ flight.from
  pub to : d.to ≡ flight.to
  pub done : finished_flight d ≡ Ok flight
  pub few : node_count d ≤ length flight.nodes

abbrev pub AreDraftsOf : List FlightDraft → List Flight → Type 0
AreDraftsOf [] [] = Unit {0}
AreDraftsOf [] (flight ∷ flights) = ⊥
AreDraftsOf (d ∷ drafts) [] = ⊥
AreDraftsOf (d ∷ drafts) (flight ∷ flights) = IsDraftOf d flight × AreDraftsOf drafts flights

pub drafts_push : (drafts : List FlightDraft) (flights : List Flight) (d : FlightDraft)
    (flight : Flight) → AreDraftsOf drafts flights → IsDraftOf d flight
    → AreDraftsOf (drafts ++ d ∷ []) (flights ++ flight ∷ [])
drafts_push [] [] d flight are is = (is, tt)
drafts_push [] (first ∷ flights) d flight are is = absurd are
drafts_push (first ∷ drafts) [] d flight are is = absurd are
drafts_push (first ∷ drafts) (other ∷ flights) d flight are is =
    (are.0, drafts_push drafts flights d flight are.1 is)

pub drafts_names : (drafts : List FlightDraft) (flights : List Flight) → AreDraftsOf drafts flights
    → flight_names drafts ≡ map (λ (f : Flight). f.name) flights
drafts_names [] [] are = refl
drafts_names [] (flight ∷ flights) are = absurd are
drafts_names (d ∷ drafts) [] are = absurd are
drafts_names (d ∷ drafts) (flight ∷ flights) are =
    rw (are.0.name, drafts_names drafts flights are.1) refl

pub drafts_origins : (drafts : List FlightDraft) (flights : List Flight)
    → AreDraftsOf drafts flights → origins drafts ≡ map (λ (f : Flight). f.from) flights
drafts_origins [] [] are = refl
drafts_origins [] (flight ∷ flights) are = absurd are
drafts_origins (d ∷ drafts) [] are = absurd are
drafts_origins (d ∷ drafts) (flight ∷ flights) are =
    rw (are.0.from, drafts_origins drafts flights are.1) refl

pub drafts_destinations : (drafts : List FlightDraft) (flights : List Flight)
    → AreDraftsOf drafts flights → destinations drafts ≡ map (λ (f : Flight). f.to) flights
drafts_destinations [] [] are = refl
drafts_destinations [] (flight ∷ flights) are = absurd are
drafts_destinations (d ∷ drafts) [] are = absurd are
drafts_destinations (d ∷ drafts) (flight ∷ flights) are =
    rw (are.0.to, drafts_destinations drafts flights are.1) refl

drafts_count : (drafts : List FlightDraft) (flights : List Flight) → AreDraftsOf drafts flights
    → length drafts ≡ length flights
drafts_count drafts flights are =
    sym (length-map drafts (λ (d : FlightDraft). d.name)) ∙ ap length
    (drafts_names drafts flights are)
    ∙ length-map flights (λ (f : Flight). f.name)

drafts_total : (drafts : List FlightDraft) (flights : List Flight) → AreDraftsOf drafts flights
    → node_total drafts ≤ sum_by (λ (f : Flight). length f.nodes) flights
drafts_total [] [] are = omega arith
drafts_total [] (flight ∷ flights) are = absurd are
drafts_total (d ∷ drafts) [] are = absurd are
drafts_total (d ∷ drafts) (flight ∷ flights) are =
    let few = are.0.few in
    let more = drafts_total drafts flights are.1 in
    let first : node_total (d ∷ drafts) ≡ 0 + node_count d + node_total drafts =
    sum_by-append node_count (d ∷ []) drafts in
    let second : sum_by (λ (f : Flight). length f.nodes) (flight ∷ flights)
    ≡ 0 + length flight.nodes + sum_by (λ (f : Flight). length f.nodes) flights =
    sum_by-append (λ (f : Flight). length f.nodes) (flight ∷ []) flights in
    omega (arith, few, more, first, second)

pub drafts_done : (drafts : List FlightDraft) (flights : List Flight) → AreDraftsOf drafts flights
    → finished_flights drafts ≡ Ok flights
unfolding finished_flights
drafts_done [] [] are = refl
drafts_done [] (flight ∷ flights) are = absurd are
drafts_done (d ∷ drafts) [] are = absurd are
drafts_done (d ∷ drafts) (flight ∷ flights) are =
    rw (are.0.done, drafts_done drafts flights are.1) refl

-- a leg to a node leads to its place
entered_place : (nodes : List ℕ) (k : ℕ) (legs : List Leg) → is_entered legs k ≡ true
    → list_any (λ (l : PlaceLeg). l.to == slice_index nodes k) (map (place_leg nodes) legs) ≡ true
entered_place nodes k [] is = absurd cc
entered_place nodes k (leg ∷ legs) is =
    elim (or_cases (leg.to == k) (is_entered legs k) is) [
      | inl here ↦ or_left _ _ (eq-eqb (slice_index nodes leg.to) (slice_index nodes k)
          (ap (slice_index nodes) (eqb-true leg.to k here)))
      | inr there ↦ or_right _ _ (entered_place nodes k legs there)
    ]

all_among : (xs ys : List ℕ) → All (λ y. IsTrue (is_among xs y)) ys
    → list_all (λ y. is_among xs y) ys ≡ true
all_among xs [] all = refl
all_among xs (y ∷ ys) all =
    and_from (is_among xs y) (list_all (λ z. is_among xs z) ys)
    (first_holds (λ z. IsTrue (is_among xs z)) y ys all)
    (all_among xs ys (others_hold (λ z. IsTrue (is_among xs z)) y ys all))

abbrev leg_of_nodes : ℕ → ℕ → ℕ → Leg
leg_of_nodes from to least = record { from = from; to = to; least = least }

legs_back : (nodes : List ℕ) → AllPairs (λ a b. a ≢ b) nodes → (legs : List Leg)
    → All (IsLeg (length nodes)) legs
    → map (leg_between nodes) (map (place_leg nodes) legs) ≡ legs
legs_back nodes apart [] each = refl
legs_back nodes apart (leg ∷ legs) each =
    let is = first_holds (IsLeg (length nodes)) leg legs each in
    let up = is.upward in
    let within = is.within in
    let from : node_of nodes (slice_index nodes leg.from) ≡ leg.from =
    node_of_at nodes leg.from apart (omega (arith, up, within)) in
    let to : node_of nodes (slice_index nodes leg.to) ≡ leg.to =
    node_of_at nodes leg.to apart within in
    let more = legs_back nodes apart legs (others_hold (IsLeg (length nodes)) leg legs each) in
    let here : leg_between nodes (place_leg nodes leg) ≡ leg =
    ap (λ (k : ℕ). leg_of_nodes k (node_of nodes (slice_index nodes leg.to)) leg.least) from
    ∙ ap (λ (k : ℕ). leg_of_nodes leg.from k leg.least) to in
    ap (λ (l : Leg). l ∷ map (leg_between nodes) (map (place_leg nodes) legs)) here
    ∙ ap (λ (all : List Leg). leg ∷ all) more

abbrev with_legs : Flight → List Leg → Flight
with_legs flight legs = record {
  name = flight.name;
  from = flight.from;
  to = flight.to;
  sd = flight.sd;
  sa = flight.sa;
  mg = flight.mg;
  md = flight.md;
  nodes = flight.nodes;
  legs = legs;
  cost = flight.cost;
}

finished_from : (d : FlightDraft) (flight : Flight) → has_route d ≡ true → leads_on d ≡ true
    → flight_with d (nodes_of d) ≡ flight → finished_flight d ≡ Ok flight
unfolding finished_flight
finished_from d flight has leads same = rw (has, leads) (ap (λ (f : Flight). Ok f) same)

module _ (periods : ℕ) (places : List Place) (tables : List CostTable) (flight : Flight)
    (is : IsFlight periods places tables flight) where
  finished_back : (at last : ℕ) (passed reached : List ℕ)
      → IsSoFar flight.nodes flight.legs last passed reached
      → finished_flight (draft_of at flight flight.cost (map (place_leg flight.nodes) flight.legs)
      passed reached) ≡ Ok flight
  finished_back at last passed reached so_far =
      let route = is.route in
      let nodes = flight.nodes in
      let n = length nodes in
      let some = route.nodes_from in
      let d = draft_of at flight flight.cost (map (place_leg nodes) flight.legs) passed reached in
      let few = so_far.few in
      let started = so_far.no_start (n - 2) (route.left (n - 2) (omega (arith, some))) in
      let count = middle_count nodes some in
      let passed_is : passed ≡ middle_of nodes =
      so_far.passed_is
      ∙ take_all (last - 1) (middle_of nodes) (omega (arith, count, started, few, some)) in
      let entered = entered_place nodes (n - 1) flight.legs
      (route.entered (n - 1) (omega (arith, some)) (omega (arith, some))) in
      let has : has_route d ≡ true =
      subst (λ (p : ℕ). list_any (λ (l : PlaceLeg). l.to == p)
      (map (place_leg nodes) flight.legs) ≡ true) route.last entered in
      let leads : leads_on d ≡ true =
      subst (λ (xs : List ℕ). list_all (λ p. is_among xs p) reached ≡ true) (sym passed_is)
      (all_among (middle_of nodes) reached so_far.inside) in
      let nodes_are : nodes_of d ≡ nodes =
      ap (λ (xs : List ℕ). flight.from ∷ (xs ++ flight.to ∷ [])) passed_is
      ∙ shape nodes flight.from flight.to some route.first route.last in
      finished_from d flight has leads
      (ap (λ (xs : List ℕ). flight_with d xs) nodes_are
      ∙ ap (with_legs flight)
      (legs_back nodes route.different flight.legs route.each_leg))

pub prices_low : (tables : List CostTable) (mg md : ℕ) (cost : Cost) → is_cost tables mg md cost
    ≡ true
    → (on_ground_of cost ≤ most_period_cost) × (airborne_of cost ≤ most_period_cost)
prices_low tables mg md (Linear on_ground airborne) is =
    let both = and_parts (nat_le on_ground most_period_cost) (nat_le airborne most_period_cost) is
    in
    (leb-true on_ground most_period_cost both.0, leb-true airborne most_period_cost both.1)
prices_low tables mg md (Tables total credit) is = (omega arith, omega arith)

some_table : (tables : List CostTable) (k least : ℕ)
    → nat_le (least + 1) (value_count (slice_get tables k)) ≡ true
    → (table : CostTable) × (slice_get tables k ≡ Some table)
some_table tables k least long = by (slice_get tables k) refl long
  where
    by : (found : Option CostTable) → slice_get tables k ≡ found
        → nat_le (least + 1) (value_count found) ≡ true
        → (table : CostTable) × (slice_get tables k ≡ Some table)
    by None there long = let none = leb-true (least + 1) 0 long in absurd (omega (arith, none))
    by (Some table) there long = (table, there)

pub pairs_front : {X : Type 0} (R : X → X → Type 0) (xs ys : List X) → AllPairs R (xs ++ ys)
    → AllPairs R xs
pairs_front {X} R xs ys pairs i j d before within =
    let longer : j < length (xs ++ ys) = omega (arith, within, length-append xs ys) in
    let first : i < length xs = omega (arith, before, within) in
    subst (λ (x : X). R x (get_or xs j d)) (get_or-append xs ys d i first)
    (subst (λ (y : X). R (get_or (xs ++ ys) i d) y) (get_or-append xs ys d j within)
    (pairs i j d before longer))

-- the tables of a flight are read
module _ (parts : Parts) (valid : IsScenario parts) (connections : List Connection)
    (done : List FlightDraft) (flight : Flight)
    (named : is_name flight.name ≡ true) (at : ℕ) (legs : List PlaceLeg) (passed reached : List ℕ)
    (known : (d : FlightDraft) → d.name ≡ flight.name
    → position_of flight.name (flight_names (done ++ d ∷ [])) ≡ Some (length done)) where
  abbrev priced : Cost → FlightDraft
  priced cost = draft_of at flight cost legs passed reached

  named_table : (k : ℕ) (table : CostTable) → slice_get parts.tables k ≡ Some table
      → is_name (table_name (slice_get parts.tables k)) ≡ true
  named_table k table there =
      subst (λ (found : Option CostTable). is_name (table_name found) ≡ true) (sym there)
      (found_holds IsTable parts.tables k table valid.tables.each there).name

  known_table : (k : ℕ) (table : CostTable) → slice_get parts.tables k ≡ Some table
      → position_of (table_name (slice_get parts.tables k)) (table_names parts.tables) ≡ Some k
  known_table k table there =
      ap (λ (found : Option CostTable).
      position_of (table_name found) (table_names parts.tables)) there
      ∙ named_at (λ (t : CostTable). t.name) parts.tables k table valid.tables.names there

  cost_leads : (row : ℕ) (cost : Cost) → is_cost parts.tables flight.mg flight.md cost ≡ true
      → Leads row
      (with_drafts parts connections
      (done ++ priced (Linear (on_ground_of cost) (airborne_of cost)) ∷ []))
      (cost_rows parts.tables flight.name cost)
      (with_drafts parts connections (done ++ priced cost ∷ []))
  cost_leads row (Linear on_ground airborne) is =
      leads_none row
      (with_drafts parts connections (done ++ priced (Linear on_ground airborne) ∷ []))
  cost_leads row (Tables total credit) is =
      let d = priced (Linear 0 0) in
      let fields = codes "cost" ∷ flight.name ∷ table_name (slice_get parts.tables total)
      ∷ table_name (slice_get parts.tables credit) ∷ [] in
      let both = and_parts (nat_le (flight.md + 1) (value_count (slice_get parts.tables total)))
      (nat_le (flight.mg + 1) (value_count (slice_get parts.tables credit))) is in
      let first = some_table parts.tables total flight.md both.0 in
      let second = some_table parts.tables credit flight.mg both.1 in
      let found = untabled_back fields (done ++ d ∷ []) (length done) d
      (known_back fields 2 (flight_names (done ++ d ∷ [])) flight.name (length done) refl named
      (known d refl)) (seam done d []) refl in
      let is_total = table_in_back fields 3 (flight.md + 1) parts.tables total
      (known_back fields 3 (table_names parts.tables) (table_name (slice_get parts.tables total))
      total refl (named_table total first.0 first.1) (known_table total first.0 first.1)) both.0 in
      let is_credit = table_in_back fields 4 (flight.mg + 1) parts.tables credit
      (known_back fields 4 (table_names parts.tables) (table_name (slice_get parts.tables credit))
      credit refl (named_table credit second.0 second.1) (known_table credit second.0 second.1))
      both.1 in
      leads_one row (with_drafts parts connections (done ++ d ∷ []))
      (with_drafts parts connections (done ++ priced (Tables total credit) ∷ [])) fields
      (cost_step_back (with_drafts parts connections (done ++ d ∷ [])) row _
      (record { flight = length done; total = total; credit = credit })
      (pricing_back fields (done ++ d ∷ []) parts.tables (length done) d total credit found is_total
      is_credit refl)
      ∙ ap (λ (flights : List FlightDraft). Ok (with_drafts parts connections flights))
      (changed_seam (with_cost (Tables total credit)) done d []))

module _ (parts : Parts) (valid : IsScenario parts) (connections : List Connection) where
  -- the record of a flight, after those before it
  schedule_read : (at : ℕ) (done : List FlightDraft) (flight : Flight)
      → IsFlight parts.day.periods parts.places parts.tables flight
      → position_of flight.name (flight_names done) ≡ None → length (flight_names done) < 2000
      → node_total done + 2 ≤ 20000
      → record_step (with_drafts parts connections done) at (flight_row parts.places flight)
      ≡ Ok (with_drafts parts connections (done ++ draft_of at flight
      (Linear (on_ground_of flight.cost) (airborne_of flight.cost)) [] [] [] ∷ []))
  schedule_read at done flight is fresh room few =
      let fields = flight_row parts.places flight in
      let route = is.route in
      let some = route.nodes_from in
      let from_there = some_airport flight.from is.origin in
      let to_there = some_airport flight.to is.destination in
      let low = prices_low parts.tables flight.mg flight.md flight.cost is.cost in
      flight_step_back (with_drafts parts connections done) at _
      (draft_of at flight (Linear (on_ground_of flight.cost) (airborne_of flight.cost)) [] [] [])
      (flight_of_back fields (with_drafts parts connections done) at flight.name flight.from
      flight.to
      (record { sd = flight.sd; sa = flight.sa; mg = flight.mg; md = flight.md })
      (Linear (on_ground_of flight.cost) (airborne_of flight.cost))
      (flight_name_back fields (flight_names done) (node_total done) flight.name
      (new_back fields most_flights (flight_names done) flight.name refl is.name fresh room) few)
      (origin_back fields parts.places (place_name (slice_get parts.places flight.from)) flight.from
      refl (named_place parts valid flight.from from_there.0 from_there.1)
      (known_place parts valid flight.from from_there.0 from_there.1) is.origin)
      (destination_back fields parts.places flight.from
      (place_name (slice_get parts.places flight.to)) flight.to refl
      (named_place parts valid flight.to to_there.0 to_there.1)
      (known_place parts valid flight.to to_there.0 to_there.1) is.destination
      (λ same. is.apart (sym same)))
      (hours_back fields parts.day.periods flight.sd flight.sa flight.mg flight.md refl refl refl
      refl valid.day.periods_to is.forward is.within is.ground_delay is.arrival_delay)
      (cost_back fields (on_ground_of flight.cost) (airborne_of flight.cost) refl refl low.0 low.1
      refl))
    where
      some_airport : (k : ℕ) → is_airport (slice_get parts.places k) ≡ true
          → (place : Place) × (slice_get parts.places k ≡ Some place)
      some_airport k airport = by (slice_get parts.places k) refl airport
        where
          by : (found : Option Place) → slice_get parts.places k ≡ found
              → is_airport found ≡ true
              → (place : Place) × (slice_get parts.places k ≡ Some place)
          by None there airport = absurd cc
          by (Some place) there airport = (place, there)

  -- the records of one flight, after those before it
  pub flight_leads : (at : ℕ) (done : List FlightDraft) (before rest : List Flight)
      (flight : Flight)
      → parts.flights ≡ before ++ flight ∷ rest → AreDraftsOf done before
      → all_follow [] flight.legs ≡ true
      → (d : FlightDraft) × IsDraftOf d flight
      × Leads at (with_drafts parts connections done) (flight_rows parts.places parts.tables flight)
      (with_drafts parts connections (done ++ d ∷ []))
  flight_leads at done before rest flight are drafted follow =
      let is : IsFlight parts.day.periods parts.places parts.tables flight =
      found_holds (IsFlight parts.day.periods parts.places parts.tables) parts.flights
      (length before) flight valid.flights.each (rw are (seam before flight rest)) in
      let route = is.route in
      let nodes = flight.nodes in
      let some = route.nodes_from in
      let pairs : AllPairs (λ (a b : Flight). a.name ≢ b.name) (before ++ flight ∷ rest) =
      subst (AllPairs (λ (a b : Flight). a.name ≢ b.name)) are valid.flights.names in
      let count : length done ≡ length before = drafts_count done before drafted in
      let fresh : position_of flight.name (flight_names done) ≡ None =
      ap (position_of flight.name) (drafts_names done before drafted)
      ∙ fresh_behind (λ (f : Flight). f.name) before flight rest pairs in
      let known : (d : FlightDraft) → d.name ≡ flight.name
      → position_of flight.name (flight_names (done ++ d ∷ [])) ≡ Some (length done) =
      λ d same. ap (position_of flight.name)
      (map-append (λ (f : FlightDraft). f.name) done (d ∷ [])
      ∙ ap (λ (names : List (List ℕ)). names ++ d.name ∷ []) (drafts_names done before drafted)
      ∙ ap (λ (name : List ℕ). map (λ (f : Flight). f.name) before ++ name ∷ []) same
      ∙ sym (map-append (λ (f : Flight). f.name) before (flight ∷ [])))
      ∙ named_at (λ (f : Flight). f.name) (before ++ flight ∷ []) (length before) flight
      (pairs_front (λ (a b : Flight). a.name ≢ b.name) (before ++ flight ∷ []) rest
      (subst (AllPairs (λ (a b : Flight). a.name ≢ b.name))
      (sym (append_assoc before (flight ∷ []) rest)) pairs)) (seam before flight [])
      ∙ ap Some (sym count) in
      let nodes_count = λ (f : Flight). length f.nodes in
      let all : sum_by nodes_count parts.flights
      ≡ sum_by nodes_count before + sum_by nodes_count (flight ∷ rest) =
      ap (sum_by nodes_count) are ∙ sum_by-append nodes_count before (flight ∷ rest) in
      let here : sum_by nodes_count (flight ∷ rest) ≡ 0 + length nodes + sum_by nodes_count rest =
      sum_by-append nodes_count (flight ∷ []) rest in
      let most : sum_by nodes_count parts.flights ≤ 20000 = valid.flights.nodes_few in
      let total : node_total done ≤ sum_by nodes_count before = drafts_total done before drafted in
      let budget : node_total done + length nodes ≤ 20000 =
      omega (arith, all, here, most, total) in
      let names_count = length-map done (λ (d : FlightDraft). d.name) in
      let flights_count : length parts.flights ≡ length before + suc (length rest) =
      ap length are ∙ length-append before (flight ∷ rest) in
      let flights_few = valid.flights.few in
      let room : length (flight_names done) < 2000 =
      omega (arith, names_count, count, flights_count, flights_few) in
      let cost = Linear (on_ground_of flight.cost) (airborne_of flight.cost) in
      let legs = map (place_leg nodes) flight.legs in
      let first = schedule_read at done flight is fresh room (omega (arith, budget, some)) in
      let rows = map (leg_row parts.places flight) flight.legs in
      let more = cost_rows parts.tables flight.name flight.cost in
      let read = legs_lead parts valid connections done flight is at cost known budget (at + 1) []
      flight.legs 1
      [] [] refl (none_so_far nodes some) route.order follow in
      let d = draft_of at flight flight.cost legs read.1 read.2 in
      let tables = cost_leads parts valid connections done flight is.name at legs read.1 read.2
      known
      (at + 1 + length rows) flight.cost is.cost in (
        d,
        record {
          name = refl;
          from = refl;
          to = refl;
          done = finished_back parts.day.periods parts.places parts.tables flight is at read.0
              read.1
              read.2 read.3;
          few = few_reached nodes flight.legs read.0 read.1 read.2 some read.3;
        },
        leads_more at (with_drafts parts connections done)
            (with_drafts parts connections (done ++ draft_of at flight cost [] [] [] ∷ []))
            (with_drafts parts connections (done ++ d ∷ [])) (flight_row parts.places flight)
            (rows ++ more)
            first
            (leads_both (at + 1)
            (with_drafts parts connections (done ++ draft_of at flight cost [] [] [] ∷ []))
            (with_drafts parts connections
            (done ++ draft_of at flight cost legs read.1 read.2 ∷ []))
            (with_drafts parts connections (done ++ d ∷ [])) rows more read.4 tables),
      )
