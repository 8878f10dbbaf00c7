-- The legs of a flight are read one after the other.
use Rattle.std.specs.Prelude.{codes}
use Rattle.std.proofs.Common.{◌≡◌, ℕ, suc, ◌+◌, ◌-◌, ◌<◌, ◌≤◌, ◌==◌, Bool, true, false, not, ◌&&◌, ◌||◌, max, List, [], ◌∷◌, ◌++◌, map, length, slice_index, slice_get, Option, Some, Ok, refl, sym, ap, subst, ◌∙◌, inl, inr, arith, append_assoc, length-append}
use Rattle.std.specs.Fmt.{decimal}
use Rattle.std.proofs.lemmas.Bool.{and_left, and_parts, and_right, cases_Bool, eq-eqb, leb-true, lt-leb, ne_eqb, or_from, or_left, or_right}
use Rattle.std.proofs.lemmas.List.{append-nil, length-map, map-append}
use Rattle.flow_types.specs.Limits.{most_delay, most_legs}
use Rattle.flow_types.specs.Routes.{IsLeg, is_entered, is_left, is_sector, starts_in_order}
use Rattle.flow_types.specs.Valid.{IsFlight, IsPlace, IsScenario}
use Rattle.flow_types.specs.Words.{is_name}
use Rattle.flow_types.specs.declared.flight.Connection.{Connection}
use Rattle.flow_types.specs.declared.flight.Cost.{Cost}
use Rattle.flow_types.specs.declared.flight.Flight.{Flight}
use Rattle.flow_types.specs.declared.flight.Leg.{Leg}
use Rattle.flow_types.specs.declared.parts.Parts.{Parts}
use Rattle.flow_types.specs.declared.place.Place.{Place}
use Rattle.plan_text.proofs.TripsAgain.{place_there}
use Rattle.plan_text.proofs.ReadBack.{name_back, named_at}
use Rattle.text_records.specs.Names.{position_of}
use Rattle.text_records.specs.Rows.{Fields}
use Rattle.scenario_reader.specs.DraftParts.{DraftParts, flight_names, node_total, place_names}
use Rattle.scenario_reader.specs.Legs.{adds_node, end_in, flight_in, is_among, is_back, is_full, is_joined, is_own, leg_in, leg_of, own_in, passes_new, start_in, with_leg, with_new}
use Rattle.scenario_reader.specs.Reading.{leg_step, record_step, with_flight_leg}
use Rattle.scenario_reader.specs.declared.flight_draft.FlightDraft.{FlightDraft}
use Rattle.scenario_reader.specs.declared.flight_draft.PlaceLeg.{PlaceLeg}
use Rattle.scenario_reader.proofs.DraftFacts.{total_push}
use Rattle.scenario_maker.specs.Order.{all_follow}
use Rattle.scenario_maker.specs.Writing.{leg_row, place_name}
use Rattle.scenario_maker.proofs.CapFacts.{changed_seam}
use Rattle.scenario_maker.proofs.NodeFacts.{IsSoFar, ends_at, few_reached, leg_there, not_back, not_joined, not_origin, not_start, place_leg, so_far_next, starts_at}
use Rattle.scenario_maker.proofs.PlainFacts.{found_holds}
use Rattle.scenario_maker.proofs.StepFacts.{Leads, leads_more, leads_none, number_between, seam}

-- the day with its places, its tables, these connections and these flights
abbrev pub with_drafts : Parts → List Connection → List FlightDraft → DraftParts
with_drafts parts connections flights = record {
  day = parts.day;
  places = parts.places;
  flights = flights;
  tables = parts.tables;
  connections = connections;
}

-- a flight with the legs and the sectors that were read so far
abbrev pub draft_of : ℕ → Flight → Cost → List PlaceLeg → List ℕ → List ℕ → FlightDraft
draft_of at flight cost legs passed reached = record {
  at = at;
  name = flight.name;
  from = flight.from;
  to = flight.to;
  hours = record { sd = flight.sd; sa = flight.sa; mg = flight.mg; md = flight.md };
  cost = cost;
  legs = legs;
  passed = passed;
  reached = reached;
}

not_true : (b : Bool) → not b ≡ true → b ≡ false
not_true true is = absurd cc
not_true false is = refl

own_sector : (x y z : Bool) → x ≡ true → (x || y || z) ≡ true
own_sector true y z is = refl
own_sector false y z is = absurd cc

own_origin : (x y z : Bool) → y ≡ true → (x || y || z) ≡ true
own_origin true y z is = refl
own_origin false true z is = refl
own_origin false false z is = absurd cc

own_destination : (x y z : Bool) → z ≡ true → (x || y || z) ≡ true
own_destination true y z is = refl
own_destination false true z is = refl
own_destination false false true is = refl
own_destination false false false is = absurd cc

none_of : (x y z : Bool) → x ≡ false → y ≡ false → z ≡ false → (x || y || z) ≡ false
none_of x y z not_x not_y not_z = rw (not_x, not_y, not_z) refl

module _ (fields : Fields) where
  flight_in_back : (flights : List FlightDraft) (name : List ℕ) (k : ℕ) (d : FlightDraft)
      → slice_get fields 1 ≡ Some name → is_name name ≡ true
      → position_of name (flight_names flights) ≡ Some k → slice_get flights k ≡ Some d
      → length d.legs < most_legs → flight_in flights fields ≡ Ok (k, d)
  unfolding flight_in
  flight_in_back flights name k d there named known here short =
      rw (
        name_back fields 2 name there named,
        known,
        here,
        lt-leb most_legs (length d.legs) short,
      ) refl

  own_in_back : (number : ℕ) (places : List Place) (d : FlightDraft) (name : List ℕ) (p : ℕ)
      → slice_get fields (number - 1) ≡ Some name → is_name name ≡ true
      → position_of name (place_names places) ≡ Some p → is_own places d p ≡ true
      → own_in number places d fields ≡ Ok p
  unfolding own_in
  own_in_back number places d name p there named known own =
      rw (name_back fields number name there named, known, own) refl

  start_in_back : (places : List Place) (d : FlightDraft) (p : ℕ)
      → own_in 3 places d fields ≡ Ok p → (p == d.from || is_among d.reached p) ≡ true
      → start_in places d fields ≡ Ok p
  unfolding start_in
  start_in_back places d p own start = rw (own, start) refl

  end_in_back : (places : List Place) (total : ℕ) (d : FlightDraft) (from p : ℕ)
      → own_in 4 places d fields ≡ Ok p → is_joined d.legs from p ≡ false
      → is_back d from p ≡ false → (adds_node d p && is_full total d) ≡ false
      → end_in places total d from fields ≡ Ok p
  unfolding end_in
  end_in_back places total d from p own once onward room = rw (own, once, onward, room) refl

  leg_of_back : (places : List Place) (total : ℕ) (d : FlightDraft) (from to least : ℕ)
      → start_in places d fields ≡ Ok from → end_in places total d from fields ≡ Ok to
      → slice_get fields 4 ≡ Some (decimal least) → least ≤ most_delay → length fields ≡ 5
      → leg_of places total d fields ≡ Ok (record { from = from; to = to; least = least })
  unfolding leg_of
  leg_of_back places total d from to least starts ends there short count =
      rw (
        starts,
        ends,
        number_between fields 5 least 0 most_delay there (omega (arith, short)) (omega arith)
            short,
        count,
      ) refl

  leg_in_back : (draft : DraftParts) (k : ℕ) (d : FlightDraft) (leg : PlaceLeg)
      → flight_in draft.flights fields ≡ Ok (k, d)
      → leg_of draft.places (node_total draft.flights) d fields ≡ Ok leg
      → leg_in draft fields ≡ Ok (k, leg)
  unfolding leg_in
  leg_in_back draft k d leg found is = rw (found, is) refl

leg_step_back : (draft : DraftParts) (at : ℕ) (rest : Fields) (found : ℕ × PlaceLeg)
    → leg_in draft (codes "leg" ∷ rest) ≡ Ok found
    → record_step draft at (codes "leg" ∷ rest)
    ≡ Ok (with_flight_leg draft found)
unfolding record_step leg_step
leg_step_back draft at rest found is = rw is refl

-- a name, at its place
module _ (parts : Parts) (valid : IsScenario parts) where
  pub named_place : (k : ℕ) (place : Place) → slice_get parts.places k ≡ Some place
      → is_name (place_name (slice_get parts.places k)) ≡ true
  named_place k place there =
      subst (λ (found : Option Place). is_name (place_name found) ≡ true) (sym there)
      (found_holds (IsPlace parts.day.periods) parts.places k place valid.places.each there).name

  pub known_place : (k : ℕ) (place : Place) → slice_get parts.places k ≡ Some place
      → position_of (place_name (slice_get parts.places k)) (place_names parts.places) ≡ Some k
  known_place k place there =
      ap (λ (found : Option Place). position_of (place_name found) (place_names parts.places)) there
      ∙ named_at (λ (p : Place). p.name) parts.places k place valid.places.names there

  module _ (connections : List Connection) (done : List FlightDraft) (flight : Flight)
      (is : IsFlight parts.day.periods parts.places parts.tables flight) (at : ℕ) (cost : Cost)
      (known : (d : FlightDraft) → d.name ≡ flight.name
      → position_of flight.name (flight_names (done ++ d ∷ [])) ≡ Some (length done))
      (budget : node_total done + length flight.nodes ≤ 20000) where
    abbrev nodes : List ℕ
    nodes = flight.nodes

    abbrev so_far_draft : List Leg → List ℕ → List ℕ → FlightDraft
    so_far_draft before passed reached =
        draft_of at flight cost (map (place_leg nodes) before) passed reached

    abbrev all_drafts : FlightDraft → DraftParts
    all_drafts d = with_drafts parts connections (done ++ d ∷ [])

    leg_read : (row : ℕ) (before after : List Leg) (leg : Leg) (next : ℕ) (passed reached : List ℕ)
        → flight.legs ≡ before ++ leg ∷ after → IsSoFar nodes before next passed reached
        → leg.from ≤ next → (leg.from == 0 || is_entered before leg.from) ≡ true
        → is_left before leg.to ≡ false
        → record_step (all_drafts (so_far_draft before passed reached)) row
        (leg_row parts.places flight leg)
        ≡ Ok (all_drafts (with_leg (so_far_draft before passed reached) (place_leg nodes leg)))
    leg_read row before after leg next passed reached are so_far order start onward =
        let route = is.route in
        let d = so_far_draft before passed reached in
        let fields = leg_row parts.places flight leg in
        let there = leg_there parts.places flight route before after leg are in
        let leg_is : IsLeg (length nodes) leg = there.0 in
        let up = leg_is.upward in
        let within = leg_is.within in
        let from = slice_index nodes leg.from in
        let to = slice_index nodes leg.to in
        let from_there = place_there parts.day.periods parts.places parts.tables flight is leg.from
        (omega (arith, up, within)) in
        let to_there = place_there parts.day.periods parts.places parts.tables flight is leg.to
        within in
        let begins = starts_at parts.places flight route before next passed reached so_far leg
        leg_is order start onward in
        let ends = ends_at parts.places flight route before next passed reached so_far leg
        leg_is order start onward in
        let own_from : is_own parts.places d from ≡ true =
        elim begins [
          | inl first ↦ own_origin (is_sector (slice_get parts.places from)) (from == flight.from)
              (from == flight.to) (eq-eqb from flight.from (sym first))
          | inr sector ↦ own_sector (is_sector (slice_get parts.places from)) (from == flight.from)
              (from == flight.to) sector.1
        ] in
        let own_to : is_own parts.places d to ≡ true =
        elim ends [
          | inl last ↦ own_destination (is_sector (slice_get parts.places to)) (to == flight.from)
              (to == flight.to) (eq-eqb to flight.to last)
          | inr sector ↦ own_sector (is_sector (slice_get parts.places to)) (to == flight.from)
              (to == flight.to) sector
        ] in
        let starts : (from == flight.from || is_among reached from) ≡ true =
        elim begins [
          | inl first ↦ or_left (from == flight.from) (is_among reached from)
              (eq-eqb from flight.from (sym first))
          | inr sector ↦ or_right (from == flight.from) (is_among reached from) sector.0
        ] in
        let back : is_back d from to ≡ false =
        none_of (to == flight.from) (to == from) (is_among passed to)
        (ne_eqb to flight.from (not_origin parts.places flight route before next passed reached
        so_far leg leg_is order start onward))
        (ne_eqb to from (not_start parts.places flight route before next passed reached so_far leg
        leg_is order start onward))
        (not_back parts.places flight route before next passed reached so_far leg leg_is order start
        onward) in
        let after_it = so_far_next parts.places flight route before next passed reached so_far leg
        leg_is order start onward in
        let total = node_total (done ++ d ∷ []) in
        let total_is : total ≡ node_total done + (length reached + 2) = total_push done d in
        let room : (adds_node d to && is_full total d) ≡ false =
        elim (cases_Bool (adds_node d to)) [
          | inl new ↦
              let longer : length (reached ++ to ∷ []) + 2 ≤ length nodes =
              subst (λ (b : Bool). length (with_new b reached to) + 2 ≤ length nodes) new
              (few_reached nodes (before ++ leg ∷ []) (max next (leg.from + 1)) _ _ route.nodes_from
              after_it) in
              let count = length-append reached (to ∷ []) in
              let most = route.nodes_to in
              and_right (adds_node d to) (is_full total d)
              (or_from _ _ (lt-leb 32 (length reached + 2) (omega (arith, longer, count, most)))
              (lt-leb 20000 total (omega (arith, total_is, longer, count, budget))))
          | inr old ↦ and_left (adds_node d to) (is_full total d) old
        ] in
        let legs_few = route.legs_to_limit in
        let legs_count : length flight.legs ≡ length before + suc (length after) =
        ap length are ∙ length-append before (leg ∷ after) in
        let drawn = length-map before (place_leg nodes) in
        let found : flight_in (done ++ d ∷ []) fields ≡ Ok (length done, d) =
        flight_in_back fields (done ++ d ∷ []) flight.name (length done) d refl is.name
        (known d refl) (seam done d []) (omega (arith, legs_few, legs_count, drawn)) in
        let from_own = own_in_back fields 3 parts.places d
        (place_name (slice_get parts.places from)) from refl
        (named_place from from_there.0 from_there.1) (known_place from from_there.0 from_there.1)
        own_from in
        let to_own = own_in_back fields 4 parts.places d
        (place_name (slice_get parts.places to)) to refl
        (named_place to to_there.0 to_there.1) (known_place to to_there.0 to_there.1) own_to in
        let ended = end_in_back fields parts.places total d from to to_own
        (not_joined parts.places flight route before leg there.2 there.1 leg_is) back room in
        let leg_back = leg_of_back fields parts.places total d from to leg.least
        (start_in_back fields parts.places d from from_own starts) ended refl leg_is.least refl in
        leg_step_back (all_drafts d) row _ (length done, place_leg nodes leg)
        (leg_in_back fields (all_drafts d) (length done) d (place_leg nodes leg) found leg_back)
        ∙ ap (λ (flights : List FlightDraft). Ok (with_drafts parts connections flights))
        (changed_seam (λ (f : FlightDraft). with_leg f (place_leg nodes leg)) done d [])

    pub legs_lead : (row : ℕ) (before after : List Leg) (next : ℕ) (passed reached : List ℕ)
        → flight.legs ≡ before ++ after → IsSoFar nodes before next passed reached
        → starts_in_order next after ≡ true → all_follow before after ≡ true
        → (last : ℕ) × (all_passed : List ℕ) × (all_reached : List ℕ)
        × IsSoFar nodes flight.legs last all_passed all_reached
        × Leads row (all_drafts (so_far_draft before passed reached))
        (map (leg_row parts.places flight) after)
        (all_drafts (so_far_draft flight.legs all_passed all_reached))
    legs_lead row before [] next passed reached are so_far order follow =
        let same : before ≡ flight.legs = sym (are ∙ append-nil before) in (
          next,
          passed,
          reached,
          subst (λ (legs : List Leg). IsSoFar nodes legs next passed reached) same so_far,
          subst (λ (legs : List Leg). Leads row (all_drafts (so_far_draft before passed reached)) []
              (all_drafts (so_far_draft legs passed reached))) same
              (leads_none row (all_drafts (so_far_draft before passed reached))),
        )
    legs_lead row before (leg ∷ after) next passed reached are so_far order follow =
        let orders = and_parts _ _ order in
        let follows_rest = and_parts _ _ follow in
        let follows_it = and_parts _ _ follows_rest.0 in
        let up_to : leg.from ≤ next = leb-true leg.from next orders.0 in
        let onward : is_left before leg.to ≡ false = not_true (is_left before leg.to) follows_it.1
        in
        let there = leg_there parts.places flight is.route before after leg are in
        let after_it = so_far_next parts.places flight is.route before next passed reached so_far
        leg there.0 up_to follows_it.0 onward in
        let d = so_far_draft before passed reached in
        let from = slice_index nodes leg.from in
        let to = slice_index nodes leg.to in
        let passed_next = with_new (passes_new d from) passed from in
        let reached_next = with_new (adds_node d to) reached to in
        let rest = legs_lead (row + 1) (before ++ leg ∷ []) after (max next (leg.from + 1))
        passed_next reached_next (are ∙ sym (append_assoc before (leg ∷ []) after)) after_it
        orders.1 follows_rest.1 in
        let read : record_step (all_drafts d) row (leg_row parts.places flight leg)
        ≡ Ok (all_drafts (so_far_draft (before ++ leg ∷ []) passed_next reached_next)) =
        leg_read row before after leg next passed reached are so_far up_to follows_it.0 onward
        ∙ ap (λ (legs : List PlaceLeg).
        Ok (all_drafts (draft_of at flight cost legs passed_next reached_next)))
        (sym (map-append (place_leg nodes) before (leg ∷ []))) in (
          rest.0,
          rest.1,
          rest.2,
          rest.3,
          leads_more row (all_drafts d)
              (all_drafts (so_far_draft (before ++ leg ∷ []) passed_next reached_next))
              (all_drafts (so_far_draft flight.legs rest.1 rest.2))
              (leg_row parts.places flight leg)
              (map (leg_row parts.places flight) after) read rest.4,
        )
