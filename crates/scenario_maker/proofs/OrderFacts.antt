-- The legs of a text that reads stand in an order in which they can be read.
use Rattle.std.proofs.Common.{◌≡◌, ℕ, ◌==◌, Bool, true, false, not, ◌&&◌, ◌||◌, List, [], ◌∷◌, ◌++◌, map, get_or, Ok, All, IsTrue, refl, sym, ap, subst, ◌∙◌, inl, inr, arith, append_assoc}
use Rattle.std.specs.List.{list_all}
use Rattle.std.proofs.lemmas.Bool.{and_from, and_parts, cases_Bool, eq-eqb, eqb-true, ne_eqb, not_from_false, or_cases, or_from, or_left, or_parts, or_right}
use Rattle.std.proofs.lemmas.List.{append-nil, map-append}
use Rattle.std.proofs.lemmas.List.Elements.{All-cons, All-push}
use Rattle.std.proofs.lemmas.List.Folds.{list_any-append}
use Rattle.std.proofs.lemmas.Option.{same_Some}
use Rattle.flow_types.specs.Routes.{is_entered, is_left}
use Rattle.flow_types.specs.declared.flight.Cost.{Cost}
use Rattle.flow_types.specs.declared.flight.Cost.TheVariants.{Tables}
use Rattle.flow_types.specs.declared.flight.Flight.{Flight}
use Rattle.flow_types.specs.declared.flight.Leg.{Leg}
use Rattle.flow_types.specs.declared.parts.Parts.{Parts}
use Rattle.flow_types.specs.declared.place.Place.{Place}
use Rattle.text_records.specs.Errors.{◌>>=◌}
use Rattle.text_records.specs.Fields.{field_in}
use Rattle.text_records.specs.Rows.{Fields}
use Rattle.text_records.proofs.StepFacts.{bound, given, needed, ok_is}
use Rattle.scenario_reader.specs.Capacities.{cap_change_of}
use Rattle.scenario_reader.specs.Connections.{connection_of}
use Rattle.scenario_reader.specs.DraftParts.{DraftParts, flight_names, node_total, place_names, table_names}
use Rattle.scenario_reader.specs.Finish.{finished, finished_flight, finished_flights, flight_with, has_route, leads_on, leg_between, node_of, nodes_of}
use Rattle.scenario_reader.specs.Flights.{cost_in, destination_in, flight_name_of, flight_of, hours_in, origin_in}
use Rattle.scenario_reader.specs.Kinds.{kind_of}
use Rattle.scenario_reader.specs.Legs.{adds_node, is_among, leg_in, passes_new, with_leg, with_new}
use Rattle.scenario_reader.specs.Places.{airport_of, sector_of}
use Rattle.scenario_reader.specs.Reading.{airport_step, cap_step, connect_step, cost_step, day_by_kind, first_step, flight_step, leg_step, scenario_of, sector_step, table_step}
use Rattle.scenario_reader.specs.Tables.{pricing_of, table_of, with_cost}
use Rattle.scenario_reader.specs.Validity.{IsNewLeg, ends_leg, starts_leg}
use Rattle.scenario_reader.specs.declared.flight_draft.FlightDraft.{FlightDraft}
use Rattle.scenario_reader.specs.declared.flight_draft.PlaceLeg.{PlaceLeg}
use Rattle.scenario_reader.proofs.ChangeFacts.{All-changed}
use Rattle.scenario_reader.proofs.NetworkFacts.{clash, not_both_not}
use Rattle.scenario_reader.proofs.PlaceFacts.{All-new, among_added, among_back, among_first, among_front, among_more, among_new, holds_among, node_at}
use Rattle.scenario_reader.proofs.KeptFacts.{IsKept, draft_of}
use Rattle.scenario_reader.proofs.ValidLegs.{leg_found}
use Rattle.scenario_maker.specs.Order.{AreInOrder, all_follow}
use Rattle.scenario_maker.proofs.PlainFacts.{first_holds, others_hold}

three_not : (x y z : Bool) → (x || y || z) ≡ false → (x ≡ false) × (y ≡ false) × (z ≡ false)
three_not true y z is = absurd cc
three_not false true z is = absurd cc
three_not false false true is = absurd cc
three_not false false false is = (refl, refl, refl)

not_true : (b : Bool) → not b ≡ true → b ≡ false
not_true true is = absurd cc
not_true false is = refl

or_none : (b : Bool) → (b || false) ≡ b
or_none true = refl
or_none false = refl

-- the order of legs between places
abbrev place_follows : ℕ → List PlaceLeg → PlaceLeg → Bool
place_follows origin before leg =
    (leg.from == origin || ends_leg before leg.from) && not (starts_leg before leg.to)

abbrev places_follow : ℕ → List PlaceLeg → List PlaceLeg → Bool
places_follow origin before [] = true
places_follow origin before (leg ∷ legs) =
    place_follows origin before leg && places_follow origin (before ++ leg ∷ []) legs

pub follow_push : (origin : ℕ) (before legs : List PlaceLeg) (leg : PlaceLeg)
    → places_follow origin before legs ≡ true → place_follows origin (before ++ legs) leg ≡ true
    → places_follow origin before (legs ++ leg ∷ []) ≡ true
follow_push origin before [] leg follow new =
    and_from (place_follows origin before leg) true
    (subst (λ (legs : List PlaceLeg). place_follows origin legs leg ≡ true) (append-nil before) new)
    refl
follow_push origin before (first ∷ legs) leg follow new =
    let both = and_parts (place_follows origin before first)
    (places_follow origin (before ++ first ∷ []) legs) follow in
    and_from (place_follows origin before first)
    (places_follow origin (before ++ first ∷ []) (legs ++ leg ∷ [])) both.0
    (follow_push origin (before ++ first ∷ []) legs leg both.1
    (subst (λ (all : List PlaceLeg). place_follows origin all leg ≡ true)
    (sym (append_assoc before (first ∷ []) legs)) new))

-- the draft's legs stand in order, between places that it has been to or reached
record IsOrdered (d : FlightDraft) : Type 0 where
  follow : places_follow d.from [] d.legs ≡ true
  entered : All (λ p. IsTrue (ends_leg d.legs p)) d.reached
  starts : All (λ l. IsTrue (is_among (d.from ∷ d.passed) l.from)) d.legs
  ends : All (λ l. IsTrue (l.to == d.to || is_among d.reached l.to)) d.legs

no_starts : (legs : List PlaceLeg) (to : ℕ) → All (λ l. (l.from == to) ≡ false) legs
    → starts_leg legs to ≡ false
no_starts [] to each = refl
no_starts (leg ∷ legs) to each =
    or_from (leg.from == to) (starts_leg legs to)
    (first_holds (λ (l : PlaceLeg). (l.from == to) ≡ false) leg legs each)
    (no_starts legs to (others_hold (λ (l : PlaceLeg). (l.from == to) ≡ false) leg legs each))

ends_push : (legs : List PlaceLeg) (leg : PlaceLeg) (p : ℕ)
    → ends_leg (legs ++ leg ∷ []) p ≡ (ends_leg legs p || (leg.to == p))
ends_push legs leg p =
    list_any-append (λ (l : PlaceLeg). l.to == p) legs (leg ∷ [])
    ∙ ap (λ (b : Bool). ends_leg legs p || b) (or_none (leg.to == p))

module _ (places : List Place) (total : ℕ) (d : FlightDraft) (leg : PlaceLeg)
    (new : IsNewLeg places total d leg) (is : IsOrdered d) where
  follows_it : place_follows d.from d.legs leg ≡ true
  follows_it =
      let back = three_not (leg.to == d.from) (leg.to == leg.from) (is_among d.passed leg.to)
      new.onward in
      and_from (leg.from == d.from || ends_leg d.legs leg.from) (not (starts_leg d.legs leg.to))
      (elim (or_cases (leg.from == d.from) (is_among d.reached leg.from) new.start) [
        | inl origin ↦ or_left (leg.from == d.from) (ends_leg d.legs leg.from) origin
        | inr reached ↦ or_right (leg.from == d.from) (ends_leg d.legs leg.from)
            (holds_among (λ p. IsTrue (ends_leg d.legs p)) d.reached leg.from is.entered reached)
      ])
      (not_from_false (starts_leg d.legs leg.to) (no_starts d.legs leg.to
      (λ k e within. other (get_or d.legs k e) (is.starts k e within) back.0 back.2)))
    where
      other : (l : PlaceLeg) → is_among (d.from ∷ d.passed) l.from ≡ true
          → (leg.to == d.from) ≡ false → is_among d.passed leg.to ≡ false
          → (l.from == leg.to) ≡ false
      other l among not_origin not_passed =
          ne_eqb l.from leg.to
          (λ same. elim (or_cases (d.from == leg.to) (is_among d.passed leg.to)
          (subst (λ (p : ℕ). is_among (d.from ∷ d.passed) p ≡ true) same among)) [
            | inl origin ↦ clash (leg.to == d.from)
                (eq-eqb leg.to d.from (sym (eqb-true d.from leg.to origin))) not_origin
            | inr passed ↦ clash (is_among d.passed leg.to) passed not_passed
          ])

  leg_ordered : IsOrdered (with_leg d leg)
  leg_ordered =
      let passes = passes_new d leg.from in
      let adds = adds_node d leg.to in
      record {
        follow = follow_push d.from [] d.legs leg is.follow follows_it;
        entered = All-new (λ p. IsTrue (ends_leg (d.legs ++ leg ∷ []) p)) adds d.reached leg.to
            (λ k e within. ends_push d.legs leg (get_or d.reached k e)
            ∙ or_left (ends_leg d.legs (get_or d.reached k e)) (leg.to == get_or d.reached k e)
            (is.entered k e within))
            (λ is_new. ends_push d.legs leg leg.to
            ∙ or_right (ends_leg d.legs leg.to) (leg.to == leg.to) (eq-eqb leg.to leg.to refl));
        starts = All-push
            (λ (l : PlaceLeg).
            IsTrue (is_among (d.from ∷ with_new passes d.passed leg.from) l.from)) d.legs leg
            (λ k e within. still_started (get_or d.legs k e) (is.starts k e within))
            (elim (cases_Bool passes) [
              | inl is_new ↦ or_right (d.from == leg.from)
                  (is_among (with_new passes d.passed leg.from) leg.from)
                  (among_added passes d.passed leg.from
                  (λ is_old. absurd (clash passes is_new is_old)))
              | inr is_old ↦
                  elim (not_both_not (leg.from == d.from) (is_among d.passed leg.from) is_old) [
                    | inl origin ↦ or_left (d.from == leg.from)
                        (is_among (with_new passes d.passed leg.from) leg.from)
                        (eq-eqb d.from leg.from (sym (eqb-true leg.from d.from origin)))
                    | inr passed ↦ or_right (d.from == leg.from)
                        (is_among (with_new passes d.passed leg.from) leg.from)
                        (among_new passes d.passed leg.from leg.from passed)
                  ]
            ]);
        ends = All-push
            (λ (l : PlaceLeg).
            IsTrue (l.to == d.to || is_among (with_new adds d.reached leg.to) l.to)) d.legs leg
            (λ k e within. still_ended (get_or d.legs k e) (is.ends k e within))
            (elim (cases_Bool adds) [
              | inl is_new ↦ or_right (leg.to == d.to)
                  (is_among (with_new adds d.reached leg.to) leg.to)
                  (among_added adds d.reached leg.to
                  (λ is_old. absurd (clash adds is_new is_old)))
              | inr is_old ↦
                  elim (not_both_not (leg.to == d.to) (is_among d.reached leg.to) is_old) [
                    | inl last ↦ or_left (leg.to == d.to)
                        (is_among (with_new adds d.reached leg.to) leg.to) last
                    | inr reached ↦ or_right (leg.to == d.to)
                        (is_among (with_new adds d.reached leg.to) leg.to)
                        (among_new adds d.reached leg.to leg.to reached)
                  ]
            ]);
      }
    where
      still_started : (l : PlaceLeg) → is_among (d.from ∷ d.passed) l.from ≡ true
          → is_among (d.from ∷ with_new (passes_new d leg.from) d.passed leg.from) l.from ≡ true
      still_started l among =
          elim (or_cases (d.from == l.from) (is_among d.passed l.from) among) [
            | inl origin ↦ or_left (d.from == l.from)
                (is_among (with_new (passes_new d leg.from) d.passed leg.from) l.from) origin
            | inr passed ↦ or_right (d.from == l.from)
                (is_among (with_new (passes_new d leg.from) d.passed leg.from) l.from)
                (among_new (passes_new d leg.from) d.passed leg.from l.from passed)
          ]

      still_ended : (l : PlaceLeg) → (l.to == d.to || is_among d.reached l.to) ≡ true
          → (l.to == d.to || is_among (with_new (adds_node d leg.to) d.reached leg.to) l.to) ≡ true
      still_ended l ended =
          elim (or_cases (l.to == d.to) (is_among d.reached l.to) ended) [
            | inl last ↦ or_left (l.to == d.to)
                (is_among (with_new (adds_node d leg.to) d.reached leg.to) l.to) last
            | inr reached ↦ or_right (l.to == d.to)
                (is_among (with_new (adds_node d leg.to) d.reached leg.to) l.to)
                (among_new (adds_node d leg.to) d.reached leg.to l.to reached)
          ]

abbrev AreOrdered : DraftParts → Type 0
AreOrdered draft = All IsOrdered draft.flights

no_items : {X : Type 0} (P : X → Type 0) → All P []
no_items P k d within = absurd (omega (arith, within))

after_airport : (draft next : DraftParts) (fields : Fields) → AreOrdered draft
    → airport_step draft fields ≡ Ok next → AreOrdered next
unfolding airport_step
after_airport draft next fields are e =
    let place = bound (airport_of draft.day.periods (place_names draft.places) fields) _ next e in
    subst AreOrdered (ok_is _ next place.2) are

after_sector : (draft next : DraftParts) (fields : Fields) → AreOrdered draft
    → sector_step draft fields ≡ Ok next → AreOrdered next
unfolding sector_step
after_sector draft next fields are e =
    let place = bound (sector_of draft.day.periods (place_names draft.places) fields) _ next e in
    subst AreOrdered (ok_is _ next place.2) are

after_table : (draft next : DraftParts) (fields : Fields) → AreOrdered draft
    → table_step draft fields ≡ Ok next → AreOrdered next
unfolding table_step
after_table draft next fields are e =
    let table = bound (table_of (table_names draft.tables) fields) _ next e in
    subst AreOrdered (ok_is _ next table.2) are

after_connect : (draft next : DraftParts) (fields : Fields) → AreOrdered draft
    → connect_step draft fields ≡ Ok next → AreOrdered next
unfolding connect_step
after_connect draft next fields are e =
    let connection = bound (connection_of draft.flights draft.connections fields) _ next e in
    subst AreOrdered (ok_is _ next connection.2) are

after_cap : (draft next : DraftParts) (fields : Fields) → AreOrdered draft
    → cap_step draft fields ≡ Ok next → AreOrdered next
unfolding cap_step
after_cap draft next fields are e =
    let change = bound (cap_change_of draft.day.periods draft.places fields) _ next e in
    subst AreOrdered (ok_is _ next change.2) are

priced_ordered : (cost : Cost) (d : FlightDraft) → IsOrdered d → IsOrdered (with_cost cost d)
priced_ordered cost d is =
    record { follow = is.follow; entered = is.entered; starts = is.starts; ends = is.ends }

after_cost : (draft next : DraftParts) (fields : Fields) → AreOrdered draft
    → cost_step draft fields ≡ Ok next → AreOrdered next
unfolding cost_step
after_cost draft next fields are e =
    let pricing = bound (pricing_of draft.flights draft.tables fields) _ next e in
    subst AreOrdered (ok_is _ next pricing.2)
    (All-changed IsOrdered (with_cost (Tables pricing.0.total pricing.0.credit)) draft.flights
    pricing.0.flight are
    (λ d there is. priced_ordered (Tables pricing.0.total pricing.0.credit) d is))

new_ordered : (draft : DraftParts) (at : ℕ) (fields : Fields) (d : FlightDraft)
    → flight_of draft at fields ≡ Ok d → IsOrdered d
unfolding flight_of
new_ordered draft at fields d e =
    let name =
    bound (flight_name_of (flight_names draft.flights) (node_total draft.flights) fields) _ d e in
    let origin = bound (origin_in draft.places fields) _ d name.2 in
    let destination = bound (destination_in draft.places origin.0 fields) _ d origin.2 in
    let hours = bound (hours_in draft.day.periods fields) _ d destination.2 in
    let cost = bound (cost_in fields) _ d hours.2 in
    subst IsOrdered (ok_is _ d cost.2) (record {
      follow = refl;
      entered = no_items _;
      starts = no_items _;
      ends = no_items _;
    })

after_flight : (draft next : DraftParts) (at : ℕ) (fields : Fields) → AreOrdered draft
    → flight_step draft at fields ≡ Ok next → AreOrdered next
unfolding flight_step
after_flight draft next at fields are e =
    let flight = bound (flight_of draft at fields) _ next e in
    subst AreOrdered (ok_is _ next flight.2)
    (All-push IsOrdered draft.flights flight.0 are
    (new_ordered draft at fields flight.0 flight.1))

after_leg : (draft next : DraftParts) (fields : Fields) → AreOrdered draft
    → leg_step draft fields ≡ Ok next → AreOrdered next
unfolding leg_step
after_leg draft next fields are e =
    let found = bound (leg_in draft fields) _ next e in
    let new = leg_found draft fields found.0 found.1 in
    subst AreOrdered (ok_is _ next found.2)
    (All-changed IsOrdered (λ f. with_leg f found.0.1) draft.flights found.0.0 are
    (λ d there is. leg_ordered draft.places (node_total draft.flights) d found.0.1
    (subst (λ (f : FlightDraft). IsNewLeg draft.places (node_total draft.flights) f found.0.1)
    (same_Some new.flight d (sym new.here ∙ there)) new.valid) is))

after_first : (fields : Fields) (draft : DraftParts) → first_step fields ≡ Ok draft
    → AreOrdered draft
unfolding first_step
after_first fields draft e =
    let word = bound (field_in fields 1) _ draft e in
    let day = bound (day_by_kind fields (kind_of word.0)) _ draft word.2 in
    subst AreOrdered (ok_is _ draft day.2) (no_items IsOrdered)

-- the same order between nodes
module _ (nodes : List ℕ) where
  record IsKnown (leg : PlaceLeg) : Type 0 where
    from : IsTrue (is_among nodes leg.from)
    to : IsTrue (is_among nodes leg.to)

  abbrev between : List PlaceLeg → List Leg
  between legs = map (leg_between nodes) legs

  entered_between : (legs : List PlaceLeg) (p : ℕ) → ends_leg legs p ≡ true
      → is_entered (between legs) (node_of nodes p) ≡ true
  entered_between [] p ends = absurd cc
  entered_between (leg ∷ legs) p ends =
      elim (or_cases (leg.to == p) (ends_leg legs p) ends) [
        | inl here ↦ or_left _ _ (eq-eqb (node_of nodes leg.to) (node_of nodes p)
            (ap (node_of nodes) (eqb-true leg.to p here)))
        | inr later ↦ or_right _ _ (entered_between legs p later)
      ]

  same_place : (p q : ℕ) → is_among nodes p ≡ true → is_among nodes q ≡ true
      → node_of nodes p ≡ node_of nodes q → p ≡ q
  same_place p q first second same =
      sym (node_at nodes p 0 first) ∙ ap (λ (k : ℕ). get_or nodes k 0) same
      ∙ node_at nodes q 0 second

  not_left_between : (legs : List PlaceLeg) (p : ℕ) → All IsKnown legs
      → is_among nodes p ≡ true → starts_leg legs p ≡ false
      → is_left (between legs) (node_of nodes p) ≡ false
  not_left_between [] p known there starts = refl
  not_left_between (leg ∷ legs) p known there starts =
      let both = or_parts (leg.from == p) (starts_leg legs p) starts in
      or_from _ _
      (ne_eqb (node_of nodes leg.from) (node_of nodes p)
      (λ same. clash (leg.from == p) (eq-eqb leg.from p
      (same_place leg.from p (first_holds IsKnown leg legs known).from there same)) both.0))
      (not_left_between legs p (others_hold IsKnown leg legs known) there both.1)

  follow_between : (origin : ℕ) (before legs : List PlaceLeg) → node_of nodes origin ≡ 0
      → All IsKnown before → All IsKnown legs → places_follow origin before legs ≡ true
      → all_follow (between before) (between legs) ≡ true
  follow_between origin before [] first known_before known follow = refl
  follow_between origin before (leg ∷ legs) first known_before known follow =
      let both = and_parts (place_follows origin before leg)
      (places_follow origin (before ++ leg ∷ []) legs) follow in
      let here = and_parts (leg.from == origin || ends_leg before leg.from)
      (not (starts_leg before leg.to)) both.0 in
      let it = first_holds IsKnown leg legs known in
      and_from _ _
      (and_from _ _
      (elim (or_cases (leg.from == origin) (ends_leg before leg.from) here.0) [
        | inl is_origin ↦ or_left _ _ (eq-eqb (node_of nodes leg.from) 0
            (ap (node_of nodes) (eqb-true leg.from origin is_origin) ∙ first))
        | inr ends ↦ or_right _ _ (entered_between before leg.from ends)
      ])
      (not_from_false _ (not_left_between before leg.to known_before it.to
      (not_true (starts_leg before leg.to) here.1))))
      (subst (λ (all : List Leg). all_follow all (between legs) ≡ true)
      (map-append (leg_between nodes) before (leg ∷ []))
      (follow_between origin (before ++ leg ∷ []) legs first
      (All-push IsKnown before leg known_before it) (others_hold IsKnown leg legs known) both.1))

-- a draft in order becomes a flight in order
draft_in_order : (d : FlightDraft) → IsOrdered d → leads_on d ≡ true
    → all_follow [] (flight_with d (nodes_of d)).legs ≡ true
draft_in_order d is onward =
    follow_between (nodes_of d) d.from [] d.legs (first_node d.from (d.passed ++ d.to ∷ []))
    (no_items (IsKnown (nodes_of d)))
    (λ k e within. record {
      from = among_front (d.from ∷ d.passed) (d.to ∷ []) (get_or d.legs k e).from
          (is.starts k e within);
      to = ended (get_or d.legs k e) (is.ends k e within);
    }) is.follow
  where
    first_node : (x : ℕ) (xs : List ℕ) → node_of (x ∷ xs) x ≡ 0
    first_node x xs = rw (eq-eqb x x refl) refl

    ended : (leg : PlaceLeg) → (leg.to == d.to || is_among d.reached leg.to) ≡ true
        → is_among (nodes_of d) leg.to ≡ true
    ended leg ends =
        elim (or_cases (leg.to == d.to) (is_among d.reached leg.to) ends) [
          | inl last ↦ among_more d.from (d.passed ++ d.to ∷ []) leg.to
              (among_back d.passed (d.to ∷ []) leg.to
              (subst (λ (p : ℕ). is_among (d.to ∷ []) p ≡ true) (sym (eqb-true leg.to d.to last))
              (among_first d.to [])))
          | inr reached ↦ among_more d.from (d.passed ++ d.to ∷ []) leg.to
              (among_front d.passed (d.to ∷ []) leg.to
              (passed_too d.reached onward leg.to reached))
        ]
      where
        passed_too : (xs : List ℕ) → list_all (λ p. is_among d.passed p) xs ≡ true → (q : ℕ)
            → is_among xs q ≡ true → is_among d.passed q ≡ true
        passed_too [] all q there = absurd cc
        passed_too (x ∷ xs) all q there =
            let both = and_parts (is_among d.passed x) (list_all (λ p. is_among d.passed p) xs) all
            in
            elim (or_cases (x == q) (is_among xs q) there) [
              | inl here ↦ subst (λ (p : ℕ). is_among d.passed p ≡ true) (eqb-true x q here) both.0
              | inr later ↦ passed_too xs both.1 q later
            ]

finished_in_order : (d : FlightDraft) (flight : Flight) → IsOrdered d
    → finished_flight d ≡ Ok flight → all_follow [] flight.legs ≡ true
unfolding finished_flight
finished_in_order d flight is e =
    let route = needed (has_route d) _ flight _ e in
    let onward = given (leads_on d) (flight_with d (nodes_of d)) flight _ route.1 in
    subst (λ (f : Flight). all_follow [] f.legs ≡ true) onward.1 (draft_in_order d is onward.0)

all_in_order : (drafts : List FlightDraft) (flights : List Flight) → All IsOrdered drafts
    → finished_flights drafts ≡ Ok flights → AreInOrder flights
unfolding finished_flights
all_in_order [] flights are e =
    subst AreInOrder (ok_is [] flights e) (no_items (λ (f : Flight). IsTrue (all_follow [] f.legs)))
all_in_order (d ∷ drafts) flights are e =
    let first = bound (finished_flight d)
    (λ f. finished_flights drafts >>= λ others. Ok (f ∷ others)) flights e in
    let rest = bound (finished_flights drafts) (λ others. Ok (first.0 ∷ others)) flights first.2 in
    subst AreInOrder (ok_is (first.0 ∷ rest.0) flights rest.2)
    (All-cons (λ (f : Flight). IsTrue (all_follow [] f.legs)) first.0 rest.0
    (finished_in_order d first.0 (first_holds IsOrdered d drafts are) first.1)
    (all_in_order drafts rest.0 (others_hold IsOrdered d drafts are) rest.1))

ended_in_order : (draft : DraftParts) (parts : Parts) → AreOrdered draft
    → finished draft ≡ Ok parts → AreInOrder parts.flights
unfolding finished
ended_in_order draft parts are e =
    let flights = bound (finished_flights draft.flights) _ parts e in
    subst (λ (p : Parts). AreInOrder p.flights) (ok_is _ parts flights.2)
    (all_in_order draft.flights flights.0 are flights.1)

kept : IsKept AreOrdered
kept = record {
  first = after_first;
  airport = after_airport;
  sector = after_sector;
  flight = λ at draft next fields. after_flight draft next at fields;
  leg = after_leg;
  connect = after_connect;
  table = after_table;
  cost = after_cost;
  cap = after_cap;
}

pub text_in_order : (bytes : List ℕ) (parts : Parts) → scenario_of bytes ≡ Ok parts
    → AreInOrder parts.flights
text_in_order bytes parts e =
    let read = draft_of AreOrdered kept bytes parts e in
    ended_in_order read.0 parts read.1 read.2
