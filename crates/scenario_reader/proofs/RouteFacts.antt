-- A flight's network is a route when its destination is reached and no sector is a dead end.
use Rattle.std.proofs.Common.{◌≡◌, ◌≢◌, ℕ, zero, suc, ◌+◌, ◌-◌, ◌<◌, ◌≤◌, Bool, true, false, eqb, not, ◌&&◌, List, [], ◌∷◌, ◌++◌, length, get_or, map, max, Option, Some, None, refl, sym, ap, arith, ◌∙◌, inl, inr, AllPairs, IsTrue, length-append, eq-eqb}
use Rattle.std.specs.Prelude.{nat_le, slice_get}
use Rattle.std.specs.List.{list_any}
use Rattle.std.proofs.Math.Seq.{get_or-append_seam}
use Rattle.std.proofs.lemmas.Bool.{cases_Bool, cases_lt, eqb-true, false≢true, or_cases}
use Rattle.std.proofs.lemmas.List.{get_or_append_left, get_or-map, length-map}
use Rattle.std.proofs.lemmas.List.Elements.{All-map}
use Rattle.std.proofs.lemmas.List.Quantifiers.{all_pairs_push}
use Rattle.std.proofs.lemmas.List.Sums.{AllPass-from_list_all}
use Rattle.flow_types.specs.Routes.{is_airport, is_airport_kind, is_entered, is_left, is_sector, starts_in_order, IsLeg, IsOtherLeg, IsRoute}
use Rattle.flow_types.specs.Valid.{IsFlight}
use Rattle.flow_types.specs.declared.flight.Leg.{Leg}
use Rattle.flow_types.specs.declared.flight.CostTable.{CostTable}
use Rattle.flow_types.specs.declared.place.Place.{Place}
use Rattle.scenario_reader.specs.Finish.{flight_with, has_route, leads_on, leg_between, node_of, nodes_of}
use Rattle.scenario_reader.specs.Legs.{is_among}
use Rattle.scenario_reader.specs.Validity.{ends_leg, in_order, starts_leg, starts_of, visited, IsFlightDraft, IsPlaceLeg, IsNetwork, IsOtherPlaceLeg}
use Rattle.scenario_reader.specs.declared.flight_draft.FlightDraft.{FlightDraft}
use Rattle.scenario_reader.specs.declared.flight_draft.PlaceLeg.{PlaceLeg}
use Rattle.scenario_reader.proofs.CountFacts.{no_more}
use Rattle.scenario_reader.proofs.NetworkFacts.{any_some, left_or, right_or, starts_stay}
use Rattle.scenario_reader.proofs.PlaceFacts.{among_front, among_last, among_more, holds_among, node_at, node_new, node_not_before, node_of_at, node_outside, node_within}

-- no place is an airport and a sector
not_both : (place : Option Place) → is_airport place ≡ true → is_sector place ≡ true → ⊥
not_both None airport sector = false≢true airport
not_both (Some place) airport sector = by (is_airport_kind place.kind) airport sector
  where
    by : (b : Bool) → b ≡ true → not b ≡ true → ⊥
    by true airport sector = false≢true sector
    by false airport sector = false≢true airport

passed_sector : (places : List Place) (flight : FlightDraft) → IsNetwork places flight → (k d : ℕ)
    → k < length flight.passed
    → IsTrue (is_sector (slice_get places (get_or flight.passed k d)))
passed_sector places flight network k d h =
    holds_among (λ p. IsTrue (is_sector (slice_get places p))) flight.reached
    (get_or flight.passed k d) network.sectors (network.passed_reached k d h)

pub passed_few : (places : List Place) (flight : FlightDraft) → IsNetwork places flight
    → length flight.passed ≤ length flight.reached
passed_few places flight network =
    no_more flight.passed flight.reached network.passed_once network.passed_reached

all_pairs_cons : (x : ℕ) (xs : List ℕ) → ((k d : ℕ) → k < length xs → x ≢ get_or xs k d)
    → AllPairs (λ a b. a ≢ b) xs → AllPairs (λ a b. a ≢ b) (x ∷ xs)
all_pairs_cons x xs first rest zero zero d before within = absurd (omega arith)
all_pairs_cons x xs first rest zero (suc j) d before within = first j d (omega arith)
all_pairs_cons x xs first rest (suc i) zero d before within = absurd (omega arith)
all_pairs_cons x xs first rest (suc i) (suc j) d before within =
    rest i j d (omega arith) (omega arith)

-- what is known of a flight that has come to its end
pub record IsEnded (periods : ℕ) (places : List Place) (tables : List CostTable)
    (flight : FlightDraft) : Type 0 where
  pub valid : IsFlightDraft periods places tables flight
  pub route : has_route flight ≡ true
  pub onward : leads_on flight ≡ true

different : (periods : ℕ) (places : List Place) (tables : List CostTable) (flight : FlightDraft)
    → IsFlightDraft periods places tables flight → AllPairs (λ a b. a ≢ b) (nodes_of flight)
different periods places tables flight valid =
    all_pairs_push (λ a b. a ≢ b) (visited flight) flight.to
    (all_pairs_cons flight.from flight.passed
    (λ k d h e. not_both _ valid.origin
    (ap (λ (p : ℕ). is_sector (slice_get places p)) e
    ∙ passed_sector places flight valid.network k d h))
    valid.network.passed_once)
    before_last
  where
    before_last : (k d : ℕ) → k < length (visited flight) → get_or (visited flight) k d ≢ flight.to
    before_last zero d h e = valid.apart e
    before_last (suc k) d h e = not_both _ valid.destination
        (ap (λ (p : ℕ). is_sector (slice_get places p)) (sym e)
        ∙ passed_sector places flight valid.network k d (omega arith))

among_nodes : (periods : ℕ) (places : List Place) (tables : List CostTable) (flight : FlightDraft)
    → IsEnded periods places tables flight → (leg : PlaceLeg)
    → IsPlaceLeg (visited flight) flight.to flight.reached leg
    → (is_among (nodes_of flight) leg.from ≡ true) × (is_among (nodes_of flight) leg.to ≡ true)
among_nodes periods places tables flight ended leg joins = (
  among_front (visited flight) (flight.to ∷ []) leg.from joins.start,
  elim (or_cases (eqb leg.to flight.to) (is_among flight.reached leg.to) joins.end) [
    | inl last ↦ ap (is_among (nodes_of flight)) (eqb-true leg.to flight.to last)
        ∙ among_last (visited flight) flight.to
    | inr reached ↦ among_front (visited flight) (flight.to ∷ []) leg.to
        (among_more flight.from flight.passed leg.to
        (holds_among (λ p. is_among flight.passed p ≡ true) flight.reached leg.to
        (AllPass-from_list_all (λ p. is_among flight.passed p) flight.reached ended.onward)
        reached))
  ],
)

leg_is : (periods : ℕ) (places : List Place) (tables : List CostTable) (flight : FlightDraft)
    → IsEnded periods places tables flight → (leg : PlaceLeg)
    → IsPlaceLeg (visited flight) flight.to flight.reached leg
    → IsLeg (length (nodes_of flight)) (leg_between (nodes_of flight) leg)
leg_is periods places tables flight ended leg joins = record {
  upward =
      let stays = node_new true (visited flight) flight.to leg.from joins.start in
      let before = joins.upward in
      elim (cases_Bool (is_among (visited flight) leg.to)) [
        | inl e ↦ let also = node_new true (visited flight) flight.to leg.to e in omega arith
        | inr e ↦ let last = node_outside (visited flight) leg.to e in
            let after = node_not_before true (visited flight) flight.to leg.to e in omega arith
      ];
  within = node_within (nodes_of flight) leg.to
      (among_nodes periods places tables flight ended leg joins).1;
  least = joins.least;
}

-- a node tells its place
same_place : (nodes : List ℕ) (a b : ℕ) → is_among nodes a ≡ true → is_among nodes b ≡ true
    → node_of nodes a ≡ node_of nodes b → a ≡ b
same_place nodes a b ha hb e =
    sym (node_at nodes a 0 ha) ∙ ap (λ (k : ℕ). get_or nodes k 0) e ∙ node_at nodes b 0 hb

other_leg : (periods : ℕ) (places : List Place) (tables : List CostTable) (flight : FlightDraft)
    → IsEnded periods places tables flight → (a b : PlaceLeg)
    → IsPlaceLeg (visited flight) flight.to flight.reached a
    → IsPlaceLeg (visited flight) flight.to flight.reached b → IsOtherPlaceLeg a b
    → IsOtherLeg (leg_between (nodes_of flight) a) (leg_between (nodes_of flight) b)
other_leg periods places tables flight ended a b ha hb other from to =
    let ka = among_nodes periods places tables flight ended a ha in
    let kb = among_nodes periods places tables flight ended b hb in
    other (same_place (nodes_of flight) a.from b.from ka.0 kb.0 from)
    (same_place (nodes_of flight) a.to b.to ka.1 kb.1 to)

once : (periods : ℕ) (places : List Place) (tables : List CostTable) (flight : FlightDraft)
    → IsEnded periods places tables flight
    → AllPairs IsOtherLeg (map (leg_between (nodes_of flight)) flight.legs)
once periods places tables flight ended i j d before within =
    let many : length (map (leg_between (nodes_of flight)) flight.legs) ≡ length flight.legs =
    length-map flight.legs (leg_between (nodes_of flight)) in
    let e : PlaceLeg = record { from = 0; to = 0; least = 0 } in
    let j_in : j < length flight.legs = omega arith in
    let i_in : i < length flight.legs = omega arith in
    let at_i = get_or-map (leg_between (nodes_of flight)) flight.legs i e d i_in in
    let at_j = get_or-map (leg_between (nodes_of flight)) flight.legs j e d j_in in
    rw (at_i, at_j) (other_leg periods places tables flight ended (get_or flight.legs i e)
    (get_or flight.legs j e)
    (ended.valid.network.legs i e i_in) (ended.valid.network.legs j e j_in)
    (ended.valid.network.once i j e before j_in))

in_order-legs : (nodes : List ℕ) (next : ℕ) (legs : List PlaceLeg)
    → starts_in_order next (map (leg_between nodes) legs) ≡ in_order next (starts_of nodes legs)
in_order-legs nodes next [] = refl
in_order-legs nodes next (leg ∷ legs) =
    ap (λ (b : Bool). nat_le (node_of nodes leg.from) next && b)
    (in_order-legs nodes (max next (node_of nodes leg.from + 1)) legs)

any_map : (p : PlaceLeg → Bool) (q : Leg → Bool) (nodes : List ℕ) (legs : List PlaceLeg)
    → ((leg : PlaceLeg) → p leg ≡ true → q (leg_between nodes leg) ≡ true)
    → list_any p legs ≡ true → list_any q (map (leg_between nodes) legs) ≡ true
any_map p q nodes [] each h = absurd cc
any_map p q nodes (leg ∷ legs) each h =
    elim (or_cases (p leg) (list_any p legs) h) [
      | inl first ↦ left_or _ _ (each leg first)
      | inr rest ↦ right_or _ _ (any_map p q nodes legs each rest)
    ]

-- the leg to a place enters its node, and that from it leaves it
enters : (nodes : List ℕ) (legs : List PlaceLeg) (k : ℕ) → AllPairs (λ a b. a ≢ b) nodes
    → k < length nodes → ends_leg legs (get_or nodes k 0) ≡ true
    → is_entered (map (leg_between nodes) legs) k ≡ true
enters nodes legs k apart within h =
    any_map (λ leg. eqb leg.to (get_or nodes k 0)) (λ leg. eqb leg.to k) nodes legs
    (λ leg e. eq-eqb (node_of nodes leg.to) k
    (ap (node_of nodes) (eqb-true leg.to (get_or nodes k 0) e)
    ∙ node_of_at nodes k apart within)) h

leaves : (nodes : List ℕ) (legs : List PlaceLeg) (k : ℕ) → AllPairs (λ a b. a ≢ b) nodes
    → k < length nodes → starts_leg legs (get_or nodes k 0) ≡ true
    → is_left (map (leg_between nodes) legs) k ≡ true
leaves nodes legs k apart within h =
    any_map (λ leg. eqb leg.from (get_or nodes k 0)) (λ leg. eqb leg.from k) nodes legs
    (λ leg e. eq-eqb (node_of nodes leg.from) k
    (ap (node_of nodes) (eqb-true leg.from (get_or nodes k 0) e)
    ∙ node_of_at nodes k apart within)) h

pub route_is : (periods : ℕ) (places : List Place) (tables : List CostTable) (flight : FlightDraft)
    → IsEnded periods places tables flight
    → IsRoute places flight.from flight.to (nodes_of flight)
    (map (leg_between (nodes_of flight)) flight.legs)
route_is periods places tables flight ended =
    let network = ended.valid.network in
    let few = passed_few places flight network in
    let reached_few = network.reached_few in
    let many = length-append flight.passed (flight.to ∷ []) in
    let apart = different periods places tables flight ended.valid in
    record {
      nodes_from = omega arith;
      nodes_to = omega arith;
      legs_to_limit = rw (length-map flight.legs (leg_between (nodes_of flight))) network.legs_few;
      first = refl;
      last = at_end (length (nodes_of flight) - 1) (omega arith);
      sectors = sector_at;
      different = apart;
      each_leg = All-map (IsLeg (length (nodes_of flight)))
          (leg_between (nodes_of flight)) flight.legs
          (λ k d h. leg_is periods places tables flight ended (get_or flight.legs k d)
          (network.legs k d h));
      once = once periods places tables flight ended;
      order = in_order-legs (nodes_of flight) 1 flight.legs
          ∙ ap (in_order 1) (starts_stay true
          (visited flight) flight.reached flight.to flight.to flight.legs network.legs)
          ∙ network.order;
      entered = λ k some within. enters (nodes_of flight) flight.legs k apart within
          (entered_at k some within);
      left = λ k within. leaves (nodes_of flight) flight.legs k apart (omega arith)
          (left_at k within);
    }
  where
    at_end : (k : ℕ) → k ≡ length (visited flight) → get_or (nodes_of flight) k 0 ≡ flight.to
    at_end k e = rw e (get_or-append_seam (visited flight) flight.to [] 0)

    passed_at : (k : ℕ) → k < length flight.passed
        → get_or (flight.passed ++ flight.to ∷ []) k 0 ≡ get_or flight.passed k 0
    passed_at k h = get_or_append_left flight.passed (flight.to ∷ []) 0 k h

    sector_at : (k : ℕ) → 0 < k → k + 1 < length (nodes_of flight)
        → IsTrue (is_sector (slice_get places (get_or (nodes_of flight) k 0)))
    sector_at zero some h = absurd (omega arith)
    sector_at (suc k) some h =
        let many = length-append flight.passed (flight.to ∷ []) in
        let here : k < length flight.passed = omega arith in
        rw (passed_at k here) (passed_sector places flight ended.valid.network k 0 here)

    entered_at : (k : ℕ) → 0 < k → k < length (nodes_of flight)
        → ends_leg flight.legs (get_or (nodes_of flight) k 0) ≡ true
    entered_at zero some h = absurd (omega arith)
    entered_at (suc k) some h =
        let many = length-append flight.passed (flight.to ∷ []) in
        elim (cases_lt k (length flight.passed)) [
          | inl here ↦ rw (passed_at k here)
              (holds_among (λ p. IsTrue (ends_leg flight.legs p)) flight.reached
              (get_or flight.passed k 0)
              ended.valid.network.entered (ended.valid.network.passed_reached k 0 here))
          | inr last ↦ rw (at_end (suc k) (omega arith)) ended.route
        ]

    left_at : (k : ℕ) → k + 1 < length (nodes_of flight)
        → starts_leg flight.legs (get_or (nodes_of flight) k 0) ≡ true
    left_at zero h = ended.valid.network.begins
        (any_some (λ leg. eqb leg.to flight.to) flight.legs ended.route)
    left_at (suc k) h =
        let many = length-append flight.passed (flight.to ∷ []) in
        let here : k < length flight.passed = omega arith in
        rw (passed_at k here) (ended.valid.network.left k 0 here)

-- the flight that it becomes
pub flight_is : (periods : ℕ) (places : List Place) (tables : List CostTable) (flight : FlightDraft)
    → IsEnded periods places tables flight
    → IsFlight periods places tables (flight_with flight (nodes_of flight))
flight_is periods places tables flight ended =
    let valid = ended.valid in
    record {
      name = valid.name;
      forward = valid.hours.forward;
      within = valid.hours.within;
      ground_delay = valid.hours.ground_delay;
      arrival_delay = valid.hours.arrival_delay;
      origin = valid.origin;
      destination = valid.destination;
      apart = valid.apart;
      route = route_is periods places tables flight ended;
      cost = valid.cost;
    }
