-- A flight's network with one more leg.
use Rattle.std.proofs.Common.{◌≡◌, ◌≢◌, ℕ, zero, suc, ◌+◌, ◌<◌, ◌≤◌, Bool, true, false, cond, eqb, not, ◌||◌, ◌&&◌, List, [], ◌∷◌, ◌++◌, length, get_or, max, refl, sym, ap, subst, arith, ◌∙◌, ◌⊎◌, inl, inr, All, IsTrue, length-append, eq-eqb}
use Rattle.std.specs.Prelude.{nat_le, slice_get}
use Rattle.std.specs.List.{list_any}
use Rattle.std.proofs.lemmas.Bool.{cases_Bool, eqb-true, false≢true, le-leb, leb-false, or_cases, or_parts}
use Rattle.std.proofs.lemmas.List.Elements.{All-push}
use Rattle.std.proofs.lemmas.List.Folds.{list_any-append}
use Rattle.std.proofs.lemmas.List.Quantifiers.{all_pairs_push}
use Rattle.std.proofs.lemmas.List.{map-append}
use Rattle.flow_types.specs.Routes.{is_sector}
use Rattle.flow_types.specs.declared.place.Place.{Place}
use Rattle.scenario_reader.specs.Finish.{node_of}
use Rattle.scenario_reader.specs.Legs.{adds_node, is_among, is_joined, with_leg, with_new, passes_new}
use Rattle.scenario_reader.specs.Validity.{ends_leg, in_order, next_start, starts_leg, starts_of, visited, IsPlaceLeg, IsNetwork, IsNewLeg, IsOtherPlaceLeg}
use Rattle.scenario_reader.specs.declared.flight_draft.FlightDraft.{FlightDraft}
use Rattle.scenario_reader.specs.declared.flight_draft.PlaceLeg.{PlaceLeg}
use Rattle.scenario_reader.proofs.PlaceFacts.{All-new, among_added, among_new, apart_new, holds_among, length_new, node_new, node_not_before, node_outside, node_within, not_among_new}

pub clash : (b : Bool) → b ≡ true → b ≡ false → ⊥
clash b holds fails = let one : true ≡ false = sym holds ∙ fails in absurd (false≢true (sym one))

pub both_not : (a b : Bool) → (not a && not b) ≡ true → (a ≡ false) × (b ≡ false)
both_not true b h = absurd cc
both_not false true h = absurd cc
both_not false false h = (refl, refl)

pub not_both_not : (a b : Bool) → (not a && not b) ≡ false → (a ≡ true) ⊎ (b ≡ true)
not_both_not true b h = inl refl
not_both_not false true h = inr refl
not_both_not false false h = absurd cc

pub left_or : (a b : Bool) → a ≡ true → (a || b) ≡ true
left_or a b h = rw h refl

pub right_or : (a b : Bool) → b ≡ true → (a || b) ≡ true
right_or true b h = refl
right_or false b h = h

-- two places differ either way round
differ_back : (a b : ℕ) → eqb a b ≡ false → eqb b a ≡ false
differ_back a b h =
    elim (cases_Bool (eqb b a)) [
      | inl e ↦ let same = eqb-true b a e in let there = eq-eqb a b (sym same) in absurd cc
      | inr e ↦ e
    ]

same_back : (a b : ℕ) → eqb a b ≡ true → eqb b a ≡ true
same_back a b h = eq-eqb b a (sym (eqb-true a b h))

cons_new : (b : Bool) (first : ℕ) (places : List ℕ) (new : ℕ)
    → with_new b (first ∷ places) new ≡ first ∷ with_new b places new
cons_new true first places new = refl
cons_new false first places new = refl

-- a leg stays one when places are added
leg_stays : (b c : Bool) (visits reached : List ℕ) (start end to : ℕ) (leg : PlaceLeg)
    → IsPlaceLeg visits to reached leg
    → IsPlaceLeg (with_new b visits start) to (with_new c reached end) leg
leg_stays b c visits reached start end to leg joins = record {
  start = among_new b visits start leg.from joins.start;
  end = elim (or_cases (eqb leg.to to) (is_among reached leg.to) joins.end) [
    | inl e ↦ left_or _ _ e
    | inr e ↦ right_or _ _ (among_new c reached end leg.to e)
  ];
  upward =
      let stays = node_new b visits start leg.from joins.start in
      let before = joins.upward in
      elim (cases_Bool (is_among visits leg.to)) [
        | inl e ↦ let also = node_new b visits start leg.to e in omega arith
        | inr e ↦ let last = node_outside visits leg.to e in
            let after = node_not_before b visits start leg.to e in omega arith
      ];
  least = joins.least;
}

-- the starts of legs stay where they are
pub starts_stay : (b : Bool) (visits reached : List ℕ) (start to : ℕ) (legs : List PlaceLeg)
    → All (IsPlaceLeg visits to reached) legs
    → starts_of (with_new b visits start) legs ≡ starts_of visits legs
starts_stay b visits reached start to [] all = refl
starts_stay b visits reached start to (leg ∷ legs) all =
    rw (
      node_new b visits start leg.from ((all 0 leg (omega arith)).start),
      starts_stay b visits reached start to legs (λ k d h. all (suc k) d (omega arith)),
    ) refl

pub in_order-push : (next : ℕ) (starts : List ℕ) (start : ℕ) → in_order next starts ≡ true
    → start ≤ next_start next starts
    → in_order next (starts ++ start ∷ []) ≡ true
in_order-push next [] start h le = rw (le-leb start next le) refl
in_order-push next (first ∷ starts) start h le =
    by (nat_le first next) h (λ e. in_order-push (max next (first + 1)) starts start e le)
  where
    by : (b : Bool) → (b && in_order (max next (first + 1)) starts) ≡ true
        → (in_order (max next (first + 1)) starts ≡ true
        → in_order (max next (first + 1)) (starts ++ start ∷ []) ≡ true)
        → (b && in_order (max next (first + 1)) (starts ++ start ∷ [])) ≡ true
    by true h more = more h
    by false h more = absurd cc

pub next_start-push : (next : ℕ) (starts : List ℕ) (start : ℕ)
    → next_start next (starts ++ start ∷ []) ≡ max (next_start next starts) (start + 1)
next_start-push next [] start = refl
next_start-push next (first ∷ starts) start = next_start-push (max next (first + 1)) starts start

any_front : (p : PlaceLeg → Bool) (legs : List PlaceLeg) (leg : PlaceLeg) → list_any p legs ≡ true
    → list_any p (legs ++ leg ∷ []) ≡ true
any_front p legs leg h = list_any-append p legs (leg ∷ []) ∙ left_or _ _ h

any_last : (p : PlaceLeg → Bool) (legs : List PlaceLeg) (leg : PlaceLeg) → p leg ≡ true
    → list_any p (legs ++ leg ∷ []) ≡ true
any_last p legs leg h = list_any-append p legs (leg ∷ []) ∙ right_or _ _ (left_or _ _ h)

pub any_some : (p : PlaceLeg → Bool) (legs : List PlaceLeg) → list_any p legs ≡ true
    → 0 < length legs
any_some p [] h = absurd cc
any_some p (leg ∷ legs) h = omega arith

-- no leg joins the two places
apart_at : (legs : List PlaceLeg) (from to : ℕ) (k : ℕ) (d : PlaceLeg)
    → is_joined legs from to ≡ false → k < length legs
    → (get_or legs k d).from ≡ from → (get_or legs k d).to ≢ to
apart_at [] from to k d none h = absurd (omega arith)
apart_at (leg ∷ legs) from to zero d none h =
    λ f t. first (eq-eqb leg.from from f) (eq-eqb leg.to to t) (or_parts _ _ none).0
  where
    first : eqb leg.from from ≡ true → eqb leg.to to ≡ true
        → (eqb leg.from from && eqb leg.to to) ≡ false → ⊥
    first f t e = let no : true ≡ false = rw (f, t) at e in cc
apart_at (leg ∷ legs) from to (suc k) d none h =
    apart_at legs from to k d (or_parts _ _ none).1 (omega arith)

-- whether a leg starts from a place that wasn't visited
abbrev pub adds_visit : FlightDraft → PlaceLeg → Bool
adds_visit flight leg = passes_new flight leg.from

-- what is known of the places of a new leg
pub record IsLegKnown (places : List Place) (flight : FlightDraft) (leg : PlaceLeg) : Type 0 where
  pub visited_from : adds_visit flight leg ≡ false → is_among (visited flight) leg.from ≡ true
  pub new_from : adds_visit flight leg ≡ true → is_among flight.passed leg.from ≡ false
  pub reached_from : adds_visit flight leg ≡ true → is_among flight.reached leg.from ≡ true
  pub fresh_to : is_among (visited flight) leg.to ≡ false
  pub other_to : eqb leg.from leg.to ≡ false
  pub sector_to : adds_node flight leg.to ≡ true → IsTrue (is_sector (slice_get places leg.to))
  pub known_to : adds_node flight leg.to ≡ false → (eqb leg.to flight.to ≡ true)
      ⊎ (is_among flight.reached leg.to ≡ true)
  pub room_to : adds_node flight leg.to ≡ true → length flight.reached < 30

room_left : (n total : ℕ) → (nat_le 32 (n + 2) || nat_le 20000 total) ≡ false → n < 30
room_left n total h = let few = leb-false 32 (n + 2) (or_parts _ _ h).0 in omega arith

pub leg_known : (places : List Place) (total : ℕ) (flight : FlightDraft) (leg : PlaceLeg)
    → IsNewLeg places total flight leg → IsLegKnown places flight leg
leg_known places total flight leg new =
    let back = or_parts (eqb leg.to flight.from || eqb leg.to leg.from)
    (is_among flight.passed leg.to) new.onward in
    let ends = or_parts (eqb leg.to flight.from) (eqb leg.to leg.from) back.0 in
    record {
      visited_from = λ e. elim (not_both_not _ _ e) [
        | inl same ↦ left_or _ _ (same_back leg.from flight.from same)
        | inr passed ↦ right_or _ _ passed
      ];
      new_from = λ e. (both_not _ _ e).1;
      reached_from = λ e. elim (or_cases _ _ new.start) [
        | inl same ↦ absurd (clash _ same (both_not _ _ e).0)
        | inr reached ↦ reached
      ];
      fresh_to = rw (differ_back leg.to flight.from ends.0) back.1;
      other_to = differ_back leg.to leg.from ends.1;
      sector_to = λ e. elim (or_cases _ _ new.own) [
        | inl one ↦ elim (or_cases _ _ one) [
          | inl sector ↦ sector
          | inr origin ↦ absurd (clash _ origin ends.0)
        ]
        | inr destination ↦ absurd (clash _ destination (both_not _ _ e).0)
      ];
      known_to = λ e. not_both_not _ _ e;
      room_to = λ e. room_left (length flight.reached) total (rw e at new.few);
    }

-- where a leg starts from a place, there is a leg
has_leg : (places : List Place) (flight : FlightDraft) → IsNetwork places flight → (place : ℕ)
    → is_among flight.reached place ≡ true → 0 < length flight.legs
has_leg places flight network place h =
    any_some (λ leg. eqb leg.to place) flight.legs
    (holds_among (λ p. IsTrue (ends_leg flight.legs p)) flight.reached place network.entered h)

begins_more : (places : List Place) (total : ℕ) (flight : FlightDraft) (leg : PlaceLeg)
    → IsNetwork places flight → IsNewLeg places total flight leg
    → IsTrue (starts_leg (flight.legs ++ leg ∷ []) flight.from)
begins_more places total flight leg network new =
    elim (or_cases _ _ new.start) [
      | inl same ↦ any_last (λ l. eqb l.from flight.from) flight.legs leg same
      | inr reached ↦ any_front (λ l. eqb l.from flight.from) flight.legs leg
          (network.begins (has_leg places flight network leg.from reached))
    ]

-- the new leg is one
leg_new : (places : List Place) (flight : FlightDraft) (leg : PlaceLeg) (b c : Bool)
    → adds_visit flight leg ≡ b → adds_node flight leg.to ≡ c
    → leg.least ≤ 511 → IsLegKnown places flight leg
    → IsPlaceLeg (with_new b (visited flight) leg.from) flight.to
    (with_new c flight.reached leg.to) leg
leg_new places flight leg b c be ce least known =
    let starts = among_added b (visited flight) leg.from (λ e. known.visited_from (be ∙ e)) in
    record {
      start = starts;
      end = by_end c ce;
      upward =
          let within = node_within (with_new b (visited flight) leg.from) leg.from starts in
          let none = not_among_new b
          (visited flight) leg.from leg.to known.fresh_to known.other_to in
          let after = node_outside (with_new b (visited flight) leg.from) leg.to none in
          omega arith;
      least = least;
    }
  where
    by_end : (c : Bool) → adds_node flight leg.to ≡ c
        → IsTrue (eqb leg.to flight.to || is_among (with_new c flight.reached leg.to) leg.to)
    by_end true e = right_or _ _ (among_added true flight.reached leg.to (λ f. absurd cc))
    by_end false e = elim (known.known_to e) [
      | inl same ↦ left_or _ _ same
      | inr there ↦ right_or _ _ there
    ]

last_start : (next start visits passed : ℕ) → visits ≡ suc passed + 1 → start < visits
    → next ≡ passed + 1 → suc passed ≤ start
    → max next (start + 1) ≡ visits
last_start next start visits passed long within is last = omega arith

-- the starts with that of the new leg
order_new : (places : List Place) (flight : FlightDraft) (leg : PlaceLeg) (b : Bool)
    → adds_visit flight leg ≡ b → IsNetwork places flight → IsLegKnown places flight leg
    → IsTrue (in_order 1 (starts_of (with_new b (visited flight) leg.from)
    (flight.legs ++ leg ∷ [])))
    × (next_start 1 (starts_of (with_new b (visited flight) leg.from) (flight.legs ++ leg ∷ []))
    ≡ length (with_new b (visited flight) leg.from))
order_new places flight leg b be network known =
    let visits : List ℕ = with_new b (visited flight) leg.from in
    let start : ℕ = node_of visits leg.from in
    let same : starts_of visits (flight.legs ++ leg ∷ []) ≡ starts_of (visited flight) flight.legs
    ++ start ∷ [] =
    map-append (λ (l : PlaceLeg). node_of visits l.from) flight.legs (leg ∷ [])
    ∙ ap (λ (s : List ℕ). s ++ start ∷ [])
    (starts_stay b (visited flight) flight.reached leg.from flight.to flight.legs network.legs)
    in
    let added = among_added b (visited flight) leg.from (λ e. known.visited_from (be ∙ e)) in
    let within : start < length visits = node_within visits leg.from added in
    let long : length visits ≡ length (visited flight) + cond b 1 0 =
    length_new b (visited flight) leg.from in
    let next : next_start 1 (starts_of (visited flight) flight.legs) ≡ length flight.passed + 1 =
    network.next in
    let upto : start ≤ next_start 1 (starts_of (visited flight) flight.legs) =
    at_most b start long within next in (
      rw same (in_order-push 1 (starts_of (visited flight) flight.legs) start network.order upto),
      rw (same, next_start-push 1 (starts_of (visited flight) flight.legs) start)
          (at_end b be long within next),
    )
  where
    at_most : (b : Bool) (start : ℕ)
        → length (with_new b (visited flight) leg.from) ≡ length (visited flight) + cond b 1 0
        → start < length (with_new b (visited flight) leg.from)
        → next_start 1 (starts_of (visited flight) flight.legs) ≡ length flight.passed + 1
        → start ≤ next_start 1 (starts_of (visited flight) flight.legs)
    at_most true start long within next = omega arith
    at_most false start long within next = omega arith

    at_end : (b : Bool) → adds_visit flight leg ≡ b
        → length (with_new b (visited flight) leg.from) ≡ length (visited flight) + cond b 1 0
        → node_of (with_new b (visited flight) leg.from) leg.from
        < length (with_new b (visited flight) leg.from)
        → next_start 1 (starts_of (visited flight) flight.legs) ≡ length flight.passed + 1
        → max (next_start 1 (starts_of (visited flight) flight.legs))
        (node_of (with_new b (visited flight) leg.from) leg.from + 1)
        ≡ length (with_new b (visited flight) leg.from)
    at_end true be long within next =
        let other = both_not (eqb leg.from flight.from) (is_among flight.passed leg.from) be in
        let none : is_among (visited flight) leg.from ≡ false =
        rw (differ_back leg.from flight.from other.0) other.1 in
        let last = node_not_before true (visited flight) leg.from leg.from none in
        last_start (next_start 1 (starts_of (visited flight) flight.legs))
        (node_of (with_new true (visited flight) leg.from) leg.from)
        (length (with_new true (visited flight) leg.from))
        (length flight.passed) long within next last
    at_end false be long within next = omega arith

-- every rule of a network holds with the new leg
pub network_grows : (places : List Place) (total : ℕ) (flight : FlightDraft) (leg : PlaceLeg)
    → IsNetwork places flight → IsNewLeg places total flight leg
    → IsNetwork places (with_leg flight leg)
network_grows places total flight leg network new =
    let known = leg_known places total flight leg new in
    let b : Bool = adds_visit flight leg in
    let c : Bool = adds_node flight leg.to in
    let visits = cons_new b flight.from flight.passed leg.from in
    let order = order_new places flight leg b refl network known in
    let joins = leg_new places flight leg b c refl refl new.least known in
    let legs = All-push (IsPlaceLeg (with_new b (visited flight) leg.from) flight.to
    (with_new c flight.reached leg.to)) flight.legs leg
    (λ k d h. leg_stays b c (visited flight) flight.reached leg.from leg.to flight.to
    (get_or flight.legs k d) (network.legs k d h)) joins in
    record {
      legs_few = let room = new.room in let one = length-append flight.legs (leg ∷ []) in
          omega arith;
      reached_few = reached_few c refl known;
      sectors = All-new (λ p. IsTrue (is_sector (slice_get places p))) c flight.reached leg.to
          network.sectors known.sector_to;
      passed_once = apart_new b flight.passed leg.from network.passed_once known.new_from;
      passed_reached = All-new
          (λ p. IsTrue (is_among (with_new c flight.reached leg.to) p)) b flight.passed leg.from
          (λ k d h. among_new c flight.reached leg.to (get_or flight.passed k d)
          (network.passed_reached k d h))
          (λ e. among_new c flight.reached leg.to leg.from (known.reached_from e));
      entered = All-new (λ p. IsTrue (ends_leg (flight.legs ++ leg ∷ []) p)) c flight.reached leg.to
          (λ k d h. any_front (λ l. eqb l.to (get_or flight.reached k d)) flight.legs leg
          (network.entered k d h))
          (λ e. any_last (λ l. eqb l.to leg.to) flight.legs leg (eq-eqb leg.to leg.to refl));
      left = All-new (λ p. IsTrue (starts_leg (flight.legs ++ leg ∷ []) p)) b flight.passed leg.from
          (λ k d h. any_front (λ l. eqb l.from (get_or flight.passed k d)) flight.legs leg
          (network.left k d h))
          (λ e. any_last (λ l. eqb l.from leg.from) flight.legs leg
          (eq-eqb leg.from leg.from refl));
      begins = λ some. begins_more places total flight leg network new;
      legs = subst (λ (v : List ℕ). All (IsPlaceLeg v flight.to (with_new c flight.reached leg.to))
          (flight.legs ++ leg ∷ [])) visits legs;
      once = all_pairs_push IsOtherPlaceLeg flight.legs leg network.once
          (λ k d h. apart_at flight.legs leg.from leg.to k d new.once h);
      order = subst (λ (v : List ℕ). IsTrue (in_order 1 (starts_of v (flight.legs ++ leg ∷ []))))
          visits order.0;
      next = subst (λ (v : List ℕ). next_start 1 (starts_of v (flight.legs ++ leg ∷ []))
          ≡ length v) visits order.1 ∙ plus_one (length (with_new b flight.passed leg.from));
    }
  where
    plus_one : (n : ℕ) → suc n ≡ n + 1
    plus_one n = omega arith

    reached_few : (c : Bool) → adds_node flight leg.to ≡ c → IsLegKnown places flight leg
        → length (with_new c flight.reached leg.to) ≤ 30
    reached_few true e known = let room = known.room_to e in
        let one = length-append flight.reached (leg.to ∷ []) in omega arith
    reached_few false e known = network.reached_few
