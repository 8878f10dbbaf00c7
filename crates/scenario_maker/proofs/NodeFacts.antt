-- The nodes of a flight while its legs are read one after the other.
use Rattle.std.proofs.Common.{◌≡◌, ◌≢◌, ◌⊎◌, ℕ, suc, ◌+◌, ◌-◌, ◌<◌, ◌≤◌, ◌==◌, Bool, true, false, not, ◌&&◌, ◌||◌, max, List, [], ◌∷◌, ◌++◌, map, length, get_or, take, drop, slice_index, slice_get, All, AllPairs, IsTrue, refl, sym, ap, subst, ◌∙◌, inl, inr, arith, add-one, length-append}
use Rattle.std.proofs.Math.Seq.{get_or-append_seam, take-append_seam}
use Rattle.std.proofs.lemmas.Bool.{and_from, and_left, and_right, cases_Bool, cases_lt, eq-eqb, eqb-true, ne_eqb, not_from_false, not_from_true, or_cases, or_from, or_left, or_right}
use Rattle.std.proofs.lemmas.List.{get_or-take, length-take-le, take_all, take_more}
use Rattle.std.proofs.lemmas.List.Elements.{All-take}
use Rattle.std.proofs.lemmas.List.Folds.{list_any-append}
use Rattle.flow_types.specs.Routes.{IsLeg, IsOtherLeg, IsRoute, is_entered, is_left, is_sector}
use Rattle.flow_types.specs.declared.flight.Flight.{Flight}
use Rattle.flow_types.specs.declared.flight.Leg.{Leg}
use Rattle.flow_types.specs.declared.place.Place.{Place}
use Rattle.flow_types.proofs.PairFacts.{pairs_before}
use Rattle.scenario_reader.specs.Legs.{is_among, is_joined, with_new}
use Rattle.scenario_reader.specs.declared.flight_draft.PlaceLeg.{PlaceLeg}
use Rattle.scenario_reader.proofs.CountFacts.{no_more, nowhere}
use Rattle.scenario_reader.proofs.NetworkFacts.{both_not, clash, not_both_not}
use Rattle.scenario_reader.proofs.PlaceFacts.{All-new, among_added, among_at, among_new, apart_new}
use Rattle.scenario_maker.proofs.PlainFacts.{first_holds, others_hold}

-- the nodes between the first and the last
abbrev pub middle_of : List ℕ → List ℕ
middle_of nodes = take (length nodes - 2) (drop 1 nodes)

-- a leg between the places of its nodes
abbrev pub place_leg : List ℕ → Leg → PlaceLeg
place_leg nodes leg = record {
  from = slice_index nodes leg.from;
  to = slice_index nodes leg.to;
  least = leg.least;
}

pub middle_count : (nodes : List ℕ) → 2 ≤ length nodes → length (middle_of nodes) + 2 ≡ length nodes
middle_count [] some = absurd (omega (arith, some))
middle_count (x ∷ rest) some =
    let count = length-take-le (suc (length rest) - 2) rest (omega arith) in
    omega (arith, count, some)

middle_at : (nodes : List ℕ) (i : ℕ) → i + 2 < length nodes
    → get_or (middle_of nodes) i 0 ≡ get_or nodes (i + 1) 0
middle_at [] i within = absurd (omega (arith, within))
middle_at (x ∷ rest) i within =
    get_or-take (suc (length rest) - 2) rest i 0 (omega (arith, within))
    ∙ ap (λ (k : ℕ). get_or (x ∷ rest) k 0) (sym (add-one i))

pub shape : (nodes : List ℕ) (from to : ℕ) → 2 ≤ length nodes → slice_index nodes 0 ≡ from
    → slice_index nodes (length nodes - 1) ≡ to → from ∷ (middle_of nodes ++ to ∷ []) ≡ nodes
shape [] from to some first last = absurd (omega (arith, some))
shape (x ∷ []) from to some first last = absurd (omega (arith, some))
shape (x ∷ y ∷ rest) from to some first last =
    let ys = y ∷ rest in
    let m : suc (suc (length rest)) - 2 ≡ length rest = omega arith in
    let at : suc (suc (length rest)) - 1 ≡ suc (length rest) = omega arith in
    let end : get_or ys (length rest) 0 ≡ to =
    ap (λ (k : ℕ). get_or (x ∷ ys) k 0) (sym at) ∙ last in
    let all : take (length rest) ys ++ to ∷ [] ≡ ys =
    ap (λ (z : ℕ). take (length rest) ys ++ z ∷ []) (sym end)
    ∙ sym (take_more ys (length rest) 0 (omega arith))
    ∙ take_all (length rest + 1) ys (omega arith) in
    ap (λ (k : ℕ). from ∷ (take k ys ++ to ∷ [])) m
    ∙ ap (λ (zs : List ℕ). from ∷ zs) all ∙ ap (λ (z : ℕ). z ∷ ys) (sym first)

or_none : (b : Bool) → (b || false) ≡ b
or_none true = refl
or_none false = refl

left_push : (before : List Leg) (leg : Leg) (k : ℕ)
    → is_left (before ++ leg ∷ []) k ≡ (is_left before k || (leg.from == k))
left_push before leg k =
    list_any-append (λ (l : Leg). l.from == k) before (leg ∷ [])
    ∙ ap (λ (b : Bool). is_left before k || b) (or_none (leg.from == k))

entered_push : (before : List Leg) (leg : Leg) (k : ℕ)
    → is_entered (before ++ leg ∷ []) k ≡ (is_entered before k || (leg.to == k))
entered_push before leg k =
    list_any-append (λ (l : Leg). l.to == k) before (leg ∷ [])
    ∙ ap (λ (b : Bool). is_entered before k || b) (or_none (leg.to == k))

-- What is known after the legs `before`: the nodes below `next` were started from, in order, and
-- those that were reached are different nodes of the middle, all that a leg leads to.
pub record IsSoFar (nodes : List ℕ) (before : List Leg) (next : ℕ) (passed reached : List ℕ)
    : Type 0 where
  pub one : 1 ≤ next
  pub few : next + 1 ≤ length nodes
  pub starts : (k : ℕ) → 0 < k → k < next → is_left before k ≡ true
  pub no_start : (k : ℕ) → is_left before k ≡ true → k < next
  pub passed_is : passed ≡ take (next - 1) (middle_of nodes)
  pub apart : AllPairs (λ a b. a ≢ b) reached
  pub inside : All (λ p. IsTrue (is_among (middle_of nodes) p)) reached
  pub entered : (k : ℕ) → is_entered before k ≡ true → k + 1 < length nodes
      → is_among reached (slice_index nodes k) ≡ true

pub few_reached : (nodes : List ℕ) (before : List Leg) (next : ℕ) (passed reached : List ℕ)
    → 2 ≤ length nodes → IsSoFar nodes before next passed reached
    → length reached + 2 ≤ length nodes
few_reached nodes before next passed reached some so_far =
    let most = no_more reached (middle_of nodes) so_far.apart so_far.inside in
    omega (arith, most, middle_count nodes some)

pub none_so_far : (nodes : List ℕ) → 2 ≤ length nodes → IsSoFar nodes [] 1 [] []
none_so_far nodes some = record {
  one = omega arith;
  few = omega (arith, some);
  starts = λ k above below. absurd (omega (arith, above, below));
  no_start = λ k is. absurd cc;
  passed_is = refl;
  apart = λ i j d before within. absurd (omega arith);
  inside = λ k d within. absurd (omega arith);
  entered = λ k is within. absurd cc;
}

module _ (places : List Place) (flight : Flight)
    (route : IsRoute places flight.from flight.to flight.nodes flight.legs) where
  abbrev n : ℕ
  n = length flight.nodes

  abbrev at : ℕ → ℕ
  at k = slice_index flight.nodes k

  abbrev middle : List ℕ
  middle = middle_of flight.nodes

  pub apart_nodes : (i j : ℕ) → i < n → j < n → (i ≡ j → ⊥) → at i ≢ at j
  apart_nodes i j first second other =
      elim (cases_lt i j) [
        | inl less ↦ route.different i j 0 less second
        | inr more ↦ elim (cases_lt j i) [
          | inl less ↦ λ e. route.different j i 0 less first (sym e)
          | inr same ↦ absurd (other (omega (arith, more, same)))
        ]
      ]

  pub same_node : (i j : ℕ) → i < n → j < n → at i ≡ at j → i ≡ j
  same_node i j first second same =
      elim (cases_Bool (i == j)) [
        | inl is ↦ eqb-true i j is
        | inr other ↦ absurd (apart_nodes i j first second
            (λ e. clash (i == j) (eq-eqb i j e) other) same)
      ]

  among_middle : (k : ℕ) → 0 < k → k + 1 < n → is_among middle (at k) ≡ true
  among_middle k above below =
      let count = middle_count flight.nodes route.nodes_from in
      let back : k - 1 + 1 ≡ k = omega (arith, above) in
      let here : get_or middle (k - 1) 0 ≡ at k =
      middle_at flight.nodes (k - 1) (omega (arith, above, below))
      ∙ ap (λ (j : ℕ). get_or flight.nodes j 0) back in
      subst (λ (p : ℕ). is_among middle p ≡ true) here
      (among_at middle (k - 1) 0 (omega (arith, above, below, count)))

  is_last : (k : ℕ) → k + 1 ≡ n → at k ≡ flight.to
  is_last k last =
      let same : k ≡ n - 1 = omega (arith, last) in
      ap at same ∙ route.last

  module _ (before : List Leg) (next : ℕ) (passed reached : List ℕ)
      (so_far : IsSoFar flight.nodes before next passed reached) where
    -- a passed place is that of a node below `next`
    passed_at : (i : ℕ) → i + 1 < next → get_or passed i 0 ≡ at (i + 1)
    passed_at i less =
        let few = so_far.few in
        ap (λ (xs : List ℕ). get_or xs i 0) so_far.passed_is
        ∙ get_or-take (next - 1) middle i 0 (omega (arith, less))
        ∙ middle_at flight.nodes i (omega (arith, less, few))

    passed_count : length passed ≡ next - 1
    passed_count =
        let few = so_far.few in
        let count = middle_count flight.nodes route.nodes_from in
        ap length so_far.passed_is ∙ length-take-le (next - 1) middle (omega (arith, few, count))

    pub among_passed : (k : ℕ) → 0 < k → k < next → is_among passed (at k) ≡ true
    among_passed k above below =
        let back : k - 1 + 1 ≡ k = omega (arith, above) in
        let here : get_or passed (k - 1) 0 ≡ at k =
        passed_at (k - 1) (omega (arith, above, below)) ∙ ap at back in
        subst (λ (p : ℕ). is_among passed p ≡ true) here
        (among_at passed (k - 1) 0 (omega (arith, above, below, passed_count)))

    pub not_passed : (k : ℕ) → next ≤ k → k < n → is_among passed (at k) ≡ false
    not_passed k above below =
        nowhere passed (at k)
        (λ i within. let less : i + 1 < next = omega (arith, within, passed_count) in
        λ e. apart_nodes (i + 1) k (omega (arith, less, above, below)) below
        (λ same. absurd (omega (arith, same, less, above))) (sym (passed_at i less) ∙ e))

    module _ (leg : Leg) (is : IsLeg n leg) (order : leg.from ≤ next)
        (start : (leg.from == 0 || is_entered before leg.from) ≡ true)
        (onward : is_left before leg.to ≡ false) where
      abbrev from : ℕ
      from = at leg.from

      abbrev to : ℕ
      to = at leg.to

      pub next_below : next ≤ leg.to
      next_below =
          let up = is.upward in
          elim (cases_lt leg.to next) [
            | inl less ↦ absurd
                (clash (is_left before leg.to) (so_far.starts leg.to (omega (arith, up)) less)
                onward)
            | inr more ↦ more
          ]

      from_within : leg.from + 1 < n
      from_within = let up = is.upward in let within = is.within in omega (arith, up, within)

      -- the leg starts at the origin, or at a sector that was reached
      pub starts_at : (flight.from ≡ from)
          ⊎ ((is_among reached from ≡ true) × IsTrue (is_sector (slice_get places from)))
      starts_at =
          elim (cases_lt 0 leg.from) [
            | inl above ↦ elim (or_cases (leg.from == 0) (is_entered before leg.from) start) [
              | inl none ↦ absurd (omega (arith, above, eqb-true leg.from 0 none))
              | inr entered ↦ inr (
                so_far.entered leg.from entered from_within,
                route.sectors leg.from above from_within,
              )
            ]
            | inr none ↦ let zero_is : 0 ≡ leg.from = omega (arith, none) in
                inl (sym route.first ∙ ap at zero_is)
          ]

      -- the leg leads to the destination, or to a sector
      pub ends_at : (to ≡ flight.to) ⊎ IsTrue (is_sector (slice_get places to))
      ends_at =
          let up = is.upward in
          let within = is.within in
          elim (cases_lt (leg.to + 1) n) [
            | inl before_last ↦ inr (route.sectors leg.to (omega (arith, up)) before_last)
            | inr past ↦ inl (is_last leg.to (omega (arith, past, within)))
          ]

      pub not_origin : to ≢ flight.from
      not_origin =
          let up = is.upward in
          let within = is.within in
          λ e. apart_nodes leg.to 0 within (omega (arith, within))
          (λ same. absurd (omega (arith, same, up))) (e ∙ sym route.first)

      pub not_start : to ≢ from
      not_start =
          let up = is.upward in
          let within = is.within in
          apart_nodes leg.to leg.from within (omega (arith, up, within))
          (λ same. absurd (omega (arith, same, up)))

      pub not_back : is_among passed to ≡ false
      not_back = not_passed leg.to next_below is.within

      abbrev passes : Bool
      passes = not (from == flight.from) && not (is_among passed from)

      abbrev adds : Bool
      adds = not (to == flight.to) && not (is_among reached to)

      passed_next : with_new passes passed from ≡ take (max next (leg.from + 1) - 1) middle
      passed_next =
          let one = so_far.one in
          let few = so_far.few in
          let up = is.upward in
          let within = is.within in
          let kept : leg.from < next → passes ≡ false
          → with_new passes passed from ≡ take (max next (leg.from + 1) - 1) middle =
          λ less not_new. let same : next - 1 ≡ max next (leg.from + 1) - 1 = omega (arith, less) in
          ap (λ (b : Bool). with_new b passed from) not_new ∙ so_far.passed_is
          ∙ ap (λ (k : ℕ). take k middle) same in
          elim (cases_lt leg.from next) [
            | inl less ↦ elim (cases_lt 0 leg.from) [
              | inl above ↦ kept less (and_right (not (from == flight.from))
                  (not (is_among passed from))
                  (not_from_true (is_among passed from) (among_passed leg.from above less)))
              | inr none ↦ let zero_is : leg.from ≡ 0 = omega (arith, none) in
                  kept less (and_left (not (from == flight.from)) (not (is_among passed from))
                  (not_from_true (from == flight.from)
                  (eq-eqb from flight.from (ap at zero_is ∙ route.first))))
            ]
            | inr more ↦
                let same : leg.from ≡ next = omega (arith, more, order) in
                let new : passes ≡ true =
                and_from (not (from == flight.from)) (not (is_among passed from))
                (not_from_false (from == flight.from) (ne_eqb from flight.from
                (λ e. apart_nodes leg.from 0 (omega (arith, up, within)) (omega (arith, within))
                (λ zero_is. absurd (omega (arith, zero_is, same, one))) (e ∙ sym route.first))))
                (not_from_false (is_among passed from)
                (not_passed leg.from more (omega (arith, up, within)))) in
                let back : next - 1 + 1 ≡ leg.from = omega (arith, same, one) in
                let here : get_or middle (next - 1) 0 ≡ from =
                middle_at flight.nodes (next - 1) (omega (arith, same, up, within, one))
                ∙ ap at back in
                let count = middle_count flight.nodes route.nodes_from in
                let room : next - 1 < length middle =
                omega (arith, same, up, within, one, count) in
                let index : next - 1 + 1 ≡ max next (leg.from + 1) - 1 =
                omega (arith, same, one) in
                ap (λ (b : Bool). with_new b passed from) new
                ∙ ap (λ (xs : List ℕ). xs ++ from ∷ []) so_far.passed_is
                ∙ ap (λ (p : ℕ). take (next - 1) middle ++ p ∷ []) (sym here)
                ∙ sym (take_more middle (next - 1) 0 room)
                ∙ ap (λ (k : ℕ). take k middle) index
          ]

      added : adds ≡ true → leg.to + 1 < n
      added is_new =
          let within = is.within in
          elim (cases_lt (leg.to + 1) n) [
            | inl less ↦ less
            | inr past ↦ absurd (clash (to == flight.to)
                (eq-eqb to flight.to (is_last leg.to (omega (arith, past, within))))
                (both_not (to == flight.to) (is_among reached to) is_new).0)
          ]

      known : leg.to + 1 < n → adds ≡ false → is_among reached to ≡ true
      known less is_old =
          elim (not_both_not (to == flight.to) (is_among reached to) is_old) [
            | inl last ↦ absurd (apart_nodes leg.to (n - 1) (omega (arith, less))
                (omega (arith, less)) (λ same. absurd (omega (arith, same, less)))
                (eqb-true to flight.to last ∙ sym route.last))
            | inr there ↦ there
          ]

      pub so_far_next : IsSoFar flight.nodes (before ++ leg ∷ []) (max next (leg.from + 1))
          (with_new passes passed from) (with_new adds reached to)
      so_far_next =
          let one = so_far.one in
          let few = so_far.few in
          let up = is.upward in
          let within = is.within in
          record {
            one = omega (arith, one);
            few = omega (arith, few, up, within);
            starts = λ k above below. left_push before leg k
                ∙ elim (cases_lt k next) [
                  | inl less ↦ or_left (is_left before k) (leg.from == k)
                      (so_far.starts k above less)
                  | inr more ↦ or_right (is_left before k) (leg.from == k)
                      (eq-eqb leg.from k (omega (arith, more, below, order)))
                ];
            no_start = λ k left.
                elim (or_cases (is_left before k) (leg.from == k)
                (sym (left_push before leg k) ∙ left)) [
                  | inl old ↦ let less = so_far.no_start k old in omega (arith, less)
                  | inr same ↦ let is_from = eqb-true leg.from k same in omega (arith, is_from)
                ];
            passed_is = passed_next;
            apart = apart_new adds reached to so_far.apart
                (λ is_new. (both_not (to == flight.to) (is_among reached to) is_new).1);
            inside = All-new (λ p. IsTrue (is_among middle p)) adds reached to so_far.inside
                (λ is_new. among_middle leg.to (omega (arith, up)) (added is_new));
            entered = λ k enters less.
                elim (or_cases (is_entered before k) (leg.to == k)
                (sym (entered_push before leg k) ∙ enters)) [
                  | inl old ↦ among_new adds reached to (at k) (so_far.entered k old less)
                  | inr same ↦ let is_to = eqb-true leg.to k same in
                      subst (λ (j : ℕ). is_among (with_new adds reached to) (at j) ≡ true) is_to
                      (among_added adds reached to
                      (known (subst (λ (j : ℕ). j + 1 < n) (sym is_to) less)))
                ];
          }

  -- no leg before joins the places of this one
  pub not_joined : (before : List Leg) (leg : Leg) → All (λ l. IsOtherLeg l leg) before
      → All (IsLeg n) before → IsLeg n leg
      → is_joined (map (place_leg flight.nodes) before) (at leg.from) (at leg.to) ≡ false
  not_joined [] leg others each is = refl
  not_joined (first ∷ before) leg others each is =
      let here = first_holds (λ (l : Leg). IsOtherLeg l leg) first before others in
      let valid = first_holds (IsLeg n) first before each in
      let up = is.upward in
      let within = is.within in
      let first_up = valid.upward in
      let first_within = valid.within in
      or_from (at first.from == at leg.from && at first.to == at leg.to)
      (is_joined (map (place_leg flight.nodes) before) (at leg.from) (at leg.to))
      (elim (cases_Bool (at first.from == at leg.from)) [
        | inl same ↦ and_right (at first.from == at leg.from) (at first.to == at leg.to)
            (ne_eqb (at first.to) (at leg.to) (apart_nodes first.to leg.to first_within within
            (here (same_node first.from leg.from (omega (arith, first_up, first_within))
            (omega (arith, up, within)) (eqb-true (at first.from) (at leg.from) same)))))
        | inr other ↦ and_left (at first.from == at leg.from) (at first.to == at leg.to) other
      ])
      (not_joined before leg (others_hold (λ (l : Leg). IsOtherLeg l leg) first before others)
      (others_hold (IsLeg n) first before each) is)

  -- what is known of a leg and of those before it
  pub leg_there : (before after : List Leg) (leg : Leg) → flight.legs ≡ before ++ leg ∷ after
      → IsLeg n leg × All (IsLeg n) before × All (λ l. IsOtherLeg l leg) before
  leg_there before after leg are =
      let all : All (IsLeg n) (before ++ leg ∷ after) =
      subst (All (IsLeg n)) are route.each_leg in
      let pairs : AllPairs IsOtherLeg (before ++ leg ∷ after) =
      subst (AllPairs IsOtherLeg) are route.once in
      let front = take-append_seam before (leg ∷ after) in
      let within : length before < length (before ++ leg ∷ after) =
      omega (arith, length-append before (leg ∷ after)) in
      let seam_is : get_or (before ++ leg ∷ after) (length before) leg ≡ leg =
      get_or-append_seam before leg after leg in (
        subst (IsLeg n) seam_is (all (length before) leg within),
        subst (All (IsLeg n)) front
            (All-take (IsLeg n) (length before) (before ++ leg ∷ after) all),
        subst (All (λ (l : Leg). IsOtherLeg l leg)) front
            (pairs_before IsOtherLeg (before ++ leg ∷ after) (length before) leg within
            (sym seam_is) pairs),
      )
