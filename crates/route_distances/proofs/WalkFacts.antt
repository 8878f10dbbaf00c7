-- What a leg tells of the nodes that it joins: how far they are, and what leads to them.
use Rattle.std.proofs.Common.{◌≡◌, ◌⊎◌, ℕ, zero, suc, ◌+◌, ◌*◌, ◌<◌, ◌≤◌, ◌==◌, Bool, true, false, ◌&&◌, ◌||◌, min, List, [], ◌∷◌, length, get_or, All, Option, None, Some, if◌then◌else◌, inl, inr, refl, sym, ◌∙◌, ap, ap₂, subst, arith}
use Rattle.std.proofs.lemmas.Bool.{and_from, and_parts, cases_eq, eq-eqb, eqb-true, false_from_ne_true, or_cases, or_left, or_right}
use Rattle.std.proofs.lemmas.List.Elements.{All-contains}
use Rattle.std.proofs.lemmas.List.Folds.{Any-from_list_any, list_any_at}
use Rattle.std.specs.List.{Contains}
use Rattle.flow_types.specs.declared.flight.Leg.{Leg}
use Rattle.flow_types.specs.Limits.{most_delay}
use Rattle.flow_types.specs.Routes.{IsLeg}
use Rattle.route_distances.specs.Walks.{far_upto, least_into, leads_into, or_zero, reach_upto, reaches_of, shortest_of, sooner}

if_yes : {X : Type 0} (b : Bool) (x y : X) → b ≡ true → (if b then x else y) ≡ x
if_yes true x y is = refl
if_yes false x y is = absurd cc

if_no : {X : Type 0} (b : Bool) (x y : X) → (b ≡ true → ⊥) → (if b then x else y) ≡ y
if_no true x y not = absurd (not refl)
if_no false x y not = refl

-- later counts don't change the node's
module _ (legs : List Leg) where
  far_here : (count node : ℕ) → node ≡ count
      → far_upto legs (suc count) node ≡ or_zero (least_into (far_upto legs count) count legs)
  far_here count node is = if_yes (node == count)
      (or_zero (least_into (far_upto legs count) count legs)) (far_upto legs count node)
      (eq-eqb node count is)

  far_skip : (count node : ℕ) → (node ≡ count → ⊥)
      → far_upto legs (suc count) node ≡ far_upto legs count node
  far_skip count node other = if_no (node == count)
      (or_zero (least_into (far_upto legs count) count legs)) (far_upto legs count node)
      (λ is. other (eqb-true node count is))

  pub far_stays : (count node : ℕ) → node < count → far_upto legs count node ≡ shortest_of legs node
  far_stays zero node below = absurd (omega arith)
  far_stays (suc count) node below =
      elim (cases_eq node count) as (λ _. far_upto legs (suc count) node ≡ shortest_of legs node) [
        | inl is ↦ ap (λ n. far_upto legs (suc n) node) (sym is)
        | inr other ↦ far_skip count node other ∙ far_stays count node (omega (arith, other))
      ]

  pub far_past : (count node : ℕ) → count ≤ node → far_upto legs count node ≡ 0
  far_past zero node above = refl
  far_past (suc count) node above =
      far_skip count node (λ is. omega (arith, is)) ∙ far_past count node (omega arith)

  -- the least over the legs into the node
  pub far_is : (node : ℕ)
      → shortest_of legs node ≡ or_zero (least_into (far_upto legs node) node legs)
  far_is node = far_here node node refl

  reach_here : (from count node : ℕ) → node ≡ count
      → reach_upto legs from (suc count) node ≡ leads_into (reach_upto legs from count) from count
      legs
  reach_here from count node is = if_yes (node == count)
      (leads_into (reach_upto legs from count) from count legs) (reach_upto legs from count node)
      (eq-eqb node count is)

  reach_skip : (from count node : ℕ) → (node ≡ count → ⊥)
      → reach_upto legs from (suc count) node ≡ reach_upto legs from count node
  reach_skip from count node other = if_no (node == count)
      (leads_into (reach_upto legs from count) from count legs) (reach_upto legs from count node)
      (λ is. other (eqb-true node count is))

  pub reach_stays : (from count node : ℕ) → node < count
      → reach_upto legs from count node ≡ reaches_of legs from node
  reach_stays from zero node below = absurd (omega arith)
  reach_stays from (suc count) node below =
      elim (cases_eq node count)
      as (λ _. reach_upto legs from (suc count) node ≡ reaches_of legs from node) [
        | inl is ↦ ap (λ n. reach_upto legs from (suc n) node) (sym is)
        | inr other ↦ reach_skip from count node other
            ∙ reach_stays from count node (omega (arith, other))
      ]

  pub reach_past : (from count node : ℕ) → count ≤ node
      → reach_upto legs from count node ≡ false
  reach_past from zero node above = refl
  reach_past from (suc count) node above =
      reach_skip from count node (λ is. omega (arith, is))
      ∙ reach_past from count node (omega arith)

  pub reach_is : (from node : ℕ)
      → reaches_of legs from node ≡ leads_into (reach_upto legs from node) from node legs
  reach_is from node = reach_here from node node refl

-- both go by the values alone
pub least_same : (f g : ℕ → ℕ) (node : ℕ) (legs : List Leg) → ((n : ℕ) → f n ≡ g n)
    → least_into f node legs ≡ least_into g node legs
least_same f g node [] same = refl
least_same f g node (leg ∷ legs) same =
    ap₂ (λ time rest. if leg.to == node then Some (sooner (time + leg.least) rest) else rest)
    (same leg.from) (least_same f g node legs same)

pub leads_same : (f g : ℕ → Bool) (from node : ℕ) (legs : List Leg) → ((n : ℕ) → f n ≡ g n)
    → leads_into f from node legs ≡ leads_into g from node legs
leads_same f g from node [] same = refl
leads_same f g from node (leg ∷ legs) same =
    ap₂ (λ mark rest. ((leg.to == node) && ((leg.from == from) || mark)) || rest)
    (same leg.from) (leads_same f g from node legs same)

pub there_later : (leg other : Leg) (legs : List Leg) → Contains legs leg
    → Contains (other ∷ legs) leg
there_later leg other legs there = (suc there.0, omega (arith, there.1), there.2)

pub there_first : (leg : Leg) (legs : List Leg) → Contains (leg ∷ legs) leg
there_first leg legs = (0, omega arith, refl)

pub there_cases : (leg other : Leg) (legs : List Leg) → Contains (other ∷ legs) leg
    → (other ≡ leg) ⊎ Contains legs leg
there_cases leg other legs there = at there.0 there.1 there.2
  where
    at : (k : ℕ) → k < length (other ∷ legs) → get_or (other ∷ legs) k leg ≡ leg
        → (other ≡ leg) ⊎ Contains legs leg
    at zero within is = inl is
    at (suc k) within is = inr (k, omega (arith, within), is)

-- there is a time, and it is no later
abbrev pub IsUpTo : ℕ → Option ℕ → Type 0
IsUpTo most None = ⊥
IsUpTo most (Some time) = time ≤ most

sooner_cases : (time : ℕ) (other : Option ℕ)
    → (sooner time other ≡ time) ⊎ (other ≡ Some (sooner time other))
sooner_cases time None = inl refl
sooner_cases time (Some other) =
    elim (cases_eq (min time other) time)
    as (λ _. (min time other ≡ time) ⊎ (Some other ≡ Some (min time other))) [
      | inl is ↦ inl is
      | inr not ↦ inr (ap Some (omega (arith, not)))
    ]

sooner_le : (time : ℕ) (other : Option ℕ) → sooner time other ≤ time
sooner_le time None = omega arith
sooner_le time (Some other) = omega arith

sooner_up : (most time : ℕ) (other : Option ℕ) → IsUpTo most other → sooner time other ≤ most
sooner_up most time None up = absurd up
sooner_up most time (Some other) up = omega (arith, up)

pub zero_up : (most : ℕ) (time : Option ℕ) → IsUpTo most time → or_zero time ≤ most
zero_up most None up = absurd up
zero_up most (Some time) up = up

-- a leg into the node that comes to the time
pub record IsMet (far : ℕ → ℕ) (node : ℕ) (legs : List Leg) (time : ℕ) : Type 0 where
  pub leg : Leg
  pub there : Contains legs leg
  pub to : leg.to ≡ node
  pub is : time ≡ far leg.from + leg.least

module _ (far : ℕ → ℕ) (node : ℕ) where
  least_here : (leg : Leg) (legs : List Leg) → leg.to ≡ node
      → least_into far node (leg ∷ legs)
      ≡ Some (sooner (far leg.from + leg.least) (least_into far node legs))
  least_here leg legs is =
      if_yes (leg.to == node)
      (Some (sooner (far leg.from + leg.least) (least_into far node legs)))
      (least_into far node legs) (eq-eqb leg.to node is)

  least_skip : (leg : Leg) (legs : List Leg) → (leg.to ≡ node → ⊥)
      → least_into far node (leg ∷ legs) ≡ least_into far node legs
  least_skip leg legs other =
      if_no (leg.to == node)
      (Some (sooner (far leg.from + leg.least) (least_into far node legs)))
      (least_into far node legs) (λ is. other (eqb-true leg.to node is))

  -- no more than what any leg comes to
  pub least_le : (legs : List Leg) (leg : Leg) → Contains legs leg → leg.to ≡ node
      → IsUpTo (far leg.from + leg.least) (least_into far node legs)
  least_le [] leg there to = absurd (omega (arith, there.1))
  least_le (first ∷ legs) leg there to =
      elim (there_cases leg first legs there)
      as (λ _. IsUpTo (far leg.from + leg.least) (least_into far node (first ∷ legs))) [
        | inl same ↦
            let here = least_here first legs (ap (λ (l : Leg). l.to) same ∙ to) in
            subst (IsUpTo (far leg.from + leg.least)) (sym here)
            (omega (
              arith,
              sooner_le (far first.from + first.least) (least_into far node legs),
              ap (λ (l : Leg). far l.from + l.least) same,
            ))
        | inr later ↦
            let rest = least_le legs leg later to in
            elim (cases_eq first.to node)
            as (λ _. IsUpTo (far leg.from + leg.least) (least_into far node (first ∷ legs))) [
              | inl is ↦ subst (IsUpTo (far leg.from + leg.least)) (sym (least_here first legs is))
                  (sooner_up (far leg.from + leg.least) (far first.from + first.least)
                  (least_into far node legs) rest)
              | inr other ↦ subst (IsUpTo (far leg.from + leg.least))
                  (sym (least_skip first legs other)) rest
            ]
      ]

  -- and one comes to it
  pub least_met : (legs : List Leg) (time : ℕ) → least_into far node legs ≡ Some time
      → IsMet far node legs time
  least_met [] time is = absurd cc
  least_met (first ∷ legs) time is =
      let later : least_into far node legs ≡ Some time → IsMet far node (first ∷ legs) time =
      λ e. let met = least_met legs time e in
      record {
        leg = met.leg;
        there = there_later met.leg first legs met.there;
        to = met.to;
        is = met.is;
      } in
      elim (cases_eq first.to node) as (λ _. IsMet far node (first ∷ legs) time) [
        | inl here ↦
            let e : Some (sooner (far first.from + first.least) (least_into far node legs))
            ≡ Some time = sym (least_here first legs here) ∙ is in
            let t : sooner (far first.from + first.least) (least_into far node legs) ≡ time = cc in
            elim (sooner_cases (far first.from + first.least) (least_into far node legs))
            as (λ _. IsMet far node (first ∷ legs) time) [
              | inl own ↦ record {
                leg = first;
                there = there_first first legs;
                to = here;
                is = sym t ∙ own;
              }
              | inr rest ↦ later (rest ∙ ap Some t)
            ]
        | inr other ↦ later (sym (least_skip first legs other) ∙ is)
      ]

-- A leg into a node that is marked, or that walks start from, leads there.
abbrev leads : (ℕ → Bool) → ℕ → ℕ → Leg → Bool
leads reached from node leg = (leg.to == node) && ((leg.from == from) || reached leg.from)

pub leads_along : (reached : ℕ → Bool) (from : ℕ) (legs : List Leg) (leg : Leg)
    → Contains legs leg → (leg.from ≡ from) ⊎ (reached leg.from ≡ true)
    → leads_into reached from leg.to legs ≡ true
leads_along reached from legs leg there start =
    list_any_at (leads reached from leg.to) legs there.0 leg there.1
    (subst (λ l. leads reached from leg.to l ≡ true) (sym there.2)
    (and_from (leg.to == leg.to) ((leg.from == from) || reached leg.from)
    (eq-eqb leg.to leg.to refl) (by start)))
  where
    by : (leg.from ≡ from) ⊎ (reached leg.from ≡ true)
        → ((leg.from == from) || reached leg.from) ≡ true
    by (inl is) = or_left (leg.from == from) (reached leg.from) (eq-eqb leg.from from is)
    by (inr is) = or_right (leg.from == from) (reached leg.from) is

-- such a leg
pub record IsLed (reached : ℕ → Bool) (from node : ℕ) (legs : List Leg) : Type 0 where
  pub leg : Leg
  pub there : Contains legs leg
  pub to : leg.to ≡ node
  pub start : (leg.from ≡ from) ⊎ (reached leg.from ≡ true)

pub led_by : (reached : ℕ → Bool) (from node : ℕ) (legs : List Leg)
    → leads_into reached from node legs ≡ true → IsLed reached from node legs
led_by reached from node legs is =
    let any = Any-from_list_any (leads reached from node) legs is in
    let leg = any.1 in
    let both = and_parts (leg.to == node) ((leg.from == from) || reached leg.from) any.4 in
    record {
      leg = leg;
      there = (any.0, any.2, any.3);
      to = eqb-true leg.to node both.0;
      start = by leg (or_cases (leg.from == from) (reached leg.from) both.1);
    }
  where
    by : (leg : Leg) → ((leg.from == from) ≡ true) ⊎ (reached leg.from ≡ true)
        → (leg.from ≡ from) ⊎ (reached leg.from ≡ true)
    by leg (inl is) = inl (eqb-true leg.from from is)
    by leg (inr is) = inr is

-- What holds of networks, whose legs lead upward.
module _ (count : ℕ) (legs : List Leg) (network : All (IsLeg count) legs) where
  pub leg_is : (leg : Leg) → Contains legs leg → IsLeg count leg
  leg_is leg there = All-contains (IsLeg count) legs leg network there

  -- A node is no further than a node before it and the leg from there.
  pub far_along : (leg : Leg) → Contains legs leg
      → shortest_of legs leg.to ≤ shortest_of legs leg.from + leg.least
  far_along leg there =
      let is = leg_is leg there in
      let up = zero_up (far_upto legs leg.to leg.from + leg.least)
      (least_into (far_upto legs leg.to) leg.to legs)
      (least_le (far_upto legs leg.to) leg.to legs leg there refl) in
      omega (arith, far_is legs leg.to, up, far_stays legs leg.to leg.from is.upward)

  -- no time is longer than all legs on the way may be
  far_by : (node : ℕ) (o : Option ℕ) → least_into (far_upto legs node) node legs ≡ o
      → ((before : ℕ) → before < node → shortest_of legs before ≤ before * most_delay)
      → shortest_of legs node ≤ node * most_delay
  far_by node None none each = omega (arith, far_is legs node, ap or_zero none)
  far_by node (Some time) some each =
      let met = least_met (far_upto legs node) node legs time some in
      let is = leg_is met.leg met.there in
      let up = is.upward in
      let below : met.leg.from < node = omega (arith, up, met.to) in
      omega (
        arith,
        far_is legs node,
        ap or_zero some,
        met.is,
        far_stays legs node met.leg.from below,
        each met.leg.from below,
        is.least,
        below,
      )

  far_few : (n node : ℕ) → node < n → shortest_of legs node ≤ node * most_delay
  far_few zero node below = absurd (omega arith)
  far_few (suc n) node below =
      far_by node (least_into (far_upto legs node) node legs) refl
      (λ before less. far_few n before (omega (arith, less, below)))

  pub far_small : (node : ℕ) → shortest_of legs node ≤ node * most_delay
  far_small node = far_few (suc node) node (omega arith)

  -- nothing leads to where there is no node
  pub far_beyond : (node : ℕ) → count ≤ node → shortest_of legs node ≡ 0
  far_beyond node beyond = by (least_into (far_upto legs node) node legs) refl
    where
      by : (o : Option ℕ) → least_into (far_upto legs node) node legs ≡ o
          → shortest_of legs node ≡ 0
      by None none = far_is legs node ∙ ap or_zero none
      by (Some time) some =
          let met = least_met (far_upto legs node) node legs time some in
          let is = leg_is met.leg met.there in
          absurd (omega (arith, is.within, met.to, beyond))

  pub reach_along : (from : ℕ) (leg : Leg) → Contains legs leg
      → (leg.from ≡ from) ⊎ (reaches_of legs from leg.from ≡ true)
      → reaches_of legs from leg.to ≡ true
  reach_along from leg there start =
      reach_is legs from leg.to
      ∙ leads_along (reach_upto legs from leg.to) from legs leg there (by start)
    where
      by : (leg.from ≡ from) ⊎ (reaches_of legs from leg.from ≡ true)
          → (leg.from ≡ from) ⊎ (reach_upto legs from leg.to leg.from ≡ true)
      by (inl is) = inl is
      by (inr is) = inr (reach_stays legs from leg.to leg.from (leg_is leg there).upward ∙ is)

  reach_led : (from node : ℕ) → reaches_of legs from node ≡ true
      → IsLed (reach_upto legs from node) from node legs
  reach_led from node is =
      led_by (reach_upto legs from node) from node legs (sym (reach_is legs from node) ∙ is)

  pub reach_beyond : (from node : ℕ) → count ≤ node → reaches_of legs from node ≡ false
  reach_beyond from node beyond = false_from_ne_true (reaches_of legs from node) (λ is.
      let led = reach_led from node is in
      let own = leg_is led.leg led.there in
      omega (arith, own.within, led.to, beyond))

  -- from where there is no node nothing is led to
  reach_none_upto : (from n node : ℕ) → count ≤ from → reach_upto legs from n node ≡ true → ⊥
  reach_none_upto from zero node beyond is = absurd cc
  reach_none_upto from (suc n) node beyond is =
      elim (cases_eq node n) as (λ _. ⊥) [
        | inl here ↦
            let led = led_by (reach_upto legs from n) from n legs
            (sym (if_yes (node == n) (leads_into (reach_upto legs from n) from n legs)
            (reach_upto legs from n node) (eq-eqb node n here)) ∙ is) in
            let own = leg_is led.leg led.there in
            elim led.start as (λ _. ⊥) [
              | inl start ↦ omega (arith, own.upward, own.within, start, beyond)
              | inr start ↦ reach_none_upto from n led.leg.from beyond start
            ]
        | inr other ↦ reach_none_upto from n node beyond
            (sym (if_no (node == n) (leads_into (reach_upto legs from n) from n legs)
            (reach_upto legs from n node) (λ e. other (eqb-true node n e))) ∙ is)
      ]

  pub reach_from_none : (from node : ℕ) → count ≤ from → reaches_of legs from node ≡ false
  reach_from_none from node beyond = false_from_ne_true (reaches_of legs from node)
      (λ is. reach_none_upto from (suc node) node beyond is)
