-- Times that are set one after the other.
use Rattle.std.proofs.Common.{◌≡◌, ℕ, ◌+◌, ◌*◌, ◌^◌, ◌<◌, ◌≤◌, ◌==◌, List, [], ◌∷◌, ◌++◌, length, get_or, take, Bool, true, false, if◌then◌else◌, All, Option, None, Some, slice_index, inl, inr, refl, sym, ◌∙◌, ap, arith}
use Rattle.std.proofs.lemmas.Bool.{cases_lt}
use Rattle.std.proofs.lemmas.List.{get_or_past, take_more}
use Rattle.std.proofs.lemmas.List.Elements.{All-weaker}
use Rattle.flow_types.specs.declared.flight.Leg.{Leg}
use Rattle.flow_types.specs.Limits.{most_delay, most_nodes}
use Rattle.flow_types.specs.Routes.{IsLeg}
use Rattle.route_distances.specs.Walks.{far_upto, least_into, least_with, or_zero, shortest_of, sooner}
use Rattle.route_distances.specs.Ways.{AreShortest}
use Rattle.route_distances.proofs.WalkFacts.{far_is, far_past, far_small, far_stays, least_same}

-- those of later nodes are at 0
pub times_upto : (legs : List Leg) (count : ℕ) (times : List ℕ) → AreShortest legs count times
    → (node : ℕ) → slice_index times node ≡ far_upto legs count node
times_upto legs count times are node =
    elim (cases_lt node count) as (λ _. slice_index times node ≡ far_upto legs count node) [
      | inl less ↦ are.each node less ∙ sym (far_stays legs count node less)
      | inr more ↦ past times node (omega (arith, more, are.long))
          ∙ sym (far_past legs count node more)
    ]
  where
    past : (xs : List ℕ) (n : ℕ) → length xs ≤ n → slice_index xs n ≡ 0
    past xs n beyond = get_or_past xs n 0 beyond

-- What a loop over the legs finds: one leg more.
sooner_swap : (a b : ℕ) (o : Option ℕ) → sooner a (Some (sooner b o)) ≡ sooner b (Some (sooner a o))
sooner_swap a b None = omega arith
sooner_swap a b (Some c) = omega arith

with_swap : (far : ℕ → ℕ) (node : ℕ) (a b : Leg) (o : Option ℕ)
    → least_with far node (least_with far node o b) a
    ≡ least_with far node (least_with far node o a) b
with_swap far node a b o = by (a.to == node) (b.to == node)
  where
    by : (c d : Bool) → (if c then Some (sooner (far a.from + a.least) (if d then Some
        (sooner (far b.from + b.least) o) else o)) else (if d then Some
        (sooner (far b.from + b.least) o) else o))
        ≡ (if d then Some (sooner (far b.from + b.least) (if c then Some
        (sooner (far a.from + a.least) o) else o)) else (if c then Some
        (sooner (far a.from + a.least) o) else o))
    by true true = ap Some (sooner_swap (far a.from + a.least) (far b.from + b.least) o)
    by true false = refl
    by false true = refl
    by false false = refl

least_last : (far : ℕ → ℕ) (node : ℕ) (legs : List Leg) (leg : Leg)
    → least_into far node (legs ++ leg ∷ []) ≡ least_with far node (least_into far node legs) leg
least_last far node [] leg = refl
least_last far node (first ∷ legs) leg =
    ap (λ o. least_with far node o first) (least_last far node legs leg)
    ∙ with_swap far node first leg (least_into far node legs)

pub least_more : (far : ℕ → ℕ) (node : ℕ) (legs : List Leg) (i : ℕ) (d : Leg) → i < length legs
    → least_into far node (take (i + 1) legs)
    ≡ least_with far node (least_into far node (take i legs)) (get_or legs i d)
least_more far node legs i d within =
    ap (least_into far node) (take_more legs i d within)
    ∙ least_last far node (take i legs) (get_or legs i d)

pub legs_within : (nodes : ℕ) (legs : List Leg) → All (IsLeg nodes) legs → nodes ≤ most_nodes
    → All (IsLeg most_nodes) legs
legs_within nodes legs network few = All-weaker (IsLeg nodes) (IsLeg most_nodes)
    (λ leg is. record {
      upward = is.upward;
      within = let inside = is.within in omega (arith, inside, few);
      least = is.least;
    }) legs network

-- no time of a leg's end is too long
pub time_fits : (legs : List Leg) (node : ℕ) (times : List ℕ) (i : ℕ) (d : Leg)
    → AreShortest legs node times → All (IsLeg most_nodes) legs → i < length legs
    → slice_index times (get_or legs i d).from + (get_or legs i d).least < 2 ^ 16
time_fits legs node times i d are network within =
    let leg = get_or legs i d in
    let is = network i d within in
    let up = is.upward in
    let inside = is.within in
    let least = is.least in
    omega (arith, up, inside, least, before leg.from)
  where
    before : (n : ℕ) → slice_index times n ≤ n * most_delay
    before n = elim (cases_lt n node) as (λ _. slice_index times n ≤ n * most_delay) [
      | inl less ↦ omega (arith, are.each n less, far_small most_nodes legs network n)
      | inr more ↦ omega (arith, times_upto legs node times are n, far_past legs node n more)
    ]

pub time_is : (legs : List Leg) (node : ℕ) (times : List ℕ) → AreShortest legs node times
    → shortest_of legs node ≡ or_zero (least_into (slice_index times) node legs)
time_is legs node times are =
    far_is legs node
    ∙ ap or_zero (sym (least_same (slice_index times) (far_upto legs node) node legs
    (times_upto legs node times are)))
