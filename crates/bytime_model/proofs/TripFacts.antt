-- What a trip has entered, by what it has entered before and after.
use Rattle.std.proofs.Common.{◌≡◌, ◌≢◌, ℕ, ◌+◌, ◌-◌, ◌<◌, ◌≤◌, ◌==◌, Bool, true, false, ◌&&◌, nat_le, nat_lt, min, List, [], ◌∷◌, length, All, if◌then◌else◌, inl, inr, refl, sym, ◌∙◌, ap, arith}
use Rattle.std.proofs.lemmas.Bool.{cases_eq, cases_lt, eq-eqb}
use Rattle.std.proofs.lemmas.Bool.Decides.{nat_tests}
use Rattle.std.proofs.lemmas.List.Elements.{All-contains}
use Rattle.std.specs.List.{Any}
use Rattle.flow_types.specs.declared.flight.Flight.{Flight}
use Rattle.flow_types.specs.declared.flight.Leg.{Leg}
use Rattle.flow_types.specs.declared.plan.Stop.{Stop}
use Rattle.flow_types.specs.Counts.{arrives_from, one_if, stays_from}
use Rattle.flow_types.specs.Routes.{IsLeg}
use Rattle.flow_types.specs.Trips.{IsLegBetween, IsOnward, arrival_from, latest_of, place_at}
use Rattle.time_windows.proofs.AnyFacts.{any_cases, any_map, any_none}
use Rattle.bytime_model.specs.Values.{by_of}
use Rattle.bytime_model.proofs.EntryFacts.{IsBy, IsNotBy, by_cases, by_few, by_grows, by_here, by_skip}

-- the value so many periods before, nothing before the day
abbrev pub before : (ℕ → ℕ) → ℕ → ℕ → ℕ
before value time wait = if nat_le wait time then value (time - wait) else 0

-- over the legs from a node, what is entered by them
abbrev pub on_sum : (ℕ → ℕ) → ℕ → List Leg → ℕ
on_sum value node [] = 0
on_sum value node (leg ∷ legs) = (if leg.from == node then value leg.to else 0) + on_sum value node
    legs

-- over the legs to a node, what was entered before them in time
abbrev pub back_sum : (ℕ → ℕ → ℕ) → ℕ → ℕ → List Leg → ℕ
back_sum value node time [] = 0
back_sum value node time (leg ∷ legs) =
    (if leg.to == node then before (value leg.from) time leg.least else 0)
    + back_sum value node time legs

if_le : (b : Bool) (m n : ℕ) → m ≤ n → (if b then m else 0) ≤ (if b then n else 0)
if_le true m n le = le
if_le false m n le = omega arith

pub before_le : (v w : ℕ → ℕ) (time wait : ℕ) → ((t : ℕ) → v t ≤ w t)
    → before v time wait ≤ before w time wait
before_le v w time wait le =
    if_le (nat_le wait time) (v (time - wait)) (w (time - wait)) (le (time - wait))

pub before_in : (value : ℕ → ℕ) (time wait : ℕ) → wait ≤ time
    → before value time wait ≡ value (time - wait)
before_in value time wait le =
    let e : nat_le wait time ≡ true = grind (arith, nat_tests) in
    rw e refl

pub on_le : (v w : ℕ → ℕ) (node : ℕ) (legs : List Leg) → ((m : ℕ) → v m ≤ w m)
    → on_sum v node legs ≤ on_sum w node legs
on_le v w node [] le = omega arith
on_le v w node (leg ∷ legs) le =
    omega (
      arith,
      if_le (leg.from == node) (v leg.to) (w leg.to) (le leg.to),
      on_le v w node legs
          le,
    )

pub back_le : (v w : ℕ → ℕ → ℕ) (node time : ℕ) (legs : List Leg) → ((m t : ℕ) → v m t ≤ w m t)
    → back_sum v node time legs ≤ back_sum w node time legs
back_le v w node time [] le = omega arith
back_le v w node time (leg ∷ legs) le =
    omega (
      arith,
      if_le (leg.to == node) (before (v leg.from) time leg.least)
          (before (w leg.from) time leg.least)
          (before_le (v leg.from) (w leg.from) time leg.least (le leg.from)),
      back_le v w node time legs le,
    )

if_yes : (b : Bool) (m : ℕ) → b ≡ true → (if b then m else 0) ≡ m
if_yes true m is = refl
if_yes false m is = absurd cc

on_found : (value : ℕ → ℕ) (node m : ℕ) (legs : List Leg)
    → Any (λ leg. (leg.from ≡ node) × (leg.to ≡ m)) legs → value m ≤ on_sum value node legs
on_found value node m [] any = absurd (any_none (λ leg. (leg.from ≡ node) × (leg.to ≡ m)) any)
on_found value node m (leg ∷ legs) any =
    elim (any_cases (λ leg. (leg.from ≡ node) × (leg.to ≡ m)) leg legs any)
    as (λ _. value m ≤ on_sum value node (leg ∷ legs)) [
      | inl here ↦ omega (
        arith,
        if_yes (leg.from == node) (value leg.to) (eq-eqb leg.from node here.0),
        ap value here.1,
      )
      | inr later ↦ omega (arith, on_found value node m legs later)
    ]

-- a leg to the node by which it was left in time
abbrev WasBefore : (ℕ → ℕ → ℕ) → ℕ → ℕ → Leg → Type 0
WasBefore value node time leg =
    (leg.to ≡ node) × (leg.least ≤ time) × (1 ≤ value leg.from (time - leg.least))

back_found : (value : ℕ → ℕ → ℕ) (node time : ℕ) (legs : List Leg)
    → Any (WasBefore value node time) legs → 1 ≤ back_sum value node time legs
back_found value node time [] any = absurd (any_none (WasBefore value node time) any)
back_found value node time (leg ∷ legs) any =
    elim (any_cases (WasBefore value node time) leg legs any)
    as (λ _. 1 ≤ back_sum value node time (leg ∷ legs)) [
      | inl here ↦ omega (
        arith,
        if_yes (leg.to == node) (before (value leg.from) time leg.least)
            (eq-eqb leg.to node here.0),
        before_in (value leg.from) time leg.least here.1,
        here.2,
      )
      | inr later ↦ omega (arith, back_found value node time legs later)
    ]

-- a stop in the place until the next one is a stay
stay_here : (flight : Flight) (stop next : Stop) (node time : ℕ) → IsBy node time stop
    → time < next.time
    → one_if ((place_at flight stop.node == place_at flight node) && nat_le stop.time time
    && nat_lt time next.time) ≡ 1
stay_here flight stop next node time is later =
    let early = is.early in
    let here : (place_at flight stop.node == place_at flight node) ≡ true =
    eq-eqb (place_at flight stop.node) (place_at flight node) (ap (place_at flight) is.there) in
    let since : nat_le stop.time time ≡ true = grind (arith, nat_tests) in
    let yet : nat_lt time next.time ≡ true = grind (arith, nat_tests) in
    rw (here, since, yet) refl

pub not_by : (node time : ℕ) (stop : Stop) → (stop.node ≡ node → stop.time ≤ time → ⊥)
    → IsNotBy node time stop
not_by node time stop apart = elim (by_cases node time stop) as (λ _. IsNotBy node time stop) [
  | inl is ↦ absurd (apart is.there is.early)
  | inr not ↦ not
]

pub is_by_at : (stop : Stop) (node time : ℕ) → stop.node ≡ node → stop.time ≤ time
    → IsBy node time stop
is_by_at stop node time there early =
    elim (by_cases node time stop) as (λ _. IsBy node time stop) [
      | inl is ↦ is
      | inr not ↦ absurd (not.apart there early)
    ]

is_by_self : (stop : Stop) (time : ℕ) → stop.time ≤ time → IsBy stop.node time stop
is_by_self stop time early = is_by_at stop stop.node time refl early

latest_within : (periods : ℕ) (flight : Flight) (node : ℕ)
    → latest_of periods flight node ≤ periods - 1
latest_within periods flight node = by (node == 0) (node + 1 == length flight.nodes)
  where
    by : (a b : Bool) → (if a then min (flight.sd + flight.mg) (periods - 1)
        else (if b then min (flight.sa + flight.md) (periods - 1) else periods - 1)) ≤ periods - 1
    by true b = omega arith
    by false true = omega arith
    by false false = omega arith

-- a step leads from a node that isn't the last to one that isn't the first
pub step_up : (flight : Flight) (stop next : Stop) → All (IsLeg (length flight.nodes)) flight.legs
    → Any (IsLegBetween stop next) flight.legs
    → (0 < next.node) × (stop.node + 1 < length flight.nodes)
step_up flight stop next legs any =
    let leg = any.1 in
    let is = All-contains (IsLeg (length flight.nodes)) flight.legs leg legs
    (any.0, any.2, any.3) in
    let between = any.4 in (
      omega (arith, is.upward, between.to),
      omega (arith, is.upward, is.within, between.from),
    )

was_before : (stop next : Stop) (rest : List Stop) (node time : ℕ) (leg : Leg)
    → IsBy node time next → IsLegBetween stop next leg
    → WasBefore (λ m t. by_of m t (stop ∷ next ∷ rest)) node time leg
was_before stop next rest node time leg is between =
    let early = is.early in
    let least = between.least in (
      between.to ∙ is.there,
      omega (arith, early, least),
      omega (
        arith,
        by_here leg.from (time - leg.least) stop (next ∷ rest)
            (is_by_at stop leg.from (time - leg.least) (sym between.from) (omega (
              arith,
              early,
              least,
            ))),
      ),
    )

-- a step along a leg from the node to that of the next stop
step_on : (legs : List Leg) (stop next : Stop) (node : ℕ) → stop.node ≡ node
    → Any (IsLegBetween stop next) legs
    → Any (λ leg. (leg.from ≡ node) × (leg.to ≡ next.node)) legs
step_on legs stop next node is step =
    any_map (IsLegBetween stop next) (λ leg. (leg.from ≡ node) × (leg.to ≡ next.node)) legs
    (λ leg on between. (between.from ∙ is, between.to)) step

-- Who has entered a node, which isn't the last, by a period has gone on by then, or is inside.
pub occupied : (periods : ℕ) (flight : Flight) (node time : ℕ) (stop : Stop) (rest : List Stop)
    → node + 1 ≢ length flight.nodes → IsOnward periods flight stop rest
    → by_of node time (stop ∷ rest)
    ≤ on_sum (λ m. by_of m time (stop ∷ rest)) node flight.legs
    + stays_from (place_at flight node) time flight stop rest
occupied periods flight node time stop [] last onward =
    elim (by_cases node time stop) as (λ _. by_of node time (stop ∷ [])
    ≤ on_sum (λ m. by_of m time (stop ∷ [])) node flight.legs + 0) [
      | inl is ↦ absurd (last (ap (λ n. n + 1) (sym is.there) ∙ onward))
      | inr not ↦ omega (arith, by_skip node time stop [] not)
    ]
occupied periods flight node time stop (next ∷ rest) last onward =
    elim (by_cases node time stop) as (λ _. by_of node time (stop ∷ next ∷ rest)
    ≤ on_sum (λ m. by_of m time (stop ∷ next ∷ rest)) node flight.legs
    + (one_if ((place_at flight stop.node == place_at flight node) && nat_le stop.time time
    && nat_lt time next.time) + stays_from (place_at flight node) time flight next rest)) [
      | inl is ↦ elim (cases_lt time next.time) as (λ _. by_of node time (stop ∷ next ∷ rest)
          ≤ on_sum (λ m. by_of m time (stop ∷ next ∷ rest)) node flight.legs
          + (one_if ((place_at flight stop.node == place_at flight node) && nat_le stop.time time
          && nat_lt time next.time) + stays_from (place_at flight node) time flight next rest)) [
            | inl inside ↦ omega (
              arith,
              by_few node time (stop ∷ next ∷ rest),
              stay_here flight stop next node time is inside,
            )
            | inr on ↦
                let there : IsBy next.node time next = is_by_self next time on in
                omega (
                  arith,
                  by_few node time (stop ∷ next ∷ rest),
                  by_here next.node time next rest there,
                  by_grows next.node time stop (next ∷ rest),
                  on_found (λ m. by_of m time (stop ∷ next ∷ rest)) node next.node flight.legs
                      (step_on flight.legs stop next node is.there onward.0),
                )
          ]
      | inr not ↦ omega (
        arith,
        by_skip node time stop (next ∷ rest) not,
        occupied periods flight node time next rest last onward.2,
        on_le (λ m. by_of m time (next ∷ rest)) (λ m. by_of m time (stop ∷ next ∷ rest)) node
            flight.legs (λ m. by_grows m time stop (next ∷ rest)),
      )
    ]

-- By the end of the day it has gone on.
pub left : (periods : ℕ) (flight : Flight) (node : ℕ) (stop : Stop) (rest : List Stop)
    → node + 1 ≢ length flight.nodes → IsOnward periods flight stop rest
    → by_of node (periods - 1) (stop ∷ rest)
    ≤ on_sum (λ m. by_of m (periods - 1) (stop ∷ rest)) node flight.legs
left periods flight node stop [] last onward =
    elim (by_cases node (periods - 1) stop) as (λ _. by_of node (periods - 1) (stop ∷ [])
    ≤ on_sum (λ m. by_of m (periods - 1) (stop ∷ [])) node flight.legs) [
      | inl is ↦ absurd (last (ap (λ n. n + 1) (sym is.there) ∙ onward))
      | inr not ↦ omega (arith, by_skip node (periods - 1) stop [] not)
    ]
left periods flight node stop (next ∷ rest) last onward =
    elim (by_cases node (periods - 1) stop)
    as (λ _. by_of node (periods - 1) (stop ∷ next ∷ rest)
    ≤ on_sum (λ m. by_of m (periods - 1) (stop ∷ next ∷ rest)) node flight.legs) [
      | inl is ↦
          let there : IsBy next.node (periods - 1) next = is_by_self next (periods - 1)
          (omega (arith, onward.1.late, latest_within periods flight next.node)) in
          omega (
            arith,
            by_few node (periods - 1) (stop ∷ next ∷ rest),
            by_here next.node (periods - 1) next rest there,
            by_grows next.node (periods - 1) stop (next ∷ rest),
            on_found (λ m. by_of m (periods - 1) (stop ∷ next ∷ rest)) node next.node flight.legs
                (step_on flight.legs stop next node is.there onward.0),
          )
      | inr not ↦ omega (
        arith,
        by_skip node (periods - 1) stop (next ∷ rest) not,
        left periods flight node next rest last onward.2,
        on_le (λ m. by_of m (periods - 1) (next ∷ rest))
            (λ m. by_of m (periods - 1) (stop ∷ next ∷ rest)) node flight.legs
            (λ m. by_grows m (periods - 1) stop (next ∷ rest)),
      )
    ]

-- Who has entered a node after the first stop was at one before it, as long ago as the leg takes.
pub entered : (periods : ℕ) (flight : Flight) (node time : ℕ) (stop : Stop) (rest : List Stop)
    → IsOnward periods flight stop rest
    → by_of node time rest
    ≤ back_sum (λ m t. by_of m t (stop ∷ rest)) node time flight.legs
entered periods flight node time stop [] onward = omega arith
entered periods flight node time stop (next ∷ rest) onward =
    elim (by_cases node time next) as (λ _. by_of node time (next ∷ rest)
    ≤ back_sum (λ m t. by_of m t (stop ∷ next ∷ rest)) node time flight.legs) [
      | inl is ↦ omega (
        arith,
        by_few node time (next ∷ rest),
        back_found (λ m t. by_of m t (stop ∷ next ∷ rest)) node time flight.legs
            (any_map (IsLegBetween stop next)
            (WasBefore (λ m t. by_of m t (stop ∷ next ∷ rest)) node time) flight.legs
            (λ leg on between. was_before stop next rest node time leg is between) onward.0),
      )
      | inr not ↦ omega (
        arith,
        by_skip node time next rest not,
        entered periods flight node time next rest onward.2,
        back_le (λ m t. by_of m t (next ∷ rest)) (λ m t. by_of m t (stop ∷ next ∷ rest)) node
            time flight.legs (λ m t. by_grows m t stop (next ∷ rest)),
      )
    ]

-- No stop after the first is at the origin.
pub no_origin : (periods : ℕ) (flight : Flight) (time : ℕ) (stop : Stop) (rest : List Stop)
    → All (IsLeg (length flight.nodes)) flight.legs → IsOnward periods flight stop rest
    → by_of 0 time rest ≡ 0
no_origin periods flight time stop [] legs onward = refl
no_origin periods flight time stop (next ∷ rest) legs onward =
    let up = step_up flight stop next legs onward.0 in
    by_skip 0 time next rest (not_by 0 time next (λ same early. omega (arith, up.0, same)))
    ∙ no_origin periods flight time next rest legs onward.2

-- The first stop that isn't yet departed by a period is the departure in it.
pub departs : (periods : ℕ) (flight : Flight) (time : ℕ) (stop : Stop) (rest : List Stop)
    → All (IsLeg (length flight.nodes)) flight.legs → stop.node ≡ 0
    → IsOnward periods flight stop rest
    → by_of 0 time (stop ∷ rest)
    ≤ before (λ t. by_of 0 t (stop ∷ rest)) time 1 + one_if (stop.time == time)
departs periods flight time stop rest legs first onward =
    elim (by_cases 0 time stop) as (λ _. by_of 0 time (stop ∷ rest)
    ≤ before (λ t. by_of 0 t (stop ∷ rest)) time 1 + one_if (stop.time == time)) [
      | inl is ↦ elim (cases_eq stop.time time) as (λ _. by_of 0 time (stop ∷ rest)
          ≤ before (λ t. by_of 0 t (stop ∷ rest)) time 1 + one_if (stop.time == time)) [
            | inl now ↦ omega (
              arith,
              by_few 0 time (stop ∷ rest),
              ap one_if (eq-eqb stop.time time now),
            )
            | inr earlier ↦
                let early = is.early in
                let there : IsBy 0 (time - 1) stop = is_by_at stop 0 (time - 1) is.there
                (omega (arith, early, earlier)) in
                omega (
                  arith,
                  by_few 0 time (stop ∷ rest),
                  before_in (λ t. by_of 0 t (stop ∷ rest)) time 1 (omega (arith, early, earlier)),
                  by_here 0 (time - 1) stop rest there,
                )
          ]
      | inr not ↦ omega (
        arith,
        by_skip 0 time stop rest not,
        no_origin periods flight time stop rest legs onward,
      )
    ]

-- The same of the last stop and the arrival.
pub arrives : (periods : ℕ) (flight : Flight) (place time last : ℕ) (stop : Stop)
    (rest : List Stop) → All (IsLeg (length flight.nodes)) flight.legs
    → last + 1 ≡ length flight.nodes → place_at flight last ≡ place
    → IsOnward periods flight stop rest
    → by_of last time (stop ∷ rest)
    ≤ before (λ t. by_of last t (stop ∷ rest)) time 1
    + arrives_from place time flight stop rest
arrives periods flight place time last stop [] legs end at onward =
    elim (by_cases last time stop) as (λ _. by_of last time (stop ∷ [])
    ≤ before (λ t. by_of last t (stop ∷ [])) time 1
    + one_if ((place_at flight stop.node == place) && (stop.time == time))) [
      | inl is ↦ elim (cases_eq stop.time time) as (λ _. by_of last time (stop ∷ [])
          ≤ before (λ t. by_of last t (stop ∷ [])) time 1
          + one_if ((place_at flight stop.node == place) && (stop.time == time))) [
            | inl now ↦
                let here : (place_at flight stop.node == place) ≡ true =
                eq-eqb (place_at flight stop.node) place (ap (place_at flight) is.there ∙ at) in
                let now_is : (stop.time == time) ≡ true = eq-eqb stop.time time now in
                let both : one_if ((place_at flight stop.node == place) && (stop.time == time)) ≡ 1
                =
                rw (here, now_is) refl in
                omega (arith, by_few last time (stop ∷ []), both)
            | inr earlier ↦
                let early = is.early in
                let there : IsBy last (time - 1) stop = is_by_at stop last (time - 1) is.there
                (omega (arith, early, earlier)) in
                omega (
                  arith,
                  by_few last time (stop ∷ []),
                  before_in (λ t. by_of last t (stop ∷ [])) time 1 (omega (arith, early, earlier)),
                  by_here last (time - 1) stop [] there,
                )
          ]
      | inr not ↦ omega (arith, by_skip last time stop [] not)
    ]
arrives periods flight place time last stop (next ∷ rest) legs end at onward =
    let up = step_up flight stop next legs onward.0 in
    omega (
      arith,
      by_skip last time stop (next ∷ rest) (not_by last time stop
          (λ same early. omega (arith, up.1, same, end))),
      arrives periods flight place time last next rest legs end at onward.2,
      before_le (λ t. by_of last t (next ∷ rest)) (λ t. by_of last t (stop ∷ next ∷ rest)) time 1
          (λ t. by_grows last t stop (next ∷ rest)),
    )

-- By its arrival it has entered the last node.
pub arrived : (periods : ℕ) (flight : Flight) (time last : ℕ) (stop : Stop) (rest : List Stop)
    → last + 1 ≡ length flight.nodes → IsOnward periods flight stop rest
    → arrival_from stop rest ≤ time → 1 ≤ by_of last time (stop ∷ rest)
arrived periods flight time last stop [] end onward early =
    omega (
      arith,
      by_here last time stop []
          (is_by_at stop last time (omega (arith, onward, end)) early),
    )
arrived periods flight time last stop (next ∷ rest) end onward early =
    omega (
      arith,
      arrived periods flight time last next rest end onward.2 early,
      by_grows last time stop (next ∷ rest),
    )

-- Before it, it hasn't.
pub not_arrived : (periods : ℕ) (flight : Flight) (time last : ℕ) (stop : Stop) (rest : List Stop)
    → All (IsLeg (length flight.nodes)) flight.legs → last + 1 ≡ length flight.nodes
    → IsOnward periods flight stop rest → time < arrival_from stop rest
    → by_of last time (stop ∷ rest) ≡ 0
not_arrived periods flight time last stop [] legs end onward early =
    by_skip last time stop [] (not_by last time stop (λ _ at. omega (arith, at, early)))
not_arrived periods flight time last stop (next ∷ rest) legs end onward early =
    let up = step_up flight stop next legs onward.0 in
    by_skip last time stop (next ∷ rest) (not_by last time stop
    (λ same at. omega (arith, up.1, same, end)))
    ∙ not_arrived periods flight time last next rest legs end onward.2 early
