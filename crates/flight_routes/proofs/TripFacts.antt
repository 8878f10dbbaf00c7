-- The ways of a flight are its trips in the box, where the rates let it leave, stay and arrive.
use Rattle.std.proofs.Common.{◌≡◌, ◌≢◌, ◌⊎◌, ℕ, zero, suc, ◌+◌, ◌-◌, ◌<◌, ◌≤◌, ◌==◌, Bool, true, false, nat_lt, min, if◌then◌else◌, List, [], ◌∷◌, length, get_or, Option, Some, None, All, IsSome, ℤ, pos, ◌+ℤ◌, ◌-ℤ◌, refl, sym, ◌∙◌, subst, inl, inr, arith}
use Rattle.std.specs.List.{Any}
use Rattle.std.proofs.lemmas.Bool.{cases_eq, cases_lt}
use Rattle.std.proofs.lemmas.Bool.Decides.{nat_tests}
use Rattle.std.proofs.lemmas.Int.{ints}
use Rattle.std.proofs.lemmas.List.Elements.{All-cons, All-nil, All-head, All-tail}
use Rattle.flow_types.specs.declared.flight.Flight.{Flight}
use Rattle.flow_types.specs.declared.plan.Stop.{Stop}
use Rattle.flow_types.specs.Routes.{IsLeg}
use Rattle.flow_types.specs.Trips.{IsOnward, IsStep, IsTrip, IsWithinHours, arrival_from, earliest_of, latest_of}
use Rattle.time_windows.specs.declared.access.Access.{Access}
use Rattle.time_windows.specs.declared.access.Window.{Window}
use Rattle.time_windows.specs.Boxes.{IsInWindow, IsTripInBox, IsWindowWithin, root_access}
use Rattle.flight_routes.specs.Rates.{IsWay, IsWayOn, PassesNoMust, Rates, value_or_zero, way_cost, whole_cost}

-- the flight's row of a box that lies within the root box
pub record IsRowOf (periods : ℕ) (flight : Flight) (row : ℕ → Access) : Type 0 where
  pub windows : (n : ℕ) → IsWindowWithin (row n).window (root_access periods flight n).window
  pub marks : (n : ℕ) → (root_access periods flight n).must ≡ true → (row n).must ≡ true
  pub nodes : (n : ℕ) → (root_access periods flight n).window ≡ None → (row n).must ≡ false

-- each stay of the stops is clear
abbrev pub ClearOn : Rates → Stop → List Stop → Type 0
ClearOn rates stop [] = Unit {0}
ClearOn rates stop (next ∷ rest) =
    (next.time ≤ rates.clear stop.node stop.time) × ClearOn rates next rest

-- the flight may leave, stay and arrive as the stops say
abbrev pub IsAllowed : Rates → List Stop → Type 0
IsAllowed rates [] = ⊥
IsAllowed rates (stop ∷ rest) =
    IsSome (rates.leaves stop.time) × IsSome (rates.arrives (arrival_from stop rest))
    × ClearOn rates stop rest

-- what the stays cost
abbrev pub stays_cost : Rates → Stop → List Stop → ℤ
stays_cost rates stop [] = pos 0
stays_cost rates stop (next ∷ rest) =
    (rates.paid stop.node next.time -ℤ rates.paid stop.node stop.time) +ℤ stays_cost rates next rest

-- the cost of a way by its parts
pub way_cost_is : (rates : Rates) (stop : Stop) (rest : List Stop)
    → way_cost rates stop rest
    ≡ stays_cost rates stop rest +ℤ value_or_zero (rates.arrives (arrival_from stop rest))
way_cost_is rates stop [] = omega (arith, ints)
way_cost_is rates stop (next ∷ rest) = omega (arith, ints, way_cost_is rates next rest)

pub whole_cost_is : (rates : Rates) (stop : Stop) (rest : List Stop)
    → whole_cost rates (stop ∷ rest)
    ≡ value_or_zero (rates.leaves stop.time) +ℤ stays_cost rates stop rest
    +ℤ value_or_zero (rates.arrives (arrival_from stop rest))
whole_cost_is rates stop rest = omega (arith, ints, way_cost_is rates stop rest)

-- the window of the root box
root_open : (periods : ℕ) (flight : Flight) (n : ℕ) (b : Bool)
    → nat_lt n (length flight.nodes) ≡ b → (window : Window) → (time : ℕ)
    → IsWindowWithin (Some window) (root_access periods flight n).window
    → window.lo ≤ time → time ≤ window.hi
    → (earliest_of flight n ≤ time) × (time ≤ latest_of periods flight n)
root_open periods flight n true is window time within low high =
    let w = rw is at within in (omega (arith, w.0), omega (arith, w.1))
root_open periods flight n false is window time within low high =
    absurd (rw is at within)

pub in_hours : (periods : ℕ) (flight : Flight) (stop : Stop) (window : Option Window)
    → IsWindowWithin window (root_access periods flight stop.node).window
    → IsInWindow window stop.time → IsWithinHours periods flight stop
in_hours periods flight stop None within inside = absurd inside
in_hours periods flight stop (Some window) within inside =
    let both = root_open periods flight stop.node (nat_lt stop.node (length flight.nodes)) refl
    window stop.time within inside.0 inside.1 in
    record { early = both.0; late = both.1 }

-- an item that is the first, or one of the others
any_first : {X : Type 0} (P : X → Type 0) (x : X) (xs : List X) → P x → Any P (x ∷ xs)
any_first P x xs here = (0, x, omega arith, refl, here)

any_later : {X : Type 0} (P : X → Type 0) (x : X) (xs : List X) → Any P xs → Any P (x ∷ xs)
any_later P x xs later = (suc later.0, later.1, omega (arith, later.2), later.3, later.4)

any_split : {X : Type 0} (P : X → Type 0) (x : X) (xs : List X) (k : ℕ) (y : X)
    → k < length (x ∷ xs) → get_or (x ∷ xs) k y ≡ y → P y → P x ⊎ Any P xs
any_split P x xs zero y within is here = inl (subst P (sym is) here)
any_split P x xs (suc k) y within is here = inr (k, y, omega (arith, within), is, here)

-- a step leads upward, and no further than the last node
pub step_up : (flight : Flight) → All (IsLeg (length flight.nodes)) flight.legs
    → (stop next : Stop) → IsStep flight.legs stop next
    → (stop.node < next.node) × (next.node < length flight.nodes)
step_up flight legs stop next step =
    let leg : IsLeg (length flight.nodes) (get_or flight.legs step.0 step.1) =
    legs step.0 step.1 step.2 in
    let is = subst (IsLeg (length flight.nodes)) step.3 leg in
    (omega (arith, is.upward, step.4.from, step.4.to), omega (arith, is.within, step.4.to))

-- no node is entered after the day
pub in_day : (periods : ℕ) (flight : Flight) (stop : Stop) → 1 ≤ periods
    → IsWithinHours periods flight stop → stop.time < periods
in_day periods flight stop some hours =
    in_day_by (stop.node == 0) (stop.node + 1 == length flight.nodes) hours.late
  where
    in_day_by : (a b : Bool) → stop.time ≤ (if a then min (flight.sd + flight.mg) (periods - 1)
        else (if b then min (flight.sa + flight.md) (periods - 1) else periods - 1))
        → stop.time < periods
    in_day_by true b late = omega (arith, late, some)
    in_day_by false true late = omega (arith, late, some)
    in_day_by false false late = omega (arith, late, some)

-- the last stop of a way on
pub record EndsIn (flight : Flight) (row : ℕ → Access) (stop : Stop) (rest : List Stop)
    : Type 0 where
  pub node : ℕ
  pub last : node + 1 ≡ length flight.nodes
  pub window : IsInWindow (row node).window (arrival_from stop rest)

pub ends_in : (periods : ℕ) (flight : Flight) (row : ℕ → Access) (stop : Stop) (rest : List Stop)
    → IsOnward periods flight stop rest
    → All (λ (s : Stop). IsInWindow (row s.node).window s.time) (stop ∷ rest)
    → EndsIn flight row stop rest
ends_in periods flight row stop [] onward windows = record {
  node = stop.node;
  last = onward;
  window = All-head (λ (s : Stop). IsInWindow (row s.node).window s.time) stop [] windows;
}
ends_in periods flight row stop (next ∷ rest) onward windows =
    let ends = ends_in periods flight row next rest onward.2
    (All-tail (λ (s : Stop). IsInWindow (row s.node).window s.time) stop (next ∷ rest) windows) in
    record { node = ends.node; last = ends.last; window = ends.window }

module _ (periods : ℕ) (flight : Flight) (row : ℕ → Access)
    (legs : All (IsLeg (length flight.nodes)) flight.legs)
    (of : IsRowOf periods flight row) (rates : Rates) where
  -- no node beyond the last must be entered
  no_must_beyond : (n : ℕ) → length flight.nodes ≤ n → (row n).must ≡ true → ⊥
  no_must_beyond n beyond must =
      let past : nat_lt n (length flight.nodes) ≡ false = grind (arith, nat_tests) in
      let none : (root_access periods flight n).window ≡ None = rw past refl in
      let e = sym must ∙ of.nodes n none in
      cc

  -- every stop after one is at a higher node
  all_higher : (stop : Stop) (rest : List Stop) → IsOnward periods flight stop rest
      → (n : ℕ) → n ≤ stop.node → Any (λ (s : Stop). s.node ≡ n) rest → ⊥
  all_higher stop [] onward n below found = absurd (omega (arith, found.2))
  all_higher stop (next ∷ rest) onward n below found =
      let up = step_up flight legs stop next onward.0 in
      elim (any_split (λ (s : Stop). s.node ≡ n) next rest found.0 found.1 found.2 found.3 found.4)
      as (λ w. ⊥) [
        | inl here ↦ absurd (omega (arith, here, up.0))
        | inr later ↦ all_higher next rest onward.2 n (omega (arith, up.0)) later
      ]

  -- a node that the first stop isn't at is visited after it
  after_first : (next : Stop) (rest : List Stop) (n : ℕ) → next.node ≢ n
      → Any (λ (s : Stop). s.node ≡ n) (next ∷ rest) → Any (λ (s : Stop). s.node ≡ n) rest
  after_first next rest n other found =
      elim (any_split (λ (s : Stop). s.node ≡ n) next rest found.0 found.1 found.2 found.3 found.4)
      as (λ w. Any (λ (s : Stop). s.node ≡ n) rest) [
        | inl here ↦ absurd (other here)
        | inr later ↦ later
      ]

  -- a way on is led on to the last node, in the windows, past every node that must be entered
  pub record LeadsOnIn (stop : Stop) (rest : List Stop) : Type 0 where
    pub onward : IsOnward periods flight stop rest
    pub windows : All (λ (s : Stop). IsInWindow (row s.node).window s.time) rest
    pub musts : (n : ℕ) → stop.node < n → (row n).must ≡ true → Any (λ (s : Stop). s.node ≡ n) rest
    pub arrives : IsSome (rates.arrives (arrival_from stop rest))
    pub clear : ClearOn rates stop rest

  must_later : (stop next : Stop) (rest : List Stop)
      → PassesNoMust row stop.node next.node
      → ((n : ℕ) → next.node < n → (row n).must ≡ true → Any (λ (s : Stop). s.node ≡ n) rest)
      → (n : ℕ) → stop.node < n → (row n).must ≡ true
      → (n < next.node) ⊎ (next.node ≤ n) → (next.node ≡ n) ⊎ (next.node ≢ n)
      → Any (λ (s : Stop). s.node ≡ n) (next ∷ rest)
  must_later stop next rest passes later n above must (inl between) same =
      absurd (passes n above between must)
  must_later stop next rest passes later n above must (inr past) (inl here) =
      any_first (λ (s : Stop). s.node ≡ n) next rest here
  must_later stop next rest passes later n above must (inr past) (inr other) =
      any_later (λ (s : Stop). s.node ≡ n) next rest (later n (omega (arith, other)) must)

  pub way_leads : (stop : Stop) (rest : List Stop) → IsWayOn flight row rates stop rest
      → LeadsOnIn stop rest
  way_leads stop [] way = record {
    onward = way.0;
    windows = All-nil (λ (s : Stop). IsInWindow (row s.node).window s.time);
    musts = λ n above must. absurd (no_must_beyond n (omega (arith, way.0)) must);
    arrives = way.1;
    clear = tt;
  }
  way_leads stop (next ∷ rest) way =
      let on = way_leads next rest way.1 in
      let pass = way.0 in
      record {
        onward = (
          pass.step,
          in_hours periods flight next (row next.node).window
              (of.windows next.node) pass.window,
          on.onward,
        );
        windows = All-cons (λ (s : Stop). IsInWindow (row s.node).window s.time) next rest
            pass.window on.windows;
        musts = λ n above must. must_later stop next rest pass.musts on.musts n above must
            (cases_lt n next.node) (cases_eq next.node n);
        arrives = on.arrives;
        clear = (pass.stay, on.clear);
      }

  -- and what is led on so is a way
  pub leads_way : (stop : Stop) (rest : List Stop) → LeadsOnIn stop rest
      → IsWayOn flight row rates stop rest
  leads_way stop [] on = (on.onward, on.arrives)
  leads_way stop (next ∷ rest) on =
      let up = step_up flight legs stop next on.onward.0 in (
        record {
          step = on.onward.0;
          musts = λ k above below must.
              all_higher next rest on.onward.2 k (omega arith)
              (after_first next rest k (λ e. absurd (omega (arith, e))) (on.musts k above must));
          stay = on.clear.0;
          window = All-head (λ (s : Stop). IsInWindow (row s.node).window s.time) next rest
              on.windows;
        },
        leads_way next rest (record {
          onward = on.onward.2;
          windows = All-tail (λ (s : Stop). IsInWindow (row s.node).window s.time) next rest
              on.windows;
          musts = λ n above must. after_first next rest n (λ e. absurd (omega (arith, e)))
              (on.musts n (omega (arith, up.0)) must);
          arrives = on.arrives;
          clear = on.clear.1;
        }),
      )

  -- a way is a trip in the box that is allowed, and the other way round
  pub way_trip : (stops : List Stop) → IsWay flight row rates stops
      → IsTrip periods flight stops × IsTripInBox row stops × IsAllowed rates stops
  way_trip [] way = absurd way
  way_trip (stop ∷ rest) way =
      let on = way_leads stop rest way.3 in
      let here : IsInWindow (row stop.node).window stop.time =
      subst (λ n. IsInWindow (row n).window stop.time) (sym way.0) way.1 in (
        (
          way.0,
          in_hours periods flight stop (row stop.node).window (of.windows stop.node) here,
          on.onward,
        ),
        record {
          windows = All-cons (λ (s : Stop). IsInWindow (row s.node).window s.time) stop rest here
              on.windows;
          musts = λ n must. first_or_later stop rest n (on.musts n) must (cases_eq stop.node n)
              (omega (arith, way.0));
        },
        (way.2, on.arrives, on.clear),
      )
    where
      first_or_later : (stop : Stop) (rest : List Stop) (n : ℕ)
          → (stop.node < n → (row n).must ≡ true → Any (λ (s : Stop). s.node ≡ n) rest)
          → (row n).must ≡ true → (stop.node ≡ n) ⊎ (stop.node ≢ n) → stop.node ≤ n
          → Any (λ (s : Stop). s.node ≡ n) (stop ∷ rest)
      first_or_later stop rest n later must (inl same) low =
          any_first (λ (s : Stop). s.node ≡ n) stop rest same
      first_or_later stop rest n later must (inr other) low =
          any_later (λ (s : Stop). s.node ≡ n) stop rest (later (omega (arith, other)) must)

  pub trip_way : (stops : List Stop) → IsTrip periods flight stops → IsTripInBox row stops
      → IsAllowed rates stops → IsWay flight row rates stops
  trip_way [] trip inside allowed = absurd trip
  trip_way (stop ∷ rest) trip inside allowed = (
    trip.0,
    subst (λ n. IsInWindow (row n).window stop.time) trip.0
        (All-head (λ (s : Stop). IsInWindow (row s.node).window s.time) stop rest inside.windows),
    allowed.0,
    leads_way stop rest (record {
      onward = trip.2;
      windows = All-tail (λ (s : Stop). IsInWindow (row s.node).window s.time) stop rest
          inside.windows;
      musts = λ n above must. after_first stop rest n (λ e. absurd (omega (arith, e)))
          (inside.musts n must);
      arrives = allowed.1;
      clear = allowed.2;
    }),
  )
