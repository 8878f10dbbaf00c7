-- In a box where each node has one option a flight has one trip at the most.
use Rattle.std.proofs.Common.{◌≡◌, ℕ, suc, ◌+◌, ◌≤◌, Bool, true, false, List, [], ◌∷◌, length, All, Option, None, Some, refl, sym, ap₂, subst, inl, inr, arith, if◌then◌else◌}
use Rattle.std.specs.List.{Any}
use Rattle.std.proofs.lemmas.List.Elements.{All-head, All-tail}
use Rattle.flow_types.specs.declared.flight.Flight.{Flight}
use Rattle.flow_types.specs.declared.parts.Parts.{Parts}
use Rattle.flow_types.specs.declared.plan.Stop.{Stop}
use Rattle.flow_types.specs.Routes.{IsLeg}
use Rattle.flow_types.specs.Trips.{IsOnward, IsTrip}
use Rattle.flow_types.specs.Valid.{IsScenario}
use Rattle.time_windows.specs.declared.access.Access.{Access}
use Rattle.time_windows.specs.declared.access.Window.{Window}
use Rattle.time_windows.specs.Boxes.{Box, IsInWindow, options_of, width_of}
use Rattle.time_windows.proofs.AnyFacts.{any_cases, any_none}
use Rattle.time_windows.proofs.PlanFacts.{legs_up}
use Rattle.flight_routes.specs.Inside.{IsTripIn}
use Rattle.flight_routes.proofs.TripFacts.{step_up}
use Rattle.dual_leaf.specs.Leaf.{IsUnitBox}

-- a node with one option that is entered must be, and in one period alone
record IsOneTime (window : Option Window) (must : Bool) (time : ℕ) : Type 0 where
  marked : must ≡ true
  only : (other : ℕ) → IsInWindow window other → other ≡ time

one_time_by : (window : Option Window) (must : Bool) (time : ℕ)
    → width_of window + (if must then 0 else 1) ≡ 1 → IsInWindow window time
    → IsOneTime window must time
one_time_by None must time one inside = absurd inside
one_time_by (Some w) true time one inside = record {
  marked = refl;
  only = λ other there. omega (arith, one, inside.0, inside.1, there.0, there.1);
}
one_time_by (Some w) false time one inside = absurd (omega (arith, one, inside.0, inside.1))

one_time : (access : Access) (time : ℕ) → options_of access ≡ 1
    → IsInWindow access.window time → IsOneTime access.window access.must time
one_time access time one inside = one_time_by access.window access.must time one inside

-- each stop is at a higher node than the one before it
abbrev Ascends : ℕ → List Stop → Type 0
Ascends low [] = Unit {0}
Ascends low (stop ∷ rest) = (low ≤ stop.node) × Ascends (suc stop.node) rest

onward_ascends : (periods : ℕ) (flight : Flight)
    → All (IsLeg (length flight.nodes)) flight.legs
    → (stop : Stop) (rest : List Stop) → IsOnward periods flight stop rest
    → Ascends (suc stop.node) rest
onward_ascends periods flight legs stop [] onward = tt
onward_ascends periods flight legs stop (next ∷ rest) onward = (
  omega (arith, (step_up flight legs stop next onward.0).0),
  onward_ascends periods flight legs next rest onward.2,
)

trip_ascends : (periods : ℕ) (flight : Flight) → All (IsLeg (length flight.nodes)) flight.legs
    → (stops : List Stop) → IsTrip periods flight stops → Ascends 0 stops
trip_ascends periods flight legs [] trip = tt
trip_ascends periods flight legs (stop ∷ rest) trip =
    (omega arith, onward_ascends periods flight legs stop rest trip.2)

none_lower : (low : ℕ) (stops : List Stop) (n : ℕ) → Ascends low stops
    → Any (λ (s : Stop). s.node ≡ n) stops → low ≤ n
none_lower low [] n ascends any = absurd (any_none (λ (s : Stop). s.node ≡ n) any)
none_lower low (stop ∷ rest) n ascends any =
    elim (any_cases (λ (s : Stop). s.node ≡ n) stop rest any) as (λ _. low ≤ n) [
      | inl here ↦ omega (arith, here, ascends.0)
      | inr later ↦ omega (arith, ascends.0, none_lower (suc stop.node) rest n ascends.1 later)
    ]

-- a higher node has its stop later
stops_later : (stop : Stop) (rest : List Stop) (n : ℕ) → suc stop.node ≤ n
    → Any (λ (s : Stop). s.node ≡ n) (stop ∷ rest) → Any (λ (s : Stop). s.node ≡ n) rest
stops_later stop rest n above any =
    elim (any_cases (λ (s : Stop). s.node ≡ n) stop rest any)
    as (λ _. Any (λ (s : Stop). s.node ≡ n) rest) [
      | inl here ↦ absurd (omega (arith, here, above))
      | inr later ↦ later
    ]

-- from a node on, each stop is in its window, and each node that must be entered has a stop
record GoesUp (row : ℕ → Access) (low : ℕ) (stops : List Stop) : Type 0 where
  ascends : Ascends low stops
  windows : All (λ (s : Stop). IsInWindow (row s.node).window s.time) stops
  musts : (n : ℕ) → low ≤ n → (row n).must ≡ true → Any (λ (s : Stop). s.node ≡ n) stops

goes_on : (row : ℕ → Access) (low : ℕ) (stop : Stop) (rest : List Stop)
    → GoesUp row low (stop ∷ rest) → GoesUp row (suc stop.node) rest
goes_on row low stop rest up = record {
  ascends = up.ascends.1;
  windows = All-tail (λ (s : Stop). IsInWindow (row s.node).window s.time) stop rest up.windows;
  musts = λ n above must. stops_later stop rest n above
      (up.musts n (omega (arith, above, up.ascends.0)) must);
}

module _ (row : ℕ → Access) (unit : (n : ℕ) → options_of (row n) ≡ 1) where
  -- the first stop
  first_time : (low : ℕ) (stop : Stop) (rest : List Stop) → GoesUp row low (stop ∷ rest)
      → IsOneTime (row stop.node).window (row stop.node).must stop.time
  first_time low stop rest up = one_time (row stop.node) stop.time (unit stop.node)
      (All-head (λ (s : Stop). IsInWindow (row s.node).window s.time) stop rest up.windows)

  -- isn't after that of another
  first_low : (low : ℕ) (x y : Stop) (xs ys : List Stop) → GoesUp row low (x ∷ xs)
      → GoesUp row low (y ∷ ys) → y.node ≤ x.node
  first_low low x y xs ys up other =
      none_lower y.node (y ∷ ys) x.node (omega arith, other.ascends.1)
      (other.musts x.node up.ascends.0 (first_time low x xs up).marked)

  first_same : (low : ℕ) (x y : Stop) (xs ys : List Stop) → GoesUp row low (x ∷ xs)
      → GoesUp row low (y ∷ ys) → x ≡ y
  first_same low x y xs ys up other =
      let node : y.node ≡ x.node = omega (
        arith,
        first_low low x y xs ys up other,
        first_low low y x ys xs other up,
      ) in
      let there : IsInWindow (row x.node).window y.time =
      subst (λ n. IsInWindow (row n).window y.time) node
      (All-head (λ (s : Stop). IsInWindow (row s.node).window s.time) y ys other.windows) in
      same_stop x y (sym node) (sym ((first_time low x xs up).only y.time there))
    where
      same_stop : (a b : Stop) → a.node ≡ b.node → a.time ≡ b.time → a ≡ b
      same_stop a b nodes times =
          ap₂ {A = ℕ} {B = ℕ} {C = Stop} (λ n t. record { node = n; time = t }) nodes times

  same_stops : (low : ℕ) (xs ys : List Stop) → GoesUp row low xs → GoesUp row low ys → xs ≡ ys
  same_stops low [] [] up other = refl
  same_stops low [] (y ∷ ys) up other =
      absurd (any_none (λ (s : Stop). s.node ≡ y.node)
      (up.musts y.node other.ascends.0 (first_time low y ys other).marked))
  same_stops low (x ∷ xs) [] up other =
      absurd (any_none (λ (s : Stop). s.node ≡ x.node)
      (other.musts x.node up.ascends.0 (first_time low x xs up).marked))
  same_stops low (x ∷ xs) (y ∷ ys) up other =
      let same : x ≡ y = first_same low x y xs ys up other in
      ap₂ (λ stop rest. stop ∷ rest) same
      (same_stops (suc x.node) xs ys (goes_on row low x xs up)
      (subst (λ (s : Stop). GoesUp row (suc s.node) ys) (sym same) (goes_on row low y ys other)))

trip_goes_up : (parts : Parts) (box : Box) (f : ℕ) (stops : List Stop) → IsScenario parts
    → IsTripIn parts box f stops → GoesUp (box f) 0 stops
trip_goes_up parts box f stops valid is = record {
  ascends = trip_ascends parts.day.periods is.flight (legs_up parts f is.flight valid is.there)
      stops is.trip;
  windows = is.inside.windows;
  musts = λ n above must. is.inside.musts n must;
}

-- any two are the same
pub one_trip : (parts : Parts) (box : Box) (f : ℕ) (a b : List Stop) → IsScenario parts
    → IsUnitBox box → IsTripIn parts box f a → IsTripIn parts box f b → a ≡ b
one_trip parts box f a b valid unit first second =
    same_stops (box f) (unit f) 0 a b (trip_goes_up parts box f a valid first)
    (trip_goes_up parts box f b valid second)
