-- Each flight has a first of its least trips in a box, or no trip there.
use Rattle.std.proofs.Common.{◌≡◌, ◌⊎◌, ℕ, zero, suc, ◌+◌, ◌<◌, ◌≤◌, Bool, true, false, nat_lt, List, [], ◌∷◌, length, slice_get, All, Option, None, Some, inl, inr, refl, sym, ◌∙◌, subst, arith}
use Rattle.std.specs.List.{Any}
use Rattle.std.proofs.lemmas.Bool.{cases_eq, cases_lt, false≢true}
use Rattle.std.proofs.lemmas.Bool.Decides.{nat_tests}
use Rattle.std.proofs.lemmas.List.Elements.{All-cons, All-head, All-nil, All-tail}
use Rattle.exact_sums.proofs.ItemFacts.{All-item}
use Rattle.flow_types.specs.declared.flight.Flight.{Flight}
use Rattle.flow_types.specs.declared.flight.Leg.{Leg}
use Rattle.flow_types.specs.declared.parts.Parts.{Parts}
use Rattle.flow_types.specs.declared.plan.Stop.{Stop}
use Rattle.flow_types.specs.Routes.{IsLeg}
use Rattle.flow_types.specs.Trips.{IsLegBetween, IsOnward, IsStep, IsTrip, IsWithinHours, earliest_of, latest_of}
use Rattle.flow_types.specs.Valid.{IsFlight, IsScenario}
use Rattle.flight_routes.specs.Inside.{IsTripIn}
use Rattle.flight_routes.specs.Prices.{PriceTable, priced_cost}
use Rattle.flight_routes.proofs.TripFacts.{in_day, step_up}
use Rattle.time_windows.specs.declared.access.Access.{Access}
use Rattle.time_windows.specs.declared.access.Window.{Window}
use Rattle.time_windows.specs.Boxes.{Box, IsBoxOf, IsInWindow, IsTripInBox, root_box}
use Rattle.time_windows.proofs.AnyFacts.{any_cases, any_here, any_none, any_there}
use Rattle.lagrange_bound.specs.Rounds.{cost_weight}
use Rattle.lagrange_bound.proofs.Choices.{AreFew, IsChoice, IsTold, choice_same, few_choice}

told_le : (a b : ℕ) → IsTold (a ≤ b)
told_le a b = by (cases_lt b a) where
  by : (b < a) ⊎ (a ≤ b) → IsTold (a ≤ b)
  by (inl less) = inr (λ le. omega (arith, less, le))
  by (inr le) = inl le

told_true : (b : Bool) → IsTold (b ≡ true)
told_true true = inl refl
told_true false = inr (λ is. false≢true is)

told_both : {A B : Type 0} → IsTold A → IsTold B → IsTold (A × B)
told_both (inl a) (inl b) = inl (a, b)
told_both (inl a) (inr none) = inr (λ is. none is.1)
told_both (inr none) b = inr (λ is. none is.0)

told_if : {A B : Type 0} → IsTold A → IsTold B → IsTold (A → B)
told_if (inr none) b = inl (λ a. absurd (none a))
told_if (inl a) (inl b) = inl (λ it. b)
told_if (inl a) (inr none) = inr (λ is. none (is a))

told_same : {A B : Type 0} → (A → B) → (B → A) → IsTold A → IsTold B
told_same onto back (inl a) = inl (onto a)
told_same onto back (inr none) = inr (λ b. none (back b))

told_any : {X : Type 0} (P : X → Type 0) → ((x : X) → IsTold (P x)) → (xs : List X)
    → IsTold (Any P xs)
told_any P told [] = inr (λ any. any_none P any)
told_any P told (x ∷ xs) = by (told x) (told_any P told xs) where
  by : IsTold (P x) → IsTold (Any P xs) → IsTold (Any P (x ∷ xs))
  by (inl here) rest = inl (any_here P x xs here)
  by (inr isnt) (inl later) = inl (any_there P x xs later)
  by (inr isnt) (inr none) = inr (λ any. neither (any_cases P x xs any)) where
    neither : P x ⊎ Any P xs → ⊥
    neither (inl here) = isnt here
    neither (inr later) = none later

told_all : {X : Type 0} (P : X → Type 0) → ((x : X) → IsTold (P x)) → (xs : List X)
    → IsTold (All P xs)
told_all P told [] = inl (All-nil P)
told_all P told (x ∷ xs) = by (told x) (told_all P told xs) where
  by : IsTold (P x) → IsTold (All P xs) → IsTold (All P (x ∷ xs))
  by (inl here) (inl rest) = inl (All-cons P x xs here rest)
  by (inl here) (inr none) = inr (λ all. none (All-tail P x xs all))
  by (inr isnt) rest = inr (λ all. isnt (All-head P x xs all))

told_below : (count : ℕ) (P : ℕ → Type 0) → ((k : ℕ) → IsTold (P k))
    → IsTold ((k : ℕ) → k < count → P k)
told_below zero P told = inl (λ k below. absurd (omega (arith, below)))
told_below (suc count) P told = by (told count) (told_below count P told) where
  by : IsTold (P count) → IsTold ((k : ℕ) → k < count → P k)
      → IsTold ((k : ℕ) → k < suc count → P k)
  by (inl last) (inl rest) = inl (λ k below. at k below (cases_lt k count)) where
    at : (k : ℕ) → k < suc count → (k < count) ⊎ (count ≤ k) → P k
    at k below (inl early) = rest k early
    at k below (inr late) =
        let same : count ≡ k = omega (arith, below, late) in subst P same last
  by (inl last) (inr none) =
      inr (λ all. none (λ k below. all k (omega (arith, below))))
  by (inr isnt) rest = inr (λ all. isnt (all count (omega arith)))

-- whether stops are a trip
module _ (periods : ℕ) (flight : Flight) where
  told_hours : (stop : Stop) → IsTold (IsWithinHours periods flight stop)
  told_hours stop =
      told_same (λ (both : (earliest_of flight stop.node ≤ stop.time)
      × (stop.time ≤ latest_of periods flight stop.node)). record { early = both.0; late = both.1 })
      (λ hours. (hours.early, hours.late))
      (told_both (told_le (earliest_of flight stop.node) stop.time)
      (told_le stop.time (latest_of periods flight stop.node)))

  told_between : (stop next : Stop) (leg : Leg) → IsTold (IsLegBetween stop next leg)
  told_between stop next leg =
      told_same (λ (all : ((leg.from ≡ stop.node) × (leg.to ≡ next.node))
      × (stop.time + leg.least ≤ next.time)).
      record { from = all.0.0; to = all.0.1; least = all.1 })
      (λ is. ((is.from, is.to), is.least))
      (told_both (told_both (cases_eq leg.from stop.node) (cases_eq leg.to next.node))
      (told_le (stop.time + leg.least) next.time))

  told_onward : (stop : Stop) (rest : List Stop) → IsTold (IsOnward periods flight stop rest)
  told_onward stop [] = cases_eq (stop.node + 1) (length flight.nodes)
  told_onward stop (next ∷ rest) =
      told_same (λ (all : (IsStep flight.legs stop next × IsWithinHours periods flight next)
      × IsOnward periods flight next rest). (all.0.0, all.0.1, all.1))
      (λ is. ((is.0, is.1), is.2))
      (told_both (told_both (told_any (IsLegBetween stop next) (told_between stop next) flight.legs)
      (told_hours next)) (told_onward next rest))

  told_trip : (stops : List Stop) → IsTold (IsTrip periods flight stops)
  told_trip [] = inr (λ is. is)
  told_trip (stop ∷ rest) =
      told_same (λ (all : ((stop.node ≡ 0) × IsWithinHours periods flight stop)
      × IsOnward periods flight stop rest). (all.0.0, all.0.1, all.1))
      (λ is. ((is.0, is.1), is.2))
      (told_both (told_both (cases_eq stop.node 0) (told_hours stop)) (told_onward stop rest))

  -- trips have few stops
  few_on : 1 ≤ periods → All (IsLeg (length flight.nodes)) flight.legs → (stop : Stop)
      → (rest : List Stop) (size : ℕ) → length flight.nodes ≤ stop.node + 1 + size
      → IsOnward periods flight stop rest → AreFew (length flight.nodes) periods rest size
  few_on some legs stop [] size room onward = tt
  few_on some legs stop (next ∷ rest) zero room onward =
      let up = step_up flight legs stop next onward.0 in absurd (omega (arith, up.0, up.1, room))
  few_on some legs stop (next ∷ rest) (suc size) room onward =
      let up = step_up flight legs stop next onward.0 in (
        up.1,
        in_day periods flight next some onward.1,
        few_on some legs next rest size (omega (arith, up.0, room)) onward.2,
      )

  few_trip : 1 ≤ periods → 1 ≤ length flight.nodes
      → All (IsLeg (length flight.nodes)) flight.legs → (stops : List Stop)
      → IsTrip periods flight stops
      → AreFew (length flight.nodes) periods stops (suc (length flight.nodes))
  few_trip some nodes legs [] trip = tt
  few_trip some nodes legs (stop ∷ rest) trip =
      let start = trip.0 in (
        omega (arith, start, nodes),
        in_day periods flight stop some trip.1,
        few_on some legs stop rest (length flight.nodes) (omega arith) trip.2,
      )

-- whether stops are in a box
told_window : (window : Option Window) (time : ℕ) → IsTold (IsInWindow window time)
told_window None time = inr (λ is. is)
told_window (Some window) time = told_both (told_le window.lo time) (told_le time window.hi)

told_inside : (row : ℕ → Access) (count : ℕ) (stops : List Stop)
    → ((n : ℕ) → count ≤ n → (row n).must ≡ true → ⊥) → IsTold (IsTripInBox row stops)
told_inside row count stops beyond =
    told_same (λ (both : All (λ (stop : Stop). IsInWindow (row stop.node).window stop.time) stops
    × ((n : ℕ) → n < count → (row n).must ≡ true → Any (λ (stop : Stop). stop.node ≡ n) stops)).
    record { windows = both.0; musts = λ n must. at both.1 n must (cases_lt n count) })
    (λ is. (is.windows, λ n below must. is.musts n must))
    (told_both (told_all (λ (stop : Stop). IsInWindow (row stop.node).window stop.time)
    (λ stop. told_window (row stop.node).window stop.time) stops)
    (told_below count
    (λ n. (row n).must ≡ true → Any (λ (stop : Stop). stop.node ≡ n) stops)
    (λ n. told_if (told_true (row n).must)
    (told_any (λ (stop : Stop). stop.node ≡ n) (λ stop. cases_eq stop.node n) stops))))
  where
    at : ((n : ℕ) → n < count → (row n).must ≡ true → Any (λ (stop : Stop). stop.node ≡ n) stops)
        → (n : ℕ) → (row n).must ≡ true → (n < count) ⊎ (count ≤ n)
        → Any (λ (stop : Stop). stop.node ≡ n) stops
    at each n must (inl below) = each n below must
    at each n must (inr past) = absurd (beyond n past must)

some_same : {A : Type 0} (a b : A) → Some a ≡ Some b → a ≡ b
some_same a b is = cc

module _ (parts : Parts) (valid : IsScenario parts) (box : Box) (of : IsBoxOf parts box)
    (number : ℕ) (flight : Flight) (there : slice_get parts.flights number ≡ Some flight) where
  no_must : (n : ℕ) → length flight.nodes ≤ n → (box number n).must ≡ true → ⊥
  no_must n beyond must =
      let past : nat_lt n (length flight.nodes) ≡ false = grind (arith, nat_tests) in
      let none : (root_box parts number n).window ≡ None = rw (there, past) refl in
      let e = sym must ∙ of.nodes number n none in
      cc

  told_in : (stops : List Stop) → IsTold (IsTripIn parts box number stops)
  told_in stops =
      told_same (λ (both : IsTrip parts.day.periods flight stops
      × IsTripInBox (box number) stops).
      record { flight = flight; there = there; trip = both.0; inside = both.1 })
      (λ is. (trip_of is, is.inside))
      (told_both (told_trip parts.day.periods flight stops)
      (told_inside (box number) (length flight.nodes) stops no_must))
    where
      trip_of : IsTripIn parts box number stops → IsTrip parts.day.periods flight stops
      trip_of is =
          subst (λ (f : Flight). IsTrip parts.day.periods f stops)
          (some_same is.flight flight (sym is.there ∙ there)) is.trip

  few_in : (stops : List Stop) → IsTripIn parts box number stops
      → AreFew (length flight.nodes) parts.day.periods stops (suc (length flight.nodes))
  few_in stops is =
      let good : IsFlight parts.day.periods parts.places parts.tables flight =
      All-item (IsFlight parts.day.periods parts.places parts.tables) parts.flights number
      flight valid.flights.each there in
      let nodes = good.route.nodes_from in
      few_trip parts.day.periods flight valid.day.periods_from (omega (arith, nodes))
      good.route.each_leg stops
      (subst (λ (f : Flight). IsTrip parts.day.periods f stops)
      (some_same is.flight flight (sym is.there ∙ there)) is.trip)

  pub trip_choice : (table : PriceTable)
      → IsChoice (priced_cost cost_weight table parts number) (IsTripIn parts box number)
  trip_choice table =
      choice_same (priced_cost cost_weight table parts number)
      (λ stops. IsTripIn parts box number stops
      × AreFew (length flight.nodes) parts.day.periods stops (suc (length flight.nodes)))
      (IsTripIn parts box number) (λ x is. is.0) (λ x is. (is, few_in x is))
      (few_choice (length flight.nodes) parts.day.periods (suc (length flight.nodes))
      (priced_cost cost_weight table parts number) (IsTripIn parts box number) told_in)
