-- A whole record, worked out: a box of the day of two flights that holds one plan, in which the
-- second flight leaves in the period after. The greedy plan is that one and costs 1; the tree is
-- one Unit leaf, whose bound is 1.
use Rattle.std.proofs.Common.{◌≡◌, inl, ℕ, zero, suc, ◌+◌, ◌==◌, ◌<◌, ◌≤◌, ◌||◌, true, false, List, [], ◌∷◌, length, slice_get, None, Some, All, AllPairs, pos, refl, sym, ap, ◌∙◌, subst, arith}
use Rattle.std.specs.List.{Any}
use Rattle.std.proofs.lemmas.List.Elements.{All-nil}
use Rattle.std.proofs.lemmas.List.Kept.{AllPairs-cons}
use Rattle.exact_sums.proofs.ShortLists.{all_one, all_three, no_pairs}
use Rattle.flow_types.specs.declared.bound.Bound.TheVariants.{AtLeast}
use Rattle.flow_types.specs.declared.flight.Flight.{Flight}
use Rattle.flow_types.specs.declared.flight.Leg.{Leg}
use Rattle.flow_types.specs.declared.parts.Parts.{Parts}
use Rattle.flow_types.specs.declared.plan.Stop.{Stop}
use Rattle.flow_types.specs.Feasible.{IsFeasible, KeepsTurn}
use Rattle.flow_types.specs.Trips.{earliest_of, latest_of}
use Rattle.flow_types.specs.Valid.{IsScenario}
use Rattle.time_windows.specs.declared.access.Access.{Access}
use Rattle.time_windows.specs.declared.access.Window.{Window}
use Rattle.time_windows.specs.Boxes.{Box, IsBoxOf, IsInBox, IsProper, IsTripInBox, IsInWindow, closed, options_of, root_access, root_box, IsWindowWithin}
use Rattle.time_windows.specs.Tight.{IsTight, IsTightRow, IsTightTurn, IsLegIn, IsLegOut}
use Rattle.time_windows.proofs.AnyFacts.{any_here, any_there}
use Rattle.time_windows.proofs.NarrowFacts.{box_within_same}
use Rattle.time_windows.proofs.WindowFacts.{if_lt}
use Rattle.flight_routes.specs.Inside.{IsTripIn}
use Rattle.greedy_plan.specs.Greedy.{IsGreedy}
use Rattle.branch_tree.specs.declared.leaf.Leaf.TheVariants.{Unit as UnitLeaf}
use Rattle.branch_tree.specs.declared.tree.TreeNode.TheVariants.{Leaf}
use Rattle.dual_leaf.specs.Leaf.{IsUnitBox}
use Rattle.dual_leaf.proofs.UnitBoxFacts.{one_trip}
use Rattle.worked_days.specs.Days.{beside, legs_with, plan_with, stop_at, there, trip_at, two_flights}
use Rattle.worked_days.proofs.WorkedDay.{beside_is, feasible_is, there_is, two_flights-valid}
use Rattle.tree_search.proofs.PoolFacts.{unit_first}
use Rattle.tree_search.specs.Nodes.{cutoff_after}
use Rattle.tree_search.specs.declared.found.Budget.{Budget}
use Rattle.tree_search.specs.declared.found.Found.{Found}
use Rattle.tree_search.specs.Records.{IsCheaper, IsFirst, IsSearchRecord}
use Rattle.time_windows.specs.Plans.{IsPlanIn}

abbrev two : Parts
two = two_flights 1 9 9

pairs_one : {A : Type 0} (R : A → A → Type 0) (a : A) → AllPairs R (a ∷ [])
pairs_one R a = AllPairs-cons R a [] (All-nil (R a)) (no_pairs R)

valid : IsScenario two
valid = two_flights-valid 1 9 9 (omega arith) (omega arith) (omega arith)

-- the plan
abbrev soon : List (List Stop)
soon = plan_with (trip_at 1 3)

keeps : IsFeasible two soon
keeps =
    feasible_is two soon (there_is, (beside_is 1 3 (omega arith) (omega arith) (omega arith), tt))
    (All-nil (KeepsTurn soon)) refl refl refl

-- the box that holds it alone
abbrev at : ℕ → Access
at time = record { window = Some (record { lo = time; hi = time }); must = true }

abbrev row : ℕ → ℕ → ℕ → Access
row leaves arrives zero = at leaves
row leaves arrives (suc zero) = at leaves
row leaves arrives (suc (suc zero)) = at arrives
row leaves arrives (suc (suc (suc n))) = closed

abbrev only : Box
only zero n = row 0 2 n
only (suc zero) n = row 1 3 n
only (suc (suc f)) n = closed

one_option : (leaves arrives n : ℕ) → options_of (row leaves arrives n) ≡ 1
one_option leaves arrives zero = omega arith
one_option leaves arrives (suc zero) = omega arith
one_option leaves arrives (suc (suc zero)) = omega arith
one_option leaves arrives (suc (suc (suc n))) = refl

it_is_unit : IsUnitBox only
it_is_unit zero n = one_option 0 2 n
it_is_unit (suc zero) n = one_option 1 3 n
it_is_unit (suc (suc f)) n = refl

-- it is tight
same_window : (time : ℕ) (window : Window)
    → Some (record { lo = time; hi = time }) ≡ Some window
    → record { lo = time; hi = time } ≡ window
same_window time window is = cc

abbrev leg_in : Leg
leg_in = record { from = 0; to = 1; least = 0 }

abbrev leg_out : Leg
leg_out = record { from = 1; to = 2; least = 2 }

abbrev only_at : ℕ → Window
only_at time = record { lo = time; hi = time }

module _ (leaves arrives : ℕ) (long : leaves + 2 ≤ arrives) where
  abbrev ways : ℕ → Access
  ways = row leaves arrives

  proper : (n : ℕ) → IsProper (ways n).window
  proper zero = omega arith
  proper (suc zero) = omega arith
  proper (suc (suc zero)) = omega arith
  proper (suc (suc (suc n))) = tt

  ways_in : (n : ℕ) (window : Window) → 0 < n → n < 3 → (ways n).window ≡ Some window
      → Any (IsLegIn ways n window) (legs_with 2)
  ways_in zero window some within is = absurd (omega (arith, some))
  ways_in (suc zero) window some within is =
      subst (λ w. Any (IsLegIn ways 1 w) (legs_with 2)) (same_window leaves window is)
      (any_here (IsLegIn ways 1 (only_at leaves)) leg_in (leg_out ∷ [])
      (record { to = refl; time = omega arith }))
  ways_in (suc (suc zero)) window some within is =
      subst (λ w. Any (IsLegIn ways 2 w) (legs_with 2)) (same_window arrives window is)
      (any_there (IsLegIn ways 2 (only_at arrives)) leg_in (leg_out ∷ [])
      (any_here (IsLegIn ways 2 (only_at arrives)) leg_out []
      (record { to = refl; time = omega (arith, long) })))
  ways_in (suc (suc (suc n))) window some within is = absurd (omega (arith, within))

  ways_out : (n : ℕ) (window : Window) → n + 1 < 3 → (ways n).window ≡ Some window
      → Any (IsLegOut ways n window) (legs_with 2)
  ways_out zero window within is =
      subst (λ w. Any (IsLegOut ways 0 w) (legs_with 2)) (same_window leaves window is)
      (any_here (IsLegOut ways 0 (only_at leaves)) leg_in (leg_out ∷ [])
      (record { from = refl; time = omega arith }))
  ways_out (suc zero) window within is =
      subst (λ w. Any (IsLegOut ways 1 w) (legs_with 2)) (same_window leaves window is)
      (any_there (IsLegOut ways 1 (only_at leaves)) leg_in (leg_out ∷ [])
      (any_here (IsLegOut ways 1 (only_at leaves)) leg_out []
      (record { from = refl; time = omega (arith, long) })))
  ways_out (suc (suc n)) window within is = absurd (omega (arith, within))

first_row : IsTightRow there (only 0)
first_row = record {
  proper = proper 0 2 (omega arith);
  entered = ways_in 0 2 (omega arith);
  left = ways_out 0 2 (omega arith);
}

second_row : IsTightRow beside (only 1)
second_row = record {
  proper = proper 1 3 (omega arith);
  entered = ways_in 1 3 (omega arith);
  left = ways_out 1 3 (omega arith);
}

same_flight : (a b : Flight) → Some a ≡ Some b → a ≡ b
same_flight a b is = cc

tight_rows : (f : ℕ) (flight : Flight) → slice_get two.flights f ≡ Some flight
    → IsTightRow flight (only f)
tight_rows zero flight is =
    subst (λ g. IsTightRow g (only 0)) (same_flight there flight is) first_row
tight_rows (suc zero) flight is =
    subst (λ g. IsTightRow g (only 1)) (same_flight beside flight is) second_row
tight_rows (suc (suc f)) flight is = absurd (let e : ⊥ = cc in e)

it_is_tight : IsTight two only
it_is_tight = record { rows = tight_rows; turns = All-nil (IsTightTurn two only) }

-- it lies in the root box
abbrev IsWindowIn : ℕ → ℕ → Type 0
IsWindowIn f n = IsWindowWithin (only f n).window (root_box two f n).window

windows_in : (f n : ℕ) → IsWindowIn f n
windows_in zero zero = (omega arith, omega arith)
windows_in zero (suc zero) = (omega arith, omega arith)
windows_in zero (suc (suc zero)) = (omega arith, omega arith)
windows_in zero (suc (suc (suc n))) = tt
windows_in (suc zero) zero = (omega arith, omega arith)
windows_in (suc zero) (suc zero) = (omega arith, omega arith)
windows_in (suc zero) (suc (suc zero)) = (omega arith, omega arith)
windows_in (suc zero) (suc (suc (suc n))) = tt
windows_in (suc (suc f)) n = tt

-- past the flight's nodes no mark is wanted
past : (flight : Flight) (n : ℕ) → length flight.nodes ≤ n
    → (root_access 8 flight n).must ≡ true → false ≡ true
past flight n after =
    if_lt (λ (access : Access). access.must ≡ true → false ≡ true) n (length flight.nodes)
    (record {
      window = Some (record { lo = earliest_of flight n; hi = latest_of 8 flight n });
      must = (n == 0) || (n + 1 == length flight.nodes);
    }) closed (λ less. absurd (omega (arith, less, after))) (λ none must. must)

marks_in : (f n : ℕ) → (root_box two f n).must ≡ true → (only f n).must ≡ true
marks_in zero zero must = refl
marks_in zero (suc zero) must = refl
marks_in zero (suc (suc zero)) must = refl
marks_in zero (suc (suc (suc n))) must = past there (suc (suc (suc n))) (omega arith) must
marks_in (suc zero) zero must = refl
marks_in (suc zero) (suc zero) must = refl
marks_in (suc zero) (suc (suc zero)) must = refl
marks_in (suc zero) (suc (suc (suc n))) must = past beside (suc (suc (suc n))) (omega arith) must
marks_in (suc (suc f)) n must = must

nodes_in : (f n : ℕ) → (root_box two f n).window ≡ None → (only f n).must ≡ false
nodes_in zero zero none = absurd (let e : ⊥ = cc in e)
nodes_in zero (suc zero) none = absurd (let e : ⊥ = cc in e)
nodes_in zero (suc (suc zero)) none = absurd (let e : ⊥ = cc in e)
nodes_in zero (suc (suc (suc n))) none = refl
nodes_in (suc zero) zero none = absurd (let e : ⊥ = cc in e)
nodes_in (suc zero) (suc zero) none = absurd (let e : ⊥ = cc in e)
nodes_in (suc zero) (suc (suc zero)) none = absurd (let e : ⊥ = cc in e)
nodes_in (suc zero) (suc (suc (suc n))) none = refl
nodes_in (suc (suc f)) n none = refl

it_is_inside : IsBoxOf two only
it_is_inside = record { windows = windows_in; marks = marks_in; nodes = nodes_in }

-- it holds the plan
module _ (leaves arrives : ℕ) where
  abbrev IsStopIn : Stop → Type 0
  IsStopIn stop = IsInWindow (row leaves arrives stop.node).window stop.time

  stops_in : All IsStopIn (trip_at leaves arrives)
  stops_in =
      all_three IsStopIn (stop_at 0 leaves) (stop_at 1 leaves) (stop_at 2 arrives)
      (omega arith, omega arith) (omega arith, omega arith)
      (omega arith, omega arith)

  abbrev start : Stop
  start = stop_at 0 leaves

  abbrev inside : Stop
  inside = stop_at 1 leaves

  abbrev end : Stop
  end = stop_at 2 arrives

  abbrev IsNode : ℕ → Stop → Type 0
  IsNode node stop = stop.node ≡ node

  visits : (node : ℕ) → (row leaves arrives node).must ≡ true
      → Any (IsNode node) (trip_at leaves arrives)
  visits zero must = any_here (IsNode 0) start (inside ∷ end ∷ []) refl
  visits (suc zero) must =
      any_there (IsNode 1) start (inside ∷ end ∷ [])
      (any_here (IsNode 1) inside (end ∷ []) refl)
  visits (suc (suc zero)) must =
      any_there (IsNode 2) start (inside ∷ end ∷ [])
      (any_there (IsNode 2) inside (end ∷ []) (any_here (IsNode 2) end [] refl))
  visits (suc (suc (suc n))) must = absurd (let e : ⊥ = cc in e)

  trip_in : IsTripInBox (row leaves arrives) (trip_at leaves arrives)
  trip_in = record { windows = stops_in; musts = visits }

first_in : IsTripIn two only 0 (trip_at 0 2)
first_in = record { flight = there; there = refl; trip = there_is; inside = trip_in 0 2 }

second_in : IsTripIn two only 1 (trip_at 1 3)
second_in = record {
  flight = beside;
  there = refl;
  trip = beside_is 1 3 (omega arith) (omega arith) (omega arith);
  inside = trip_in 1 3;
}

same_trip : (a b : List Stop) → Some a ≡ Some b → a ≡ b
same_trip a b is = cc

plan_in : IsInBox only soon
plan_in zero trip is =
    subst (IsTripInBox (only 0)) (same_trip (trip_at 0 2) trip is) (trip_in 0 2)
plan_in (suc zero) trip is =
    subst (IsTripInBox (only 1)) (same_trip (trip_at 1 3) trip is) (trip_in 1 3)
plan_in (suc (suc f)) trip is = absurd (let e : ⊥ = cc in e)

-- a greedy plan is this one
greedy_is : (plan : List (List Stop)) → IsGreedy two only plan → plan ≡ soon
greedy_is [] greedy = absurd (let long = greedy.whole in omega (arith, long))
greedy_is (a ∷ []) greedy = absurd (let long = greedy.whole in omega (arith, long))
greedy_is (a ∷ b ∷ []) greedy =
    let first = one_trip two only 0 a (trip_at 0 2) valid it_is_unit
    (greedy.chosen 0 a refl).inside.inside first_in in
    let second = one_trip two only 1 b (trip_at 1 3) valid it_is_unit
    (greedy.chosen 1 b refl).inside.inside second_in in
    ap (λ t. t ∷ b ∷ []) first ∙ ap (λ t. trip_at 0 2 ∷ t ∷ []) second
greedy_is (a ∷ b ∷ c ∷ rest) greedy =
    absurd (let long = greedy.whole in omega (arith, long))

first_is : (plan : List (List Stop)) → IsGreedy two only plan
    → IsFirst (soon ∷ []) (1 ∷ []) plan
first_is plan greedy = record {
  first = ap Some (sym (greedy_is plan greedy));
  found = all_one (λ count. 1 ≤ count) 1 (omega arith);
}

-- the record
abbrev found : Found
found = record {
  plans = soon ∷ [];
  tree = Leaf UnitLeaf ∷ [];
  counts = 1 ∷ [];
  bounds = AtLeast (pos 1) ∷ [];
  pool = [];
  bound = AtLeast (pos 1);
}

whole : (budget : Budget) → 1 ≤ budget.nodes → IsSearchRecord two only budget found
whole budget some = record {
  tight = only;
  tight_is = record {
    within = box_within_same only;
    tight = it_is_tight;
    widest = λ other within tight. within;
  };
  plans = all_one (IsPlanIn two only) soon (record { feasible = keeps; inside = plan_in });
  cheaper = pairs_one (IsCheaper two) soon;
  greedy = first_is;
  counted = refl;
  counts_to = all_one (λ count. count ≤ 1) 1 (omega arith);
  rising = pairs_one (λ before after. before ≤ after) 1;
  tree = record {
    tight = it_is_tight;
    bounded = refl;
    nodes_are = (
      (
        tt,
        record {
          inside = it_is_inside;
          range = tt;
          bound_is = (it_is_unit, (soon, record { feasible = keeps; inside = plan_in }, refl));
          kind = refl;
        },
      ),
      refl,
    );
  };
  bound_is = refl;
  near = omega arith;
  pool = unit_first two budget.limits (cutoff_after two (soon ∷ []) 1) only [] refl
      (λ f n. let one = it_is_unit f n in omega (arith, one));
  nodes = some;
  ended = inl refl;
}
