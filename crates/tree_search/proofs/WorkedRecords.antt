-- Parts of records, computed on the day of two flights of which one may leave in a period: the
-- second flight leaves in the period after, which costs 1, or two later, which costs 2.
use Rattle.std.proofs.Common.{◌≡◌, ℕ, ◌==◌, ◌≤◌, true, List, [], ◌∷◌, None, Some, if◌then◌else◌, pos, neg_ℤ, ap, refl, arith}
use Rattle.std.proofs.lemmas.Int.{ints}
use Rattle.exact_sums.proofs.ShortLists.{all_two}
use Rattle.flow_types.specs.declared.bound.Bound.{Bound}
use Rattle.flow_types.specs.declared.bound.Bound.TheVariants.{AtLeast, NoPlan}
use Rattle.flow_types.specs.declared.parts.Parts.{Parts}
use Rattle.flow_types.specs.declared.plan.Stop.{Stop}
use Rattle.time_windows.specs.declared.access.Access.{Access}
use Rattle.time_windows.specs.Boxes.{Box, closed}
use Rattle.worked_days.specs.Days.{plan_with, trip_at, two_flights}
use Rattle.tree_search.specs.declared.found.Budget.{Budget}
use Rattle.tree_search.specs.declared.found.Found.{Found}
use Rattle.flow_types.specs.Bounds.{least_of}
use Rattle.tree_search.specs.Budgets.{options_in}
use Rattle.tree_search.specs.Nodes.{IsSplitNode, cost_of, cutoff_after}
use Rattle.tree_search.specs.Records.{IsCheaper, IsClosed, IsFirst}
use Rattle.cut_rows.specs.declared.names.CutName.{CutName}

abbrev two : Parts
two = two_flights 1 9 9

abbrev late : List (List Stop)
late = plan_with (trip_at 2 4)

abbrev soon : List (List Stop)
soon = plan_with (trip_at 1 3)

-- what the last of so many plans costs
no_cutoff : cutoff_after two (late ∷ soon ∷ []) 0 ≡ None
no_cutoff = refl

first_cutoff : cutoff_after two (late ∷ soon ∷ []) 1 ≡ Some (pos 2)
first_cutoff = refl

last_cutoff : cutoff_after two (late ∷ soon ∷ []) 2 ≡ Some (pos 1)
last_cutoff = refl

-- a later plan is cheaper, and not dearer, nor as dear
soon_cheaper : IsCheaper two late soon
soon_cheaper = omega (arith, ints)

late_isnt : IsCheaper two soon late → ⊥
late_isnt cheaper = omega (arith, ints, cheaper)

same_isnt : IsCheaper two soon soon → ⊥
same_isnt cheaper = omega (arith, ints, cheaper)

-- the least bound; that of a split, which is NoPlan, changes nothing
least_is : least_of (NoPlan ∷ AtLeast (pos 3) ∷ NoPlan ∷ AtLeast (neg_ℤ (pos 2)) ∷ [])
    ≡ AtLeast (neg_ℤ (pos 2))
least_is = refl

none_left : least_of (NoPlan ∷ NoPlan ∷ []) ≡ NoPlan
none_left = refl

abbrev found_with : List (List (List Stop)) → Bound → Found
found_with plans bound =
    record { plans = plans; tree = []; counts = []; bounds = []; pool = []; bound = bound }

-- closed: the last plan costs the bound, or there is neither
it_is_closed : IsClosed two (found_with (late ∷ soon ∷ []) (AtLeast (pos 1)))
it_is_closed = refl

without_plans : IsClosed two (found_with [] NoPlan)
without_plans = refl

-- and with a lower bound it isn't, nor with the bound of the plan before, nor with one of both
-- alone
low_isnt : IsClosed two (found_with (late ∷ soon ∷ []) (AtLeast (pos 0))) → ⊥
low_isnt closed = let e : ⊥ = cc in e

first_isnt : IsClosed two (found_with (late ∷ soon ∷ []) (AtLeast (pos 2))) → ⊥
first_isnt closed = let e : ⊥ = cc in e

bound_alone_isnt : IsClosed two (found_with [] (AtLeast (pos 0))) → ⊥
bound_alone_isnt closed = let e : ⊥ = cc in e

plan_alone_isnt : IsClosed two (found_with (soon ∷ []) NoPlan) → ⊥
plan_alone_isnt closed = let e : ⊥ = cc in e

-- the first plan was found before each node
first_is : IsFirst (late ∷ soon ∷ []) (1 ∷ 2 ∷ []) late
first_is = record {
  first = refl;
  found = all_two (λ count. 1 ≤ count) 1 2 (omega arith) (omega arith);
}

second_isnt : IsFirst (late ∷ soon ∷ []) (1 ∷ 2 ∷ []) soon → ⊥
second_isnt first =
    let same : Some (pos 2) ≡ Some (pos 1) = ap (cost_of two) first.first in let e : ⊥ = cc in e

-- the first flight leaves by period 1 and the second by period 2, both over the sector and on: six
-- ways to choose when they leave, and so 11 nodes are enough
abbrev leaving : ℕ → Access
leaving latest = record { window = Some (record { lo = 0; hi = latest }); must = true }

abbrev choices : Box
choices flight node =
    if node == 0
    then (if flight == 0 then leaving 1 else (if flight == 1 then leaving 2 else closed))
    else closed

six_options : options_in two choices ≡ 6
six_options = refl

-- a split names what the last plan before it costs, and nothing else
other_cutoff_isnt : (pool : List CutName) (budget : Budget) (box : Box)
    → IsSplitNode two pool budget (cutoff_after two (late ∷ []) 1) box (Some (pos 1)) → ⊥
other_cutoff_isnt pool budget box split = let same = split.cutoff_is in let e : ⊥ = cc in e
