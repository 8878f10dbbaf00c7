-- What a search hands back: plans, each cheaper than the one before, the cuts that leaves may name,
-- a tree that proves a bound, and that it ended since the last plan is a least one, or there is
-- none, or its budget was spent.
use Rattle.std.specs.Prelude.{◌≡◌, ◌⊎◌, ℕ, ◌+◌, ◌-◌, ◌<◌, ◌≤◌, List, length, slice_get, slice_index, All, AllPairs, Option, Some, option_map, ℤ, ◌<ℤ◌}
use Rattle.flow_types.specs.declared.parts.Parts.{Parts}
use Rattle.flow_types.specs.declared.plan.Stop.{Stop}
use Rattle.flow_types.specs.Costs.{plan_cost}
use Rattle.time_windows.specs.Boxes.{Box}
use Rattle.time_windows.specs.Plans.{IsPlanIn}
use Rattle.time_windows.specs.Tight.{IsTightened}
use Rattle.greedy_plan.specs.Greedy.{IsGreedy}
use Rattle.branch_tree.specs.Lawful.{IsLawfulTree}
use Rattle.flow_types.specs.Bounds.{IsNearBound, bound_of, least_of}
use Rattle.tree_search.specs.declared.found.Budget.{Budget}
use Rattle.tree_search.specs.declared.found.Found.{Found}
use Rattle.tree_search.specs.Nodes.{IsNodeOf, cutoff_after}
use Rattle.tree_search.specs.Pools.{IsFirstPool}

abbrev pub IsCheaper : Parts → List (List Stop) → List (List Stop) → Type 0
IsCheaper parts before after =
    plan_cost parts.tables parts.flights after <ℤ plan_cost parts.tables parts.flights before

-- the greedy plan is the first of the plans, and was found before each node
pub record IsFirst (plans : List (List (List Stop))) (counts : List ℕ)
    (plan : List (List Stop)) : Type 0 where
  pub first : slice_get plans 0 ≡ Some plan
  pub found : All (λ count. 1 ≤ count) counts

-- the last plan that was found, if one was, and what it costs
abbrev pub last_plan : Found → Option (List (List Stop))
last_plan found = slice_get found.plans (length found.plans - 1)

abbrev pub last_cost : Parts → Found → Option ℤ
last_cost parts found = option_map (plan_cost parts.tables parts.flights) (last_plan found)

-- the last plan costs the bound, or there is neither a plan nor a bound
abbrev pub IsClosed : Parts → Found → Type 0
IsClosed parts found =
    found.bound ≡ bound_of (cutoff_after parts found.plans (length found.plans))

pub record IsSearchRecord (parts : Parts) (root : Box) (budget : Budget) (found : Found)
    : Type 0 where
  pub tight : Box
  pub tight_is : IsTightened parts root tight
  pub plans : All (IsPlanIn parts root) found.plans
  pub cheaper : AllPairs (IsCheaper parts) found.plans
  pub greedy : (plan : List (List Stop)) → IsGreedy parts tight plan
      → IsFirst found.plans found.counts plan
  pub counted : length found.counts ≡ length found.tree
  pub counts_to : All (λ count. count ≤ length found.plans) found.counts
  pub rising : AllPairs (λ before after. before ≤ after) found.counts
  pub tree : IsLawfulTree parts (IsNodeOf parts found.pool budget found.plans found.counts) tight
      found.tree found.bounds
  pub bound_is : found.bound ≡ least_of found.bounds
  pub near : IsNearBound found.bound
  pub pool : IsFirstPool parts budget.limits
      (cutoff_after parts found.plans (slice_index found.counts 0)) tight found.pool
  pub nodes : length found.tree ≤ budget.nodes
  pub ended : IsClosed parts found ⊎ (budget.nodes < length found.tree + 2)
