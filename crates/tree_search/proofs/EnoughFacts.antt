-- A budget of nodes that is enough: where it is spent nonetheless, each bound reaches its cutoff.
-- Then the least of them is what the last plan costs, or there is no plan.
use Rattle.std.proofs.Common.{◌⊎◌, ℕ, ◌+◌, ◌*◌, ◌<◌, ◌≤◌, max, [], ◌∷◌, length, get_or, slice_index, Option, ℤ, inl, inr, sym, subst, arith}
use Rattle.flow_types.specs.declared.bound.Bound.TheVariants.{NoPlan}
use Rattle.flow_types.specs.declared.parts.Parts.{Parts}
use Rattle.flow_types.specs.Limits.{most_nodes}
use Rattle.flow_types.specs.Valid.{IsScenario}
use Rattle.time_windows.specs.Boxes.{Box}
use Rattle.time_windows.specs.Tight.{IsTightened}
use Rattle.tree_search.specs.declared.found.Budget.{Budget}
use Rattle.tree_search.specs.declared.found.Found.{Found}
use Rattle.tree_search.specs.Budgets.{options_in}
use Rattle.tree_search.specs.Nodes.{cutoff_after}
use Rattle.tree_search.specs.Records.{IsClosed, IsSearchRecord}
use Rattle.tree_search.proofs.CreditFacts.{AreReached, reached_or_few}
use Rattle.tree_search.proofs.ReachFacts.{Reaches, bound_closed, last_allowed, last_lowered, reaches_from, reaches_later, reaches_least}
use Rattle.tree_search.proofs.SoundFacts.{record_bounds}
use Rattle.tree_search.proofs.SplitFacts.{options_less}

-- with so many options there would be more nodes than there are
too_few : (options nodes spent : ℕ) → 2 * options ≤ nodes + 1 → nodes < spent + 2
    → spent + 1 + 2 ≤ 2 * (max 1 options + 0) → ⊥
too_few options nodes spent enough ended few = omega (arith, enough, ended, few)

module _ (parts : Parts) (root : Box) (budget : Budget) (found : Found) (valid : IsScenario parts)
    (searched : IsSearchRecord parts root budget found) where
  abbrev last : ℕ
  last = length found.plans

  abbrev cutoffs : ℕ → Option ℤ
  cutoffs number = cutoff_after parts found.plans (slice_index found.counts number)

  module _ (reached : AreReached cutoffs found.bounds 0 (length found.tree)) where
    -- each bound reaches the last cutoff, since it reaches its own
    each_reached : (k : ℕ) → k < length found.bounds
        → Reaches (cutoff_after parts found.plans last) (get_or found.bounds k NoPlan)
    each_reached k below =
        let within : k < length found.tree = omega (arith, below, searched.tree.bounded) in
        let few : slice_index found.counts k ≤ last =
        searched.counts_to k 0 (omega (arith, within, searched.counted)) in
        reaches_later (cutoffs k) (cutoff_after parts found.plans last)
        (get_or found.bounds k NoPlan)
        (last_lowered parts found.plans searched.cheaper (slice_index found.counts k) few)
        (reaches_from (cutoffs k) (get_or found.bounds k NoPlan)
        (reached k (omega arith) (omega (arith, within))))

    -- and so does the least of them
    reached_closed : IsClosed parts found
    reached_closed =
        bound_closed parts (cutoff_after parts found.plans last) found.bound
        (subst (Reaches (cutoff_after parts found.plans last)) (sym searched.bound_is)
        (reaches_least (cutoff_after parts found.plans last) found.bounds each_reached))
        (last_allowed parts root found.plans found.bound searched.plans
        (record_bounds parts root budget found valid searched))

  own_closed : 2 * options_in parts searched.tight ≤ budget.nodes + 1 → IsClosed parts found
  own_closed enough = by searched.ended
    where
      spent_closed : budget.nodes < length found.tree + 2
          → AreReached cutoffs found.bounds 0 (length found.tree)
          ⊎ (length found.tree + 1 + 2 ≤ 2 * (max 1 (options_in parts searched.tight) + 0))
          → IsClosed parts found
      spent_closed spent (inl reached) = reached_closed reached
      spent_closed spent (inr few) =
          absurd (too_few (options_in parts searched.tight) budget.nodes (length found.tree) enough
          spent few)

      by : IsClosed parts found ⊎ (budget.nodes < length found.tree + 2) → IsClosed parts found
      by (inl closed) = closed
      by (inr spent) =
          spent_closed spent
          (reached_or_few parts valid most_nodes (omega arith) found.pool budget found.plans
          found.counts found.bounds 0 (searched.tight ∷ []) found.tree
          (searched.tight_is.tight, tt) searched.tree.nodes_are)

  -- any tight box of the root has as many options as the record's
  pub enough_closed : (tight : Box) → IsTightened parts root tight
      → 2 * options_in parts tight ≤ budget.nodes + 1 → IsClosed parts found
  enough_closed tight tight_is enough =
      own_closed
      (fewer (options_in parts searched.tight) (options_in parts tight) budget.nodes
      (options_less (length parts.flights) most_nodes searched.tight tight
      (tight_is.widest searched.tight searched.tight_is.within searched.tight_is.tight)) enough)
    where
      fewer : (options more nodes : ℕ) → options ≤ more → 2 * more ≤ nodes + 1
          → 2 * options ≤ nodes + 1
      fewer options more nodes less enough = omega (arith, less, enough)
