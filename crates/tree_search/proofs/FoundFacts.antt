-- What a search that is at its end hands back is a record.
use Rattle.std.proofs.Common.{◌≡◌, ◌⊎◌, true, ℕ, ◌+◌, ◌<◌, ◌≤◌, List, [], ◌∷◌, length, slice_index, get_or, All, inl, inr, refl, sym, ◌∙◌, ap, subst}
use Rattle.std.proofs.lemmas.Bool.{cases_lt}
use Rattle.std.proofs.lemmas.List.Elements.{All-weaker}
use Rattle.flow_types.specs.declared.bound.Bound.{Bound}
use Rattle.flow_types.specs.declared.bound.Bound.TheVariants.{NoPlan}
use Rattle.flow_types.specs.declared.parts.Parts.{Parts}
use Rattle.flow_types.specs.declared.plan.Stop.{Stop}
use Rattle.flow_types.specs.Valid.{IsScenario}
use Rattle.time_windows.specs.Boxes.{Box}
use Rattle.time_windows.specs.Tight.{IsTightened}
use Rattle.branch_tree.specs.declared.tree.TreeNode.{TreeNode}
use Rattle.branch_tree.specs.declared.tree.TreeNode.TheVariants.{Leaf, Split}
use Rattle.branch_tree.specs.Forests.{IsTreeOn}
use Rattle.branch_tree.proofs.LawfulFacts.{lawful_as}
use Rattle.branch_tree.proofs.ForestFacts.{tree_on}
use Rattle.branch_tree.specs.Lawful.{IsLawfulTree}
use Rattle.branch_tree.specs.Trees.{is_tree}
use Rattle.time_windows.specs.Plans.{IsBoundIn, IsPlanIn}
use Rattle.cut_rows.specs.declared.names.CutName.{CutName}
use Rattle.tree_search.specs.declared.draft.RecordDraft.{RecordDraft}
use Rattle.tree_search.specs.declared.found.Budget.{Budget}
use Rattle.tree_search.specs.declared.found.Found.{Found}
use Rattle.flow_types.specs.Bounds.{least_of, bound_of}
use Rattle.tree_search.specs.Drafts.{AreReached, IsDraftedAt, IsDraftedOf}
use Rattle.tree_search.specs.Nodes.{IsNodeOf, cutoff_after}
use Rattle.tree_search.specs.Pools.{IsFirstPool}
use Rattle.tree_search.specs.Records.{IsClosed, IsSearchRecord}
use Rattle.tree_search.specs.Searching.{IsSearched}
use Rattle.flow_types.proofs.BoundFacts.{near_least}
use Rattle.time_windows.proofs.PartFacts.{in_within}
use Rattle.tree_search.proofs.ReachFacts.{Reaches, bound_closed, last_allowed, reaches_from, reaches_least}
use Rattle.tree_search.proofs.SoundFacts.{searched_bounds}

-- the nodes are a tree's
pub searched_tree : (parts : Parts) (pool : List CutName) (budget : Budget) (top : Box)
    (draft : RecordDraft)
    → IsSearched parts pool budget top draft → is_tree draft.nodes ≡ true
searched_tree parts pool budget top draft searched =
    tree_on parts (IsDraftedAt parts pool budget draft.plans draft.counts draft.bounds) top
    draft.nodes searched.tree

abbrev made_of : List (List (List Stop)) → List TreeNode → List ℕ → List Bound → List CutName
    → Bound → Found
made_of plans tree counts bounds pool bound = record {
  plans = plans;
  tree = tree;
  counts = counts;
  bounds = bounds;
  pool = pool;
  bound = bound;
}

-- the first node of a tree is at its box
first_at : (parts : Parts) (IsAt : ℕ → Box → TreeNode → Type 0) (top : Box) (nodes : List TreeNode)
    → IsTreeOn parts IsAt top nodes → (node : TreeNode) × IsAt 0 top node
first_at parts IsAt top [] leads = absurd cc
first_at parts IsAt top (Leaf leaf ∷ nodes) leads = (Leaf leaf, leads.0)
first_at parts IsAt top (Split flight at time cutoff ∷ nodes) leads =
    (Split flight at time cutoff, leads.0)

module _ (parts : Parts) (root top : Box) (pool : List CutName) (budget : Budget)
    (draft : RecordDraft) (valid : IsScenario parts) (tight : IsTightened parts root top)
    (searched : IsSearched parts pool budget top draft) where
  in_root : All (IsPlanIn parts root) draft.plans
  in_root =
      All-weaker (IsPlanIn parts top) (IsPlanIn parts root)
      (λ plan is. record {
        feasible = is.feasible;
        inside = in_within top root plan tight.within is.inside;
      }) draft.plans searched.draft_is.plans

  is_lawful : IsLawfulTree parts (IsNodeOf parts pool budget draft.plans draft.counts) top
      draft.nodes draft.bounds
  is_lawful =
      lawful_as parts (IsDraftedOf parts pool budget draft.plans draft.counts)
      (IsNodeOf parts pool budget draft.plans draft.counts)
      (λ number bound box node is. is.node_is) top draft.nodes draft.bounds (record {
        tight = tight.tight;
        bounded = searched.draft_is.bounded;
        nodes_are = searched.tree;
      })

  -- the pool goes with the first node
  first_pool : IsFirstPool parts budget.limits
      (cutoff_after parts draft.plans (slice_index draft.counts 0)) top pool
  first_pool =
      (first_at parts (IsDraftedAt parts pool budget draft.plans draft.counts draft.bounds) top
      draft.nodes searched.tree).1.1.pool_is refl

  sound : IsBoundIn parts root (least_of draft.bounds)
  sound =
      searched_bounds parts pool root top budget draft.plans draft.counts draft.bounds draft.nodes
      valid tight is_lawful

  closed : AreReached draft
      → least_of draft.bounds ≡ bound_of (cutoff_after parts draft.plans (length draft.plans))
  closed reached =
      bound_closed parts (cutoff_after parts draft.plans (length draft.plans))
      (least_of draft.bounds)
      (subst (λ best. Reaches best (least_of draft.bounds)) searched.best
      (reaches_least draft.best draft.bounds (λ k below.
      reaches_from draft.best (get_or draft.bounds k NoPlan) (reached k NoPlan below))))
      (last_allowed parts root draft.plans (least_of draft.bounds) in_root sound)

  module _ (found : Found) (plans : found.plans ≡ draft.plans) (tree : found.tree ≡ draft.nodes)
      (counts : found.counts ≡ draft.counts) (bounds : found.bounds ≡ draft.bounds)
      (pooled : found.pool ≡ pool) (bound : found.bound ≡ least_of found.bounds) where
    pub found_sound : IsBoundIn parts root found.bound
    found_sound =
        subst (IsBoundIn parts root) (sym (bound ∙ ap least_of bounds)) sound

    pub found_record : IsSearchRecord parts root budget found
    found_record =
        subst (IsSearchRecord parts root budget) same drafted
      where
        handed : Found
        handed =
            made_of draft.plans draft.nodes draft.counts draft.bounds pool
            (least_of draft.bounds)

        same : handed ≡ found
        same =
            ap (λ (ps : List (List (List Stop))). made_of ps draft.nodes draft.counts draft.bounds
            pool (least_of draft.bounds)) (sym plans)
            ∙ ap (λ (ns : List TreeNode). made_of found.plans ns draft.counts draft.bounds pool
            (least_of draft.bounds)) (sym tree)
            ∙ ap (λ (cs : List ℕ). made_of found.plans found.tree cs draft.bounds pool
            (least_of draft.bounds)) (sym counts)
            ∙ ap (λ (bs : List Bound). made_of found.plans found.tree found.counts bs pool
            (least_of bs)) (sym bounds)
            ∙ ap (λ (own : List CutName). made_of found.plans found.tree found.counts found.bounds
            own (least_of found.bounds)) (sym pooled)
            ∙ ap (made_of found.plans found.tree found.counts found.bounds found.pool) (sym bound)

        by : (budget.nodes < length draft.nodes + 2) ⊎ (length draft.nodes + 2 ≤ budget.nodes)
            → IsClosed parts handed ⊎ (budget.nodes < length draft.nodes + 2)
        by (inl spent) = inr spent
        by (inr left) = inl (closed (searched.unspent left))

        drafted : IsSearchRecord parts root budget handed
        drafted = record {
          tight = top;
          tight_is = tight;
          plans = in_root;
          cheaper = searched.draft_is.cheaper;
          greedy = searched.draft_is.greedy;
          counted = searched.draft_is.counted;
          counts_to = searched.draft_is.counts_to;
          rising = searched.draft_is.rising;
          tree = is_lawful;
          bound_is = refl;
          near = near_least draft.bounds searched.draft_is.near;
          pool = first_pool;
          nodes = searched.room;
          ended = by (cases_lt budget.nodes (length draft.nodes + 2));
        }
