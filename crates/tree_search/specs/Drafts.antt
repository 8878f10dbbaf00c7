-- What a search has written down so far: plans, each cheaper than the one before, and the first
-- nodes of its tree. No public clause cites these.
use Rattle.std.specs.Prelude.{◌≡◌, ◌⊎◌, ℕ, ◌≤◌, false, true, List, [], ◌∷◌, ◌++◌, length, slice_index, All, AllPairs, Option, None, Some, ℤ}
use Rattle.flow_types.specs.declared.bound.Bound.{Bound}
use Rattle.flow_types.specs.declared.bound.Bound.TheVariants.{AtLeast}
use Rattle.flow_types.specs.declared.parts.Parts.{Parts}
use Rattle.flow_types.specs.declared.plan.Stop.{Stop}
use Rattle.flow_types.specs.Costs.{plan_cost}
use Rattle.time_windows.specs.Boxes.{Box}
use Rattle.greedy_plan.specs.Greedy.{IsGreedy}
use Rattle.branch_tree.specs.declared.tree.TreeNode.{TreeNode}
use Rattle.branch_tree.specs.Forests.{IsTreeOn, Leads}
use Rattle.branch_tree.specs.Lawful.{IsLawfulAt, IsOwnBound}
use Rattle.dual_leaf.specs.Leaf.{IsCostIn, IsUnitBox}
use Rattle.flow_types.specs.Bounds.{IsNearBound, is_reached}
use Rattle.cut_rows.specs.declared.names.CutName.{CutName}
use Rattle.tree_search.specs.declared.found.Budget.{Budget}
use Rattle.tree_search.specs.declared.draft.RecordDraft.{RecordDraft}
use Rattle.tree_search.specs.Nodes.{IsNodeWith, cutoff_after}
use Rattle.tree_search.specs.Pools.{IsFirstPool}
use Rattle.tree_search.specs.Records.{IsCheaper, IsFirst}
use Rattle.time_windows.specs.Plans.{IsPlanIn}

-- nothing is written down
pub record IsBlank (draft : RecordDraft) : Type 0 where
  pub plans : draft.plans ≡ []
  pub nodes : draft.nodes ≡ []
  pub counts : draft.counts ≡ []
  pub bounds : draft.bounds ≡ []
  pub best : draft.best ≡ None

pub record IsDraft (parts : Parts) (top : Box) (draft : RecordDraft) : Type 0 where
  pub plans : All (IsPlanIn parts top) draft.plans
  pub cheaper : AllPairs (IsCheaper parts) draft.plans
  pub greedy : (plan : List (List Stop)) → IsGreedy parts top plan
      → IsFirst draft.plans draft.counts plan
  pub counted : length draft.counts ≡ length draft.nodes
  pub counts_to : All (λ count. count ≤ length draft.plans) draft.counts
  pub rising : AllPairs (λ before after. before ≤ after) draft.counts
  pub bounded : length draft.bounds ≡ length draft.nodes
  pub near : All IsNearBound draft.bounds

-- the best is what the last plan costs
abbrev pub IsBest : Parts → RecordDraft → Type 0
IsBest parts draft = draft.best ≡ cutoff_after parts draft.plans (length draft.plans)

-- only plans may be another
pub record IsSameTree (old new : RecordDraft) : Type 0 where
  pub nodes : new.nodes ≡ old.nodes
  pub counts : new.counts ≡ old.counts
  pub bounds : new.bounds ≡ old.bounds

-- a plan that is cheaper than the best is kept
pub record IsPlanAdded (parts : Parts) (plan : List (List Stop)) (old new : RecordDraft)
    : Type 0 where
  pub cheaper : is_reached old.best (AtLeast (plan_cost parts.tables parts.flights plan)) ≡ false
  pub plans : new.plans ≡ old.plans ++ plan ∷ []
  pub best : new.best ≡ Some (plan_cost parts.tables parts.flights plan)
  pub tree : IsSameTree old new

-- and no other
pub record IsLeftOut (parts : Parts) (plan : List (List Stop)) (old new : RecordDraft)
    : Type 0 where
  pub dearer : is_reached old.best (AtLeast (plan_cost parts.tables parts.flights plan)) ≡ true
  pub same : new ≡ old

abbrev pub IsOffered : Parts → List (List Stop) → RecordDraft → RecordDraft → Type 0
IsOffered parts plan old new = IsPlanAdded parts plan old new ⊎ IsLeftOut parts plan old new

-- a node more, with the count of plans so far
pub record IsNoted (node : TreeNode) (bound : Bound) (old new : RecordDraft) : Type 0 where
  pub plans : new.plans ≡ old.plans
  pub best : new.best ≡ old.best
  pub nodes : new.nodes ≡ old.nodes ++ node ∷ []
  pub counts : new.counts ≡ old.counts ++ length old.plans ∷ []
  pub bounds : new.bounds ≡ old.bounds ++ bound ∷ []

-- what is known of a node of this number; at the first one the pool is made
pub record IsDraftedWith (parts : Parts) (pool : List CutName) (budget : Budget) (number : ℕ)
    (cutoff : Option ℤ) (bound : Bound) (box : Box) (node : TreeNode) : Type 0 where
  pub node_is : IsNodeWith parts pool budget cutoff bound box node
  pub pool_is : number ≡ 0 → IsFirstPool parts budget.limits cutoff box pool

-- and a split has no bound of its own
abbrev pub IsDrafted : Parts → List CutName → Budget → ℕ → Option ℤ → Bound → Box → TreeNode
    → Type 0
IsDrafted parts pool budget number cutoff bound box node =
    IsOwnBound node bound × IsDraftedWith parts pool budget number cutoff bound box node

module _ (parts : Parts) (pool : List CutName) (budget : Budget)
    (plans : List (List (List Stop))) (counts : List ℕ) where
  abbrev pub IsDraftedOf : ℕ → Bound → Box → TreeNode → Type 0
  IsDraftedOf number bound box node =
      IsDraftedWith parts pool budget number
      (cutoff_after parts plans (slice_index counts number)) bound box node

  abbrev pub IsDraftedAt : List Bound → ℕ → Box → TreeNode → Type 0
  IsDraftedAt bounds number box node = IsLawfulAt parts IsDraftedOf bounds number box node

-- Whatever is written down after it, if it leads on from these boxes, the whole is a tree.
abbrev pub Completes : Parts → List CutName → Budget → Box → RecordDraft → List Box → Type 0
Completes parts pool budget top draft boxes =
    (plans : List (List (List Stop))) (counts : List ℕ) (bounds : List Bound)
    (nodes : List TreeNode)
    → Leads parts (IsDraftedAt parts pool budget (draft.plans ++ plans) (draft.counts ++ counts)
    (draft.bounds ++ bounds)) (length draft.nodes) boxes nodes []
    → IsTreeOn parts (IsDraftedAt parts pool budget (draft.plans ++ plans) (draft.counts ++ counts)
    (draft.bounds ++ bounds)) top (draft.nodes ++ nodes)

-- in a unit box, the plan that may be there costs no less than the best
abbrev pub IsTried : Parts → Box → RecordDraft → Type 0
IsTried parts box draft = IsUnitBox box → (bound : Bound) → IsCostIn parts box bound
    → is_reached draft.best bound ≡ true

-- no bound so far is below what the best plan costs
abbrev pub AreReached : RecordDraft → Type 0
AreReached draft = All (λ bound. is_reached draft.best bound ≡ true) draft.bounds
