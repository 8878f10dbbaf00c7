-- What is known of each node of a search's tree. Each node has a count, of the plans that were
-- found before it, and a bound; its cutoff is what the last of these plans costs.
use Rattle.std.specs.Prelude.{◌≡◌, ℕ, zero, suc, ◌<◌, ◌≤◌, false, true, List, slice_get, slice_index, Option, None, Some, Ok, ℤ}
use Rattle.flow_types.specs.declared.bound.Bound.{Bound}
use Rattle.flow_types.specs.declared.parts.Parts.{Parts}
use Rattle.flow_types.specs.declared.plan.Stop.{Stop}
use Rattle.flow_types.specs.Costs.{plan_cost}
use Rattle.time_windows.specs.Boxes.{Box, IsBoxOf, options_of}
use Rattle.lagrange_bound.specs.Rounds.{IsRoundBound}
use Rattle.lagrange_bound.specs.Best.{HaveBounds, IsMostOfRounds}
use Rattle.flow_types.specs.Bounds.{IsAtMost, is_reached}
use Rattle.branch_tree.specs.declared.leaf.Leaf.{Leaf as LeafKind}
use Rattle.branch_tree.specs.declared.leaf.Leaf.TheVariants.{Dual, Empty, Lag, Unit as UnitLeaf}
use Rattle.bytime_model.specs.declared.multiplier.Multiplier.{Multiplier}
use Rattle.branch_tree.specs.declared.tree.TreeNode.{TreeNode}
use Rattle.branch_tree.specs.declared.tree.TreeNode.TheVariants.{Leaf, Split}
use Rattle.branch_tree.specs.Lawful.{IsLawfulAt, IsOwnBound}
use Rattle.branch_tree.specs.Leaves.{IsInRange}
use Rattle.time_windows.specs.Tight.{IsLive}
use Rattle.dual_leaf.specs.Leaf.{IsLeafBound}
use Rattle.bytime_model.specs.Multipliers.{AreAscending, ArePositive}
use Rattle.relaxed_bound.specs.Licence.{IsLicensed}
use Rattle.relaxed_bound.specs.Relaxed.{relaxed_leaf}
use Rattle.cut_rows.specs.declared.names.CutName.{CutName}
use Rattle.tree_search.specs.declared.found.Budget.{Budget}

abbrev pub cost_of : Parts → Option (List (List Stop)) → Option ℤ
cost_of parts None = None
cost_of parts (Some plan) = Some (plan_cost parts.tables parts.flights plan)

-- what the last of so many plans costs
abbrev pub cutoff_after : Parts → List (List (List Stop)) → ℕ → Option ℤ
cutoff_after parts plans zero = None
cutoff_after parts plans (suc k) = cost_of parts (slice_get plans k)

-- a node of a flight with several options
pub record HasChoice (box : Box) : Type 0 where
  pub flight : ℕ
  pub node : ℕ
  pub several : 1 < options_of (box flight node)

-- a box that is neither empty nor a unit one; the bound of its leaf is no less than what any round
-- of prices tells
pub record IsOpenLeaf (parts : Parts) (budget : Budget) (bound : Bound) (box : Box)
    : Type 0 where
  pub live : IsLive box
  pub choice : HasChoice box
  pub rounds : IsMostOfRounds parts box budget.rounds bound

-- its leaf is that of its relaxation's run
pub record IsRunLeaf (parts : Parts) (pool : List CutName) (budget : Budget) (cutoff : Option ℤ)
    (bound : Bound) (box : Box) (leaf : LeafKind) : Type 0 where
  pub box_is : IsOpenLeaf parts budget bound box
  pub is : leaf ≡ relaxed_leaf parts pool box budget.limits cutoff

-- or a leaf of prices, none of which is 0, in the order of their rows; its bound is above that of
-- the run's leaf
pub record IsPriceLeaf (parts : Parts) (pool : List CutName) (budget : Budget) (cutoff : Option ℤ)
    (bound : Bound) (box : Box) (rows : List Multiplier) : Type 0 where
  pub box_is : IsOpenLeaf parts budget bound box
  pub positive : ArePositive rows
  pub ascending : AreAscending rows
  pub run : Bound
  pub run_is : IsLeafBound parts pool box (relaxed_leaf parts pool box budget.limits cutoff)
      (Ok run)
  pub above : IsAtMost bound run → ⊥

-- the leaf of an empty box is Empty, and that of a unit box Unit: the plan in it, if it keeps every
-- rule, is no cheaper than the cutoff
abbrev pub IsLeafKind : Parts → List CutName → Budget → Option ℤ → Bound → Box → LeafKind → Type 0
IsLeafKind parts pool budget cutoff bound box Empty = Unit {0}
IsLeafKind parts pool budget cutoff bound box UnitLeaf = is_reached cutoff bound ≡ true
IsLeafKind parts pool budget cutoff bound box (Dual weight rows) =
    IsRunLeaf parts pool budget cutoff bound box (Dual weight rows)
IsLeafKind parts pool budget cutoff bound box (Lag weight rows) =
    IsPriceLeaf parts pool budget cutoff bound box rows

pub record IsLeafNode (parts : Parts) (pool : List CutName) (budget : Budget) (cutoff : Option ℤ)
    (bound : Bound) (box : Box) (leaf : LeafKind) : Type 0 where
  pub inside : IsBoxOf parts box
  pub range : IsInRange leaf
  pub bound_is : IsLeafBound parts pool box leaf (Ok bound)
  pub kind : IsLeafKind parts pool budget cutoff bound box leaf

-- A split names its cutoff, and is licensed. Each round of prices tells a bound, and none one that
-- reaches the cutoff.
pub record IsSplitNode (parts : Parts) (pool : List CutName) (budget : Budget) (cutoff : Option ℤ)
    (box : Box) (named : Option ℤ) : Type 0 where
  pub inside : IsBoxOf parts box
  pub choice : HasChoice box
  pub cutoff_is : named ≡ cutoff
  pub told : HaveBounds parts box budget.rounds
  pub rounds : (round : ℕ) (told : Bound) → round ≤ budget.rounds
      → IsRoundBound parts box round told → is_reached cutoff told ≡ false
  pub licence : IsLicensed parts pool box budget.limits cutoff

abbrev pub IsNodeWith : Parts → List CutName → Budget → Option ℤ → Bound → Box → TreeNode → Type 0
IsNodeWith parts pool budget cutoff bound box (Leaf leaf) =
    IsLeafNode parts pool budget cutoff bound box leaf
IsNodeWith parts pool budget cutoff bound box (Split flight node time named) =
    IsSplitNode parts pool budget cutoff box named

-- and a split has no bound of its own
abbrev pub IsLawfulWith : Parts → List CutName → Budget → Option ℤ → Bound → Box → TreeNode → Type 0
IsLawfulWith parts pool budget cutoff bound box node =
    IsOwnBound node bound × IsNodeWith parts pool budget cutoff bound box node

-- the node of this number
module _ (parts : Parts) (pool : List CutName) (budget : Budget) (plans : List (List (List Stop)))
    (counts : List ℕ) where
  abbrev pub IsNodeOf : ℕ → Bound → Box → TreeNode → Type 0
  IsNodeOf number bound box node =
      IsNodeWith parts pool budget (cutoff_after parts plans
      (slice_index counts number)) bound box node

  abbrev pub IsNodeAt : List Bound → ℕ → Box → TreeNode → Type 0
  IsNodeAt bounds number box node = IsLawfulAt parts IsNodeOf bounds number box node
