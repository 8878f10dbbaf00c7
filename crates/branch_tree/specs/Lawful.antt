-- Lawful trees on a tight box, and their bounds. The boxes of their nodes are those that going down
-- leads to; what is said of each node is a parameter, so that a search can say more than a reader.
use Rattle.std.specs.Prelude.{◌≡◌, ℕ, List, length, slice_index_or}
use Rattle.flow_types.specs.declared.bound.Bound.{Bound}
use Rattle.flow_types.specs.declared.bound.Bound.TheVariants.{NoPlan}
use Rattle.flow_types.specs.declared.parts.Parts.{Parts}
use Rattle.flow_types.specs.Bounds.{least_of}
use Rattle.time_windows.specs.Boxes.{Box}
use Rattle.time_windows.specs.Plans.{IsBoundIn}
use Rattle.time_windows.specs.Tight.{IsTight}
use Rattle.branch_tree.specs.declared.tree.TreeNode.{TreeNode}
use Rattle.branch_tree.specs.declared.tree.TreeNode.TheVariants.{Leaf, Split}
use Rattle.branch_tree.specs.Forests.{IsTreeOn}

-- a split has no bound of its own
abbrev pub IsOwnBound : TreeNode → Bound → Type 0
IsOwnBound (Leaf leaf) bound = Unit {0}
IsOwnBound (Split flight node time cutoff) bound = bound ≡ NoPlan

-- what is said of each node, by its number in preorder, its bound and its box
module _ (parts : Parts) (IsAt : ℕ → Bound → Box → TreeNode → Type 0) where
  -- where the bounds are those of a list
  abbrev pub IsLawfulAt : List Bound → ℕ → Box → TreeNode → Type 0
  IsLawfulAt bounds number box node =
      IsOwnBound node (slice_index_or bounds number NoPlan)
      × IsAt number (slice_index_or bounds number NoPlan) box node

  -- the nodes of one tree, from its tight box down, with a bound for each
  pub record IsLawfulTree (box : Box) (nodes : List TreeNode) (bounds : List Bound)
      : Type 0 where
    pub tight : IsTight parts box
    pub bounded : length bounds ≡ length nodes
    pub nodes_are : IsTreeOn parts (IsLawfulAt bounds) box nodes

  -- the least of its leaves' bounds
  pub record IsTreeBound (box : Box) (nodes : List TreeNode) (bound : Bound) : Type 0 where
    pub bounds : List Bound
    pub lawful : IsLawfulTree box nodes bounds
    pub least : bound ≡ least_of bounds

-- nothing is said of nodes
abbrev pub IsAnyNode : ℕ → Bound → Box → TreeNode → Type 0
IsAnyNode number bound box node = Unit {0}

-- no plan in a leaf's box that keeps every rule costs less than its bound
abbrev pub IsBoundedNode : Parts → ℕ → Bound → Box → TreeNode → Type 0
IsBoundedNode parts number bound box (Leaf leaf) = IsBoundIn parts box bound
IsBoundedNode parts number bound box (Split flight node time cutoff) = Unit {0}
