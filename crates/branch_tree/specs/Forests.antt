-- Going down the nodes of trees, with the boxes that wait: the first of them is the next node's. A
-- split puts the tight boxes of its two sides in the place of its own; a leaf is done with its box.
use Rattle.std.specs.Prelude.{◌≡◌, ℕ, ◌+◌, ◌<◌, List, [], ◌∷◌, length}
use Rattle.flow_types.specs.declared.parts.Parts.{Parts}
use Rattle.time_windows.specs.Boxes.{Box}
use Rattle.time_windows.specs.Splits.{IsBranching, early_branch, late_branch}
use Rattle.time_windows.specs.Tight.{IsLive, IsTightened}
use Rattle.branch_tree.specs.declared.tree.TreeNode.{TreeNode}
use Rattle.branch_tree.specs.declared.tree.TreeNode.TheVariants.{Leaf, Split}

-- a box that isn't empty, since no node that must be entered is closed, is split in two, each side
-- made tight
pub record AreSides (parts : Parts) (flight node time : ℕ) (box early late : Box) : Type 0 where
  pub live : IsLive box
  pub there : flight < length parts.flights
  pub branching : IsBranching (box flight node) time
  pub early_is : IsTightened parts (early_branch flight node time box) early
  pub late_is : IsTightened parts (late_branch flight node time box) late

-- what is said of each node, by its number in preorder and its box
module _ (parts : Parts) (IsAt : ℕ → Box → TreeNode → Type 0) where
  -- the nodes from this number on lead from the boxes that wait to others
  abbrev pub Leads : ℕ → List Box → List TreeNode → List Box → Type 0
  Leads number boxes [] rest = boxes ≡ rest
  Leads number [] (node ∷ nodes) rest = ⊥
  Leads number (box ∷ boxes) (Leaf leaf ∷ nodes) rest =
      IsAt number box (Leaf leaf) × Leads (number + 1) boxes nodes rest
  Leads number (box ∷ boxes) (Split flight node time cutoff ∷ nodes) rest =
      IsAt number box (Split flight node time cutoff)
      × ((early : Box) × (late : Box) × AreSides parts flight node time box early late
      × Leads (number + 1) (early ∷ late ∷ boxes) nodes rest)

  -- a tree on a box, whose nodes are all as is said
  abbrev pub IsTreeOn : Box → List TreeNode → Type 0
  IsTreeOn box nodes = Leads 0 (box ∷ []) nodes []
