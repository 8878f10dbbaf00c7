-- The bound of each leaf of a tree.
use Rattle.std.specs.Prelude.{ℕ, List, Ok}
use Rattle.flow_types.specs.declared.bound.Bound.{Bound}
use Rattle.flow_types.specs.declared.parts.Parts.{Parts}
use Rattle.time_windows.specs.Boxes.{Box}
use Rattle.branch_tree.specs.declared.tree.TreeNode.{TreeNode}
use Rattle.branch_tree.specs.declared.tree.TreeNode.TheVariants.{Leaf, Split}
use Rattle.cut_rows.specs.declared.names.CutName.{CutName}
use Rattle.dual_leaf.specs.Leaf.{IsLeafBound}

abbrev pub IsLeafBoundAt : Parts → List CutName → ℕ → Bound → Box → TreeNode → Type 0
IsLeafBoundAt parts pool number bound box (Leaf leaf) = IsLeafBound parts pool box leaf (Ok bound)
IsLeafBoundAt parts pool number bound box (Split flight node time cutoff) = Unit {0}
