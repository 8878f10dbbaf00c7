-- Trees of splits, as the list of their nodes in preorder.
use Rattle.std.specs.Prelude.{ℕ, zero, suc, ◌+◌, ◌-◌, Bool, false, true, List, [], ◌∷◌}
use Rattle.branch_tree.specs.declared.tree.TreeNode.{TreeNode}
use Rattle.branch_tree.specs.declared.tree.TreeNode.TheVariants.{Leaf, Split}

-- The nodes are those of so many trees, one after the other, and no more. A split stands before its
-- two sides.
abbrev pub is_forest : ℕ → List TreeNode → Bool
is_forest zero [] = true
is_forest zero (node ∷ nodes) = false
is_forest (suc trees) [] = false
is_forest (suc trees) (Leaf leaf ∷ nodes) = is_forest trees nodes
is_forest (suc trees) (Split flight node time cutoff ∷ nodes) = is_forest (suc (suc trees)) nodes

-- how many trees wait after a node, of so many
abbrev pub left_after : ℕ → TreeNode → ℕ
left_after waiting (Leaf leaf) = waiting - 1
left_after waiting (Split flight node time cutoff) = waiting + 1

abbrev pub is_tree : List TreeNode → Bool
is_tree nodes = is_forest 1 nodes
