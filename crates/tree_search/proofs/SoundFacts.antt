-- The bound of a search record is one: each leaf's bound is one in its box, and so is the tree's.
use Rattle.std.proofs.Common.{ℕ, List, sym, subst}
use Rattle.flow_types.specs.declared.bound.Bound.{Bound}
use Rattle.flow_types.specs.declared.parts.Parts.{Parts}
use Rattle.flow_types.specs.declared.plan.Stop.{Stop}
use Rattle.flow_types.specs.Bounds.{least_of}
use Rattle.flow_types.specs.Valid.{IsScenario}
use Rattle.time_windows.specs.Boxes.{Box}
use Rattle.time_windows.specs.Plans.{IsBoundIn}
use Rattle.time_windows.specs.Tight.{IsTightened}
use Rattle.branch_tree.specs.declared.tree.TreeNode.{TreeNode}
use Rattle.branch_tree.specs.declared.tree.TreeNode.TheVariants.{Leaf, Split}
use Rattle.branch_tree.specs.Lawful.{IsBoundedNode, IsLawfulTree, IsTreeBound}
use Rattle.branch_tree.proofs.LawfulFacts.{lawful_as, least_bounds, root_bound}
use Rattle.dual_leaf.proofs.LeafFacts.{leaf_bounds}
use Rattle.cut_rows.specs.declared.names.CutName.{CutName}
use Rattle.tree_search.specs.declared.found.Budget.{Budget}
use Rattle.tree_search.specs.declared.found.Found.{Found}
use Rattle.tree_search.specs.Nodes.{IsNodeOf}
use Rattle.tree_search.specs.Records.{IsSearchRecord}
use Rattle.dual_leaf.specs.Trees.{IsLeafBoundAt}

module _ (parts : Parts) (pool : List CutName) (budget : Budget)
    (plans : List (List (List Stop))) (counts : List ℕ) where
  -- what is known of a node says that a leaf has its bound
  has_bound : (number : ℕ) (bound : Bound) (box : Box) (node : TreeNode)
      → IsNodeOf parts pool budget plans counts number bound box node
      → IsLeafBoundAt parts pool number bound box node
  has_bound number bound box (Leaf leaf) node = node.bound_is
  has_bound number bound box (Split flight at time cutoff) node = tt

  is_bounded : IsScenario parts → (number : ℕ) (bound : Bound) (box : Box) (node : TreeNode)
      → IsNodeOf parts pool budget plans counts number bound box node
      → IsBoundedNode parts number bound box node
  is_bounded valid number bound box (Leaf leaf) node =
      leaf_bounds parts pool box leaf bound valid node.inside node.bound_is
  is_bounded valid number bound box (Split flight at time cutoff) node = tt

-- the least of the bounds of a tree is a bound on its root
pub searched_bounds : (parts : Parts) (pool : List CutName) (root tight : Box) (budget : Budget)
    (plans : List (List (List Stop))) (counts : List ℕ) (bounds : List Bound)
    (tree : List TreeNode) → IsScenario parts → IsTightened parts root tight
    → IsLawfulTree parts (IsNodeOf parts pool budget plans counts) tight tree bounds
    → IsBoundIn parts root (least_of bounds)
searched_bounds parts pool root tight budget plans counts bounds tree valid tight_is lawful =
    root_bound parts root tight (least_of bounds) valid tight_is
    (least_bounds parts tight tree bounds valid
    (lawful_as parts (IsNodeOf parts pool budget plans counts) (IsBoundedNode parts)
    (is_bounded parts pool budget plans counts valid) tight tree bounds lawful))

pub record_bounds : (parts : Parts) (root : Box) (budget : Budget) (found : Found)
    → IsScenario parts → IsSearchRecord parts root budget found
    → IsBoundIn parts root found.bound
record_bounds parts root budget found valid searched =
    subst (IsBoundIn parts root) (sym searched.bound_is)
    (searched_bounds parts found.pool root searched.tight budget found.plans found.counts
    found.bounds found.tree valid searched.tight_is searched.tree)

-- the bound of a record is that of its tree
pub record_tree : (parts : Parts) (root : Box) (budget : Budget) (found : Found)
    → (searched : IsSearchRecord parts root budget found)
    → IsTreeBound parts (IsLeafBoundAt parts found.pool) searched.tight found.tree found.bound
record_tree parts root budget found searched = record {
  bounds = found.bounds;
  lawful = lawful_as parts (IsNodeOf parts found.pool budget found.plans found.counts)
      (IsLeafBoundAt parts found.pool)
      (has_bound parts found.pool budget found.plans found.counts) searched.tight found.tree
      found.bounds
      searched.tree;
  least = searched.bound_is;
}
