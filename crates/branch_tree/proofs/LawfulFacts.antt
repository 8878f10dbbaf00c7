-- Lawful trees, whatever is said of their nodes: more can be said of them, they are trees, and the
-- least of their leaves' bounds is a bound.
use Rattle.std.proofs.Common.{◌≡◌, ℕ, zero, suc, ◌+◌, true, List, [], ◌∷◌, get_or, ℤ, ◌≤ℤ◌, sym, subst, arith}
use Rattle.std.proofs.lemmas.Int.{ints}
use Rattle.exact_sums.proofs.LeastFacts.{least_of_two}
use Rattle.flow_types.specs.declared.bound.Bound.{Bound}
use Rattle.flow_types.specs.declared.bound.Bound.TheVariants.{AtLeast, NoPlan}
use Rattle.flow_types.specs.declared.parts.Parts.{Parts}
use Rattle.flow_types.specs.declared.plan.Stop.{Stop}
use Rattle.flow_types.specs.Bounds.{least_of, lesser}
use Rattle.flow_types.specs.Costs.{plan_cost}
use Rattle.flow_types.specs.Valid.{IsScenario}
use Rattle.time_windows.specs.Boxes.{Box}
use Rattle.time_windows.specs.Plans.{IsBoundIn, IsPlanIn}
use Rattle.time_windows.specs.Tight.{IsTightened}
use Rattle.time_windows.proofs.PlanFacts.{plan_kept}
use Rattle.branch_tree.specs.declared.tree.TreeNode.{TreeNode}
use Rattle.branch_tree.specs.declared.tree.TreeNode.TheVariants.{Leaf, Split}
use Rattle.branch_tree.specs.Forests.{Leads}
use Rattle.branch_tree.specs.Lawful.{IsBoundedNode, IsLawfulAt, IsLawfulTree, IsTreeBound}
use Rattle.branch_tree.specs.Trees.{is_tree}
use Rattle.branch_tree.proofs.ForestFacts.{in_tree_leaf, tree_on}

-- a plan may cost so much
abbrev pub Allows : ℤ → Bound → Type 0
Allows cost NoPlan = ⊥
Allows cost (AtLeast least) = least ≤ℤ cost

pub allows_lesser_left : (cost : ℤ) (a b : Bound) → Allows cost a → Allows cost (lesser a b)
allows_lesser_left cost NoPlan b allows = absurd allows
allows_lesser_left cost (AtLeast a) NoPlan allows = allows
allows_lesser_left cost (AtLeast a) (AtLeast b) allows =
    omega (arith, ints, (least_of_two a b).0, allows)

pub allows_lesser_right : (cost : ℤ) (a b : Bound) → Allows cost b → Allows cost (lesser a b)
allows_lesser_right cost NoPlan b allows = allows
allows_lesser_right cost (AtLeast a) NoPlan allows = absurd allows
allows_lesser_right cost (AtLeast a) (AtLeast b) allows =
    omega (arith, ints, (least_of_two a b).1, allows)

-- what one of the bounds allows, the least of them does
allows_least : (cost : ℤ) (bounds : List Bound) (number : ℕ)
    → Allows cost (get_or bounds number NoPlan) → Allows cost (least_of bounds)
allows_least cost [] number allows = absurd allows
allows_least cost (bound ∷ bounds) zero allows =
    allows_lesser_left cost bound (least_of bounds) allows
allows_least cost (bound ∷ bounds) (suc number) allows =
    allows_lesser_right cost bound (least_of bounds) (allows_least cost bounds number allows)

-- a bound on a box, by plans
pub bound_allows : (parts : Parts) (box : Box) (bound : Bound) (plan : List (List Stop))
    → IsBoundIn parts box bound → IsPlanIn parts box plan
    → Allows (plan_cost parts.tables parts.flights plan) bound
bound_allows parts box NoPlan plan is kept = is plan kept
bound_allows parts box (AtLeast least) plan is kept = is plan kept

pub bound_from : (parts : Parts) (box : Box) (bound : Bound)
    → ((plan : List (List Stop)) → IsPlanIn parts box plan
    → Allows (plan_cost parts.tables parts.flights plan) bound)
    → IsBoundIn parts box bound
bound_from parts box NoPlan allows = allows
bound_from parts box (AtLeast least) allows = allows

-- a bound on a tight box is one on the box that it was made of
pub root_bound : (parts : Parts) (root tight : Box) (bound : Bound) → IsScenario parts
    → IsTightened parts root tight → IsBoundIn parts tight bound → IsBoundIn parts root bound
root_bound parts root tight bound valid tight_is is =
    bound_from parts root bound (λ plan within. bound_allows parts tight bound plan is (record {
      feasible = within.feasible;
      inside = plan_kept parts valid plan root within.feasible.trips within.feasible.turns tight
          tight_is within.inside;
    }))

-- the same nodes, of which something else is said
module _ (parts : Parts) (IsAt Other : ℕ → Box → TreeNode → Type 0)
    (also : (number : ℕ) (box : Box) (node : TreeNode) → IsAt number box node
    → Other number box node) where
  leads_as : (number : ℕ) (boxes : List Box) (nodes : List TreeNode) (rest : List Box)
      → Leads parts IsAt number boxes nodes rest → Leads parts Other number boxes nodes rest
  leads_as number boxes [] rest leads = leads
  leads_as number [] (node ∷ nodes) rest leads = absurd leads
  leads_as number (box ∷ boxes) (Leaf leaf ∷ nodes) rest leads =
      (also number box (Leaf leaf) leads.0, leads_as (number + 1) boxes nodes rest leads.1)
  leads_as number (box ∷ boxes) (Split flight node time cutoff ∷ nodes) rest
      (here, (early, late, sides, leads)) = (
        also number box (Split flight node time cutoff) here,
        (early, late, sides, leads_as (number + 1) (early ∷ late ∷ boxes) nodes rest leads),
      )

module _ (parts : Parts) (IsAt Other : ℕ → Bound → Box → TreeNode → Type 0)
    (also : (number : ℕ) (bound : Bound) (box : Box) (node : TreeNode)
    → IsAt number bound box node → Other number bound box node) where
  pub lawful_as : (box : Box) (nodes : List TreeNode) (bounds : List Bound)
      → IsLawfulTree parts IsAt box nodes bounds → IsLawfulTree parts Other box nodes bounds
  lawful_as box nodes bounds lawful = record {
    tight = lawful.tight;
    bounded = lawful.bounded;
    nodes_are = leads_as parts (IsLawfulAt parts IsAt bounds) (IsLawfulAt parts Other bounds)
        (λ number here node is. (is.0, also number (get_or bounds number NoPlan) here node is.1)) 0
        (box ∷ []) nodes [] lawful.nodes_are;
  }

-- the nodes are one tree's
pub lawful_tree : (parts : Parts) (IsAt : ℕ → Bound → Box → TreeNode → Type 0) (box : Box)
    (nodes : List TreeNode) (bounds : List Bound) → IsLawfulTree parts IsAt box nodes bounds
    → is_tree nodes ≡ true
lawful_tree parts IsAt box nodes bounds lawful =
    tree_on parts (IsLawfulAt parts IsAt bounds) box nodes lawful.nodes_are

-- where the leaves' bounds are bounds, the least of them is
pub least_bounds : (parts : Parts) (box : Box) (nodes : List TreeNode) (bounds : List Bound)
    → IsScenario parts → IsLawfulTree parts (IsBoundedNode parts) box nodes bounds
    → IsBoundIn parts box (least_of bounds)
least_bounds parts box nodes bounds valid lawful =
    bound_from parts box (least_of bounds) (λ plan within.
    let leaf = in_tree_leaf parts (IsLawfulAt parts (IsBoundedNode parts) bounds) valid plan
    within.feasible.trips within.feasible.turns box nodes lawful.nodes_are within.inside in
    allows_least (plan_cost parts.tables parts.flights plan) bounds leaf.number
    (bound_allows parts leaf.box (get_or bounds leaf.number NoPlan) plan leaf.here.1
    (record { feasible = within.feasible; inside = leaf.inside })))

pub tree_bounds : (parts : Parts) (box : Box) (nodes : List TreeNode) (bound : Bound)
    → IsScenario parts → IsTreeBound parts (IsBoundedNode parts) box nodes bound
    → IsBoundIn parts box bound
tree_bounds parts box nodes bound valid is =
    subst (IsBoundIn parts box) (sym is.least)
    (least_bounds parts box nodes is.bounds valid is.lawful)
