-- Lawful trees, worked out: one leaf, whose bound is the tree's; and a split with two leaves.
use Rattle.std.proofs.Common.{ℕ, List, [], ◌∷◌, None, pos, refl, arith}
use Rattle.flow_types.specs.declared.bound.Bound.{Bound}
use Rattle.flow_types.specs.declared.bound.Bound.TheVariants.{AtLeast, NoPlan}
use Rattle.flow_types.specs.declared.parts.Parts.{Parts}
use Rattle.time_windows.specs.Boxes.{Box, IsClosedMust}
use Rattle.time_windows.specs.Tight.{IsTight}
use Rattle.branch_tree.specs.declared.leaf.Leaf.TheVariants.{Empty}
use Rattle.branch_tree.specs.declared.tree.TreeNode.{TreeNode}
use Rattle.branch_tree.specs.declared.tree.TreeNode.TheVariants.{Leaf, Split}
use Rattle.branch_tree.specs.Forests.{AreSides}
use Rattle.branch_tree.specs.Lawful.{IsAnyNode, IsLawfulTree, IsTreeBound}

abbrev leaf : TreeNode
leaf = Leaf Empty

abbrev split : TreeNode
split = Split 0 1 2 None

abbrev least : ℕ → Bound
least cost = AtLeast (pos cost)

module _ (parts : Parts) (box : Box) (tight : IsTight parts box) where
  abbrev IsLawful : List TreeNode → List Bound → Type 0
  IsLawful nodes bounds = IsLawfulTree parts IsAnyNode box nodes bounds

  one_leaf : IsTreeBound parts IsAnyNode box (leaf ∷ []) (least 3)
  one_leaf = record {
    bounds = least 3 ∷ [];
    lawful = record { tight = tight; bounded = refl; nodes_are = ((tt, tt), refl) };
    least = refl;
  }

  -- each node has a bound
  no_bound_isnt : IsLawful (leaf ∷ []) [] → ⊥
  no_bound_isnt lawful = omega (arith, lawful.bounded)

  -- two leaves are two trees
  two_leaves_arent : IsLawful (leaf ∷ leaf ∷ []) (least 3 ∷ least 5 ∷ []) → ⊥
  two_leaves_arent lawful = lawful.nodes_are.1

  -- the tree's bound is the lesser of those of its two sides
  two_sides : (early late : Box) → AreSides parts 0 1 2 box early late
      → IsTreeBound parts IsAnyNode box (split ∷ leaf ∷ leaf ∷ []) (least 3)
  two_sides early late sides = record {
    bounds = NoPlan ∷ least 5 ∷ least 3 ∷ [];
    lawful = record {
      tight = tight;
      bounded = refl;
      nodes_are = ((refl, tt), (early, late, sides, ((tt, tt), ((tt, tt), refl))));
    };
    least = refl;
  }

  -- a split has no bound of its own
  own_bound_isnt : IsLawful (split ∷ leaf ∷ leaf ∷ []) (least 1 ∷ least 5 ∷ least 3 ∷ []) → ⊥
  own_bound_isnt lawful = let own = lawful.nodes_are.0.0 in let e : ⊥ = cc in e

  -- an empty box isn't split
  empty_isnt : (f n : ℕ) → IsClosedMust (box f n)
      → IsLawful (split ∷ leaf ∷ leaf ∷ []) (NoPlan ∷ least 5 ∷ least 3 ∷ []) → ⊥
  empty_isnt f n shut lawful =
      let sides = lawful.nodes_are.1.2 in
      sides.live f n shut
