-- Going down the nodes of trees: in parts, what number of them there is, and where plans are.
use Rattle.std.proofs.Common.{◌≡◌, ℕ, suc, ◌+◌, true, List, [], ◌∷◌, ◌++◌, length, All, ◌⊎◌, inl, inr, sym, ap, subst, arith}
use Rattle.flow_types.specs.declared.parts.Parts.{Parts}
use Rattle.flow_types.specs.declared.plan.Stop.{Stop}
use Rattle.flow_types.specs.Feasible.{AreTrips, KeepsTurn}
use Rattle.flow_types.specs.Valid.{IsScenario}
use Rattle.time_windows.specs.Boxes.{Box, IsInBox}
use Rattle.time_windows.specs.Splits.{early_branch, late_branch}
use Rattle.time_windows.proofs.LawFacts.{share_plan}
use Rattle.time_windows.proofs.PlanFacts.{plan_kept}
use Rattle.branch_tree.specs.declared.leaf.Leaf.{Leaf as LeafKind}
use Rattle.branch_tree.specs.declared.tree.TreeNode.{TreeNode}
use Rattle.branch_tree.specs.declared.tree.TreeNode.TheVariants.{Leaf, Split}
use Rattle.branch_tree.specs.Forests.{AreSides, IsTreeOn, Leads}
use Rattle.branch_tree.specs.Trees.{is_forest, is_tree}

module _ (parts : Parts) (IsAt : ℕ → Box → TreeNode → Type 0) where
  -- one part after the other
  pub leads_on : (number : ℕ) (boxes : List Box) (nodes more : List TreeNode)
      (between rest : List Box) → Leads parts IsAt number boxes nodes between
      → Leads parts IsAt (number + length nodes) between more rest
      → Leads parts IsAt number boxes (nodes ++ more) rest
  leads_on number boxes [] more between rest first second =
      subst (λ bs. Leads parts IsAt number bs more rest) (sym first)
      (subst (λ n. Leads parts IsAt n between more rest) (omega arith) second)
  leads_on number [] (node ∷ nodes) more between rest first second = absurd first
  leads_on number (box ∷ boxes) (Leaf leaf ∷ nodes) more between rest first second =
      let next : number + suc (length nodes) ≡ number + 1 + length nodes = omega arith in (
        first.0,
        leads_on (number + 1) boxes nodes more between rest first.1
            (subst (λ n. Leads parts IsAt n between more rest) next second),
      )
  leads_on number (box ∷ boxes) (Split flight node time cutoff ∷ nodes) more between rest
      (here, (early, late, sides, first)) second =
      let next : number + suc (length nodes) ≡ number + 1 + length nodes = omega arith in (
        here,
        (
          early,
          late,
          sides,
          leads_on (number + 1) (early ∷ late ∷ boxes) nodes more between rest first
              (subst (λ n. Leads parts IsAt n between more rest) next second),
        ),
      )

  -- they are as many trees as boxes waited
  pub forest_on : (number : ℕ) (boxes : List Box) (nodes : List TreeNode)
      → Leads parts IsAt number boxes nodes [] → is_forest (length boxes) nodes ≡ true
  forest_on number boxes [] leads = ap (λ (bs : List Box). is_forest (length bs) []) leads
  forest_on number [] (node ∷ nodes) leads = absurd leads
  forest_on number (box ∷ boxes) (Leaf leaf ∷ nodes) leads =
      forest_on (number + 1) boxes nodes leads.1
  forest_on number (box ∷ boxes) (Split flight node time cutoff ∷ nodes)
      (here, (early, late, sides, leads)) =
      forest_on (number + 1) (early ∷ late ∷ boxes) nodes leads

  pub tree_on : (box : Box) (nodes : List TreeNode) → IsTreeOn parts IsAt box nodes
      → is_tree nodes ≡ true
  tree_on box nodes leads = forest_on 0 (box ∷ []) nodes leads

-- where a plan is that keeps the turnarounds
abbrev pub IsInOne : List Box → List (List Stop) → Type 0
IsInOne [] plan = ⊥
IsInOne (box ∷ boxes) plan = IsInBox box plan ⊎ IsInOne boxes plan

pub record IsInLeaf (IsAt : ℕ → Box → TreeNode → Type 0) (plan : List (List Stop)) : Type 0 where
  pub number : ℕ
  pub box : Box
  pub leaf : LeafKind
  pub here : IsAt number box (Leaf leaf)
  pub inside : IsInBox box plan

module _ (parts : Parts) (IsAt : ℕ → Box → TreeNode → Type 0) (valid : IsScenario parts)
    (plan : List (List Stop)) (trips : AreTrips parts.day.periods parts.flights plan)
    (turns : All (KeepsTurn plan) parts.connections) where
  in_side : (flight node time : ℕ) (box early late : Box)
      → AreSides parts flight node time box early late → IsInBox box plan
      → IsInBox early plan ⊎ IsInBox late plan
  in_side flight node time box early late sides inside =
      by (share_plan box flight node time parts plan valid sides.there trips inside)
    where
      by : IsInBox (early_branch flight node time box) plan
          ⊎ IsInBox (late_branch flight node time box) plan
          → IsInBox early plan ⊎ IsInBox late plan
      by (inl one) = inl (plan_kept parts valid plan (early_branch flight node time box) trips
          turns early sides.early_is one)
      by (inr two) = inr (plan_kept parts valid plan (late_branch flight node time box) trips
          turns late sides.late_is two)

  -- it is in a leaf's box, or in one that still waits
  pub in_leaf : (number : ℕ) (boxes : List Box) (nodes : List TreeNode) (rest : List Box)
      → Leads parts IsAt number boxes nodes rest → IsInOne boxes plan
      → IsInLeaf IsAt plan ⊎ IsInOne rest plan
  in_leaf number boxes [] rest leads inside = inr (subst (λ bs. IsInOne bs plan) leads inside)
  in_leaf number [] (node ∷ nodes) rest leads inside = absurd leads
  in_leaf number (box ∷ boxes) (Leaf leaf ∷ nodes) rest leads (inl inside) =
      inl (record {
        number = number;
        box = box;
        leaf = leaf;
        here = leads.0;
        inside = inside;
      })
  in_leaf number (box ∷ boxes) (Leaf leaf ∷ nodes) rest leads (inr inside) =
      in_leaf (number + 1) boxes nodes rest leads.1 inside
  in_leaf number (box ∷ boxes) (Split flight node time cutoff ∷ nodes) rest
      (here, (early, late, sides, leads)) (inl inside) =
      in_leaf (number + 1) (early ∷ late ∷ boxes) nodes rest leads
      (in_first (in_side flight node time box early late sides inside))
    where
      in_first : IsInBox early plan ⊎ IsInBox late plan → IsInOne (early ∷ late ∷ boxes) plan
      in_first (inl one) = inl one
      in_first (inr two) = inr (inl two)
  in_leaf number (box ∷ boxes) (Split flight node time cutoff ∷ nodes) rest
      (here, (early, late, sides, leads)) (inr inside) =
      in_leaf (number + 1) (early ∷ late ∷ boxes) nodes rest leads (inr (inr inside))

  -- of a tree on its box it is in a leaf's
  pub in_tree_leaf : (box : Box) (nodes : List TreeNode) → IsTreeOn parts IsAt box nodes
      → IsInBox box plan → IsInLeaf IsAt plan
  in_tree_leaf box nodes tree inside = by (in_leaf 0 (box ∷ []) nodes [] tree (inl inside))
    where
      by : IsInLeaf IsAt plan ⊎ IsInOne [] plan → IsInLeaf IsAt plan
      by (inl leaf) = leaf
      by (inr none) = absurd none
