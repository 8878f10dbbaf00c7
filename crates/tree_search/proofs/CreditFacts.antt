-- How many nodes the trees on boxes may have. Each box has a credit: the product of its options, or
-- 1 where that is 0. Nodes and boxes are no more than twice the credits, and 2 fewer where a leaf's
-- bound doesn't reach its cutoff, since the box of such a leaf has a choice left.
use Rattle.std.proofs.Common.{◌≡◌, ◌⊎◌, ℕ, suc, ◌+◌, ◌*◌, ◌<◌, ◌≤◌, true, max, List, [], ◌∷◌, length, get_or, slice_index, Option, ℤ, inl, inr, refl, sym, ap, subst, arith}
use Rattle.std.proofs.lemmas.Bool.{cases_eq}
use Rattle.flow_types.specs.declared.bound.Bound.{Bound}
use Rattle.flow_types.specs.declared.bound.Bound.TheVariants.{NoPlan}
use Rattle.flow_types.specs.declared.parts.Parts.{Parts}
use Rattle.flow_types.specs.declared.plan.Stop.{Stop}
use Rattle.flow_types.specs.Limits.{most_nodes}
use Rattle.flow_types.specs.Valid.{IsScenario}
use Rattle.time_windows.specs.Boxes.{Box, IsBoxOf}
use Rattle.time_windows.specs.Splits.{early_branch, late_branch}
use Rattle.time_windows.specs.Tight.{IsLive, IsTight}
use Rattle.branch_tree.specs.declared.leaf.Leaf.{Leaf as LeafKind}
use Rattle.branch_tree.specs.declared.leaf.Leaf.TheVariants.{Dual, Empty, Lag, Unit as UnitLeaf}
use Rattle.branch_tree.specs.declared.tree.TreeNode.{TreeNode}
use Rattle.branch_tree.specs.declared.tree.TreeNode.TheVariants.{Leaf, Split}
use Rattle.branch_tree.specs.Forests.{AreSides, Leads}
use Rattle.flow_types.specs.Bounds.{is_reached}
use Rattle.cut_rows.specs.declared.names.CutName.{CutName}
use Rattle.tree_search.specs.declared.found.Budget.{Budget}
use Rattle.tree_search.specs.Nodes.{HasChoice, IsLeafNode, IsNodeAt, cutoff_after}
use Rattle.tree_search.proofs.OptionFacts.{branching_there, choice_there, each_some, node_there}
use Rattle.tree_search.proofs.SplitFacts.{early_options, late_options, options_less, options_several, options_shared, options_to}

-- a box with a choice left
pub record IsUnsettled (box : Box) : Type 0 where
  pub live : IsLive box
  pub choice : HasChoice box

reached_none : (cutoff : Option ℤ) (bound : Bound) → bound ≡ NoPlan
    → is_reached cutoff bound ≡ true
reached_none cutoff bound none = subst (λ b. is_reached cutoff b ≡ true) (sym none) refl

-- a leaf's bound reaches its cutoff, or its box has a choice left
settled : (parts : Parts) (pool : List CutName) (budget : Budget) (cutoff : Option ℤ)
    (bound : Bound) (box : Box)
    (leaf : LeafKind) → IsLeafNode parts pool budget cutoff bound box leaf
    → (is_reached cutoff bound ≡ true) ⊎ IsUnsettled box
settled parts pool budget cutoff bound box Empty node =
    inl (reached_none cutoff bound node.bound_is.0)
settled parts pool budget cutoff bound box UnitLeaf node = inl node.kind
settled parts pool budget cutoff bound box (Dual weight rows) node =
    inr (record { live = node.kind.box_is.live; choice = node.kind.box_is.choice })
settled parts pool budget cutoff bound box (Lag weight rows) node =
    inr (record { live = node.kind.box_is.live; choice = node.kind.box_is.choice })

abbrev AreTight : Parts → List Box → Type 0
AreTight parts [] = Unit {0}
AreTight parts (box ∷ boxes) = IsTight parts box × AreTight parts boxes

-- the bound of a node reaches its cutoff, and so do those of so many nodes from a number on
abbrev pub IsReachedAt : (ℕ → Option ℤ) → List Bound → ℕ → Type 0
IsReachedAt cutoffs bounds number =
    is_reached (cutoffs number) (get_or bounds number NoPlan) ≡ true

abbrev pub AreReached : (ℕ → Option ℤ) → List Bound → ℕ → ℕ → Type 0
AreReached cutoffs bounds number count =
    (k : ℕ) → number ≤ k → k < number + count → IsReachedAt cutoffs bounds k

reached_from : (cutoffs : ℕ → Option ℤ) (bounds : List Bound) (number count : ℕ)
    → IsReachedAt cutoffs bounds number → AreReached cutoffs bounds (number + 1) count
    → AreReached cutoffs bounds number (suc count)
reached_from cutoffs bounds number count here rest k from to = elim (cases_eq k number)
    as (λ _. IsReachedAt cutoffs bounds k) [
      | inl same ↦ subst (IsReachedAt cutoffs bounds) (sym same) here
      | inr apart ↦ rest k (omega (arith, from, apart)) (omega (arith, to))
    ]

-- The number of nodes of a flight is a variable here, so that no product is computed.
module _ (parts : Parts) (valid : IsScenario parts) (nodes : ℕ) (most : most_nodes ≤ nodes) where
  abbrev product_in : Box → ℕ
  product_in box = options_to (length parts.flights) nodes box

  abbrev pub credit : Box → ℕ
  credit box = max 1 (product_in box)

  abbrev pub credits : List Box → ℕ
  credits [] = 0
  credits (box ∷ boxes) = credit box + credits boxes

  -- a box with a choice left has a credit of 2
  unsettled_credit : (box : Box) → IsBoxOf parts box → IsTight parts box → IsUnsettled box
      → 2 ≤ credit box
  unsettled_credit box made tight unsettled =
      let choice = unsettled.choice in
      let there =
      node_there parts valid choice.flight choice.node (choice_there parts box made choice) in
      let several : 2 ≤ product_in box =
      options_several (length parts.flights) nodes box
      (each_some parts box made tight unsettled.live) choice there.0
      (omega (arith, there.1, most)) in
      omega (arith, several)

  -- the sides of a split share out the credit
  split_credit : (flight node time : ℕ) (box early late : Box) → IsBoxOf parts box
      → IsTight parts box → AreSides parts flight node time box early late
      → credit early + credit late ≤ credit box
  split_credit flight node time box early late made tight sides =
      let flights = length parts.flights in
      let there =
      node_there parts valid flight node
      (branching_there parts box made flight node time sides.branching) in
      let node_in : node < nodes = omega (arith, there.1, most) in
      let some = each_some parts box made tight sides.live in
      let shared =
      options_shared flights nodes flight node time box sides.there node_in sides.branching in
      let one =
      early_options flights nodes flight node time box sides.there node_in sides.branching some in
      let two =
      late_options flights nodes flight node time box sides.there node_in sides.branching some in
      let first =
      options_less flights nodes early (early_branch flight node time box) sides.early_is.within in
      let second =
      options_less flights nodes late (late_branch flight node time box) sides.late_is.within in
      by (product_in early) (product_in late)
      (product_in (early_branch flight node time box))
      (product_in (late_branch flight node time box)) (product_in box) shared one two first second
    where
      by : (a b early late whole : ℕ) → early + late ≤ whole → 1 ≤ early → 1 ≤ late → a ≤ early
          → b ≤ late → max 1 a + max 1 b ≤ max 1 whole
      by a b early late whole shared one two first second =
          omega (arith, shared, one, two, first, second)

  module _ (pool : List CutName) (budget : Budget) (plans : List (List (List Stop)))
      (counts : List ℕ)
      (bounds : List Bound) where
    abbrev IsAt : ℕ → Box → TreeNode → Type 0
    IsAt = IsNodeAt parts pool budget plans counts bounds

    abbrev cutoffs : ℕ → Option ℤ
    cutoffs number = cutoff_after parts plans (slice_index counts number)

    -- no more nodes and boxes than twice the credits
    few_nodes : (number : ℕ) (boxes : List Box) (tree : List TreeNode) → AreTight parts boxes
        → Leads parts IsAt number boxes tree []
        → length tree + length boxes ≤ 2 * credits boxes
    few_nodes number boxes [] tight leads =
        let none = ap (λ (bs : List Box). length bs) leads in
        omega (arith, none)
    few_nodes number [] (node ∷ tree) tight leads = absurd leads
    few_nodes number (box ∷ boxes) (Leaf leaf ∷ tree) tight leads =
        let rest = few_nodes (number + 1) boxes tree tight.1 leads.1 in
        omega (arith, rest)
    few_nodes number (box ∷ boxes) (Split flight node time cutoff ∷ tree) tight
        (here, (early, late, sides, leads)) =
        let rest =
        few_nodes (number + 1) (early ∷ late ∷ boxes) tree
        (sides.early_is.tight, (sides.late_is.tight, tight.1)) leads in
        let shared =
        split_credit flight node time box early late here.1.inside tight.0 sides in
        omega (arith, rest, shared)

    -- each bound reaches its cutoff, or there are fewer nodes
    pub reached_or_few : (number : ℕ) (boxes : List Box) (tree : List TreeNode)
        → AreTight parts boxes → Leads parts IsAt number boxes tree []
        → AreReached cutoffs bounds number (length tree)
        ⊎ (length tree + length boxes + 2 ≤ 2 * credits boxes)
    reached_or_few number boxes [] tight leads =
        inl (λ k from to. absurd (omega (arith, from, to)))
    reached_or_few number [] (node ∷ tree) tight leads = absurd leads
    reached_or_few number (box ∷ boxes) (Leaf leaf ∷ tree) tight leads =
        by (settled parts pool budget (cutoffs number)
        (get_or bounds number NoPlan) box leaf leads.0.1)
        (reached_or_few (number + 1) boxes tree tight.1 leads.1)
      where
        by : IsReachedAt cutoffs bounds number ⊎ IsUnsettled box
            → AreReached cutoffs bounds (number + 1) (length tree)
            ⊎ (length tree + length boxes + 2 ≤ 2 * credits boxes)
            → AreReached cutoffs bounds number (suc (length tree))
            ⊎ (suc (length tree) + suc (length boxes) + 2 ≤ 2 * (credit box + credits boxes))
        by (inr unsettled) rest =
            let two = unsettled_credit box leads.0.1.inside tight.0 unsettled in
            let few = few_nodes (number + 1) boxes tree tight.1 leads.1 in
            inr (omega (arith, two, few))
        by (inl here) (inl rest) = inl (reached_from cutoffs bounds number (length tree) here rest)
        by (inl here) (inr rest) = inr (omega (arith, rest))
    reached_or_few number (box ∷ boxes) (Split flight node time cutoff ∷ tree) tight
        (here, (early, late, sides, leads)) =
        by (reached_or_few (number + 1) (early ∷ late ∷ boxes) tree
        (sides.early_is.tight, (sides.late_is.tight, tight.1)) leads)
      where
        by : AreReached cutoffs bounds (number + 1) (length tree)
            ⊎ (length tree + suc (suc (length boxes)) + 2
            ≤ 2 * (credit early + (credit late + credits boxes)))
            → AreReached cutoffs bounds number (suc (length tree))
            ⊎ (suc (length tree) + suc (length boxes) + 2 ≤ 2 * (credit box + credits boxes))
        by (inl rest) =
            inl (reached_from cutoffs bounds number (length tree)
            (reached_none (cutoffs number)
            (get_or bounds number NoPlan) here.0) rest)
        by (inr rest) =
            let shared =
            split_credit flight node time box early late here.1.inside tight.0 sides in
            inr (omega (arith, rest, shared))
