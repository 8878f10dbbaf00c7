-- Going down the nodes of a list, with the number of trees that wait.
use Rattle.std.proofs.Common.{◌≡◌, ℕ, zero, suc, ◌+◌, ◌-◌, ◌<◌, ◌≤◌, ◌==◌, false, List, [], ◌∷◌, length, get_or, drop, refl, sym, ap, ◌∙◌, arith}
use Rattle.std.proofs.Math.Dec.{eqb-suc-zero}
use Rattle.std.proofs.lemmas.List.{drop_all, drop_more}
use Rattle.branch_tree.specs.declared.tree.TreeNode.{TreeNode}
use Rattle.branch_tree.specs.declared.tree.TreeNode.TheVariants.{Leaf, Split}
use Rattle.branch_tree.specs.Trees.{is_forest, is_tree, left_after}

-- the nodes from a place on are those of the trees that wait there
pub record AreLeft (nodes : List TreeNode) (i waiting : ℕ) : Type 0 where
  pub same : is_tree nodes ≡ is_forest waiting (drop i nodes)
  pub few : waiting ≤ i + 1

pub begun : (nodes : List TreeNode) → AreLeft nodes 0 1
begun nodes = record { same = refl; few = omega arith }

forest_step : (waiting : ℕ) (node : TreeNode) (nodes : List TreeNode) → 0 < waiting
    → is_forest waiting (node ∷ nodes) ≡ is_forest (left_after waiting node) nodes
forest_step zero node nodes some = absurd (omega (arith, some))
forest_step (suc waiting) (Leaf leaf) nodes some =
    let here : waiting ≡ suc waiting - 1 = omega arith in
    ap (λ n. is_forest n nodes) here
forest_step (suc waiting) (Split flight node time cutoff) nodes some =
    let here : suc (suc waiting) ≡ suc waiting + 1 = omega arith in
    ap (λ n. is_forest n nodes) here

left_few : (waiting : ℕ) (node : TreeNode) → left_after waiting node ≤ waiting + 1
left_few waiting (Leaf leaf) = omega arith
left_few waiting (Split flight node time cutoff) = omega arith

pub stepped : (nodes : List TreeNode) (i waiting : ℕ) (node : TreeNode) (next : ℕ)
    → AreLeft nodes i waiting → i < length nodes → 0 < waiting → node ≡ get_or nodes i node
    → next ≡ left_after waiting node → AreLeft nodes (i + 1) next
stepped nodes i waiting node next left within some here is = record {
  same = left.same
      ∙ ap (is_forest waiting) (drop_more nodes i node within)
      ∙ ap (λ n. is_forest waiting (n ∷ drop (i + 1) nodes)) (sym here)
      ∙ forest_step waiting node (drop (i + 1) nodes) some
      ∙ ap (λ n. is_forest n (drop (i + 1) nodes)) (sym is);
  few =
      let few = left.few in
      let more = left_few waiting node in
      omega (arith, few, more, is);
}

pub none_waits : (nodes : List TreeNode) (i waiting : ℕ) (d : TreeNode) → AreLeft nodes i waiting
    → i < length nodes → waiting ≡ 0 → false ≡ is_tree nodes
none_waits nodes i waiting d left within none =
    sym (left.same ∙ ap (λ n. is_forest n (drop i nodes)) none
    ∙ ap (is_forest 0) (drop_more nodes i d within))

all_done : (waiting : ℕ) → (waiting == 0) ≡ is_forest waiting []
all_done zero = refl
all_done (suc waiting) = eqb-suc-zero waiting

pub ended : (nodes : List TreeNode) (i waiting : ℕ) → AreLeft nodes i waiting → length nodes ≤ i
    → (waiting == 0) ≡ is_tree nodes
ended nodes i waiting left past =
    all_done waiting ∙ ap (is_forest waiting) (sym (drop_all i nodes past)) ∙ sym left.same
