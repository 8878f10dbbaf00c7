-- Nodes that are written down one after the other: whatever completes them makes one tree.
use Rattle.std.proofs.Common.{◌≡◌, ℕ, zero, suc, ◌+◌, ◌<◌, ◌≤◌, List, [], ◌∷◌, ◌++◌, length, slice_get, slice_index, slice_index_or, Option, ℤ, refl, sym, ◌∙◌, ap, subst, length-append, arith}
use Rattle.std.proofs.Math.Seq.{get_or-append_seam}
use Rattle.std.proofs.lemmas.List.{append_assoc, append-nil}
use Rattle.flow_types.specs.declared.bound.Bound.{Bound}
use Rattle.flow_types.specs.declared.bound.Bound.TheVariants.{NoPlan}
use Rattle.flow_types.specs.declared.parts.Parts.{Parts}
use Rattle.flow_types.specs.declared.plan.Stop.{Stop}
use Rattle.time_windows.specs.Boxes.{Box}
use Rattle.branch_tree.specs.declared.leaf.Leaf.{Leaf as LeafKind}
use Rattle.branch_tree.specs.declared.tree.TreeNode.{TreeNode}
use Rattle.branch_tree.specs.declared.tree.TreeNode.TheVariants.{Leaf, Split}
use Rattle.branch_tree.specs.Forests.{AreSides, IsTreeOn, Leads}
use Rattle.cut_rows.specs.declared.names.CutName.{CutName}
use Rattle.tree_search.specs.declared.found.Budget.{Budget}
use Rattle.tree_search.specs.declared.draft.RecordDraft.{RecordDraft}
use Rattle.tree_search.specs.Drafts.{Completes, IsDrafted, IsDraftedAt, IsNoted, IsSameTree}
use Rattle.tree_search.specs.Nodes.{cost_of, cutoff_after}

abbrev Plan : Type 0
Plan = List (List Stop)

got_left : {A : Type 0} (xs ys : List A) (k : ℕ) → k < length xs
    → slice_get (xs ++ ys) k ≡ slice_get xs k
got_left [] ys k within = absurd (omega (arith, within))
got_left (x ∷ xs) ys zero within = refl
got_left (x ∷ xs) ys (suc k) within = got_left xs ys k (omega (arith, within))

module _ (parts : Parts) where
  -- later plans leave the cutoffs of earlier ones
  pub cutoff_more : (plans more : List Plan) (n : ℕ) → n ≤ length plans
      → cutoff_after parts (plans ++ more) n ≡ cutoff_after parts plans n
  cutoff_more plans more zero within = refl
  cutoff_more plans more (suc k) within =
      ap (cost_of parts) (got_left plans more k (omega (arith, within)))

module _ (parts : Parts) (pool : List CutName) (budget : Budget) (top : Box) where
  abbrev IsAtIn : List Plan → List ℕ → List Bound → ℕ → Box → TreeNode → Type 0
  IsAtIn plans counts bounds = IsDraftedAt parts pool budget plans counts bounds

  abbrev CompletesFrom : List Plan → List TreeNode → List ℕ → List Bound → List Box → Type 0
  CompletesFrom plans nodes counts bounds boxes =
      (more_plans : List Plan) (more_counts : List ℕ) (more_bounds : List Bound)
      (more : List TreeNode)
      → Leads parts (IsAtIn (plans ++ more_plans) (counts ++ more_counts) (bounds ++ more_bounds))
      (length nodes) boxes more []
      → IsTreeOn parts
      (IsAtIn (plans ++ more_plans) (counts ++ more_counts) (bounds ++ more_bounds)) top
      (nodes ++ more)

  -- more plans
  plans_complete : (plans later : List Plan) (nodes : List TreeNode) (counts : List ℕ)
      (bounds : List Bound) (boxes : List Box) → CompletesFrom plans nodes counts bounds boxes
      → CompletesFrom (plans ++ later) nodes counts bounds boxes
  plans_complete plans later nodes counts bounds boxes completes more_plans more_counts more_bounds
      more =
      subst (λ ps. Leads parts (IsAtIn ps (counts ++ more_counts) (bounds ++ more_bounds))
      (length nodes) boxes more []
      → IsTreeOn parts (IsAtIn ps (counts ++ more_counts) (bounds ++ more_bounds)) top
      (nodes ++ more))
      (sym (append_assoc plans later more_plans))
      (completes (later ++ more_plans) more_counts more_bounds more)

  module _ (box : Box) (node : TreeNode) (before after : List Box)
      (join : (IsAt : ℕ → Box → TreeNode → Type 0) (number : ℕ) (more : List TreeNode)
      → IsAt number box node → Leads parts IsAt (number + 1) after more []
      → Leads parts IsAt number before (node ∷ more) []) where
    -- one node more
    node_completes : (plans : List Plan) (nodes : List TreeNode) (counts : List ℕ)
        (bounds : List Bound) (bound : Bound) → length counts ≡ length nodes
        → length bounds ≡ length nodes
        → IsDrafted parts pool budget (length nodes) (cutoff_after parts plans (length plans)) bound
        box node
        → CompletesFrom plans nodes counts bounds before
        → CompletesFrom plans (nodes ++ node ∷ []) (counts ++ length plans ∷ [])
        (bounds ++ bound ∷ []) after
    node_completes plans nodes counts bounds bound counted bounded is completes more_plans
        more_counts more_bounds more =
        subst (λ cs. Whole cs ((bounds ++ bound ∷ []) ++ more_bounds) (length (nodes ++ node ∷ []))
        ((nodes ++ node ∷ []) ++ more)) (sym (append_assoc counts (length plans ∷ []) more_counts))
        (subst (λ bs. Whole all_counts bs (length (nodes ++ node ∷ []))
        ((nodes ++ node ∷ []) ++ more)) (sym (append_assoc bounds (bound ∷ []) more_bounds))
        (subst (λ n. Whole all_counts all_bounds n ((nodes ++ node ∷ []) ++ more))
        (sym (length-append nodes (node ∷ [])))
        (subst (Whole all_counts all_bounds (length nodes + 1))
        (sym (append_assoc nodes (node ∷ []) more))
        (λ leads. completes more_plans (length plans ∷ more_counts) (bound ∷ more_bounds)
        (node ∷ more)
        (join (IsAtIn (plans ++ more_plans) all_counts all_bounds) (length nodes) more here
        leads)))))
      where
        all_counts : List ℕ
        all_counts = counts ++ length plans ∷ more_counts

        all_bounds : List Bound
        all_bounds = bounds ++ bound ∷ more_bounds

        Whole : List ℕ → List Bound → ℕ → List TreeNode → Type 0
        Whole cs bs number whole =
            Leads parts (IsAtIn (plans ++ more_plans) cs bs) number after more []
            → IsTreeOn parts (IsAtIn (plans ++ more_plans) cs bs) top whole

        count_here : slice_index all_counts (length nodes) ≡ length plans
        count_here =
            ap (slice_index all_counts) (sym counted)
            ∙ get_or-append_seam counts (length plans) more_counts 0

        bound_here : slice_index_or all_bounds (length nodes) NoPlan ≡ bound
        bound_here =
            ap (λ n. slice_index_or all_bounds n NoPlan) (sym bounded)
            ∙ get_or-append_seam bounds bound more_bounds NoPlan

        cutoff_here : cutoff_after parts (plans ++ more_plans)
            (slice_index all_counts (length nodes)) ≡ cutoff_after parts plans (length plans)
        cutoff_here =
            ap (cutoff_after parts (plans ++ more_plans)) count_here
            ∙ cutoff_more parts plans more_plans (length plans) (omega arith)

        here : IsAtIn (plans ++ more_plans) all_counts all_bounds (length nodes) box node
        here =
            subst (λ c. IsDrafted parts pool budget (length nodes) c
            (slice_index_or all_bounds (length nodes) NoPlan) box node) (sym cutoff_here)
            (subst (λ b. IsDrafted parts pool budget (length nodes)
            (cutoff_after parts plans (length plans)) b box node) (sym bound_here) is)

  -- no node so far
  pub none_complete : (draft : RecordDraft) → draft.nodes ≡ []
      → Completes parts pool budget top draft (top ∷ [])
  none_complete draft none plans counts bounds nodes leads =
      subst (λ (ns : List TreeNode).
      Leads parts (IsAtIn (draft.plans ++ plans) (draft.counts ++ counts) (draft.bounds ++ bounds))
      (length ns) (top ∷ []) nodes []
      → IsTreeOn parts
      (IsAtIn (draft.plans ++ plans) (draft.counts ++ counts) (draft.bounds ++ bounds)) top
      (ns ++ nodes)) (sym none) (λ is. is) leads

  -- no box is left
  pub all_complete : (draft : RecordDraft) → Completes parts pool budget top draft []
      → IsTreeOn parts (IsAtIn draft.plans draft.counts draft.bounds) top draft.nodes
  all_complete draft completes =
      subst (λ ps. IsTreeOn parts (IsAtIn ps draft.counts draft.bounds) top draft.nodes)
      (append-nil draft.plans)
      (subst (λ cs. IsTreeOn parts (IsAtIn (draft.plans ++ []) cs draft.bounds) top draft.nodes)
      (append-nil draft.counts)
      (subst (λ bs. IsTreeOn parts (IsAtIn (draft.plans ++ []) (draft.counts ++ []) bs) top
      draft.nodes) (append-nil draft.bounds)
      (subst (IsTreeOn parts
      (IsAtIn (draft.plans ++ []) (draft.counts ++ []) (draft.bounds ++ [])) top)
      (append-nil draft.nodes) (completes [] [] [] [] refl))))

  -- the same tree with more plans
  pub same_complete : (old new : RecordDraft) (later : List Plan) (boxes : List Box)
      → new.plans ≡ old.plans ++ later → IsSameTree old new
      → Completes parts pool budget top old boxes → Completes parts pool budget top new boxes
  same_complete old new later boxes plans same completes =
      subst (λ ps. CompletesFrom ps new.nodes new.counts new.bounds boxes) (sym plans)
      (subst (λ ns. CompletesFrom (old.plans ++ later) ns new.counts new.bounds boxes)
      (sym same.nodes)
      (subst (λ cs. CompletesFrom (old.plans ++ later) old.nodes cs new.bounds boxes)
      (sym same.counts)
      (subst (λ bs. CompletesFrom (old.plans ++ later) old.nodes old.counts bs boxes)
      (sym same.bounds)
      (plans_complete old.plans later old.nodes old.counts old.bounds boxes completes))))

  noted_complete : (box : Box) (node : TreeNode) (before after : List Box)
      → ((IsAt : ℕ → Box → TreeNode → Type 0) (number : ℕ) (more : List TreeNode)
      → IsAt number box node → Leads parts IsAt (number + 1) after more []
      → Leads parts IsAt number before (node ∷ more) [])
      → (old new : RecordDraft) (bound : Bound) → length old.counts ≡ length old.nodes
      → length old.bounds ≡ length old.nodes
      → IsDrafted parts pool budget (length old.nodes)
      (cutoff_after parts old.plans (length old.plans)) bound box node
      → IsNoted node bound old new → Completes parts pool budget top old before
      → Completes parts pool budget top new after
  noted_complete box node before after join old new bound counted bounded is noted completes =
      subst (λ ps. CompletesFrom ps new.nodes new.counts new.bounds after) (sym noted.plans)
      (subst (λ ns. CompletesFrom old.plans ns new.counts new.bounds after) (sym noted.nodes)
      (subst (λ cs. CompletesFrom old.plans (old.nodes ++ node ∷ []) cs new.bounds after)
      (sym noted.counts)
      (subst (λ bs. CompletesFrom old.plans (old.nodes ++ node ∷ [])
      (old.counts ++ length old.plans ∷ []) bs after) (sym noted.bounds)
      (node_completes box node before after join old.plans old.nodes old.counts old.bounds bound
      counted bounded is completes))))

  -- a leaf is done with its box
  pub leaf_complete : (box : Box) (leaf : LeafKind) (boxes : List Box) (old new : RecordDraft)
      (bound : Bound) → length old.counts ≡ length old.nodes
      → length old.bounds ≡ length old.nodes
      → IsDrafted parts pool budget (length old.nodes)
      (cutoff_after parts old.plans (length old.plans)) bound box
      (Leaf leaf)
      → IsNoted (Leaf leaf) bound old new → Completes parts pool budget top old (box ∷ boxes)
      → Completes parts pool budget top new boxes
  leaf_complete box leaf boxes =
      noted_complete box (Leaf leaf) (box ∷ boxes) boxes
      (λ IsAt number more here rest. (here, rest))

  -- a split leaves its two sides
  pub split_complete : (box early late : Box) (flight node time : ℕ) (named : Option ℤ)
      (boxes : List Box) (old new : RecordDraft) (bound : Bound)
      → AreSides parts flight node time box early late → length old.counts ≡ length old.nodes
      → length old.bounds ≡ length old.nodes
      → IsDrafted parts pool budget (length old.nodes)
      (cutoff_after parts old.plans (length old.plans)) bound box
      (Split flight node time named)
      → IsNoted (Split flight node time named) bound old new
      → Completes parts pool budget top old (box ∷ boxes)
      → Completes parts pool budget top new (early ∷ late ∷ boxes)
  split_complete box early late flight node time named boxes old new bound sides =
      noted_complete box (Split flight node time named) (box ∷ boxes) (early ∷ late ∷ boxes)
      (λ IsAt number more here rest. (here, (early, late, sides, rest))) old new bound
