-- What plans that are offered, and nodes that are noted, leave of what is known.
use Rattle.std.proofs.Common.{◌≡◌, ◌⊎◌, ℕ, zero, suc, ◌<◌, ◌≤◌, Bool, true, false, not, int_lt, List, [], ◌∷◌, ◌++◌, length, slice_get, slice_index_or, All, AllPairs, Option, None, Some, ℤ, ◌<ℤ◌, inl, inr, refl, sym, ◌∙◌, ap, subst, length-append, arith}
use Rattle.std.proofs.lemmas.Bool.{cases_lt}
use Rattle.std.proofs.lemmas.Int.{ints}
use Rattle.std.proofs.lemmas.List.Elements.{All-push, All-weaker}
use Rattle.std.proofs.lemmas.List.Quantifiers.{all_pairs_push}
use Rattle.std.proofs.lemmas.Option.{slice_get-get_or}
use Rattle.flow_types.specs.declared.bound.Bound.{Bound}
use Rattle.flow_types.specs.declared.bound.Bound.TheVariants.{AtLeast, NoPlan}
use Rattle.flow_types.specs.declared.parts.Parts.{Parts}
use Rattle.flow_types.specs.declared.plan.Stop.{Stop}
use Rattle.flow_types.specs.Costs.{plan_cost}
use Rattle.time_windows.specs.Boxes.{Box}
use Rattle.flow_types.specs.Bounds.{IsNearBound, is_reached}
use Rattle.branch_tree.specs.declared.tree.TreeNode.{TreeNode}
use Rattle.relaxed_bound.proofs.LicenceFacts.{unreached_is}
use Rattle.row_arena.proofs.WholeLaws.{isnt_less, less_isnt}
use Rattle.tree_search.specs.declared.draft.RecordDraft.{RecordDraft}
use Rattle.tree_search.specs.Drafts.{AreReached, IsBest, IsDraft, IsPlanAdded, IsNoted, IsOffered}
use Rattle.tree_search.specs.Nodes.{cost_of, cutoff_after}
use Rattle.tree_search.specs.Records.{IsCheaper}
use Rattle.time_windows.specs.Plans.{IsPlanIn}

abbrev Plan : Type 0
Plan = List (List Stop)

abbrev price : Parts → Plan → ℤ
price parts plan = plan_cost parts.tables parts.flights plan

-- a cutoff that is no greater is reached where the greater one is
pub reached_below : (cutoff : Option ℤ) (cost : ℤ) (bound : Bound)
    → is_reached cutoff (AtLeast cost) ≡ false → is_reached cutoff bound ≡ true
    → is_reached (Some cost) bound ≡ true
reached_below cutoff cost NoPlan lower reached = refl
reached_below None cost (AtLeast least) lower reached =
    absurd (let e : false ≡ true = reached in cc)
reached_below (Some cutoff) cost (AtLeast least) lower reached =
    let less = unreached_is cost cutoff lower in
    let past = less_isnt least cutoff (by (int_lt least cutoff) reached) in
    ap not (isnt_less least cost (omega (arith, ints, less, past)))
  where
    by : (b : Bool) → not b ≡ true → b ≡ false
    by true is = absurd (let e : false ≡ true = is in cc)
    by false is = refl

-- its own cost reaches it
pub own_reached : (cost : ℤ) → is_reached (Some cost) (AtLeast cost) ≡ true
own_reached cost = ap not (isnt_less cost cost (omega (arith, ints)))

module _ (parts : Parts) (plans : List Plan) where
  -- the last plan's cost is no more than any other's
  last_least : AllPairs (IsCheaper parts) plans → (cost : ℤ) (n k : ℕ) (d : Plan)
      → n ≡ length plans → k < n → is_reached (cutoff_after parts plans n) (AtLeast cost) ≡ false
      → cost <ℤ price parts (slice_index_or plans k d)
  last_least cheaper cost zero k d all within lower = absurd (omega (arith, within))
  last_least cheaper cost (suc m) k d all within lower =
      let last_is = ap (cost_of parts) (slice_get-get_or plans m d (omega (arith, all))) in
      let below = unreached_is cost (price parts (slice_index_or plans m d))
      (subst (λ o. is_reached o (AtLeast cost) ≡ false) last_is lower) in
      by below (cases_lt k m)
    where
      by : cost <ℤ price parts (slice_index_or plans m d) → (k < m) ⊎ (m ≤ k)
          → cost <ℤ price parts (slice_index_or plans k d)
      by below (inl before) =
          let more = cheaper k m d before (omega (arith, all)) in
          omega (arith, ints, below, more)
      by below (inr past) =
          let same : m ≡ k = omega (arith, past, within) in
          subst (λ i. cost <ℤ price parts (slice_index_or plans i d)) same below

-- the best after a plan more
best_more : (parts : Parts) (plans : List Plan) (plan : Plan)
    → cutoff_after parts (plans ++ plan ∷ []) (length (plans ++ plan ∷ []))
    ≡ Some (price parts plan)
best_more parts plans plan =
    ap (cutoff_after parts (plans ++ plan ∷ [])) long ∙ ap (cost_of parts) (last plans)
  where
    long : length (plans ++ plan ∷ []) ≡ suc (length plans)
    long = omega (arith, length-append plans (plan ∷ []))

    last : (ps : List Plan) → slice_get (ps ++ plan ∷ []) (length ps) ≡ Some plan
    last [] = refl
    last (p ∷ ps) = last ps

first_more : {A : Type 0} (xs ys : List A) (x : A) → slice_get xs 0 ≡ Some x
    → slice_get (xs ++ ys) 0 ≡ Some x
first_more [] ys x is = absurd cc
first_more (z ∷ xs) ys x is = is

module _ (parts : Parts) (top : Box) (old new : RecordDraft) where
  kept_draft : (plan : Plan) → IsDraft parts top old → IsBest parts old → IsPlanIn parts top plan
      → IsPlanAdded parts plan old new → IsDraft parts top new
  kept_draft plan draft best inside kept = record {
    plans = subst (All (IsPlanIn parts top)) (sym kept.plans)
        (All-push (IsPlanIn parts top) old.plans plan draft.plans inside);
    cheaper = subst (AllPairs (IsCheaper parts)) (sym kept.plans)
        (all_pairs_push (IsCheaper parts) old.plans plan draft.cheaper (λ k d within.
        last_least parts old.plans draft.cheaper (price parts plan) (length old.plans) k d refl
        within (subst (λ o. is_reached o (AtLeast (price parts plan)) ≡ false) best
        kept.cheaper)));
    greedy = λ other greedy.
        let first = draft.greedy other greedy in
        record {
          first = subst (λ ps. slice_get ps 0 ≡ Some other) (sym kept.plans)
              (first_more old.plans (plan ∷ []) other first.first);
          found = subst (All (λ count. 1 ≤ count)) (sym kept.tree.counts) first.found;
        };
    counted = ap length kept.tree.counts ∙ draft.counted ∙ sym (ap length kept.tree.nodes);
    counts_to = subst (All (λ count. count ≤ length new.plans)) (sym kept.tree.counts)
        (All-weaker (λ count. count ≤ length old.plans) (λ count. count ≤ length new.plans)
        (λ count few.
        let long = ap length kept.plans in
        omega (arith, few, long, length-append old.plans (plan ∷ []))) old.counts
        draft.counts_to);
    rising = subst (AllPairs (λ before after. before ≤ after)) (sym kept.tree.counts) draft.rising;
    bounded = ap length kept.tree.bounds ∙ draft.bounded ∙ sym (ap length kept.tree.nodes);
    near = subst (All IsNearBound) (sym kept.tree.bounds) draft.near;
  }

  pub offered_draft : (plan : Plan) → IsDraft parts top old → IsBest parts old
      → IsPlanIn parts top plan → IsOffered parts plan old new → IsDraft parts top new
  offered_draft plan draft best inside (inl kept) = kept_draft plan draft best inside kept
  offered_draft plan draft best inside (inr left) = subst (IsDraft parts top) (sym left.same) draft

  pub offered_best : (plan : Plan) → IsBest parts old → IsOffered parts plan old new
      → IsBest parts new
  offered_best plan best (inl kept) =
      kept.best ∙ sym (best_more parts old.plans plan)
      ∙ ap (λ ps. cutoff_after parts ps (length ps)) (sym kept.plans)
  offered_best plan best (inr left) = subst (IsBest parts) (sym left.same) best

  -- the best reaches what the plan costs
  pub offered_reached : (plan : Plan) → IsOffered parts plan old new
      → is_reached new.best (AtLeast (price parts plan)) ≡ true
  offered_reached plan (inl kept) =
      subst (λ o. is_reached o (AtLeast (price parts plan)) ≡ true) (sym kept.best)
      (own_reached (price parts plan))
  offered_reached plan (inr left) =
      subst (λ (d : RecordDraft). is_reached d.best (AtLeast (price parts plan)) ≡ true)
      (sym left.same)
      left.dearer

  -- and all that was reached
  pub offered_still : (plan : Plan) → IsOffered parts plan old new → AreReached old
      → AreReached new
  offered_still plan (inl kept) reached =
      subst (All (λ bound. is_reached new.best bound ≡ true)) (sym kept.tree.bounds)
      (All-weaker (λ bound. is_reached old.best bound ≡ true)
      (λ bound. is_reached new.best bound ≡ true) (λ bound is.
      subst (λ o. is_reached o bound ≡ true) (sym kept.best)
      (reached_below old.best (price parts plan) bound kept.cheaper is)) old.bounds reached)
  offered_still plan (inr left) reached = subst AreReached (sym left.same) reached

  -- a node more
  pub noted_draft : (node : TreeNode) (bound : Bound) → IsNearBound bound
      → IsDraft parts top old → IsNoted node bound old new → IsDraft parts top new
  noted_draft node bound near draft noted = record {
    plans = subst (All (IsPlanIn parts top)) (sym noted.plans) draft.plans;
    cheaper = subst (AllPairs (IsCheaper parts)) (sym noted.plans) draft.cheaper;
    greedy = λ plan greedy.
        let first = draft.greedy plan greedy in
        record {
          first = ap (λ ps. slice_get ps 0) noted.plans ∙ first.first;
          found = subst (All (λ count. 1 ≤ count)) (sym noted.counts)
              (All-push (λ count. 1 ≤ count) old.counts (length old.plans) first.found
              (some old.plans plan first.first));
        };
    counted =
        let counts = ap length noted.counts in
        let nodes = ap length noted.nodes in
        let few = draft.counted in
        omega (
          arith,
          counts,
          nodes,
          few,
          length-append old.counts (length old.plans ∷ []),
          length-append old.nodes (node ∷ []),
        );
    counts_to = subst (λ ps. All (λ count. count ≤ length ps) new.counts) (sym noted.plans)
        (subst (All (λ count. count ≤ length old.plans)) (sym noted.counts)
        (All-push (λ count. count ≤ length old.plans) old.counts (length old.plans)
        draft.counts_to (omega arith)));
    rising = subst (AllPairs (λ before after. before ≤ after)) (sym noted.counts)
        (all_pairs_push (λ before after. before ≤ after) old.counts (length old.plans)
        draft.rising draft.counts_to);
    bounded =
        let bounds = ap length noted.bounds in
        let nodes = ap length noted.nodes in
        let few = draft.bounded in
        omega (
          arith,
          bounds,
          nodes,
          few,
          length-append old.bounds (bound ∷ []),
          length-append old.nodes (node ∷ []),
        );
    near = subst (All IsNearBound) (sym noted.bounds)
        (All-push IsNearBound old.bounds bound draft.near near);
  }
    where
      some : (ps : List Plan) (plan : Plan) → slice_get ps 0 ≡ Some plan → 1 ≤ length ps
      some [] plan is = absurd cc
      some (p ∷ ps) plan is = omega arith

  pub noted_best : (node : TreeNode) (bound : Bound) → IsBest parts old
      → IsNoted node bound old new → IsBest parts new
  noted_best node bound best noted =
      noted.best ∙ best ∙ ap (λ ps. cutoff_after parts ps (length ps)) (sym noted.plans)

  pub noted_still : (node : TreeNode) (bound : Bound) → IsNoted node bound old new
      → AreReached old → is_reached old.best bound ≡ true → AreReached new
  noted_still node bound noted reached is =
      subst (λ o. All (λ b. is_reached o b ≡ true) new.bounds) (sym noted.best)
      (subst (All (λ b. is_reached old.best b ≡ true)) (sym noted.bounds)
      (All-push (λ b. is_reached old.best b ≡ true) old.bounds bound reached is))
