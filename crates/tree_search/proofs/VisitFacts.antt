-- What the greedy plan of a box leaves, offered or stuck, of what is known.
use Rattle.std.proofs.Common.{◌≡◌, ◌≤◌, false, true, List, [], ◌∷◌, ◌++◌, length, slice_get, All, AllPairs, None, Some, inl, inr, refl, sym, ◌∙◌, ap, subst, arith}
use Rattle.std.proofs.lemmas.List.{append-nil}
use Rattle.std.proofs.lemmas.List.Elements.{All-cons, All-nil}
use Rattle.flow_types.specs.declared.bound.Bound.TheVariants.{AtLeast, NoPlan}
use Rattle.flow_types.specs.declared.parts.Parts.{Parts}
use Rattle.flow_types.specs.declared.plan.Stop.{Stop}
use Rattle.flow_types.specs.Costs.{plan_cost}
use Rattle.flow_types.specs.Valid.{IsScenario}
use Rattle.time_windows.specs.Boxes.{Box, IsInBox}
use Rattle.greedy_plan.specs.Greedy.{IsGreedy}
use Rattle.flow_types.specs.Bounds.{IsNearBound, is_reached}
use Rattle.dual_leaf.proofs.LeafFacts.{same_plan}
use Rattle.dual_leaf.proofs.UnitSumFacts.{stuck}
use Rattle.tree_search.specs.declared.found.Budget.{Budget}
use Rattle.tree_search.specs.declared.draft.RecordDraft.{RecordDraft}
use Rattle.tree_search.specs.Drafts.{AreReached, Completes, IsBest, IsDraft, IsOffered, IsSameTree, IsTried}
use Rattle.tree_search.specs.Nodes.{cutoff_after}
use Rattle.tree_search.specs.Records.{IsCheaper}
use Rattle.time_windows.specs.Plans.{IsPlanIn}
use Rattle.tree_search.specs.Visits.{IsVisited}
use Rattle.tree_search.proofs.CompleteFacts.{none_complete, same_complete}
use Rattle.tree_search.proofs.DraftFacts.{offered_best, offered_draft, offered_reached, offered_still}
use Rattle.tree_search.proofs.GreedyFacts.{greedy_inside, not_stuck, one_greedy}
use Rattle.cut_rows.specs.declared.names.CutName.{CutName}

abbrev Plan : Type 0
Plan = List (List Stop)

module _ (parts : Parts) (box : Box) (old new : RecordDraft) where
  pub visited_best : IsBest parts old → IsVisited parts box old new → IsBest parts new
  visited_best best (inl offered) = offered_best parts box old new offered.plan best offered.offered
  visited_best best (inr left) = subst (IsBest parts) (sym left.same) best

  pub visited_still : IsVisited parts box old new → AreReached old → AreReached new
  visited_still (inl offered) reached =
      offered_still parts box old new offered.plan offered.offered reached
  visited_still (inr left) reached = subst AreReached (sym left.same) reached

  -- a box within the first one
  pub visited_draft : (top : Box) → ((plan : Plan) → IsInBox box plan → IsInBox top plan)
      → IsDraft parts top old → IsBest parts old → IsVisited parts box old new
      → IsDraft parts top new
  visited_draft top within draft best (inl offered) =
      offered_draft parts top old new offered.plan draft best
      (record {
        feasible = offered.feasible;
        inside = within offered.plan (greedy_inside parts box offered.plan offered.greedy);
      }) offered.offered
  visited_draft top within draft best (inr left) = subst (IsDraft parts top) (sym left.same) draft

  -- in a unit box the plan that may be there was tried
  pub visited_tried : IsScenario parts → IsVisited parts box old new → IsTried parts box new
  visited_tried valid visited unit NoPlan cost = refl
  visited_tried valid (inl offered) unit (AtLeast least) (plan, kept, is) =
      let same = same_plan parts box offered.plan plan valid unit offered.feasible
      (greedy_inside parts box offered.plan offered.greedy) kept.feasible kept.inside in
      let cost = ap (plan_cost parts.tables parts.flights) (sym same) ∙ is in
      subst (λ c. is_reached new.best (AtLeast c) ≡ true) cost
      (offered_reached parts box old new offered.plan offered.offered)
  visited_tried valid (inr left) unit (AtLeast least) (plan, kept, is) =
      absurd (stuck parts valid box unit left.kept left.flight left.stuck.count left.stuck.within
      left.stuck.chosen left.stuck.none plan kept)

  pub offered_tree : (plan : Plan) → IsOffered parts plan old new
      → (later : List Plan) × (new.plans ≡ old.plans ++ later) × IsSameTree old new
  offered_tree plan (inl kept) = (plan ∷ [], kept.plans, kept.tree)
  offered_tree plan (inr left) = (
    [],
    ap (λ (d : RecordDraft). d.plans) left.same ∙ sym (append-nil old.plans),
    record {
      nodes = ap (λ (d : RecordDraft). d.nodes) left.same;
      counts = ap (λ (d : RecordDraft). d.counts) left.same;
      bounds = ap (λ (d : RecordDraft). d.bounds) left.same;
    },
  )

  visited_tree : IsVisited parts box old new
      → (later : List Plan) × (new.plans ≡ old.plans ++ later) × IsSameTree old new
  visited_tree (inl offered) = offered_tree offered.plan offered.offered
  visited_tree (inr left) = (
    [],
    ap (λ (d : RecordDraft). d.plans) left.same ∙ sym (append-nil old.plans),
    record {
      nodes = ap (λ (d : RecordDraft). d.nodes) left.same;
      counts = ap (λ (d : RecordDraft). d.counts) left.same;
      bounds = ap (λ (d : RecordDraft). d.bounds) left.same;
    },
  )

  pub visited_same : IsVisited parts box old new → IsSameTree old new
  visited_same visited = (visited_tree visited).2

  pub visited_complete : (pool : List CutName) (budget : Budget) (top : Box) (boxes : List Box)
      → IsVisited parts box old new → Completes parts pool budget top old boxes
      → Completes parts pool budget top new boxes
  visited_complete pool budget top boxes visited =
      let tree = visited_tree visited in
      same_complete parts pool budget top old new tree.0 boxes tree.1 tree.2

-- the first box, before any node
module _ (parts : Parts) (box : Box) (old new : RecordDraft) (plans : old.plans ≡ [])
    (nodes : old.nodes ≡ []) (counts : old.counts ≡ []) (bounds : old.bounds ≡ [])
    (best : old.best ≡ None) where
  begun : (first : List Plan) → new.plans ≡ first → IsSameTree old new
      → All (IsPlanIn parts box) first → AllPairs (IsCheaper parts) first
      → ((plan : Plan) → IsGreedy parts box plan → slice_get first 0 ≡ Some plan)
      → IsDraft parts box new
  begun first is tree inside cheaper greedy =
      let no_counts = tree.counts ∙ counts in
      let no_nodes = tree.nodes ∙ nodes in
      let no_bounds = tree.bounds ∙ bounds in
      record {
        plans = subst (All (IsPlanIn parts box)) (sym is) inside;
        cheaper = subst (AllPairs (IsCheaper parts)) (sym is) cheaper;
        greedy = λ plan here. record {
          first = ap (λ (ps : List Plan). slice_get ps 0) is ∙ greedy plan here;
          found = subst (All (λ count. 1 ≤ count)) (sym no_counts) (All-nil (λ count. 1 ≤ count));
        };
        counted = ap length no_counts ∙ sym (ap length no_nodes);
        counts_to = subst (All (λ count. count ≤ length new.plans)) (sym no_counts)
            (All-nil (λ count. count ≤ length new.plans));
        rising = subst (AllPairs (λ before after. before ≤ after)) (sym no_counts)
            (λ i j d less within. absurd (omega (arith, within)));
        bounded = ap length no_bounds ∙ sym (ap length no_nodes);
        near = subst (All IsNearBound) (sym no_bounds) (All-nil IsNearBound);
      }

  pub visited_first : IsVisited parts box old new → IsDraft parts box new
  visited_first (inl offered) = by offered.offered
    where
      plan : Plan
      plan = offered.plan

      by : IsOffered parts plan old new → IsDraft parts box new
      by (inl kept) =
          begun (plan ∷ []) (kept.plans ∙ ap (λ (ps : List Plan). ps ++ plan ∷ []) plans) kept.tree
          (All-cons (IsPlanIn parts box) plan [] (record {
            feasible = offered.feasible;
            inside = greedy_inside parts box plan offered.greedy;
          }) (All-nil (IsPlanIn parts box)))
          (λ i j d less within. absurd (omega (arith, less, within)))
          (λ other greedy. ap Some (one_greedy parts box plan other offered.greedy greedy))
      by (inr left) =
          let none = subst (λ o. is_reached o
          (AtLeast (plan_cost parts.tables parts.flights plan)) ≡ true) best left.dearer in
          absurd (let e : false ≡ true = none in cc)
  visited_first (inr left) =
      begun [] (ap (λ (d : RecordDraft). d.plans) left.same ∙ plans)
      (visited_same parts box old new (inr left)) (All-nil (IsPlanIn parts box))
      (λ i j d less within. absurd (omega (arith, within)))
      (λ plan greedy. absurd (not_stuck parts box left.kept left.flight plan left.stuck greedy))

  pub first_best : IsBest parts old
  first_best =
      best ∙ sym (ap (λ (ps : List Plan). cutoff_after parts ps (length ps)) plans)

  pub first_reached : IsVisited parts box old new → AreReached new
  first_reached visited =
      subst (All (λ bound. is_reached new.best bound ≡ true))
      (sym ((visited_same parts box old new visited).bounds ∙ bounds))
      (All-nil (λ bound. is_reached new.best bound ≡ true))

  pub first_complete : (pool : List CutName) (budget : Budget) → IsVisited parts box old new
      → Completes parts pool budget box new (box ∷ [])
  first_complete pool budget visited =
      none_complete parts pool budget box new ((visited_same parts box old new visited).nodes
      ∙ nodes)
