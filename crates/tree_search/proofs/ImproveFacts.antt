-- A plan that is offered while a search stands at a box leaves it where it is.
use Rattle.std.proofs.Common.{◌≡◌, suc, Bool, true, false, List, ◌∷◌, length, Option, None, Some, IfSome, inl, inr, sym, ◌∙◌, ap, subst, arith}
use Rattle.flow_types.specs.declared.parts.Parts.{Parts}
use Rattle.flow_types.specs.declared.plan.Stop.{Stop}
use Rattle.flow_types.specs.Costs.{plan_cost}
use Rattle.time_windows.specs.Boxes.{Box}
use Rattle.time_windows.specs.Held.{box_of}
use Rattle.plan_improver.specs.Cheaper.{IsCheaper}
use Rattle.time_windows.specs.Plans.{IsPlanIn}
use Rattle.flow_types.specs.Bounds.{is_reached}
use Rattle.cut_rows.specs.declared.names.CutName.{CutName}
use Rattle.tree_search.specs.declared.draft.RecordDraft.{RecordDraft}
use Rattle.tree_search.specs.declared.found.Budget.{Budget}
use Rattle.tree_search.specs.Drafts.{IsOffered, IsTried}
use Rattle.tree_search.specs.Searching.{IsSearching, IsStepped}
use Rattle.tree_search.specs.Visits.{IsImproved}
use Rattle.branch_tree.specs.Paths.{Path, top_box}
use Rattle.tree_search.proofs.CompleteFacts.{same_complete}
use Rattle.tree_search.proofs.DraftFacts.{offered_best, offered_draft, offered_still, reached_below}
use Rattle.tree_search.proofs.VisitFacts.{offered_tree}

-- what was reached before is reached
tried_still : (parts : Parts) (box : Box) (old new : RecordDraft) (plan : List (List Stop))
    → IsOffered parts plan old new → IsTried parts box old → IsTried parts box new
tried_still parts box old new plan (inl kept) tried = λ unit bound cost.
    subst (λ o. is_reached o bound ≡ true) (sym kept.best)
    (reached_below old.best (plan_cost parts.tables parts.flights plan) bound kept.cheaper
    (tried unit bound cost))
tried_still parts box old new plan (inr left) tried =
    subst (IsTried parts box) (sym left.same) tried

-- a plan of the first box
improved_in : (parts : Parts) (pool : List CutName) (budget : Budget) (path : Path)
    (old new : RecordDraft)
    (plan : List (List Stop)) → IsSearching parts pool budget path old
    → IsPlanIn parts (top_box path) plan → IsOffered parts plan old new
    → IsSearching parts pool budget path new
improved_in parts pool budget path old new plan searching inside offered =
    let arrived = searching.arrived in
    let tree = offered_tree parts (box_of path.present) old new plan offered in
    let same = ap length tree.2.nodes in
    record {
      arrived = record {
        made = arrived.made;
        tight = arrived.tight;
        part = arrived.part;
        steps = arrived.steps;
        parts_of = arrived.parts_of;
        draft_is = offered_draft parts (top_box path) old new plan arrived.draft_is arrived.best
            inside offered;
        best = offered_best parts (top_box path) old new plan arrived.best offered;
        whole = λ boxes pending.
            same_complete parts pool budget (top_box path) old new tree.0
            (box_of path.present ∷ boxes)
            tree.1 tree.2 (arrived.whole boxes pending);
        room = omega (arith, same, arrived.room);
        unspent = λ left.
            offered_still parts (top_box path) old new plan offered
            (arrived.unspent (omega (arith, same, left)));
      };
      tried =
          tried_still parts (box_of path.present) old new plan offered searching.tried;
    }

-- offering a plan writes no node down
pub improved_nodes : (parts : Parts) (box : Box) (old new : RecordDraft)
    → IsImproved parts box old new → new.nodes ≡ old.nodes
improved_nodes parts box old new (inl kept) =
    (offered_tree parts box old new kept.plan kept.offered).2.nodes
improved_nodes parts box old new (inr same) = ap (λ (draft : RecordDraft). draft.nodes) same

-- wherever plans of the box are plans of the first box
improved_at : (parts : Parts) (pool : List CutName) (budget : Budget) (path : Path) (box : Box)
    (old new : RecordDraft)
    → ((plan : List (List Stop)) → IsPlanIn parts box plan → IsPlanIn parts (top_box path) plan)
    → IsImproved parts box old new → IsSearching parts pool budget path old
    → IsSearching parts pool budget path new
improved_at parts pool budget path box old new part (inl kept) searching =
    improved_in parts pool budget path old new kept.plan searching (part kept.plan kept.inside)
    kept.offered
improved_at parts pool budget path box old new part (inr same) searching =
    subst (IsSearching parts pool budget path) (sym same) searching

-- in the first box
pub improved_top : (parts : Parts) (pool : List CutName) (budget : Budget) (path : Path) (box : Box)
    (old new : RecordDraft) → box ≡ top_box path → IsImproved parts box old new
    → IsSearching parts pool budget path old → IsSearching parts pool budget path new
improved_top parts pool budget path box old new top =
    improved_at parts pool budget path box old new
    (λ plan. subst (λ b. IsPlanIn parts b plan) top)

-- in the present box
pub improved_on : (parts : Parts) (pool : List CutName) (budget : Budget) (path : Path)
    (old new : RecordDraft) → IsImproved parts (box_of path.present) old new
    → IsSearching parts pool budget path old → IsSearching parts pool budget path new
improved_on parts pool budget path old new improved searching =
    improved_at parts pool budget path (box_of path.present) old new
    (λ plan found. record {
      feasible = found.feasible;
      inside = searching.arrived.part plan found.inside;
    }) improved searching

-- a cheaper plan is one of the box that keeps every rule
pub found_in_box : (parts : Parts) (box : Box) (start : List (List Stop))
    (found : Option (List (List Stop))) → IfSome found (IsCheaper parts box start)
    → IfSome found (IsPlanIn parts box)
found_in_box parts box start None cheaper = tt
found_in_box parts box start (Some plan) cheaper =
    record { feasible = cheaper.feasible; inside = cheaper.inside }

-- a step after a plan is offered, which writes no node down, is one from before
pub stepped_from : (parts : Parts) (pool : List CutName) (budget : Budget) (path : Path)
    (old now : RecordDraft)
    (next : Path)
    (new : RecordDraft) (more : Bool) → now.nodes ≡ old.nodes
    → IsStepped parts pool budget path now next new more
    → IsStepped parts pool budget path old next new more
stepped_from parts pool budget path old now next new true same stepped = record {
  searching = stepped.searching;
  same = stepped.same;
  longer = stepped.longer ∙ ap (λ l. suc (length l)) same;
}
stepped_from parts pool budget path old now next new false same stepped = stepped
