-- At the first box of a path each plan that is written down is in it, so that the last one costs
-- the cutoff there.
use Rattle.std.proofs.Common.{◌≡◌, List, [], ◌∷◌, length, All, IfSome, Option, ℤ, refl, sym, ap, subst, arith}
use Rattle.exact_sums.proofs.ItemFacts.{All-item, item_there}
use Rattle.flow_types.specs.declared.parts.Parts.{Parts}
use Rattle.flow_types.specs.declared.plan.Stop.{Stop}
use Rattle.time_windows.specs.Boxes.{Box}
use Rattle.time_windows.specs.Held.{Held, box_of}
use Rattle.time_windows.specs.Plans.{IsPlanIn}
use Rattle.branch_tree.specs.Paths.{Path, top_box, top_of}
use Rattle.cut_rows.specs.declared.names.CutName.{CutName}
use Rattle.tree_search.specs.declared.draft.RecordDraft.{RecordDraft}
use Rattle.tree_search.specs.declared.found.Budget.{Budget}
use Rattle.tree_search.specs.Nodes.{cost_of, cutoff_after}
use Rattle.lagrange_bound.specs.Best.{HasPlanAt}
use Rattle.tree_search.specs.Searching.{IsArrived}

known_last : (parts : Parts) (box : Box) (plans : List (List (List Stop)))
    → All (IsPlanIn parts box) plans → IfSome (cutoff_after parts plans (length plans))
    (HasPlanAt parts box)
known_last parts box [] inside = tt
known_last parts box (plan ∷ plans) inside =
    let last = item_there (plan ∷ plans) (length plans) (omega arith) in
    let here = All-item (IsPlanIn parts box) (plan ∷ plans) (length plans) last.0 inside last.1 in
    subst (λ o. IfSome (cost_of parts o) (HasPlanAt parts box)) (sym last.1)
    (record { plan = last.0; inside = here; costs = refl })

pub known_first : (parts : Parts) (pool : List CutName) (budget : Budget) (path : Path)
    (draft : RecordDraft)
    → IsArrived parts pool budget path draft → path.above ≡ []
    → IfSome draft.best (HasPlanAt parts (box_of path.present))
known_first parts pool budget path draft arrived above =
    let top : top_box path ≡ box_of path.present =
    ap (λ (l : List Held). box_of (top_of path.present l)) above in
    subst (λ (o : Option ℤ). IfSome o (HasPlanAt parts (box_of path.present))) (sym arrived.best)
    (known_last parts (box_of path.present) draft.plans
    (subst (λ box. All (IsPlanIn parts box) draft.plans) top arrived.draft_is.plans))
