-- At its begin a search is at the tight root, whose greedy plan was offered.
use Rattle.std.proofs.Common.{◌≡◌, ◌<◌, List, [], ◌∷◌, length, None, refl, sym, ◌∙◌, ap, subst, arith}
use Rattle.flow_types.specs.declared.parts.Parts.{Parts}
use Rattle.flow_types.specs.Valid.{IsScenario}
use Rattle.time_windows.specs.Boxes.{Box}
use Rattle.time_windows.specs.Held.{Held, IsMadeFor, box_of}
use Rattle.time_windows.specs.Tight.{IsTight}
use Rattle.cut_rows.specs.declared.names.CutName.{CutName}
use Rattle.tree_search.specs.declared.draft.RecordDraft.{RecordDraft}
use Rattle.tree_search.specs.declared.found.Budget.{Budget}
use Rattle.branch_tree.specs.declared.walk.Step.{Step}
use Rattle.tree_search.specs.Drafts.{Completes}
use Rattle.tree_search.specs.Searching.{IsSearching}
use Rattle.tree_search.specs.Visits.{IsVisited}
use Rattle.branch_tree.specs.Paths.{Path, top_box, top_of}
use Rattle.tree_search.proofs.VisitFacts.{first_best, first_complete, first_reached, visited_best, visited_first, visited_same, visited_tried}

module _ (parts : Parts) (pool : List CutName) (budget : Budget) (held : Held)
    (old new : RecordDraft)
    (valid : IsScenario parts) (some : 0 < budget.nodes) (made : IsMadeFor parts held)
    (tight : IsTight parts (box_of held)) (plans : old.plans ≡ []) (nodes : old.nodes ≡ [])
    (counts : old.counts ≡ []) (bounds : old.bounds ≡ []) (best : old.best ≡ None)
    (visited : IsVisited parts (box_of held) old new) where
  abbrev here : Path
  here = record { present = held; above = []; steps = [] }

  at_root : IsSearching parts pool budget here new
  at_root = record {
    arrived = record {
      made = made;
      tight = tight;
      part = λ plan inside. inside;
      steps = refl;
      parts_of = tt;
      draft_is =
          visited_first parts (box_of held) old new plans nodes counts bounds best visited;
      best = visited_best parts (box_of held) old new
          (first_best parts (box_of held) old new plans nodes counts bounds best) visited;
      whole = λ boxes pending.
          subst (λ (bs : List Box). Completes parts pool budget (box_of held) new
          (box_of held ∷ bs)) (sym pending)
          (first_complete parts (box_of held) old new plans nodes counts bounds best
          pool budget visited);
      room = omega (arith, some, none);
      unspent = λ left.
          first_reached parts (box_of held) old new plans nodes counts bounds best visited;
    };
    tried = visited_tried parts (box_of held) old new valid visited;
  }
    where
      none : length new.nodes ≡ 0
      none = ap length ((visited_same parts (box_of held) old new visited).nodes ∙ nodes)

  pub begun_at : (path : Path) → path.present ≡ held → path.above ≡ [] → path.steps ≡ []
      → IsSearching parts pool budget path new
  begun_at path present above steps =
      subst (λ (h : Held). IsSearching parts pool budget (record {
        present = h;
        above = path.above;
        steps = path.steps;
      }) new) (sym present)
      (subst (λ (l : List Held). IsSearching parts pool budget (record {
        present = held;
        above = l;
        steps = path.steps;
      }) new) (sym above)
      (subst (λ (l : List Step). IsSearching parts pool budget (record {
        present = held;
        above = [];
        steps = l;
      }) new) (sym steps) at_root))

-- the first box of the path is that box
pub begun_top : (path : Path) (held : Held) → path.present ≡ held → path.above ≡ []
    → top_box path ≡ box_of held
begun_top path held present above =
    ap (λ (l : List Held). box_of (top_of path.present l)) above ∙ ap box_of present
