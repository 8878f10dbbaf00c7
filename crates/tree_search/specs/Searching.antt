-- How far a search has come: what is written down, the path to the present box, and what waits. No
-- public clause cites these.
use Rattle.std.specs.Prelude.{◌≡◌, ℕ, suc, ◌+◌, ◌≤◌, Bool, false, true, List, ◌∷◌, length}
use Rattle.flow_types.specs.declared.parts.Parts.{Parts}
use Rattle.time_windows.specs.Boxes.{Box}
use Rattle.time_windows.specs.Held.{IsMadeFor, box_of}
use Rattle.time_windows.specs.Tight.{IsTight}
use Rattle.branch_tree.specs.Forests.{IsTreeOn}
use Rattle.cut_rows.specs.declared.names.CutName.{CutName}
use Rattle.tree_search.specs.declared.draft.RecordDraft.{RecordDraft}
use Rattle.tree_search.specs.declared.found.Budget.{Budget}
use Rattle.tree_search.specs.Drafts.{AreReached, Completes, IsBest, IsDraft, IsDraftedAt, IsTried}
use Rattle.branch_tree.specs.Paths.{ArePartsOf, ArePending, AreSteps, IsPartOf, Path, top_box, waiting_in}

-- how many nodes there will be at the least: those that are there, the present box and those that
-- wait
abbrev pub planned_in : RecordDraft → Path → ℕ
planned_in draft path = length draft.nodes + suc (waiting_in path.steps)

-- at a box that is still to be seen
pub record IsArrived (parts : Parts) (pool : List CutName) (budget : Budget) (path : Path)
    (draft : RecordDraft)
    : Type 0 where
  pub made : IsMadeFor parts path.present
  pub tight : IsTight parts (box_of path.present)
  pub part : IsPartOf (top_box path) path.present
  pub steps : AreSteps parts path.above path.steps
  pub parts_of : ArePartsOf (top_box path) path.above
  pub draft_is : IsDraft parts (top_box path) draft
  pub best : IsBest parts draft
  pub whole : (boxes : List Box) → ArePending parts path.above path.steps boxes
      → Completes parts pool budget (top_box path) draft (box_of path.present ∷ boxes)
  pub room : planned_in draft path ≤ budget.nodes
  pub unspent : planned_in draft path + 2 ≤ budget.nodes → AreReached draft

-- and its greedy plan was offered
pub record IsSearching (parts : Parts) (pool : List CutName) (budget : Budget) (path : Path)
    (draft : RecordDraft)
    : Type 0 where
  pub arrived : IsArrived parts pool budget path draft
  pub tried : IsTried parts (box_of path.present) draft

-- at the end: the tree is whole
pub record IsSearched (parts : Parts) (pool : List CutName) (budget : Budget) (top : Box)
    (draft : RecordDraft)
    : Type 0 where
  pub draft_is : IsDraft parts top draft
  pub best : IsBest parts draft
  pub tree : IsTreeOn parts
      (IsDraftedAt parts pool budget draft.plans draft.counts draft.bounds) top draft.nodes
  pub room : length draft.nodes ≤ budget.nodes
  pub unspent : length draft.nodes + 2 ≤ budget.nodes → AreReached draft

-- after a box was seen: the search goes on at the next one, with a node more, or it is at its end
pub record IsGoneOn (parts : Parts) (pool : List CutName) (budget : Budget) (old : RecordDraft)
    (top : Box) (path : Path)
    (new : RecordDraft) : Type 0 where
  pub searching : IsSearching parts pool budget path new
  pub same : top_box path ≡ top
  pub longer : length new.nodes ≡ suc (length old.nodes)

-- the same before its greedy plan is offered
pub record IsAtNext (parts : Parts) (pool : List CutName) (budget : Budget) (old : RecordDraft)
    (top : Box) (path : Path)
    (new : RecordDraft) : Type 0 where
  pub arrived : IsArrived parts pool budget path new
  pub same : top_box path ≡ top
  pub longer : length new.nodes ≡ suc (length old.nodes)

abbrev pub IsLeft : Parts → List CutName → Budget → Path → RecordDraft → Path → RecordDraft → Bool
    → Type 0
IsLeft parts pool budget path old next new true = IsAtNext parts pool budget old
    (top_box path) next new
IsLeft parts pool budget path old next new false = IsSearched parts pool budget (top_box path) new

abbrev pub IsStepped : Parts → List CutName → Budget → Path → RecordDraft → Path → RecordDraft
    → Bool → Type 0
IsStepped parts pool budget path old next new true =
    IsGoneOn parts pool budget old (top_box path) next new
IsStepped parts pool budget path old next new false = IsSearched parts pool budget
    (top_box path) new
