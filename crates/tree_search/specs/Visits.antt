-- The greedy plan of a box, offered to what is written down, or it was stuck; and any plan of a
-- box. No public clause cites these.
use Rattle.std.specs.Prelude.{◌≡◌, ◌⊎◌, ℕ, List}
use Rattle.flow_types.specs.declared.parts.Parts.{Parts}
use Rattle.flow_types.specs.declared.plan.Stop.{Stop}
use Rattle.flow_types.specs.Feasible.{IsFeasible}
use Rattle.time_windows.specs.Boxes.{Box}
use Rattle.time_windows.specs.Plans.{IsPlanIn}
use Rattle.greedy_plan.specs.Greedy.{IsGreedy, IsStuck}
use Rattle.tree_search.specs.declared.draft.RecordDraft.{RecordDraft}
use Rattle.tree_search.specs.Drafts.{IsOffered}

pub record IsGreedyOffered (parts : Parts) (box : Box) (old new : RecordDraft) : Type 0 where
  pub plan : List (List Stop)
  pub greedy : IsGreedy parts box plan
  pub feasible : IsFeasible parts plan
  pub offered : IsOffered parts plan old new

pub record IsGreedyStuck (parts : Parts) (box : Box) (old new : RecordDraft) : Type 0 where
  pub kept : List (List Stop)
  pub flight : ℕ
  pub stuck : IsStuck parts box kept flight
  pub same : new ≡ old

abbrev pub IsVisited : Parts → Box → RecordDraft → RecordDraft → Type 0
IsVisited parts box old new = IsGreedyOffered parts box old new ⊎ IsGreedyStuck parts box old new

-- a plan of the box was offered
pub record IsPlanOffered (parts : Parts) (box : Box) (old new : RecordDraft) : Type 0 where
  pub plan : List (List Stop)
  pub inside : IsPlanIn parts box plan
  pub offered : IsOffered parts plan old new

-- or none was
abbrev pub IsImproved : Parts → Box → RecordDraft → RecordDraft → Type 0
IsImproved parts box old new = IsPlanOffered parts box old new ⊎ (new ≡ old)
