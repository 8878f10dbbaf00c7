use Rattle.std.proofs.Common.{Bool, sym, subst}
use Rattle.branch_tree.specs.Paths.{top_box}
use Rattle.time_windows.specs.Boxes.{Box}
use Rattle.time_windows.specs.Held.{Held, box_of}
use Rattle.tree_search.specs.declared.draft.RecordDraft.{RecordDraft}
use Rattle.tree_search.specs.Searching.{IsSearched, IsStepped}
use Rattle.time_windows.specs.Subproblems.{parts_in}
use Rattle.tree_search.specs.Visits.{IsImproved}
use Rattle.tree_search.proofs.ImproveFacts.{improved_on}
use Rattle.tree_search.proofs.searching.search_whole.Goals as goal
use Rattle.tree_search.proofs.searching.search_whole.Goals.{then-branch+in_ok-go_through, else-branch}

pub step-requires-clause-searching : goal.step-requires-clause-searching
step-requires-clause-searching c =
    improved_on (parts_in c.args.start.whole) c.in_ok-pool.field-0.pool c.args.budget
    c.args.walk.now c.prepare.new.draft c.climb_and_offer.new.draft
    (subst (λ (h : Held). IsImproved (parts_in c.args.start.whole) (box_of h) c.prepare.new.draft
    c.climb_and_offer.new.draft) c.boxes.ensures c.in_ok-climbed.ensures.improved)
    (c.in_ok-bound.ensures.improved c.in_ok-pool.field-0.pool c.args.budget c.args.walk.now
    c.requires.whole (c.requires.searching c.in_ok-pool.field-0.pool))

pub returns-clause-searched : goal.returns-clause-searched
returns-clause-searched c = elim c.if-branch.branch [
  | then-branch+in_ok-go_through w ↦
      let gone = subst stepped w.if-branch.true c.in_ok-step.ensures.stepped in
      subst searched (sym w.draft-is)
      (subst (λ (top : Box). IsSearched (parts_in c.args.start.whole) c.in_ok-pool.field-0.pool
      c.args.budget top w.go_through.new.draft) gone.same w.in_ok-go_through.ensures)
  | else-branch w ↦
      subst searched (sym w.draft-is)
      (subst stepped w.if-branch.false c.in_ok-step.ensures.stepped)
]
  where
    stepped : Bool → Type 0
    stepped = IsStepped (parts_in c.args.start.whole) c.in_ok-pool.field-0.pool c.args.budget
        c.args.walk.now c.climb_and_offer.new.draft c.step.new.walk c.step.new.draft

    searched : RecordDraft → Type 0
    searched draft = IsSearched (parts_in c.args.start.whole) c.in_ok-pool.field-0.pool
        c.args.budget (top_box c.args.walk.now) draft
