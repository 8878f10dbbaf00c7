use Rattle.std.proofs.Common.{subst}
use Rattle.flow_types.specs.Scenario.{parts_of}
use Rattle.time_windows.specs.Held.{Held, box_of}
use Rattle.tree_search.specs.Searching.{IsLeft}
use Rattle.tree_search.specs.Visits.{IsVisited}
use Rattle.branch_tree.specs.Paths.{top_box}
use Rattle.tree_search.proofs.SearchFacts.{gone_on}
use Rattle.tree_search.proofs.searching.step.Goals as goal

pub returns-clause-stepped : goal.returns-clause-stepped
returns-clause-stepped c =
    gone_on (parts_of c.args.s.now) c.args.setting.pool.now c.args.setting.budget c.see_and_move.new.walk
    c.args.draft.now
    c.see_and_move.new.draft c.visit.new.draft (top_box c.args.walk.now) c.args.s.now.valid
    (subst (IsLeft (parts_of c.args.s.now) c.args.setting.pool.now c.args.setting.budget
    c.args.walk.now c.args.draft.now
    c.see_and_move.new.walk c.see_and_move.new.draft) c.if-not-branch.false c.in_ok-see_and_move.ensures.left)
    (subst (λ (h : Held). IsVisited (parts_of c.args.s.now) (box_of h) c.see_and_move.new.draft
    c.visit.new.draft) c.boxes.ensures c.in_ok-visit.ensures.visited)
