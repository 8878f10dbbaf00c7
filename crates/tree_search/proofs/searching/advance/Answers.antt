use Rattle.std.proofs.Common.{subst}
use Rattle.flow_types.specs.Scenario.{parts_of}
use Rattle.time_windows.specs.Held.{Held, box_of}
use Rattle.tree_search.specs.Visits.{IsImproved}
use Rattle.tree_search.proofs.ImproveFacts.{improved_nodes, improved_on, stepped_from}
use Rattle.tree_search.proofs.searching.advance.Goals as goal

pub step-requires-clause-searching : goal.step-requires-clause-searching
step-requires-clause-searching c =
    improved_on (parts_of c.args.s.now) c.args.setting.pool.now c.args.setting.budget
    c.args.walk.now c.args.draft.now c.climb_and_offer.new.draft
    (subst (λ (h : Held). IsImproved (parts_of c.args.s.now) (box_of h) c.args.draft.now
    c.climb_and_offer.new.draft) c.boxes.ensures c.in_ok-climbed.ensures.improved)
    c.requires.searching

pub returns-clause-stepped : goal.returns-clause-stepped
returns-clause-stepped c =
    stepped_from (parts_of c.args.s.now) c.args.setting.pool.now c.args.setting.budget
    c.args.walk.now c.args.draft.now c.climb_and_offer.new.draft c.step.new.walk c.step.new.draft
    c.in_ok-goes_on.goes_on
    (improved_nodes (parts_of c.args.s.now) (box_of c.boxes.result.now) c.args.draft.now
    c.climb_and_offer.new.draft c.in_ok-climbed.ensures.improved) c.in_ok-goes_on.ensures.stepped
