use Rattle.std.proofs.Common.{subst}
use Rattle.flow_types.specs.Scenario.{parts_of}
use Rattle.time_windows.specs.Held.{Held, box_of}
use Rattle.tree_search.specs.Visits.{IsVisited}
use Rattle.tree_search.proofs.BeginFacts.{begun_at}
use Rattle.tree_search.proofs.searching.search_in.Goals as goal

pub search_whole-requires-clause-searching : goal.search_whole-requires-clause-searching
search_whole-requires-clause-searching c = λ pool.
    let blank = c.requires.blank in
    begun_at (parts_of c.args.s.now) pool c.args.budget c.args.boxes c.args.draft.now
    c.begin.new.draft c.args.s.now.valid c.requires.nodes c.requires.made c.requires.tight
    blank.plans blank.nodes blank.counts blank.bounds blank.best
    (subst (λ (h : Held). IsVisited (parts_of c.args.s.now) (box_of h) c.args.draft.now
    c.begin.new.draft) c.in_ok-first.ensures c.in_ok-plan.ensures.visited) c.in_ok-walk.walk
    c.in_ok-walk.ensures.present
    c.in_ok-walk.ensures.above c.in_ok-walk.ensures.steps
