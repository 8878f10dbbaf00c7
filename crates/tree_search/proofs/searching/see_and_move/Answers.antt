use Rattle.std.proofs.Common.{IfSome, refl, sym, subst}
use Rattle.flow_types.specs.Scenario.{parts_of}
use Rattle.time_windows.specs.Held.{Held, box_of}
use Rattle.lagrange_bound.specs.Best.{HasPlanAt}
use Rattle.tree_search.specs.Seen.{IsSeen}
use Rattle.tree_search.proofs.KnownFacts.{known_first}
use Rattle.tree_search.proofs.SearchFacts.{left_leaf, split_on}
use Rattle.tree_search.proofs.searching.see_and_move.Goals as goal

pub returns-in_ok-next-in-Leaf-clause-left : goal.returns-in_ok-next-in-Leaf-clause-left
returns-in_ok-next-in-Leaf-clause-left c =
    left_leaf (parts_of c.args.s.now) c.args.setting.pool.now c.args.setting.budget c.args.walk.now
    c.leave.new.walk
    c.args.draft.now c.leave.new.draft c.has_room-more.result c.in_ok-next-in-Leaf.next
    c.in-Leaf.leaf c.in-Leaf.bound c.requires.searching.arrived c.requires.begun
    (c.has_room-more.ensures).1
    (subst (IsSeen (parts_of c.args.s.now) c.args.setting.pool.now c.args.setting.budget
    c.args.draft.now.best
    c.has_room-more.result (box_of c.args.walk.now.present)) c.in-Leaf.is
    (subst (λ (h : Held). IsSeen (parts_of c.args.s.now) c.args.setting.pool.now
    c.args.setting.budget
    c.args.draft.now.best c.has_room-more.result (box_of h) c.in_ok-seen.seen) c.boxes.ensures
    c.in_ok-seen.ensures.seen))
    c.in_ok-next-in-Leaf.ensures.noted c.in_ok-next-in-Leaf.ensures.next

pub returns-in_ok-split-in-Split-clause-left : goal.returns-in_ok-split-in-Split-clause-left
returns-in_ok-split-in-Split-clause-left c =
    split_on (parts_of c.args.s.now) c.args.setting.pool.now c.args.setting.budget c.args.walk.now
    c.args.draft.now
    c.split.new.draft c.requires.searching.arrived c.requires.begun c.has_room-more.result
    (c.has_room-more.ensures).0 c.in-Split.branch
    (subst (IsSeen (parts_of c.args.s.now) c.args.setting.pool.now c.args.setting.budget
    c.args.draft.now.best
    c.has_room-more.result (box_of c.args.walk.now.present)) c.in-Split.is
    (subst (λ (h : Held). IsSeen (parts_of c.args.s.now) c.args.setting.pool.now
    c.args.setting.budget
    c.args.draft.now.best c.has_room-more.result (box_of h) c.in_ok-seen.seen) c.boxes.ensures
    c.in_ok-seen.ensures.seen))
    c.in_ok-split-in-Split.ensures.noted c.split.new.walk.present
    c.in_ok-split-in-Split.ensures.tight c.in_ok-split-in-Split.ensures.made c.split.new.walk
    refl c.in_ok-split-in-Split.ensures.above c.in_ok-split-in-Split.ensures.steps

pub see-requires-clause-known : goal.see-requires-clause-known
see-requires-clause-known c = λ first.
    subst (λ (h : Held). IfSome c.args.draft.now.best
    (HasPlanAt (parts_of c.args.s.now) (box_of h))) (sym c.boxes.ensures)
    (known_first (parts_of c.args.s.now) c.args.setting.pool.now c.args.setting.budget
    c.args.walk.now c.args.draft.now
    c.requires.searching.arrived (c.requires.first first))
