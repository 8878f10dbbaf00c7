use Rattle.std.proofs.Common.{subst}
use Rattle.flow_types.specs.Scenario.{parts_of}
use Rattle.time_windows.specs.Held.{Held, box_of}
use Rattle.time_windows.specs.Tight.{IsTightened}
use Rattle.tree_search.proofs.FoundFacts.{found_record, found_sound, searched_tree}
use Rattle.tree_search.proofs.searching.search.Goals as goal

pub found_in-requires : goal.found_in-requires
found_in-requires c =
    searched_tree (parts_of c.args.s.now) c.in_ok-draft.field-0.pool c.args.budget
    (box_of c.tighten.new.self) c.in_ok-draft.field-0.draft c.in_ok-draft.ensures.searched

pub returns-clause-record : goal.returns-clause-record
returns-clause-record c =
    found_record (parts_of c.args.s.now) (box_of c.args.root.now) (box_of c.tighten.new.self)
    c.in_ok-draft.field-0.pool c.args.budget c.in_ok-draft.field-0.draft c.args.s.now.valid
    (subst (λ (h : Held). IsTightened (parts_of c.args.s.now) (box_of h)
    (box_of c.tighten.new.self)) (c.in_ok-boxes.ensures) c.tighten.ensures.tight)
    c.in_ok-draft.ensures.searched c.found_in.result
    c.found_in.ensures.plans c.found_in.ensures.tree c.found_in.ensures.counts
    c.found_in.ensures.bounds c.found_in.ensures.pool c.found_in.ensures.bound

pub returns-clause-sound : goal.returns-clause-sound
returns-clause-sound c =
    found_sound (parts_of c.args.s.now) (box_of c.args.root.now) (box_of c.tighten.new.self)
    c.in_ok-draft.field-0.pool c.args.budget c.in_ok-draft.field-0.draft c.args.s.now.valid
    (subst (λ (h : Held). IsTightened (parts_of c.args.s.now) (box_of h)
    (box_of c.tighten.new.self)) (c.in_ok-boxes.ensures) c.tighten.ensures.tight)
    c.in_ok-draft.ensures.searched c.found_in.result
    c.found_in.ensures.plans c.found_in.ensures.tree c.found_in.ensures.counts
    c.found_in.ensures.bounds c.found_in.ensures.pool c.found_in.ensures.bound
