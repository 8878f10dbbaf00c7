use Rattle.std.proofs.Common.{◌+◌, ◌∙◌, ap, not, sym, subst}
use Rattle.flow_types.specs.Scenario.{parts_of}
use Rattle.time_windows.specs.Held.{box_of}
use Rattle.dual_leaf.specs.UnitSums.{IsSoFar}
use Rattle.dual_leaf.proofs.UnitSumFacts.{next_near, so_far_more}
use Rattle.dual_leaf.proofs.unit.with_next.Goals as goal

pub plus-requires-clause-more : goal.plus-requires-clause-more
plus-requires-clause-more c =
    next_near (parts_of c.args.s.now) c.args.s.now.valid (box_of c.args.boxes.now)
    c.requires.unit c.args.flight c.args.loads.now c.add_next-cost.new.loads c.args.sum
    c.add_next-cost.result c.requires.flight (c.is_none.ensures ∙ ap not c.if-is_none.false)
    c.requires.before c.add_next-cost.ensures.next

pub returns-clause-so_far : goal.returns-clause-so_far
returns-clause-so_far c =
    subst (IsSoFar (parts_of c.args.s.now) (box_of c.args.boxes.now) (c.args.flight + 1)
    c.add_next-cost.new.loads) (sym c.plus.ensures)
    (so_far_more (parts_of c.args.s.now) c.args.s.now.valid (box_of c.args.boxes.now)
    c.requires.unit c.args.flight c.args.loads.now c.add_next-cost.new.loads c.args.sum
    c.add_next-cost.result c.requires.flight c.requires.before c.add_next-cost.ensures.next)
