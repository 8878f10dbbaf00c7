use Rattle.std.proofs.Common.{take}
use Rattle.row_arena.specs.Combining.{difference}
use Rattle.row_arena.proofs.PairFacts.{no_zeros_came, none_far_divided, own_entries}
use Rattle.row_arena.proofs.combining.fill_narrow.Goals as goal

pub reduce_narrow-requires-clause-no_zeros : goal.reduce_narrow-requires-clause-no_zeros
reduce_narrow-requires-clause-no_zeros c =
    no_zeros_came c.args.by c.args.target.now c.args.pivot.now
    (take c.in-Some.count c.walk.new.out)
    (own_entries (take c.in-Some.count c.walk.new.out) _ c.in-Some.ensures.rows)

pub returns-clause-near : goal.returns-clause-near
returns-clause-near c =
    let by = c.args.by in
    none_far_divided (take c.in-Some.count c.walk.new.out)
    (difference by.target by.pivot c.args.target.now c.args.pivot.now)
    (own_entries (take c.in-Some.count c.walk.new.out) _ c.in-Some.ensures.rows)
    c.in-Some.ensures.kept
