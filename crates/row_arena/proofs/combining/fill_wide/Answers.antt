use Rattle.std.proofs.Common.{take}
use Rattle.row_arena.proofs.PairFacts.{wide_came}
use Rattle.row_arena.proofs.combining.fill_wide.Goals as goal

pub reduce-requires : goal.reduce-requires
reduce-requires c =
    wide_came c.args.by c.args.target.now c.args.pivot.now (take c.in-Some.count c.walk.new.out)
    c.in-Some.ensures.rows c.in-Some.ensures.kept
