use Rattle.std.proofs.Common.{arith, pos, ◌∙◌}
use Rattle.scaled_simplex.proofs.ListedFacts.{added_entry}
use Rattle.scaled_simplex.proofs.listing.add_entries.Goals as goal

pub loop-k-preserved : goal.loop-k-preserved
loop-k-preserved c =
    let before = c.loop-k.invariant.1 in
    let more = c.add_within.ensures.count in (
      added_entry c.args.row c.args.entries.now c.loop-k.k (record { column = 0; value = pos 0 })
          c.args.lists.now.rows c.loop-k.lists.rows c.add_within.new.lists.rows
          c.loop-k-test.true c.loop-k.invariant.0 c.add_within.ensures.added,
      omega (arith, before, more),
      c.add_within.ensures.room ∙ c.loop-k.invariant.2,
    )
