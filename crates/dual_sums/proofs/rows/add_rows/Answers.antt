use Rattle.std.proofs.Common.{sym, ◌∙◌}
use Rattle.cut_rows.specs.Relaxations.{parts_under}
use Rattle.dual_sums.specs.Growing.{choice_under}
use Rattle.dual_sums.proofs.RowGrowFacts.{rows_all, rows_more}
use Rattle.dual_sums.proofs.rows.add_rows.Goals as goal

pub loop-position-preserved : goal.loop-position-preserved
loop-position-preserved c =
    let relaxation = c.args.relaxation in
    rows_more (parts_under relaxation) relaxation.pool.now
    (choice_under relaxation)
    c.args.rows.now
    c.loop-position.position _ c.args.sums.now c.loop-position.sums c.add_multiplier.new.sums
    c.loop-position-test.true c.loop-position.invariant
    (sym c.add_multiplier.ensures.told ∙ c.if-not-add_multiplier.false)
    (c.add_multiplier.ensures.grows c.if-not-add_multiplier.false)

pub returns-clause-rows : goal.returns-clause-rows
returns-clause-rows c =
    let relaxation = c.args.relaxation in
    rows_all (parts_under relaxation) relaxation.pool.now
    (choice_under relaxation)
    c.args.rows.now
    c.loop-position.position c.args.sums.now c.loop-position.sums c.loop-position-test.false
    c.loop-position.auto.position-end c.loop-position.invariant
