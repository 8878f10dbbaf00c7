use Rattle.cut_rows.specs.Relaxations.{parts_under}
use Rattle.dual_sums.specs.Growing.{choice_under}
use Rattle.dual_sums.specs.Rows.{AreAddedTo}
use Rattle.dual_sums.proofs.rows.add_rows.Given as goal

abbrev pub invariant-loop-position : goal.invariant-loop-position
invariant-loop-position l =
    AreAddedTo (parts_under l.relaxation) l.relaxation.pool.now
    (choice_under l.relaxation)
    l.rows l.position
    l.fn.sums l.sums
