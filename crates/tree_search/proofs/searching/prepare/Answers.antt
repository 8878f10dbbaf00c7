use Rattle.time_windows.specs.Subproblems.{box_in, parts_in}
use Rattle.tree_search.proofs.ImproveFacts.{improved_top}
use Rattle.tree_search.proofs.searching.prepare.Goals as goal

pub returns-clause-improved : goal.returns-clause-improved
returns-clause-improved c = λ pool budget path top searching.
    let on = improved_top (parts_in c.args.start.whole) pool budget path
    (box_in c.args.start.whole) in
    on _ _ top c.in_ok-improve_again.ensures.improved
    (on _ _ top c.in_ok-improve-2.ensures.improved
    (on _ _ top c.in_ok-improve_further.ensures.improved
    (on _ _ top c.in_ok-improve.ensures.improved searching)))
