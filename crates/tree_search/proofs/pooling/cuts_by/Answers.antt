use Rattle.std.proofs.Common.{[], IfSome, sym, subst}
use Rattle.bytime_model.proofs.NumberFacts.{ready_box}
use Rattle.cut_separation.specs.Points.{IsPointOf}
use Rattle.relaxed_bound.specs.Point.{IsPointIn}
use Rattle.time_windows.specs.Subproblems.{box_in, parts_in}
use Rattle.tree_search.proofs.PoolFacts.{free_is}
use Rattle.tree_search.proofs.pooling.cuts_by.Goals as goal

pub separate-requires-clause-ready : goal.separate-requires-clause-ready
separate-requires-clause-ready c =
    ready_box (parts_in c.args.problem) c.args.table.now.columns c.args.problem.boxes.now
    c.requires.table.columns c.args.problem.made c.requires.tight

pub separate-requires-clause-point : goal.separate-requires-clause-point
separate-requires-clause-point c =
    subst (IsPointOf (parts_in c.args.problem) (box_in c.args.problem))
    (sym c.in_ok-point-in-Some.ensures)
    (free_is (parts_in c.args.problem) (box_in c.args.problem) c.in-Some.point
    (subst (λ point. IfSome point (IsPointIn (parts_in c.args.problem) []
    (box_in c.args.problem))) c.in-Some.is c.requires.point))
