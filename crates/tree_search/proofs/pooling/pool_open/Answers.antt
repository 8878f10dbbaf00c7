use Rattle.std.proofs.Common.{IfSome, subst}
use Rattle.relaxed_bound.specs.Point.{IsPointIn, IsToldPoint}
use Rattle.tree_search.specs.Seen.{IsRelaxedIn}
use Rattle.time_windows.specs.Subproblems.{box_in, parts_in}
use Rattle.tree_search.proofs.PoolFacts.{told_first}
use Rattle.tree_search.proofs.pooling.pool_open.Goals as goal

pub returns-clause-pool : goal.returns-clause-pool
returns-clause-pool c =
    told_first (parts_in c.args.problem) c.args.limits c.args.cutoff (box_in c.args.problem)
    c.in_ok-pool.pool c.in_ok-relaxed.relaxed.point c.args._branch
    (subst (λ cuts. IsToldPoint (parts_in c.args.problem) cuts (box_in c.args.problem)
    c.args.limits c.args.cutoff c.in_ok-relaxed.relaxed.point) c.empty-none.ensures
    c.in_ok-relaxed.ensures.told)
    (subst (λ cuts. IfSome c.in_ok-relaxed.relaxed.point
    (IsPointIn (parts_in c.args.problem) cuts (box_in c.args.problem))) c.empty-none.ensures
    c.in_ok-relaxed.ensures.point)
    c.in_ok-pool.ensures.pool c.requires.live c.requires.branch

pub returns-clause-relaxed : goal.returns-clause-relaxed
returns-clause-relaxed c =
    c.if_none-relaxed.ensures (parts_in c.args.problem) (box_in c.args.problem) c.args.limits
    c.args.cutoff (subst (λ cuts. IsRelaxedIn (parts_in c.args.problem) cuts
    (box_in c.args.problem) c.args.limits c.args.cutoff c.in_ok-relaxed.relaxed)
    c.empty-none.ensures c.in_ok-relaxed.ensures.relaxed)
