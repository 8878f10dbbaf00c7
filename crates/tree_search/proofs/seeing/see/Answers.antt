use Rattle.time_windows.specs.Subproblems.{box_in, parts_in}
use Rattle.tree_search.proofs.SeenFacts.{never, none_unit, unit_has}
use Rattle.tree_search.proofs.seeing.see.Goals as goal

pub bound_of-bound-requires-clause-some : goal.bound_of-bound-requires-clause-some
bound_of-bound-requires-clause-some c =
    unit_has (parts_in c.args.problem) (box_in c.args.problem)
    (λ f n shut. never ((c.if-is_empty.ensures).1 (f, n, shut)))
    (none_unit (parts_in c.args.problem) (box_in c.args.problem) c.args.problem.made.inside
    c.requires.tight (λ f n shut. never ((c.if-is_empty.ensures).1 (f, n, shut))) c.in-None.ensures)
