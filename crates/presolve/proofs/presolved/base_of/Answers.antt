use Rattle.std.proofs.Common.{◌∙◌, ap, int_lt, map, pos}
use Rattle.cut_rows.specs.Relaxations.{box_under, parts_under}
use Rattle.presolve.proofs.ProgramFacts.{flips_are}
use Rattle.presolve.proofs.presolved.base_of.Goals as goal

pub returns-clause-flips : goal.returns-clause-flips
returns-clause-flips c =
    flips_are (parts_under c.args.relaxation) (box_under c.args.relaxation)
    c.in_ok-costs.costs.values.items c.in_ok-costs.costs.constant c.in_ok-costs.ensures
    c.in_ok-flips.flips.items
    (c.in_ok-flips.ensures ∙ ap (map (λ value. int_lt value (pos 0))) c.deref.ensures.value)
