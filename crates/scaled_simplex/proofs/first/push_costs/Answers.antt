use Rattle.std.proofs.Common.{◌++◌, [], ap, ◌∙◌}
use Rattle.exact_sums.proofs.LoopFacts.{numbers_more, numbers_none}
use Rattle.row_arena.specs.declared.entry.Entry.{Entry}
use Rattle.row_arena.specs.Rows.{negated_entry, unless_zero}
use Rattle.scaled_simplex.proofs.first.push_costs.Goals as goal

pub loop-column-init : goal.loop-column-init
loop-column-init c = rw c.requires.none (numbers_none 0 [])

pub loop-column-preserved : goal.loop-column-preserved
loop-column-preserved c =
    numbers_more c.loop-column.invariant (c.in_ok-push_unless_zero.ensures
    ∙ ap (λ (e : Entry). c.loop-column.row.items ++ unless_zero e.column e.value)
    (c.turned.ensures ∙ ap negated_entry c.cost_of.ensures))
