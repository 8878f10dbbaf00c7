use Rattle.std.proofs.Common.{◌*◌, ◌^◌, ◌*ℤ◌, pos, slice_get}
use Rattle.bytime_model.specs.CostRow.{wait_step_at, wait_variable, steps}
use Rattle.bytime_model.specs.Values.{form_value}
use Rattle.cut_rows.specs.Relaxations.{parts_under}
use Rattle.dual_sums.specs.Growing.{Grows, choice_under}
use Rattle.dual_sums.proofs.costs.add_wait.Given as goal

abbrev pub invariant-loop-delay : goal.invariant-loop-delay
invariant-loop-delay l =
    let parts = parts_under l.relaxation in
    let found = slice_get parts.flights l.fn.flight in
    Grows (choice_under l.relaxation)
    (λ value. pos l.fn.weight *ℤ form_value value
    (steps (wait_step_at parts.tables found) (wait_variable l.fn.flight found) l.delay))
    (l.delay * 2 ^ 93) l.fn.sums l.sums
