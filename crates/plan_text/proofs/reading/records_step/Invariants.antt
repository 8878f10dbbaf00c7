use Rattle.std.proofs.Common.{◌≡◌, ◌+◌, ◌≤◌, length}
use Rattle.plan_text.specs.Plans.{records_step}
use Rattle.plan_text.proofs.reading.records_step.Given as goal

-- what is left decides, and the numbers of its records are small
abbrev pub invariant-records : goal.invariant-records
invariant-records l =
    (records_step l.scenario l.number l.trips l.rows
    ≡ records_step l.fn.scenario 1 l.fn.trips l.fn.rows)
    × (l.number + length l.rows ≤ 67108865)

abbrev pub decreases-records : goal.decreases-records
decreases-records l = length l.rows
