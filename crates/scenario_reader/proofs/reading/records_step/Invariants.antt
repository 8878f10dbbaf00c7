use Rattle.std.proofs.Common.{◌≡◌, ◌+◌, ◌≤◌, length}
use Rattle.scenario_reader.specs.Reading.{records_step}
use Rattle.scenario_reader.proofs.reading.records_step.Given as goal

-- what is left decides, and the numbers of its records are small
abbrev pub invariant-records : goal.invariant-records
invariant-records l =
    (records_step l.number l.draft l.rows ≡ records_step 2 l.fn.draft l.fn.rows)
    × (l.number + length l.rows ≤ 67108866)

abbrev pub decreases-records : goal.decreases-records
decreases-records l = length l.rows
