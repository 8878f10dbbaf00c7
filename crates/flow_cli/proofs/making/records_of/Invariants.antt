use Rattle.std.proofs.Common.{◌≡◌, ◌+◌, length}
use Rattle.text_records.specs.Rows.{rows_of}
use Rattle.flow_cli.proofs.making.records_of.Given as goal

-- the records so far, and those that are left
abbrev pub invariant-records : goal.invariant-records
invariant-records l = l.count + length l.rows ≡ length (rows_of l.fn.text)

abbrev pub decreases-records : goal.decreases-records
decreases-records l = length l.rows
