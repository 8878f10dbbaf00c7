use Rattle.std.proofs.Common.{◌≡◌, ◌≤◌, ◌+◌, All, drop, length}
use Rattle.csv.specs.Records.{fields_of}
use Rattle.flow_types.specs.Valid.{IsValue}
use Rattle.scenario_reader.specs.Tables.{values_from}
use Rattle.scenario_reader.proofs.TableFacts.{with_values}
use Rattle.scenario_reader.proofs.tables.values_in.Given as goal

-- what is left decides
abbrev pub invariant-loop-at : goal.invariant-loop-at
invariant-loop-at l =
    (with_values l.values (values_from (l.at + 1) (drop l.at (fields_of l.row)))
    ≡ values_from 3 (drop 2 (fields_of l.row)))
    × (All IsValue l.values) × (length l.values + 2 ≡ l.at) × (l.at ≤ 514)
