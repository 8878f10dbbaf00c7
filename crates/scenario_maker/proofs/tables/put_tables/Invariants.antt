use Rattle.std.proofs.Common.{◌≡◌, ◌++◌, drop, map}
use Rattle.scenario_maker.specs.Writing.{rows_text, table_row}
use Rattle.scenario_maker.proofs.tables.put_tables.Given as goal

-- the text so far, and the lines of the tables that are left, are the whole
abbrev pub invariant-loop-table : goal.invariant-loop-table
invariant-loop-table l =
    l.out.items ++ rows_text (map table_row (drop l.table-index l.fn.tables))
    ≡ l.fn.out.items ++ rows_text (map table_row l.fn.tables)
