-- The names of the rows of a day, one after the other. Cuts have no part in them.
use Rattle.std.specs.Prelude.{ℕ, ◌-◌, List, map}
use Rattle.std.specs.List.{flat_map, range_with_len}
use Rattle.flow_types.specs.declared.parts.Parts.{Parts}
use Rattle.bytime_model.specs.declared.names.RowKind.{RowKind}
use Rattle.bytime_model.specs.declared.names.Span.{Span}
use Rattle.bytime_model.specs.declared.names.RowName.{RowName}
use Rattle.bytime_model.specs.Kinds.{name_at, part_count, row_kinds, second_count, thirds}

abbrev pub numbers_in : Span → List ℕ
numbers_in span = range_with_len span.from (span.to - span.from)

-- the names of a kind that have these first two numbers
abbrev pub third_rows : Parts → RowKind → ℕ → ℕ → List RowName
third_rows parts kind first second =
    map (name_at kind first second) (numbers_in (thirds parts kind first second))

-- the names of a kind that are of one flight, place or connection
abbrev pub part_rows : Parts → RowKind → ℕ → List RowName
part_rows parts kind first =
    flat_map (third_rows parts kind first) (range_with_len 0 (second_count parts kind first))

-- the names of a kind, and of several kinds, one after the other
abbrev pub kind_rows : Parts → RowKind → List RowName
kind_rows parts kind = flat_map (part_rows parts kind) (range_with_len 0 (part_count parts kind))

abbrev pub kinds_rows : Parts → List RowKind → List RowName
kinds_rows parts kinds = flat_map (kind_rows parts) kinds

-- the names of all rows: by kind, then by their numbers from left to right
abbrev pub rows_of : Parts → List RowName
rows_of parts = kinds_rows parts row_kinds
