-- The rows of a day with a pool of cuts, by their names.
use Rattle.std.specs.Prelude.{◌≡◌, ◌^◌, ◌<◌, All, Bool, false, true, List, ◌++◌, length, map, Option, None, Some, slice_get}
use Rattle.std.specs.List.{range_with_len}
use Rattle.flow_types.specs.declared.parts.Parts.{Parts}
use Rattle.bytime_model.specs.declared.names.RowName.{RowName}
use Rattle.bytime_model.specs.declared.names.RowName.TheVariants.{Cut}
use Rattle.bytime_model.specs.AllRows.{rows_of}
use Rattle.bytime_model.specs.Rows.{AtMost, is_row, no_row, row_of}
use Rattle.cut_rows.specs.declared.names.CutName.{CutName}
use Rattle.cut_rows.specs.Cuts.{cut_row, is_cut}

-- the cut at a position, if there is one
abbrev pub is_cut_at : Parts → Option CutName → Bool
is_cut_at parts None = false
is_cut_at parts (Some cut) = is_cut parts cut

abbrev pub cut_row_at : Parts → Option CutName → AtMost
cut_row_at parts None = no_row
cut_row_at parts (Some cut) = cut_row parts cut

-- there is such a row, with a pool
abbrev pub is_row_with : Parts → List CutName → RowName → Bool
is_row_with parts pool (Cut i) = is_cut_at parts (slice_get pool i)
is_row_with parts pool name = is_row parts name

abbrev pub row_with : Parts → List CutName → RowName → AtMost
row_with parts pool (Cut i) = cut_row_at parts (slice_get pool i)
row_with parts pool name = row_of parts name

-- the names of the pool's rows, and of all: the day's come first
abbrev pub cut_names : List CutName → List RowName
cut_names pool = map Cut (range_with_len 0 (length pool))

abbrev pub rows_with : Parts → List CutName → List RowName
rows_with parts pool = rows_of parts ++ cut_names pool

-- cuts of the scenario, and not too many
pub record IsPoolOf (parts : Parts) (pool : List CutName) : Type 0 where
  pub cuts : All (λ cut. is_cut parts cut ≡ true) pool
  pub few : length pool < 2 ^ 31
