-- Rows that are added to sums.
use Rattle.std.specs.Prelude.{◌≡◌, ℕ, ◌*◌, ◌^◌, ◌<◌, true, List, length, take, Some, slice_get}
use Rattle.flow_types.specs.declared.parts.Parts.{Parts}
use Rattle.bytime_model.specs.declared.variables.Var.{Var}
use Rattle.bytime_model.specs.declared.multiplier.Multiplier.{Multiplier}
use Rattle.cut_rows.specs.declared.names.CutName.{CutName}
use Rattle.cut_rows.specs.Pools.{is_row_with}
use Rattle.dual_sums.specs.Dual.{excesses}
use Rattle.dual_sums.specs.Growing.{Grows}
use Rattle.dual_sums.specs.Sums.{Summed}

-- The first so many rows are there, and are added.
pub record AreAddedTo (parts : Parts) (pool : List CutName) (at : (ℕ → ℕ) → Var → ℕ)
    (rows : List Multiplier) (count : ℕ) (old new : Summed) : Type 0 where
  pub known : (k : ℕ) (multiplier : Multiplier) → k < count → slice_get rows k ≡ Some multiplier
      → is_row_with parts pool multiplier.row ≡ true
  pub grows : Grows at (excesses parts pool (take count rows)) (count * 2 ^ 82) old new

-- all are
pub record AreAdded (parts : Parts) (pool : List CutName) (at : (ℕ → ℕ) → Var → ℕ)
    (rows : List Multiplier) (old new : Summed) : Type 0 where
  pub known : (k : ℕ) (multiplier : Multiplier) → slice_get rows k ≡ Some multiplier
      → is_row_with parts pool multiplier.row ≡ true
  pub grows : Grows at (excesses parts pool rows) (length rows * 2 ^ 82) old new
