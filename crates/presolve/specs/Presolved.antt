-- What callers get of a box: its program, and what the columns and the first rows stand for.
use Rattle.std.specs.Prelude.{◌≡◌, ℕ, List}
use Rattle.flow_types.specs.declared.parts.Parts.{Parts}
use Rattle.row_arena.specs.Arena.{live}
use Rattle.scaled_simplex.specs.Tableau.{first_tableau}
use Rattle.time_windows.specs.Boxes.{Box}
use Rattle.cut_rows.specs.declared.names.CutName.{CutName}
use Rattle.presolve.specs.declared.presolved.Presolved.{Presolved}
use Rattle.presolve.specs.Leaf.{IsBelowLeaf}
use Rattle.presolve.specs.Relaxed.{flipped_of, kept_of, program_of}
use Rattle.presolve.specs.Variables.{columns_of}

pub record IsPresolved (parts : Parts) (pool : List CutName) (box : Box) (presolved : Presolved)
    : Type 0 where
  pub program : presolved.program ≡ program_of parts pool box
  pub columns : presolved.columns ≡ columns_of parts box
  pub kept : presolved.kept ≡ kept_of parts pool box
  pub flipped : presolved.flipped ≡ flipped_of parts box
  pub promise : IsBelowLeaf parts pool box presolved.program presolved.kept

-- how many entries the first tableau of the program has
abbrev pub entries_of : Parts → List CutName → Box → ℕ
entries_of parts pool box = live (first_tableau (program_of parts pool box)).rows
