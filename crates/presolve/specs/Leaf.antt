-- The Dual leaf that multipliers of the program give, and what they promise of it.
use Rattle.std.specs.Prelude.{ℕ, List, [], ◌∷◌, ◌++◌, ℤ, pos, ◌≤ℤ◌, unsigned_abs, if◌then◌else◌}
use Rattle.std.specs.Ordering.{int_eq}
use Rattle.flow_types.specs.declared.parts.Parts.{Parts}
use Rattle.scaled_simplex.specs.Multipliers.{AreMultipliers}
use Rattle.scaled_simplex.specs.Program.{Problem}
use Rattle.time_windows.specs.Boxes.{Box}
use Rattle.bytime_model.specs.declared.names.RowName.{RowName}
use Rattle.bytime_model.specs.declared.variables.Var.{Var}
use Rattle.bytime_model.specs.declared.multiplier.Multiplier.{Multiplier}
use Rattle.cut_rows.specs.declared.names.CutName.{CutName}
use Rattle.dual_sums.specs.Dual.{IsChoice, dual_at}

-- the multipliers of the named rows that aren't 0; those of the rows after them are left out
abbrev pub unless_never : RowName → ℤ → List Multiplier
unless_never name multiplier =
    if int_eq multiplier (pos 0) then []
    else record { row = name; value = unsigned_abs multiplier } ∷ []

abbrev pub leaf_rows : List RowName → List ℤ → List Multiplier
leaf_rows [] multipliers = []
leaf_rows (name ∷ names) [] = []
leaf_rows (name ∷ names) (multiplier ∷ multipliers) =
    unless_never name multiplier ++ leaf_rows names multipliers

-- Whatever multipliers of the program there are: with its weight and these rows, the Dual leaf
-- comes to no less than their value, whatever values 0 or 1 the box leaves the variables.
abbrev pub IsBelowLeaf : Parts → List CutName → Box → Problem → List RowName → Type 0
IsBelowLeaf parts pool box program kept =
    (weight : ℕ) (multipliers : List ℤ) (value : ℤ)
    → AreMultipliers program (pos weight) multipliers value
    → (choice : Var → ℕ) → IsChoice parts.flights box choice
    → value ≤ℤ dual_at parts pool weight (leaf_rows kept multipliers) choice
