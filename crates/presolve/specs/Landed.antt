-- Where the variables of a sum of terms land: what the box fixes is replaced, and what is the same
-- as a column is added to it.
use Rattle.std.specs.Prelude.{ℕ, ◌+◌, Bool, true, false, List, [], ◌∷◌, ◌++◌, ℤ, pos, if◌then◌else◌}
use Rattle.exact_sums.specs.Sums.{total}
use Rattle.flow_types.specs.declared.parts.Parts.{Parts}
use Rattle.row_arena.specs.declared.entry.Entry.{Entry}
use Rattle.row_arena.specs.Rows.{unless_zero}
use Rattle.time_windows.specs.Boxes.{Box}
use Rattle.bytime_model.specs.declared.left.Left.{Left}
use Rattle.bytime_model.specs.declared.left.Left.TheVariants.{Free, One, Same, Zero}
use Rattle.bytime_model.specs.declared.variables.Term.{Term}
use Rattle.bytime_model.specs.declared.variables.Var.{Var}
use Rattle.bytime_model.specs.Left.{left_of}
use Rattle.presolve.specs.Variables.{is_same}

-- by what is left of it, the variable lands on the column, or surely counts
abbrev pub is_on : Left → Var → Var → Bool
is_on Zero variable column = false
is_on One variable column = false
is_on (Same other) variable column = is_same other column
is_on Free variable column = is_same variable column

abbrev pub is_one : Left → Bool
is_one Zero = false
is_one One = true
is_one (Same other) = false
is_one Free = false

-- the factor of a column: those of the terms that land on it, added up
abbrev pub part_on : Parts → Box → Var → Term → ℤ
part_on parts box column term =
    if is_on (left_of parts.flights box term.variable) term.variable column then term.factor
    else pos 0

abbrev pub coefficient_of : Parts → Box → List Term → Var → ℤ
coefficient_of parts box terms column = total (part_on parts box column) terms

-- what is fixed: the factors of the variables that are 1, added up
abbrev pub part_fixed : Parts → Box → Term → ℤ
part_fixed parts box term =
    if is_one (left_of parts.flights box term.variable) then term.factor else pos 0

abbrev pub fixed_of : Parts → Box → List Term → ℤ
fixed_of parts box terms = total (part_fixed parts box) terms

-- a row over columns from a number on, without zeros
abbrev pub entries_from : (Var → ℤ) → ℕ → List Var → List Entry
entries_from coefficient number [] = []
entries_from coefficient number (column ∷ columns) =
    unless_zero number (coefficient column) ++ entries_from coefficient (number + 1) columns
