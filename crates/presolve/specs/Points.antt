-- Points of the relaxation on a box: a number from 0 to 1 for each variable of the by-time program
-- that the box leaves free, with which every row is kept, those of a pool's cuts among them. The
-- numbers are numerators over one denominator.
use Rattle.std.specs.Prelude.{◌≡◌, ℕ, Bool, false, List, slice_index_or, All, Option, None, Some, ℤ, pos, ◌+ℤ◌, ◌-ℤ◌, ◌*ℤ◌, ◌≤ℤ◌, ◌<ℤ◌, if◌then◌else◌}
use Rattle.std.specs.List.{position_from}
use Rattle.exact_sums.specs.Sums.{total}
use Rattle.flow_types.specs.declared.parts.Parts.{Parts}
use Rattle.time_windows.specs.Boxes.{Box}
use Rattle.bytime_model.specs.declared.left.Left.{Left}
use Rattle.bytime_model.specs.declared.left.Left.TheVariants.{Free, One, Same, Zero}
use Rattle.bytime_model.specs.declared.variables.Term.{Term}
use Rattle.bytime_model.specs.declared.variables.Var.{Var}
use Rattle.bytime_model.specs.CostRow.{cost_row}
use Rattle.bytime_model.specs.Left.{left_of}
use Rattle.bytime_model.specs.Rows.{AtMost}
use Rattle.cut_rows.specs.declared.names.CutName.{CutName}
use Rattle.cut_rows.specs.Pools.{row_with, rows_with}
use Rattle.presolve.specs.Relaxed.{flipped_of}
use Rattle.presolve.specs.Variables.{columns_of, is_same}

-- from 0 to 1
pub record IsNumerator (denominator numerator : ℤ) : Type 0 where
  pub low : pos 0 ≤ℤ numerator
  pub high : numerator ≤ℤ denominator

-- the numerators agree with what is left of the variable
abbrev pub AgreesOver : ℤ → (Var → ℤ) → Var → Left → Type 0
AgreesOver denominator value variable Zero = value variable ≡ pos 0
AgreesOver denominator value variable One = value variable ≡ denominator
AgreesOver denominator value variable (Same other) = value variable ≡ value other
AgreesOver denominator value variable Free = Unit {0}

-- the sum of terms, where variables have these numerators
abbrev pub form_at : (Var → ℤ) → List Term → ℤ
form_at value terms = total (λ term. term.factor *ℤ value term.variable) terms

abbrev pub IsRowKept : (Var → ℤ) → ℤ → AtMost → Type 0
IsRowKept value denominator row = form_at value row.terms ≤ℤ (row.limit *ℤ denominator)

pub record IsRelaxationPoint (parts : Parts) (pool : List CutName) (box : Box) (value : Var → ℤ)
    (denominator : ℤ) : Type 0 where
  pub positive : pos 0 <ℤ denominator
  pub within : (variable : Var) → left_of parts.flights box variable ≡ Free
      → IsNumerator denominator (value variable)
  pub agree : (variable : Var)
      → AgreesOver denominator value variable (left_of parts.flights box variable)
  pub kept : All (λ name. IsRowKept value denominator (row_with parts pool name))
      (rows_with parts pool)

-- what it costs by the cost row, times the denominator
abbrev pub relaxation_cost : Parts → (Var → ℤ) → ℤ → ℤ
relaxation_cost parts value denominator =
    ((cost_row parts).constant *ℤ denominator) +ℤ form_at value (cost_row parts).terms

-- 1 less the number, where it is flipped
abbrev pub turned : ℤ → Bool → ℤ → ℤ
turned denominator flip numerator = if flip then denominator -ℤ numerator else numerator

-- the numerators of the variables, by those of the columns; a variable that has no column is at 0
abbrev pub column_value : List Bool → (ℕ → ℤ) → ℤ → Option ℕ → ℤ
column_value flips numerator denominator None = pos 0
column_value flips numerator denominator (Some column) =
    turned denominator (slice_index_or flips column false) (numerator column)

abbrev pub free_value : Parts → Box → (ℕ → ℤ) → ℤ → Var → ℤ
free_value parts box numerator denominator variable =
    column_value (flipped_of parts box) numerator denominator
    (position_from (is_same variable) 0 (columns_of parts box))

abbrev pub left_value : (Var → ℤ) → ℤ → Var → Left → ℤ
left_value free denominator variable Zero = pos 0
left_value free denominator variable One = denominator
left_value free denominator variable (Same other) = free other
left_value free denominator variable Free = free variable

abbrev pub value_of_point : Parts → Box → (ℕ → ℤ) → ℤ → Var → ℤ
value_of_point parts box numerator denominator variable =
    left_value (free_value parts box numerator denominator) denominator variable
    (left_of parts.flights box variable)
