-- Points of a box: a fraction for each variable that it leaves free, and what others are there.
use Rattle.std.specs.Prelude.{◌≡◌, ℕ, ◌^◌, Bool, false, ◌&&◌, ◌==◌, All, List, [], ◌∷◌, length, drop, slice_index_or, ℤ, pos, ◌≤ℤ◌, ◌<ℤ◌, if◌then◌else◌}
use Rattle.flow_types.specs.declared.flight.Flight.{Flight}
use Rattle.flow_types.specs.declared.parts.Parts.{Parts}
use Rattle.time_windows.specs.Boxes.{Box}
use Rattle.bytime_model.specs.declared.columns.Column.{Column}
use Rattle.bytime_model.specs.declared.landing.Landing.{Landing}
use Rattle.bytime_model.specs.declared.landing.Landing.TheVariants.{At, Nowhere, Surely}
use Rattle.bytime_model.specs.declared.left.Left.{Left}
use Rattle.bytime_model.specs.declared.left.Left.TheVariants.{Free, One, Same, Zero}
use Rattle.bytime_model.specs.declared.variables.Var.{Var}
use Rattle.bytime_model.specs.declared.variables.Var.TheVariants.{By, Inside}
use Rattle.bytime_model.specs.Columns.{IsThere, Numbering, position_of}
use Rattle.bytime_model.specs.Landing.{landing_of}
use Rattle.bytime_model.specs.Left.{left_of}
use Rattle.cut_separation.specs.declared.point.FreePoint.{FreePoint}

-- whether two are one and the same variable
abbrev pub is_same : Var → Var → Bool
is_same (By f n t) (By g m u) = (f == g) && ((n == m) && (t == u))
is_same (By f n t) (Inside g m u) = false
is_same (Inside f n t) (By g m u) = false
is_same (Inside f n t) (Inside g m u) = (f == g) && ((n == m) && (t == u))

-- the numerator of a variable's column, the last one if it has several, or one that is given
abbrev pub numerator_in : Var → List Var → List ℤ → ℤ → ℤ
numerator_in variable [] numerators given = given
numerator_in variable (column ∷ columns) [] given = given
numerator_in variable (column ∷ columns) (numerator ∷ numerators) given =
    numerator_in variable columns numerators (if is_same column variable then numerator else given)

-- a variable that has no column is at 0
abbrev pub free_at : FreePoint → Var → ℤ
free_at point variable = numerator_in variable point.columns point.numerators (pos 0)

-- the numerator of any variable, by what the box leaves of it
abbrev pub fraction_by : FreePoint → Var → Left → ℤ
fraction_by point variable Zero = pos 0
fraction_by point variable One = point.denominator
fraction_by point variable (Same other) = free_at point other
fraction_by point variable Free = free_at point variable

abbrev pub fraction_in : Parts → Box → FreePoint → Var → ℤ
fraction_in parts box point variable =
    fraction_by point variable (left_of parts.flights box variable)

-- from 0 to the denominator
pub record IsFraction (denominator numerator : ℤ) : Type 0 where
  pub low : pos 0 ≤ℤ numerator
  pub high : numerator ≤ℤ denominator

-- one of the program's, which the box leaves free
pub record IsFree (parts : Parts) (box : Box) (variable : Var) : Type 0 where
  pub there : IsThere parts.flights variable
  pub free : left_of parts.flights box variable ≡ Free

-- a fraction for each column, and the columns are free variables
pub record IsPointOf (parts : Parts) (box : Box) (point : FreePoint) : Type 0 where
  pub long : length point.numerators ≡ length point.columns
  pub free : All (IsFree parts box) point.columns
  pub positive : pos 0 <ℤ point.denominator
  pub small : point.denominator <ℤ pos (2 ^ 62)
  pub each : All (IsFraction point.denominator) point.numerators

-- The numerators by positions. No public clause cites what follows.
abbrev pub read_at : List ℤ → ℤ → Landing → ℤ
read_at numerators denominator Nowhere = pos 0
read_at numerators denominator Surely = denominator
read_at numerators denominator (At position) = slice_index_or numerators position (pos 0)

abbrev pub value_by : List Column → List Flight → Box → List ℤ → ℤ → Var → ℤ
value_by columns flights box numerators denominator variable =
    read_at numerators denominator (landing_of columns flights box variable)

-- the numbers of a point at the positions of its variables, once all its columns are set
pub record AreByPosition (parts : Parts) (numbering : Numbering) (box : Box) (point : FreePoint)
    (numerators : List ℤ) : Type 0 where
  pub long : length numerators ≡ numbering.count
  pub each : All (IsFraction point.denominator) numerators
  pub free : (variable : Var) → IsFree parts box variable
      → slice_index_or numerators (position_of numbering.columns variable) (pos 0)
      ≡ free_at point variable

-- the numerators of the first so many are set: the others are yet to be read
pub record AreSetTo (parts : Parts) (numbering : Numbering) (box : Box) (point : FreePoint)
    (count : ℕ) (numerators : List ℤ) : Type 0 where
  pub long : length numerators ≡ numbering.count
  pub each : All (IsFraction point.denominator) numerators
  pub free : (variable : Var) → IsFree parts box variable
      → numerator_in variable (drop count point.columns) (drop count point.numerators)
      (slice_index_or numerators (position_of numbering.columns variable) (pos 0))
      ≡ free_at point variable
