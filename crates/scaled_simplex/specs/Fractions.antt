-- The point of a run that ended Optimal, in numbers. A column that a row stands for has that row's
-- right side, divided by the row's entry in the column; every other column has 0.
use Rattle.std.specs.Prelude.{◌≡◌, ℕ, zero, suc, ◌*◌, ◌%◌, ◌^◌, ◌<◌, ◌≤◌, ◌==◌, List, length, slice_index, slice_index_or, Option, None, Some, if◌then◌else◌, ℤ, pos, nat_abs, ◌*ℤ◌, ◌<ℤ◌}
use Rattle.row_arena.specs.Arena.{row_at}
use Rattle.row_arena.specs.Rows.{entry_at, most_entry}
use Rattle.scaled_simplex.specs.declared.fractions.Fractions.{Fractions}
use Rattle.scaled_simplex.specs.declared.fractions.Fractions.TheVariants.{Point, TooWide}
use Rattle.scaled_simplex.specs.LastPoint.{IsWorth}
use Rattle.scaled_simplex.specs.LastTableau.{IsLastTableau}
use Rattle.scaled_simplex.specs.Program.{Problem, columns}
use Rattle.scaled_simplex.specs.Run.{Outcome, last_row, right_at}
use Rattle.scaled_simplex.specs.Tableau.{Tableau}

-- of so many rows, the one that stands for the index
abbrev pub row_for : List ℕ → ℕ → ℕ → Option ℕ
row_for basis index zero = None
row_for basis index (suc k) = if slice_index basis k == index then Some k else row_for basis index k

module _ (problem : Problem) (tableau : Tableau) where
  abbrev pub row_of_column : ℕ → Option ℕ
  row_of_column column = row_for tableau.basis column (length problem.constraints)

  -- the value of a column as a fraction: the top and the bottom
  abbrev pub top_in : Option ℕ → ℤ
  top_in None = pos 0
  top_in (Some row) = right_at problem tableau row

  abbrev pub bottom_in : ℕ → Option ℕ → ℤ
  bottom_in column None = pos 1
  bottom_in column (Some row) = entry_at (row_at tableau.rows row) column

  abbrev pub top_at : ℕ → ℤ
  top_at column = top_in (row_of_column column)

  abbrev pub bottom_at : ℕ → ℤ
  bottom_at column = bottom_in column (row_of_column column)

  -- the value of a column is so much, over a denominator
  abbrev pub IsValueAt : ℕ → ℤ → ℤ → Type 0
  IsValueAt column numerator denominator =
      bottom_at column *ℤ numerator ≡ top_at column *ℤ denominator

  -- so often, the value of a column is whole
  abbrev pub IsWhole : ℕ → ℕ → Type 0
  IsWhole column times = (nat_abs (top_at column) * times) % nat_abs (bottom_at column) ≡ 0

  -- The least number by which the values of the first so many columns are whole; each other such
  -- number is a multiple of it. So it is the least common multiple of their denominators in lowest
  -- terms.
  pub record IsMultiple (count multiple : ℕ) : Type 0 where
    pub positive : 0 < multiple
    pub whole : (column : ℕ) → column < count → IsWhole column multiple
    pub least : (times : ℕ) → ((column : ℕ) → column < count → IsWhole column times)
        → times % multiple ≡ 0

  -- the values of the columns over a denominator
  pub record AreNumerators (denominator : ℤ) (numerators : List ℤ) : Type 0 where
    pub each : (column : ℕ) → column < columns problem
        → IsValueAt column (slice_index_or numerators column (pos 0)) denominator

  -- a numerator for each column, over that number of all columns
  pub record ArePoint (numerators : List ℤ) (denominator : ℤ) : Type 0 where
    pub positive : pos 0 <ℤ denominator
    pub near : nat_abs denominator ≤ most_entry
    pub multiple : IsMultiple (columns problem) (nat_abs denominator)
    pub count : length numerators ≡ columns problem
    pub are : AreNumerators denominator numerators

  -- the fewest first columns whose number is too far from 0, and that number
  pub record AreTooWide (count : ℕ) (multiple : ℤ) : Type 0 where
    pub within : count ≤ columns problem
    pub positive : pos 0 <ℤ multiple
    pub multiple_is : IsMultiple count (nat_abs multiple)
    pub far : most_entry < nat_abs multiple
    pub below : nat_abs multiple < 2 ^ 124
    pub first : (fewer other : ℕ) → fewer < count → IsMultiple fewer other → other ≤ most_entry

  abbrev pub AreFractions : Fractions → Type 0
  AreFractions (Point numerators denominator) = ArePoint numerators denominator
  AreFractions (TooWide count multiple) = AreTooWide count multiple

-- the fractions of the last tableau, whose cost row the outcome has
pub record AreLast (problem : Problem) (outcome : Outcome) (fractions : Fractions) : Type 0 where
  pub tableau : Tableau
  pub last : IsLastTableau problem tableau
  pub row : outcome.row ≡ last_row problem tableau
  pub are : AreFractions problem tableau fractions

-- the numerators, where they are given, are a point that costs the run's value
abbrev pub AreWorth : Problem → Outcome → Fractions → Type 0
AreWorth problem outcome (Point numerators denominator) =
    IsWorth problem outcome (λ column. slice_index_or numerators column (pos 0)) denominator
AreWorth problem outcome (TooWide count multiple) = Unit {0}

-- The point of the last tableau, over some denominator, costs the run's value, whether or not the
-- least denominator is too far from 0.
pub record HasPoint (problem : Problem) (outcome : Outcome) : Type 0 where
  pub tableau : Tableau
  pub last : IsLastTableau problem tableau
  pub row : outcome.row ≡ last_row problem tableau
  pub numerator : ℕ → ℤ
  pub denominator : ℤ
  pub values : (column : ℕ) → column < columns problem
      → IsValueAt problem tableau column (numerator column) denominator
  pub is : IsWorth problem outcome numerator denominator
