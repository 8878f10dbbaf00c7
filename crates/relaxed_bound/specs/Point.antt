-- The run's point, as callers get it.
use Rattle.std.specs.Prelude.{◌≡◌, ℕ, ◌^◌, ◌<◌, List, length, slice_index_or, IfSome, Option, None, Some, ℤ, pos, ◌<ℤ◌}
use Rattle.flow_types.specs.declared.parts.Parts.{Parts}
use Rattle.scaled_simplex.specs.declared.end.End.TheVariants.{Optimal}
use Rattle.scaled_simplex.specs.declared.fractions.Fractions.{Fractions}
use Rattle.scaled_simplex.specs.declared.fractions.Fractions.TheVariants.{Point as ProgramPoint, TooWide}
use Rattle.scaled_simplex.specs.Fractions.{AreLast, AreWorth}
use Rattle.scaled_simplex.specs.Program.{Problem}
use Rattle.scaled_simplex.specs.Run.{Outcome}
use Rattle.time_windows.specs.Boxes.{Box}
use Rattle.presolve.specs.declared.presolved.Presolved.{Presolved}
use Rattle.presolve.specs.Points.{IsNumerator, IsRelaxationPoint, value_of_point}
use Rattle.presolve.specs.Relaxed.{flipped_of, program_of}
use Rattle.presolve.specs.Variables.{columns_of}
use Rattle.cut_rows.specs.declared.names.CutName.{CutName}
use Rattle.relaxed_bound.specs.declared.leaf.Point.{Point}
use Rattle.relaxed_bound.specs.declared.limits.Limits.{Limits}
use Rattle.relaxed_bound.specs.Relaxed.{run_of}

-- a numerator for each column, from 0 to the denominator, which isn't too far from 0
pub record AreFractions (point : Point) : Type 0 where
  pub count : length point.numerators ≡ length point.columns
  pub small : point.denominator <ℤ pos (2 ^ 62)
  pub each : (column : ℕ) → column < length point.columns
      → IsNumerator point.denominator (slice_index_or point.numerators column (pos 0))

-- a point of the box's relaxation, by its columns
pub record IsPointIn (parts : Parts) (pool : List CutName) (box : Box)
    (point : Point) : Type 0 where
  pub columns : point.columns ≡ columns_of parts box
  pub flipped : point.flipped ≡ flipped_of parts box
  pub fractions : AreFractions point
  pub is : IsRelaxationPoint parts pool box
      (value_of_point parts box (λ column. slice_index_or point.numerators column (pos 0))
      point.denominator) point.denominator

-- the run ended Optimal, and these are the numbers of its last tableau
pub record IsRunPoint (problem : Problem) (outcome : Outcome) (point : Point) : Type 0 where
  pub end : outcome.end ≡ Optimal
  pub last : AreLast problem outcome (ProgramPoint point.numerators point.denominator)

-- their denominator is too far from 0
pub record HasWidePoint (problem : Problem) (outcome : Outcome) : Type 0 where
  pub columns : ℕ
  pub multiple : ℤ
  pub last : AreLast problem outcome (TooWide columns multiple)

-- The point of the run on the box within these limits. There is none only where the run didn't end
-- Optimal, or where the point is too wide.
pub record IsToldPoint (parts : Parts) (pool : List CutName) (box : Box) (limits : Limits)
    (cutoff : Option ℤ)
    (found : Option Point) : Type 0 where
  pub none : found ≡ None → (run_of parts pool box limits cutoff).end ≡ Optimal
      → HasWidePoint (program_of parts pool box) (run_of parts pool box limits cutoff)
  pub some : IfSome found (IsRunPoint (program_of parts pool box)
      (run_of parts pool box limits cutoff))

-- the fractions of a run that ended Optimal. No public clause cites this and what follows.
pub record AreRunFractions (problem : Problem) (outcome : Outcome) (fractions : Fractions)
    : Type 0 where
  pub end : outcome.end ≡ Optimal
  pub last : AreLast problem outcome fractions
  pub worth : AreWorth problem outcome fractions

pub record AreToldFractions (problem : Problem) (outcome : Outcome) (fractions : Option Fractions)
    : Type 0 where
  pub none : fractions ≡ None → outcome.end ≡ Optimal → ⊥
  pub some : (told : Fractions) → fractions ≡ Some told → AreRunFractions problem outcome told

-- the point of these fractions, if they are one
abbrev pub point_of : Presolved → Option Fractions → Option Point
point_of presolved None = None
point_of presolved (Some (TooWide columns multiple)) = None
point_of presolved (Some (ProgramPoint numerators denominator)) = Some (record {
  columns = presolved.columns;
  flipped = presolved.flipped;
  numerators = numerators;
  denominator = denominator;
})
