-- The point that is told is the run's, and one of the relaxation.
use Rattle.std.proofs.Common.{◌≡◌, ◌<◌, ◌^◌, ◌<ℤ◌, ℕ, ℤ, pos, negsuc, nat_abs, List, length, slice_index_or, IfSome, Option, None, Some, refl, sym, ◌∙◌, ap, subst, arith}
use Rattle.std.proofs.lemmas.Int.{ints}
use Rattle.flow_types.specs.declared.parts.Parts.{Parts}
use Rattle.flow_types.specs.Valid.{IsScenario}
use Rattle.scaled_simplex.specs.declared.end.End.TheVariants.{Optimal}
use Rattle.scaled_simplex.specs.declared.fractions.Fractions.{Fractions}
use Rattle.scaled_simplex.specs.declared.fractions.Fractions.TheVariants.{Point as ProgramPoint, TooWide}
use Rattle.scaled_simplex.specs.Program.{Problem}
use Rattle.scaled_simplex.specs.Run.{Outcome, simplex_run}
use Rattle.scaled_simplex.specs.Solving.{Ran, Solving}
use Rattle.time_windows.specs.Boxes.{Box, IsBoxOf}
use Rattle.time_windows.specs.Tight.{IsTight}
use Rattle.presolve.specs.declared.presolved.Presolved.{Presolved}
use Rattle.presolve.specs.Presolved.{IsPresolved, entries_of}
use Rattle.presolve.specs.Relaxed.{program_of}
use Rattle.presolve.proofs.PointFacts.{few}
use Rattle.presolve.proofs.PointLaws.{numbers_within, relaxation_point}
use Rattle.cut_rows.specs.declared.names.CutName.{CutName}
use Rattle.cut_rows.specs.Pools.{IsPoolOf}
use Rattle.relaxed_bound.specs.declared.leaf.Point.{Point}
use Rattle.relaxed_bound.specs.declared.limits.Limits.{Limits}
use Rattle.relaxed_bound.specs.Point.{AreToldFractions, HasWidePoint, IsPointIn, IsRunPoint, IsToldPoint, point_of}
use Rattle.relaxed_bound.proofs.BareFacts.{bare_end}

-- a number that is near to 0
small_is : (z : ℤ) → pos 0 <ℤ z → nat_abs z < 2 ^ 62 → z <ℤ pos (2 ^ 62)
small_is (pos n) positive near = omega (arith, ints, near)
small_is (negsuc n) positive near = absurd (omega (arith, ints, positive))

-- what is told of the run of a solver
pub ran_told : (program : Problem) (cells pivots : ℕ) (cutoff : Option ℤ) (solving : Solving)
    (ran : Ran) (fractions : Option Fractions)
    → AreToldFractions ran.problem ran.outcome fractions
    → ran ≡ record {
      problem = solving.problem;
      outcome = simplex_run solving.problem pivots solving.cells cutoff;
    } → solving ≡ record { problem = program; cells = cells }
    → AreToldFractions program (simplex_run program pivots cells cutoff) fractions
ran_told program cells pivots cutoff solving ran fractions told ran_is solving_is =
    subst (λ (s : Solving). AreToldFractions s.problem
    (simplex_run s.problem pivots s.cells cutoff) fractions) solving_is
    (subst (λ (r : Ran). AreToldFractions r.problem r.outcome fractions) ran_is told)

module _ (parts : Parts) (pool : List CutName) (box : Box) (presolved : Presolved)
    (whole : IsPresolved parts pool box presolved) (limits : Limits) (cutoff : Option ℤ)
    (fractions : Option Fractions) (found : Option Point)
    (told : AreToldFractions presolved.program
    (simplex_run presolved.program limits.pivots limits.cells cutoff) fractions)
    (is : found ≡ point_of presolved fractions) where
  abbrev ended : Problem → Outcome
  ended problem = simplex_run problem limits.pivots limits.cells cutoff

  here : AreToldFractions (program_of parts pool box) (ended (program_of parts pool box)) fractions
  here = subst (λ p. AreToldFractions p (ended p) fractions) whole.program told

  wanting : (f : Option Fractions)
      → AreToldFractions (program_of parts pool box) (ended (program_of parts pool box)) f
      → point_of presolved f ≡ None → (ended (program_of parts pool box)).end ≡ Optimal
      → HasWidePoint (program_of parts pool box) (ended (program_of parts pool box))
  wanting None are missing ends = absurd (are.none refl ends)
  wanting (Some (TooWide columns multiple)) are missing ends = record {
    columns = columns;
    multiple = multiple;
    last = (are.some (TooWide columns multiple) refl).last;
  }
  wanting (Some (ProgramPoint numerators denominator)) are missing ends = absurd (cc (missing))

  given : (f : Option Fractions)
      → AreToldFractions (program_of parts pool box) (ended (program_of parts pool box)) f
      → IfSome (point_of presolved f)
      (IsRunPoint (program_of parts pool box) (ended (program_of parts pool box)))
  given None are = tt
  given (Some (TooWide columns multiple)) are = tt
  given (Some (ProgramPoint numerators denominator)) are =
      let run = are.some (ProgramPoint numerators denominator) refl in
      record { end = run.end; last = run.last }

  pub point_told : IsToldPoint parts pool box limits cutoff found
  point_told = record {
    none = λ missing ends. wanting fractions here (sym is ∙ missing) ends;
    some = subst (λ f. IfSome f (IsRunPoint (program_of parts pool box) (ended
        (program_of parts pool box))))
        (sym is) (given fractions here);
  }

  pub point_is : IsScenario parts → IsPoolOf parts pool → IsBoxOf parts box → IsTight parts box
      → IfSome found (IsPointIn parts pool box)
  point_is valid cuts made tight =
      subst (λ f. IfSome f (IsPointIn parts pool box)) (sym is) (by fractions here)
    where
      by : (f : Option Fractions)
          → AreToldFractions (program_of parts pool box) (ended (program_of parts pool box)) f
          → IfSome (point_of presolved f) (IsPointIn parts pool box)
      by None are = tt
      by (Some (TooWide columns multiple)) are = tt
      by (Some (ProgramPoint numerators denominator)) are = record {
        columns = whole.columns;
        flipped = whole.flipped;
        fractions =
            let run = are.some (ProgramPoint numerators denominator) refl in
            let last = run.last.are in
            let long = ap length whole.columns in
            let columns = few parts pool box in
            let size = last.count in
            record {
              count = omega (arith, size, long, columns);
              small =
                  let near = last.near in
                  let positive = last.positive in
                  small_is denominator positive (omega (arith, near));
              each = λ column within.
                  numbers_within parts pool box valid cuts made tight
                  (λ k. slice_index_or numerators k (pos 0)) denominator run.worth.point column
                  (omega (arith, within, long));
            };
        is =
            let worth = (are.some (ProgramPoint numerators denominator) refl).worth in
            relaxation_point parts pool box valid cuts made tight
            (λ column. slice_index_or numerators column (pos 0)) denominator worth.point;
      }

-- without room no point is told
pub bare_point : (parts : Parts) (pool : List CutName) (box : Box) (limits : Limits)
    (cutoff : Option ℤ)
    → limits.cells < entries_of parts pool box → IsToldPoint parts pool box limits cutoff None
bare_point parts pool box limits cutoff past = record {
  none = λ missing ends. absurd (let is = bare_end parts pool box limits cutoff past in cc
      (is, ends));
  some = tt;
}
