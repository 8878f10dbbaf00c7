-- Where the leaf's bound doesn't reach the cutoff, the box is licensed to be split: the run didn't
-- end Cut nor Infeasible, and after Optimal its point costs less than the cutoff.
use Rattle.std.proofs.Common.{◌≡◌, ℕ, Bool, true, false, not, int_lt, Option, None, Some, List, ℤ, pos, negsuc, ◌-ℤ◌, ◌*ℤ◌, ◌≤ℤ◌, ◌<ℤ◌, unsigned_abs, inl, inr, refl, sym, ap, ◌∙◌, subst, arith}
use Rattle.std.proofs.lemmas.Int.{ints}
use Rattle.flow_types.specs.declared.parts.Parts.{Parts}
use Rattle.flow_types.specs.Valid.{IsScenario}
use Rattle.scaled_simplex.specs.declared.end.End.{End}
use Rattle.scaled_simplex.specs.declared.end.End.TheVariants.{Cut, Infeasible, Limit, Optimal, Wide}
use Rattle.scaled_simplex.specs.Fractions.{HasPoint}
use Rattle.scaled_simplex.specs.LastPoint.{IsBelow}
use Rattle.scaled_simplex.specs.Multipliers.{AreMultipliers, IsJustified, multipliers_of}
use Rattle.scaled_simplex.specs.Points.{point_cost}
use Rattle.scaled_simplex.specs.Program.{Problem}
use Rattle.scaled_simplex.specs.Run.{Outcome, is_infeasible, simplex_run, value_in, weight_in}
use Rattle.scaled_simplex.proofs.CutRuns.{HasReached, run_reached}
use Rattle.row_arena.proofs.WholeLaws.{less_is, less_times, low_back, low_times, times_assoc, times_comm, times_less}
use Rattle.time_windows.specs.Boxes.{Box, IsBoxOf}
use Rattle.time_windows.specs.Tight.{IsTight}
use Rattle.bytime_model.specs.declared.multiplier.Multiplier.{Multiplier}
use Rattle.presolve.specs.Leaf.{IsBelowLeaf, leaf_rows}
use Rattle.presolve.specs.Points.{value_of_point}
use Rattle.presolve.specs.Relaxed.{kept_of, program_of}
use Rattle.presolve.proofs.PointLaws.{costs_alike, relaxation_point}
use Rattle.cut_rows.specs.declared.names.CutName.{CutName}
use Rattle.cut_rows.specs.Pools.{IsPoolOf}
use Rattle.relaxed_bound.specs.declared.limits.Limits.{Limits}
use Rattle.relaxed_bound.specs.Licence.{IsBelowCutoff, IsCheapPoint, IsLicensed, IsUnreached, StaysBelow}
use Rattle.relaxed_bound.specs.Relaxed.{outcome_leaf}
use Rattle.relaxed_bound.specs.Telling.{IsWorthOf}

-- two fractions that are one: where the first is at most a limit, so is the second
fraction_below : (cost denominator value weight limit : ℤ) → pos 0 <ℤ weight
    → pos 0 <ℤ denominator → cost *ℤ weight ≡ value *ℤ denominator → value ≤ℤ (limit *ℤ weight)
    → cost ≤ℤ (limit *ℤ denominator)
fraction_below cost denominator value weight limit above positive same below =
    let gap = times_less weight (limit *ℤ denominator) cost in
    let left = less_times (limit *ℤ weight) value denominator in
    let turned = sym (times_assoc weight limit denominator)
    ∙ ap (λ n. n *ℤ denominator) (times_comm weight limit) in
    let cost_turned = times_comm weight cost in
    let room = low_times ((limit *ℤ weight) -ℤ value) denominator (omega (arith, ints, below))
    (omega (arith, ints, positive)) in
    let rest = low_back weight ((limit *ℤ denominator) -ℤ cost) above
    (omega (arith, ints, gap, left, turned, cost_turned, room, same)) in
    omega (arith, ints, rest)

pub unreached_is : (least limit : ℤ) → not (int_lt least limit) ≡ false → least <ℤ limit
unreached_is least limit isnt = less_is least limit (by (int_lt least limit) isnt)
  where
    by : (b : Bool) → not b ≡ false → b ≡ true
    by true isnt = refl
    by false isnt = absurd (let e : true ≡ false = isnt in cc)

pub positive_is : (z : ℤ) → pos 0 <ℤ z → pos (unsigned_abs z) ≡ z
positive_is (pos n) above = refl
positive_is (negsuc n) above = absurd (omega (arith, ints, above))

module _ (parts : Parts) (pool : List CutName) (box : Box) (cutoff : Option ℤ)
    (outcome : Outcome) where
  abbrev program : Problem
  program = program_of parts pool box

  abbrev rows : List Multiplier
  rows = leaf_rows (kept_of parts pool box) (multipliers_of program outcome)

  -- the run's point is one of the relaxation, and cheap
  cheap_point : IsScenario parts → IsPoolOf parts pool → IsBoxOf parts box → IsTight parts box
      → IsJustified program outcome → is_infeasible outcome.end ≡ false → HasPoint program outcome
      → IsBelow program cutoff outcome → IsCheapPoint parts pool box cutoff
  cheap_point valid cuts made tight told isnt point below =
      let here = point.is.point in
      record {
        value = value_of_point parts box point.numerator point.denominator;
        denominator = point.denominator;
        point = relaxation_point parts pool box valid cuts made tight point.numerator
            point.denominator here;
        cheap = subst (λ cost. IsBelowCutoff cutoff cost point.denominator)
            (sym (costs_alike parts pool box valid cuts made tight point.numerator
            point.denominator))
            (by cutoff below);
      }
    where
      by : (limit : Option ℤ) → IsBelow program limit outcome
          → IsBelowCutoff limit (point_cost program point.numerator point.denominator)
          point.denominator
      by None is = tt
      by (Some limit) is =
          fraction_below (point_cost program point.numerator point.denominator) point.denominator
          (value_in program outcome) (weight_in program outcome) (limit -ℤ pos 1)
          (told.bound isnt).weight point.is.point.positive point.is.worth is

  module _ (is : StaysBelow parts pool box (unsigned_abs
      (weight_in program outcome)) rows cutoff) where
    -- a refutation reaches any cutoff
    not_infeasible : IsJustified program outcome → is_infeasible outcome.end ≡ true → ⊥
    not_infeasible told infeasible =
        let none = ap unsigned_abs (told.refutation infeasible).weight in
        let some = is.weighed in
        omega (arith, some, none)

    -- and so does the leaf of a run that was cut
    not_cut : IsJustified program outcome → is_infeasible outcome.end ≡ false
        → IsBelowLeaf parts pool box program (kept_of parts pool box)
        → HasReached program cutoff outcome → ⊥
    not_cut told isnt promise reached = by cutoff reached is.below
      where
        weight : ℕ
        weight = unsigned_abs (weight_in program outcome)

        same : pos weight ≡ weight_in program outcome
        same = positive_is (weight_in program outcome) (told.bound isnt).weight

        are : AreMultipliers program (pos weight) (multipliers_of program outcome)
            (value_in program outcome)
        are = subst (λ w. AreMultipliers program w (multipliers_of program outcome)
            (value_in program outcome)) (sym same) (told.bound isnt).multipliers

        by : (limit : Option ℤ) → HasReached program limit outcome
            → IsBelowCutoff limit is.value (pos weight) → ⊥
        by None has below = has
        by (Some limit) has below =
            let choice = is.least.reached in
            let low = promise weight (multipliers_of program outcome) (value_in program outcome)
            are choice.0 choice.1 in
            let turned = ap (λ w. (limit -ℤ pos 1) *ℤ w) same in
            omega (arith, ints, low, below, turned, choice.2, has)

pub licensed : (parts : Parts) (pool : List CutName) (box : Box) (limits : Limits)
    (cutoff : Option ℤ)
    → IsScenario parts → IsPoolOf parts pool → IsBoxOf parts box → IsTight parts box
    → IsJustified (program_of parts pool box)
    (simplex_run (program_of parts pool box) limits.pivots limits.cells cutoff)
    → IsWorthOf (program_of parts pool box) cutoff
    (simplex_run (program_of parts pool box) limits.pivots limits.cells cutoff)
    → IsBelowLeaf parts pool box (program_of parts pool box) (kept_of parts pool box)
    → IsUnreached parts pool box (outcome_leaf parts pool box
    (simplex_run (program_of parts pool box) limits.pivots limits.cells cutoff)) cutoff
    → IsLicensed parts pool box limits cutoff
licensed parts pool box limits cutoff valid cuts made tight told worth promise is =
    by outcome.end refl
  where
    outcome : Outcome
    outcome = simplex_run (program_of parts pool box) limits.pivots limits.cells cutoff

    by : (end : End) → outcome.end ≡ end → IsLicensed parts pool box limits cutoff
    by Optimal ends =
        let isnt = ap is_infeasible ends in
        let found = worth ends in
        inl (cheap_point parts pool box cutoff outcome valid cuts made tight told isnt found.0
        found.1)
    by Cut ends =
        absurd (not_cut parts pool box cutoff outcome is told (ap is_infeasible ends) promise
        (run_reached (program_of parts pool box) cutoff limits.pivots limits.cells ends))
    by Infeasible ends =
        absurd (not_infeasible parts pool box cutoff outcome is told (ap is_infeasible ends))
    by Limit ends = inr (inl ends)
    by Wide ends = inr (inr ends)
