-- Why a box may be split: its relaxation doesn't rule out that there is a plan in it that costs
-- less than the cutoff, or the run of it was given up.
use Rattle.std.specs.Prelude.{◌≡◌, ◌⊎◌, ℕ, ◌<◌, List, Option, None, Some, ℤ, pos, ◌-ℤ◌, ◌*ℤ◌, ◌≤ℤ◌}
use Rattle.flow_types.specs.declared.parts.Parts.{Parts}
use Rattle.scaled_simplex.specs.declared.end.End.{End}
use Rattle.scaled_simplex.specs.declared.end.End.TheVariants.{Limit, Wide}
use Rattle.time_windows.specs.Boxes.{Box}
use Rattle.bytime_model.specs.declared.variables.Var.{Var}
use Rattle.branch_tree.specs.declared.leaf.Leaf.{Leaf}
use Rattle.branch_tree.specs.declared.leaf.Leaf.TheVariants.{Dual, Empty, Lag, Unit as UnitLeaf}
use Rattle.bytime_model.specs.declared.multiplier.Multiplier.{Multiplier}
use Rattle.dual_sums.specs.Dual.{IsDualValue}
use Rattle.presolve.specs.Points.{IsRelaxationPoint, relaxation_cost}
use Rattle.cut_rows.specs.declared.names.CutName.{CutName}
use Rattle.relaxed_bound.specs.declared.limits.Limits.{Limits}
use Rattle.relaxed_bound.specs.Relaxed.{run_of}

-- a cost over a denominator is at most the cutoff less 1; without a cutoff, whatever it is
abbrev pub IsBelowCutoff : Option ℤ → ℤ → ℤ → Type 0
IsBelowCutoff None cost denominator = Unit {0}
IsBelowCutoff (Some cutoff) cost denominator = cost ≤ℤ ((cutoff -ℤ pos 1) *ℤ denominator)

-- a point of the relaxation that costs so little
pub record IsCheapPoint (parts : Parts) (pool : List CutName) (box : Box)
    (cutoff : Option ℤ) : Type 0 where
  pub value : Var → ℤ
  pub denominator : ℤ
  pub point : IsRelaxationPoint parts pool box value denominator
  pub cheap : IsBelowCutoff cutoff (relaxation_cost parts value denominator) denominator

-- what a Dual leaf comes to by its weight, rounded up, doesn't reach the cutoff
pub record StaysBelow (parts : Parts) (pool : List CutName) (box : Box) (weight : ℕ)
    (rows : List Multiplier)
    (cutoff : Option ℤ) : Type 0 where
  pub weighed : 0 < weight
  pub value : ℤ
  pub least : IsDualValue parts pool box weight rows value
  pub below : IsBelowCutoff cutoff value (pos weight)

abbrev pub IsUnreached : Parts → List CutName → Box → Leaf → Option ℤ → Type 0
IsUnreached parts pool box Empty cutoff = ⊥
IsUnreached parts pool box UnitLeaf cutoff = ⊥
IsUnreached parts pool box (Dual weight rows) cutoff = StaysBelow parts pool box weight rows cutoff
IsUnreached parts pool box (Lag weight rows) cutoff = ⊥

-- how the run on the box ends
abbrev pub end_of : Parts → List CutName → Box → Limits → Option ℤ → End
end_of parts pool box limits cutoff = (run_of parts pool box limits cutoff).end

abbrev pub IsLicensed : Parts → List CutName → Box → Limits → Option ℤ → Type 0
IsLicensed parts pool box limits cutoff =
    IsCheapPoint parts pool box cutoff
    ⊎ ((end_of parts pool box limits cutoff ≡ Limit) ⊎ (end_of parts pool box limits cutoff ≡ Wide))
