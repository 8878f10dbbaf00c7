-- The Dual leaf whose weight and multipliers a run of the box's program tells.
use Rattle.std.specs.Prelude.{◌≡◌, ℕ, false, true, List, Option, ℤ, pos, neg_ℤ, ◌≤ℤ◌, unsigned_abs}
use Rattle.flow_types.specs.declared.parts.Parts.{Parts}
use Rattle.scaled_simplex.specs.Multipliers.{multipliers_of}
use Rattle.scaled_simplex.specs.Program.{Problem}
use Rattle.scaled_simplex.specs.Run.{Outcome, is_infeasible, simplex_run, value_in, weight_in}
use Rattle.time_windows.specs.Boxes.{Box}
use Rattle.bytime_model.specs.declared.names.RowName.{RowName}
use Rattle.branch_tree.specs.declared.leaf.Leaf.{Leaf}
use Rattle.branch_tree.specs.declared.leaf.Leaf.TheVariants.{Dual, Empty, Lag, Unit as UnitLeaf}
use Rattle.bytime_model.specs.declared.multiplier.Multiplier.{Multiplier}
use Rattle.dual_sums.specs.Dual.{AreKnown, IsDualValue}
use Rattle.presolve.specs.Leaf.{leaf_rows}
use Rattle.presolve.specs.Relaxed.{kept_of, program_of}
use Rattle.cut_rows.specs.declared.names.CutName.{CutName}
use Rattle.relaxed_bound.specs.declared.limits.Limits.{Limits}

-- the leaf with this weight, and these multipliers of the rows with these names
abbrev pub told_leaf : List RowName → ℤ → List ℤ → Leaf
told_leaf names weight multipliers = Dual (unsigned_abs weight) (leaf_rows names multipliers)

-- that of a run of the box's program which ended so
abbrev pub outcome_leaf : Parts → List CutName → Box → Outcome → Leaf
outcome_leaf parts pool box outcome =
    let program = program_of parts pool box in
    told_leaf (kept_of parts pool box) (weight_in program outcome) (multipliers_of program outcome)

-- the run on the box within these limits
abbrev pub run_of : Parts → List CutName → Box → Limits → Option ℤ → Outcome
run_of parts pool box limits cutoff =
    simplex_run (program_of parts pool box) limits.pivots limits.cells cutoff

-- the leaf that it tells
abbrev pub relaxed_leaf : Parts → List CutName → Box → Limits → Option ℤ → Leaf
relaxed_leaf parts pool box limits cutoff = outcome_leaf parts pool box
    (run_of parts pool box limits cutoff)

-- the rows are all there, and with the weight 0 they come to more than 0: so they say something of
-- the box
pub record SaysSome (parts : Parts) (pool : List CutName) (box : Box) (weight : ℕ)
    (rows : List Multiplier)
    : Type 0 where
  pub known : AreKnown parts pool rows
  pub positive : weight ≡ 0 → (value : ℤ) → IsDualValue parts pool box weight rows value
      → pos 1 ≤ℤ value

-- the same of a leaf, which is a Dual one
abbrev pub HasBound : Parts → List CutName → Box → Leaf → Type 0
HasBound parts pool box Empty = ⊥
HasBound parts pool box UnitLeaf = ⊥
HasBound parts pool box (Dual weight rows) = SaysSome parts pool box weight rows
HasBound parts pool box (Lag weight rows) = ⊥

-- A leaf has the run's weight, and comes to no less than the value of the run's multipliers: that
-- of the last tableau, or after Infeasible the right side, with its sign turned, of the row that no
-- column can repair. After Infeasible the weight is 0 and the leaf comes to more than 0, so it says
-- by itself that no plan in the box keeps every rule.
pub record TellsNoLess (problem : Problem) (outcome : Outcome) (weight : ℕ) (value : ℤ)
    : Type 0 where
  pub weight_is : pos weight ≡ weight_in problem outcome
  pub bound : is_infeasible outcome.end ≡ false → value_in problem outcome ≤ℤ value
  pub refutation : is_infeasible outcome.end ≡ true → neg_ℤ (value_in problem outcome) ≤ℤ value
  pub weightless : is_infeasible outcome.end ≡ true → weight ≡ 0
  pub above : is_infeasible outcome.end ≡ true → pos 1 ≤ℤ value
