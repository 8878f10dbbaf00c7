-- The leaf of a run comes to no less than what the run's multipliers tell.
use Rattle.std.proofs.Common.{◌≡◌, ℕ, Bool, true, false, Option, List, ℤ, pos, neg_ℤ, ◌≤ℤ◌, unsigned_abs, refl, sym, ap, ◌∙◌, subst, arith}
use Rattle.std.proofs.lemmas.Int.{ints}
use Rattle.flow_types.specs.declared.parts.Parts.{Parts}
use Rattle.flow_types.specs.Valid.{IsScenario}
use Rattle.scaled_simplex.specs.Multipliers.{AreMultipliers, IsJustified, multipliers_of}
use Rattle.scaled_simplex.specs.Program.{Problem}
use Rattle.scaled_simplex.specs.Run.{Outcome, is_infeasible, value_in, weight_in}
use Rattle.scaled_simplex.proofs.RunLaw.{run_tells}
use Rattle.time_windows.specs.Boxes.{Box, IsBoxOf}
use Rattle.time_windows.specs.Tight.{IsTight}
use Rattle.bytime_model.specs.declared.multiplier.Multiplier.{Multiplier}
use Rattle.branch_tree.specs.declared.leaf.Leaf.TheVariants.{Dual}
use Rattle.dual_sums.specs.Dual.{IsDualValue}
use Rattle.presolve.specs.Leaf.{IsBelowLeaf, leaf_rows}
use Rattle.presolve.specs.Relaxed.{kept_of, program_of}
use Rattle.presolve.proofs.ProblemFacts.{problem}
use Rattle.presolve.proofs.PromiseFacts.{promised}
use Rattle.cut_rows.specs.declared.names.CutName.{CutName}
use Rattle.cut_rows.specs.Pools.{IsPoolOf}
use Rattle.relaxed_bound.specs.declared.limits.Limits.{Limits}
use Rattle.relaxed_bound.specs.Relaxed.{TellsNoLess, relaxed_leaf, run_of}
use Rattle.relaxed_bound.proofs.LicenceFacts.{positive_is}

module _ (parts : Parts) (pool : List CutName) (box : Box) (outcome : Outcome)
    (told : IsJustified (program_of parts pool box) outcome)
    (promise : IsBelowLeaf parts pool box (program_of parts pool box)
    (kept_of parts pool box)) where
  abbrev program : Problem
  program = program_of parts pool box

  abbrev multipliers : List ℤ
  multipliers = multipliers_of program outcome

  abbrev weight : ℕ
  weight = unsigned_abs (weight_in program outcome)

  weight_told : pos weight ≡ weight_in program outcome
  weight_told = by (is_infeasible outcome.end) refl
    where
      by : (b : Bool) → is_infeasible outcome.end ≡ b → pos weight ≡ weight_in program outcome
      by false isnt = positive_is (weight_in program outcome) (told.bound isnt).weight
      by true is =
          let none = (told.refutation is).weight in
          ap (λ z. pos (unsigned_abs z)) none ∙ sym none

  -- multipliers with this weight have a value of no more than the leaf's
  no_less : (value worth : ℤ)
      → IsDualValue parts pool box weight (leaf_rows (kept_of parts pool box) multipliers) value
      → AreMultipliers program (pos weight) multipliers worth → worth ≤ℤ value
  no_less value worth least are =
      let reached = least.reached in
      let low = promise weight multipliers worth are reached.0 reached.1 in
      omega (arith, ints, low, reached.2)

  refuted : (value : ℤ)
      → IsDualValue parts pool box weight (leaf_rows (kept_of parts pool box) multipliers) value
      → is_infeasible outcome.end ≡ true → neg_ℤ (value_in program outcome) ≤ℤ value
  refuted value least is =
      no_less value (neg_ℤ (value_in program outcome)) least
      (subst (λ w. AreMultipliers program w multipliers (neg_ℤ (value_in program outcome)))
      (sym (weight_told ∙ (told.refutation is).weight)) (told.refutation is).multipliers)

  tells : (value : ℤ)
      → IsDualValue parts pool box weight (leaf_rows (kept_of parts pool box) multipliers) value
      → TellsNoLess program outcome weight value
  tells value least = record {
    weight_is = weight_told;
    bound = λ isnt. no_less value (value_in program outcome) least
        (subst (λ w. AreMultipliers program w multipliers (value_in program outcome))
        (sym weight_told) (told.bound isnt).multipliers);
    refutation = refuted value least;
    weightless = λ is. ap unsigned_abs (told.refutation is).weight;
    above = λ is.
        let low = refuted value least is in
        let positive = (told.refutation is).positive in
        omega (arith, ints, low, positive);
  }

module _ (parts : Parts) (pool : List CutName) (box : Box) (limits : Limits) (cutoff : Option ℤ)
    (weight : ℕ)
    (rows : List Multiplier) (is : Dual weight rows ≡ relaxed_leaf parts pool box limits cutoff)
  where
    abbrev outcome : Outcome
    outcome = run_of parts pool box limits cutoff

    abbrev own_rows : List Multiplier
    own_rows = leaf_rows (kept_of parts pool box) (multipliers_of
        (program_of parts pool box) outcome)

    weight_same : weight ≡ unsigned_abs (weight_in (program_of parts pool box) outcome)
    weight_same = cc

    rows_same : rows ≡ own_rows
    rows_same = cc

    own_tells : (value : ℤ) → IsScenario parts → IsPoolOf parts pool → IsBoxOf parts box
        → IsTight parts box
        → IsDualValue parts pool box weight rows value
        → TellsNoLess (program_of parts pool box) outcome weight value
    own_tells value scenario cuts made tight least =
        subst (λ w. TellsNoLess (program_of parts pool box) outcome w value) (sym weight_same)
        (tells parts pool box outcome
        (run_tells (program_of parts pool box) (problem parts pool box scenario cuts made tight)
        limits.pivots
        limits.cells cutoff)
        (promised parts pool box scenario cuts made tight) value
        (subst (λ w. IsDualValue parts pool box w own_rows value) weight_same
        (subst (λ rs. IsDualValue parts pool box weight rs value) rows_same least)))

pub leaf_tells : (parts : Parts) (pool : List CutName) (box : Box) (limits : Limits)
    (cutoff : Option ℤ) (weight : ℕ)
    (rows : List Multiplier) (value : ℤ) → IsScenario parts → IsPoolOf parts pool
    → IsBoxOf parts box
    → IsTight parts box → Dual weight rows ≡ relaxed_leaf parts pool box limits cutoff
    → IsDualValue parts pool box weight rows value
    → TellsNoLess (program_of parts pool box) (run_of parts pool box limits cutoff) weight value
leaf_tells parts pool box limits cutoff weight rows value scenario cuts made tight is least =
    own_tells parts pool box limits cutoff weight rows is value scenario cuts made tight least
