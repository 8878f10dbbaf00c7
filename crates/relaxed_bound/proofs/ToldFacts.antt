-- The leaf that a run tells: its numbers are in range, its rows are there, and with the weight 0
-- they come to more than 0.
use Rattle.std.proofs.Common.{◌≡◌, ℕ, ◌^◌, ◌<◌, ◌≤◌, Bool, true, false, Option, List, [], ◌∷◌, length, All, if◌then◌else◌, ℤ, pos, negsuc, neg_ℤ, ◌≤ℤ◌, ◌<ℤ◌, nat_abs, unsigned_abs, refl, sym, ap, ◌∙◌, subst, arith}
use Rattle.std.proofs.lemmas.Int.{ints}
use Rattle.std.proofs.lemmas.List.{length-append}
use Rattle.std.proofs.lemmas.List.Elements.{All-append, All-nil, All-tail}
use Rattle.std.specs.Ordering.{int_eq}
use Rattle.exact_sums.proofs.ItemFacts.{All-item}
use Rattle.flow_types.specs.declared.parts.Parts.{Parts}
use Rattle.flow_types.specs.Valid.{IsScenario}
use Rattle.row_arena.specs.Rows.{most_entry}
use Rattle.scaled_simplex.specs.declared.solver.Weights.{Weights}
use Rattle.scaled_simplex.specs.Multipliers.{IsJustified, multipliers_of}
use Rattle.scaled_simplex.specs.Program.{IsProblem, Problem, most_indices}
use Rattle.scaled_simplex.specs.Run.{Outcome, is_infeasible, simplex_run, value_in, weight_in}
use Rattle.scaled_simplex.specs.declared.end.End.{End}
use Rattle.time_windows.specs.Boxes.{Box, IsBoxOf}
use Rattle.time_windows.specs.Tight.{IsTight}
use Rattle.bytime_model.specs.declared.names.RowName.{RowName}
use Rattle.bytime_model.specs.declared.variables.Var.{Var}
use Rattle.branch_tree.specs.declared.leaf.Leaf.{Leaf}
use Rattle.bytime_model.specs.declared.multiplier.Multiplier.{Multiplier}
use Rattle.branch_tree.specs.Leaves.{IsInRange}
use Rattle.bytime_model.specs.Multipliers.{HasRange}
use Rattle.dual_sums.specs.Dual.{AreKnown, IsChoice, dual_at}
use Rattle.presolve.specs.declared.presolved.Presolved.{Presolved}
use Rattle.presolve.specs.Leaf.{IsBelowLeaf, leaf_rows, unless_never}
use Rattle.presolve.specs.Presolved.{IsPresolved}
use Rattle.presolve.specs.Relaxed.{kept_of, program_of}
use Rattle.presolve.proofs.PromiseFacts.{kept_are}
use Rattle.cut_rows.specs.declared.names.CutName.{CutName}
use Rattle.cut_rows.specs.Pools.{IsPoolOf, is_row_with}
use Rattle.relaxed_bound.specs.declared.limits.Limits.{Limits}
use Rattle.relaxed_bound.specs.Licence.{IsLicensed, IsUnreached, end_of}
use Rattle.relaxed_bound.specs.Relaxed.{HasBound, outcome_leaf, relaxed_leaf, told_leaf}
use Rattle.relaxed_bound.specs.Telling.{AreWeights, IsRunLeaf, IsWorthOf}
use Rattle.relaxed_bound.proofs.LicenceFacts.{licensed}
use Rattle.relaxed_bound.proofs.RowsFacts.{kept_one, rows_each}

-- a number that isn't far from 0
near_below : (z : ℤ) → nat_abs z ≤ most_entry → unsigned_abs z < 2 ^ 62
near_below (pos n) near = omega (arith, near)
near_below (negsuc n) near = omega (arith, near)

rows_near : (names : List RowName) (multipliers : List ℤ)
    → All (λ multiplier. nat_abs multiplier ≤ most_entry) multipliers
    → All (λ row. row.value < 2 ^ 62) (leaf_rows names multipliers)
rows_near [] multipliers near = All-nil (λ row. row.value < 2 ^ 62)
rows_near (name ∷ names) [] near = All-nil (λ row. row.value < 2 ^ 62)
rows_near (name ∷ names) (multiplier ∷ multipliers) near =
    All-append (λ row. row.value < 2 ^ 62) (unless_never name multiplier)
    (leaf_rows names multipliers)
    (kept_one (λ row. row.value < 2 ^ 62) name multiplier
    (near_below multiplier (near 0 multiplier (omega arith))))
    (rows_near names multipliers
    (All-tail (λ m. nat_abs m ≤ most_entry) multiplier multipliers near))

one_few : (name : RowName) (multiplier : ℤ) → length (unless_never name multiplier) ≤ 1
one_few name multiplier = by (int_eq multiplier (pos 0))
  where
    by : (b : Bool) → length {A = Multiplier} (if b then []
        else record { row = name; value = unsigned_abs multiplier } ∷ []) ≤ 1
    by true = omega arith
    by false = omega arith

rows_few : (names : List RowName) (multipliers : List ℤ)
    → length (leaf_rows names multipliers) ≤ length multipliers
rows_few [] multipliers = omega arith
rows_few (name ∷ names) [] = omega arith
rows_few (name ∷ names) (multiplier ∷ multipliers) =
    omega (
      arith,
      length-append (unless_never name multiplier) (leaf_rows names multipliers),
      one_few name multiplier,
      rows_few names multipliers,
    )

-- how many multipliers are told
told_few : (problem : Problem) (outcome : Outcome) → IsProblem problem → IsJustified problem outcome
    → length (multipliers_of problem outcome) ≤ most_indices
told_few problem outcome valid told = by (is_infeasible outcome.end) refl
  where
    by : (b : Bool) → is_infeasible outcome.end ≡ b
        → length (multipliers_of problem outcome) ≤ most_indices
    by true is = omega (arith, (told.refutation is).multipliers.count, valid.few)
    by false is = omega (arith, (told.bound is).multipliers.count, valid.few)

-- the leaf is in range
told_range : (leaf : Leaf) (names : List RowName) (problem : Problem) (cutoff : Option ℤ)
    (outcome : Outcome) (weights : Weights) → AreWeights problem cutoff outcome weights
    → leaf ≡ told_leaf names weights.weight weights.rows → IsInRange leaf
told_range leaf names problem cutoff outcome weights are leaf_is =
    subst IsInRange (sym leaf_is) range
  where
    range : HasRange (unsigned_abs weights.weight) (leaf_rows names weights.rows)
    range = record {
      weight_to = near_below weights.weight are.near;
      values = rows_near names weights.rows are.rows_near;
      few =
          let most = told_few problem outcome are.valid are.justified in
          let count = ap length are.rows in
          omega (arith, rows_few names weights.rows, most, count);
    }

module _ (parts : Parts) (pool : List CutName) (box : Box) (outcome : Outcome) where
  abbrev program : Problem
  program = program_of parts pool box

  abbrev weight : ℕ
  weight = unsigned_abs (weight_in program outcome)

  abbrev rows : List Multiplier
  rows = leaf_rows (kept_of parts pool box) (multipliers_of program outcome)

  known : IsPoolOf parts pool → AreKnown parts pool rows
  known cuts k row at =
      All-item (λ one. is_row_with parts pool one.row ≡ true) rows k row
      (rows_each (λ name. is_row_with parts pool name ≡ true) (kept_of parts pool box)
      (multipliers_of program outcome) (kept_are parts pool box cuts)) at

  module _ (told : IsJustified program outcome)
      (promise : IsBelowLeaf parts pool box program (kept_of parts pool box)) where
    -- with the weight 0 the value is above 0
    positive : weight ≡ 0 → (choice : Var → ℕ) → IsChoice parts.flights box choice
        → pos 0 <ℤ dual_at parts pool weight rows choice
    positive none choice is = by (is_infeasible outcome.end) refl
      where
        by : (b : Bool) → is_infeasible outcome.end ≡ b
            → pos 0 <ℤ dual_at parts pool weight rows choice
        by false isnt =
            absurd (no_weight (weight_in program outcome) (told.bound isnt).weight none)
          where
            no_weight : (z : ℤ) → pos 0 <ℤ z → unsigned_abs z ≡ 0 → ⊥
            no_weight (pos n) above zero = omega (arith, ints, above, zero)
            no_weight (negsuc n) above zero = omega (arith, ints, above, zero)
        by true infeasible =
            let refuted = told.refutation infeasible in
            let low : neg_ℤ (value_in program outcome) ≤ℤ dual_at parts pool weight rows choice =
            subst (λ w. neg_ℤ (value_in program outcome) ≤ℤ dual_at parts pool w rows choice)
            (sym none)
            (promise 0 (multipliers_of program outcome) (neg_ℤ (value_in program outcome))
            refuted.multipliers choice is) in
            omega (arith, ints, refuted.positive, low)

    told_bound : IsPoolOf parts pool → HasBound parts pool box (outcome_leaf parts pool box outcome)
    told_bound cuts = record {
      known = known cuts;
      positive = λ none value least.
          let reached = least.reached in
          let above = positive none reached.0 reached.1 in
          omega (arith, ints, above, reached.2);
    }

-- what a run gives
pub run_leaf : (leaf : Leaf) (names : List RowName) (problem : Problem) (cutoff : Option ℤ)
    (outcome : Outcome) (weights : Weights) → AreWeights problem cutoff outcome weights
    → leaf ≡ told_leaf names weights.weight weights.rows
    → IsRunLeaf problem names cutoff outcome leaf
run_leaf leaf names problem cutoff outcome weights are leaf_is = record {
  is = leaf_is
      ∙ ap (λ w. told_leaf names w weights.rows) are.weight
      ∙ ap (λ rows. told_leaf names (weight_in problem outcome) rows) are.rows;
  range = told_range leaf names problem cutoff outcome weights are leaf_is;
  justified = are.justified;
  worth = are.worth;
}

module _ (parts : Parts) (pool : List CutName) (box : Box) (presolved : Presolved)
    (whole : IsPresolved parts pool box presolved) (limits : Limits) (cutoff : Option ℤ)
    (leaf : Leaf)
    (run : IsRunLeaf presolved.program presolved.kept cutoff
    (simplex_run presolved.program limits.pivots limits.cells cutoff) leaf) where
  abbrev ended : Problem → Outcome
  ended problem = simplex_run problem limits.pivots limits.cells cutoff

  abbrev ran_leaf : List RowName → Problem → Leaf
  ran_leaf names problem =
      told_leaf names (weight_in problem (ended problem)) (multipliers_of problem (ended problem))

  -- it is that of the run of the box's program
  pub run_is : leaf ≡ relaxed_leaf parts pool box limits cutoff
  run_is =
      run.is
      ∙ ap (ran_leaf presolved.kept) whole.program
      ∙ ap (λ names. ran_leaf names (program_of parts pool box)) whole.kept

  told : IsJustified (program_of parts pool box) (ended (program_of parts pool box))
  told = subst (λ p. IsJustified p (ended p)) whole.program run.justified

  promise : IsBelowLeaf parts pool box (program_of parts pool box) (kept_of parts pool box)
  promise =
      subst (IsBelowLeaf parts pool box (program_of parts pool box)) whole.kept
      (subst (λ p. IsBelowLeaf parts pool box p presolved.kept) whole.program whole.promise)

  -- it says something
  pub run_has : IsPoolOf parts pool → HasBound parts pool box leaf
  run_has cuts =
      subst (HasBound parts pool box) (sym run_is)
      (told_bound parts pool box (ended (program_of parts pool box)) told promise cuts)

  -- where that doesn't reach the cutoff, the box may be split
  pub run_licensed : IsScenario parts → IsPoolOf parts pool → IsBoxOf parts box → IsTight parts box
      → IsUnreached parts pool box leaf cutoff → IsLicensed parts pool box limits cutoff
  run_licensed scenario cuts made tight is =
      licensed parts pool box limits cutoff scenario cuts made tight told
      (subst (λ p. IsWorthOf p cutoff (ended p)) whole.program run.worth) promise
      (subst (λ l. IsUnreached parts pool box l cutoff) run_is is)

  pub run_end : (end : End) → end ≡ (ended presolved.program).end
      → end ≡ end_of parts pool box limits cutoff
  run_end end is = is ∙ ap (λ p. (ended p).end) whole.program
