-- The leaf of a run whose first tableau has no room: one unit of the cost, and no rows.
use Rattle.std.proofs.Common.{◌≡◌, ℕ, zero, suc, ◌+◌, ◌^◌, ◌<◌, List, [], ◌∷◌, ◌++◌, length, map, slice_get, Option, Some, ℤ, pos, neg_ℤ, unsigned_abs, if◌then◌else◌, inr, refl, sym, ap, ◌∙◌, subst, arith}
use Rattle.std.proofs.lemmas.Bool.{lt-ltb}
use Rattle.std.proofs.lemmas.List.Elements.{All-nil}
use Rattle.std.specs.List.{range_with_len}
use Rattle.flow_types.specs.declared.parts.Parts.{Parts}
use Rattle.scaled_simplex.specs.declared.end.End.TheVariants.{Wide}
use Rattle.scaled_simplex.specs.Multipliers.{multipliers_of}
use Rattle.scaled_simplex.specs.Program.{Problem, columns}
use Rattle.scaled_simplex.specs.Run.{Outcome, multiplier_in, run_from, weight_in}
use Rattle.scaled_simplex.specs.Tableau.{bare_row, first_tableau}
use Rattle.scaled_simplex.proofs.FirstTableau.{bare_below, bare_weight}
use Rattle.time_windows.specs.Boxes.{Box}
use Rattle.bytime_model.specs.declared.names.RowName.{RowName}
use Rattle.branch_tree.specs.declared.leaf.Leaf.{Leaf}
use Rattle.branch_tree.specs.declared.leaf.Leaf.TheVariants.{Dual}
use Rattle.bytime_model.specs.declared.multiplier.Multiplier.{Multiplier}
use Rattle.branch_tree.specs.Leaves.{IsInRange}
use Rattle.presolve.specs.Leaf.{leaf_rows, unless_never}
use Rattle.presolve.specs.Presolved.{entries_of}
use Rattle.presolve.specs.Relaxed.{kept_of, program_of}
use Rattle.cut_rows.specs.declared.names.CutName.{CutName}
use Rattle.relaxed_bound.specs.declared.limits.Limits.{Limits}
use Rattle.relaxed_bound.specs.Licence.{IsLicensed, end_of}
use Rattle.relaxed_bound.specs.Relaxed.{HasBound, outcome_leaf, relaxed_leaf}

no_item : (position : ℕ) (multiplier : Multiplier) → slice_get [] position ≡ Some multiplier → ⊥
no_item position multiplier at = cc at

-- multipliers that are all 0 give no rows
zeros_none : (names : List RowName) (multiplier : ℕ → ℤ) (from count : ℕ)
    → ((k : ℕ) → k < from + count → multiplier k ≡ pos 0)
    → leaf_rows names (map multiplier (range_with_len from count)) ≡ []
zeros_none [] multiplier from count zeros = refl
zeros_none (name ∷ names) multiplier from zero zeros = refl
zeros_none (name ∷ names) multiplier from (suc count) zeros =
    ap (λ z. unless_never name z
    ++ leaf_rows names (map multiplier (range_with_len (from + 1) count)))
    (zeros from (omega arith))
    ∙ zeros_none names multiplier (from + 1) count (λ k below. zeros k (omega (arith, below)))

module _ (parts : Parts) (pool : List CutName) (box : Box) where
  abbrev program : Problem
  program = program_of parts pool box

  abbrev wide : Outcome
  wide = record { end = Wide; row = bare_row program }

  no_multiplier : (k : ℕ) → k < 0 + length program.constraints
      → multiplier_in program wide k ≡ pos 0
  no_multiplier k below =
      ap neg_ℤ (bare_below program (columns program + k) (omega (arith, below)))

  no_rows : leaf_rows (kept_of parts pool box) (multipliers_of program wide) ≡ []
  no_rows =
      zeros_none (kept_of parts pool box) (multiplier_in program wide) 0
      (length program.constraints)
      no_multiplier

  wide_leaf : Dual 1 [] ≡ outcome_leaf parts pool box wide
  wide_leaf =
      ap (λ w. Dual (unsigned_abs w) []) (sym (bare_weight program))
      ∙ ap (λ rows. Dual (unsigned_abs (weight_in program wide)) rows) (sym no_rows)

  pub bare_is : (limits : Limits) (cutoff : Option ℤ) (leaf : Leaf) → leaf ≡ Dual 1 []
      → limits.cells < entries_of parts pool box → leaf ≡ relaxed_leaf parts pool box limits cutoff
  bare_is limits cutoff leaf is past =
      is ∙ wide_leaf
      ∙ ap (λ b. outcome_leaf parts pool box (if b then wide
      else run_from program limits.cells cutoff limits.pivots (first_tableau program)))
      (sym (lt-ltb limits.cells (entries_of parts pool box) past))

  -- the run ends at once, and so the box may be split
  pub bare_end : (limits : Limits) (cutoff : Option ℤ) → limits.cells < entries_of parts pool box
      → Wide ≡ end_of parts pool box limits cutoff
  bare_end limits cutoff past =
      ap (λ b. (if b then wide
      else run_from program limits.cells cutoff limits.pivots (first_tableau program)).end)
      (sym (lt-ltb limits.cells (entries_of parts pool box) past))

  pub bare_licensed : (limits : Limits) (cutoff : Option ℤ)
      → limits.cells < entries_of parts pool box → IsLicensed parts pool box limits cutoff
  bare_licensed limits cutoff past = inr (inr (sym (bare_end limits cutoff past)))

  bare_bound : HasBound parts pool box (Dual 1 [])
  bare_bound = record {
    known = λ position multiplier at. absurd (no_item position multiplier at);
    positive = λ none. absurd (omega (arith, none));
  }

  pub bare_has : (leaf : Leaf) → leaf ≡ Dual 1 [] → HasBound parts pool box leaf
  bare_has leaf is = subst (HasBound parts pool box) (sym is) bare_bound

pub bare_range : (leaf : Leaf) → leaf ≡ Dual 1 [] → IsInRange leaf
bare_range leaf is = subst IsInRange (sym is) (record {
  weight_to = omega arith;
  values = All-nil (λ (row : Multiplier). row.value < 2 ^ 62);
  few = omega arith;
})
