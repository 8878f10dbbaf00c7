-- Lawful tableaus, the states that a run can be in, and how a pivot keeps them so.
use Rattle.std.proofs.Common.{◌≡◌, ℕ, ◌+◌, ◌<◌, List, length, set, Some, Ok, All, pos, neg_ℤ, ◌≤ℤ◌, ◌<ℤ◌, ap, ◌∙◌, arith}
use Rattle.std.proofs.lemmas.List.{length-set}
use Rattle.row_arena.specs.declared.entry.Entry.{Entry}
use Rattle.row_arena.specs.Arena.{row_at}
use Rattle.row_arena.specs.Rows.{entry_at, negated}
use Rattle.scaled_simplex.specs.Program.{Problem}
use Rattle.scaled_simplex.specs.Run.{cost_at, entering, last_row, leaving, pivoted}
use Rattle.scaled_simplex.specs.Tableau.{Tableau, right_side, weight_index}
use Rattle.scaled_simplex.proofs.Checks.{IsMade}
use Rattle.scaled_simplex.proofs.EntryLaws.{entry_negated}
use Rattle.row_arena.proofs.WholeLaws.{stays_low}
use Rattle.scaled_simplex.proofs.Sweeps.{IsPivoted, pivoted_each, pivoted_is}
use Rattle.std.proofs.lemmas.List.Elements.{All-set}
use Rattle.scaled_simplex.proofs.Choices.{entering_least, entering_negative, entering_positive, entering_within, leaving_within}
use Rattle.scaled_simplex.proofs.ClearedRows.{cleared_above, cleared_low, cleared_zero, made_cleared, made_negated}

-- A row and a position for each constraint, and the cost row. Each row is made of the constraints
-- and the costs, which have a weight in the cost row alone, above 0 there; and no cost is above 0.
pub record IsLawful (problem : Problem) (tableau : Tableau) : Type 0 where
  pub count : length tableau.rows ≡ length problem.constraints + 1
  pub basis : length tableau.basis ≡ length problem.constraints
  pub indices : All (λ index. index < right_side problem) tableau.basis
  pub made : (k : ℕ) → k < length problem.constraints + 1 → IsMade problem (row_at tableau.rows k)
  pub weightless : (k : ℕ) → k < length problem.constraints
      → entry_at (row_at tableau.rows k) (weight_index problem) ≡ pos 0
  pub weight : pos 0 <ℤ cost_at problem tableau (weight_index problem)
  pub costs : (k : ℕ) → k < right_side problem → cost_at problem tableau k ≤ℤ pos 0

module _ (problem : Problem) (tableau : Tableau) (lawful : IsLawful problem tableau)
    (leaves enters cells : ℕ) (rows : List (List Entry))
    (leaving_is : leaving problem tableau ≡ Some leaves)
    (entering_is : entering problem tableau (row_at tableau.rows leaves) ≡ Some enters)
    (done : pivoted problem cells tableau leaves enters ≡ Ok rows) where
  abbrev row : List Entry
  row = row_at tableau.rows leaves

  abbrev turned : List Entry
  turned = negated (row_at tableau.rows leaves)

  within : leaves < length problem.constraints
  within = leaving_within problem tableau leaves leaving_is

  swept : IsPivoted problem tableau.rows rows leaves enters
  swept = pivoted_is problem leaves enters cells tableau rows lawful.count within done

  positive : pos 0 <ℤ entry_at turned enters
  positive = entering_positive problem tableau row enters entering_is

  turned_made : IsMade problem turned
  turned_made = made_negated problem row (lawful.made leaves (omega (arith, within)))

  turned_weightless : entry_at turned (weight_index problem) ≡ pos 0
  turned_weightless =
      entry_negated row (weight_index problem) ∙ ap neg_ℤ (lawful.weightless leaves within)

  made_after : (k : ℕ) → k < length problem.constraints + 1 → IsMade problem (row_at rows k)
  made_after k small =
      pivoted_each problem tableau.rows rows leaves enters swept (IsMade problem) k small
      (λ _. turned_made)
      (λ _. made_cleared enters (row_at tableau.rows k) turned problem (lawful.made k small)
      turned_made)
      (λ _ _. lawful.made k small)

  weightless_after : (k : ℕ) → k < length problem.constraints
      → entry_at (row_at rows k) (weight_index problem) ≡ pos 0
  weightless_after k small =
      pivoted_each problem tableau.rows rows leaves enters swept
      (λ (r : List Entry). entry_at r (weight_index problem) ≡ pos 0) k (omega (arith, small))
      (λ _. turned_weightless)
      (λ _. cleared_zero enters (row_at tableau.rows k) turned (weight_index problem)
      (lawful.weightless k small) turned_weightless)
      (λ _ _. lawful.weightless k small)

  low_after : (k : ℕ) → k < right_side problem
      → entry_at (row_at rows (length problem.constraints)) k ≤ℤ pos 0
  low_after k small =
      rw swept.costs
      (cleared_low enters (last_row problem tableau) turned k
      (rw (entry_negated row enters, entry_negated row k)
      (stays_low (cost_at problem tableau k) (cost_at problem tableau enters) (entry_at row k)
      (entry_at row enters) (entering_negative problem tableau row enters entering_is)
      (lawful.costs k small)
      (lawful.costs enters (entering_within problem tableau row enters entering_is))
      (entering_least problem tableau row enters k entering_is small))))

  -- a pivot keeps a tableau lawful
  pub pivot_lawful : IsLawful problem
      (record { rows = rows; basis = set tableau.basis leaves enters })
  pivot_lawful = record {
    count = swept.same ∙ lawful.count;
    basis = length-set tableau.basis leaves enters ∙ lawful.basis;
    indices = All-set (λ index. index < right_side problem) tableau.basis leaves enters
        (entering_within problem tableau row enters entering_is) lawful.indices;
    made = made_after;
    weightless = weightless_after;
    weight = rw swept.costs
        (cleared_above enters (last_row problem tableau) turned (weight_index problem) positive
        lawful.weight turned_weightless);
    costs = low_after;
  }
