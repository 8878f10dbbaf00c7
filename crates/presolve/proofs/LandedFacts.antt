-- What a sum of terms comes to, by what is fixed and by the columns, where variables are numerators
-- over one denominator.
use Rattle.std.proofs.Common.{◌≡◌, Bool, true, false, List, [], ◌∷◌, if◌then◌else◌, All, ℤ, pos, ◌+ℤ◌, ◌*ℤ◌, refl, ap, ◌∙◌, arith}
use Rattle.std.proofs.lemmas.List.Elements.{All-tail}
use Rattle.exact_sums.specs.Sums.{total}
use Rattle.exact_sums.proofs.SumFacts.{total-both}
use Rattle.flow_types.specs.declared.parts.Parts.{Parts}
use Rattle.flow_types.specs.Valid.{IsScenario}
use Rattle.row_arena.proofs.WholeLaws.{linear, sum_times, times_zero, zero_times}
use Rattle.time_windows.specs.Boxes.{Box, IsBoxOf}
use Rattle.bytime_model.specs.declared.left.Left.{Left}
use Rattle.bytime_model.specs.declared.left.Left.TheVariants.{Free, One, Same, Zero}
use Rattle.bytime_model.specs.declared.variables.Term.{Term}
use Rattle.bytime_model.specs.declared.variables.Var.{Var}
use Rattle.bytime_model.specs.Left.{left_of}
use Rattle.bytime_model.specs.Columns.{IsThere, IsWhole}
use Rattle.presolve.specs.Landed.{coefficient_of, fixed_of, is_on, is_one, part_fixed, part_on}
use Rattle.presolve.specs.Points.{AgreesOver, form_at}
use Rattle.presolve.specs.Variables.{columns_of, is_same}
use Rattle.presolve.proofs.ColumnFacts.{once}
use Rattle.presolve.proofs.SumLaws.{total_same, total_zero}

module _ (parts : Parts) (scenario : IsScenario parts) (box : Box) (made : IsBoxOf parts box)
    (whole : IsWhole parts.flights box) (value : Var → ℤ) (denominator : ℤ)
    (agree : (variable : Var)
    → AgreesOver denominator value variable (left_of parts.flights box variable)) where
  -- a term's part in a column, as often as the column's variable
  abbrev in_column : Term → Var → ℤ
  in_column term column = part_on parts box column term *ℤ value column

  if_times : (b : Bool) (factor other : ℤ)
      → (if b then factor else pos 0) *ℤ other ≡ (if b then factor *ℤ other else pos 0)
  if_times true factor other = refl
  if_times false factor other = zero_times other

  lands_once : (factor : ℤ) (variable : Var) → IsThere parts.flights variable
      → left_of parts.flights box variable ≡ Free
      → total (λ column. (if is_same variable column then factor else pos 0)
      *ℤ value column) (columns_of parts box) ≡ factor *ℤ value variable
  lands_once factor variable there free =
      total_same (λ column. (if is_same variable column then factor else pos 0)
      *ℤ value column)
      (λ column. if is_same variable column then factor *ℤ value column else pos 0)
      (columns_of parts box)
      (λ column. if_times (is_same variable column) factor (value column))
      ∙ once parts scenario box made (λ column. factor *ℤ value column) variable there free

  lands_nowhere : total (λ column. pos 0 *ℤ value column) (columns_of parts box) ≡ pos 0
  lands_nowhere =
      total_zero (λ column. pos 0 *ℤ value column) (columns_of parts box)
      (λ column. zero_times (value column))

  -- of one term
  one_term : (term : Term) → IsThere parts.flights term.variable
      → term.factor *ℤ value term.variable
      ≡ (part_fixed parts box term *ℤ denominator)
      +ℤ total (in_column term) (columns_of parts box)
  one_term term there =
      by (left_of parts.flights box term.variable) refl (agree term.variable)
    where
      factor : ℤ
      factor = term.factor

      by : (left : Left) → left_of parts.flights box term.variable ≡ left
          → AgreesOver denominator value term.variable left
          → factor *ℤ value term.variable
          ≡ ((if is_one left then factor else pos 0) *ℤ denominator)
          +ℤ total (λ column. (if is_on left term.variable column then factor else pos 0)
          *ℤ value column) (columns_of parts box)
      by Zero is agrees =
          omega (
            arith,
            linear,
            ap (λ n. factor *ℤ n) agrees,
            times_zero factor,
            zero_times denominator,
            lands_nowhere,
          )
      by One is agrees =
          omega (
            arith,
            linear,
            ap (λ n. factor *ℤ n) agrees,
            lands_nowhere,
          )
      by (Same other) is agrees =
          omega (
            arith,
            linear,
            ap (λ n. factor *ℤ n) agrees,
            zero_times denominator,
            lands_once factor other (whole.there term.variable other is)
                (whole.same term.variable other is),
          )
      by Free is agrees =
          omega (
            arith,
            linear,
            zero_times denominator,
            lands_once factor term.variable there is,
          )

  -- of all
  pub landed_value : (terms : List Term) → All (λ term. IsThere parts.flights term.variable) terms
      → form_at value terms ≡ (fixed_of parts box terms *ℤ denominator)
      +ℤ total (λ column. coefficient_of parts box terms column *ℤ value column)
      (columns_of parts box)
  landed_value [] there = omega (arith, linear, zero_times denominator, lands_nowhere)
  landed_value (term ∷ terms) there =
      let rest : Var → ℤ = λ column. coefficient_of parts box terms column *ℤ value column in
      let both = total-both (in_column term) rest (columns_of parts box) in
      let split = total_same
      (λ column. coefficient_of parts box (term ∷ terms) column *ℤ value column)
      (λ column. in_column term column +ℤ rest column) (columns_of parts box)
      (λ column. sum_times (part_on parts box column term) (coefficient_of parts box terms column)
      (value column)) in
      let here = one_term term (there 0 term (omega arith)) in
      let more = landed_value terms
      (All-tail (λ (t : Term). IsThere parts.flights t.variable) term terms there) in
      let fixed = sum_times (part_fixed parts box term) (fixed_of parts box terms) denominator in
      omega (arith, linear, both, split, here, more, fixed)
