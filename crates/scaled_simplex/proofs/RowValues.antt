-- A row at values of its indices: what it is where the row is made of others, and that it is the
-- same as the sum over the row's entries, each times the value at its index.
use Rattle.std.proofs.Common.{◌≡◌, inl, inr, ℕ, ◌<◌, Bool, true, false, if◌then◌else◌, List, [], ◌∷◌, ◌++◌, All, ℤ, pos, neg_ℤ, ◌+ℤ◌, ◌-ℤ◌, ◌*ℤ◌, refl, sym, ap, ◌∙◌, arith}
use Rattle.std.proofs.lemmas.Bool.Decides.{Decides-int_eq, eqb_tells}
use Rattle.std.proofs.lemmas.List.Elements.{All-head, All-tail}
use Rattle.std.specs.Ordering.{int_eq}
use Rattle.exact_sums.proofs.SumFacts.{total-append}
use Rattle.row_arena.specs.declared.entry.Entry.{Entry}
use Rattle.row_arena.specs.Combining.{cleared}
use Rattle.row_arena.specs.Rows.{entry_at, negated, unless_zero, value_in}
use Rattle.scaled_simplex.specs.Derived.{row_with}
use Rattle.scaled_simplex.specs.Points.{terms_at}
use Rattle.scaled_simplex.specs.Tableau.{one_at}
use Rattle.scaled_simplex.proofs.Checks.{factor_combined}
use Rattle.scaled_simplex.proofs.EntryLaws.{Tells, cleared_by, entry_cleared, entry_negated, value_other, value_same}
use Rattle.row_arena.proofs.WholeLaws.{linear, neg_times, one_times, sum_times, times_moved, times_sum, times_zero, zero_times}

-- a row that is, so often, one row so often less another so often
pub with_combined : (d p a : ℤ) (first second row : List Entry)
    → ((k : ℕ) → d *ℤ entry_at row k ≡ (p *ℤ entry_at first k) -ℤ (a *ℤ entry_at second k))
    → (values : List Entry)
    → d *ℤ row_with values row
    ≡ (p *ℤ row_with values first) -ℤ (a *ℤ row_with values second)
with_combined d p a first second row each [] =
    omega (arith, linear, times_zero d, times_zero p, times_zero a)
with_combined d p a first second row each (v ∷ values) =
    let here = factor_combined d p a (entry_at first) (entry_at second) (entry_at row) each v.column
    v.value in
    let more = with_combined d p a first second row each values in
    let one = times_sum d (entry_at row v.column *ℤ v.value) (row_with values row) in
    let two = times_sum p (entry_at first v.column *ℤ v.value) (row_with values first) in
    let three = times_sum a (entry_at second v.column *ℤ v.value) (row_with values second) in
    omega (arith, linear, here, more, one, two, three)

pub with_cleared : (column : ℕ) (target pivot values : List Entry)
    → pos (cleared_by column target pivot) *ℤ row_with values (cleared column target pivot)
    ≡ (entry_at pivot column *ℤ row_with values target)
    -ℤ (entry_at target column *ℤ row_with values pivot)
with_cleared column target pivot values =
    with_combined (pos (cleared_by column target pivot)) (entry_at pivot column)
    (entry_at target column) target pivot (cleared column target pivot)
    (entry_cleared column target pivot) values

pub with_negated : (row values : List Entry)
    → row_with values (negated row) ≡ neg_ℤ (row_with values row)
with_negated row [] = refl
with_negated row (v ∷ values) =
    let here = ap (λ n. n *ℤ v.value) (entry_negated row v.column) in
    let turned = neg_times (entry_at row v.column) v.value in
    let more = with_negated row values in omega (arith, linear, here, turned, more)

-- the other way round: the row's entries, each times the value at its index
with_none : (values : List Entry) → row_with values [] ≡ pos 0
with_none [] = refl
with_none (v ∷ values) =
    let here = zero_times v.value in
    let more = with_none values in omega (arith, linear, here, more)

one_across : (term v : Entry)
    → value_in v.column term *ℤ v.value ≡ term.value *ℤ value_in term.column v
one_across term v = by (eqb_tells term.column v.column)
  where
    by : Tells term.column v.column
        → value_in v.column term *ℤ v.value ≡ term.value *ℤ value_in term.column v
    by (inl same) =
        ap (λ n. n *ℤ v.value) (value_same v.column term same.1)
        ∙ ap (λ n. term.value *ℤ n) (sym (value_same term.column v (sym same.1)))
    by (inr other) =
        let one = ap (λ n. n *ℤ v.value) (value_other v.column term other.1) in
        let two = ap (λ n. term.value *ℤ n)
        (value_other term.column v (λ e. other.1 (sym e))) in
        let three = zero_times v.value in
        let four = times_zero term.value in omega (arith, linear, one, two, three, four)

with_more : (term : Entry) (row values : List Entry)
    → row_with values (term ∷ row)
    ≡ (term.value *ℤ entry_at values term.column) +ℤ row_with values row
with_more term row [] = let none = times_zero term.value in omega (arith, linear, none)
with_more term row (v ∷ values) =
    let here = sum_times (value_in v.column term) (entry_at row v.column) v.value in
    let across = one_across term v in
    let more = with_more term row values in
    let both = times_sum term.value (value_in term.column v) (entry_at values term.column) in
    omega (arith, linear, here, across, more, both)

pub with_across : (row values : List Entry) → row_with values row ≡ terms_at row (entry_at values)
with_across [] values = with_none values
with_across (term ∷ row) values =
    let here = with_more term row values in
    let more = with_across row values in omega (arith, linear, here, more)

-- terms, one after the other
module _ (f : ℕ → ℤ) where
  pub terms_append : (first second : List Entry)
      → terms_at (first ++ second) f ≡ terms_at first f +ℤ terms_at second f
  terms_append first second = total-append (λ (t : Entry). t.value *ℤ f t.column) first second

  pub terms_one : (column : ℕ) → terms_at (one_at column) f ≡ f column
  terms_one column = let one = one_times (f column) in omega (arith, linear, one)

  pub terms_unless : (column : ℕ) (value : ℤ)
      → terms_at (unless_zero column value) f ≡ value *ℤ f column
  terms_unless column value = by (int_eq value (pos 0)) refl
    where
      entry : Entry
      entry = record { column = column; value = value }

      by : (b : Bool) → int_eq value (pos 0) ≡ b
          → terms_at (if b then [] else entry ∷ []) f ≡ value *ℤ f column
      by true is =
          let none = ap (λ n. n *ℤ f column) ((Decides-int_eq value (pos 0)).0 is) in
          let zero_here = zero_times (f column) in omega (arith, linear, none, zero_here)
      by false isnt = omega (arith, linear)

-- terms where each value is so often another
pub terms_times : (weight : ℤ) (f g : ℕ → ℤ) (n : ℕ) (terms : List Entry)
    → All (λ term. term.column < n) terms → ((k : ℕ) → k < n → g k ≡ weight *ℤ f k)
    → terms_at terms g ≡ weight *ℤ terms_at terms f
terms_times weight f g n [] within each = sym (times_zero weight)
terms_times weight f g n (term ∷ terms) within each =
    let small : term.column < n = All-head (λ term. term.column < n) term terms within in
    let here = ap (λ x. term.value *ℤ x) (each term.column small)
    ∙ times_moved term.value weight (f term.column) in
    let more = terms_times weight f g n terms
    (All-tail (λ term. term.column < n) term terms within) each in
    let both = times_sum weight (term.value *ℤ f term.column) (terms_at terms f) in
    omega (arith, linear, here, more, both)
