-- What rows that are made of others have in each column.
use Rattle.std.proofs.Common.{◌≡◌, ◌≢◌, ◌⊎◌, inl, inr, ℕ, zero, suc, ◌+◌, ◌*◌, ◌/◌, ◌%◌, ◌<◌, ◌≤◌, ◌==◌, max, Bool, true, false, if◌then◌else◌, List, [], ◌∷◌, ◌++◌, map, ℤ, pos, negsuc, neg_ℤ, ◌+ℤ◌, ◌-ℤ◌, ◌*ℤ◌, int_div, nat_abs, refl, sym, ap, ◌∙◌, arith}
use Rattle.std.proofs.lemmas.Int.{ints}
use Rattle.std.proofs.lemmas.Bool.Decides.{Decides-eqb, Decides-int_eq, eqb_tells}
use Rattle.std.proofs.lemmas.Bool.{and_parts}
use Rattle.std.specs.Ordering.{int_eq}
use Rattle.exact_sums.proofs.SumFacts.{total-append}
use Rattle.row_arena.specs.declared.entry.Entry.{Entry}
use Rattle.row_arena.specs.Combining.{cleared, difference, difference_at, divided, divides_all, divisor_of, entry_by, greatest}
use Rattle.row_arena.specs.Rows.{entry_at, negated, reach, row_from, unless_zero, value_in}
use Rattle.row_arena.proofs.WholeLaws.{linear, times_neg, times_sum, times_zero}

-- what a test of two numbers tells
abbrev pub Tells : ℕ → ℕ → Type 0
Tells a b = ((a == b) ≡ true) × (a ≡ b) ⊎ ((a == b) ≡ false) × (a ≢ b)

-- one entry
pub value_same : (column : ℕ) (entry : Entry) → entry.column ≡ column
    → value_in column entry ≡ entry.value
value_same column entry same = by (eqb_tells entry.column column)
  where
    by : Tells entry.column column → value_in column entry ≡ entry.value
    by (inl is) = rw is.0 refl
    by (inr isnt) = absurd (isnt.1 same)

pub value_other : (column : ℕ) (entry : Entry) → entry.column ≢ column
    → value_in column entry ≡ pos 0
value_other column entry other = by (eqb_tells entry.column column)
  where
    by : Tells entry.column column → value_in column entry ≡ pos 0
    by (inl is) = absurd (other is.1)
    by (inr isnt) = rw isnt.0 refl

-- of two rows, one after the other
pub entry_append : (first second : List Entry) (k : ℕ)
    → entry_at (first ++ second) k ≡ entry_at first k +ℤ entry_at second k
entry_append first second k = total-append (value_in k) first second

pub entry_one : (entry : Entry) (k : ℕ) → entry_at (entry ∷ []) k ≡ value_in k entry
entry_one entry k = omega (arith, linear)

-- an entry that is left out where it is 0
pub entry_unless : (column : ℕ) (value : ℤ) (k : ℕ)
    → entry_at (unless_zero column value) k
    ≡ value_in k (record { column = column; value = value })
entry_unless column value k = by (int_eq value (pos 0)) refl
  where
    entry : Entry
    entry = record { column = column; value = value }

    zeros : (b : Bool) → value ≡ pos 0 → pos 0 ≡ (if b then value else pos 0)
    zeros true is = sym is
    zeros false is = refl

    by : (b : Bool) → int_eq value (pos 0) ≡ b
        → entry_at (if b then [] else entry ∷ []) k ≡ value_in k entry
    by true is = zeros (column == k) ((Decides-int_eq value (pos 0)).0 is)
    by false isnt = entry_one entry k

pub unless_other : (column : ℕ) (value : ℤ) (k : ℕ) → column ≢ k
    → entry_at (unless_zero column value) k ≡ pos 0
unless_other column value k other =
    entry_unless column value k ∙ value_other k (record { column = column; value = value }) other

pub unless_same : (column : ℕ) (value : ℤ) (k : ℕ) → column ≡ k
    → entry_at (unless_zero column value) k ≡ value
unless_same column value k same =
    entry_unless column value k ∙ value_same k (record { column = column; value = value }) same

-- the row that has such values
module _ (f : ℕ → ℤ) where
  step : (from count k : ℕ) → entry_at (row_from f from (suc count)) k
      ≡ entry_at (unless_zero from (f from)) k +ℤ entry_at (row_from f (from + 1) count) k
  step from count k = entry_append (unless_zero from (f from)) (row_from f (from + 1) count) k

  pub row_from_before : (from count k : ℕ) → k < from → entry_at (row_from f from count) k ≡ pos 0
  row_from_before from zero k before = refl
  row_from_before from (suc count) k before =
      let more = row_from_before (from + 1) count k (omega (arith, before)) in
      let here = unless_other from (f from) k (λ same. omega (arith, same, before)) in
      let both = step from count k in omega (arith, linear, more, here, both)

  pub row_from_past : (from count k : ℕ) → from + count ≤ k
      → entry_at (row_from f from count) k ≡ pos 0
  row_from_past from zero k past = refl
  row_from_past from (suc count) k past =
      let more = row_from_past (from + 1) count k (omega (arith, past)) in
      let here = unless_other from (f from) k (λ same. omega (arith, same, past)) in
      let both = step from count k in omega (arith, linear, more, here, both)

  pub row_from_at : (from count k : ℕ) → from ≤ k → k < from + count
      → entry_at (row_from f from count) k ≡ f k
  row_from_at from zero k since before = absurd (omega (arith, since, before))
  row_from_at from (suc count) k since before =
      by (eqb_tells from k) (λ next. row_from_at (from + 1) count k next (omega (arith, before)))
    where
      by : Tells from k
          → (from + 1 ≤ k → entry_at (row_from f (from + 1) count) k ≡ f k)
          → entry_at (row_from f from (suc count)) k ≡ f k
      by (inl is) rest =
          let here = unless_same from (f from) k is.1 in
          let more = row_from_before (from + 1) count k (omega (arith, is.1)) in
          let both = step from count k in
          let same = ap f is.1 in omega (arith, linear, more, here, both, same)
      by (inr isnt) rest =
          let here = unless_other from (f from) k isnt.1 in
          let other : from ≢ k = isnt.1 in
          let more = rest (omega (arith, since, other)) in
          let both = step from count k in omega (arith, linear, more, here, both)

-- past a row's last column
pub entry_past : (row : List Entry) (k : ℕ) → reach row ≤ k → entry_at row k ≡ pos 0
entry_past [] k past = refl
entry_past (entry ∷ row) k past =
    let more = entry_past row k (omega (arith, past)) in
    let here = value_other k entry (λ same. omega (arith, same, past)) in
    omega (arith, linear, more, here)

-- p times the target less a times the pivot
pub entry_difference : (p a : ℤ) (target pivot : List Entry) (k : ℕ)
    → entry_at (difference p a target pivot) k
    ≡ (p *ℤ entry_at target k) -ℤ (a *ℤ entry_at pivot k)
entry_difference p a target pivot k = by (order k (max (reach target) (reach pivot)))
  where
    order : (m n : ℕ) → (m < n) ⊎ (n ≤ m)
    order m n = grind arith

    f : ℕ → ℤ
    f = difference_at p a target pivot

    by : (k < max (reach target) (reach pivot)) ⊎ (max (reach target) (reach pivot) ≤ k)
        → entry_at (row_from f 0 (max (reach target) (reach pivot))) k
        ≡ (p *ℤ entry_at target k) -ℤ (a *ℤ entry_at pivot k)
    by (inl within) =
        row_from_at f 0 (max (reach target) (reach pivot)) k (omega arith) (omega (arith, within))
    by (inr past) =
        let none = row_from_past f 0 (max (reach target) (reach pivot)) k (omega (arith, past)) in
        let one = ap (λ n. p *ℤ n) (entry_past target k (omega (arith, past))) in
        let two = ap (λ n. a *ℤ n) (entry_past pivot k (omega (arith, past))) in
        let zero_one = times_zero p in
        let zero_two = times_zero a in
        omega (arith, linear, none, one, two, zero_one, zero_two)

-- turned round
pub entry_negated : (row : List Entry) (k : ℕ) → entry_at (negated row) k ≡ neg_ℤ (entry_at row k)
entry_negated [] k = refl
entry_negated (entry ∷ row) k =
    let more = entry_negated row k in
    let here = turned (entry.column == k) entry.value in omega (arith, linear, more, here)
  where
    turned : (b : Bool) (value : ℤ)
        → (if b then neg_ℤ value else pos 0) ≡ neg_ℤ (if b then value else pos 0)
    turned true value = refl
    turned false value = refl

-- the divisor of a row is above 0 and divides each entry
pub greatest_above : (has : ℕ → Bool) (n : ℕ) → 0 < greatest has n
greatest_above has zero = omega arith
greatest_above has (suc n) = by (has (suc n)) (greatest_above has n)
  where
    by : (b : Bool) → 0 < greatest has n → 0 < (if b then suc n else greatest has n)
    by true rest = omega arith
    by false rest = rest

pub greatest_has : (has : ℕ → Bool) (n : ℕ) → has 1 ≡ true → has (greatest has n) ≡ true
greatest_has has zero one = one
greatest_has has (suc n) one = by (has (suc n)) refl (greatest_has has n one)
  where
    by : (b : Bool) → has (suc n) ≡ b → has (greatest has n) ≡ true
        → has (if b then suc n else greatest has n) ≡ true
    by true is rest = is
    by false isnt rest = rest

pub divisor_above : (row : List Entry) → 0 < divisor_of row
divisor_above [] = omega arith
divisor_above (entry ∷ row) =
    greatest_above (λ d. divides_all d (entry ∷ row)) (nat_abs entry.value)

pub one_divides : (row : List Entry) → divides_all 1 row ≡ true
one_divides [] = refl
one_divides (entry ∷ row) =
    let whole : nat_abs entry.value % 1 ≡ 0 = omega arith in
    let here : (nat_abs entry.value % 1 == 0) ≡ true = ap (λ n. n == 0) whole in
    rw here (one_divides row)

pub divisor_divides : (row : List Entry) → divides_all (divisor_of row) row ≡ true
divisor_divides [] = refl
divisor_divides (entry ∷ row) =
    greatest_has (λ d. divides_all d (entry ∷ row)) (nat_abs entry.value)
    (one_divides (entry ∷ row))

div_back : (n d : ℕ) → n % d ≡ 0 → d * (n / d) ≡ n
div_back n d none = omega (arith, none)

-- a number that is divided with nothing left
pub times_quotient : (d : ℕ) (value : ℤ) → nat_abs value % d ≡ 0
    → pos d *ℤ int_div value (pos d) ≡ value
times_quotient d (pos n) none = let back = div_back n d none in omega (arith, ints, back)
times_quotient d (negsuc n) none =
    let back = div_back (suc n) d none in
    let turned = times_neg (pos d) (pos (suc n / d)) in
    let whole : pos d *ℤ pos (suc n / d) ≡ pos (suc n) = omega (arith, ints, back) in
    omega (arith, linear, turned, whole)

pub entry_by_times : (d : ℕ) (row : List Entry) (k : ℕ) → divides_all d row ≡ true
    → pos d *ℤ entry_at (map (entry_by d) row) k ≡ entry_at row k
entry_by_times d [] k all = times_zero (pos d)
entry_by_times d (entry ∷ row) k all =
    let parts = and_parts (nat_abs entry.value % d == 0) (divides_all d row) all in
    let none = (Decides-eqb (nat_abs entry.value % d) 0).0 parts.0 in
    let whole = times_quotient d entry.value none in
    let here = once (entry.column == k) whole in
    let more = entry_by_times d row k parts.1 in
    let both = times_sum (pos d) (value_in k (entry_by d entry))
    (entry_at (map (entry_by d) row) k) in
    omega (arith, linear, here, more, both)
  where
    once : (b : Bool) → pos d *ℤ int_div entry.value (pos d) ≡ entry.value
        → pos d *ℤ (if b then int_div entry.value (pos d) else pos 0)
        ≡ (if b then entry.value else pos 0)
    once true is = is
    once false is = times_zero (pos d)

pub entry_divided : (row : List Entry) (k : ℕ)
    → pos (divisor_of row) *ℤ entry_at (divided row) k ≡ entry_at row k
entry_divided row k = entry_by_times (divisor_of row) row k (divisor_divides row)

-- the divisor of a cleared row
abbrev pub cleared_by : ℕ → List Entry → List Entry → ℕ
cleared_by column target pivot =
    divisor_of (difference (entry_at pivot column) (entry_at target column) target pivot)

pub entry_cleared : (column : ℕ) (target pivot : List Entry) (k : ℕ)
    → pos (cleared_by column target pivot) *ℤ entry_at (cleared column target pivot) k
    ≡ (entry_at pivot column *ℤ entry_at target k) -ℤ (entry_at target column *ℤ entry_at pivot k)
entry_cleared column target pivot k =
    entry_divided (difference (entry_at pivot column) (entry_at target column) target pivot) k
    ∙ entry_difference (entry_at pivot column) (entry_at target column) target pivot k
