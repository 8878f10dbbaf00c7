-- Rows and costs over columns of which some are flipped. The columns are numerators over one
-- denominator.
use Rattle.std.proofs.Common.{◌≡◌, ℕ, zero, suc, ◌+◌, ◌<◌, ◌≤◌, Bool, true, false, List, [], ◌∷◌, ◌++◌, length, map, set, take, drop, get_or, slice_get, slice_index_or, Some, if◌then◌else◌, All, int_lt, unsigned_abs, ℤ, pos, negsuc, neg_ℤ, ◌+ℤ◌, ◌-ℤ◌, ◌*ℤ◌, ◌≤ℤ◌, ◌<ℤ◌, refl, sym, ap, ◌∙◌, subst, arith}
use Rattle.std.proofs.lemmas.Bool.Decides.{Decides-int_eq}
use Rattle.std.proofs.lemmas.List.Edits.{map_over_more}
use Rattle.std.proofs.lemmas.List.Elements.{All-append, All-cons, All-nil}
use Rattle.std.specs.Int.{int_min}
use Rattle.std.specs.Ordering.{int_eq}
use Rattle.exact_sums.specs.Sums.{total}
use Rattle.exact_sums.proofs.SumFacts.{total-append}
use Rattle.row_arena.specs.declared.entry.Entry.{Entry}
use Rattle.row_arena.specs.Rows.{unless_zero}
use Rattle.row_arena.proofs.WholeLaws.{less_is, less_isnt, less_times, linear, neg_times, sum_times, times_less, zero_times}
use Rattle.scaled_simplex.specs.Points.{terms_at}
use Rattle.scaled_simplex.specs.Program.{Constraint}
use Rattle.bytime_model.specs.declared.variables.Var.{Var}
use Rattle.presolve.specs.Landed.{entries_from}
use Rattle.presolve.specs.Points.{turned}
use Rattle.presolve.specs.Relaxed.{flipped_entry, flipped_row, flipped_sum, is_flipped}
use Rattle.presolve.proofs.DualityFacts.{over}

-- the numerators of the columns' variables
pub record IsPointAt (columns : List Var) (value : Var → ℤ) (from : ℕ) (numerator : ℕ → ℤ)
    : Type 0 where
  pub at : (i k : ℕ) (column : Var) → k ≡ from + i → slice_get columns i ≡ Some column
      → numerator k ≡ value column

next_at : (columns : List Var) (column : Var) (value : Var → ℤ) (from : ℕ) (numerator : ℕ → ℤ)
    → IsPointAt (column ∷ columns) value from numerator
    → IsPointAt columns value (from + 1) numerator
next_at columns column value from numerator is = record {
  at = λ i k c same here. is.at (suc i) k c (omega (arith, same)) here;
}

first_at : (columns : List Var) (column : Var) (value : Var → ℤ) (from : ℕ) (numerator : ℕ → ℤ)
    → IsPointAt (column ∷ columns) value from numerator → numerator from ≡ value column
first_at columns column value from numerator is = is.at 0 from column (omega arith) refl

one_entry : (numerator : ℕ → ℤ) (number : ℕ) (factor : ℤ)
    → terms_at (unless_zero number factor) numerator ≡ factor *ℤ numerator number
one_entry numerator number factor = by (int_eq factor (pos 0)) refl
  where
    by : (b : Bool) → int_eq factor (pos 0) ≡ b
        → terms_at (if b then [] else record { column = number; value = factor } ∷ []) numerator
        ≡ factor *ℤ numerator number
    by true is =
        sym (ap (λ n. n *ℤ numerator number) ((Decides-int_eq factor (pos 0)).0 is)
        ∙ zero_times (numerator number))
    by false isnt = omega (arith, linear)

-- a row's left side, by columns
pub row_value : (factor : Var → ℤ) (columns : List Var) (value : Var → ℤ) (from : ℕ)
    (numerator : ℕ → ℤ) → IsPointAt columns value from numerator
    → terms_at (entries_from factor from columns) numerator
    ≡ total (λ column. factor column *ℤ value column) columns
row_value factor [] value from numerator is = refl
row_value factor (column ∷ columns) value from numerator is =
    let both = total-append (λ (entry : Entry). entry.value *ℤ numerator entry.column)
    (unless_zero from (factor column)) (entries_from factor (from + 1) columns) in
    let here = one_entry numerator from (factor column) in
    let same = ap (λ n. factor column *ℤ n) (first_at columns column value from numerator is) in
    let more = row_value factor columns value (from + 1) numerator
    (next_at columns column value from numerator is) in
    omega (arith, linear, both, here, same, more)

-- turned twice a number is as before
pub turned_back : (denominator : ℤ) (flip : Bool) (numerator : ℤ)
    → turned denominator flip (turned denominator flip numerator) ≡ numerator
turned_back denominator true numerator = omega (arith, linear)
turned_back denominator false numerator = refl

-- a factor with its sign turned, and once more
turned_times : (factor denominator numerator : ℤ)
    → (neg_ℤ factor *ℤ numerator) +ℤ (factor *ℤ denominator)
    ≡ factor *ℤ (denominator -ℤ numerator)
turned_times factor denominator numerator =
    let one = neg_times factor numerator in
    let two = times_less factor denominator numerator in omega (arith, linear, one, two)

-- a row with flipped columns is as far above its limit
module _ (flips : List Bool) (numerator : ℕ → ℤ) (denominator : ℤ) where
  -- what the columns' variables are at
  abbrev pub unflipped : ℕ → ℤ
  unflipped k = turned denominator (slice_index_or flips k false) (numerator k)

  flip_value : (terms : List Entry)
      → terms_at (map (flipped_entry flips) terms) numerator
      +ℤ (flipped_sum flips terms *ℤ denominator) ≡ terms_at terms unflipped
  flip_value [] = omega (arith, linear, zero_times denominator)
  flip_value (entry ∷ terms) =
      joined ((flipped_entry flips entry).value *ℤ numerator entry.column)
      (terms_at (map (flipped_entry flips) terms) numerator)
      (if is_flipped flips entry then entry.value else pos 0) (flipped_sum flips terms)
      (entry.value *ℤ unflipped entry.column) (terms_at terms unflipped)
      (by (is_flipped flips entry)) (flip_value terms)
    where
      joined : (a b c d e f : ℤ) → a +ℤ (c *ℤ denominator) ≡ e → b +ℤ (d *ℤ denominator) ≡ f
          → (a +ℤ b) +ℤ ((c +ℤ d) *ℤ denominator) ≡ e +ℤ f
      joined a b c d e f first rest =
          let both = sum_times c d denominator in omega (arith, linear, first, rest, both)

      by : (b : Bool) → ((if b then neg_ℤ entry.value else entry.value)
          *ℤ numerator entry.column)
          +ℤ ((if b then entry.value else pos 0) *ℤ denominator)
          ≡ entry.value *ℤ turned denominator b (numerator entry.column)
      by true = turned_times entry.value denominator (numerator entry.column)
      by false = omega (arith, linear, zero_times denominator)

  pub flip_over : (row : Constraint)
      → over numerator denominator (flipped_row flips row) ≡ over unflipped denominator row
  flip_over row =
      let same = flip_value row.terms in
      let limit = less_times row.limit (flipped_sum flips row.terms) denominator in
      omega (arith, linear, same, limit)

-- what a column costs, with what is paid for it where it is flipped
pub one_cost : (cost denominator numerator : ℤ)
    → pos (unsigned_abs cost) *ℤ numerator
    ≡ (cost *ℤ turned denominator (int_lt cost (pos 0)) numerator)
    -ℤ (int_min (pos 0) cost *ℤ denominator)
one_cost cost denominator numerator = by (int_lt cost (pos 0)) refl
  where
    down : (z : ℤ) → z <ℤ pos 0 → pos (unsigned_abs z) ≡ neg_ℤ z
    down (pos n) below = absurd (omega (arith, linear, below))
    down (negsuc n) below = refl

    up : (z : ℤ) → pos 0 ≤ℤ z → pos (unsigned_abs z) ≡ z
    up (pos n) above = refl
    up (negsuc n) above = absurd (omega (arith, linear, above))

    by : (b : Bool) → int_lt cost (pos 0) ≡ b
        → pos (unsigned_abs cost) *ℤ numerator
        ≡ (cost *ℤ turned denominator b numerator) -ℤ ((if b then cost else pos 0) *ℤ denominator)
    by true is =
        let size = ap (λ n. n *ℤ numerator) (down cost (less_is cost (pos 0) is)) in
        let same = turned_times cost denominator numerator in omega (arith, linear, size, same)
    by false isnt =
        let size = ap (λ n. n *ℤ numerator) (up cost (less_isnt cost (pos 0) isnt)) in
        let none = zero_times denominator in omega (arith, linear, size, none)

-- every entry is in one of the columns
pub entries_within : (factor : Var → ℤ) (columns : List Var) (from count : ℕ)
    → from + length columns ≤ count
    → All (λ entry. entry.column < count) (entries_from factor from columns)
entries_within factor [] from count few = All-nil (λ (entry : Entry). entry.column < count)
entries_within factor (column ∷ columns) from count few =
    All-append (λ (entry : Entry). entry.column < count) (unless_zero from (factor column))
    (entries_from factor (from + 1) columns) (by (int_eq (factor column) (pos 0)))
    (entries_within factor columns (from + 1) count (omega (arith, few)))
  where
    here : Entry
    here = record { column = from; value = factor column }

    by : (b : Bool) → All (λ (entry : Entry). entry.column < count) (if b then [] else here ∷ [])
    by true = All-nil (λ (entry : Entry). entry.column < count)
    by false = All-cons (λ (entry : Entry). entry.column < count) here [] (omega (arith, few))
        (All-nil (λ (entry : Entry). entry.column < count))

pub flipped_within : (flips : List Bool) (terms : List Entry) (count : ℕ)
    → All (λ entry. entry.column < count) terms
    → All (λ entry. entry.column < count) (map (flipped_entry flips) terms)
flipped_within flips [] count within = All-nil (λ (entry : Entry). entry.column < count)
flipped_within flips (entry ∷ terms) count within =
    All-cons (λ (e : Entry). e.column < count) (flipped_entry flips entry)
    (map (flipped_entry flips) terms) (within 0 entry (omega arith))
    (flipped_within flips terms count
    (λ k d below. within (suc k) d (omega (arith, below))))

-- of a list of which the first so many are flipped, one that isn't yet
pub flip_element : (P : Entry → Type 0) (f : Entry → Entry) (xs ys : List Entry) (k : ℕ)
    (d : Entry) → ys ≡ map f (take k xs) ++ drop k xs → k < length xs → All P xs
    → P (get_or ys k d)
flip_element P f xs ys k d are within all =
    subst P (sym (ap (λ list. get_or list k d) are ∙ at f xs k d within)) (all k d within)
  where
    at : (f : Entry → Entry) (xs : List Entry) (k : ℕ) (d : Entry) → k < length xs
        → get_or (map f (take k xs) ++ drop k xs) k d ≡ get_or xs k d
    at f [] k d within = absurd (omega (arith, within))
    at f (x ∷ xs) zero d within = refl
    at f (x ∷ xs) (suc k) d within = at f xs k d (omega (arith, within))

pub flip_long : (f : Entry → Entry) (xs ys : List Entry) (k : ℕ)
    → ys ≡ map f (take k xs) ++ drop k xs → length ys ≡ length xs
flip_long f xs ys k are = ap length are ∙ long f xs k
  where
    long : (f : Entry → Entry) (xs : List Entry) (k : ℕ)
        → length (map f (take k xs) ++ drop k xs) ≡ length xs
    long f [] zero = refl
    long f [] (suc k) = refl
    long f (x ∷ xs) zero = refl
    long f (x ∷ xs) (suc k) = ap suc (long f xs k)

any_default : (xs : List Entry) (k : ℕ) (d e : Entry) → k < length xs
    → get_or xs k d ≡ get_or xs k e
any_default [] k d e within = absurd (omega (arith, within))
any_default (x ∷ xs) zero d e within = refl
any_default (x ∷ xs) (suc k) d e within = any_default xs k d e (omega (arith, within))

pub flip_more : (f : Entry → Entry) (xs ys : List Entry) (k : ℕ) (d new : Entry)
    → ys ≡ map f (take k xs) ++ drop k xs → k < length xs → new ≡ f (get_or ys k d)
    → set ys k new ≡ map f (take (k + 1) xs) ++ drop (k + 1) xs
flip_more f xs ys k d new are within is =
    let long = flip_long f xs ys k are in
    ap (set ys k) is
    ∙ map_over_more f xs ys k (get_or ys k d) within are
    (any_default ys k d (get_or ys k d) (omega (arith, within, long)))
