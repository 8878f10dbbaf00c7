-- The row that has such values, and the difference of two rows, entry by entry.
use Rattle.std.proofs.Common.{◌≡◌, ℕ, zero, suc, ◌+◌, ◌<◌, ◌≤◌, max, List, [], ◌∷◌, ◌++◌, ℤ, pos, ◌-ℤ◌, ◌*ℤ◌, refl, sym, ap, ◌∙◌, subst, inl, inr, ◌⊎◌, arith}
use Rattle.std.proofs.lemmas.Int.{ints}
use Rattle.std.proofs.lemmas.Bool.{cases_eq}
use Rattle.std.proofs.Math.IntN.{*ℤ-zero}
use Rattle.row_arena.specs.declared.entry.Entry.{Entry}
use Rattle.row_arena.specs.Rows.{IsRow, entry_at, reach, row_from, unless_zero}
use Rattle.row_arena.specs.Combining.{difference, difference_at}
use Rattle.row_arena.proofs.RowFacts.{IsAfter, after_less, entry_first, entry_later, entry_none, entry_past, first_is_least}

pub unless_none : (c : ℕ) (v : ℤ) → v ≡ pos 0 → unless_zero c v ≡ []
unless_none c v none = ap (unless_zero c) none

module _ (f : ℕ → ℤ) where
  front_none : (from n : ℕ) → f from ≡ pos 0 → row_from f from (suc n) ≡ row_from f (from + 1) n
  front_none from n none =
      ap (λ (l : List Entry). l ++ row_from f (from + 1) n) (unless_none from (f from) none)

  pub row_from_none : (from n : ℕ) → ((k : ℕ) → from ≤ k → f k ≡ pos 0) → row_from f from n ≡ []
  row_from_none from zero none = refl
  row_from_none from (suc n) none =
      front_none from n (none from (omega arith))
      ∙ row_from_none (from + 1) n (λ k le. none k (omega arith))

  pub row_from_less : (from m n : ℕ) → m ≤ n → ((k : ℕ) → from + m ≤ k → f k ≡ pos 0)
      → row_from f from n ≡ row_from f from m
  row_from_less from zero n le none = row_from_none from n (λ k h. none k (omega arith))
  row_from_less from (suc m) zero le none = absurd (omega arith)
  row_from_less from (suc m) (suc n) le none =
      ap (λ (l : List Entry). unless_zero from (f from) ++ l)
      (row_from_less (from + 1) m n (omega arith) (λ k h. none k (omega arith)))

module _ (f g : ℕ → ℤ) where
  pub row_from_same : (from n : ℕ) → ((k : ℕ) → from ≤ k → f k ≡ g k)
      → row_from f from n ≡ row_from g from n
  row_from_same from zero same = refl
  row_from_same from (suc n) same =
      ap (λ v. unless_zero from v ++ row_from f (from + 1) n) (same from (omega arith))
      ∙ ap (λ (l : List Entry). unless_zero from (g from) ++ l)
      (row_from_same (from + 1) n (λ k le. same k (omega arith)))

  -- a first entry, and what is after it
  module _ (c : ℕ) (v : ℤ) (low : (k : ℕ) → k < c → f k ≡ pos 0)
      (none : (k : ℕ) → k ≤ c → g k ≡ pos 0) (here : f c ≡ v)
      (same : (k : ℕ) → c < k → f k ≡ g k) where
    peel_by : (from n : ℕ) → (from ≡ c) ⊎ (from ≡ c → ⊥) → from ≤ c → c < from + suc n
        → (from + 1 ≤ c → row_from f (from + 1) n ≡ unless_zero c v ++ row_from g (from + 1) n)
        → row_from f from (suc n) ≡ unless_zero c v ++ row_from g from (suc n)
    peel_by from n (inl at) le lt rest =
        let first : unless_zero from (f from) ≡ unless_zero c v =
        ap (λ k. unless_zero k (f k)) at ∙ ap (unless_zero c) here in
        let later = row_from_same (from + 1) n (λ k h. same k (omega arith)) in
        ap (λ (l : List Entry). l ++ row_from f (from + 1) n) first
        ∙ ap (λ (l : List Entry). unless_zero c v ++ l) later
        ∙ ap (λ (l : List Entry). unless_zero c v ++ l) (sym (front_none g from n (none from le)))
    peel_by from n (inr other) le lt rest =
        front_none f from n (low from (omega arith)) ∙ rest (omega arith)
        ∙ ap (λ (l : List Entry). unless_zero c v ++ l) (sym (front_none g from n (none from le)))

    pub peel : (from n : ℕ) → from ≤ c → c < from + n
        → row_from f from n ≡ unless_zero c v ++ row_from g from n
    peel from zero le lt = absurd (omega arith)
    peel from (suc n) le lt =
        peel_by from n (cases_eq from c) le lt (λ h. peel (from + 1) n h (omega arith))

-- a row without what it has in a column and before it, if there is nothing before
pub record IsCut (c : ℕ) (row rest : List Entry) : Type 0 where
  pub low : (k : ℕ) → k < c → entry_at row k ≡ pos 0
  pub none : (k : ℕ) → k ≤ c → entry_at rest k ≡ pos 0
  pub same : (k : ℕ) → c < k → entry_at row k ≡ entry_at rest k
  pub short : reach rest ≤ reach row

pub cut_first : (e : Entry) (row : List Entry) → IsAfter e.column row
    → IsCut e.column (e ∷ row) row
cut_first e row after = record {
  low = λ k below. entry_later k e row (λ same. omega arith)
      ∙ entry_none k row (after_less k e.column row (omega arith) after);
  none = λ k le. entry_none k row (after_less k e.column row le after);
  same = λ k above. entry_later k e row (λ same. omega arith);
  short = omega arith;
}

pub cut_later : (c : ℕ) (row : List Entry) → IsAfter c row → IsCut c row row
cut_later c row after = record {
  low = λ k below. entry_none k row (after_less k c row (omega arith) after);
  none = λ k le. entry_none k row (after_less k c row le after);
  same = λ k above. refl;
  short = omega arith;
}

module _ (p a : ℤ) where
  at_values : (x y : ℤ) (t q : List Entry) (k : ℕ) → entry_at t k ≡ x → entry_at q k ≡ y
      → difference_at p a t q k ≡ (p *ℤ x) -ℤ (a *ℤ y)
  at_values x y t q k left right =
      ap (λ v. (p *ℤ v) -ℤ (a *ℤ entry_at q k)) left ∙ ap (λ v. (p *ℤ x) -ℤ (a *ℤ v)) right

  pub no_difference : (t q : List Entry) (k : ℕ) → entry_at t k ≡ pos 0 → entry_at q k ≡ pos 0
      → difference_at p a t q k ≡ pos 0
  no_difference t q k left right =
      at_values (pos 0) (pos 0) t q k left right
      ∙ omega (arith, ints, *ℤ-zero p, *ℤ-zero a)

  difference_wide : (t q : List Entry) (n : ℕ) → reach t ≤ n → reach q ≤ n
      → difference p a t q ≡ row_from (difference_at p a t q) 0 n
  difference_wide t q n left right =
      sym (row_from_less (difference_at p a t q) 0 (max (reach t) (reach q)) n (omega arith)
      (λ k past. no_difference t q k (entry_past k t (omega arith)) (entry_past k q (omega arith))))

  step : (c : ℕ) (v : ℤ) (t t' q q' : List Entry) → IsCut c t t' → IsCut c q q'
      → c < max (reach t) (reach q) → difference_at p a t q c ≡ v
      → difference p a t q ≡ unless_zero c v ++ difference p a t' q'
  step c v t t' q q' left right within here =
      let n = max (reach t) (reach q) in
      let l = left.short in
      let r = right.short in
      peel (difference_at p a t q) (difference_at p a t' q') c v
      (λ k below. no_difference t q k (left.low k below) (right.low k below))
      (λ k le. no_difference t' q' k (left.none k le) (right.none k le))
      here
      (λ k above. at_values (entry_at t' k) (entry_at q' k) t q k (left.same k above)
      (right.same k above))
      0 n (omega arith) (omega (arith, within))
      ∙ ap (λ (l : List Entry). unless_zero c v ++ l)
      (sym (difference_wide t' q' n (omega arith) (omega arith)))

  pub step_target : (x : Entry) (t q : List Entry) → IsRow (x ∷ t) → IsAfter x.column q
      → difference p a (x ∷ t) q ≡ unless_zero x.column (p *ℤ x.value) ++ difference p a t q
  step_target x t q row after =
      let first = first_is_least x t row in
      step x.column (p *ℤ x.value) (x ∷ t) t q q (cut_first x t first) (cut_later x.column q after)
      (omega arith)
      (at_values x.value (pos 0) (x ∷ t) q x.column (entry_first x.column x t refl first)
      (entry_none x.column q after) ∙ omega (arith, ints, *ℤ-zero a))

  pub step_pivot : (y : Entry) (t q : List Entry) → IsRow (y ∷ q) → IsAfter y.column t
      → difference p a t (y ∷ q)
      ≡ unless_zero y.column (pos 0 -ℤ (a *ℤ y.value)) ++ difference p a t q
  step_pivot y t q row after =
      let first = first_is_least y q row in
      step y.column (pos 0 -ℤ (a *ℤ y.value)) t t (y ∷ q) q (cut_later y.column t after)
      (cut_first y q first) (omega arith)
      (at_values (pos 0) y.value t (y ∷ q) y.column (entry_none y.column t after)
      (entry_first y.column y q refl first) ∙ omega (arith, ints, *ℤ-zero p))

  pub step_both : (x y : Entry) (t q : List Entry) → IsRow (x ∷ t) → IsRow (y ∷ q)
      → x.column ≡ y.column
      → difference p a (x ∷ t) (y ∷ q)
      ≡ unless_zero x.column ((p *ℤ x.value) -ℤ (a *ℤ y.value)) ++ difference p a t q
  step_both x y t q left right same =
      let first = first_is_least x t left in
      let second = first_is_least y q right in
      let after = subst (λ c. IsAfter c q) (sym same) second in
      step x.column ((p *ℤ x.value) -ℤ (a *ℤ y.value)) (x ∷ t) t (y ∷ q) q (cut_first x t first)
      (subst (λ c. IsCut c (y ∷ q) q) (sym same) (cut_first y q second)) (omega arith)
      (at_values x.value y.value (x ∷ t) (y ∷ q) x.column (entry_first x.column x t refl first)
      (entry_first x.column y q (sym same) after))

  pub difference_apart : (t q : List Entry) → (t ≡ []) ⊎ (q ≡ [])
      → difference p a t q ≡ difference p a t [] ++ difference p a [] q
  difference_apart t q (inl none) =
      subst (λ (l : List Entry). difference p a l q ≡ difference p a l [] ++ difference p a [] q)
      (sym none) refl
  difference_apart t q (inr none) =
      subst (λ (l : List Entry). difference p a t l ≡ difference p a t [] ++ difference p a [] l)
      (sym none) (sym (append_nil (difference p a t [])))
    where
      append_nil : (l : List Entry) → l ++ [] ≡ l
      append_nil [] = refl
      append_nil (x ∷ l) = ap (λ m. x ∷ m) (append_nil l)
