-- What the difference of two rows is: a row but for numbers that may be too far from 0, with the
-- difference of what both have in each column.
use Rattle.std.proofs.Common.{◌≡◌, ◌≢◌, ◌⊎◌, ℕ, zero, suc, ◌+◌, ◌<◌, ◌≤◌, max, List, [], ◌∷◌, ◌++◌, All, AllPairs, ℤ, pos, negsuc, nat_abs, refl, sym, ap, ◌∙◌, subst, inl, inr, arith, false, true}
use Rattle.std.specs.Ordering.{int_eq}
use Rattle.std.proofs.lemmas.Bool.{cases_Bool, cases_eq, cases_lt, cond-false}
use Rattle.std.proofs.lemmas.Bool.Decides.{Decides-int_eq}
use Rattle.std.proofs.lemmas.List.Elements.{All-cons, All-nil}
use Rattle.std.proofs.lemmas.List.Kept.{AllPairs-cons}
use Rattle.row_arena.specs.declared.entry.Entry.{Entry}
use Rattle.row_arena.specs.Rows.{IsRow, entry_at, most_entry, reach, row_from, unless_zero}
use Rattle.row_arena.specs.Combining.{difference, difference_at}
use Rattle.row_arena.proofs.RowFacts.{IsAfter, entry_first, entry_later, entry_none, entry_past, first_is_least, row_tail}
use Rattle.row_arena.proofs.DifferenceFacts.{no_difference, unless_none}

-- an entry, where there is one
pub unless_some : (c : ℕ) (v : ℤ) → v ≢ pos 0
    → unless_zero c v ≡ record { column = c; value = v } ∷ []
unless_some c v some = cond-false (int_eq v (pos 0)) [] (record { column = c; value = v } ∷ [])
    (at (cases_Bool (int_eq v (pos 0))))
  where
    at : (int_eq v (pos 0) ≡ true) ⊎ (int_eq v (pos 0) ≡ false)
        → int_eq v (pos 0) ≡ false
    at (inl yes') = absurd (some ((Decides-int_eq v (pos 0)).0 yes'))
    at (inr no') = no'

pub none_or_some : (v : ℤ) → (v ≡ pos 0) ⊎ (v ≢ pos 0)
none_or_some (pos zero) = inl refl
none_or_some (pos (suc n)) = inr (λ h. cc)
none_or_some (negsuc n) = inr (λ h. cc)

module _ (f : ℕ → ℤ) where
  -- each entry of the row with such values
  module _ (P : Entry → Type 0) where
    each_by : (from n : ℕ) → (f from ≡ pos 0) ⊎ (f from ≢ pos 0)
        → (f from ≢ pos 0 → P (record { column = from; value = f from }))
        → All P (row_from f (from + 1) n) → All P (row_from f from (suc n))
    each_by from n (inl none) here rest =
        subst (λ (l : List Entry). All P (l ++ row_from f (from + 1) n))
        (sym (unless_none from (f from) none)) rest
    each_by from n (inr some) here rest =
        subst (λ (l : List Entry). All P (l ++ row_from f (from + 1) n))
        (sym (unless_some from (f from) some))
        (All-cons P (record { column = from; value = f from }) (row_from f (from + 1) n) (here some)
        rest)

    pub row_from_each : (from n : ℕ)
        → ((k : ℕ) → from ≤ k → f k ≢ pos 0 → P (record { column = k; value = f k }))
        → All P (row_from f from n)
    row_from_each from zero each = All-nil P
    row_from_each from (suc n) each =
        each_by from n (none_or_some (f from)) (each from (omega arith))
        (row_from_each (from + 1) n (λ k le. each k (omega arith)))

  abbrev Ascends : List Entry → Type 0
  Ascends row = AllPairs (λ a b. a.column < b.column) row

  ascending_by : (from n : ℕ) → (f from ≡ pos 0) ⊎ (f from ≢ pos 0)
      → Ascends (row_from f (from + 1) n) → Ascends (row_from f from (suc n))
  ascending_by from n (inl none) rest =
      subst (λ (l : List Entry). Ascends (l ++ row_from f (from + 1) n))
      (sym (unless_none from (f from) none)) rest
  ascending_by from n (inr some) rest =
      subst (λ (l : List Entry). Ascends (l ++ row_from f (from + 1) n))
      (sym (unless_some from (f from) some))
      (AllPairs-cons (λ (a b : Entry). a.column < b.column)
      (record { column = from; value = f from }) (row_from f (from + 1) n)
      (row_from_each (λ (b : Entry). from < b.column) (from + 1) n (λ k le h. omega arith)) rest)

  pub row_from_ascending : (from n : ℕ) → AllPairs (λ a b. a.column < b.column) (row_from f from n)
  row_from_ascending from zero = λ i j d below within. absurd (omega (arith, within))
  row_from_ascending from (suc n) =
      ascending_by from n (none_or_some (f from)) (row_from_ascending (from + 1) n)

  -- what the row has in each column
  before_by : (from n k : ℕ) → k < from → entry_at (row_from f from n) k ≡ pos 0
  before_by from n k below = entry_none k (row_from f from n) (record {
    each = row_from_each (λ (b : Entry). k < b.column) from n (λ c le h. omega arith);
  })

  entry_by : (from n k : ℕ) → (f from ≡ pos 0) ⊎ (f from ≢ pos 0) → (from ≡ k) ⊎ (from ≡ k → ⊥)
      → from ≤ k → (from + 1 ≤ k → entry_at (row_from f (from + 1) n) k ≡ f k)
      → entry_at (row_from f from (suc n)) k ≡ f k
  entry_by from n k (inl none) (inl same) le rest =
      ap (λ (l : List Entry). entry_at (l ++ row_from f (from + 1) n) k)
      (unless_none from (f from) none)
      ∙ before_by (from + 1) n k (omega arith) ∙ sym none ∙ ap f same
  entry_by from n k (inl none) (inr other) le rest =
      ap (λ (l : List Entry). entry_at (l ++ row_from f (from + 1) n) k)
      (unless_none from (f from) none) ∙ rest (omega arith)
  entry_by from n k (inr some) (inl same) le rest =
      ap (λ (l : List Entry). entry_at (l ++ row_from f (from + 1) n) k)
      (unless_some from (f from) some)
      ∙ entry_first k (record { column = from; value = f from }) (row_from f (from + 1) n) same
      (record {
        each = row_from_each (λ (b : Entry). k < b.column) (from + 1) n (λ c h v. omega arith);
      })
      ∙ ap f same
  entry_by from n k (inr some) (inr other) le rest =
      ap (λ (l : List Entry). entry_at (l ++ row_from f (from + 1) n) k)
      (unless_some from (f from) some)
      ∙ entry_later k (record { column = from; value = f from }) (row_from f (from + 1) n) other
      ∙ rest (omega arith)

  pub entry_of_row_from : (from n k : ℕ) → from ≤ k → k < from + n
      → entry_at (row_from f from n) k ≡ f k
  entry_of_row_from from zero k le below = absurd (omega arith)
  entry_of_row_from from (suc n) k le below =
      entry_by from n k (none_or_some (f from)) (cases_eq from k) le
      (λ less. entry_of_row_from (from + 1) n k less (omega arith))

  -- and past it
  pub entry_past_row_from : (from n k : ℕ) → from + n ≤ k
      → entry_at (row_from f from n) k ≡ pos 0
  entry_past_row_from from zero k past = refl
  entry_past_row_from from (suc n) k past =
      past_by (none_or_some (f from)) (entry_past_row_from (from + 1) n k (omega arith))
    where
      past_by : (f from ≡ pos 0) ⊎ (f from ≢ pos 0)
          → entry_at (row_from f (from + 1) n) k ≡ pos 0
          → entry_at (row_from f from (suc n)) k ≡ pos 0
      past_by (inl none) rest =
          ap (λ (l : List Entry). entry_at (l ++ row_from f (from + 1) n) k)
          (unless_none from (f from) none) ∙ rest
      past_by (inr some) rest =
          ap (λ (l : List Entry). entry_at (l ++ row_from f (from + 1) n) k)
          (unless_some from (f from) some)
          ∙ entry_later k (record { column = from; value = f from }) (row_from f (from + 1) n)
          (λ same. omega arith) ∙ rest

-- a row's value in a column is near
pub entry_near : (row : List Entry) (k : ℕ) → IsRow row → nat_abs (entry_at row k) ≤ most_entry
entry_near [] k is = omega arith
entry_near (e ∷ row) k is =
    near_by (cases_eq e.column k) (entry_near row k (row_tail e row is))
  where
    near_by : (e.column ≡ k) ⊎ (e.column ≡ k → ⊥) → nat_abs (entry_at row k) ≤ most_entry
        → nat_abs (entry_at (e ∷ row) k) ≤ most_entry
    near_by (inl same) rest =
        subst (λ v. nat_abs v ≤ most_entry)
        (sym (entry_first k e row same (subst (λ c. IsAfter c row) same (first_is_least e row is))))
        (is.near 0 e (omega arith))
    near_by (inr other) rest =
        subst (λ v. nat_abs v ≤ most_entry) (sym (entry_later k e row other))
        rest

module _ (p a : ℤ) (t q : List Entry) where
  -- in each column p times what the one has, less a times what the other has
  pub entry_at_difference : (k : ℕ) → entry_at (difference p a t q) k ≡ difference_at p a t q k
  entry_at_difference k = at (cases_lt k (max (reach t) (reach q)))
    where
      at : (k < max (reach t) (reach q)) ⊎ (max (reach t) (reach q) ≤ k)
          → entry_at (difference p a t q) k ≡ difference_at p a t q k
      at (inl below) =
          entry_of_row_from (difference_at p a t q) 0 (max (reach t) (reach q)) k (omega arith)
          (omega (arith, below))
      at (inr past) =
          entry_past_row_from (difference_at p a t q) 0 (max (reach t) (reach q)) k
          (omega (arith, past))
          ∙ sym (no_difference p a t q k (entry_past k t (omega (arith, past)))
          (entry_past k q (omega (arith, past))))

  pub difference_ascending : AllPairs (λ a b. a.column < b.column) (difference p a t q)
  difference_ascending =
      row_from_ascending (difference_at p a t q) 0 (max (reach t) (reach q))

  pub difference_no_zeros : All (λ (e : Entry). e.value ≢ pos 0) (difference p a t q)
  difference_no_zeros =
      row_from_each (difference_at p a t q) (λ (e : Entry). e.value ≢ pos 0) 0
      (max (reach t) (reach q)) (λ k le some. some)
