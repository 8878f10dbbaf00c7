-- The steps of a walk over two rows.
use Rattle.std.proofs.Common.{◌≡◌, ◌≢◌, ◌⊎◌, ℕ, zero, suc, ◌+◌, ◌<◌, ◌≤◌, List, [], ◌∷◌, ◌++◌, length, get_or, drop, take, ℤ, pos, ◌+ℤ◌, ◌-ℤ◌, ◌*ℤ◌, refl, sym, ap, ◌∙◌, subst, inl, inr, arith}
use Rattle.std.specs.List.{Contains}
use Rattle.std.proofs.lemmas.Bool.{cases_eq, cases_lt}
use Rattle.std.proofs.lemmas.Int.{ints}
use Rattle.std.proofs.lemmas.List.{append_assoc, drop_all, drop_more, take_more}
use Rattle.std.proofs.lemmas.List.Elements.{Contains-append_left, Contains-push}
use Rattle.std.proofs.Math.IntN.{*ℤ-zero}
use Rattle.exact_sums.proofs.SumFacts.{total-push}
use Rattle.row_arena.specs.declared.entry.Entry.{Entry}
use Rattle.row_arena.specs.declared.pair.Pair.{Pair}
use Rattle.row_arena.specs.declared.products.Factors.{Factors}
use Rattle.row_arena.specs.Rows.{IsRow, entry_at, unless_zero, value_in}
use Rattle.row_arena.specs.Combining.{difference}
use Rattle.row_arena.specs.Products.{AreFilledBy, IsBeside, IsPast, IsWalked, difference_in}
use Rattle.row_arena.proofs.RowFacts.{IsAfter, entry_there, first_is_least, plus_zero, row_drop, value_elsewhere}
use Rattle.row_arena.proofs.DifferenceFacts.{step_both, step_pivot, step_target}

-- what was written, and what is left
joined : (old new first rest whole : List Entry) → new ≡ old ++ first → whole ≡ first ++ rest
    → new ++ rest ≡ old ++ whole
joined old new first rest whole written left =
    ap (λ (l : List Entry). l ++ rest) written ∙ append_assoc old first rest
    ∙ ap (λ (l : List Entry). old ++ l) (sym left)

after_from : (c : ℕ) (e : Entry) (row : List Entry) → IsRow (e ∷ row) → c < e.column
    → IsAfter c (e ∷ row)
after_from c e row is below = record {
  each = λ i d within. at i d within;
}
  where
    at : (i : ℕ) (d : Entry) → i < length (e ∷ row) → c < (get_or (e ∷ row) i d).column
    at zero d within = below
    at (suc i) d within =
        let later = (first_is_least e row is).each i d (omega (arith, within)) in
        omega (arith, below)

row_from : (row : List Entry) (i : ℕ) (d : Entry) → IsRow row → i < length row
    → IsRow (get_or row i d ∷ drop (i + 1) row)
row_from row i d is within = subst IsRow (drop_more row i d within) (row_drop i row is)

-- a pair with these values was taken
module _ (old new : List Entry) (pair : Pair) (p a : ℤ)
    (taken : new ≡ old ++ difference_in p a pair) where
  taken_with : (c : ℕ) (x y z : ℤ) → pair.column ≡ c → pair.target ≡ x → pair.pivot ≡ y
      → (p *ℤ x) -ℤ (a *ℤ y) ≡ z
      → new ≡ old ++ unless_zero c z
  taken_with c x y z column target pivot value =
      taken
      ∙ ap (λ n. old
      ++ unless_zero n ((p *ℤ pair.target) -ℤ (a *ℤ pair.pivot))) column
      ∙ ap (λ v. old ++ unless_zero c ((p *ℤ v) -ℤ (a *ℤ pair.pivot))) target
      ∙ ap (λ v. old ++ unless_zero c ((p *ℤ x) -ℤ (a *ℤ v))) pivot
      ∙ ap (λ v. old ++ unless_zero c v) value

nothing_after : (c : ℕ) → IsAfter c []
nothing_after c = record { each = λ i d within. absurd (omega (arith, within)) }

-- what is of one of them alone
alone_target : (p a x : ℤ) → (p *ℤ x) -ℤ (a *ℤ pos 0) ≡ p *ℤ x
alone_target p a x = ap (λ v. (p *ℤ x) -ℤ v) (*ℤ-zero a) ∙ less_none (p *ℤ x)
  where
    less_none : (z : ℤ) → z -ℤ pos 0 ≡ z
    less_none z = omega (arith, ints)

alone_pivot : (p a y : ℤ) → (p *ℤ pos 0) -ℤ (a *ℤ y) ≡ pos 0 -ℤ (a *ℤ y)
alone_pivot p a y = ap (λ v. v -ℤ (a *ℤ y)) (*ℤ-zero p)

module _ (by : Factors) (t q : List Entry) (i j : ℕ) (d e : Entry) (left : IsRow t)
    (right : IsRow q) (old new : List Entry) (pair : Pair)
    (taken : new ≡ old ++ difference_in by.target by.pivot pair)
    (before : IsWalked by t q i j old) where
  abbrev p : ℤ
  p = by.target

  abbrev a : ℤ
  a = by.pivot

  -- what the target has before the pivot's next column
  pub walked_target : i < length t → j < length q
      → (get_or t i d).column < (get_or q j e).column → pair.column ≡ (get_or t i d).column
      → pair.target ≡ (get_or t i d).value → pair.pivot ≡ pos 0 → IsWalked by t q (i + 1) j new
  walked_target inside within below column target pivot =
      let x = get_or t i d in
      let after = subst (λ l. IsAfter x.column l) (sym (drop_more q j e within))
      (after_from x.column (get_or q j e) (drop (j + 1) q) (row_from q j e right within) below) in
      let left' = row_from t i d left inside in
      record {
        rows = joined old new
            (unless_zero x.column (p *ℤ x.value))
            (difference p a (drop (i + 1) t) (drop j q))
            (difference p a (drop i t) (drop j q))
            (taken_with old new pair p a taken x.column x.value (pos 0) (p *ℤ x.value) column
            target pivot (alone_target p a x.value))
            (ap (λ (l : List Entry). difference p a l (drop j q)) (drop_more t i d inside)
            ∙ step_target p a x (drop (i + 1) t) (drop j q) left' after)
            ∙ before.rows;
        within = omega (arith, inside);
      }

  -- what the target has behind all of the pivot
  pub walked_rest : i < length t → length q ≤ j → pair.column ≡ (get_or t i d).column
      → pair.target ≡ (get_or t i d).value → pair.pivot ≡ pos 0 → IsWalked by t q (i + 1) j new
  walked_rest inside past column target pivot =
      let x = get_or t i d in
      let none = drop_all j q past in
      record {
        rows = joined old new
            (unless_zero x.column (p *ℤ x.value))
            (difference p a (drop (i + 1) t) (drop j q))
            (difference p a (drop i t) (drop j q))
            (taken_with old new pair p a taken x.column x.value (pos 0) (p *ℤ x.value) column
            target pivot (alone_target p a x.value))
            (ap (λ (l : List Entry). difference p a l (drop j q)) (drop_more t i d inside)
            ∙ ap (difference p a (x ∷ drop (i + 1) t)) none
            ∙ step_target p a x (drop (i + 1) t) [] (row_from t i d left inside)
            (nothing_after x.column)
            ∙ ap (λ (l : List Entry). unless_zero x.column (p *ℤ x.value)
            ++ difference p a (drop (i + 1) t) l) (sym none))
            ∙ before.rows;
        within = omega (arith, inside);
      }

  -- what the pivot alone has
  alone_at : j < length q → IsAfter (get_or q j e).column (drop i t)
      → pair.column ≡ (get_or q j e).column → pair.target ≡ pos 0
      → pair.pivot ≡ (get_or q j e).value → IsWalked by t q i (j + 1) new
  alone_at within after column target pivot =
      let y = get_or q j e in
      record {
        rows = joined old new
            (unless_zero y.column (pos 0 -ℤ (a *ℤ y.value)))
            (difference p a (drop i t) (drop (j + 1) q))
            (difference p a (drop i t) (drop j q))
            (taken_with old new pair p a taken y.column (pos 0) y.value
            (pos 0 -ℤ (a *ℤ y.value)) column target pivot (alone_pivot p a y.value))
            (ap (λ (l : List Entry). difference p a (drop i t) l) (drop_more q j e within)
            ∙ step_pivot p a y (drop i t) (drop (j + 1) q) (row_from q j e right within) after)
            ∙ before.rows;
        within = before.within;
      }

  pub walked_pivot : j < length q → IsPast t q i j
      → (length t ≤ i) ⊎ ((get_or t i d).column ≡ (get_or q j e).column → ⊥)
      → pair.column ≡ (get_or q j e).column → pair.target ≡ pos 0
      → pair.pivot ≡ (get_or q j e).value → IsWalked by t q i (j + 1) new
  walked_pivot within past other = alone_at within (after (cases_lt i (length t)) other)
    where
      after : (i < length t) ⊎ (length t ≤ i)
          → (length t ≤ i) ⊎ ((get_or t i d).column ≡ (get_or q j e).column → ⊥)
          → IsAfter (get_or q j e).column (drop i t)
      after (inl inside) (inl outside) = absurd (omega (arith, inside, outside))
      after (inl inside) (inr apart) =
          let le = past.each d e inside in
          subst (λ l. IsAfter (get_or q j e).column l) (sym (drop_more t i d inside))
          (after_from (get_or q j e).column (get_or t i d) (drop (i + 1) t)
          (row_from t i d left inside) (omega (arith, le, apart)))
      after (inr outside) other =
          subst (λ l. IsAfter (get_or q j e).column l) (sym (drop_all i t outside))
          (nothing_after (get_or q j e).column)

  -- what both have in a column
  pub walked_both : i < length t → j < length q
      → (get_or t i d).column ≡ (get_or q j e).column → pair.column ≡ (get_or t i d).column
      → pair.target ≡ (get_or t i d).value → pair.pivot ≡ (get_or q j e).value
      → IsWalked by t q (i + 1) (j + 1) new
  walked_both inside within same column target pivot =
      let x = get_or t i d in
      let y = get_or q j e in
      record {
        rows = joined old new
            (unless_zero x.column ((p *ℤ x.value) -ℤ (a *ℤ y.value)))
            (difference p a (drop (i + 1) t) (drop (j + 1) q))
            (difference p a (drop i t) (drop j q))
            (taken_with old new pair p a taken x.column x.value y.value
            ((p *ℤ x.value) -ℤ (a *ℤ y.value)) column target pivot refl)
            (ap (λ (l : List Entry). difference p a l (drop j q)) (drop_more t i d inside)
            ∙ ap (λ (l : List Entry). difference p a (x ∷ drop (i + 1) t) l)
            (drop_more q j e within)
            ∙ step_both p a x y (drop (i + 1) t) (drop (j + 1) q)
            (row_from t i d left inside) (row_from q j e right within) same)
            ∙ before.rows;
        within = omega (arith, inside);
      }

-- all has come
pub walked_all : (by : Factors) (t q : List Entry) (i j : ℕ) (came : List Entry)
    → IsWalked by t q i j came → length t ≤ i → length q ≤ j
    → came ≡ difference by.target by.pivot t q
walked_all by t q i j came walked target pivot =
    sym (append_none came)
    ∙ sym (ap (λ (l : List Entry). came ++ difference by.target by.pivot l (drop j q))
    (drop_all i t target)
    ∙ ap (λ (l : List Entry). came ++ difference by.target by.pivot [] l) (drop_all j q pivot))
    ∙ walked.rows
  where
    append_none : (l : List Entry) → l ++ [] ≡ l
    append_none [] = refl
    append_none (x ∷ l) = ap (λ m. x ∷ m) (append_none l)

-- The columns that the pivot fills.
pub begun : (t q : List Entry) (filled : List ℕ) → AreFilledBy t q 0 filled
begun t q filled = record { each = λ column none some. absurd (some refl) }

module _ (t q : List Entry) (j : ℕ) (e : Entry) (filled : List ℕ) (within : j < length q) where
  entry_more : (k : ℕ)
      → entry_at (take (j + 1) q) k ≡ entry_at (take j q) k +ℤ value_in k (get_or q j e)
  entry_more k =
      ap (λ (l : List Entry). entry_at l k) (take_more q j e within)
      ∙ total-push (value_in k) (take j q) (get_or q j e)

  as_before : (k : ℕ) → ((get_or q j e).column ≡ k → ⊥)
      → entry_at (take (j + 1) q) k ≢ pos 0 → entry_at (take j q) k ≢ pos 0
  as_before k other some none =
      some (entry_more k
      ∙ ap (λ v. entry_at (take j q) k +ℤ v) (value_elsewhere k (get_or q j e) other)
      ∙ plus_zero (entry_at (take j q) k) ∙ none)

  pushed_by : AreFilledBy t q j filled → (k : ℕ)
      → ((get_or q j e).column ≡ k) ⊎ ((get_or q j e).column ≡ k → ⊥)
      → entry_at t k ≡ pos 0 → entry_at (take (j + 1) q) k ≢ pos 0
      → Contains (filled ++ (get_or q j e).column ∷ []) k
  pushed_by before k (inl same) none some =
      subst (λ c. Contains (filled ++ (get_or q j e).column ∷ []) c) same
      (Contains-push filled (get_or q j e).column)
  pushed_by before k (inr other) none some =
      Contains-append_left filled ((get_or q j e).column ∷ []) k
      (before.each k none (as_before k other some))

  pub filled_pushed : AreFilledBy t q j filled
      → AreFilledBy t q (j + 1) (filled ++ (get_or q j e).column ∷ [])
  filled_pushed before = record {
    each = λ k none some. pushed_by before k (cases_eq (get_or q j e).column k) none some;
  }

  -- a column that the target has too
  module _ (i : ℕ) (d : Entry) (inside : i < length t) (is : IsRow t) where
    kept_by : AreFilledBy t q j filled → (get_or t i d).column ≡ (get_or q j e).column → (k : ℕ)
        → ((get_or q j e).column ≡ k) ⊎ ((get_or q j e).column ≡ k → ⊥)
        → entry_at t k ≡ pos 0 → entry_at (take (j + 1) q) k ≢ pos 0 → Contains filled k
    kept_by before both k (inl same) none some =
        absurd (is.no_zeros i d inside
        (sym (entry_there t i d is inside) ∙ ap (entry_at t) (both ∙ same) ∙ none))
    kept_by before both k (inr other) none some = before.each k none (as_before k other some)

    pub filled_kept : AreFilledBy t q j filled → (get_or t i d).column ≤ (get_or q j e).column
        → (get_or q j e).column ≤ (get_or t i d).column → AreFilledBy t q (j + 1) filled
    filled_kept before low high = record {
      each = λ k none some.
          kept_by before (omega (arith, low, high)) k (cases_eq (get_or q j e).column k) none some;
    }

-- The columns that are filled by one more of the pivot's entries.
module _ (t q : List Entry) (i j next : ℕ) (filled : List ℕ) (left : IsRow t)
    (within : j < length q) (beside : IsBeside t q i j next) (before : AreFilledBy t q j filled)
  where
    e : Entry
    e = get_or q j (record { column = 0; value = pos 0 })

    pub filled_alone : (d : Entry) → AreFilledBy t q (j + 1) (filled ++ (get_or q j d).column ∷ [])
    filled_alone d = filled_pushed t q j d filled within before

    pub filled_beside : (next ≡ i → ⊥) → AreFilledBy t q (j + 1) filled
    filled_beside on =
        let d : Entry = record { column = 0; value = pos 0 } in
        let both = beside.both d d on in
        filled_kept t q j d filled within i d both.0 left before
        (omega (arith, both.1)) (omega (arith, both.1))
