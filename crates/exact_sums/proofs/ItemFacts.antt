-- An item of a list by its position, and what a filter keeps.
use Rattle.std.proofs.Common.{◌≡◌, ◌≢◌, ℕ, zero, suc, ◌<◌, Bool, true, false, cond, List, [], ◌∷◌, length, set, take, slice_get, get_or, slice_index_or, ◌+◌, ◌↔◌, Some, All, refl, sym, ap, ◌∙◌, subst, arith}
use Rattle.std.specs.List.{Contains, filter}
use Rattle.std.proofs.lemmas.List.{get_or-take, length-take-le}
use Rattle.std.proofs.lemmas.List.Elements.{All-more}
use Rattle.std.proofs.lemmas.Option.{get_or_from_slice_get, slice_get_within}

module _ {A : Type 0} where
  -- an item of a list in which each has P
  pub All-item : (P : A → Type 0) (xs : List A) (k : ℕ) (x : A) → All P xs → slice_get xs k ≡ Some x
      → P x
  All-item P xs k x all here =
      subst P (get_or_from_slice_get xs k x x here) (all k x (slice_get_within xs k x here))

  -- an item inside a list
  pub item_there : (xs : List A) (k : ℕ) → k < length xs → (x : A) × (slice_get xs k ≡ Some x)
  item_there [] k within = absurd (omega (arith, within))
  item_there (x ∷ xs) zero within = (x, refl)
  item_there (x ∷ xs) (suc k) within = item_there xs k (omega (arith, within))

  -- an item set, and another one
  pub slice_get-set_same : (xs : List A) (n : ℕ) (y : A) → n < length xs
      → slice_get (set xs n y) n ≡ Some y
  slice_get-set_same [] n y within = absurd (omega (arith, within))
  slice_get-set_same (x ∷ xs) zero y within = refl
  slice_get-set_same (x ∷ xs) (suc n) y within =
      slice_get-set_same xs n y (omega (arith, within))

  pub slice_get-set_other : (xs : List A) (n k : ℕ) (y : A) → k ≢ n
      → slice_get (set xs n y) k ≡ slice_get xs k
  slice_get-set_other [] n k y other = refl
  slice_get-set_other (x ∷ xs) zero zero y other = absurd (other refl)
  slice_get-set_other (x ∷ xs) zero (suc k) y other = refl
  slice_get-set_other (x ∷ xs) (suc n) zero y other = refl
  slice_get-set_other (x ∷ xs) (suc n) (suc k) y other =
      slice_get-set_other xs n k y (λ same. other (ap suc same))

  -- one of the first items
  pub slice_get-take : (n : ℕ) (xs : List A) (k : ℕ) → k < n
      → slice_get (take n xs) k ≡ slice_get xs k
  slice_get-take zero xs k below = absurd (omega arith)
  slice_get-take (suc n) [] k below = refl
  slice_get-take (suc n) (x ∷ xs) zero below = refl
  slice_get-take (suc n) (x ∷ xs) (suc k) below = slice_get-take n xs k (omega arith)

  -- of the first items and one more
  all_less : (P : A → Type 0) (xs : List A) (i : ℕ) → i < length xs → All P (take (i + 1) xs)
      → All P (take i xs)
  all_less P xs i within all k d below =
      let few = length-take-le i xs (omega (arith, within)) in
      let more = length-take-le (i + 1) xs (omega (arith, within)) in
      let less : k < i = omega (arith, few, below) in
      subst P (get_or-take (i + 1) xs k d (omega (arith, less)) ∙ sym (get_or-take i xs k d less))
      (all k d (omega (arith, less, more)))

  all_last : (P : A → Type 0) (xs : List A) (i : ℕ) (d : A) → i < length xs
      → All P (take (i + 1) xs) → P (get_or xs i d)
  all_last P xs i d within all =
      let more = length-take-le (i + 1) xs (omega (arith, within)) in
      subst P (get_or-take (i + 1) xs i d (omega arith)) (all i d (omega (arith, more)))

  -- a test that stands for all of the first items, and for one item more
  pub all_more : (P : A → Type 0) (xs : List A) (i : ℕ) (d : A) (Before Here Now : Type 0)
      → i < length xs → Before ↔ All P (take i xs) → Here ↔ P (get_or xs i d)
      → (Now → Before × Here) → (Before → Here → Now) → Now ↔ All P (take (i + 1) xs)
  all_more P xs i d Before Here Now within before here split join = (
    λ now. All-more P xs i d within (before.0 (split now).0) (here.0 (split now).1),
    λ all. join (before.1 (all_less P xs i within all)) (here.1 (all_last P xs i d within all)),
  )

-- What a filter keeps.
module _ {X : Type 0} where
  shifted : (y : X) (ys : List X) (x : X) → Contains ys x → Contains (y ∷ ys) x
  shifted y ys x has = (suc has.0, omega (arith, has.1), has.2)

  kept_by : (b : Bool) (y : X) (zs : List X) (x : X) → Contains zs x
      → Contains (cond b (y ∷ zs) zs) x
  kept_by true y zs x has = shifted y zs x has
  kept_by false y zs x has = has

  kept_at : (test : X → Bool) (xs : List X) (x : X) (k : ℕ) → test x ≡ true → k < length xs
      → slice_index_or xs k x ≡ x → Contains (filter test xs) x
  kept_at test [] x k passes inside is = absurd (omega arith)
  kept_at test (y ∷ ys) x zero passes inside is =
      let e : test y ≡ true = ap test is ∙ passes in
      let keeps : filter test (y ∷ ys) ≡ y ∷ filter test ys = rw e refl in
      subst (λ (zs : List X). Contains zs x) (sym keeps) (0, omega arith, is)
  kept_at test (y ∷ ys) x (suc k) passes inside is =
      kept_by (test y) y (filter test ys) x (kept_at test ys x k passes (omega arith) is)

  -- each item that passes the test
  pub filter-has : (test : X → Bool) (xs : List X) (x : X) → test x ≡ true → Contains xs x
      → Contains (filter test xs) x
  filter-has test xs x passes has = kept_at test xs x has.0 passes has.1 has.2

  first_or : (y : X) (zs ys : List X) (x : X) → (Contains zs x → Contains ys x) → (k : ℕ)
      → k < length (y ∷ zs) → slice_index_or (y ∷ zs) k x ≡ x → Contains (y ∷ ys) x
  first_or y zs ys x more zero inside is = (0, omega arith, is)
  first_or y zs ys x more (suc k) inside is = shifted y ys x (more (k, omega arith, is))

  of_by : (b : Bool) (y : X) (zs ys : List X) (x : X) → (Contains zs x → Contains ys x)
      → Contains (cond b (y ∷ zs) zs) x → Contains (y ∷ ys) x
  of_by true y zs ys x more has = first_or y zs ys x more has.0 has.1 has.2
  of_by false y zs ys x more has = shifted y ys x (more has)

  -- and none that the list hasn't
  pub filter-of : (test : X → Bool) (xs : List X) (x : X) → Contains (filter test xs) x
      → Contains xs x
  filter-of test [] x has = has
  filter-of test (y ∷ ys) x has =
      of_by (test y) y (filter test ys) ys x (filter-of test ys x) has
