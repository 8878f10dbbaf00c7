-- What a row has at a place that a walk along the columns has reached.
use Rattle.std.proofs.Common.{◌≡◌, ◌≢◌, ◌⊎◌, ℕ, zero, suc, ◌+◌, ◌<◌, ◌≤◌, true, false, List, [], ◌∷◌, length, get_or, pos, inl, inr, refl, sym, ap, ◌∙◌, arith}
use Rattle.std.proofs.lemmas.Bool.{cases_lt}
use Rattle.row_arena.specs.declared.entry.Entry.{Entry}
use Rattle.row_arena.specs.Rows.{IsRow, entry_at}
use Rattle.scaled_simplex.proofs.EntryLaws.{value_other, value_same}
use Rattle.row_arena.proofs.WholeLaws.{linear}
use Rattle.presolve.specs.Listing.{IsAt, IsWalked}

any_default : (xs : List Entry) (k : ℕ) (a b : Entry) → k < length xs
    → (get_or xs k a).column ≡ (get_or xs k b).column
any_default [] k a b within = absurd (omega (arith, within))
any_default (x ∷ xs) zero a b within = refl
any_default (x ∷ xs) (suc k) a b within = any_default xs k a b (omega (arith, within))

-- none in a column past which all entries are
none_there : (row : List Entry) (k : ℕ)
    → ((i : ℕ) (d : Entry) → i < length row → (get_or row i d).column ≢ k)
    → entry_at row k ≡ pos 0
none_there [] k other = refl
none_there (e ∷ row) k other =
    let one = value_other k e (other 0 e (omega arith)) in
    let more = none_there row k (λ i d below. other (suc i) d (omega (arith, below))) in
    omega (arith, linear, one, more)

one_there : (row : List Entry) (i k : ℕ) (d : Entry) → i < length row
    → (get_or row i d).column ≡ k
    → ((j : ℕ) (e : Entry) → j < length row → j ≢ i → (get_or row j e).column ≢ k)
    → entry_at row k ≡ (get_or row i d).value
one_there [] i k d within same other = absurd (omega (arith, within))
one_there (e ∷ row) zero k d within same other =
    let one = value_same k e same in
    let rest = none_there row k (λ j f below.
    other (suc j) f (omega (arith, below)) (λ equal. omega (arith, equal))) in
    omega (arith, linear, one, rest)
one_there (e ∷ row) (suc i) k d within same other =
    let one = value_other k e (other 0 e (omega arith) (λ equal. omega (arith, equal))) in
    let more = one_there row i k d (omega (arith, within)) same (λ j f below isnt.
    other (suc j) f (omega (arith, below)) (λ equal. isnt (omega (arith, equal)))) in
    omega (arith, linear, one, more)

-- where the walk is
here_value : (row : List Entry) (place column : ℕ) (d : Entry) → IsRow row
    → IsWalked column row place → place < length row → (get_or row place d).column ≡ column
    → (get_or row place d).value ≡ entry_at row column
here_value row place column d is walked inside same =
    sym (one_there row place column d inside same other)
  where
    other : (j : ℕ) (e : Entry) → j < length row → j ≢ place → (get_or row j e).column ≢ column
    other j e below isnt equal = by (cases_lt j place)
      where
        by : (j < place) ⊎ (place ≤ j) → ⊥
        by (inl less) =
            let before = walked.before j e less in omega (arith, before, equal)
        by (inr past) =
            let order = is.ascending place j e (omega (arith, past, isnt)) below in
            let at = walked.after place e (omega arith) inside in
            omega (arith, order, at, equal)

past_value : (row : List Entry) (place column : ℕ) → IsWalked column row place
    → length row ≤ place → pos 0 ≡ entry_at row column
past_value row place column walked past =
    sym (none_there row column (λ i d below equal.
    let before = walked.before i d (omega (arith, below, past)) in omega (arith, before, equal)))

later_value : (row : List Entry) (place column : ℕ) (d : Entry) → IsRow row
    → IsWalked column row place → place < length row → (get_or row place d).column ≢ column
    → pos 0 ≡ entry_at row column
later_value row place column d is walked inside other = sym (none_there row column none)
  where
    none : (i : ℕ) (e : Entry) → i < length row → (get_or row i e).column ≢ column
    none i e below equal = by (cases_lt i place) (cases_lt place i)
      where
        by : (i < place) ⊎ (place ≤ i) → (place < i) ⊎ (i ≤ place) → ⊥
        by (inl less) c =
            let before = walked.before i e less in omega (arith, before, equal)
        by (inr past) (inl more) =
            let order = is.ascending place i e more below in
            let at = walked.after place e (omega arith) inside in
            omega (arith, order, at, equal)
        by (inr past) (inr least) =
            let same : i ≡ place = omega (arith, past, least) in
            other (any_default row place d e inside ∙ ap (λ n. (get_or row n e).column) (sym same)
            ∙ equal)

-- and where it goes
pub walk_none : (row : List Entry) → IsWalked 0 row 0
walk_none row = record {
  within = omega arith;
  before = λ k d less. absurd (omega (arith, less));
  after = λ k d past below. omega arith;
}

goes_on : (row : List Entry) (place column : ℕ) (d : Entry) → IsRow row
    → IsWalked column row place → place < length row → (get_or row place d).column ≡ column
    → IsWalked (column + 1) row (place + 1)
goes_on row place column d is walked inside same = record {
  within = omega (arith, inside);
  before = λ k e less. by k e (cases_lt k place) less;
  after = λ k e past below.
      let order = is.ascending place k e (omega (arith, past)) below in
      let at = walked.after place e (omega arith) inside in
      omega (arith, order, at);
}
  where
    here : (xs : List Entry) (k : ℕ) (a b : Entry) → k < length xs
        → (get_or xs k a).column ≡ (get_or xs k b).column
    here [] k a b within = absurd (omega (arith, within))
    here (x ∷ xs) zero a b within = refl
    here (x ∷ xs) (suc k) a b within = here xs k a b (omega (arith, within))

    by : (k : ℕ) (e : Entry) → (k < place) ⊎ (place ≤ k) → k < place + 1
        → (get_or row k e).column < column + 1
    by k e (inl less) upto = let before = walked.before k e less in omega (arith, before)
    by k e (inr past) upto =
        let equal : k ≡ place = omega (arith, past, upto) in
        let one = ap (λ n. (get_or row n e).column) equal ∙ here row place e d inside ∙ same in
        omega (arith, one)

goes_past : (row : List Entry) (place column : ℕ) → IsWalked column row place
    → length row ≤ place → IsWalked (column + 1) row place
goes_past row place column walked past = record {
  within = walked.within;
  before = λ k d less. let before = walked.before k d less in omega (arith, before);
  after = λ k d from below. absurd (omega (arith, past, from, below));
}

goes_later : (row : List Entry) (place column : ℕ) (d : Entry) → IsRow row
    → IsWalked column row place → place < length row → (get_or row place d).column ≢ column
    → IsWalked (column + 1) row place
goes_later row place column d is walked inside other = record {
  within = walked.within;
  before = λ k e less. let before = walked.before k e less in omega (arith, before);
  after = λ k e past below. by k e (cases_lt place k) past below;
}
  where
    here : (xs : List Entry) (k : ℕ) (a b : Entry) → k < length xs
        → (get_or xs k a).column ≡ (get_or xs k b).column
    here [] k a b within = absurd (omega (arith, within))
    here (x ∷ xs) zero a b within = refl
    here (x ∷ xs) (suc k) a b within = here xs k a b (omega (arith, within))

    by : (k : ℕ) (e : Entry) → (place < k) ⊎ (k ≤ place) → place ≤ k → k < length row
        → column + 1 ≤ (get_or row k e).column
    by k e (inl more) past below =
        let order = is.ascending place k e more below in
        let at = walked.after place e (omega arith) inside in
        omega (arith, order, at)
    by k e (inr least) past below =
        let equal : k ≡ place = omega (arith, least, past) in
        let one = ap (λ n. (get_or row n e).column) equal ∙ here row place e d inside in
        let at = walked.after place d (omega arith) inside in
        omega (arith, one, at, other)

-- by whether the entry is the column's
pub value_here : (row : List Entry) (place column : ℕ) (d : Entry) → IsRow row
    → IsWalked column row place → IsAt column row place true
    → (get_or row place d).value ≡ entry_at row column
value_here row place column d is walked at =
    here_value row place column d is walked (at.within refl) (at.here refl d)

pub value_none : (row : List Entry) (place column : ℕ) → IsRow row → IsWalked column row place
    → IsAt column row place false → pos 0 ≡ entry_at row column
value_none row place column is walked at = by (cases_lt place (length row))
  where
    by : (place < length row) ⊎ (length row ≤ place) → pos 0 ≡ entry_at row column
    by (inl inside) =
        later_value row place column (record { column = 0; value = pos 0 }) is walked inside
        (at.other refl inside (record { column = 0; value = pos 0 }))
    by (inr past) = past_value row place column walked past

pub walks_on : (row : List Entry) (place column : ℕ) → IsRow row → IsWalked column row place
    → IsAt column row place true → IsWalked (column + 1) row (place + 1)
walks_on row place column is walked at =
    goes_on row place column (record { column = 0; value = pos 0 }) is walked (at.within refl)
    (at.here refl (record { column = 0; value = pos 0 }))

pub walks_none : (row : List Entry) (place column : ℕ) → IsRow row → IsWalked column row place
    → IsAt column row place false → IsWalked (column + 1) row place
walks_none row place column is walked at = by (cases_lt place (length row))
  where
    by : (place < length row) ⊎ (length row ≤ place) → IsWalked (column + 1) row place
    by (inl inside) =
        goes_later row place column (record { column = 0; value = pos 0 }) is walked inside
        (at.other refl inside (record { column = 0; value = pos 0 }))
    by (inr past) = goes_past row place column walked past
