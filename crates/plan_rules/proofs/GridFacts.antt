-- One count that changes, and counts that change one after another.
use Rattle.std.proofs.Common.{◌≡◌, ◌⊎◌, ℕ, ◌+◌, ◌*◌, ◌<◌, ◌≤◌, ◌==◌, ◌&&◌, nat_le, nat_lt, min, max, List, length, get_or, set, refl, sym, ap, ap₂, ◌∙◌, subst, inl, inr, arith}
use Rattle.std.proofs.lemmas.Bool.{cases_eq}
use Rattle.std.proofs.lemmas.Bool.Decides.{nat_tests}
use Rattle.std.proofs.lemmas.List.{get_or-set_same, get_or-set_other, get_or_read}
use Rattle.std.proofs.lemmas.Nat.{same_from_place}
use Rattle.flow_types.specs.Counts.{one_if}
use Rattle.plan_rules.specs.Grid.{Changes, Fits, changed, count_at}
use Rattle.plan_rules.specs.declared.grid.Change.{Change}
use Rattle.plan_rules.specs.declared.grid.Change.TheVariants as change
use Rattle.plan_rules.specs.Tally.{CountGrid}

changed-none : (change : Change) (count : ℕ) → changed change count 0 ≡ count
changed-none change.More count = omega arith
changed-none change.Less count = omega arith

changed-then : (change : Change) (count m n : ℕ)
    → changed change (changed change count m) n ≡ changed change count (m + n)
changed-then change.More count m n = omega arith
changed-then change.Less count m n = omega arith

fits-first : (change : Change) (count m n : ℕ) → Fits change count (m + n) → Fits change count m
fits-first change.More count m n fits = omega (arith, fits)
fits-first change.Less count m n fits = tt

fits-then : (change : Change) (count m n : ℕ) → Fits change count (m + n)
    → Fits change (changed change count m) n
fits-then change.More count m n fits = omega (arith, fits)
fits-then change.Less count m n fits = tt

one_changed_by : (change : Change) (xs : List ℕ) (w a b k t now : ℕ) → b < w → t < w
    → a * w + b < length xs
    → (Fits change (get_or xs (a * w + b) 0) 1 → now ≡ changed change (get_or xs (a * w + b) 0) 1)
    → Fits change (get_or xs (k * w + t) 0) (one_if ((a == k) && (b == t)))
    → (a * w + b ≡ k * w + t) ⊎ (a * w + b ≡ k * w + t → ⊥)
    → get_or (set xs (a * w + b) now) (k * w + t) 0
    ≡ changed change (get_or xs (k * w + t) 0) (one_if ((a == k) && (b == t)))
one_changed_by change xs w a b k t now b_in t_in within is fits (inl same) =
    let both = same_from_place a b k t w b_in t_in same in
    let one : one_if ((a == k) && (b == t)) ≡ 1 = grind (arith, nat_tests) in
    let there = ap (λ i. get_or xs i 0) same in
    let fits_one = subst (Fits change (get_or xs (k * w + t) 0)) one fits in
    ap (λ i. get_or (set xs (a * w + b) now) i 0) (sym same)
    ∙ get_or-set_same xs (a * w + b) now 0 within
    ∙ is (subst (λ count. Fits change count 1) (sym there) fits_one)
    ∙ ap₂ (changed change) there (sym one)
one_changed_by change xs w a b k t now b_in t_in within is fits (inr other) =
    let none : one_if ((a == k) && (b == t)) ≡ 0 = grind (arith, nat_tests, ap (λ n. n * w + t)) in
    get_or-set_other xs (a * w + b) (k * w + t) now 0 (λ e. other (sym e))
    ∙ sym (changed-none change (get_or xs (k * w + t) 0))
    ∙ ap (changed change (get_or xs (k * w + t) 0)) (sym none)

-- the count at place a and period b is changed by one
pub one_changed : (change : Change) (xs : List ℕ) (w a b k t old now : ℕ) → b < w → t < w
    → a * w + b < length xs → old ≡ get_or xs (a * w + b) old
    → (Fits change old 1 → now ≡ changed change old 1)
    → Fits change (get_or xs (k * w + t) 0) (one_if ((a == k) && (b == t)))
    → get_or (set xs (a * w + b) now) (k * w + t) 0
    ≡ changed change (get_or xs (k * w + t) 0) (one_if ((a == k) && (b == t)))
one_changed change xs w a b k t old now b_in t_in within is changes fits =
    let read : old ≡ get_or xs (a * w + b) 0 = get_or_read xs (a * w + b) old within is 0 in
    one_changed_by change xs w a b k t now b_in t_in within
    (subst (λ n. Fits change n 1 → now ≡ changed change n 1) read changes) fits
    (cases_eq (a * w + b) (k * w + t))

module _ (change : Change) where
  -- one change after the other
  pub changes_then : (m n : ℕ → ℕ → ℕ) (old mid new : CountGrid) → Changes change m old mid
      → Changes change n mid new → Changes change (λ k t. m k t + n k t) old new
  changes_then m n old mid new first second = record {
    places = second.places ∙ first.places;
    periods = second.periods ∙ first.periods;
    each = λ k t k_in t_in fits.
        let one : count_at mid k t ≡ changed change (count_at old k t) (m k t) =
        first.each k t k_in t_in (fits-first change (count_at old k t) (m k t) (n k t) fits) in
        let room = fits-then change (count_at old k t) (m k t) (n k t) fits in
        let two : count_at new k t ≡ changed change (count_at mid k t) (n k t) =
        second.each k t (omega (arith, first.places)) (omega (arith, first.periods))
        (subst (λ count. Fits change count (n k t)) (sym one) room) in
        two ∙ ap (λ count. changed change count (n k t)) one
        ∙ changed-then change (count_at old k t) (m k t) (n k t);
  }

  -- equal counts, said otherwise
  pub changes_same : (m n : ℕ → ℕ → ℕ) (old new : CountGrid)
      → ((k t : ℕ) → k < old.places → t < old.periods → m k t ≡ n k t) → Changes change m old new
      → Changes change n old new
  changes_same m n old new same changes = record {
    places = changes.places;
    periods = changes.periods;
    each = λ k t k_in t_in fits.
        let e = same k t k_in t_in in
        changes.each k t k_in t_in (subst (Fits change (count_at old k t)) (sym e) fits)
        ∙ ap (changed change (count_at old k t)) e;
  }

  -- nothing
  pub changes_none : (grid : CountGrid) → Changes change (λ k t. 0) grid grid
  changes_none grid = record {
    places = refl;
    periods = refl;
    each = λ k t k_in t_in fits. sym (changed-none change (count_at grid k t));
  }

-- the periods of a stay so far, and one more
pub stay_more : (a b k t now : ℕ) → b ≤ now
    → one_if ((a == k) && nat_le b t && nat_lt t now) + one_if ((a == k) && (now == t))
    ≡ one_if ((a == k) && nat_le b t && nat_lt t (now + 1))
stay_more a b k t now from = grind (arith, nat_tests)

-- no period before the first
pub stay_none : (a b k t : ℕ) → 0 ≡ one_if ((a == k) && nat_le b t && nat_lt t b)
stay_none a b k t = grind (arith, nat_tests)

-- all periods of a grid
pub stay_all : (a b k t now to w : ℕ) → t < w → min to w ≤ now → now ≤ max b (min to w)
    → one_if ((a == k) && nat_le b t && nat_lt t now)
    ≡ one_if ((a == k) && nat_le b t && nat_lt t to)
stay_all a b k t now to w t_in past upto = grind (arith, nat_tests)
