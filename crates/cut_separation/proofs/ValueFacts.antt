-- The values of variables by their positions, and what terms come to.
use Rattle.std.proofs.Common.{◌≡◌, ℕ, zero, suc, ◌+◌, ◌*◌, ◌^◌, ◌<◌, ◌≤◌, ◌==◌, Bool, true, false, ◌&&◌, List, [], ◌∷◌, length, get_or, set, take, drop, replicate, slice_set, All, if◌then◌else◌, ℤ, pos, ◌+ℤ◌, ◌*ℤ◌, unsigned_abs, refl, sym, ◌∙◌, ap, ap₂, subst, arith}
use Rattle.std.proofs.lemmas.Bool.{and_from, and_parts, eq-eqb, eqb-true}
use Rattle.std.proofs.lemmas.Int.{ints}
use Rattle.std.proofs.lemmas.List.{at_drop_all, get_or-set_other, get_or-set_same, length-replicate, take_more}
use Rattle.std.proofs.lemmas.List.Elements.{All-replicate, All-set}
use Rattle.std.proofs.Math.ListN.{length-set}
use Rattle.std.proofs.Math.Seq.{drop-cons}
use Rattle.exact_sums.proofs.SumFacts.{total-append}
use Rattle.flow_types.specs.declared.parts.Parts.{Parts}
use Rattle.time_windows.specs.Boxes.{Box}
use Rattle.bytime_model.specs.declared.left.Left.{Left}
use Rattle.bytime_model.specs.declared.left.Left.TheVariants.{Free, One, Same, Zero}
use Rattle.bytime_model.specs.declared.variables.Term.{Term}
use Rattle.bytime_model.specs.declared.variables.Var.{Var}
use Rattle.bytime_model.specs.declared.variables.Var.TheVariants.{By, Inside}
use Rattle.bytime_model.specs.Columns.{IsNumbered, IsThere, IsWhole, Numbering, position_of, variable_at}
use Rattle.bytime_model.specs.Landing.{landing_by}
use Rattle.bytime_model.specs.Left.{left_of}
use Rattle.cut_separation.specs.declared.point.FreePoint.{FreePoint}
use Rattle.cut_separation.specs.Exceeding.{form_at}
use Rattle.cut_separation.specs.Points.{AreByPosition, AreSetTo, IsFraction, IsFree, IsPointOf, fraction_by, fraction_in, is_same, numerator_in, read_at, value_by}

-- a sum over the first so many terms, and how far it is from 0
pub record IsSummed (value : Var → ℤ) (terms : List Term) (i : ℕ) (sum : ℤ) : Type 0 where
  pub is : sum ≡ form_at value (take i terms)
  pub near : unsigned_abs sum ≤ i * 2 ^ 62

pub none_summed : (value : Var → ℤ) (terms : List Term) → IsSummed value terms 0 (pos 0)
none_summed value terms = record { is = refl; near = omega arith }

pub more_summed : (value : Var → ℤ) (terms : List Term) (i : ℕ) (d : Term) (old share new : ℤ)
    → i < length terms → IsSummed value terms i old
    → share ≡ (get_or terms i d).factor *ℤ value (get_or terms i d).variable
    → unsigned_abs share < 2 ^ 62 → new ≡ old +ℤ share → IsSummed value terms (i + 1) new
more_summed value terms i d old share new within before is small added = record {
  is = added ∙ ap₂ (λ a b. a +ℤ b) before.is is
      ∙ sym (ap (form_at value) (take_more terms i d within)
      ∙ total-append (λ (term : Term). term.factor *ℤ value term.variable) (take i terms)
      (get_or terms i d ∷ []) ∙ one_total);
  near = let near = before.near in omega (arith, ints, near, small, added);
}
  where
    one_total : form_at value (take i terms) +ℤ form_at value (get_or terms i d ∷ [])
        ≡ form_at value (take i terms)
        +ℤ ((get_or terms i d).factor *ℤ value (get_or terms i d).variable)
    one_total = omega (arith, ints)

-- what stands where there is no term
abbrev pub some_term : Term
some_term = record { variable = By 0 0 0; factor = pos 0 }

-- one and the same variable
same_refl : (v : Var) → is_same v v ≡ true
same_refl (By f n t) = and_from (f == f) ((n == n) && (t == t)) (eq-eqb f f refl)
    (and_from (n == n) (t == t) (eq-eqb n n refl) (eq-eqb t t refl))
same_refl (Inside f n t) = and_from (f == f) ((n == n) && (t == t)) (eq-eqb f f refl)
    (and_from (n == n) (t == t) (eq-eqb n n refl) (eq-eqb t t refl))

record AreSame (f g n m t u : ℕ) : Type 0 where
  flight : f ≡ g
  node : n ≡ m
  time : t ≡ u

numbers_same : (f g n m t u : ℕ) → ((f == g) && ((n == m) && (t == u))) ≡ true
    → AreSame f g n m t u
numbers_same f g n m t u is =
    let both = and_parts (f == g) ((n == m) && (t == u)) is in
    let last = and_parts (n == m) (t == u) both.1 in
    record {
      flight = eqb-true f g both.0;
      node = eqb-true n m last.0;
      time = eqb-true t u last.1;
    }

same_is : (v w : Var) → is_same v w ≡ true → v ≡ w
same_is (By f n t) (By g m u) is =
    let same = numbers_same f g n m t u is in
    let a = same.flight in
    let b = same.node in
    let c = same.time in cc
same_is (By f n t) (Inside g m u) is = absurd cc
same_is (Inside f n t) (By g m u) is = absurd cc
same_is (Inside f n t) (Inside g m u) is =
    let same = numbers_same f g n m t u is in
    let a = same.flight in
    let b = same.node in
    let c = same.time in cc

module _ (parts : Parts) (numbering : Numbering) (box : Box) (point : FreePoint)
    (numbered : IsNumbered parts numbering box) (is : IsPointOf parts box point) where
  abbrev position : Var → ℕ
  position = position_of numbering.columns

  one_position : (v w : Var) → IsFree parts box v → IsFree parts box w
      → position v ≡ position w → v ≡ w
  one_position v w a b same =
      sym (numbered.own v a.there a.free)
      ∙ ap (variable_at 0 numbering.columns) same ∙ numbered.own w b.there b.free

  pub none_set : (zeros : List ℤ) → zeros ≡ replicate numbering.count (pos 0)
      → AreSetTo parts numbering box point 0 zeros
  none_set zeros are = record {
    long = ap length are ∙ length-replicate numbering.count (pos 0);
    each = subst (All (IsFraction point.denominator)) (sym are)
        (All-replicate (IsFraction point.denominator) numbering.count (pos 0)
        (let positive = is.positive in record {
          low = omega (arith, ints);
          high = omega (arith, ints, positive);
        }));
    free = λ v own. ap (numerator_in v point.columns point.numerators)
        (ap (λ ns. get_or ns (position v) (pos 0)) are ∙ zero_at numbering.count (position v));
  }
    where
      zero_at : (n k : ℕ) → get_or (replicate n (pos 0)) k (pos 0) ≡ pos 0
      zero_at zero k = refl
      zero_at (suc n) zero = refl
      zero_at (suc n) (suc k) = zero_at n k

  -- one column more
  numerator_more : (v : Var) (i : ℕ) (d : Var) (given : ℤ) → i < length point.columns
      → numerator_in v (drop i point.columns) (drop i point.numerators) given
      ≡ numerator_in v (drop (i + 1) point.columns) (drop (i + 1) point.numerators)
      (if is_same (get_or point.columns i d) v then get_or point.numerators i (pos 0) else given)
  numerator_more v i d given within =
      let next : suc i ≡ i + 1 = omega arith in
      ap₂ (λ columns numerators. numerator_in v columns numerators given)
      (drop-cons point.columns i d within)
      (drop-cons point.numerators i (pos 0) (omega (arith, within, is.long)))
      ∙ ap (λ n. numerator_in v (drop n point.columns) (drop n point.numerators)
      (if is_same (get_or point.columns i d) v then get_or point.numerators i (pos 0) else given))
      next

  pub column_free : (i : ℕ) (d : Var) → i < length point.columns
      → IsFree parts box (get_or point.columns i d)
  column_free i d within = is.free i d within

  pub column_within : (i : ℕ) (d : Var) (numbers : List ℤ)
      → AreSetTo parts numbering box point i numbers → i < length point.columns
      → position (get_or point.columns i d) < length numbers
  column_within i d numbers set_so within =
      let own = column_free i d within in
      omega (
        arith,
        numbered.within (get_or point.columns i d) own.there own.free,
        set_so.long,
      )

  pub column_small : (i : ℕ) (d : Var) → i < length point.columns
      → position (get_or point.columns i d) < 2 ^ 64
  column_small i d within =
      let own = column_free i d within in
      let few = numbered.few in
      omega (
        arith,
        numbered.within (get_or point.columns i d) own.there own.free,
        few,
      )

  pub numerator_small : (i : ℕ) (d : ℤ) → i < length point.numerators
      → unsigned_abs (get_or point.numerators i d) < 2 ^ 62
  numerator_small i d within =
      let own = is.each i d within in
      let low = own.low in
      let high = own.high in
      let small = is.small in
      omega (arith, ints, low, high, small)

  set_by : (column v : Var) (number : ℤ) (numbers : List ℤ) → position column < length numbers
      → IsFree parts box column → IsFree parts box v → (b : Bool) → is_same column v ≡ b
      → get_or (set numbers (position column) number) (position v) (pos 0)
      ≡ (if b then number else get_or numbers (position v) (pos 0))
  set_by column v number numbers within one two true told =
      ap (λ w. get_or (set numbers (position column) number) (position w) (pos 0))
      (sym (same_is column v told))
      ∙ get_or-set_same numbers (position column) number (pos 0) within
  set_by column v number numbers within one two false told =
      get_or-set_other numbers (position column) (position v) number (pos 0)
      (λ same. let e = one_position column v one two (sym same) in
      let yes : is_same column v ≡ true = subst (λ w. is_same column w ≡ true) e
      (same_refl column) in
      let bad : ⊥ = cc in bad)

  pub column_set : (i : ℕ) (d : Var) (numbers new : List ℤ)
      → AreSetTo parts numbering box point i numbers → i < length point.columns
      → new ≡ slice_set numbers (position (get_or point.columns i d))
      (get_or point.numerators i (pos 0))
      → AreSetTo parts numbering box point (i + 1) new
  column_set i d numbers new before within added = record {
    long = ap length added
        ∙ length-set numbers here number
        ∙ before.long;
    each = subst (All (IsFraction point.denominator)) (sym added)
        (All-set (IsFraction point.denominator) numbers here number
        (is.each i (pos 0) (omega (arith, within, is.long))) before.each);
    free = λ v own. ap (λ ns. numerator_in v (drop (i + 1) point.columns)
        (drop (i + 1) point.numerators) (get_or ns (position v) (pos 0))) added
        ∙ ap (numerator_in v (drop (i + 1) point.columns) (drop (i + 1) point.numerators))
        (set_by (get_or point.columns i d) v number numbers
        (column_within i d numbers before within) (column_free i d within) own
        (is_same (get_or point.columns i d) v) refl)
        ∙ sym (numerator_more v i d (get_or numbers (position v) (pos 0)) within)
        ∙ before.free v own;
  }
    where
      here : ℕ
      here = position (get_or point.columns i d)

      number : ℤ
      number = get_or point.numerators i (pos 0)

  pub all_set : (i : ℕ) (numbers : List ℤ) → AreSetTo parts numbering box point i numbers
      → length point.columns ≤ i → AreByPosition parts numbering box point numbers
  all_set i numbers set_so past = record {
    long = set_so.long;
    each = set_so.each;
    free = λ v own.
        sym (ap (λ columns. numerator_in v columns (drop i point.numerators)
        (get_or numbers (position v) (pos 0))) (none_left point.columns i past))
        ∙ set_so.free v own;
  }
    where
      none_left : (xs : List Var) (n : ℕ) → length xs ≤ n → drop n xs ≡ []
      none_left xs n beyond = at_drop_all (λ ys. ys) xs n beyond

-- What is read at a variable is the point's fraction.
module _ (parts : Parts) (numbering : Numbering) (box : Box) (point : FreePoint)
    (numbers : List ℤ) (whole : IsWhole parts.flights box)
    (are : AreByPosition parts numbering box point numbers) where
  pub fraction_is : (v : Var) → IsThere parts.flights v
      → value_by numbering.columns parts.flights box numbers point.denominator v
      ≡ fraction_in parts box point v
  fraction_is v there = by (left_of parts.flights box v) refl
    where
      by : (left : Left) → left_of parts.flights box v ≡ left
          → read_at numbers point.denominator (landing_by numbering.columns v left)
          ≡ fraction_by point v left
      by Zero is = refl
      by One is = refl
      by (Same other) is = are.free other (record {
        there = whole.there v other is;
        free = whole.same v other is;
      })
      by Free is = are.free v (record { there = there; free = is })
