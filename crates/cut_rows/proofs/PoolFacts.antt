-- Pools that are in order.
use Rattle.std.proofs.Common.{◌≡◌, ◌⊎◌, ◌∙◌, ℕ, ◌-◌, ◌<◌, ◌==◌, ◌&&◌, false, true, nat_lt, List, [], ◌∷◌, ◌++◌, All, AllPairs, Option, None, Some, length, get_or, slice_get, inl, inr, refl, sym, ap, subst, arith}
use Rattle.std.proofs.lemmas.Bool.{and_from, and_parts, cases_lt, eq-eqb, eqb-true, lt-ltb, ltb-true, or_cases, or_left, or_right}
use Rattle.std.proofs.lemmas.Option.{get_or_from_slice_get, slice_get_cases}
use Rattle.std.proofs.lemmas.List.Quantifiers.{all_pairs_push}
use Rattle.cut_rows.specs.declared.names.CutName.{CutName}
use Rattle.cut_rows.specs.Order.{IsBefore, comes_before, follows, follows_last, numbers_of}

pub none_ascend : AllPairs IsBefore []
none_ascend i j d less within = absurd (omega (arith, within))

pub one_more : (cuts now : List CutName) (cut : CutName) → AllPairs IsBefore cuts
    → All (λ earlier. IsBefore earlier cut) cuts → now ≡ cuts ++ cut ∷ [] → AllPairs IsBefore now
one_more cuts now cut up after is =
    subst (AllPairs IsBefore) (sym is)
    (all_pairs_push IsBefore cuts cut up (λ k d within. after k d within))

-- what comes before a cut comes before all that it comes before
before_all : (xs ys zs : List ℕ) → comes_before xs ys ≡ true → comes_before ys zs ≡ true
    → comes_before xs zs ≡ true
before_all [] [] zs one two = absurd (let e : false ≡ true = one in cc)
before_all (x ∷ xs) [] zs one two = absurd (let e : false ≡ true = one in cc)
before_all [] (y ∷ ys) [] one two = absurd (let e : false ≡ true = two in cc)
before_all (x ∷ xs) (y ∷ ys) [] one two = absurd (let e : false ≡ true = two in cc)
before_all [] (y ∷ ys) (z ∷ zs) one two = refl
before_all (x ∷ xs) (y ∷ ys) (z ∷ zs) one two =
    by (or_cases (nat_lt x y) ((x == y) && comes_before xs ys) one)
    (or_cases (nat_lt y z) ((y == z) && comes_before ys zs) two) (before_all xs ys zs)
  where
    less : x < z → comes_before (x ∷ xs) (z ∷ zs) ≡ true
    less is = or_left (nat_lt x z) ((x == z) && comes_before xs zs) (lt-ltb x z is)

    by : (nat_lt x y ≡ true) ⊎ (((x == y) && comes_before xs ys) ≡ true)
        → (nat_lt y z ≡ true) ⊎ (((y == z) && comes_before ys zs) ≡ true)
        → (comes_before xs ys ≡ true → comes_before ys zs ≡ true → comes_before xs zs ≡ true)
        → comes_before (x ∷ xs) (z ∷ zs) ≡ true
    by (inl xy) (inl yz) rest = less (omega (arith, ltb-true x y xy, ltb-true y z yz))
    by (inl xy) (inr yz) rest =
        let both = and_parts (y == z) (comes_before ys zs) yz in
        less (omega (arith, ltb-true x y xy, eqb-true y z both.0))
    by (inr xy) (inl yz) rest =
        let both = and_parts (x == y) (comes_before xs ys) xy in
        less (omega (arith, eqb-true x y both.0, ltb-true y z yz))
    by (inr xy) (inr yz) rest =
        let one = and_parts (x == y) (comes_before xs ys) xy in
        let two = and_parts (y == z) (comes_before ys zs) yz in
        or_right (nat_lt x z) ((x == z) && comes_before xs zs)
        (and_from (x == z) (comes_before xs zs)
        (eq-eqb x z (eqb-true x y one.0 ∙ eqb-true y z two.0))
        (rest one.1 two.1))

-- what follows the last cut follows all
pub all_before : (pool : List CutName) (cut : CutName) → AllPairs IsBefore pool
    → follows pool cut ≡ true → All (λ earlier. IsBefore earlier cut) pool
all_before pool cut up is k d within =
    by (slice_get pool (length pool - 1)) refl is
  where
    Here : Type 0
    Here = IsBefore (get_or pool k d) cut

    by : (last : Option CutName) → slice_get pool (length pool - 1) ≡ last
        → follows_last last cut ≡ true → Here
    by None none is =
        elim (slice_get_cases pool (length pool - 1)).1 as (λ _. Here) [
          | inl (x, below, some, got) ↦ absurd (let e : ⊥ = cc (none, some) in e)
          | inr (past, missing) ↦ absurd (omega (arith, past, within))
        ]
    by (Some last) here is =
        let there : get_or pool (length pool - 1) d ≡ last =
        get_or_from_slice_get pool (length pool - 1) last d here in
        elim (cases_lt k (length pool - 1)) as (λ _. Here) [
          | inl less ↦
              before_all (numbers_of (get_or pool k d)) (numbers_of last) (numbers_of cut)
              (subst (λ other. IsBefore (get_or pool k d) other) there
              (up k (length pool - 1) d less (omega (arith, within)))) is
          | inr more ↦
              let same : k ≡ length pool - 1 = omega (arith, more, within) in
              subst (λ one. IsBefore one cut) (sym (ap (λ n. get_or pool n d) same ∙ there))
              is
        ]
