-- The first so many that pass a test, part by part.
use Rattle.std.proofs.Common.{◌≡◌, ℕ, zero, suc, ◌+◌, ◌<◌, ◌≤◌, Bool, true, false, cond, List, [], ◌∷◌, ◌++◌, length, map, if◌then◌else◌, take, take_all, refl, sym, ◌∙◌, ap, subst, arith}
use Rattle.std.specs.List.{filter, flat_map, range_with_len}
use Rattle.std.proofs.lemmas.List.{append-nil, append_assoc, length-append, take-append-le}
use Rattle.std.proofs.lemmas.List.Elements.{filter-append}
use Rattle.std.proofs.lemmas.List.FromFn.{map-range_with_len_more}
use Rattle.exact_sums.proofs.RangeFacts.{flat_map_next, next_in_range}
use Rattle.cut_rows.specs.declared.names.CutName.{CutName}
use Rattle.cut_separation.specs.Exceeding.{AddsFirst}

pub take_then : {X : Type 0} (n : ℕ) (xs ys : List X)
    → take n (take n xs ++ ys) ≡ take n (xs ++ ys)
take_then zero xs ys = refl
take_then (suc n) [] ys = refl
take_then (suc n) (x ∷ xs) ys = ap (λ zs. x ∷ zs) (take_then n xs ys)

-- what a filter keeps of a range that is one longer
pub filter_next : (test : ℕ → Bool) (n : ℕ) (b : Bool) → test n ≡ b
    → filter test (range_with_len 0 (n + 1)) ≡ (if b then filter test (range_with_len 0 n) ++ n ∷ []
    else filter test (range_with_len 0 n))
filter_next test n b is =
    ap (filter test) (next_in_range n)
    ∙ filter-append test (range_with_len 0 n) (n ∷ [])
    ∙ ap (λ c. filter test (range_with_len 0 n) ++ cond c (n ∷ []) []) is ∙ by b
  where
    by : (c : Bool) → filter test (range_with_len 0 n) ++ cond c (n ∷ []) []
        ≡ (if c then filter test (range_with_len 0 n) ++ n ∷ [] else filter test
        (range_with_len 0 n))
    by true = refl
    by false = append-nil (filter test (range_with_len 0 n))

module _ (most : ℕ) (test : CutName → Bool) where
  pub adds_none : (old : List CutName) → length old ≤ most → AddsFirst most test [] old old
  adds_none old few = record {
    few = few;
    first = sym (take_all most (old ++ []) (omega (arith, length-append old [], few))
        ∙ append-nil old);
  }

  -- a part more
  pub adds_then : (xs ys start before now : List CutName) → AddsFirst most test xs start before
      → AddsFirst most test ys before now → AddsFirst most test (xs ++ ys) start now
  adds_then xs ys start before now one two = record {
    few = two.few;
    first = two.first ∙ ap (λ cuts. take most (cuts ++ filter test ys)) one.first
        ∙ take_then most (start ++ filter test xs) (filter test ys)
        ∙ ap (take most) (append_assoc start (filter test xs) (filter test ys)
        ∙ ap (λ cuts. start ++ cuts) (sym (filter-append test xs ys)));
  }

  -- a cut that there is no room for, one that is taken, and one that isn't
  pub adds_full : (more old : List CutName) → length old ≡ most → AddsFirst most test more old old
  adds_full more old full = record {
    few = omega (arith, full);
    first = sym (take-append-le most old (filter test more) (omega (arith, full))
        ∙ take_all most old (omega (arith, full)));
  }

  one_cut : (cut : CutName) (b : Bool) → test cut ≡ b
      → filter test (cut ∷ []) ≡ cond b (cut ∷ []) []
  one_cut cut b is = ap (λ c. cond c (cut ∷ []) []) is

  pub adds_one : (cut : CutName) (old new : List CutName) → length old < most
      → test cut ≡ true → new ≡ old ++ cut ∷ [] → AddsFirst most test (cut ∷ []) old new
  adds_one cut old new room is added = record {
    few = omega (arith, ap length added, length-append old (cut ∷ []), room);
    first = added
        ∙ sym (ap (λ cuts. take most (old ++ cuts)) (one_cut cut true is)
        ∙ take_all most (old ++ cut ∷ []) (omega (
          arith,
          length-append old (cut ∷ []),
          room,
        )));
  }

  pub adds_no : (cut : CutName) (old : List CutName) → length old ≤ most
      → test cut ≡ false → AddsFirst most test (cut ∷ []) old old
  adds_no cut old few is =
      let none = adds_none old few in
      record {
        few = few;
        first = none.first
            ∙ sym (ap (λ cuts. take most (old ++ cuts)) (one_cut cut false is));
      }

  -- the parts of numbers, one after the other
  pub adds_part : (part : ℕ → List CutName) (i : ℕ) (start old new : List CutName)
      → AddsFirst most test (flat_map part (range_with_len 0 i)) start old
      → AddsFirst most test (part i) old new
      → AddsFirst most test (flat_map part (range_with_len 0 (i + 1))) start new
  adds_part part i start old new before here =
      let both = adds_then (flat_map part (range_with_len 0 i))
      (part i) start old new before here in
      subst (λ cuts. AddsFirst most test cuts start new)
      (sym (flat_map_next part i (part i) refl)) both

  pub adds_named : (name : ℕ → CutName) (i : ℕ) (start old new : List CutName)
      → AddsFirst most test (map name (range_with_len 0 i)) start old
      → AddsFirst most test (name i ∷ []) old new
      → AddsFirst most test (map name (range_with_len 0 (i + 1))) start new
  adds_named name i start old new before here =
      subst (λ cuts. AddsFirst most test cuts start new)
      (sym (map-range_with_len_more name 0 i i (omega arith)))
      (adds_then (map name (range_with_len 0 i)) (name i ∷ []) start old new before here)
