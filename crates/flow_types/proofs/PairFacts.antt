-- A loop that compares each item with those before it: R holds of each pair so far.
use Rattle.std.proofs.Common.{◌≡◌, ℕ, ◌+◌, ◌≤◌, ◌<◌, List, [], ◌∷◌, ◌++◌, length, take, get_or, All, AllPairs, sym, subst, ap, arith, ◌∙◌}
use Rattle.std.proofs.lemmas.List.{get_or-take, length-take-le, take_more, take_all, get_or_read}
use Rattle.std.proofs.lemmas.List.Quantifiers.{all_pairs_push}

-- one more item that R relates to those before it
pub pairs_more : {X : Type 0} (R : X → X → Type 0) (xs : List X) (i : ℕ) (x : X) → i < length xs
    → x ≡ get_or xs i x
    → AllPairs R (take i xs) → All (λ a. R a x) (take i xs) → AllPairs R (take (i + 1) xs)
pairs_more R xs i x within is pairs before =
    let more = take_more xs i x within ∙ ap (λ y. take i xs ++ y ∷ []) (sym is) in
    subst (AllPairs R) (sym more) (all_pairs_push R (take i xs) x pairs before)

-- all of them
pub pairs_all : {X : Type 0} (R : X → X → Type 0) (xs : List X) (i : ℕ) → length xs ≤ i
    → AllPairs R (take i xs) → AllPairs R xs
pairs_all R xs i past pairs = subst (AllPairs R) (take_all i xs past) pairs

-- what R relates in pairs it relates to each item before
pub pairs_before : {X : Type 0} (R : X → X → Type 0) (xs : List X) (i : ℕ) (x : X) → i < length xs
    → x ≡ get_or xs i x
    → AllPairs R xs → All (λ a. R a x) (take i xs)
pairs_before {X} R xs i x within is pairs k d below =
    let short : k < i = omega (arith, length-take-le i xs (omega arith)) in
    let here : R (get_or xs k d) (get_or xs i d) = pairs k i d short within in
    let same = get_or_read xs i x within is d in
    subst (λ (a : X). R a x) (sym (get_or-take i xs k d short))
    (subst (λ (b : X). R (get_or xs k d) b) (sym same) here)

-- none of them yet
pub pairs_none : {X : Type 0} (R : X → X → Type 0) → AllPairs R []
pairs_none R i j d below within = absurd (omega arith)
