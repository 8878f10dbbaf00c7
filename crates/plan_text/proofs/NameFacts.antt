-- A name that differs from those before it isn't among them.
use Rattle.std.proofs.Common.{◌≡◌, ◌≢◌, ℕ, ◌<◌, Bool, true, false, List, length, get_or, take, None, map, refl, ap, sym, ◌∙◌, arith, position, AllPairs}
use Rattle.std.proofs.lemmas.Bool.{le-ltb}
use Rattle.std.proofs.lemmas.List.{get_or-take, length-take-le}
use Rattle.std.proofs.lemmas.List.Sums.{position_or_len_is}
use Rattle.std.proofs.lemmas.Slice.Eq.{bytes_eq-Decides}
use Rattle.std.specs.Str.{bytes_eq}
use Rattle.text_records.proofs.NameFacts.{position-map}
use Rattle.text_records.specs.Names.{position_of}

-- no element, no position
none_passes : {X : Type 0} (p : X → Bool) (xs : List X) (d : X)
    → ((i : ℕ) → i < length xs → p (get_or xs i d) ≡ false) → position p xs ≡ None
none_passes p xs d none =
    rw (
      position_or_len_is p xs (length xs) d (omega arith) none (λ h. absurd (omega arith)),
      le-ltb
          (length xs) (length xs) (omega arith),
    ) refl

other_name : (a b : List ℕ) → b ≢ a → bytes_eq a b ≡ false
other_name a b apart = by (bytes_eq a b) refl
  where
    by : (t : Bool) → bytes_eq a b ≡ t → t ≡ false
    by true e = absurd (apart (sym ((bytes_eq-Decides a b).0 e)))
    by false e = refl

-- where names differ, none stands before itself
pub fresh : {X : Type 0} (f : X → List ℕ) (xs : List X) (k : ℕ) (x : X)
    → AllPairs (λ a b. f a ≢ f b) xs → k < length xs → x ≡ get_or xs k x
    → position_of (f x) (map f (take k xs)) ≡ None
fresh f xs k x apart within here =
    let count : length (take k xs) ≡ k = length-take-le k xs (omega arith) in
    position-map (bytes_eq (f x)) f (take k xs)
    ∙ none_passes (λ y. bytes_eq (f x) (f y)) (take k xs) x (λ i h. let before : i < k =
    omega arith in rw (get_or-take k xs i x before)
    (other_name (f x) (f (get_or xs i x))
    (λ same. apart i k x before within (same ∙ ap f here))))
