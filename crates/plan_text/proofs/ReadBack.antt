-- Names, numbers and nodes that are written are read back.
use Rattle.std.proofs.Common.{◌≡◌, ◌≢◌, ℕ, ◌-◌, ◌^◌, ◌<◌, ◌≤◌, ◌==◌, Bool, true, false, List, length, get_or, slice_index, Some, Ok, AllPairs, map, position, slice_get, refl, sym, ap, ◌∙◌, arith}
use Rattle.std.specs.Fmt.{decimal}
use Rattle.std.specs.Str.{bytes_eq, all_ascii_digits}
use Rattle.std.specs.Str.Parse.{digits_value}
use Rattle.std.proofs.lemmas.Bool.{eq-eqb, le-leb, lt-ltb, ne_eqb}
use Rattle.std.proofs.lemmas.Fmt.{decimal_nonempty, digits_decimal, digits_value-decimal, length-decimal-le}
use Rattle.std.proofs.lemmas.List.Sums.{position_or_len_is}
use Rattle.std.proofs.lemmas.Option.{slice_get_within, get_or_from_slice_get}
use Rattle.std.proofs.lemmas.Slice.Eq.{bytes_eq-Decides}
use Rattle.std.proofs.lemmas.Str.Parse.{numerals_by_value, tells_all_ascii_digits}
use Rattle.flow_types.specs.Words.{is_name, number_of}
use Rattle.text_records.specs.Fields.{name_in, number_in}
use Rattle.text_records.specs.Names.{position_of}
use Rattle.text_records.specs.Rows.{Fields}
use Rattle.text_records.proofs.NameFacts.{position-map}

-- a number that fits the digits that a number may have is read back
pub number_back : (n : ℕ) → n < 10 ^ 18 → number_of (decimal n) ≡ Some n
number_back n few =
    let small : n < 2 ^ 64 = omega arith in
    let own = numerals_by_value (λ bytes. all_ascii_digits bytes ≡ true) tells_all_ascii_digits in
    let digits : all_ascii_digits (decimal n) ≡ true = digits_decimal own n small in
    let value : digits_value 10 (decimal n) ≡ n = digits_value-decimal own n small in
    rw (
      le-leb 1 (length (decimal n)) (decimal_nonempty n small),
      le-leb (length (decimal n)) 18
          (length-decimal-le 18 n (omega arith) few small),
      digits,
    ) (ap Some value)

module _ (fields : Fields) (number : ℕ) where
  pub name_back : (name : List ℕ) → slice_get fields (number - 1) ≡ Some name → is_name name ≡ true
      → name_in fields number ≡ Ok name
  unfolding name_in
  name_back name there named = rw (there, named) refl

  pub number_in_back : (n high : ℕ) → slice_get fields (number - 1) ≡ Some (decimal n) → n < 10 ^ 18
      → n ≤ high → number_in fields number 0 high ≡ Ok n
  unfolding number_in
  number_in_back n high there few within =
      rw (there, number_back n few, le-leb 0 n (omega arith), le-leb n high within) refl

pub found_at : {X : Type 0} (p : X → Bool) (xs : List X) (k : ℕ) (d : X) → k < length xs
    → ((i : ℕ) → i < k → p (get_or xs i d) ≡ false) → p (get_or xs k d) ≡ true
    → position p xs ≡ Some k
found_at p xs k d within before here =
    rw (
      position_or_len_is p xs k d (omega arith) before (λ less. here),
      lt-ltb k
          (length xs) within,
    ) refl

apart_bytes : (a b : List ℕ) → b ≢ a → bytes_eq a b ≡ false
apart_bytes a b apart = by (bytes_eq a b) refl
  where
    by : (t : Bool) → bytes_eq a b ≡ t → t ≡ false
    by true e = absurd (apart (sym ((bytes_eq-Decides a b).0 e)))
    by false e = refl

-- where names differ, each is found at its position
pub named_at : {X : Type 0} (f : X → List ℕ) (xs : List X) (k : ℕ) (x : X)
    → AllPairs (λ a b. f a ≢ f b) xs → slice_get xs k ≡ Some x
    → position_of (f x) (map f xs) ≡ Some k
named_at f xs k x apart there =
    let within = slice_get_within xs k x there in
    let here : get_or xs k x ≡ x = get_or_from_slice_get xs k x x there in
    position-map (bytes_eq (f x)) f xs
    ∙ found_at (λ y. bytes_eq (f x) (f y)) xs k x within
    (λ i less. apart_bytes (f x) (f (get_or xs i x))
    (λ same. apart i k x less within (same ∙ ap f (sym here))))
    (ap (λ y. bytes_eq (f x) (f y)) here ∙ (bytes_eq-Decides (f x) (f x)).1 refl)

-- where nodes differ, each is found at its position
pub node_back : (nodes : List ℕ) (k : ℕ) → AllPairs (λ a b. a ≢ b) nodes → k < length nodes
    → position (λ node. node == slice_index nodes k) nodes ≡ Some k
node_back nodes k apart within =
    found_at (λ node. node == slice_index nodes k) nodes k 0 within
    (λ i less. ne_eqb (get_or nodes i 0) (slice_index nodes k) (apart i k 0 less within))
    (eq-eqb (slice_index nodes k) (slice_index nodes k) refl)
