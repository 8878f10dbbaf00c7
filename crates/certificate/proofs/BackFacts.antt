-- What is written of a number or a digest is read back.
use Rattle.std.proofs.Common.{◌≡◌, ℕ, zero, suc, ◌+◌, ◌/◌, ◌%◌, ◌^◌, ◌<◌, ◌≤◌, ◌&&◌, Bool, true, false, List, [], ◌∷◌, ◌++◌, length, get_or, slice_index, Option, Some, None, Ok, refl, sym, ap, subst, arith, ℤ, pos, negsuc, inl, inr}
use Rattle.std.specs.Prelude.{codes, not, nat_le, unsigned_abs}
use Rattle.std.specs.Char.{digit_value}
use Rattle.std.specs.Fmt.{decimal, signed_decimal}
use Rattle.std.specs.List.{list_all}
use Rattle.std.specs.Str.{bytes_eq, all_ascii_digits}
use Rattle.std.specs.Str.Parse.{AllDigits}
use Rattle.std.proofs.lemmas.Bool.{and_parts, cases_lt, le-leb, ne_eqb}
use Rattle.std.proofs.lemmas.Fmt.{decimal_by_steps_wide, decimal_is_IsNumeral_wide, length-decimal-le_wide}
use Rattle.std.proofs.lemmas.Slice.Eq.{bytes_eq-Decides}
use Rattle.std.proofs.lemmas.Str.Parse.{digit_from_value, numerals_by_value, tells_all_ascii_digits}
use Rattle.hex.specs.Hex.{IsBytes, decode_sized, encode_lower, encode_with, lower_digits}
use Rattle.hex.proofs.HexLemmas.{IsDigits-lower_digits, decode_pairs-encode_with, length-encode_with}
use Rattle.certificate.specs.Digests.{digest_of_word, is_lower_digit}
use Rattle.certificate.specs.Fields.{FieldsLeft, number_from, whole_from}
use Rattle.certificate.specs.Lines.{whole_word}
use Rattle.certificate.specs.Numbers.{is_bare, natural_of, whole_of}
use Rattle.certificate.specs.Ranges.{IsDigest, IsWithinEither}

-- digits that begin with no 0
record IsBareDigits (n : ℕ) (digits : List ℕ) : Type 0 where
  bare : is_bare digits ≡ true
  some : 0 < length digits
  first : 0 < n → 48 < get_or digits 0 0

bare_push : (digits : List ℕ) (d : ℕ) → 0 < length digits → 48 < get_or digits 0 0
    → is_bare (digits ++ d ∷ []) ≡ true
bare_push [] d some first = absurd (omega (arith, some))
bare_push (x ∷ []) d some first =
    ap not (ne_eqb x 48 (λ e. omega (arith, first, e)))
bare_push (x ∷ y ∷ rest) d some first =
    ap not (ne_eqb x 48 (λ e. omega (arith, first, e)))

first_push : (digits : List ℕ) (d : ℕ) → 0 < length digits
    → get_or (digits ++ d ∷ []) 0 0 ≡ get_or digits 0 0
first_push [] d some = absurd (omega (arith, some))
first_push (x ∷ rest) d some = refl

some_push : (digits : List ℕ) (d : ℕ) → 0 < length (digits ++ d ∷ [])
some_push [] d = omega arith
some_push (x ∷ rest) d = omega arith

bare_decimal : (n : ℕ) → n < 10 ^ 64 → IsBareDigits n (decimal n)
bare_decimal n small =
    decimal_by_steps_wide IsBareDigits
    (λ m less. record { bare = refl; some = omega arith; first = λ some. omega arith })
    (λ m digits more is.
    let some = is.some in
    let up : 48 < get_or digits 0 0 = is.first (omega (arith, more)) in
    record {
      bare = bare_push digits (48 + m % 10) some up;
      some = some_push digits (48 + m % 10);
      first = λ _. omega (arith, up, first_push digits (48 + m % 10) some);
    })
    n small

pub natural_back : (n : ℕ) → n < 10 ^ 38 → natural_of (decimal n) ≡ Some n
natural_back n few =
    let small : n < 10 ^ 64 = omega arith in
    let numeral = decimal_is_IsNumeral_wide n small in
    let bare = (bare_decimal n small).bare in
    let short : length (decimal n) ≤ 38 = length-decimal-le_wide 38 n (omega arith) few small in
    let digits : all_ascii_digits (decimal n) ≡ true =
    (numerals_by_value _ tells_all_ascii_digits).from (decimal n) numeral.0.1 in
    rw (bare, le-leb (length (decimal n)) 38 short, digits) (ap Some numeral.1)

-- a number begins with a digit
digit_first : (bytes : List ℕ) → 0 < length bytes → AllDigits 10 bytes → 48 ≤ get_or bytes 0 0
digit_first [] some digits = absurd (omega (arith, some))
digit_first (b ∷ bytes) some digits = (digit_from_value b digits.0).0

whole_is : (bytes : List ℕ) (n : ℕ) → 48 ≤ get_or bytes 0 0 → natural_of bytes ≡ Some n
    → whole_of bytes ≡ Some (pos n)
whole_is [] n first is = absurd (omega (arith, first))
whole_is (b ∷ bytes) n first is =
    rw (ne_eqb b 45 (λ e. omega (arith, first, e)), is) refl

pub whole_back : (z : ℤ) → unsigned_abs z < 10 ^ 38 → whole_of (signed_decimal z) ≡ Some z
whole_back (pos n) few =
    let small : n < 10 ^ 64 = omega (arith, few) in
    let numeral = decimal_is_IsNumeral_wide n small in
    whole_is (decimal n) n (digit_first (decimal n) numeral.0.0 numeral.0.1)
    (natural_back n (omega (arith, few)))
whole_back (negsuc n) few = rw (natural_back (suc n) (omega (arith, few))) refl

module _ (number : ℕ) (rest : List (List ℕ)) where
  abbrev pub left_of : List ℕ → FieldsLeft
  left_of field = record { number = number; fields = field ∷ rest }

  abbrev pub left_after : FieldsLeft
  left_after = record { number = number + 1; fields = rest }

  pub number_back : (low high n : ℕ) → low ≤ n → n ≤ high → high < 10 ^ 38
      → number_from low high (left_of (decimal n)) ≡ Ok (n, left_after)
  unfolding number_from
  number_back low high n from to few =
      rw (natural_back n (omega (arith, to, few)), le-leb low n from, le-leb n high to) refl

pub apart_bytes : (a b : List ℕ) → (a ≡ b → ⊥) → bytes_eq a b ≡ false
apart_bytes a b apart = by (bytes_eq a b) refl
  where
    by : (t : Bool) → bytes_eq a b ≡ t → t ≡ false
    by true e = absurd (apart ((bytes_eq-Decides a b).0 e))
    by false e = refl

-- no number is the word `none`
never_none : (z : ℤ) → unsigned_abs z < 10 ^ 38 → signed_decimal z ≡ codes "none" → ⊥
never_none (pos n) few same =
    let small : n < 10 ^ 64 = omega (arith, few) in
    let digits : AllDigits 10 (codes "none") =
    subst (AllDigits 10) same (decimal_is_IsNumeral_wide n small).0.1 in
    let first : digit_value 110 < 10 = digits.0 in
    omega (arith, first)
never_none (negsuc n) few same =
    let first : 45 ≡ 110 = ap (λ (bytes : List ℕ). get_or bytes 0 0) same in omega (arith, first)

is_within : (most : ℕ) (z : ℤ) → unsigned_abs z ≤ most → nat_le (unsigned_abs z) most ≡ true
is_within most z less = le-leb (unsigned_abs z) most less

module _ (number : ℕ) (rest : List (List ℕ)) where
  pub whole_word_back : (most : ℕ) (z : Option ℤ) → IsWithinEither most z → most < 10 ^ 38
      → whole_from most (left_of number rest (whole_word z)) ≡ Ok (z, left_after number rest)
  unfolding whole_from
  whole_word_back most None within few = refl
  whole_word_back most (Some z) within few =
      let small : unsigned_abs z < 10 ^ 38 = omega (arith, within, few) in
      rw (
        apart_bytes (signed_decimal z) (codes "none") (never_none z small),
        whole_back z small,
        is_within most z within,
      ) refl

-- a test that each digit of a digest passes
abbrev all_pass : (ℕ → Bool) → ℕ → Bool
all_pass test zero = true
all_pass test (suc n) = test (slice_index lower_digits n) && all_pass test n

passes : (test : ℕ → Bool) (n k : ℕ) → all_pass test n ≡ true → k < n
    → test (slice_index lower_digits k) ≡ true
passes test zero k all less = absurd (omega (arith, less))
passes test (suc n) k all less =
    let parts = and_parts (test (slice_index lower_digits n)) (all_pass test n) all in
    elim (cases_lt k n) [
      | inl below ↦ passes test n k parts.1 below
      | inr top ↦
          let e : k ≡ n = omega (arith, less, top) in
          subst (λ (i : ℕ). test (slice_index lower_digits i) ≡ true) (sym e) parts.0
    ]

pub digits_pass : (test : ℕ → Bool) → all_pass test 16 ≡ true → (bytes : List ℕ) → IsBytes bytes
    → list_all test (encode_lower bytes) ≡ true
unfolding encode_with
digits_pass test all [] small = refl
digits_pass test all (b ∷ bytes) small =
    let byte : b < 256 = small 0 in
    rw (
      passes test 16 (b / 16) all (omega (arith, byte)),
      passes test 16 (b % 16) all (omega arith),
      digits_pass test all bytes (λ i. small (suc i)),
    ) refl

sized : (bytes : List ℕ) → length bytes ≡ 32 → IsBytes bytes
    → decode_sized (encode_lower bytes) 32 ≡ Ok bytes
sized bytes size small =
    let long : length (encode_lower bytes) ≡ 64 =
    omega (arith, length-encode_with lower_digits bytes, size) in
    rw long (decode_pairs-encode_with lower_digits IsDigits-lower_digits 0 bytes small)

pub digest_back : (digest : List ℕ) → IsDigest digest
    → digest_of_word (encode_lower digest) ≡ Some digest
digest_back digest is =
    rw (digits_pass is_lower_digit refl digest is.bytes, sized digest is.size is.bytes) refl
