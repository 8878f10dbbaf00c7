-- How many bytes fields and lines have.
use Rattle.std.proofs.Common.{◌≡◌, ℕ, suc, ◌+◌, ◌*◌, ◌^◌, ◌<◌, ◌≤◌, List, [], ◌∷◌, ◌++◌, length, map, Option, None, Some, ℤ, pos, negsuc, unsigned_abs, arith, length-append}
use Rattle.std.specs.Fmt.{decimal, signed_decimal}
use Rattle.std.proofs.Math.Nat.{pow-le-pow_right}
use Rattle.std.proofs.lemmas.Fmt.{length-decimal-le_wide}
use Rattle.text_records.specs.Lines.{field_text}
use Rattle.bytime_model.proofs.NameLists.{Each}
use Rattle.certificate.specs.Lines.{fields_text, line_of, whole_word}
use Rattle.certificate.specs.Ranges.{IsWithinEither}

-- so many digits
pub digits_to : (k n : ℕ) → 0 < k → k ≤ 38 → n < 10 ^ k → length (decimal n) ≤ k
digits_to k n some few small =
    let exponent : k ≤ 64 = omega (arith, few) in
    let wide : 10 ^ k ≤ 10 ^ 64 = pow-le-pow_right (omega arith) exponent in
    length-decimal-le_wide k n some small (omega (arith, small, wide))

pub signed_to : (k : ℕ) (z : ℤ) → 0 < k → k ≤ 38 → unsigned_abs z < 10 ^ k
    → length (signed_decimal z) ≤ k + 1
signed_to k (pos n) some few small =
    let digits = digits_to k n some few small in
    omega (arith, digits)
signed_to k (negsuc n) some few small =
    let digits = digits_to k (suc n) some few small in
    omega (arith, digits)

pub whole_to : (k most : ℕ) (z : Option ℤ) → 4 ≤ k → k ≤ 38 → most < 10 ^ k
    → IsWithinEither most z → length (whole_word z) ≤ k + 1
whole_to k most None some few small within = omega (arith, some)
whole_to k most (Some z) some few small within =
    signed_to k z (omega (arith, some)) few (omega (arith, small, within))

-- a field more, and a line
pub field_size : (field : List ℕ) (fields : List (List ℕ))
    → length (fields_text (field ∷ fields)) ≡ 1 + length field + length (fields_text fields)
field_size field fields =
    let all = length-append (field_text field) (fields_text fields) in
    omega (arith, all)

pub line_size : (word : List ℕ) (fields : List (List ℕ))
    → length (line_of word fields) ≡ length word + length (fields_text fields)
line_size word fields = length-append word (fields_text fields)

-- fields of at most so many bytes
pub field_to : (most rest : ℕ) (field : List ℕ) (fields : List (List ℕ)) → length field ≤ most
    → length (fields_text fields) ≤ rest → length (fields_text (field ∷ fields)) ≤ 1 + most + rest
field_to most rest field fields short few =
    let size = field_size field fields in
    omega (arith, size, short, few)

-- numbers of at most four digits, and what is behind them
pub numbers_to : (numbers : List ℕ) (behind : List (List ℕ)) → Each (λ n. n < 10000) numbers
    → length (fields_text (map decimal numbers ++ behind))
    ≤ 5 * length numbers + length (fields_text behind)
numbers_to [] behind small = omega arith
numbers_to (n ∷ numbers) behind small =
    let digits = digits_to 4 n (omega arith) (omega arith) small.0 in
    let more = numbers_to numbers behind small.1 in
    let size = field_size (decimal n) (map decimal numbers ++ behind) in
    omega (arith, digits, more, size)
