-- Digits one by one.
use Rattle.std.proofs.Common.{◌≡◌, ℕ, ◌+◌, ◌-◌, ◌*◌, ◌^◌, ◌≤◌, ◌<◌, false, ◌&&◌, ◌∙◌, sym, List, length, take, get_or, refl, arith}
use Rattle.std.specs.Char.{digit_value, is_ascii_digit}
use Rattle.std.specs.Int.{IsInRange}
use Rattle.std.specs.List.{list_all}
use Rattle.std.specs.Str.{all_ascii_digits}
use Rattle.std.specs.Str.Parse.{digits_value, AllDigits}
use Rattle.std.proofs.Math.Nat.{pow-le-pow_right}
use Rattle.std.proofs.lemmas.Int.Digits.{digits_more, digits_value-lt, digits_value_more}
use Rattle.std.proofs.lemmas.List.{length-take}
use Rattle.std.proofs.lemmas.List.Folds.{list_all_at}
use Rattle.std.proofs.lemmas.List.Recursion.{same_from_clauses}
use Rattle.std.proofs.lemmas.Str.{digit_value_digit}
use Rattle.std.proofs.lemmas.Str.Parse.{digit_from_value}

digits_are_all : (bytes : List ℕ) → list_all is_ascii_digit bytes ≡ all_ascii_digits bytes
digits_are_all bytes =
    same_from_clauses (list_all is_ascii_digit) all_ascii_digits (λ b r. is_ascii_digit b && r) refl
    (λ _ _. refl) (λ _ _. refl) bytes

pub not_all_digits : (bytes : List ℕ) (i : ℕ) → i < length bytes
    → is_ascii_digit (get_or bytes i 0) ≡ false → all_ascii_digits bytes ≡ false
not_all_digits bytes i within other =
    sym (digits_are_all bytes) ∙ list_all_at is_ascii_digit bytes i 0 within other

-- the number that the first digits spell, of which there are at most so many, and the next digit
pub record IsNextDigit (most : ℕ) (bytes : List ℕ) (i : ℕ) : Type 0 where
  pub small : digits_value 10 (take i bytes) < 10 ^ most
  pub to : get_or bytes i 0 ≤ 57
  pub digits : AllDigits 10 (take (i + 1) bytes)
  pub more : digits_value 10 (take (i + 1) bytes) ≡ 10 * digits_value 10 (take i bytes)
      + (get_or bytes i 0 - 48)

pub next_digit : (most : ℕ) (bytes : List ℕ) (i : ℕ) → length bytes ≤ most + 1
    → AllDigits 10 (take i bytes) → digit_value (get_or bytes i 0) < 10 → i < length bytes
    → IsNextDigit most bytes i
next_digit most bytes i few digits digit within =
    let below : digits_value 10 (take i bytes) < 10 ^ length (take i bytes) =
    digits_value-lt 10 (take i bytes) digits in
    let front : length (take i bytes) ≤ most = omega (arith, length-take i bytes) in
    let up_to : 10 ^ length (take i bytes) ≤ 10 ^ most = pow-le-pow_right (omega arith) front in
    let here : IsInRange 48 57 (get_or bytes i 0) = digit_from_value (get_or bytes i 0) digit in
    let worth = digit_value_digit (get_or bytes i 0) here in
    let step = digits_value_more 10 bytes i within in
    record {
      small = omega arith;
      to = here.1;
      digits = digits_more 10 bytes i within digits digit;
      more = omega arith;
    }
