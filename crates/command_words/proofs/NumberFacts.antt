-- A word that spells a number in its range.
use Rattle.std.proofs.Common.{◌∙◌, ◌≡◌, ◌&&◌, ◌==◌, ◌<◌, ◌≤◌, ◌^◌, ℕ, Bool, [], ◌∷◌, Option, Some, None, refl, sym, ap, ap₂, true, false, true≢false, arith, nat_le, nat_lt, length, is_some, if◌then◌else◌, lt-ltb, ltb-true, ne_eqb, subst, leb-true, le-leb}
use Rattle.std.specs.Option.{option_and_then, unwrap_or}
use Rattle.std.specs.List.{list_all}
use Rattle.std.specs.Str.{all_ascii_digits}
use Rattle.std.specs.Str.Parse.{digits_value, without_leading_plus}
use Rattle.std.specs.Char.{digit_value, is_ascii_digit}
use Rattle.std.proofs.lemmas.Str.{digit_value_digit}
use Rattle.std.proofs.lemmas.Str.Parse.{tells_all_ascii_digits}
use Rattle.flow_types.specs.Words.{is_number}
use Rattle.clap.specs.Walk.{Text}
use Rattle.clap.specs.ValueTests.{is_numeral, is_unsigned_in}
use Rattle.clap.proofs.WalkLemmas.{both}
use Rattle.command_words.specs.declared.options.Range.{Range}
use Rattle.command_words.specs.Reading.{number_read}
use Rattle.command_words.specs.Words.{between, is_word_for_name, number_within, within_range}
use Rattle.command_words.proofs.StepFacts.{IsPlainWord, plain_byte}

pub no_value : {X : Type 0} {x : X} → None ≡ Some x → ⊥
no_value is = true≢false (sym (ap (λ o. is_some o) is))

pub no_some : {X : Type 0} (o : Option X) → is_some o ≡ false → o ≡ None
no_some None e = refl
no_some (Some x) e = absurd (true≢false e)

-- what an `if` without a value tells
pub some_if : {X : Type 0} (b : Bool) (value : Option X) (x : X)
    → (if b then value else None) ≡ Some x → (b ≡ true) × (value ≡ Some x)
some_if true value x is = (refl, is)
some_if false value x is = absurd (true≢false (sym (ap (λ o. is_some o) is)))

pub some_is : {X : Type 0} (d x y : X) → Some x ≡ Some y → x ≡ y
some_is d x y is = ap (λ o. unwrap_or o d) is

-- a text of digits, and its first byte
pub digit_first : (b : ℕ) (bytes : Text) → all_ascii_digits (b ∷ bytes) ≡ true
    → (nat_lt (digit_value b) 10 ≡ true) × ((b == 43) ≡ false) × ((b == 45) ≡ false)
digit_first b bytes are =
    let range = (tells_all_ascii_digits.parts b bytes are).0 in
    let value = digit_value_digit b range in (
      lt-ltb (digit_value b) 10 (omega (arith, value, range.1)),
      ne_eqb b 43 (λ e. omega (arith, e, range.0)),
      ne_eqb b 45 (λ e. omega (arith, e, range.0)),
    )

digits_read : (bytes : Text) → all_ascii_digits bytes ≡ true
    → list_all (λ d. nat_lt (digit_value d) 10) bytes ≡ true
digits_read [] are = refl
digits_read (b ∷ bytes) are =
    ap₂ (λ (x y : Bool). x && y) (digit_first b bytes are).0
    (digits_read bytes (both (is_ascii_digit b) _ are).1)

-- what a number's word tells
pub record IsNumberWord (least most : ℕ) (word : Text) (n : ℕ) : Type 0 where
  pub plain : IsPlainWord word
  pub passes : is_unsigned_in least most word ≡ true
  pub read : number_read 64 word ≡ Some n
  pub small : nat_lt most (2 ^ 32) ≡ true → number_read 32 word ≡ Some n
  pub low : least ≤ n
  pub high : n ≤ most

within_is : (least most d n : ℕ) → within_range (between least most) d ≡ Some n
    → (d ≡ n) × (least ≤ n) × (n ≤ most)
within_is least most d n is =
    let parts = some_if (nat_le least d && nat_le d most) (Some d) n is in
    let bounds = both (nat_le least d) _ parts.0 in
    let same = some_is 0 d n parts.1 in (
      same,
      subst (λ k. least ≤ k) same (leb-true least d bounds.0),
      subst (λ k. k ≤ most) same
          (leb-true d most bounds.1),
    )

some_length : (b : ℕ) (bytes : Text) → nat_lt 0 (length (b ∷ bytes)) ≡ true
some_length b bytes = lt-ltb 0 (length (b ∷ bytes)) (omega arith)

-- digits are no flag, and begin with no plus
number_facts : (word : Text) → is_number word ≡ true
    → IsPlainWord word × (without_leading_plus word ≡ word) × (is_numeral word ≡ true)
number_facts [] is = absurd (true≢false (sym is))
number_facts (b ∷ bytes) is =
    let digits : all_ascii_digits (b ∷ bytes) ≡ true = (both _ _ is).1 in
    let first = digit_first b bytes digits in (
      plain_byte b bytes first.2,
      rw first.1 refl,
      ap₂ (λ (x y : Bool). x && y) (some_length b bytes)
          (digits_read (b ∷ bytes) digits),
    )

number_if : (b : Bool) (d n : ℕ) (f : ℕ → Option ℕ)
    → option_and_then f (if b then Some d else None) ≡ Some n → (b ≡ true) × (f d ≡ Some n)
number_if true d n f is = (refl, is)
number_if false d n f is = absurd (true≢false (sym (ap (λ (o : Option ℕ). is_some o) is)))

module _ (least most : ℕ) (below : most < 2 ^ 64) where
  pub number_word : (word : Text) (n : ℕ) → number_within (between least most) word ≡ Some n
      → IsNumberWord least most word n
  number_word word n is =
      let short = some_if (nat_le (length word) 8) _ n is in
      let parts = number_if (is_number word) (digits_value 10 word) n
      (within_range (between least most)) short.1 in
      let facts = number_facts word parts.0 in
      let range = within_is least most (digits_value 10 word) n parts.1 in
      record {
        plain = facts.0;
        passes = ap (λ (ds : Text). is_numeral ds &&
            (nat_lt (digits_value 10 ds) (2 ^ 64) &&
            (nat_le least (digits_value 10 ds) && nat_le (digits_value 10 ds) most))) facts.1
            ∙ rw (
              facts.2,
              range.0,
              lt-ltb n (2 ^ 64)
                  (omega (arith, range.2, below)),
              le-leb least n range.1,
              le-leb n most range.2,
            )
            refl;
        read = read_by 64 facts.1 facts.2 range.0
            (lt-ltb n (2 ^ 64) (omega (arith, range.2, below)));
        small = λ few. read_by 32 facts.1 facts.2 range.0
            (lt-ltb n (2 ^ 32) (omega (arith, range.2, ltb-true most (2 ^ 32) few)));
        low = range.1;
        high = range.2;
      }
    where
      read_by : (bits : ℕ) → without_leading_plus word ≡ word → is_numeral word ≡ true
          → digits_value 10 word ≡ n → nat_lt n (2 ^ bits) ≡ true → number_read bits word ≡ Some n
      read_by bits same numeral value few =
          ap (λ (ds : Text). if is_numeral ds && nat_lt (digits_value 10 ds) (2 ^ bits)
          then Some (digits_value 10 ds) else None) same
          ∙ rw (numeral, value, few) refl

-- a number is no option
pub number_named : (range : Range) (word : Text) (n : ℕ) → number_within range word ≡ Some n
    → is_word_for_name word ≡ true
number_named range word n is =
    let short = some_if (nat_le (length word) 8) _ n is in
    let parts = number_if (is_number word) (digits_value 10 word) n (within_range range) short.1 in
    named word parts.0
  where
    named : (word : Text) → is_number word ≡ true → is_word_for_name word ≡ true
    named [] is = absurd (true≢false (sym is))
    named (b ∷ bytes) is =
        let digits : all_ascii_digits (b ∷ bytes) ≡ true = (both _ _ is).1 in
        let other : (b == 45) ≡ false = (digit_first b bytes digits).2 in
        rw other refl
