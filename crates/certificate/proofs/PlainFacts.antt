-- Fields without commas and line feeds are found where they were put together.
use Rattle.std.proofs.Common.{◌≡◌, ◌≢◌, ℕ, suc, ◌*◌, ◌^◌, ◌<◌, ◌≤◌, ◌&&◌, Bool, true, false, List, [], ◌∷◌, ◌++◌, length, refl, sym, ap, subst, ◌∙◌, arith, append_assoc, length-append, ℤ, pos, negsuc}
use Rattle.std.specs.Prelude.{All, not, unsigned_abs}
use Rattle.std.specs.Fmt.{decimal, signed_decimal}
use Rattle.std.specs.List.{list_all}
use Rattle.std.specs.Str.Parse.{AllDigits}
use Rattle.std.proofs.lemmas.Bool.{and_parts, false≢true, ne_eqb}
use Rattle.std.proofs.lemmas.Fmt.{decimal_is_IsNumeral_wide}
use Rattle.std.proofs.lemmas.Str.Parse.{digit_from_value}
use Rattle.hex.specs.Hex.{IsBytes, encode_lower}
use Rattle.flow_types.specs.Words.{is_name_byte}
use Rattle.std.proofs.lemmas.List.{append-nil}
use Rattle.std.proofs.lemmas.List.Elements.{All-cons, All-nil, All-append}
use Rattle.std.proofs.lemmas.List.Splits.{slice_split_at, slice_split_none}
use Rattle.certificate.specs.Fields.{fields_of, is_comma}
use Rattle.certificate.specs.Lines.{fields_text, line_of}
use Rattle.certificate.specs.Reading.{is_feed}
use Rattle.certificate.specs.Readers.{AreNoFeeds}
use Rattle.certificate.proofs.BackFacts.{digits_pass}

-- neither a comma nor a line feed
abbrev pub is_plain : ℕ → Bool
is_plain b = not (is_comma b) && not (is_feed b)

abbrev pub IsPlain : List ℕ → Type 0
IsPlain field = list_all is_plain field ≡ true

not_true : (b : Bool) → not b ≡ true → b ≡ false
not_true false is = refl
not_true true is = absurd (let e : ⊥ = cc in e)

pub no_commas : (field : List ℕ) → IsPlain field → All (λ b. is_comma b ≡ false) field
no_commas [] plain = All-nil (λ b. is_comma b ≡ false)
no_commas (b ∷ field) plain =
    let parts = and_parts (is_plain b) (list_all is_plain field) plain in
    let here = and_parts (not (is_comma b)) (not (is_feed b)) parts.0 in
    All-cons (λ b. is_comma b ≡ false) b field (not_true (is_comma b) here.0)
    (no_commas field parts.1)

pub no_feeds : (field : List ℕ) → IsPlain field → AreNoFeeds field
no_feeds [] plain = All-nil (λ b. is_feed b ≡ false)
no_feeds (b ∷ field) plain =
    let parts = and_parts (is_plain b) (list_all is_plain field) plain in
    let here = and_parts (not (is_comma b)) (not (is_feed b)) parts.0 in
    All-cons (λ b. is_feed b ≡ false) b field (not_true (is_feed b) here.1)
    (no_feeds field parts.1)

plain_byte : (b : ℕ) → b ≢ 44 → b ≢ 10 → is_plain b ≡ true
plain_byte b comma feed = rw (ne_eqb b 44 comma, ne_eqb b 10 feed) refl

plain_digits : (bytes : List ℕ) → AllDigits 10 bytes → IsPlain bytes
plain_digits [] digits = refl
plain_digits (b ∷ bytes) digits =
    let range = digit_from_value b digits.0 in
    let low = range.0 in
    rw (plain_byte b (λ e. omega (arith, low, e)) (λ e. omega (arith, low, e)))
    (plain_digits bytes digits.1)

pub plain_decimal : (n : ℕ) → n < 10 ^ 64 → IsPlain (decimal n)
plain_decimal n small = plain_digits (decimal n) (decimal_is_IsNumeral_wide n small).0.1

pub plain_signed : (z : ℤ) → unsigned_abs z < 10 ^ 38 → IsPlain (signed_decimal z)
plain_signed (pos n) few = plain_decimal n (omega (arith, few))
plain_signed (negsuc n) few = plain_decimal (suc n) (omega (arith, few))

plain_name_byte : (b : ℕ) → is_name_byte b ≡ true → is_plain b ≡ true
plain_name_byte b named =
    plain_byte b (λ is. false≢true (subst (λ (c : ℕ). is_name_byte c ≡ true) is named))
    (λ is. false≢true (subst (λ (c : ℕ). is_name_byte c ≡ true) is named))

pub plain_name : (bytes : List ℕ) → list_all is_name_byte bytes ≡ true → IsPlain bytes
plain_name [] named = refl
plain_name (b ∷ bytes) named =
    let parts = and_parts (is_name_byte b) (list_all is_name_byte bytes) named in
    rw (plain_name_byte b parts.0) (plain_name bytes parts.1)

pub plain_digest : (digest : List ℕ) → IsBytes digest → IsPlain (encode_lower digest)
plain_digest digest small = digits_pass is_plain refl digest small

-- fields that are plain, and none longer than this
pub record IsField (most : ℕ) (field : List ℕ) : Type 0 where
  pub plain : IsPlain field
  pub short : length field ≤ most

abbrev pub AreFields : ℕ → List (List ℕ) → Type 0
AreFields most [] = Unit {0}
AreFields most (field ∷ fields) = IsField most field × AreFields most fields

-- fields, each after a comma
abbrev pub after_commas : List (List ℕ) → List ℕ
after_commas [] = []
after_commas (field ∷ fields) = 44 ∷ (field ++ after_commas fields)

text_is : (fields : List (List ℕ)) → fields_text fields ≡ after_commas fields ++ 10 ∷ []
text_is [] = refl
text_is (field ∷ fields) =
    ap (λ (more : List ℕ). 44 ∷ (field ++ more)) (text_is fields)
    ∙ ap (λ (more : List ℕ). 44 ∷ more) (sym (append_assoc field (after_commas fields) (10 ∷ [])))

-- a line and its line feed
pub line_is : (word : List ℕ) (fields : List (List ℕ))
    → line_of word fields ≡ (word ++ after_commas fields) ++ 10 ∷ []
line_is word fields =
    ap (λ (more : List ℕ). word ++ more) (text_is fields)
    ∙ sym (append_assoc word (after_commas fields) (10 ∷ []))

pub fields_back : (most : ℕ) (word : List ℕ) (fields : List (List ℕ)) → IsPlain word
    → AreFields most fields → fields_of (word ++ after_commas fields) ≡ word ∷ fields
fields_back most word [] plain are =
    ap fields_of (append-nil word) ∙ slice_split_none is_comma word (no_commas word plain)
fields_back most word (field ∷ fields) plain are =
    slice_split_at is_comma word 44 (field ++ after_commas fields) (no_commas word plain) refl
    ∙ ap (λ (more : List (List ℕ)). word ∷ more)
    (fields_back most field fields are.0.plain are.1)

feeds_after : (most : ℕ) (fields : List (List ℕ)) → AreFields most fields
    → AreNoFeeds (after_commas fields)
feeds_after most [] are = All-nil (λ b. is_feed b ≡ false)
feeds_after most (field ∷ fields) are =
    All-cons (λ b. is_feed b ≡ false) 44 (field ++ after_commas fields) refl
    (All-append (λ b. is_feed b ≡ false) field (after_commas fields) (no_feeds field are.0.plain)
    (feeds_after most fields are.1))

pub line_plain : (most : ℕ) (word : List ℕ) (fields : List (List ℕ)) → IsPlain word
    → AreFields most fields → AreNoFeeds (word ++ after_commas fields)
line_plain most word fields plain are =
    All-append (λ b. is_feed b ≡ false) word (after_commas fields) (no_feeds word plain)
    (feeds_after most fields are)

-- they take no more bytes than this
pub length_after : (fields : List (List ℕ)) → AreFields 64 fields
    → length (after_commas fields) ≤ 65 * length fields
length_after [] are = omega arith
length_after (field ∷ fields) are =
    let short = are.0.short in
    let more = length_after fields are.1 in
    omega (arith, short, more, length-append field (after_commas fields))

pub length_numbers : (fields : List (List ℕ)) → AreFields 39 fields
    → length (after_commas fields) ≤ 40 * length fields
length_numbers [] are = omega arith
length_numbers (field ∷ fields) are =
    let short = are.0.short in
    let more = length_numbers fields are.1 in
    omega (arith, short, more, length-append field (after_commas fields))
