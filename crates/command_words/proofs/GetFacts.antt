-- What the getters of matches read.
use Rattle.std.proofs.Common.{◌∙◌, ◌≡◌, ◌&&◌, ◌^◌, ℕ, Bool, [], ◌∷◌, Option, Some, None, refl, sym, ap, ap₂, true, false, nat_lt, length, lt-ltb, ltb-true, if◌then◌else◌}
use Rattle.std.specs.Prelude.{Result, Ok, Err}
use Rattle.std.specs.Option.{option_and_then}
use Rattle.std.specs.List.{list_all}
use Rattle.std.specs.Char.{digit_value}
use Rattle.std.specs.Str.Parse.{AllDigits, ParsesUnsigned, digits_value, without_leading_plus}
use Rattle.clap.specs.Matches.{ReadsOne, one_text}
use Rattle.clap.specs.ValueTests.{is_numeral}
use Rattle.clap.specs.Walk.{Text, rows_of}
use Rattle.clap.specs.declared.parser.matches.Found.{Found}
use Rattle.clap.proofs.WalkLemmas.{both, one_text-rows}
use Rattle.command_words.specs.Reading.{number_in, number_read}

digits_pass : (digits : Text) → AllDigits 10 digits
    → list_all (λ d. nat_lt (digit_value d) 10) digits ≡ true
digits_pass [] are = refl
digits_pass (d ∷ digits) are =
    ap₂ (λ (x y : Bool). x && y) (lt-ltb (digit_value d) 10 are.0) (digits_pass digits are.1)

digits_from : (digits : Text) → list_all (λ d. nat_lt (digit_value d) 10) digits ≡ true
    → AllDigits 10 digits
digits_from [] pass = tt
digits_from (d ∷ digits) pass =
    let parts = both (nat_lt (digit_value d) 10) _ pass in
    (ltb-true (digit_value d) 10 parts.0, digits_from digits parts.1)

module _ (bits : ℕ) (text : Text) where
  abbrev digits : Text
  digits = without_leading_plus text

  abbrev fits : Bool
  fits = is_numeral digits && nat_lt (digits_value 10 digits) (2 ^ bits)

  read_at_ok : (E : Type 0) (n : ℕ) → ParsesUnsigned {E = E} bits 10 text (Ok n)
      → Some n ≡ number_read bits text
  read_at_ok E n parses =
      let numeral : is_numeral digits ≡ true = ap₂ (λ (x y : Bool). x && y)
      (lt-ltb 0 (length digits) parses.0.0.0) (digits_pass digits parses.0.0.1) in
      let below = lt-ltb (digits_value 10 digits) (2 ^ bits) parses.0.1 in
      ap Some parses.1
      ∙ sym (ap₂ (λ (x y : Bool). if x && y then Some (digits_value 10 digits) else None) numeral
      below)

  read_at_err : (E : Type 0) (e : E) → ParsesUnsigned bits 10 text (Err e)
      → None ≡ number_read bits text
  read_at_err E e refuses = go fits refl
    where
      go : (b : Bool) → fits ≡ b → None ≡ (if b then Some (digits_value 10 digits) else None)
      go false is = refl
      go true is =
          let parts = both (is_numeral digits) _ is in
          let numeral = both (nat_lt 0 (length digits)) _ parts.0 in
          absurd (refuses (
            (ltb-true 0 (length digits) numeral.0, digits_from digits numeral.1),
            ltb-true (digits_value 10 digits) (2 ^ bits) parts.1,
          ))

module _ {E : Type 0} (gives : Text → Result ℕ E → Type 0) (bits : ℕ)
    (parses : (text : Text) (r : Result ℕ E) → gives text r → ParsesUnsigned bits 10 text r) where
  read_one : (text : Text) (result : Option ℕ) → ReadsOne gives text result
      → result ≡ number_read bits text
  read_one text (Some n) reads = read_at_ok bits text E n (parses text (Ok n) reads)
  read_one text None reads = read_at_err bits text E reads.0 (parses text (Err reads.0) reads.1)

  pub number_got : (found : Found) (id : Text) (result : Option ℕ)
      → (one_text found id ≡ None → result ≡ None)
      → ((text : Text) → one_text found id ≡ Some text → ReadsOne gives text result)
      → result ≡ number_in bits id (rows_of found)
  number_got found id result none value =
      go (one_text found id) refl ∙ ap (option_and_then (number_read bits)) (one_text-rows found id)
    where
      go : (o : Option Text) → one_text found id ≡ o → result ≡ option_and_then (number_read bits) o
      go None is = none is
      go (Some text) is = read_one text result (value text is)
