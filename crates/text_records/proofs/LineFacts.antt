-- Lines of fields that need no quotes are read as these fields.
use Rattle.std.proofs.Common.{◌≡◌, ◌≢◌, ℕ, zero, suc, ◌+◌, ◌-◌, ◌/◌, ◌%◌, ◌<◌, ◌≤◌, ◌==◌, ◌&&◌, Bool, true, false, nat_le, ℤ, pos, negsuc, List, [], ◌∷◌, ◌++◌, length, Some, refl, sym, ap, subst, ◌∙◌, arith, length-append}
use Rattle.std.specs.Prelude.{if◌then◌else◌}
use Rattle.std.specs.List.{list_all, list_any}
use Rattle.std.specs.Fmt.{decimal, digit_glyph, digits, digits_onto, signed_decimal}
use Rattle.std.proofs.lemmas.Bool.{false≢true, lt-ltb, ne_eqb}
use Rattle.csv.specs.Machine.{next_record}
use Rattle.csv.specs.Reading.{default_config, records_from, strip_bom}
use Rattle.csv.specs.Writing.{default_writer, field_text, fields_text, is_blank, needs_byte, row_text}
use Rattle.csv.specs.declared.parser.State.TheVariants as st
use Rattle.csv.proofs.RoundTrip.{read-write}
use Rattle.flow_types.specs.Words.{is_name, is_name_byte}
use Rattle.text_records.specs.Rows.{Fields, rows_of}

-- no byte of the field calls for quotes
abbrev pub IsPlain : List ℕ → Type 0
IsPlain field = list_any (needs_byte default_writer) field ≡ false

abbrev pub ArePlain : Fields → Type 0
ArePlain [] = Unit {0}
ArePlain (field ∷ fields) = IsPlain field × ArePlain fields

-- fields after the first, and a line of fields
abbrev pub more_fields : Fields → List ℕ
more_fields [] = []
more_fields (field ∷ fields) = 44 ∷ (field ++ more_fields fields)

abbrev pub line_of : Fields → List ℕ
line_of [] = 10 ∷ []
line_of (field ∷ fields) = (field ++ more_fields fields) ++ (10 ∷ [])

abbrev pub lines_of : List Fields → List ℕ
lines_of [] = []
lines_of (line ∷ lines) = line_of line ++ lines_of lines

-- two plain fields at least
abbrev pub IsPlainLine : Fields → Type 0
IsPlainLine [] = ⊥
IsPlainLine (field ∷ []) = ⊥
IsPlainLine (field ∷ next ∷ fields) = IsPlain field × (IsPlain next × ArePlain fields)

abbrev pub ArePlainLines : List Fields → Type 0
ArePlainLines [] = Unit {0}
ArePlainLines (line ∷ lines) = IsPlainLine line × ArePlainLines lines

plain_field : (field : List ℕ) → IsPlain field → field_text default_writer field ≡ field
plain_field field plain = rw plain refl

plain_more : (fields : Fields) → ArePlain fields
    → fields_text default_writer fields ≡ more_fields fields
unfolding fields_text
plain_more [] plain = refl
plain_more (field ∷ fields) plain = rw (plain_field field plain.0, plain_more fields plain.1) refl

plain_row : (line : Fields) → IsPlainLine line → row_text default_writer line ≡ line_of line
unfolding is_blank
plain_row [] plain = absurd plain
plain_row (field ∷ []) plain = absurd plain
plain_row (field ∷ next ∷ fields) plain =
    rw (plain_field field plain.0, plain_more (next ∷ fields) plain.1) refl

-- the next record of lines is the first line
first_line : (line : Fields) (tail : List ℕ) → IsPlainLine line
    → next_record default_config st.StartRecord [] [] (line_of line ++ tail)
    ≡ Some (line, st.StartRecord, tail)
first_line [] tail plain = absurd plain
first_line (field ∷ []) tail plain = absurd plain
first_line (field ∷ next ∷ fields) tail plain =
    subst (λ (text : List ℕ). next_record default_config st.StartRecord [] [] (text ++ tail)
    ≡ Some (field ∷ next ∷ fields, st.StartRecord, tail))
    (plain_row (field ∷ next ∷ fields) plain) (read-write (field ∷ next ∷ fields) tail)

no_lines : (more : ℕ) → records_from default_config more st.StartRecord [] ≡ []
unfolding records_from next_record
no_lines zero = refl
no_lines (suc more) = refl

all_lines : (lines : List Fields) (more : ℕ) → ArePlainLines lines
    → records_from default_config (length lines + more) st.StartRecord (lines_of lines) ≡ lines
unfolding records_from
all_lines [] more plain = no_lines (0 + more)
all_lines (line ∷ lines) more plain =
    let most : length (line ∷ lines) + more ≡ suc (length lines + more) = omega arith in
    let step : records_from default_config (suc (length lines + more)) st.StartRecord
    (line_of line ++ lines_of lines) ≡ line ∷ lines =
    rw (first_line line (lines_of lines) plain.0)
    (ap (λ (rows : List Fields). line ∷ rows) (all_lines lines more plain.1)) in
    ap (λ (n : ℕ). records_from default_config n st.StartRecord (line_of line ++ lines_of lines))
    most ∙ step

some_bytes : (line : Fields) → 1 ≤ length (line_of line)
some_bytes [] = omega arith
some_bytes (field ∷ fields) = omega (arith, length-append (field ++ more_fields fields) (10 ∷ []))

few_lines : (lines : List Fields) → length lines ≤ length (lines_of lines)
few_lines [] = omega arith
few_lines (line ∷ lines) =
    omega (arith, some_bytes line, few_lines lines, length-append (line_of line) (lines_of lines))

-- a text that doesn't begin with the first byte of the mark has no mark
no_mark : (b : ℕ) (rest : List ℕ) → (b == 0xEF) ≡ false → strip_bom (b ∷ rest) ≡ b ∷ rest
unfolding strip_bom
no_mark b [] other = refl
no_mark b (c ∷ []) other = refl
no_mark b (c ∷ d ∷ rest) other = rw other refl

-- lines of plain fields are read as these fields
pub rows_of_lines : (lines : List Fields) (b : ℕ) (rest : List ℕ) → ArePlainLines lines
    → lines_of lines ≡ b ∷ rest → (b == 0xEF) ≡ false
    → rows_of (lines_of lines) ≡ lines
rows_of_lines lines b rest plain begins other =
    let start : strip_bom (lines_of lines) ≡ lines_of lines =
    ap strip_bom begins ∙ no_mark b rest other ∙ sym begins in
    let room : length (lines_of lines) + 1 ≡ length lines
    + (length (lines_of lines) + 1 - length lines) = omega (arith, few_lines lines) in
    ap (λ (text : List ℕ). records_from default_config (length text + 1) st.StartRecord text) start
    ∙ ap (λ (most : ℕ). records_from default_config most st.StartRecord (lines_of lines)) room
    ∙ all_lines lines (length (lines_of lines) + 1 - length lines) plain

plain_byte : (b : ℕ) → b ≢ 44 → b ≢ 34 → b ≢ 13 → b ≢ 10 → needs_byte default_writer b ≡ false
plain_byte b comma quote return feed =
    rw (ne_eqb b 44 comma, ne_eqb b 34 quote, ne_eqb b 13 return, ne_eqb b 10 feed) refl

plain_name_byte : (b : ℕ) → is_name_byte b ≡ true → needs_byte default_writer b ≡ false
plain_name_byte b named =
    plain_byte b (λ is. false≢true (subst (λ (c : ℕ). is_name_byte c ≡ true) is named))
    (λ is. false≢true (subst (λ (c : ℕ). is_name_byte c ≡ true) is named))
    (λ is. false≢true (subst (λ (c : ℕ). is_name_byte c ≡ true) is named))
    (λ is. false≢true (subst (λ (c : ℕ). is_name_byte c ≡ true) is named))

both_hold : (a b : Bool) → (a && b) ≡ true → (a ≡ true) × (b ≡ true)
both_hold true b e = (refl, e)
both_hold false b e = absurd (false≢true e)

plain_name : (bytes : List ℕ) → list_all is_name_byte bytes ≡ true → IsPlain bytes
plain_name [] named = refl
plain_name (b ∷ bytes) named =
    let and_parts = both_hold (is_name_byte b) (list_all is_name_byte bytes) named in
    rw (plain_name_byte b and_parts.0) (plain_name bytes and_parts.1)

glyph_plain : (d : ℕ) → d < 10 → needs_byte default_writer (digit_glyph false d) ≡ false
glyph_plain d few =
    rw (lt-ltb d 10 few) (plain_byte (48 + d) (λ is. absurd (omega (arith, is)))
    (λ is. absurd (omega (arith, is))) (λ is. absurd (omega (arith, is)))
    (λ is. absurd (omega (arith, is))))

digits_plain : (most n : ℕ) (more : List ℕ) → IsPlain more
    → IsPlain (digits_onto most 10 false n more)
digits_plain zero n more plain = plain
digits_plain (suc most) n more plain =
    let first : IsPlain (digit_glyph false (n % 10) ∷ more) =
    rw (glyph_plain (n % 10) (omega arith)) plain in
    or_cases (n / 10 == 0) first
    (digits_plain most (n / 10) (digit_glyph false (n % 10) ∷ more) first)
  where
    or_cases : (last : Bool) → IsPlain (digit_glyph false (n % 10) ∷ more)
        → IsPlain (digits_onto most 10 false (n / 10) (digit_glyph false (n % 10) ∷ more))
        → IsPlain (if last then digit_glyph false (n % 10)
        ∷ more else digits_onto most 10 false (n / 10) (digit_glyph false (n % 10) ∷ more))
    or_cases true here rest = here
    or_cases false here rest = rest

-- what is written of a number is plain
pub plain_decimal : (n : ℕ) → IsPlain (decimal n)
unfolding digits
plain_decimal n = digits_plain 64 n [] refl

pub plain_signed : (z : ℤ) → IsPlain (signed_decimal z)
plain_signed (pos n) = plain_decimal n
plain_signed (negsuc n) = plain_decimal (suc n)

three_hold : (a b c : Bool) → (a && b && c) ≡ true → c ≡ true
three_hold true true c e = e
three_hold true false c e = absurd (false≢true e)
three_hold false b c e = absurd (false≢true e)

-- a name is plain
pub plain_if_name : (bytes : List ℕ) → is_name bytes ≡ true → IsPlain bytes
plain_if_name bytes named =
    plain_name bytes (three_hold (nat_le 1 (length bytes)) (nat_le (length bytes) 32)
    (list_all is_name_byte bytes) named)
