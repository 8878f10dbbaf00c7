-- The fields of a line, one after the other: what is found in the next one, and what is left then.
use Rattle.std.specs.Prelude.{ℕ, zero, suc, ◌==◌, ◌+◌, not, Bool, false, true, ◌&&◌, nat_le, List, [], ◌∷◌, Option, None, Some, Result, Ok, Err, if◌then◌else◌, codes, ℤ, unsigned_abs}
use Rattle.std.specs.List.{slice_split}
use Rattle.std.specs.Str.{bytes_eq}
use Rattle.text_records.specs.Errors.{◌>>=◌}
use Rattle.certificate.specs.declared.fault.LineFault.{LineFault}
use Rattle.certificate.specs.declared.fault.TextCause.TheVariants.{BadField}
use Rattle.certificate.specs.Numbers.{natural_of, whole_of}

-- what is left of a line, and the number of its first field, from 1
pub record FieldsLeft : Type 0 where
  pub number : ℕ
  pub fields : List (List ℕ)

-- divided by commas
abbrev pub is_comma : ℕ → Bool
is_comma b = b == 44

abbrev pub fields_of : List ℕ → List (List ℕ)
fields_of line = slice_split is_comma line

-- none where no bytes are left, not even those of an empty field
abbrev pub fields_in : Option (List ℕ) → List (List ℕ)
fields_in None = []
fields_in (Some bytes) = fields_of bytes

abbrev pub bad : ℕ → LineFault
bad number = record { field = number; cause = BadField }

abbrev pub field_or_bad : ℕ → List (List ℕ) → Result (List ℕ × FieldsLeft) LineFault
field_or_bad number [] = Err (bad number)
field_or_bad number (field ∷ rest) = Ok (field, record { number = number + 1; fields = rest })

abbrev pub field_from : FieldsLeft → Result (List ℕ × FieldsLeft) LineFault
field_from left = field_or_bad left.number left.fields

-- no field is left
abbrev pub end_or_bad : ℕ → List (List ℕ) → Result (Unit {0}) LineFault
end_or_bad number [] = Ok tt
end_or_bad number (field ∷ rest) = Err (bad number)

abbrev pub end_of_line : FieldsLeft → Result (Unit {0}) LineFault
end_of_line left = end_or_bad left.number left.fields

abbrev pub within : ℕ → ℕ → ℕ → Option ℕ → Result ℕ LineFault
within number low high None = Err (bad number)
within number low high (Some n) =
    if nat_le low n && nat_le n high then Ok n else Err (bad number)

-- a number from low to high
unfoldable pub number_from : ℕ → ℕ → FieldsLeft → Result (ℕ × FieldsLeft) LineFault
number_from low high left = do
  found ← field_from left
  n ← within left.number low high (natural_of found.0)
  Ok (n, found.1)

abbrev pub within_either : ℕ → ℕ → Option ℤ → Result ℤ LineFault
within_either number most None = Err (bad number)
within_either number most (Some z) =
    if nat_le (unsigned_abs z) most then Ok z else Err (bad number)

-- `none`, or a number no further from 0 than the most
abbrev pub whole_or_none : ℕ → ℕ → List ℕ → Result (Option ℤ) LineFault
whole_or_none number most field =
    if bytes_eq field (codes "none") then Ok None
    else (within_either number most (whole_of field) >>= λ z. Ok (Some z))

unfoldable pub whole_from : ℕ → FieldsLeft → Result (Option ℤ × FieldsLeft) LineFault
whole_from most left = do
  found ← field_from left
  z ← whole_or_none left.number most found.0
  Ok (z, found.1)

-- whether no field is left
abbrev pub is_nil : List (List ℕ) → Bool
is_nil [] = true
is_nil (field ∷ rest) = false

-- whether another one of at most so many is there
abbrev pub has_more : ℕ → FieldsLeft → Bool
has_more zero left = false
has_more (suc more) left = not (is_nil left.fields)
