-- Numbers in their one form: 0, or digits of which the first isn't 0; `-` in front of negative
-- ones.
use Rattle.std.specs.Prelude.{ℕ, zero, suc, ◌==◌, Bool, false, true, ◌&&◌, not, List, [], ◌∷◌, length, nat_le, Option, None, Some, if◌then◌else◌, ℤ, pos, negsuc, option_map}
use Rattle.std.specs.Str.{all_ascii_digits}
use Rattle.std.specs.Str.Parse.{digits_value}

-- as many digits as the largest number has that has a range: 2^126
abbrev pub most_digits : ℕ
most_digits = 38

-- some byte, and no 0 in front of another
abbrev pub is_bare : List ℕ → Bool
is_bare [] = false
is_bare (first ∷ []) = true
is_bare (first ∷ next ∷ rest) = not (first == 48)

abbrev pub is_numeral : List ℕ → Bool
is_numeral bytes = is_bare bytes && nat_le (length bytes) most_digits && all_ascii_digits bytes

abbrev pub natural_of : List ℕ → Option ℕ
natural_of bytes = if is_numeral bytes then Some (digits_value 10 bytes) else None

-- the negative of a number, which isn't 0
abbrev pub negative_of : Option ℕ → Option ℤ
negative_of None = None
negative_of (Some zero) = None
negative_of (Some (suc n)) = Some (negsuc n)

abbrev pub whole_of : List ℕ → Option ℤ
whole_of [] = None
whole_of (first ∷ rest) =
    if first == 45 then negative_of (natural_of rest)
    else option_map pos (natural_of (first ∷ rest))
