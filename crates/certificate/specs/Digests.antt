-- A digest as its 64 digits, whose letters are in lower case.
use Rattle.std.specs.Prelude.{ℕ, Bool, ◌&&◌, ◌||◌, nat_le, List, Option, None, Some, Result, Ok, Err, if◌then◌else◌}
use Rattle.std.specs.List.{list_all}
use Rattle.hex.specs.Hex.{decode_sized}
use Rattle.hex.specs.declared.error.FromHexError.{FromHexError}

abbrev pub digest_size : ℕ
digest_size = 32

abbrev pub is_lower_digit : ℕ → Bool
is_lower_digit b = (nat_le 48 b && nat_le b 57) || (nat_le 97 b && nat_le b 102)

abbrev pub decoded : Result (List ℕ) FromHexError → Option (List ℕ)
decoded (Ok bytes) = Some bytes
decoded (Err error) = None

-- the bytes of a digest whose word this is
abbrev pub digest_of_word : List ℕ → Option (List ℕ)
digest_of_word word =
    if list_all is_lower_digit word then decoded (decode_sized word digest_size) else None
