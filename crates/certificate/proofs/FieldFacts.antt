-- The fields of a line: there is one at least, and there are no more than bytes and one.
use Rattle.std.proofs.Common.{◌≡◌, ℕ, ◌+◌, ◌≤◌, Bool, true, false, List, [], ◌∷◌, length, Err, refl, arith}
use Rattle.std.specs.Prelude.{if◌then◌else◌}
use Rattle.std.specs.List.{onto_first, slice_split}
use Rattle.std.proofs.lemmas.List.Splits.{length-slice_split}
use Rattle.std.proofs.lemmas.List.Sums.{count_by-le-length}
use Rattle.certificate.specs.Fields.{bad, end_or_bad, fields_of, is_comma, is_nil}

some_onto : (x : ℕ) (parts : List (List ℕ)) → is_nil (onto_first x parts) ≡ false
some_onto x [] = refl
some_onto x (part ∷ parts) = refl

some_either : (b : Bool) (x : ℕ) (parts : List (List ℕ))
    → is_nil (if b then [] ∷ parts else onto_first x parts) ≡ false
some_either true x parts = refl
some_either false x parts = some_onto x parts

-- a list is divided into one part at least
pub some_part : (p : ℕ → Bool) (bytes : List ℕ) → is_nil (slice_split p bytes) ≡ false
some_part p [] = refl
some_part p (x ∷ bytes) = some_either (p x) x (slice_split p bytes)

pub some_field : (bytes : List ℕ) → is_nil (fields_of bytes) ≡ false
some_field bytes = some_part is_comma bytes

over_end : (number : ℕ) (fields : List (List ℕ)) → is_nil fields ≡ false
    → end_or_bad number fields ≡ Err (bad number)
over_end number [] some = absurd (let e : ⊥ = cc in e)
over_end number (field ∷ fields) some = refl

pub some_left : (number : ℕ) (bytes : List ℕ)
    → end_or_bad number (fields_of bytes) ≡ Err (bad number)
some_left number bytes = over_end number (fields_of bytes) (some_field bytes)

pub few_fields : (bytes : List ℕ) → length (fields_of bytes) ≤ length bytes + 1
few_fields bytes =
    omega (arith, length-slice_split is_comma bytes, count_by-le-length is_comma bytes)
