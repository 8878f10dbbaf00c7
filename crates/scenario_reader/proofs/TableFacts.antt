-- The values of a table, one after another.
use Rattle.std.proofs.Common.{◌≡◌, ℕ, zero, suc, ◌+◌, ◌-◌, ◌≤◌, List, [], ◌∷◌, ◌++◌, length, drop, min, Option, Some, None, Result, Ok, Err, ℤ, refl, sym, ap, ◌∙◌, arith, append_assoc}
use Rattle.std.specs.Prelude.{slice_get}
use Rattle.std.proofs.lemmas.List.{append-nil, drop_all}
use Rattle.std.proofs.lemmas.Option.{same_Some}
use Rattle.text_records.specs.Errors.{◌>>=◌}
use Rattle.text_records.specs.Fields.{field_in, present_at}
use Rattle.text_records.specs.Rows.{Fields}
use Rattle.text_records.specs.declared.error.FieldFault.{FieldFault}
use Rattle.scenario_reader.specs.Tables.{value_in, values_from}

-- the values so far, and then the others
abbrev pub with_values : List ℤ → Result (List ℤ) FieldFault → Result (List ℤ) FieldFault
with_values front read = read >>= λ values. Ok (front ++ values)

regroup : (front : List ℤ) (value : ℤ) (read : Result (List ℤ) FieldFault)
    → with_values front (read >>= λ values. Ok (value ∷ values))
    ≡ with_values (front ++ value ∷ []) read
regroup front value (Ok values) =
    ap (λ (vs : List ℤ). Ok vs) (sym (append_assoc front (value ∷ []) values))
regroup front value (Err fault) = refl

-- the field at a position, and those after it
pub rest_at : (fields : Fields) (k : ℕ) (bytes : List ℕ) → field_in fields (k + 1) ≡ Ok bytes
    → drop k fields ≡ bytes ∷ drop (k + 1) fields
rest_at fields k bytes e =
    let one : k + 1 - 1 ≡ k = omega arith in
    let next : k + 1 ≡ suc k = omega arith in
    rw next (there fields k bytes (some_of (slice_get fields k) (k + 1) bytes (rw one at e)))
  where
    some_of : (o : Option (List ℕ)) (number : ℕ) (bytes : List ℕ) → present_at number o ≡ Ok bytes
        → o ≡ Some bytes
    some_of None number bytes e = absurd cc
    some_of (Some field) number bytes e = cc

    there : (fields : Fields) (k : ℕ) (bytes : List ℕ) → slice_get fields k ≡ Some bytes
        → drop k fields ≡ bytes ∷ drop (suc k) fields
    there [] k bytes e = absurd cc
    there (field ∷ fields) zero bytes e = ap (λ (b : List ℕ). b ∷ fields) (same_Some field bytes e)
    there (field ∷ fields) (suc k) bytes e = there fields k bytes e

pub one_more : (front : List ℤ) (fields : Fields) (k : ℕ) (bytes : List ℕ) (value : ℤ)
    (total : Result (List ℤ) FieldFault)
    → drop k fields ≡ bytes ∷ drop (k + 1) fields → value_in (k + 1) bytes ≡ Ok value
    → with_values front (values_from (k + 1) (drop k fields)) ≡ total
    → with_values (front ++ value ∷ []) (values_from (k + 1 + 1) (drop (k + 1) fields)) ≡ total
unfolding values_from
one_more front fields k bytes value total here is so_far =
    sym (regroup front value (values_from (k + 1 + 1) (drop (k + 1) fields))) ∙ sym step ∙ so_far
  where
    step : with_values front (values_from (k + 1) (drop k fields))
        ≡ with_values front (values_from (k + 1 + 1) (drop (k + 1) fields)
        >>= λ values. Ok (value ∷ values))
    step = rw (here, is) refl

pub refused_at : (front : List ℤ) (fields : Fields) (k : ℕ) (bytes : List ℕ) (fault : FieldFault)
    (total : Result (List ℤ) FieldFault)
    → drop k fields ≡ bytes ∷ drop (k + 1) fields → value_in (k + 1) bytes ≡ Err fault
    → with_values front (values_from (k + 1) (drop k fields)) ≡ total → total ≡ Err fault
unfolding values_from
refused_at front fields k bytes fault total here is so_far = sym so_far ∙ step
  where
    step : with_values front (values_from (k + 1) (drop k fields)) ≡ Err fault
    step = rw (here, is) refl

pub all_done : (front : List ℤ) (fields : Fields) (k : ℕ) (total : Result (List ℤ) FieldFault)
    → length fields ≤ k
    → with_values front (values_from (k + 1) (drop k fields)) ≡ total → total ≡ Ok front
unfolding values_from
all_done front fields k total past so_far = sym so_far ∙ step
  where
    step : with_values front (values_from (k + 1) (drop k fields)) ≡ Ok front
    step = rw (drop_all k fields past) (ap (λ (vs : List ℤ). Ok vs) (append-nil front))

-- a position past the lesser of both, and not past the 514th, is past the fields
pub past_end : (fields : Fields) (k : ℕ) → min (length fields) 515 ≤ k → k ≤ 514 → length fields ≤ k
past_end fields k past within = omega (arith)
