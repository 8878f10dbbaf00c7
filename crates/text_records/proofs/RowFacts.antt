-- How the records of a text follow one another.
use Rattle.std.proofs.Common.{◌≡◌, ℕ, zero, suc, ◌+◌, ◌≤◌, ◌<◌, Bool, true, false, cond, eqb, List, [], ◌∷◌, ◌++◌, length, Option, Some, None, refl, ap, arith}
use Rattle.std.proofs.lemmas.Option.{same_Some}
use Rattle.csv.specs.Machine.{Read, ends_at_end, field_after, fields_after, is_end, next_record, step, in_field, after_end, ends_with, start_field, start_record}
use Rattle.csv.specs.Reading.{default_config, is_bom, records_from, records_next, strip_bom}
use Rattle.csv.specs.declared.parser.Action.{Action}
use Rattle.csv.specs.declared.parser.State.{State}
use Rattle.csv.specs.declared.parser.State.TheVariants as st
use Rattle.text_records.specs.Rows.{Fields, rows_from, rows_of}

-- a step that ends a record leaves a state at which one may start
abbrev Leaves : State × Action → Type 0
Leaves next = is_end next.1 ≡ true → ends_at_end next.0 ≡ false

chosen : (b : Bool) (x y : State × Action) → Leaves x → Leaves y → Leaves (cond b x y)
chosen true x y p q = p
chosen false x y p q = q

after : (c : ℕ) → ends_at_end (after_end default_config.terminator c) ≡ false
after c = by (eqb c 13)
  where
    by : (b : Bool) → ends_at_end (cond b st.AfterCr st.StartRecord) ≡ false
    by true = refl
    by false = refl

leaves_field : (c : ℕ) → Leaves (in_field default_config c)
leaves_field c =
    chosen (eqb c 44) _ _ (λ e. cc)
    (chosen (ends_with default_config.terminator c) _ _ (λ e. after c) (λ e. cc))

leaves_start : (c : ℕ) → Leaves (start_field default_config c)
leaves_start c = chosen (eqb c 34) _ _ (λ e. cc) (leaves_field c)

leaves_record : (c : ℕ) → Leaves (start_record default_config c)
leaves_record c = chosen (ends_with default_config.terminator c) _ _ (λ e. cc) (leaves_start c)

leaves : (s : State) (c : ℕ) → Leaves (step default_config s c)
leaves st.StartRecord c = leaves_record c
leaves st.StartField c = leaves_start c
leaves st.InField c = leaves_field c
leaves st.InQuoted c = chosen (eqb c 34) _ _ (λ e. cc) (λ e. cc)
leaves st.InEscape c = λ e. cc
leaves st.AfterQuote c = chosen (eqb c 34) _ _ (λ e. cc) (leaves_field c)
leaves st.InComment c = chosen (eqb c 10) _ _ (λ e. cc) (λ e. cc)
leaves st.AfterCr c = chosen (eqb c 10) _ _ (λ e. cc) (leaves_record c)

-- a record was read: it took a byte, if there was one, and the next may start after it
pub record IsTaken (bytes : List ℕ) (read : Read) : Type 0 where
  pub fits : length read.2 ≤ length bytes
  pub shorter : 0 < length bytes → length read.2 < length bytes
  pub start : ends_at_end read.1 ≡ false

taken_eq : (bytes : List ℕ) (x y : Read) → x ≡ y → IsTaken bytes x → IsTaken bytes y
taken_eq bytes x y e t = rw (← e) t

taken_more : (c : ℕ) (rest : List ℕ) (read : Read) → IsTaken rest read → IsTaken (c ∷ rest) read
taken_more c rest read t =
    record { fits = omega arith; shorter = λ h. omega arith; start = t.start }

pub taken : (bytes : List ℕ) (s : State) (fields : Fields) (field : List ℕ) (read : Read)
    → next_record default_config s fields field bytes ≡ Some read → IsTaken bytes read
unfolding next_record
taken [] s fields field read e = at_end (ends_at_end s) e
  where
    at_end : (b : Bool) → cond b (Some (fields ++ (field ∷ []), st.StartRecord, [])) None
        ≡ Some read → IsTaken [] read
    at_end true e =
        taken_eq [] (fields ++ (field ∷ []), st.StartRecord, []) read (same_Some _ _ e)
        (record { fits = omega arith; shorter = λ h. absurd (omega arith); start = refl })
    at_end false e = absurd cc
taken (c ∷ rest) s fields field read e =
    by (is_end (step default_config s c).1) refl e (taken rest (step default_config s c).0 _ _ read)
  where
    by : (b : Bool) → is_end (step default_config s c).1 ≡ b
        → cond (is_end (step default_config s c).1)
        (Some (
          fields_after (step default_config s c).1 fields field,
          (step default_config s c).0,
          rest,
        ))
        (next_record default_config (step default_config s c).0
        (fields_after (step default_config s c).1 fields field)
        (field_after (step default_config s c).1 c field) rest)
        ≡ Some read
        → (next_record default_config (step default_config s c).0
        (fields_after (step default_config s c).1 fields field)
        (field_after (step default_config s c).1 c field) rest ≡ Some read → IsTaken rest read)
        → IsTaken (c ∷ rest) read
    by true ends e more =
        taken_eq (c ∷ rest) (
          fields_after (step default_config s c).1 fields field,
          (step default_config s c).0,
          rest,
        ) read (same_Some _ _ (rw ends at e))
        (record { fits = omega arith; shorter = λ h. omega arith; start = leaves s c ends })
    by false ends e more = taken_more c rest read (more (rw ends at e))

none_left : (s : State) → ends_at_end s ≡ false → next_record default_config s [] [] [] ≡ None
unfolding next_record
none_left s e = rw e refl

-- where a record may start, one takes a byte
took_byte : (bytes : List ℕ) (s : State) (read : Read) → ends_at_end s ≡ false
    → next_record default_config s [] [] bytes ≡ Some read → length read.2 < length bytes
took_byte [] s read start e = let none = none_left s start in absurd cc
took_byte (c ∷ rest) s read start e = (taken (c ∷ rest) s [] [] read e).shorter (omega arith)

-- the count by which the definition goes down makes no difference, where it is above the bytes
enough : (n m : ℕ) (s : State) (bytes : List ℕ) → ends_at_end s ≡ false → length bytes < n
    → length bytes < m
    → records_from default_config n s bytes ≡ records_from default_config m s bytes
unfolding records_from
enough zero m s bytes start p q = absurd (omega arith)
enough (suc n) zero s bytes start p q = absurd (omega arith)
enough (suc n) (suc m) s bytes start p q =
    by (next_record default_config s [] [] bytes) refl (enough n m)
  where
    by : (o : Option Read) → next_record default_config s [] [] bytes ≡ o
        → ((t : State) (rest : List ℕ) → ends_at_end t ≡ false → length rest < n → length rest < m
        → records_from default_config n t rest ≡ records_from default_config m t rest)
        → records_next (records_from default_config n) o
        ≡ records_next (records_from default_config m) o
    by None e more = refl
    by (Some read) e more =
        let byte = took_byte bytes s read start e in
        ap (λ (rows : List Fields). read.0 ∷ rows)
        (more read.1 read.2 (taken bytes s [] [] read e).start (omega arith) (omega arith))

-- a record stands in front of those after it
pub first_row : (s : State) (bytes : List ℕ) (read : Read) → ends_at_end s ≡ false
    → next_record default_config s [] [] bytes ≡ Some read
    → rows_from s (Some bytes) ≡ read.0 ∷ rows_from read.1 (Some read.2)
unfolding records_from
first_row s bytes read start e =
    let byte = took_byte bytes s read start e in
    let one : length bytes + 1 ≡ suc (length bytes) = omega arith in
    rw (one, e)
    (ap (λ (rows : List Fields). read.0 ∷ rows)
    (enough (length bytes) (length read.2 + 1) read.1 read.2 (taken bytes s [] [] read e).start byte
    (omega arith)))

pub no_row : (s : State) (bytes : List ℕ) → next_record default_config s [] [] bytes ≡ None
    → rows_from s (Some bytes) ≡ []
unfolding records_from
no_row s bytes e =
    let one : length bytes + 1 ≡ suc (length bytes) = omega arith in
    rw (one, e) refl

-- there are no more records than bytes
few : (n : ℕ) (s : State) (bytes : List ℕ) → ends_at_end s ≡ false
    → length (records_from default_config n s bytes) ≤ length bytes
unfolding records_from
few zero s bytes start = omega arith
few (suc n) s bytes start = by (next_record default_config s [] [] bytes) refl (few n)
  where
    by : (o : Option Read) → next_record default_config s [] [] bytes ≡ o
        → ((t : State) (rest : List ℕ) → ends_at_end t ≡ false
        → length (records_from default_config n t rest) ≤ length rest)
        → length (records_next (records_from default_config n) o) ≤ length bytes
    by None e more = omega arith
    by (Some read) e more =
        let byte = took_byte bytes s read start e in
        let rest = more read.1 read.2 (taken bytes s [] [] read e).start in
        omega arith

pub few_rows : (s : State) (bytes : List ℕ) → ends_at_end s ≡ false
    → length (rows_from s (Some bytes)) ≤ length bytes
few_rows s bytes start = few (length bytes + 1) s bytes start

strip_fits : (bytes : List ℕ) → length (strip_bom bytes) ≤ length bytes
unfolding strip_bom
strip_fits [] = omega arith
strip_fits (a ∷ []) = omega arith
strip_fits (a ∷ b ∷ []) = omega arith
strip_fits (a ∷ b ∷ c ∷ rest) = by (is_bom a b c)
  where
    by : (mark : Bool) → length (cond mark rest (a ∷ b ∷ c ∷ rest)) ≤ length (a ∷ b ∷ c ∷ rest)
    by true = omega arith
    by false = omega arith

pub few_of_text : (bytes : List ℕ) → length (rows_of bytes) ≤ length bytes
few_of_text bytes =
    let rows = few_rows st.StartRecord (strip_bom bytes) refl in
    let fits = strip_fits bytes in
    omega arith
