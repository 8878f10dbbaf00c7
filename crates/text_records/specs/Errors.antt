-- What a reader of records answers: a value, or the first fault.
use Rattle.std.specs.Prelude.{◌≡◌, ℕ, Result, Ok, Err}
use Rattle.flow_types.specs.declared.fault.Cause.{Cause}
use Rattle.flow_types.specs.declared.fault.Fault.{Fault}
use Rattle.text_records.specs.declared.error.FieldFault.{FieldFault}
use Rattle.text_records.specs.declared.error.RecordError.{RecordError}
use Rattle.text_records.specs.declared.error.RecordError.TheVariants as error
use Rattle.text_records.specs.declared.error.Refusal.{Refusal}
use Rattle.text_records.specs.declared.error.Refusal.TheVariants as refusal

-- one step after another: the first that fails is the answer
infixl 10 ◌>>=◌
abbrev pub ◌>>=◌ : {A B E : Type 0} → Result A E → (A → Result B E) → Result B E
(Ok x) >>= next = next x
(Err e) >>= next = Err e

abbrev pub fault_in : ℕ → Cause → FieldFault
fault_in field cause = record { field = field; cause = cause }

abbrev pub fault_at : ℕ → ℕ → Cause → Fault
fault_at number field cause = record { at = number; field = field; cause = cause }

-- the fault of a field, in the record of this number
abbrev pub fault_of : ℕ → FieldFault → Fault
fault_of number fault = fault_at number fault.field fault.cause

-- what the record of this number gave
abbrev pub in_record : {A : Type 0} → ℕ → Result A FieldFault → Result A Fault
in_record number (Ok x) = Ok x
in_record number (Err fault) = Err (fault_of number fault)

-- why a text isn't read whose record of this number isn't taken in
abbrev pub refusal_of : ℕ → RecordError → Refusal
refusal_of number (error.Field fault) = refusal.Text (fault_of number fault)
refusal_of number error.OutOfMemory = refusal.OutOfMemory

-- A function that takes no memory answered, seen by `view`, what the definition gives.
abbrev pub Finds : {X Y : Type 0} → (X → Y) → Result X FieldFault → Result Y FieldFault → Type 0
Finds view (Ok x) found = found ≡ Ok (view x)
Finds view (Err fault) found = found ≡ Err fault

-- A record's function answered what the definition gives, unless there was no memory.
abbrev pub Stops : {Y : Type 0} → RecordError → Result Y FieldFault → Type 0
Stops error.OutOfMemory found = Unit {0}
Stops (error.Field fault) found = found ≡ Err fault

abbrev pub Gives : {X Y : Type 0} → (X → Y) → Result X RecordError → Result Y FieldFault → Type 0
Gives view (Ok x) found = found ≡ Ok (view x)
Gives view (Err e) found = Stops e found

-- A text's function answered what the definition gives, unless there was no memory.
abbrev pub Refuses : {Y : Type 0} → Refusal → Result Y Fault → Type 0
Refuses refusal.OutOfMemory read = Unit {0}
Refuses (refusal.Text fault) read = read ≡ Err fault

abbrev pub Reads : {X Y : Type 0} → (X → Y) → Result X Refusal → Result Y Fault → Type 0
Reads view (Ok x) read = read ≡ Ok (view x)
Reads view (Err e) read = Refuses e read
