-- What is answered where a day is to be planned, and a certificate of it stored.
use Rattle.std.specs.Prelude.{◌≡◌, ◌⊎◌, ℕ, ◌<◌, ◌≤◌, List, [], ◌∷◌, length, codes}
use Rattle.sha2.specs.Sha256.{sha256}
use Rattle.flow_outside.specs.Counts.{Rose}
use Rattle.flow_outside.specs.Held.{KeepsOthers, stored}
use Rattle.flow_outside.specs.Seen.{AreKept, FilesSeen}
use Rattle.flow_types.specs.declared.parts.Parts.{Parts}
use Rattle.time_windows.specs.Boxes.{root_box}
use Rattle.tree_search.specs.Records.{IsSearchRecord}
use Rattle.tree_search.specs.declared.found.Budget.{Budget}
use Rattle.tree_search.specs.declared.found.Found.{Found}
use Rattle.certificate.specs.Limits.{most_cert_bytes}
use Rattle.certificate.specs.Texts.{cert_text}
use Rattle.flow_cli.specs.Own.{certified, most_bytes_of}
use Rattle.flow_cli.specs.declared.certifying.Certified.{Certified}
use Rattle.flow_cli.specs.declared.status.Status.TheVariants.{TooLong, WriteFault}
use Rattle.flow_cli.specs.Faults.{too_long_text}
use Rattle.flow_cli.specs.Outside.{Change, Printed, printed_by}
use Rattle.flow_cli.specs.Planning.{IsPlannedDay}
use Rattle.flow_cli.specs.Reading.{IsDayOf, IsWithoutDay}

-- no name but this one has changed, and counts don't fall
pub record AreOthersKept (before now : FilesSeen) (name : List ℕ) : Type 0 where
  pub others : KeepsOthers before.held now.held name
  pub faults : before.faults ≤ now.faults
  pub store_faults : before.store_faults ≤ now.store_faults

-- the name holds these bytes, and every other one what it had
pub record IsStored (files : Change FilesSeen) (name bytes : List ℕ) : Type 0 where
  pub held : files.now.held ≡ stored files.before.held name bytes
  pub store_faults : files.now.store_faults ≡ files.before.store_faults

-- the store failed: no other name has changed
pub record IsUnstored (files : Change FilesSeen) (name : List ℕ) (answer : Printed)
    : Type 0 where
  pub ends : answer.status ≡ WriteFault
  pub text : answer.text ≡ codes "fault,write\n"
  pub no_record : answer.records ≡ []
  pub others : KeepsOthers files.before.held files.now.held name
  pub failed : Rose files.before.store_faults files.now.store_faults

-- the answer once these bytes were to be stored, where this was to be answered then
abbrev pub IsAfterStore : Change FilesSeen → List ℕ → List ℕ → Printed → Printed → Type 0
IsAfterStore files name bytes told answer =
    ((answer ≡ told) × IsStored files name bytes) ⊎ IsUnstored files name answer

-- the digest is one of a text
pub record IsOfText (digest : List ℕ) : Type 0 where
  pub bytes : List ℕ
  pub is : digest ≡ sha256 bytes

-- The certificate of a record of the day whose text has this digest is longer than one may be, and
-- the record is handed back. So it is only where the budget lets certificates be so long.
pub record IsTooLongDay (parts : Parts) (digest : List ℕ) (budget : Budget) (answer : Printed)
    : Type 0 where
  pub found : Found
  pub records : answer.records ≡ found ∷ []
  pub searched : IsSearchRecord parts (root_box parts) budget found
  pub ends : answer.status ≡ TooLong
  pub above : most_cert_bytes < length (cert_text parts (certified digest found))
  pub text : answer.text ≡ too_long_text (length (cert_text parts (certified digest found)))
  pub only : most_cert_bytes < most_bytes_of parts budget.nodes

-- The day is planned, and these are the bytes of the certificate of the record that is handed back,
-- no more than a check reads.
pub record IsCertifiedDay (parts : Parts) (digest : List ℕ) (budget : Budget) (bytes : List ℕ)
    (answer : Printed) : Type 0 where
  pub planned : IsPlannedDay parts budget answer
  pub bytes_are : bytes ≡ cert_text parts (certified digest planned.found)
  pub within : length bytes ≤ most_cert_bytes

abbrev pub IsMade : Parts → List ℕ → Budget → Certified → Type 0
IsMade parts digest budget made =
    IsCertifiedDay parts digest budget made.text.items (printed_by made.answer)

-- it is stored
pub record IsStoredDay (files : Change FilesSeen) (parts : Parts) (digest cert : List ℕ)
    (budget : Budget) (answer : Printed) : Type 0 where
  pub bytes : List ℕ
  pub certified : IsCertifiedDay parts digest budget bytes answer
  pub stored : IsStored files cert bytes

-- or the store of it failed, and what would have been told isn't
pub record IsUnstoredDay (files : Change FilesSeen) (parts : Parts) (digest cert : List ℕ)
    (budget : Budget) (answer : Printed) : Type 0 where
  pub bytes : List ℕ
  pub told : Printed
  pub certified : IsCertifiedDay parts digest budget bytes told
  pub unstored : IsUnstored files cert answer

-- or nothing was to be stored
pub record IsKeptLong (files : Change FilesSeen) (parts : Parts) (digest : List ℕ)
    (budget : Budget) (answer : Printed) : Type 0 where
  pub long : IsTooLongDay parts digest budget answer
  pub kept : AreKept files.before files.now

abbrev pub IsOfDay : Change FilesSeen → Parts → List ℕ → List ℕ → Budget → Printed → Type 0
IsOfDay files parts digest cert budget answer =
    IsStoredDay files parts digest cert budget answer
    ⊎ (IsUnstoredDay files parts digest cert budget answer
    ⊎ IsKeptLong files parts digest budget answer)

-- the name holds a day, which is planned
pub record IsCertified (files : Change FilesSeen) (name cert : List ℕ) (budget : Budget)
    (answer : Printed) : Type 0 where
  pub parts : Parts
  pub day : IsDayOf files.before.held name parts
  pub of_day : IsOfDay files parts (sha256 day.bytes) cert budget answer

-- or it doesn't
pub record IsUncertified (files : Change FilesSeen) (name : List ℕ) (answer : Printed)
    : Type 0 where
  pub without : IsWithoutDay files name answer
  pub kept : AreKept files.before files.now

-- the answer where the day of the first name is to be planned, and a certificate of it stored under
-- the second
abbrev pub IsOfCertified : Change FilesSeen → List ℕ → List ℕ → Budget → Printed → Type 0
IsOfCertified files name cert budget answer =
    IsCertified files name cert budget answer ⊎ IsUncertified files name answer
