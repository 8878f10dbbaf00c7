-- What is read under a name: a text, the day of a text, or why there is none.
use Rattle.std.specs.Prelude.{◌≡◌, ◌⊎◌, ℕ, ◌<◌, ◌≤◌, List, [], length, codes, Option, Ok, Err}
use Rattle.sha2.specs.Sha256.{sha256}
use Rattle.flow_outside.specs.Counts.{Rose}
use Rattle.flow_outside.specs.Held.{Held, IfTold, HasName}
use Rattle.flow_outside.specs.Seen.{FilesSeen}
use Rattle.flow_types.specs.declared.fault.Fault.{Fault}
use Rattle.flow_types.specs.Valid.{IsScenario}
use Rattle.flow_types.specs.declared.parts.Parts.{Parts}
use Rattle.flow_types.specs.Limits.{most_text_bytes}
use Rattle.scenario_reader.specs.Reading.{scenario_of}
use Rattle.flow_cli.specs.declared.status.Status.{Status}
use Rattle.flow_cli.specs.declared.status.Status.TheVariants.{BadScenario, ReadFault, TooLong}
use Rattle.flow_cli.specs.Faults.{fault_text, too_long_text}
use Rattle.flow_cli.specs.Outside.{Change, Printed}

-- the count of faults rises only where the status is that of a read fault
abbrev pub IsQuiet : Change FilesSeen → Status → Type 0
IsQuiet files status = (status ≡ ReadFault → ⊥) → files.now.faults ≡ files.before.faults

-- the name is there and holds these bytes, no more than a text may have
pub record IsTextOf (held : Option Held) (name bytes : List ℕ) : Type 0 where
  pub present : HasName held name
  pub source : IfTold held name (λ told. bytes ≡ told)
  pub within : length bytes ≤ most_text_bytes

-- the name is there and holds more bytes than so many, as a text may have
pub record IsTooMany (most : ℕ) (held : Option Held) (name : List ℕ) (answer : Printed)
    : Type 0 where
  pub present : HasName held name
  pub ends : answer.status ≡ TooLong
  pub size : ℕ
  pub source : IfTold held name (λ told. size ≡ length told)
  pub above : most < size
  pub text : answer.text ≡ too_long_text size
  pub no_record : answer.records ≡ []

-- the name isn't there, or a call failed
pub record IsFailed (files : Change FilesSeen) (name : List ℕ) (answer : Printed) : Type 0 where
  pub ends : answer.status ≡ ReadFault
  pub failed : HasName files.before.held name → Rose files.before.faults files.now.faults
  pub text : answer.text ≡ codes "fault,read\n"
  pub no_record : answer.records ≡ []

-- the answer where the text of a name isn't read
abbrev pub IsUnread : Change FilesSeen → List ℕ → Printed → Type 0
IsUnread files name answer =
    IsTooMany most_text_bytes files.before.held name answer ⊎ IsFailed files name answer

-- the name holds the text of this scenario, which is a valid one
pub record IsDayOf (held : Option Held) (name : List ℕ) (parts : Parts) : Type 0 where
  pub bytes : List ℕ
  pub text : IsTextOf held name bytes
  pub read : scenario_of bytes ≡ Ok parts
  pub valid : IsScenario parts

-- this is the digest of its text
pub record IsSignedDay (held : Option Held) (name : List ℕ) (parts : Parts) (digest : List ℕ)
    : Type 0 where
  pub day : IsDayOf held name parts
  pub signed : digest ≡ sha256 day.bytes

-- a text that is no scenario: what is printed is its first fault
pub record IsRefused (bytes : List ℕ) (answer : Printed) : Type 0 where
  pub fault : Fault
  pub read : scenario_of bytes ≡ Err fault
  pub ends : answer.status ≡ BadScenario
  pub text : answer.text ≡ fault_text fault
  pub no_record : answer.records ≡ []

-- the name holds one
pub record IsNoDay (held : Option Held) (name : List ℕ) (answer : Printed) : Type 0 where
  pub bytes : List ℕ
  pub source : IsTextOf held name bytes
  pub refused : IsRefused bytes answer

-- the answer where there is no day under the name
abbrev pub IsWithoutDay : Change FilesSeen → List ℕ → Printed → Type 0
IsWithoutDay files name answer = IsNoDay files.before.held name answer ⊎ IsUnread files name answer
