-- How a run ends.
use Rattle.std.specs.Prelude.{◌≡◌, ◌⊎◌, ℕ, List, [], Option, None, Some}
use Rattle.flow_outside.specs.Counts.{Rose}
use Rattle.flow_outside.specs.Seen.{AreKept, FilesSeen, SinkSeen}
use Rattle.flow_outside.specs.Written.{appended, AppendsPart}
use Rattle.flow_cli.specs.declared.answer.Ran.{Ran}
use Rattle.flow_cli.specs.declared.status.Status.TheVariants.{OutOfMemory, Usage, WriteFault}
use Rattle.flow_cli.specs.Certifying.{AreOthersKept, IsOfCertified}
use Rattle.flow_cli.specs.Checking.{IsOfCheck}
use Rattle.flow_cli.specs.Judging.{IsOfJudge}
use Rattle.flow_cli.specs.Outside.{Change, Printed}
use Rattle.flow_cli.specs.Planning.{IsOfPlan}
use Rattle.flow_cli.specs.Reading.{IsQuiet}
use Rattle.command_words.specs.Words.{Asked, Checked, Judged, Made, Planned, Tried, asked}
use Rattle.flow_cli.specs.Making.{IsOfMake, IsOfTrial}
use Rattle.flow_cli.specs.Words.{budget_of, usage_text}

-- the answer to words that make no command
pub record IsUsage (answer : Printed) : Type 0 where
  pub ends : answer.status ≡ Usage
  pub text : answer.text ≡ usage_text
  pub no_record : answer.records ≡ []

-- the answer to what is asked for
abbrev pub IsAnswer : Change FilesSeen → Option Asked → Printed → Type 0
IsAnswer files None answer = IsUsage answer
IsAnswer files (Some (Planned name limits None)) answer =
    IsOfPlan files name (budget_of limits) answer
IsAnswer files (Some (Planned name limits (Some cert))) answer =
    IsOfCertified files name cert (budget_of limits) answer
IsAnswer files (Some (Checked name cert view)) answer = IsOfCheck files name cert view answer
IsAnswer files (Some (Judged name plan)) answer = IsOfJudge files name plan answer
IsAnswer files (Some (Made count)) answer = IsOfMake count answer
IsAnswer files (Some (Tried count)) answer = IsOfTrial count answer

-- Files are as before where no certificate is stored.
abbrev pub KeepFiles : Option (List ℕ) → FilesSeen → FilesSeen → Type 0
KeepFiles None before now = AreKept before now
KeepFiles (Some cert) before now = AreOthersKept before now cert

-- the whole answer is written, and its records are handed back
pub record IsWritten (files : Change FilesSeen) (out : Change SinkSeen) (words : List (List ℕ))
    (ran : Ran) : Type 0 where
  pub answer : Printed
  pub of_words : IsAnswer files (asked words) answer
  pub quiet : IsQuiet files answer.status
  pub ends : ran.status ≡ answer.status
  pub records : ran.records ≡ answer.records
  pub whole : out.now.written ≡ appended out.before.written answer.text
  pub unfailed : out.now.faults ≡ out.before.faults

-- the answer is written in part
pub record IsCutShort (files : Change FilesSeen) (out : Change SinkSeen) (words : List (List ℕ))
    (ran : Ran) : Type 0 where
  pub answer : Printed
  pub of_words : IsAnswer files (asked words) answer
  pub quiet : IsQuiet files answer.status
  pub ends : ran.status ≡ WriteFault
  pub no_record : ran.records ≡ []
  pub part : AppendsPart out.before.written out.now.written answer.text
  pub failed : Rose out.before.faults out.now.faults

-- there was no memory for the answer: nothing is stored or written, and the counts of faults are as
-- they were
pub record IsUnwritten (files : Change FilesSeen) (out : Change SinkSeen)
    (ran : Ran) : Type 0 where
  pub ends : ran.status ≡ OutOfMemory
  pub no_record : ran.records ≡ []
  pub quiet : IsQuiet files ran.status
  pub kept : AreKept files.before files.now
  pub same : out.now.written ≡ out.before.written
  pub unfailed : out.now.faults ≡ out.before.faults

-- how a run with these words ends
abbrev pub Ends : Change FilesSeen → Change SinkSeen → List (List ℕ) → Ran → Type 0
Ends files out words ran =
    IsWritten files out words ran
    ⊎ (IsCutShort files out words ran ⊎ IsUnwritten files out ran)
