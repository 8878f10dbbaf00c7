-- How a piece of work ends early: with the answer, or for want of memory.
use Rattle.std.specs.Prelude.{Result, Ok, Err}
use Rattle.flow_cli.specs.declared.answer.Answer.{Answer}
use Rattle.flow_cli.specs.declared.answer.EarlyEnd.{EarlyEnd}
use Rattle.flow_cli.specs.declared.answer.EarlyEnd.TheVariants.{Answered, OutOfMemory}
use Rattle.flow_cli.specs.declared.status.Status.{Status}
use Rattle.flow_cli.specs.declared.status.Status.TheVariants as status
use Rattle.flow_cli.specs.Outside.{Printed, printed_by}

-- a fact of what is printed, unless there was no memory
abbrev pub OnEarlyEnd : EarlyEnd → (Printed → Type 0) → Type 0
OnEarlyEnd (Answered answer) P = P (printed_by answer)
OnEarlyEnd OutOfMemory P = Unit {0}

-- the status of work that ended early
abbrev pub early_status : EarlyEnd → Status
early_status (Answered answer) = answer.status
early_status OutOfMemory = status.OutOfMemory

-- the status of work, whether it ended early or not
abbrev pub work_status : Result Answer EarlyEnd → Status
work_status (Ok answer) = answer.status
work_status (Err early) = early_status early

-- a fact of what is printed where the work ended early
abbrev pub IfEarly : {A : Type 0} → Result A EarlyEnd → (Printed → Type 0) → Type 0
IfEarly (Ok a) P = Unit {0}
IfEarly (Err early) P = OnEarlyEnd early P

-- a fact of what is printed, whether the answer came early or not
abbrev pub IfAnswered : Result Answer EarlyEnd → (Printed → Type 0) → Type 0
IfAnswered (Ok answer) P = P (printed_by answer)
IfAnswered (Err early) P = OnEarlyEnd early P

-- a fact where there was no memory
abbrev pub OnNoMemory : Result Answer EarlyEnd → Type 0 → Type 0
OnNoMemory (Ok answer) P = Unit {0}
OnNoMemory (Err (Answered answer)) P = Unit {0}
OnNoMemory (Err OutOfMemory) P = P
