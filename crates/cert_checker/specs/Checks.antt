-- What a check stands on from line to line, and what its functions answer. Of these the public
-- clauses cite `IsChecked`, and which answer a fact is of.
use Rattle.std.specs.Prelude.{◌≡◌, ℕ, ◌+◌, ◌^◌, ◌<◌, ◌≤◌, List, [], ◌++◌, length, All, Option, None, Some, Result, Ok, Err, Bool, true, false, slice_get}
use Rattle.flow_types.specs.declared.parts.Parts.{Parts}
use Rattle.flow_outside.specs.Held.{HasName, Held, IfTold}
use Rattle.plan_rules.specs.Loads.{IsMadeFor as AreLoadsFor}
use Rattle.time_windows.specs.Boxes.{Box}
use Rattle.time_windows.specs.Held.{IsMadeFor, box_of}
use Rattle.time_windows.specs.Splits.{IsBranching}
use Rattle.time_windows.specs.Tight.{IsLive, IsTight, IsTightened}
use Rattle.bytime_model.specs.Rows.{is_node}
use Rattle.branch_tree.specs.declared.walk.Branch.{Branch}
use Rattle.branch_tree.specs.Paths.{AreSteps, Path}
use Rattle.dual_leaf.specs.Work.{IsRoomFor}
use Rattle.flow_outside.specs.declared.loading.LoadFault.{LoadFault}
use Rattle.flow_outside.specs.declared.loading.LoadFault.TheVariants as load
use Rattle.certificate.specs.declared.fault.CertRefusal.{CertRefusal}
use Rattle.certificate.specs.declared.fault.CertRefusal.TheVariants as refusal
use Rattle.certificate.specs.declared.item.CertItem.{CertItem}
use Rattle.certificate.specs.declared.item.CertItem.TheVariants as item
use Rattle.certificate.specs.declared.stage.Stage.TheVariants as stage
use Rattle.certificate.specs.Limits.{most_cert_bytes, most_rows}
use Rattle.certificate.specs.Reading.{read_from}
use Rattle.certificate.specs.Readers.{ReaderSeen, left_in}
use Rattle.cert_checker.specs.declared.claim.CertClaim.{CertClaim}
use Rattle.cert_checker.specs.declared.fault.CertFault.{CertFault}
use Rattle.cert_checker.specs.declared.fault.CheckFault.{CheckFault}
use Rattle.cert_checker.specs.declared.fault.CheckFault.TheVariants as check
use Rattle.cert_checker.specs.declared.fault.StepError.{StepError}
use Rattle.cert_checker.specs.declared.fault.StepFault.{StepFault}
use Rattle.cert_checker.specs.declared.fault.StepError.TheVariants as error
use Rattle.cert_checker.specs.declared.progress.LeafDraft.{LeafDraft}
use Rattle.cert_checker.specs.declared.progress.Progress.{Progress}
use Rattle.cert_checker.specs.declared.rooms.Rooms.{Rooms}
use Rattle.cert_checker.specs.declared.standing.Standing.{Standing}
use Rattle.cert_checker.specs.Fronts.{front_at, front_of}
use Rattle.cert_checker.specs.Steps.{Outcome, begun}
use Rattle.cert_checker.specs.Verdicts.{Decides, IsVerdict, Verdict, fault_at, text_fault}

pub record AreRoomsFor (parts : Parts) (rooms : Rooms) : Type 0 where
  pub leaves : IsRoomFor parts rooms.leaves
  pub loads : AreLoadsFor parts rooms.loads

-- the numbers of a leaf's line or of a row's are within their limits
abbrev pub IsFitItem : CertItem → Type 0
IsFitItem (item.Dual weight rows) = (weight < 2 ^ 62) × (rows ≤ most_rows)
IsFitItem (item.Lag weight rows) = (weight < 2 ^ 62) × (rows ≤ most_rows)
IsFitItem (item.Row multiplier) = multiplier.value < 2 ^ 62
IsFitItem other = Unit {0}

pub record IsFitDraft (draft : LeafDraft) : Type 0 where
  pub weight_to : draft.weight < 2 ^ 62
  pub values : All (λ multiplier. multiplier.value < 2 ^ 62) draft.rows
  pub few : length draft.rows + draft.left ≤ most_rows

-- a split that a check goes down
pub record IsGoodSplit (parts : Parts) (box : Box) (branch : Branch) : Type 0 where
  pub live : IsLive box
  pub there : branch.flight < length parts.flights
  pub node_there : is_node (slice_get parts.flights branch.flight) branch.node ≡ true
  pub branching : IsBranching (box branch.flight branch.node) branch.time

-- a leaf of which rows are still to come
pub record IsOpenDraft (draft : LeafDraft) : Type 0 where
  pub fit : IsFitDraft draft
  pub some : 0 < draft.left

-- the present box is a tight one of the scenario, and the steps lead to it
pub record IsOnPath (parts : Parts) (path : Path) : Type 0 where
  pub made : IsMadeFor parts path.present
  pub tight : IsTight parts (box_of path.present)
  pub steps : AreSteps parts path.above path.steps

abbrev pub IfThere : {X : Type 0} → (X → Type 0) → Option X → Type 0
IfThere P None = Unit {0}
IfThere P (Some x) = P x

pub record IsStanding (parts : Parts) (now : Standing) : Type 0 where
  pub path : IfThere (IsOnPath parts) now.walk
  pub leaf : IfThere IsOpenDraft now.leaf

-- at the first box, where nothing was told
pub record IsStarted (parts : Parts) (root : Box) (now : Standing) : Type 0 where
  pub tight : Box
  pub tight_is : IsTightened parts root tight
  pub front : front_of now.walk now.leaf ≡ front_at tight []
  pub nothing : now.progress ≡ begun
  pub standing : IsStanding parts now

-- an answer gives an outcome, unless there was no memory
abbrev pub OnError : StepError → (Outcome → Type 0) → Type 0
OnError (error.Fault fault) P = P (Err fault)
OnError error.OutOfMemory P = Unit {0}

abbrev pub step_of : {X : Type 0} → Result X StepFault → Result X StepError
step_of (Ok x) = Ok x
step_of (Err fault) = Err (error.Fault fault)

-- where it stands after a line
abbrev pub StepsTo : {X : Type 0} → Result X StepError → Standing → (Outcome → Type 0) → Type 0
StepsTo (Ok x) now P = P (Ok (front_of now.walk now.leaf, now.progress))
StepsTo (Err error) now P = OnError error P

-- the path, where a node is to come
abbrev pub path_if : Bool → Path → Option Path
path_if true path = Some path
path_if false path = None

-- whether a node is to come after a line of the tree, and what was told then
abbrev pub GoesTo : Result Bool StepError → Path → Option LeafDraft → Progress
    → (Outcome → Type 0) → Type 0
GoesTo (Ok more) path leaf progress P = P (Ok (front_of (path_if more path) leaf, progress))
GoesTo (Err error) path leaf progress P = OnError error P

abbrev pub TellsTo : {X : Type 0} → Result X StepError → Result X StepFault → Type 0
TellsTo (Ok x) found = found ≡ Ok x
TellsTo (Err (error.Fault fault)) found = found ≡ Err fault
TellsTo (Err error.OutOfMemory) found = Unit {0}

-- what was told after a line
abbrev pub TellsNow : {X : Type 0} → Result X StepError → Progress → Result Progress StepFault
    → Type 0
TellsNow (Ok x) progress found = found ≡ Ok progress
TellsNow (Err (error.Fault fault)) progress found = found ≡ Err fault
TellsNow (Err error.OutOfMemory) progress found = Unit {0}

-- an answer gives the fault, if there is one
abbrev pub Faults : {X : Type 0} → Result X StepFault → Option StepFault → Type 0
Faults (Ok x) fault = fault ≡ None
Faults (Err found) fault = fault ≡ Some found

-- The name is there, unless the files tell that it isn't, and what they tell of it isn't too long.
pub record IsReadable (held : Option Held) (name : List ℕ) : Type 0 where
  pub present : HasName held name
  pub within : IfTold held name (λ bytes. length bytes ≤ most_cert_bytes)

-- The verdict on a text that isn't too long; where the files tell what the name holds, on that.
pub record IsChecked (parts : Parts) (root : Box) (digest : List ℕ) (held : Option Held)
    (name : List ℕ) (verdict : Verdict) : Type 0 where
  pub readable : IsReadable held name
  pub text : List ℕ
  pub short : length text ≤ most_cert_bytes
  pub told : IfTold held name (λ bytes. bytes ≡ text)
  pub is : IsVerdict parts root digest text verdict

-- A check has come to a line: what was taken of the text, and what follows. Whatever the verdict is
-- from there on, it is that on the whole.
pub record HasCome (parts : Parts) (root : Box) (digest : List ℕ) (held : Option Held)
    (name : List ℕ) (reader : ReaderSeen) (now : Standing) : Type 0 where
  pub tight : Box
  pub tight_is : IsTightened parts root tight
  pub taken : List ℕ
  pub readable : IsReadable held name
  pub name_is : reader.pieces.name ≡ name
  pub none : reader.kept ≡ None
  pub count : length taken + length reader.pieces.ahead ≡ reader.pieces.offset
  pub within : reader.pieces.offset ≤ reader.pieces.size
  pub few : reader.pieces.size ≤ most_cert_bytes
  pub told : IfTold held name (λ bytes. (length bytes ≡ reader.pieces.size)
      × (bytes ≡ taken ++ left_in reader.pieces bytes))
  pub whole : (rest : List ℕ) (verdict : Verdict)
      → Decides parts root digest reader.number (read_from parts reader.stage rest)
      (front_of now.walk now.leaf) now.progress verdict
      → Decides parts root digest 1 (read_from parts stage.Head (taken ++ rest))
      (front_at tight []) begun verdict

abbrev pub check_fault : ℕ → StepError → CheckFault
check_fault line (error.Fault fault) = check.Refused (fault_at line fault)
check_fault line error.OutOfMemory = check.OutOfMemory

abbrev pub load_fault : LoadFault → CheckFault
load_fault load.Read = check.Read
load_fault (load.TooLong size) = check.TooLong size
load_fault load.OutOfMemory = check.OutOfMemory

abbrev pub refusal_fault : CertRefusal → CheckFault
refusal_fault (refusal.Text fault) = check.Refused (fault_at fault.line
    (text_fault (record { field = fault.field; cause = fault.cause })))
refusal_fault refusal.Read = check.Read
refusal_fault refusal.OutOfMemory = check.OutOfMemory

-- a fact of the fault of a refused certificate
abbrev pub IfRefused : Result CertClaim CheckFault → (CertFault → Type 0) → Type 0
IfRefused (Ok claim) P = Unit {0}
IfRefused (Err (check.Refused fault)) P = P fault
IfRefused (Err check.Read) P = Unit {0}
IfRefused (Err (check.TooLong size)) P = Unit {0}
IfRefused (Err check.OutOfMemory) P = Unit {0}

-- a fact, where the answer is that a read failed
abbrev pub OnReadFault : Result CertClaim CheckFault → Type 0 → Type 0
OnReadFault (Ok claim) P = Unit {0}
OnReadFault (Err (check.Refused fault)) P = Unit {0}
OnReadFault (Err check.Read) P = P
OnReadFault (Err (check.TooLong size)) P = Unit {0}
OnReadFault (Err check.OutOfMemory) P = Unit {0}

-- a fact, for every other answer
abbrev pub UnlessReadFault : Result CertClaim CheckFault → Type 0 → Type 0
UnlessReadFault (Ok claim) P = P
UnlessReadFault (Err (check.Refused fault)) P = P
UnlessReadFault (Err check.Read) P = Unit {0}
UnlessReadFault (Err (check.TooLong size)) P = P
UnlessReadFault (Err check.OutOfMemory) P = P

-- a fact, where something of the name was read, or its size was answered
abbrev pub WhereFound : Result CertClaim CheckFault → Type 0 → Type 0
WhereFound (Ok claim) P = P
WhereFound (Err (check.Refused fault)) P = P
WhereFound (Err check.Read) P = Unit {0}
WhereFound (Err (check.TooLong size)) P = P
WhereFound (Err check.OutOfMemory) P = Unit {0}

-- a fact of the length that a text has that is too long
abbrev pub IfTooLong : Result CertClaim CheckFault → (ℕ → Type 0) → Type 0
IfTooLong (Ok claim) P = Unit {0}
IfTooLong (Err (check.Refused fault)) P = Unit {0}
IfTooLong (Err check.Read) P = Unit {0}
IfTooLong (Err (check.TooLong size)) P = P size
IfTooLong (Err check.OutOfMemory) P = Unit {0}
