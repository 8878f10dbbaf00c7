-- The lines of a text, one after the other: their items, and how that ends.
use Rattle.std.specs.Prelude.{ℕ, ◌==◌, Bool, nat_lt, List, [], ◌∷◌, length, Option, None, Some, Result, Ok, Err, if◌then◌else◌}
use Rattle.std.specs.List.{slice_split}
use Rattle.text_records.specs.Errors.{◌>>=◌}
use Rattle.flow_types.specs.declared.parts.Parts.{Parts}
use Rattle.certificate.specs.declared.fault.LineFault.{LineFault}
use Rattle.certificate.specs.declared.fault.TextCause.{TextCause}
use Rattle.certificate.specs.declared.fault.TextCause.TheVariants.{AfterEnd, LongLine, Missing}
use Rattle.certificate.specs.declared.item.CertItem.{CertItem}
use Rattle.certificate.specs.declared.kind.LineKind.{LineKind}
use Rattle.certificate.specs.declared.stage.Stage.{Stage}
use Rattle.certificate.specs.Fields.{FieldsLeft, field_from, fields_of}
use Rattle.certificate.specs.Items.{item_of}
use Rattle.certificate.specs.Kinds.{kind_of}
use Rattle.certificate.specs.Limits.{most_line_bytes}
use Rattle.certificate.specs.Stages.{bad_kind, is_ended, may_stand, next_at, stage_after}

abbrev pub in_first : TextCause → LineFault
in_first cause = record { field = 1; cause = cause }

abbrev pub kind_if : LineKind → Bool → Result LineKind LineFault
kind_if kind may = if may then Ok kind else Err bad_kind

-- the kind, if there is one and it may stand here
abbrev pub kind_here : Stage → Option LineKind → Result LineKind LineFault
kind_here stage None = Err bad_kind
kind_here stage (Some kind) = kind_if kind (may_stand stage kind)

abbrev pub whole_line : List (List ℕ) → FieldsLeft
whole_line fields = record { number = 1; fields = fields }

-- a line by its fields: its item, and what may stand after it
unfoldable pub fields_step : Parts → Stage → FieldsLeft → Result (CertItem × Stage) LineFault
fields_step parts stage left = do
  word ← field_from left
  kind ← kind_here stage (kind_of word.0)
  item ← item_of parts (next_at stage) kind word.1
  after ← stage_after parts stage item
  Ok (item, after)

-- a line by its bytes, without its line feed
abbrev pub line_step : Parts → Stage → List ℕ → Result (CertItem × Stage) LineFault
line_step parts stage line =
    if is_ended stage then Err (in_first AfterEnd)
    else if nat_lt most_line_bytes (length line) then Err (in_first LongLine)
    else fields_step parts stage (whole_line (fields_of line))

-- after the last line nothing may stand, not even a byte
abbrev pub past_end : List ℕ → Option LineFault
past_end [] = None
past_end (b ∷ rest) = Some (in_first AfterEnd)

-- what is wrong with the bytes after the last line feed
abbrev pub last_fault : Stage → List ℕ → Option LineFault
last_fault stage bytes =
    if is_ended stage then past_end bytes
    else if nat_lt most_line_bytes (length bytes) then Some (in_first LongLine)
    else Some (in_first Missing)

-- a line of more bytes than one may have, wherever it ends
abbrev pub long_fault : Stage → LineFault
long_fault stage = if is_ended stage then in_first AfterEnd else in_first LongLine

-- the items of a text up to its first fault, which is one of the line after theirs
pub record Read : Type 0 where
  pub items : List CertItem
  pub fault : Option LineFault

abbrev pub with_item : CertItem → Read → Read
with_item item read = record { items = item ∷ read.items; fault = read.fault }

abbrev pub stopped : Option LineFault → Read
stopped fault = record { items = []; fault = fault }

-- items of a text without a fault
abbrev pub read_whole : List CertItem → Read
read_whole items = record { items = items; fault = None }

abbrev pub go_on : Result (CertItem × Stage) LineFault → (Stage → Read) → Read
go_on (Err fault) next = stopped (Some fault)
go_on (Ok found) next = with_item found.0 (next found.1)

-- divided by line feeds; after the last of them some bytes may stand
abbrev pub is_feed : ℕ → Bool
is_feed b = b == 10

abbrev pub pieces_of : List ℕ → List (List ℕ)
pieces_of text = slice_split is_feed text

abbrev pub read_on : Parts → List (List ℕ) → Stage → Read
read_on parts [] stage = stopped (last_fault stage [])
read_on parts (last ∷ []) stage = stopped (last_fault stage last)
read_on parts (line ∷ next ∷ more) stage =
    go_on (line_step parts stage line) (λ after. read_on parts (next ∷ more) after)

-- a text, or what is left of it where this may stand next
abbrev pub read_from : Parts → Stage → List ℕ → Read
read_from parts stage text = read_on parts (pieces_of text) stage
