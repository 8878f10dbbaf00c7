-- What contracts see of a reader of a certificate, and what it answers.
use Rattle.std.specs.Prelude.{◌≡◌, ◌≢◌, ℕ, ◌+◌, ◌-◌, ◌<◌, ◌≤◌, ◌^◌, List, [], ◌∷◌, ◌++◌, length, drop, take, All, Option, None, Some, Result, Ok, Err, false}
use Rattle.flow_types.specs.declared.parts.Parts.{Parts}
use Rattle.text_records.specs.Errors.{◌>>=◌}
use Rattle.flow_outside.specs.Held.{Held, IfTold}
use Rattle.certificate.specs.declared.fault.CertRefusal.{CertRefusal}
use Rattle.certificate.specs.declared.fault.CertRefusal.TheVariants as refusal
use Rattle.certificate.specs.declared.fault.LineError.{LineError}
use Rattle.certificate.specs.declared.fault.LineError.TheVariants as error
use Rattle.certificate.specs.declared.fault.LineFault.{LineFault}
use Rattle.certificate.specs.declared.item.CertItem.{CertItem}
use Rattle.certificate.specs.declared.lines.LineEnd.{LineEnd}
use Rattle.certificate.specs.declared.lines.TakeError.{TakeError}
use Rattle.certificate.specs.declared.lines.TakeError.TheVariants as take_error
use Rattle.certificate.specs.declared.lines.LineEnd.TheVariants as line_end
use Rattle.certificate.specs.declared.stage.Stage.{Stage}
use Rattle.certificate.specs.declared.stage.Stage.TheVariants as stage
use Rattle.certificate.specs.Limits.{most_cert_bytes, most_line_bytes, most_piece_bytes}
use Rattle.certificate.specs.Reading.{is_feed, last_fault, line_step, long_fault, read_from, stopped}
use Rattle.certificate.specs.Stages.{next_at, waiting_at}

-- a text that is read in pieces: its name, its size, how much of it was read, and what of that
-- wasn't taken yet
pub record PiecesSeen : Type 0 where
  pub name : List ℕ
  pub size : ℕ
  pub offset : ℕ
  pub ahead : List ℕ

-- what is left of a text whose bytes these are
abbrev pub left_in : PiecesSeen → List ℕ → List ℕ
left_in pieces bytes = pieces.ahead ++ drop pieces.offset bytes

-- A fact of the bytes, where the files tell them, and they are as many as at the start.
abbrev pub IfSame : Option Held → PiecesSeen → (List ℕ → Type 0) → Type 0
IfSame held pieces P = IfTold held pieces.name (λ bytes. length bytes ≡ pieces.size → P bytes)

-- these bytes were taken from the front of what was left: of what was read before, and of what was
-- read for it
pub record AreTaken (held : Option Held) (old new : PiecesSeen) (taken : List ℕ) : Type 0 where
  pub name : new.name ≡ old.name
  pub read : List ℕ
  pub joins : old.ahead ++ read ≡ taken ++ new.ahead
  pub count : length taken + length new.ahead + old.offset ≡ length old.ahead + new.offset
  pub told : IfTold held old.name (λ bytes. left_in old bytes ≡ taken ++ left_in new bytes)
  pub same : IfSame held old (λ bytes. length bytes ≡ new.size)

-- so many bytes of a text from an offset on, of which so many were asked for, stand in front of a
-- piece
pub record IsPieceOf (bytes : List ℕ) (offset asked count : ℕ) (piece : List ℕ) : Type 0 where
  pub left : count ≤ length bytes - offset
  pub some : offset < length bytes → 0 < asked → 0 < count
  pub same : take count piece ≡ take count (drop offset bytes)

-- nothing is left
pub record IsAtEnd (pieces : PiecesSeen) : Type 0 where
  pub none : pieces.ahead ≡ []
  pub read : pieces.offset ≡ pieces.size

abbrev pub AreNoFeeds : List ℕ → Type 0
AreNoFeeds bytes = All (λ b. is_feed b ≡ false) bytes

-- what a piece is to the whole: those bytes of it from start to end weren't taken yet, and no more
-- is read of the text than it has
pub record ArePieces (piece : List ℕ) (start end offset size : ℕ) : Type 0 where
  pub room : length piece ≡ most_piece_bytes
  pub from : start ≤ end
  pub to : end ≤ length piece
  pub read : end - start ≤ offset
  pub within : offset ≤ size

-- no more was read than there is, and there is no more than before
pub record AreBounded (old new : PiecesSeen) : Type 0 where
  pub within : new.offset ≤ new.size
  pub shorter : new.size ≤ old.size

-- what contracts see of a reader: where its text is, what may stand next, the number of the next
-- line, and the refusal that it keeps
pub record ReaderSeen : Type 0 where
  pub pieces : PiecesSeen
  pub stage : Stage
  pub number : ℕ
  pub kept : Option CertRefusal

-- each line has taken a byte at least
pub record IsReading (pieces : PiecesSeen) (now : Stage) (number : ℕ) : Type 0 where
  pub waiting : waiting_at now ≤ number
  pub next : next_at now < 2 ^ 31
  pub count : number + length pieces.ahead ≤ pieces.offset + 1
  pub within : pieces.offset ≤ pieces.size
  pub few : pieces.size ≤ most_cert_bytes

-- an item was read: a line was taken from the front of what was left
pub record IsItemTaken (parts : Parts) (held : Option Held) (old new : PiecesSeen) (now : Stage)
    (item : CertItem) (after : Stage) : Type 0 where
  pub line : List ℕ
  pub plain : AreNoFeeds line
  pub step : line_step parts now line ≡ Ok (item, after)
  pub taken : AreTaken held old new (line ++ 10 ∷ [])

pub record IsItemRead (parts : Parts) (held : Option Held) (old : ReaderSeen) (item : CertItem)
    (new : ReaderSeen) : Type 0 where
  pub taken : IsItemTaken parts held old.pieces new.pieces old.stage item new.stage
  pub number : new.number ≡ old.number + 1

-- the text has ended after its last line
pub record IsFinished (reader : ReaderSeen) : Type 0 where
  pub ended : reader.stage ≡ stage.Ended
  pub at_end : IsAtEnd reader.pieces
  pub none : reader.kept ≡ None

-- the line that comes next is refused: what was read already goes on so that it is, by no more than
-- is left, and where the files tell what is left it is that
pub record IsLineRefused (parts : Parts) (held : Option Held) (pieces : PiecesSeen) (now : Stage)
    (fault : LineFault) : Type 0 where
  pub rest : List ℕ
  pub more : List ℕ
  pub begins : rest ≡ pieces.ahead ++ more
  pub few : length rest + pieces.offset ≤ length pieces.ahead + pieces.size
  pub stops : read_from parts now rest ≡ stopped (Some fault)
  pub told : IfSame held pieces (λ bytes. left_in pieces bytes ≡ rest)

abbrev pub IsRefused : Parts → Option Held → PiecesSeen → Stage → ℕ → CertRefusal → Type 0
IsRefused parts held pieces now number (refusal.Text fault) =
    (fault.line ≡ number)
    × IsLineRefused parts held pieces now (record { field = fault.field; cause = fault.cause })
IsRefused parts held pieces now number refusal.Read = Unit {0}
IsRefused parts held pieces now number refusal.OutOfMemory = Unit {0}

-- how a line ends: by a line feed, or by the end of the text, or it is too long and goes on
abbrev pub feed_of : LineEnd → List ℕ
feed_of line_end.Feed = 10 ∷ []
feed_of line_end.Text = []
feed_of line_end.Long = []

abbrev pub HasSize : LineEnd → List ℕ → Type 0
HasSize line_end.Feed line = length line ≤ most_line_bytes
HasSize line_end.Text line = length line ≤ most_line_bytes
HasSize line_end.Long line = length line ≡ most_line_bytes + 1

-- the bytes up to there were taken
pub record IsLineTaken (held : Option Held) (old new : PiecesSeen) (line : List ℕ) (end : LineEnd)
    : Type 0 where
  pub taken : AreTaken held old new (line ++ feed_of end)
  pub plain : AreNoFeeds line
  pub size : HasSize end line
  pub last : end ≡ line_end.Text → IsAtEnd new

-- of what was read already a part was added to what there was of the line, to its end, if that is
-- there, and else all
abbrev pub feed_in : Option LineEnd → List ℕ
feed_in None = []
feed_in (Some end) = feed_of end

abbrev pub IsPartOf : PiecesSeen → List ℕ → Option LineEnd → Type 0
IsPartOf new line None = (length line ≤ most_line_bytes) × (new.ahead ≡ [])
IsPartOf new line (Some end) = HasSize end line × (end ≢ line_end.Text)

pub record IsPartTaken (old new : PiecesSeen) (before line : List ℕ) (end : Option LineEnd)
    : Type 0 where
  pub name : new.name ≡ old.name
  pub size : new.size ≡ old.size
  pub offset : new.offset ≡ old.offset
  pub front : List ℕ
  pub ahead : old.ahead ≡ front ++ (feed_in end ++ new.ahead)
  pub line_is : line ≡ before ++ front
  pub plain : AreNoFeeds front
  pub part : IsPartOf new line end

-- what a line tells that was taken: an item, and what may stand after it, or that the text has
-- ended
abbrev pub Found : Type 0
Found = Option (CertItem × Stage)

abbrev pub none_or_fault : Option LineFault → Result Found LineFault
none_or_fault None = Ok None
none_or_fault (Some fault) = Err fault

abbrev pub told_by : Parts → Stage → List ℕ → LineEnd → Result Found LineFault
told_by parts now line line_end.Feed = line_step parts now line >>= λ found. Ok (Some found)
told_by parts now line line_end.Text = none_or_fault (last_fault now line)
told_by parts now line line_end.Long = Err (long_fault now)

abbrev pub refusal_of : ℕ → LineError → CertRefusal
refusal_of number (error.Fault fault) =
    refusal.Text (record { line = number; field = fault.field; cause = fault.cause })
refusal_of number error.OutOfMemory = refusal.OutOfMemory

-- a call answered so, unless there was no memory
abbrev pub Refuses : ℕ → CertRefusal → Result Found LineFault → Type 0
Refuses number (refusal.Text fault) told =
    (fault.line ≡ number) × (told ≡ Err (record { field = fault.field; cause = fault.cause }))
Refuses number refusal.Read told = ⊥
Refuses number refusal.OutOfMemory told = Unit {0}

abbrev pub Tells : ℕ → Result Found CertRefusal → Result Found LineFault → Type 0
Tells number (Ok found) told = told ≡ Ok found
Tells number (Err refusal) told = Refuses number refusal told

abbrev pub refusal_of_take : TakeError → CertRefusal
refusal_of_take take_error.Read = refusal.Read
refusal_of_take take_error.OutOfMemory = refusal.OutOfMemory
