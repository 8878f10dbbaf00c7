-- A line that is refused: the text that is left is read so.
use Rattle.std.proofs.Common.{◌≡◌, ℕ, ◌-◌, ◌<◌, ◌+◌, ◌≤◌, Bool, true, false, List, [], ◌∷◌, ◌++◌, length, drop, take, Option, Some, None, Result, Ok, Err, refl, sym, ap, ◌∙◌, arith, append_assoc, length-append}
use Rattle.std.specs.Prelude.{IfErr}
use Rattle.std.specs.List.{onto_first}
use Rattle.std.proofs.Math.ListN.{drop_of_length-le}
use Rattle.std.proofs.lemmas.Bool.{lt-ltb}
use Rattle.std.proofs.lemmas.List.{append-nil, length-drop, length-take, take_all}
use Rattle.std.proofs.lemmas.List.Elements.{All-head, All-tail}
use Rattle.std.proofs.lemmas.List.Splits.{slice_split-cons_no, slice_split_at, slice_split_none}
use Rattle.text_records.specs.Errors.{◌>>=◌}
use Rattle.flow_types.specs.declared.parts.Parts.{Parts}
use Rattle.flow_outside.specs.Held.{Held, bytes_told}
use Rattle.certificate.specs.Fields.{is_nil}
use Rattle.certificate.specs.Limits.{most_line_bytes}
use Rattle.certificate.specs.Reading.{go_on, in_first, is_feed, last_fault, line_step, long_fault, past_end, pieces_of, read_from, read_on, stopped}
use Rattle.certificate.specs.Readers.{AreBounded, AreNoFeeds, AreTaken, Found, IsAtEnd, IsLineRefused, IsLineTaken, IsRefused, PiecesSeen, Tells, left_in, none_or_fault, told_by}
use Rattle.certificate.specs.Stages.{is_ended}
use Rattle.certificate.specs.declared.fault.CertRefusal.{CertRefusal}
use Rattle.certificate.specs.declared.fault.CertRefusal.TheVariants as refusal
use Rattle.certificate.specs.declared.fault.LineFault.{LineFault}
use Rattle.certificate.specs.declared.fault.TextCause.TheVariants.{AfterEnd}
use Rattle.certificate.proofs.FieldFacts.{some_part}
use Rattle.certificate.specs.declared.item.CertItem.{CertItem}
use Rattle.certificate.specs.declared.lines.LineEnd.{LineEnd}
use Rattle.certificate.specs.declared.lines.LineEnd.TheVariants as line_end
use Rattle.certificate.specs.declared.stage.Stage.{Stage}

abbrev some_item : CertItem × Stage → Result Found LineFault
some_item found = Ok (Some found)

step_failed : (read : Result (CertItem × Stage) LineFault) (fault : LineFault)
    → (read >>= some_item) ≡ Err fault → read ≡ Err fault
step_failed (Ok found) fault is = absurd (let e : ⊥ = cc in e)
step_failed (Err other) fault is = ap Err (let e : other ≡ fault = cc in e)

fault_is : (found : Option LineFault) (fault : LineFault) → none_or_fault found ≡ Err fault
    → found ≡ Some fault
fault_is None fault is = absurd (let e : ⊥ = cc in e)
fault_is (Some other) fault is = ap Some (let e : other ≡ fault = cc in e)

-- what is left after a line feed is one piece at least
some_pieces : (parts : Parts) (now : Stage) (line : List ℕ) (pieces : List (List ℕ))
    → is_nil pieces ≡ false
    → read_on parts (line ∷ pieces) now
    ≡ go_on (line_step parts now line) (λ after. read_on parts pieces after)
some_pieces parts now line [] some = absurd (let e : ⊥ = cc in e)
some_pieces parts now line (piece ∷ pieces) some = refl

-- a line, and what is left after it
pub line_read : (parts : Parts) (now : Stage) (line more : List ℕ) → AreNoFeeds line
    → read_from parts now (line ++ 10 ∷ more)
    ≡ go_on (line_step parts now line) (λ after. read_from parts after more)
line_read parts now line more plain =
    ap (λ (pieces : List (List ℕ)). read_on parts pieces now)
    (slice_split_at is_feed line 10 more plain refl)
    ∙ some_pieces parts now line (pieces_of more) (some_part is_feed more)

-- bytes after the last line feed
pub last_read : (parts : Parts) (now : Stage) (line : List ℕ) → AreNoFeeds line
    → read_from parts now line ≡ stopped (last_fault now line)
last_read parts now line plain =
    ap (λ (pieces : List (List ℕ)). read_on parts pieces now) (slice_split_none is_feed line plain)

-- the first piece of a text that begins with bytes that aren't line feeds
onto : List ℕ → List (List ℕ) → List (List ℕ)
onto front [] = front ∷ []
onto front (piece ∷ pieces) = (front ++ piece) ∷ pieces

onto_more : (x : ℕ) (front : List ℕ) (pieces : List (List ℕ))
    → onto_first x (onto front pieces) ≡ onto (x ∷ front) pieces
unfolding onto
onto_more x front [] = refl
onto_more x front (piece ∷ pieces) = refl

onto_none : (pieces : List (List ℕ)) → is_nil pieces ≡ false → pieces ≡ onto [] pieces
unfolding onto
onto_none [] some = absurd (let e : ⊥ = cc in e)
onto_none (piece ∷ pieces) some = refl

first_piece : (front more : List ℕ) → AreNoFeeds front
    → pieces_of (front ++ more) ≡ onto front (pieces_of more)
first_piece [] more plain = onto_none (pieces_of more) (some_part is_feed more)
first_piece (x ∷ front) more plain =
    slice_split-cons_no is_feed x (front ++ more) (All-head (λ b. is_feed b ≡ false) x front plain)
    ∙ ap (onto_first x) (first_piece front more (All-tail (λ b. is_feed b ≡ false) x front plain))
    ∙ onto_more x front (pieces_of more)

something : (bytes : List ℕ) → 0 < length bytes → past_end bytes ≡ Some (in_first AfterEnd)
something [] some = absurd (omega (arith, some))
something (b ∷ bytes) some = refl

last_long : (now : Stage) (bytes : List ℕ) → most_line_bytes < length bytes
    → last_fault now bytes ≡ Some (long_fault now)
last_long now bytes long = by (is_ended now) refl where
  by : (b : Bool) → is_ended now ≡ b → last_fault now bytes ≡ Some (long_fault now)
  by true ended = rw ended (something bytes (omega (arith, long)))
  by false ended = rw (ended, lt-ltb most_line_bytes (length bytes) long) refl

step_long : (parts : Parts) (now : Stage) (bytes : List ℕ) → most_line_bytes < length bytes
    → line_step parts now bytes ≡ Err (long_fault now)
step_long parts now bytes long = by (is_ended now) refl where
  by : (b : Bool) → is_ended now ≡ b → line_step parts now bytes ≡ Err (long_fault now)
  by true ended = rw ended refl
  by false ended = rw (ended, lt-ltb most_line_bytes (length bytes) long) refl

long_first : (parts : Parts) (now : Stage) (line : List ℕ) (pieces : List (List ℕ))
    → most_line_bytes < length line
    → read_on parts (onto line pieces) now ≡ stopped (Some (long_fault now))
unfolding onto
long_first parts now line [] long = ap stopped (last_long now line long)
long_first parts now line (piece ∷ []) long =
    ap stopped (last_long now (line ++ piece) (omega (arith, long, length-append line piece)))
long_first parts now line (piece ∷ next ∷ pieces) long =
    rw (step_long parts now (line ++ piece) (omega (arith, long, length-append line piece))) refl

-- a line that is too long, wherever it ends
pub long_read : (parts : Parts) (now : Stage) (line more : List ℕ) → AreNoFeeds line
    → most_line_bytes < length line
    → read_from parts now (line ++ more) ≡ stopped (Some (long_fault now))
long_read parts now line more plain long =
    ap (λ (pieces : List (List ℕ)). read_on parts pieces now) (first_piece line more plain)
    ∙ long_first parts now line (pieces_of more) long

-- what follows what was read of a text of this size, where it is told
tail_in : Option (List ℕ) → ℕ → ℕ → List ℕ
tail_in None size offset = []
tail_in (Some bytes) size offset = take (size - offset) (drop offset bytes)

tail_few : (told : Option (List ℕ)) (size offset : ℕ)
    → length (tail_in told size offset) ≤ size - offset
unfolding tail_in
tail_few None size offset = omega (arith)
tail_few (Some bytes) size offset =
    let taken = length-take (size - offset) (drop offset bytes) in
    omega (arith, taken)

tail_whole : (bytes : List ℕ) (size offset : ℕ) → length bytes ≡ size
    → tail_in (Some bytes) size offset ≡ drop offset bytes
unfolding tail_in
tail_whole bytes size offset same =
    let dropped = length-drop offset bytes in
    take_all (size - offset) (drop offset bytes) (omega (arith, dropped, same))

pub nothing_left : (pieces : PiecesSeen) (bytes : List ℕ) → IsAtEnd pieces
    → length bytes ≡ pieces.size → left_in pieces bytes ≡ []
nothing_left pieces bytes at_end same =
    let read = at_end.read in
    ap (λ (ahead : List ℕ). ahead ++ drop pieces.offset bytes) at_end.none
    ∙ drop_of_length-le bytes {i = pieces.offset} (omega (arith, read, same))

module _ (parts : Parts) (held : Option Held) (old new : PiecesSeen) (now : Stage)
    (line : List ℕ) where
  after : List ℕ
  after = new.ahead ++ tail_in (bytes_told held old.name) old.size new.offset

  told_after : (taken : List ℕ) (is : AreTaken held old new taken) (bytes : List ℕ)
      → bytes_told held old.name ≡ Some bytes → length bytes ≡ old.size
      → left_in old bytes ≡ taken ++ after
  unfolding after
  told_after taken is bytes told same =
      is.told bytes told
      ∙ ap (λ (tail : List ℕ). taken ++ (new.ahead ++ tail))
      (sym (ap (λ found. tail_in found old.size new.offset) told
      ∙ tail_whole bytes old.size new.offset same))

  begins_so : (taken : List ℕ) (is : AreTaken held old new taken)
      → taken ++ after
      ≡ old.ahead ++ (is.read ++ tail_in (bytes_told held old.name) old.size new.offset)
  unfolding after
  begins_so taken is =
      let tail = tail_in (bytes_told held old.name) old.size new.offset in
      sym (append_assoc taken new.ahead tail)
      ∙ ap (λ (front : List ℕ). front ++ tail) (sym is.joins)
      ∙ append_assoc old.ahead is.read tail

  few_after : (taken : List ℕ) (is : AreTaken held old new taken) → AreBounded old new
      → length (taken ++ after) + old.offset ≤ length old.ahead + old.size
  unfolding after
  few_after taken is bounded =
      let tail = tail_in (bytes_told held old.name) old.size new.offset in
      let few = tail_few (bytes_told held old.name) old.size new.offset in
      let within = bounded.within in
      let shorter = bounded.shorter in
      let count = is.count in
      let whole = length-append taken (new.ahead ++ tail) in
      let part = length-append new.ahead tail in
      omega (arith, few, within, shorter, count, whole, part)

  pub is_refused : (end : LineEnd) (fault : LineFault) → IsLineTaken held old new line end
      → AreBounded old new → told_by parts now line end ≡ Err fault
      → IsLineRefused parts held old now fault
  is_refused line_end.Feed fault is bounded told = record {
    rest = (line ++ 10 ∷ []) ++ after;
    more = is.taken.read ++ tail_in (bytes_told held old.name) old.size new.offset;
    begins = begins_so (line ++ 10 ∷ []) is.taken;
    few = few_after (line ++ 10 ∷ []) is.taken bounded;
    stops = ap (read_from parts now) (append_assoc line (10 ∷ []) after)
        ∙ line_read parts now line after is.plain
        ∙ ap (λ (read : Result (CertItem × Stage) LineFault).
        go_on read (λ next. read_from parts next after))
        (step_failed (line_step parts now line) fault told);
    told = told_after (line ++ 10 ∷ []) is.taken;
  }
  is_refused line_end.Text fault is bounded told =
      let at_end = is.last refl in
      let within = bounded.within in
      let shorter = bounded.shorter in
      let count = is.taken.count in
      let whole = length-append line [] in
      record {
        rest = line;
        more = is.taken.read;
        begins = sym (is.taken.joins ∙ ap (λ (ahead : List ℕ). (line ++ []) ++ ahead) at_end.none
            ∙ append-nil (line ++ []) ∙ append-nil line);
        few = omega (arith, within, shorter, count, whole);
        stops = last_read parts now line is.plain
            ∙ ap stopped (fault_is (last_fault now line) fault told);
        told = λ bytes is_told same.
            is.taken.told bytes is_told
            ∙ ap (λ (rest : List ℕ). (line ++ []) ++ rest)
            (nothing_left new bytes at_end (is.taken.same bytes is_told same))
            ∙ append-nil (line ++ []) ∙ append-nil line;
      }
  is_refused line_end.Long fault is bounded told =
      let fault_same : long_fault now ≡ fault = cc in
      let size = is.size in
      record {
        rest = (line ++ []) ++ after;
        more = is.taken.read ++ tail_in (bytes_told held old.name) old.size new.offset;
        begins = begins_so (line ++ []) is.taken;
        few = few_after (line ++ []) is.taken bounded;
        stops = ap (λ (front : List ℕ). read_from parts now (front ++ after)) (append-nil line)
            ∙ long_read parts now line after is.plain (omega (arith, size))
            ∙ ap (λ (it : LineFault). stopped (Some it)) fault_same;
        told = told_after (line ++ []) is.taken;
      }

  pub are_refused : (end : LineEnd) (number : ℕ) (result : Result Found CertRefusal)
      → IsLineTaken held old new line end → AreBounded old new
      → Tells number result (told_by parts now line end)
      → IfErr result (IsRefused parts held old now number)
  are_refused end number (Ok found) is bounded tells = tt
  are_refused end number (Err (refusal.Text fault)) is bounded tells = (
    tells.0,
    is_refused end (record { field = fault.field; cause = fault.cause }) is bounded tells.1,
  )
  are_refused end number (Err refusal.Read) is bounded tells = tt
  are_refused end number (Err refusal.OutOfMemory) is bounded tells = tt
