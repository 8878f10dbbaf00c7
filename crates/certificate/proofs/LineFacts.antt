-- A line that is taken from a text part by part.
use Rattle.std.proofs.Common.{◌≡◌, ℕ, ◌≤◌, false, List, [], ◌++◌, length, drop, Option, Some, None, refl, sym, ap, subst, ◌∙◌, arith, append_assoc, length-append}
use Rattle.std.proofs.lemmas.List.{append-nil}
use Rattle.std.proofs.lemmas.List.Elements.{All-append}
use Rattle.flow_outside.specs.Held.{Held, bytes_told}
use Rattle.certificate.specs.Limits.{most_line_bytes}
use Rattle.certificate.specs.Reading.{is_feed}
use Rattle.certificate.specs.Readers.{AreNoFeeds, AreTaken, IsPartTaken, PiecesSeen, feed_in, left_in}
use Rattle.certificate.specs.declared.lines.LineEnd.{LineEnd}

-- bytes are taken one after the other
pub then_taken : (held : Option Held) (first middle last : PiecesSeen) (xs ys : List ℕ)
    → AreTaken held first middle xs → AreTaken held middle last ys
    → AreTaken held first last (xs ++ ys)
then_taken held first middle last xs ys one two = record {
  name = two.name ∙ one.name;
  read = one.read ++ two.read;
  joins = sym (append_assoc first.ahead one.read two.read)
      ∙ ap (λ (front : List ℕ). front ++ two.read) one.joins
      ∙ append_assoc xs middle.ahead two.read
      ∙ ap (λ (rest : List ℕ). xs ++ rest) two.joins ∙ sym (append_assoc xs ys last.ahead);
  count = let a = one.count in let b = two.count in omega (arith, a, b, length-append xs ys);
  told = λ bytes told.
      one.told bytes told
      ∙ ap (λ (rest : List ℕ). xs ++ rest)
      (two.told bytes (ap (bytes_told held) one.name ∙ told))
      ∙ sym (append_assoc xs ys (left_in last bytes));
  same = λ bytes told same.
      two.same bytes (ap (bytes_told held) one.name ∙ told) (one.same bytes told same);
}

regroup : (front feed more rest : List ℕ)
    → (front ++ (feed ++ more)) ++ rest ≡ (front ++ feed) ++ (more ++ rest)
regroup front feed more rest =
    append_assoc front (feed ++ more) rest
    ∙ ap (λ (bytes : List ℕ). front ++ bytes) (append_assoc feed more rest)
    ∙ sym (append_assoc front feed (more ++ rest))

pub part_taken : (held : Option Held) (old new : PiecesSeen) (before line : List ℕ)
    (end : Option LineEnd) (is : IsPartTaken old new before line end)
    → AreTaken held old new (is.front ++ feed_in end)
part_taken held old new before line end is = record {
  name = is.name;
  read = [];
  joins = append-nil old.ahead ∙ is.ahead
      ∙ sym (append_assoc is.front (feed_in end) new.ahead);
  count =
      let a = ap length is.ahead in
      let b = is.offset in
      omega (
        arith,
        a,
        b,
        length-append is.front (feed_in end ++ new.ahead),
        length-append (feed_in end) new.ahead,
        length-append is.front (feed_in end),
      );
  told = λ bytes told.
      ap (λ (ahead : List ℕ). ahead ++ drop old.offset bytes) is.ahead
      ∙ regroup is.front (feed_in end) new.ahead (drop old.offset bytes)
      ∙ ap (λ (offset : ℕ). (is.front ++ feed_in end) ++ (new.ahead ++ drop offset bytes))
      (sym is.offset);
  same = λ bytes told same. same ∙ sym is.size;
}

-- what was read is all taken, and the line goes on
pub record IsWholePart (old new : PiecesSeen) (before line : List ℕ) : Type 0 where
  pub front : List ℕ
  pub taken : (held : Option Held) → AreTaken held old new front
  pub line_is : line ≡ before ++ front
  pub plain : AreNoFeeds front
  pub few : length line ≤ most_line_bytes
  pub none : new.ahead ≡ []
  pub ahead : old.ahead ≡ front
  pub name : new.name ≡ old.name
  pub size : new.size ≡ old.size
  pub offset : new.offset ≡ old.offset

pub whole_part : (old new : PiecesSeen) (before line : List ℕ) (end : Option LineEnd)
    → ((it : LineEnd) → end ≡ Some it → ⊥) → IsPartTaken old new before line end
    → IsWholePart old new before line
whole_part old new before line (Some end) other is = absurd (other end refl)
whole_part old new before line None other is = record {
  front = is.front;
  taken = λ held. subst (λ (bytes : List ℕ). AreTaken held old new bytes) (append-nil is.front)
      (part_taken held old new before line None is);
  line_is = is.line_is;
  plain = is.plain;
  few = is.part.0;
  none = is.part.1;
  ahead = is.ahead ∙ ap (λ (more : List ℕ). is.front ++ more) is.part.1 ∙ append-nil is.front;
  name = is.name;
  size = is.size;
  offset = is.offset;
}

-- and so is the next piece
pub line_goes_on : (held : Option Held) (first old middle new : PiecesSeen)
    (before line : List ℕ) → AreTaken held first old before → IsWholePart old middle before line
    → AreTaken held middle new [] → AreTaken held first new line
line_goes_on held first old middle new before line so_far part more =
    subst (λ (bytes : List ℕ). AreTaken held first new bytes)
    (append-nil (before ++ part.front) ∙ sym part.line_is)
    (then_taken held first middle new (before ++ part.front) []
    (then_taken held first old middle before part.front so_far (part.taken held)) more)

pub plain_so_far : (old new : PiecesSeen) (before line : List ℕ) → AreNoFeeds before
    → IsWholePart old new before line → AreNoFeeds line
plain_so_far old new before line plain part =
    subst AreNoFeeds (sym part.line_is)
    (All-append (λ b. is_feed b ≡ false) before part.front plain part.plain)
