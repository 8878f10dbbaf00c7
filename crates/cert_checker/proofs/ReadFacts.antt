-- A check line by line: after the line of an item it has come to the next one; where the text ends
-- or is refused, or a line is, that is the verdict on a text.
use Rattle.std.proofs.Common.{◌≡◌, ℕ, ◌+◌, ◌≤◌, List, [], ◌∷◌, ◌++◌, length, Option, Some, None, Result, Ok, Err, refl, sym, ap, subst, ◌∙◌, arith, append_assoc, length-append}
use Rattle.flow_types.specs.declared.parts.Parts.{Parts}
use Rattle.flow_outside.specs.Held.{Held, IfTold, bytes_told}
use Rattle.time_windows.specs.Boxes.{Box}
use Rattle.certificate.specs.declared.fault.CertRefusal.{CertRefusal}
use Rattle.certificate.specs.declared.fault.CertRefusal.TheVariants as refusal
use Rattle.certificate.specs.declared.fault.LineFault.{LineFault}
use Rattle.certificate.specs.declared.item.CertItem.{CertItem}
use Rattle.certificate.specs.declared.stage.Stage.TheVariants as stage
use Rattle.certificate.specs.Limits.{most_cert_bytes}
use Rattle.certificate.specs.Reading.{Read, read_from, with_item}
use Rattle.certificate.specs.Readers.{AreBounded, AreTaken, IsFinished, IsItemRead, IsLineRefused, IsRefused, ReaderSeen, left_in}
use Rattle.certificate.proofs.ReaderFacts.{item_read}
use Rattle.certificate.proofs.RefuseFacts.{nothing_left}
use Rattle.cert_checker.specs.declared.claim.CertClaim.{CertClaim}
use Rattle.cert_checker.specs.declared.fault.CheckFault.{CheckFault}
use Rattle.cert_checker.specs.declared.fault.CheckFault.TheVariants as check
use Rattle.cert_checker.specs.declared.fault.StepError.{StepError}
use Rattle.cert_checker.specs.declared.fault.StepError.TheVariants as error
use Rattle.cert_checker.specs.declared.fault.StepFault.{StepFault}
use Rattle.cert_checker.specs.declared.standing.Standing.{Standing}
use Rattle.cert_checker.specs.Checks.{HasCome, IfRefused, IfTooLong, IsChecked, IsReadable, IsStarted, OnError, WhereFound, check_fault, refusal_fault}
use Rattle.cert_checker.specs.Fronts.{front_at, front_of}
use Rattle.cert_checker.specs.Steps.{IsStep, begun}
use Rattle.cert_checker.specs.Verdicts.{Decides, Verdict, claim_at, fault_at, in_line, text_fault}

-- what holds holds where something was read
pub found_where : (result : Result CertClaim CheckFault) (P : Type 0) → P → WhereFound result P
found_where (Ok claim) P holds = holds
found_where (Err (check.Refused fault)) P holds = holds
found_where (Err check.Read) P holds = tt
found_where (Err (check.TooLong size)) P holds = holds
found_where (Err check.OutOfMemory) P holds = tt

-- of an answer that isn't that the text is too long
pub never_long : (result : Result CertClaim CheckFault) (P : ℕ → Type 0)
    → IfTooLong result (λ size. ⊥) → IfTooLong result P
never_long (Ok claim) P none = tt
never_long (Err (check.Refused fault)) P none = tt
never_long (Err check.Read) P none = tt
never_long (Err (check.TooLong size)) P none = absurd none
never_long (Err check.OutOfMemory) P none = tt

module _ (parts : Parts) (root : Box) (digest : List ℕ) (held : Option Held)
    (name : List ℕ) where
  -- the line of an item was taken, which does this
  module _ (old new : ReaderSeen) (item : CertItem) (read : IsItemRead parts held old item new)
      (bounded : AreBounded old.pieces new.pieces) (now : Standing)
      (come : HasCome parts root digest held name old now) where
    abbrev line : List ℕ
    line = read.taken.line ++ 10 ∷ []

    told_on : (bytes : List ℕ) → bytes_told held name ≡ Some bytes
        → (length bytes ≡ new.pieces.size)
        × (bytes ≡ (come.taken ++ line) ++ left_in new.pieces bytes)
    told_on bytes is =
        let before = come.told bytes is in
        let there : bytes_told held old.pieces.name ≡ Some bytes =
        ap (bytes_told held) come.name_is ∙ is in (
          read.taken.taken.same bytes there before.0,
          before.1
              ∙ ap (λ (left : List ℕ). come.taken ++ left) (read.taken.taken.told bytes there)
              ∙ sym (append_assoc come.taken line (left_in new.pieces bytes)),
        )

    -- what was taken isn't more than may be
    taken_count : length (come.taken ++ line) + length new.pieces.ahead ≡ new.pieces.offset
    taken_count =
        let before = come.count in
        let count = read.taken.taken.count in
        let whole = length-append come.taken line in
        omega (arith, before, count, whole)

    size_few : new.pieces.size ≤ most_cert_bytes
    size_few =
        let few = come.few in
        let shorter = bounded.shorter in
        omega (arith, few, shorter)

    -- what is decided of the text from here on
    from_here : (rest : List ℕ) (verdict : Verdict)
        → Decides parts root digest old.number (read_from parts old.stage (line ++ rest))
        (front_of now.walk now.leaf) now.progress verdict
        → Decides parts root digest 1 (read_from parts stage.Head ((come.taken ++ line) ++ rest))
        (front_at come.tight []) begun verdict
    from_here rest verdict decided =
        subst (λ (text : List ℕ). Decides parts root digest 1 (read_from parts stage.Head text)
        (front_at come.tight []) begun verdict) (sym (append_assoc come.taken line rest))
        (come.whole (line ++ rest) verdict decided)

    line_and : (rest : List ℕ) → read_from parts old.stage (line ++ rest)
        ≡ with_item item (read_from parts new.stage rest)
    line_and rest =
        ap (read_from parts old.stage) (append_assoc read.taken.line (10 ∷ []) rest)
        ∙ item_read parts held old new item read rest

    pub comes_on : (next : Standing)
        → IsStep parts root digest (front_of now.walk now.leaf) now.progress item
        (Ok (front_of next.walk next.leaf, next.progress))
        → new.kept ≡ None → HasCome parts root digest held name new next
    comes_on next step none = record {
      tight = come.tight;
      tight_is = come.tight_is;
      taken = come.taken ++ line;
      readable = come.readable;
      name_is = read.taken.taken.name ∙ come.name_is;
      none = none;
      count = taken_count;
      within = bounded.within;
      few = size_few;
      told = told_on;
      whole = λ rest verdict decided.
          from_here rest verdict
          (subst (λ (read : Read). Decides parts root digest old.number read
          (front_of now.walk now.leaf) now.progress verdict) (sym (line_and rest)) (
            Ok (front_of next.walk next.leaf, next.progress),
            step,
            subst (λ (number : ℕ). Decides parts root digest number
                (read_from parts new.stage rest) (front_of next.walk next.leaf) next.progress
                verdict) read.number decided,
          ));
    }

    -- and where it is refused
    pub line_refused : (fault : StepFault)
        → IsStep parts root digest (front_of now.walk now.leaf) now.progress item (Err fault)
        → IsChecked parts root digest held name (Err (fault_at old.number fault))
    line_refused fault step = by (bytes_told held name) refl
      where
        decided : (rest : List ℕ)
            → Decides parts root digest 1
            (read_from parts stage.Head ((come.taken ++ line) ++ rest))
            (front_at come.tight []) begun (Err (fault_at old.number fault))
        decided rest =
            from_here rest (Err (fault_at old.number fault))
            (subst (λ (read : Read). Decides parts root digest old.number read
            (front_of now.walk now.leaf) now.progress (Err (fault_at old.number fault)))
            (sym (line_and rest)) (Err fault, step, refl))

        by : (found : Option (List ℕ)) → bytes_told held name ≡ found
            → IsChecked parts root digest held name (Err (fault_at old.number fault))
        by None is = record {
          readable = come.readable;
          text = (come.taken ++ line) ++ [];
          short =
              let count = taken_count in
              let within = bounded.within in
              let few = size_few in
              let whole = length-append (come.taken ++ line) [] in
              omega (arith, count, within, few, whole);
          told = λ bytes told. absurd (let e : ⊥ = cc (sym is ∙ told) in e);
          is = record { tight = come.tight; tight_is = come.tight_is; decided = decided [] };
        }
        by (Some bytes) is = record {
          readable = come.readable;
          text = (come.taken ++ line) ++ left_in new.pieces bytes;
          short =
              let few = size_few in
              let size = (told_on bytes is).0 in
              let same = ap length (told_on bytes is).1 in
              omega (arith, few, size, same);
          told = λ other told.
              let same : bytes ≡ other = cc (sym is ∙ told) in
              sym same ∙ (told_on bytes is).1;
          is = record {
            tight = come.tight;
            tight_is = come.tight_is;
            decided = decided (left_in new.pieces bytes);
          };
        }

    -- what is answered then
    pub fault_checked : (error : StepError)
        → OnError error
        (IsStep parts root digest (front_of now.walk now.leaf) now.progress item)
        → (fault : CheckFault) → fault ≡ check_fault old.number error
        → IfRefused (Err fault) (λ it. IsChecked parts root digest held name (Err it))
    fault_checked (error.Fault it) step fault same =
        subst (λ f. IfRefused (Err f) (λ it. IsChecked parts root digest held name (Err it)))
        (sym same) (line_refused it step)
    fault_checked error.OutOfMemory step fault same =
        subst (λ f. IfRefused (Err f) (λ it. IsChecked parts root digest held name (Err it)))
        (sym same) tt

  module _ (reader : ReaderSeen) (now : Standing)
      (come : HasCome parts root digest held name reader now) where
    there : (bytes : List ℕ) → bytes_told held name ≡ Some bytes
        → bytes_told held reader.pieces.name ≡ Some bytes
    there bytes is = ap (bytes_told held) come.name_is ∙ is

    -- the text has ended
    pub text_ended : (new : ReaderSeen) → IsFinished new
        → AreTaken held reader.pieces new.pieces [] → reader.stage ≡ stage.Ended
        → IsChecked parts root digest held name
        (in_line reader.number (claim_at (front_of now.walk now.leaf).present now.progress))
    text_ended new finished taken ended = record {
      readable = come.readable;
      text = come.taken ++ [];
      short =
          let count = come.count in
          let within = come.within in
          let few = come.few in
          let whole = length-append come.taken [] in
          omega (arith, count, within, few, whole);
      told = λ bytes is.
          let before = come.told bytes is in
          before.1
          ∙ ap (λ (left : List ℕ). come.taken ++ left)
          (taken.told bytes (there bytes is)
          ∙ nothing_left new.pieces bytes finished.at_end
          (taken.same bytes (there bytes is) before.0));
      is = record {
        tight = come.tight;
        tight_is = come.tight_is;
        decided = come.whole []
            (in_line reader.number (claim_at (front_of now.walk now.leaf).present now.progress))
            (rw ended refl);
      };
    }

    -- the next line is refused
    pub text_refused : (fault : LineFault)
        → IsLineRefused parts held reader.pieces reader.stage fault
        → IsChecked parts root digest held name
        (Err (fault_at reader.number (text_fault fault)))
    text_refused fault is = record {
      readable = come.readable;
      text = come.taken ++ is.rest;
      short =
          let count = come.count in
          let within = come.within in
          let few = come.few in
          let rest = is.few in
          let whole = length-append come.taken is.rest in
          omega (arith, count, within, few, rest, whole);
      told = λ bytes is_told.
          let before = come.told bytes is_told in
          before.1
          ∙ ap (λ (left : List ℕ). come.taken ++ left)
          (is.told bytes (there bytes is_told) before.0);
      is = record {
        tight = come.tight;
        tight_is = come.tight_is;
        decided = come.whole is.rest (Err (fault_at reader.number (text_fault fault)))
            (subst (λ (read : Read). Decides parts root digest reader.number read
            (front_of now.walk now.leaf) now.progress
            (Err (fault_at reader.number (text_fault fault)))) (sym is.stops) refl);
      };
    }

    -- what is answered then
    pub refusal_checked : (it : CertRefusal)
        → IsRefused parts held reader.pieces reader.stage reader.number it
        → (result : Result CertClaim CheckFault) → result ≡ Err (refusal_fault it)
        → IfRefused result (λ fault. IsChecked parts root digest held name (Err fault))
    refusal_checked (refusal.Text fault) (line, is) result same =
        subst (λ r. IfRefused r (λ it. IsChecked parts root digest held name (Err it))) (sym same)
        (subst (λ (number : ℕ). IsChecked parts root digest held name (Err (fault_at number
        (text_fault (record { field = fault.field; cause = fault.cause }))))) (sym line)
        (text_refused (record { field = fault.field; cause = fault.cause }) is))
    refusal_checked refusal.Read is result same =
        subst (λ r. IfRefused r (λ it. IsChecked parts root digest held name (Err it))) (sym same)
        tt
    refusal_checked refusal.OutOfMemory is result same =
        subst (λ r. IfRefused r (λ it. IsChecked parts root digest held name (Err it))) (sym same)
        tt

  -- at the first line
  pub come_first : (reader : ReaderSeen) (now : Standing) → reader.pieces.name ≡ name
      → (reader.pieces.offset ≡ 0) × (reader.pieces.ahead ≡ []) × (reader.stage ≡ stage.Head)
      × (reader.number ≡ 1) × (reader.kept ≡ None)
      → IfTold held name (λ bytes. length bytes ≡ reader.pieces.size)
      → reader.pieces.size ≤ most_cert_bytes → IsReadable held name
      → IsStarted parts root now → HasCome parts root digest held name reader now
  come_first reader now name_is (offset, ahead, at_head, first, none) size few readable started =
      record {
        tight = started.tight;
        tight_is = started.tight_is;
        taken = [];
        readable = readable;
        name_is = name_is;
        none = none;
        count = rw (offset, ahead) refl;
        within = omega (arith, offset);
        few = few;
        told = λ bytes is. (size bytes is, rw (offset, ahead) refl);
        whole = λ rest verdict decided.
            rw (at_head, first, started.front, started.nothing) at decided;
      }
