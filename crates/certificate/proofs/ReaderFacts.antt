-- A reader goes on at the next line.
use Rattle.std.proofs.Common.{◌≡◌, ℕ, ◌+◌, List, ◌∷◌, [], ◌++◌, ◌≤◌, length, Option, None, Some, Result, refl, ap, ◌∙◌, arith, length-append}
use Rattle.std.specs.Prelude.{IfNone}
use Rattle.flow_types.specs.declared.parts.Parts.{Parts}
use Rattle.flow_types.specs.Limits.{most_flights}
use Rattle.flow_outside.specs.Held.{Held}
use Rattle.certificate.specs.Reading.{go_on, read_from, with_item}
use Rattle.certificate.specs.Readers.{AreBounded, IsItemRead, IsItemTaken, IsReading, PiecesSeen, ReaderSeen}
use Rattle.certificate.specs.declared.fault.LineFault.{LineFault}
use Rattle.certificate.specs.declared.item.CertItem.{CertItem}
use Rattle.certificate.specs.declared.stage.Stage.{Stage}
use Rattle.certificate.proofs.RefuseFacts.{line_read}
use Rattle.certificate.proofs.StageFacts.{line_near}

pub reads_on : (parts : Parts) (held : Option Held) (old new : PiecesSeen) (now after : Stage)
    (item : CertItem) (number : ℕ) → length parts.flights ≤ most_flights
    → IsReading old now number → IsItemTaken parts held old new now item after
    → AreBounded old new → IsReading new after (number + 1)
reads_on parts held old new now after item number few is taken bounded =
    let near = line_near parts now after taken.line item taken.step in
    let waits = near.waiting in
    let next = near.next in
    let waiting = is.waiting in
    let count = is.count in
    let took = taken.taken.count in
    let shorter = bounded.shorter in
    let most = is.few in
    record {
      waiting = omega (arith, waits, waiting);
      next = omega (arith, next, few);
      count = omega (arith, count, took, length-append taken.line (10 ∷ []));
      within = bounded.within;
      few = omega (arith, shorter, most);
    }

-- what was read is the first item of what was left
pub item_read : (parts : Parts) (held : Option Held) (old new : ReaderSeen) (item : CertItem)
    (read : IsItemRead parts held old item new) (more : List ℕ)
    → read_from parts old.stage (read.taken.line ++ 10 ∷ more)
    ≡ with_item item (read_from parts new.stage more)
item_read parts held old new item read more =
    line_read parts old.stage read.taken.line more read.taken.plain
    ∙ ap (λ (found : Result (CertItem × Stage) LineFault).
    go_on found (λ after. read_from parts after more)) read.taken.step

-- no refusal is kept
pub if_none : {A : Type 0} {P : Type 0} (kept : Option A) → P → IfNone kept P
if_none None holds = holds
if_none (Some it) holds = tt

pub as_none : {A : Type 0} {P : Type 0} (kept : Option A) → ((it : A) → kept ≡ Some it → ⊥)
    → IfNone kept P → P
as_none None other holds = holds
as_none (Some it) other holds = absurd (other it refl)
