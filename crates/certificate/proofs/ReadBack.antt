-- The line of an item is read as the item, and what follows it is read on.
use Rattle.std.proofs.Common.{◌≡◌, ℕ, ◌≤◌, true, false, List, [], ◌∷◌, ◌++◌, length, Some, Result, Ok, refl, ap, ◌∙◌, append_assoc}
use Rattle.std.proofs.lemmas.Bool.{le-ltb}
use Rattle.flow_types.specs.declared.parts.Parts.{Parts}
use Rattle.certificate.specs.declared.fault.LineFault.{LineFault}
use Rattle.certificate.specs.declared.item.CertItem.{CertItem}
use Rattle.certificate.specs.declared.kind.LineKind.{LineKind}
use Rattle.certificate.specs.declared.stage.Stage.{Stage}
use Rattle.certificate.specs.Items.{item_of}
use Rattle.certificate.specs.Kinds.{kind_of}
use Rattle.certificate.specs.Limits.{most_line_bytes}
use Rattle.certificate.specs.Lines.{line_of}
use Rattle.certificate.specs.Reading.{fields_step, go_on, line_step, read_from, whole_line, with_item}
use Rattle.certificate.specs.Stages.{is_ended, may_stand, next_at, stage_after}
use Rattle.certificate.proofs.ItemsBack.{from_second}
use Rattle.certificate.proofs.PlainFacts.{AreFields, IsPlain, after_commas, fields_back, line_is, line_plain}
use Rattle.certificate.proofs.RefuseFacts.{line_read}

-- what it takes for a line to be read as an item
pub record IsLine (parts : Parts) (now : Stage) (item : CertItem) (after : Stage) (most : ℕ)
    (word : List ℕ) (fields : List (List ℕ)) (kind : LineKind) : Type 0 where
  pub goes_on : is_ended now ≡ false
  pub plain : IsPlain word
  pub are : AreFields most fields
  pub short : length (word ++ after_commas fields) ≤ most_line_bytes
  pub kind_is : kind_of word ≡ Some kind
  pub may : may_stand now kind ≡ true
  pub told : item_of parts (next_at now) kind (from_second fields) ≡ Ok item
  pub next : stage_after parts now item ≡ Ok after

fields_step_back : (parts : Parts) (now after : Stage) (item : CertItem) (word : List ℕ)
    (fields : List (List ℕ)) (kind : LineKind) → kind_of word ≡ Some kind
    → may_stand now kind ≡ true → item_of parts (next_at now) kind (from_second fields) ≡ Ok item
    → stage_after parts now item ≡ Ok after
    → fields_step parts now (whole_line (word ∷ fields)) ≡ Ok (item, after)
unfolding fields_step
fields_step_back parts now after item word fields kind kind_is may told next =
    rw (kind_is, may, told, next) refl

pub line_back : (parts : Parts) (now after : Stage) (item : CertItem) (most : ℕ)
    (word : List ℕ) (fields : List (List ℕ)) (kind : LineKind)
    → IsLine parts now item after most word fields kind
    → line_step parts now (word ++ after_commas fields) ≡ Ok (item, after)
line_back parts now after item most word fields kind is =
    rw (
      is.goes_on,
      le-ltb most_line_bytes (length (word ++ after_commas fields)) is.short,
      fields_back most word fields is.plain is.are,
    )
    (fields_step_back parts now after item word fields kind is.kind_is is.may is.told is.next)

pub line_reads : (parts : Parts) (now after : Stage) (item : CertItem) (most : ℕ)
    (word : List ℕ) (fields : List (List ℕ)) (kind : LineKind) (more : List ℕ)
    → IsLine parts now item after most word fields kind
    → read_from parts now (line_of word fields ++ more)
    ≡ with_item item (read_from parts after more)
line_reads parts now after item most word fields kind more is =
    ap (λ (text : List ℕ). read_from parts now (text ++ more)) (line_is word fields)
    ∙ ap (read_from parts now) (append_assoc (word ++ after_commas fields) (10 ∷ []) more)
    ∙ line_read parts now (word ++ after_commas fields) more
    (line_plain most word fields is.plain is.are)
    ∙ ap (λ (read : Result (CertItem × Stage) LineFault).
    go_on read (λ next. read_from parts next more))
    (line_back parts now after item most word fields kind is)
