-- The cuts that are taken are those that the point exceeds.
use Rattle.std.proofs.Common.{◌≡◌, ℕ, ◌<◌, ◌≤◌, Bool, if◌then◌else◌, List, [], ◌∷◌, length, take, All, ℤ, pos, int_lt, ◌+ℤ◌, ◌*ℤ◌, refl, sym, ◌∙◌, ap, ap₂, subst}
use Rattle.std.proofs.lemmas.Bool.{le-ltb, lt-ltb}
use Rattle.std.proofs.lemmas.List.Elements.{All-head, All-tail, filter_agree}
use Rattle.flow_types.specs.declared.flight.Flight.{Flight}
use Rattle.flow_types.specs.declared.parts.Parts.{Parts}
use Rattle.time_windows.specs.Boxes.{Box}
use Rattle.time_windows.specs.Held.{box_of}
use Rattle.bytime_model.specs.declared.variables.Term.{Term}
use Rattle.bytime_model.specs.declared.variables.Var.{Var}
use Rattle.bytime_model.specs.Columns.{IsThere}
use Rattle.bytime_model.specs.Rows.{AtMost}
use Rattle.cut_rows.specs.declared.names.CutName.{CutName}
use Rattle.cut_rows.specs.declared.names.CutName.TheVariants.{Heads}
use Rattle.cut_rows.specs.Cuts.{cut_limit, cut_row, cut_terms}
use Rattle.cut_separation.specs.declared.frame.Frame.{Frame}
use Rattle.cut_separation.specs.declared.point.FreePoint.{FreePoint}
use Rattle.cut_separation.specs.Exceeding.{AddsFirst, exceeded_cuts, exceeds, form_at, is_exceeded, most_cuts}
use Rattle.cut_separation.specs.Framed.{IsFramed, IsSmall, is_taken, parts_in, value_in}
use Rattle.cut_separation.specs.Points.{AreByPosition, fraction_in, value_by}
use Rattle.cut_separation.specs.Whole.{heads_cuts, over_day, whole_cuts}
use Rattle.cut_separation.proofs.CutSizeFacts.{cut_small}
use Rattle.cut_separation.proofs.FirstFacts.{adds_none}
use Rattle.cut_separation.proofs.ValueFacts.{fraction_is}

form_same : (flights : List Flight) (v w : Var → ℤ) (terms : List Term)
    → All (IsSmall flights) terms
    → ((variable : Var) → IsThere flights variable → v variable ≡ w variable)
    → form_at v terms ≡ form_at w terms
form_same flights v w [] small same = refl
form_same flights v w (term ∷ terms) small same =
    ap₂ (λ a b. (term.factor *ℤ a) +ℤ b)
    (same term.variable (All-head (IsSmall flights) term terms small).there)
    (form_same flights v w terms (All-tail (IsSmall flights) term terms small) same)

module _ (frame : Frame) (point : FreePoint) (framed : IsFramed frame)
    (denominator : frame.denominator ≡ point.denominator)
    (are : AreByPosition (parts_in frame) frame.columns.now (box_of frame.boxes.now) point
    frame.numerators.items) where
  abbrev parts : Parts
  parts = parts_in frame

  abbrev box : Box
  box = box_of frame.boxes.now

  value_is : (v : Var) → IsThere parts.flights v → value_in frame v ≡ fraction_in parts box point v
  value_is v there =
      ap (λ d. value_by frame.columns.now.columns parts.flights box frame.numerators.items d v)
      denominator
      ∙ fraction_is parts frame.columns.now box point frame.numerators.items framed.ready.whole are
      v there

  taken_is : (cut : CutName) → is_taken frame cut ≡ exceeds parts box point cut
  taken_is cut =
      ap₂ (λ d form. int_lt (pos (cut_limit cut) *ℤ d) form) denominator
      (form_same parts.flights (value_in frame) (fraction_in parts box point) (cut_terms parts cut)
      (cut_small parts cut) value_is)

  pub taken_exactly : (cuts : List CutName)
      → AddsFirst most_cuts (is_taken frame) (whole_cuts parts) [] cuts
      → cuts ≡ exceeded_cuts parts box point
  taken_exactly cuts adds =
      adds.first
      ∙ ap (take most_cuts) (filter_agree (is_taken frame) (exceeds parts box point) taken_is
      (whole_cuts parts))

-- what is told of a row that is held is told of the cut
pub told_taken : (frame : Frame) (cut : CutName) (row : AtMost) (answer b : Bool)
    → row ≡ cut_row (parts_in frame) cut
    → answer ≡ is_exceeded (value_in frame) frame.denominator row → answer ≡ b
    → is_taken frame cut ≡ b
told_taken frame cut row answer b held told is =
    sym (ap (is_exceeded (value_in frame) frame.denominator) held) ∙ sym told ∙ is

-- those of all heads of a node, or none where it has none
pub heads_taken : (parts : Parts) (test : CutName → Bool) (f n : ℕ) (heads same : List ℕ)
    (old new now : List CutName)
    → same ≡ heads → 0 < length heads
    → AddsFirst most_cuts test (over_day parts (λ t. Heads f n t same)) old new → now ≡ new
    → AddsFirst most_cuts test (heads_cuts parts f n heads) old now
heads_taken parts test f n heads same old new now is some adds added =
    subst (λ b. AddsFirst most_cuts test (if b then over_day parts (λ t. Heads f n t heads) else [])
    old now) (sym (lt-ltb 0 (length heads) some))
    (subst (AddsFirst most_cuts test (over_day parts (λ t. Heads f n t heads)) old) (sym added)
    (subst (λ hs. AddsFirst most_cuts test (over_day parts (λ t. Heads f n t hs)) old new) is adds))

pub no_heads_taken : (parts : Parts) (test : CutName → Bool) (f n : ℕ) (heads : List ℕ)
    (old now : List CutName) → length heads ≤ 0 → length old ≤ most_cuts → now ≡ old
    → AddsFirst most_cuts test (heads_cuts parts f n heads) old now
no_heads_taken parts test f n heads old now none few same =
    subst (λ b. AddsFirst most_cuts test (if b then over_day parts (λ t. Heads f n t heads) else [])
    old now) (sym (le-ltb 0 (length heads) none))
    (subst (AddsFirst most_cuts test [] old) (sym same) (adds_none most_cuts test old few))
