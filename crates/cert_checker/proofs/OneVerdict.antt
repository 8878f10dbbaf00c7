-- A text has one verdict: each line does one thing, since a box has one tight box, and a leaf one
-- bound or one fault.
use Rattle.std.proofs.Common.{◌≡◌, inl, inr, ℕ, zero, suc, ◌+◌, ◌-◌, true, false, List, [], ◌∷◌, ◌++◌, Option, None, Some, Result, Ok, Err, sym, ◌∙◌, ap, subst, arith}
use Rattle.flow_types.specs.declared.bound.Bound.{Bound}
use Rattle.flow_types.specs.declared.parts.Parts.{Parts}
use Rattle.flow_types.specs.Valid.{IsScenario}
use Rattle.time_windows.specs.Boxes.{Box}
use Rattle.time_windows.specs.Splits.{early_branch, late_branch}
use Rattle.time_windows.proofs.OneTight.{tight_once}
use Rattle.bytime_model.specs.declared.multiplier.Multiplier.{Multiplier}
use Rattle.branch_tree.specs.declared.leaf.Leaf.{Leaf as LeafKind}
use Rattle.branch_tree.specs.declared.leaf.Leaf.TheVariants as leaf
use Rattle.dual_leaf.specs.declared.fault.LeafFault.{LeafFault}
use Rattle.dual_leaf.proofs.OneFacts.{leaf_one}
use Rattle.certificate.specs.declared.fault.LineFault.{LineFault}
use Rattle.certificate.specs.declared.item.CertItem.{CertItem}
use Rattle.certificate.specs.declared.item.CertItem.TheVariants as item
use Rattle.certificate.specs.declared.stage.Stage.TheVariants as stage
use Rattle.certificate.specs.Reading.{read_from}
use Rattle.cert_checker.specs.declared.fault.CertCause.TheVariants as cause
use Rattle.cert_checker.specs.declared.progress.LeafDraft.{LeafDraft}
use Rattle.cert_checker.specs.declared.progress.Progress.{Progress}
use Rattle.cert_checker.specs.declared.progress.RowLeaf.{RowLeaf}
use Rattle.cert_checker.specs.declared.progress.RowLeaf.TheVariants.{Dual, Lag}
use Rattle.cert_checker.specs.Fronts.{Front, GoesOn, front_at}
use Rattle.cert_checker.specs.Steps.{IsAfterLeaf, IsBadSplit, IsLeafAt, IsLeafLineAt, IsMadeSplit, IsRowAt, IsRowLine, IsRowsAt, IsSplitAt, IsStepAt, IsTreeStep, Outcome, begun, fault_in, leaf_of, with_bound, with_node}
use Rattle.cert_checker.specs.Verdicts.{After, Decides, IsVerdict, IsVerdictOn, Verdict}

module _ (parts : Parts) (valid : IsScenario parts) where
  goes_once : (boxes : List Box) (a b : Front) → GoesOn parts boxes a → GoesOn parts boxes b → a ≡ b
  goes_once [] a b first second = first ∙ sym second
  goes_once (box ∷ boxes) a b (tight, tight_is, is) (other, other_is, also) =
      is ∙ ap (λ t. front_at t boxes) (tight_once parts box tight other tight_is other_is)
      ∙ sym also

  module _ (box : Box) (boxes : List Box) (progress : Progress) (a b : Outcome) where
    -- the field that shows a split to be bad is the first one that does
    bad_once : (flight node time field other : ℕ)
        → IsBadSplit parts box flight node time field
        → IsBadSplit parts box flight node time other → field ≡ other
    bad_once f n t field other (inl first) (inl second) = first.0 ∙ sym second.0
    bad_once f n t field other (inl first) (inr (inl second)) = absurd (first.1 second.1)
    bad_once f n t field other (inl first) (inr (inr (inl second))) = absurd (first.1 second.1)
    bad_once f n t field other (inl first) (inr (inr (inr second))) = absurd (first.1 second.1)
    bad_once f n t field other (inr (inl first)) (inl second) = absurd (second.1 first.1)
    bad_once f n t field other (inr (inl first)) (inr (inl second)) = first.0 ∙ sym second.0
    bad_once f n t field other (inr (inl first)) (inr (inr (inl second))) =
        absurd (omega (arith, first.2, second.2))
    bad_once f n t field other (inr (inl first)) (inr (inr (inr second))) =
        absurd (omega (arith, first.2, second.2))
    bad_once f n t field other (inr (inr (inl first))) (inl second) = absurd (second.1 first.1)
    bad_once f n t field other (inr (inr (inl first))) (inr (inl second)) =
        absurd (omega (arith, first.2, second.2))
    bad_once f n t field other (inr (inr (inl first))) (inr (inr (inl second))) =
        first.0 ∙ sym second.0
    bad_once f n t field other (inr (inr (inl first))) (inr (inr (inr second))) =
        absurd (let wrong : false ≡ true = sym first.3 ∙ second.3 in cc wrong)
    bad_once f n t field other (inr (inr (inr first))) (inl second) = absurd (second.1 first.1)
    bad_once f n t field other (inr (inr (inr first))) (inr (inl second)) =
        absurd (omega (arith, first.2, second.2))
    bad_once f n t field other (inr (inr (inr first))) (inr (inr (inl second))) =
        absurd (let wrong : false ≡ true = sym second.3 ∙ first.3 in cc wrong)
    bad_once f n t field other (inr (inr (inr first))) (inr (inr (inr second))) =
        first.0 ∙ sym second.0

    -- a split that is made isn't bad
    not_bad : (flight node time field : ℕ) (outcome : Outcome)
        → IsMadeSplit parts box boxes progress flight node time outcome
        → IsBadSplit parts box flight node time field → ⊥
    not_bad f n t field outcome made (inl bad) = bad.1 made.live
    not_bad f n t field outcome made (inr (inl bad)) = omega (arith, made.there, bad.2)
    not_bad f n t field outcome made (inr (inr (inl bad))) =
        let wrong : false ≡ true = sym bad.3 ∙ made.node_there in cc wrong
    not_bad f n t field outcome made (inr (inr (inr bad))) = bad.4 made.branching

    split_once : (flight node time : ℕ)
        → IsSplitAt parts box boxes progress flight node time a
        → IsSplitAt parts box boxes progress flight node time b → a ≡ b
    split_once f n t (inl first) (inl second) =
        first.is
        ∙ ap (λ early. Ok (front_at early (late_branch f n t box ∷ boxes), with_node progress))
        (tight_once parts (early_branch f n t box) first.early second.early first.early_is
        second.early_is)
        ∙ sym second.is
    split_once f n t (inl made) (inr bad) = absurd (not_bad f n t bad.field a made bad.bad)
    split_once f n t (inr bad) (inl made) = absurd (not_bad f n t bad.field b made bad.bad)
    split_once f n t (inr first) (inr second) =
        first.is
        ∙ ap (λ field. Err (fault_in field cause.BadSplit))
        (bad_once f n t first.field second.field first.bad second.bad)
        ∙ sym second.is

    after_once : (answer : Result Bound LeafFault) → IsAfterLeaf parts boxes progress answer a
        → IsAfterLeaf parts boxes progress answer b → a ≡ b
    after_once (Err fault) first second = first ∙ sym second
    after_once (Ok bound) (front, goes, is) (other, also_goes, also_is) =
        is ∙ ap (λ now. Ok (now, with_bound progress bound))
        (goes_once boxes front other goes also_goes)
        ∙ sym also_is

    leaf_at_once : (leaf : LeafKind) → IsLeafAt parts box boxes progress leaf a
        → IsLeafAt parts box boxes progress leaf b → a ≡ b
    leaf_at_once leaf first second =
        after_once first.answer first.after
        (subst (λ answer. IsAfterLeaf parts boxes progress answer b)
        (leaf_one parts progress.pool box leaf second.answer first.answer valid second.bound
        first.bound)
        second.after)

    rows_once : (kind : RowLeaf) (weight left : ℕ) (rows : List Multiplier)
        → IsRowsAt parts box boxes progress kind weight left rows a
        → IsRowsAt parts box boxes progress kind weight left rows b → a ≡ b
    rows_once kind weight zero rows first second =
        leaf_at_once (leaf_of kind weight rows) first second
    rows_once kind weight (suc left) rows first second = first ∙ sym second

    leaf_line_once : (kind : RowLeaf) (weight rows : ℕ)
        → IsLeafLineAt parts box boxes progress kind weight rows a
        → IsLeafLineAt parts box boxes progress kind weight rows b → a ≡ b
    leaf_line_once kind weight rows (inl first) (inl second) = first.1 ∙ sym second.1
    leaf_line_once kind weight rows (inl dead) (inr live) = absurd (dead.0 live.0)
    leaf_line_once kind weight rows (inr live) (inl dead) = absurd (dead.0 live.0)
    leaf_line_once kind weight rows (inr first) (inr second) =
        rows_once kind weight rows [] first.1 second.1

    row_once : (draft : LeafDraft) (multiplier : Multiplier)
        → IsRowAt parts box boxes progress draft multiplier a
        → IsRowAt parts box boxes progress draft multiplier b → a ≡ b
    row_once draft multiplier (inl first) (inl second) = first.1 ∙ sym second.1
    row_once draft multiplier (inl unknown) (inr known) =
        absurd (let wrong : false ≡ true = sym unknown.0 ∙ known.0 in cc wrong)
    row_once draft multiplier (inr known) (inl unknown) =
        absurd (let wrong : false ≡ true = sym unknown.0 ∙ known.0 in cc wrong)
    row_once draft multiplier (inr first) (inr second) =
        rows_once draft.kind draft.weight (draft.left - 1) (draft.rows ++ multiplier ∷ []) first.1
        second.1

    row_line_once : (draft : Option LeafDraft) (multiplier : Multiplier)
        → IsRowLine parts box boxes progress draft multiplier a
        → IsRowLine parts box boxes progress draft multiplier b → a ≡ b
    row_line_once None multiplier first second = first ∙ sym second
    row_line_once (Some draft) multiplier first second = row_once draft multiplier first second

  module _ (root : Box) (digest : List ℕ) where
    tree_step_once : (front : Front) (box : Box) (progress : Progress) (item : CertItem)
        (a b : Outcome) → IsTreeStep parts root digest front box progress item a
        → IsTreeStep parts root digest front box progress item b → a ≡ b
    tree_step_once front box progress (item.Head stated) a b first second = first ∙ sym second
    tree_step_once front box progress (item.Cut cut) a b first second = first ∙ sym second
    tree_step_once front box progress (item.Split f n t cutoff) a b first second =
        split_once box front.waiting progress a b f n t first second
    tree_step_once front box progress item.Empty a b first second =
        leaf_at_once box front.waiting progress a b leaf.Empty first second
    tree_step_once front box progress item.Unit a b first second =
        leaf_at_once box front.waiting progress a b leaf.Unit first second
    tree_step_once front box progress (item.Dual weight rows) a b first second =
        leaf_line_once box front.waiting progress a b Dual weight rows first second
    tree_step_once front box progress (item.Lag weight rows) a b first second =
        leaf_line_once box front.waiting progress a b Lag weight rows first second
    tree_step_once front box progress (item.Row multiplier) a b first second =
        row_line_once box front.waiting progress a b front.leaf multiplier first second
    tree_step_once front box progress (item.Plan cost) a b first second = first ∙ sym second
    tree_step_once front box progress (item.Trip stops) a b first second = first ∙ sym second
    tree_step_once front box progress (item.Bound bound) a b first second = first ∙ sym second
    tree_step_once front box progress (item.End nodes) a b first second = first ∙ sym second

    step_at_once : (present : Option Box) (front : Front) (progress : Progress) (item : CertItem)
        (a b : Outcome) → IsStepAt parts root digest present front progress item a
        → IsStepAt parts root digest present front progress item b → a ≡ b
    step_at_once (Some box) front progress item a b first second =
        tree_step_once front box progress item a b first second
    step_at_once None front progress item a b first second = first ∙ sym second

    after_line_once : (line : ℕ) (next : Front → Progress → Verdict → Type 0) (a b : Verdict)
        → ((front : Front) (progress : Progress) → next front progress a → next front progress b
        → a ≡ b)
        → (outcome : Outcome) → After line outcome (λ front told. next front told a) a
        → After line outcome (λ front told. next front told b) b → a ≡ b
    after_line_once line next a b once (Err fault) first second = first ∙ sym second
    after_line_once line next a b once (Ok now) first second = once now.0 now.1 first second

    verdict_once : (items : List CertItem) (line : ℕ) (fault : Option LineFault) (front : Front)
        (progress : Progress) (a b : Verdict)
        → IsVerdictOn parts root digest line items fault front progress a
        → IsVerdictOn parts root digest line items fault front progress b → a ≡ b
    verdict_once [] line fault front progress a b first second = first ∙ sym second
    verdict_once (item ∷ items) line fault front progress a b (outcome, step, then)
        (other, also, on) =
        let same : other ≡ outcome =
        step_at_once front.present front progress item other outcome also step in
        let next : Front → Progress → Verdict → Type 0 =
        λ now told verdict. IsVerdictOn parts root digest (line + 1) items fault now told verdict in
        after_line_once line next a b
        (λ now told. verdict_once items (line + 1) fault now told a b) outcome then
        (subst (λ o. After line o (λ now told. next now told b) b) same on)

    pub one_verdict : (text : List ℕ) (a b : Verdict) → IsVerdict parts root digest text a
        → IsVerdict parts root digest text b → a ≡ b
    one_verdict text a b first second =
        let read = read_from parts stage.Head text in
        verdict_once read.items 1 read.fault (front_at first.tight []) begun a b first.decided
        (subst (λ tight. Decides parts root digest 1 read (front_at tight []) begun b)
        (tight_once parts root second.tight first.tight second.tight_is first.tight_is)
        second.decided)
