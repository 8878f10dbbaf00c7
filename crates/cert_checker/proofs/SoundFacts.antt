-- An accepted claim holds, whoever made the text: each plan in the first box that keeps every rule
-- is allowed by the bounds so far, or is in a box whose node is still to come.
use Rattle.std.proofs.Common.{◌≡◌, ◌⊎◌, inl, inr, ℕ, zero, suc, ◌+◌, ◌-◌, Bool, true, false, List, [], ◌∷◌, ◌++◌, length, Option, None, Some, Result, Ok, Err, refl, sym, ap, subst, ℤ, arith}
use Rattle.std.specs.Prelude.{IfOk, if◌then◌else◌, int_le, nat_lt}
use Rattle.std.proofs.lemmas.Bool.{and_parts}
use Rattle.std.proofs.lemmas.Int.{ints}
use Rattle.flow_outside.specs.Held.{Held}
use Rattle.flow_types.specs.declared.bound.Bound.{Bound}
use Rattle.flow_types.specs.declared.parts.Parts.{Parts}
use Rattle.flow_types.specs.declared.plan.Stop.{Stop}
use Rattle.flow_types.specs.Bounds.{lesser}
use Rattle.flow_types.specs.Costs.{plan_cost}
use Rattle.flow_types.specs.Feasible.{IsFeasible}
use Rattle.flow_types.specs.Valid.{IsScenario}
use Rattle.plan_rules.specs.declared.broken.Broken.{Broken}
use Rattle.plan_rules.specs.FirstBroken.{first_broken}
use Rattle.plan_rules.proofs.BrokenPlans.{feasible_from}
use Rattle.time_windows.specs.Boxes.{Box, IsBoxOf, IsInBox}
use Rattle.time_windows.specs.Plans.{IsBoundIn, IsPlanIn}
use Rattle.time_windows.specs.Splits.{early_branch, late_branch}
use Rattle.time_windows.specs.Tight.{IsTightened}
use Rattle.time_windows.proofs.LawFacts.{share_plan}
use Rattle.time_windows.proofs.MadeFacts.{early_inside, late_inside, within_inside}
use Rattle.time_windows.proofs.PlanFacts.{plan_kept}
use Rattle.bytime_model.specs.declared.multiplier.Multiplier.{Multiplier}
use Rattle.cut_rows.specs.declared.names.CutName.{CutName}
use Rattle.cut_rows.specs.Cuts.{is_cut}
use Rattle.cut_rows.specs.Order.{follows}
use Rattle.branch_tree.specs.declared.leaf.Leaf.{Leaf as LeafKind}
use Rattle.branch_tree.specs.declared.leaf.Leaf.TheVariants as leaf
use Rattle.branch_tree.proofs.ForestFacts.{IsInOne}
use Rattle.branch_tree.proofs.LawfulFacts.{Allows, allows_lesser_left, allows_lesser_right, bound_allows, bound_from}
use Rattle.dual_leaf.specs.declared.fault.LeafFault.{LeafFault}
use Rattle.dual_leaf.specs.Leaf.{IsLeafBound}
use Rattle.dual_leaf.proofs.LeafFacts.{leaf_bounds}
use Rattle.certificate.specs.declared.fault.LineFault.{LineFault}
use Rattle.certificate.specs.declared.item.CertItem.{CertItem}
use Rattle.certificate.specs.declared.item.CertItem.TheVariants as item
use Rattle.certificate.specs.declared.stage.Stage.TheVariants as stage
use Rattle.certificate.specs.Reading.{read_from}
use Rattle.cert_checker.specs.declared.claim.CertClaim.{CertClaim}
use Rattle.cert_checker.specs.declared.fault.CheckFault.{CheckFault}
use Rattle.cert_checker.specs.declared.fault.StepFault.{StepFault}
use Rattle.cert_checker.specs.declared.progress.LeafDraft.{LeafDraft}
use Rattle.cert_checker.specs.declared.progress.Progress.{Progress}
use Rattle.cert_checker.specs.declared.progress.RowLeaf.{RowLeaf}
use Rattle.cert_checker.specs.declared.progress.RowLeaf.TheVariants.{Dual, Lag}
use Rattle.cert_checker.specs.declared.progress.Told.{Told}
use Rattle.cert_checker.specs.declared.progress.Told.TheVariants as told
use Rattle.cert_checker.specs.Checks.{IfThere, IsChecked}
use Rattle.cert_checker.specs.Claims.{IsTrueClaim}
use Rattle.cert_checker.specs.Fronts.{Front, GoesOn, front_at}
use Rattle.cert_checker.specs.Outside.{first_outside}
use Rattle.cert_checker.specs.Steps.{IsAfterLeaf, IsLeafAt, IsLeafLineAt, IsMadeSplit, IsRowAt, IsRowLine, IsRowsAt, IsSplitAt, IsStep, IsStepAt, IsTreeStep, Outcome, at_front, begun, bound_fault, count_fault, cut_told, digest_fault, later_told, leaf_of, or_fault, outside_fault, plan_fault, plan_told, progress_told, same_cost, trip_told, trips_told, unless_fault, with_bound, with_cut}
use Rattle.cert_checker.specs.Verdicts.{IsVerdict, IsVerdictOn, claim_at, claim_told, in_line}
use Rattle.cert_checker.proofs.OutsideFacts.{in_box}

abbrev ok_or : {X E : Type 0} → X → Result X E → X
ok_or other (Ok x) = x
ok_or other (Err fault) = other

in_line_ok : (line : ℕ) (found : Result CertClaim StepFault) (claim : CertClaim)
    → in_line line found ≡ Ok claim → found ≡ Ok claim
in_line_ok line (Ok other) claim is = ap Ok (ap (ok_or claim) is)
in_line_ok line (Err fault) claim is = absurd (let e : ⊥ = cc is in e)

cost_is : (a b : ℤ) → same_cost a b ≡ true → b ≡ a
cost_is a b is =
    let both = and_parts (int_le a b) (int_le b a) is in
    let first = both.0 in
    let second = both.1 in
    omega (arith, ints, first, second)

abbrev pub AreBoxesOf : Parts → List Box → Type 0
AreBoxesOf parts [] = Unit {0}
AreBoxesOf parts (box ∷ boxes) = IsBoxOf parts box × AreBoxesOf parts boxes

module _ (parts : Parts) (root : Box) (digest : List ℕ) (valid : IsScenario parts)
    (root_of : IsBoxOf parts root) where
  abbrev IsInNext : Option Box → List (List Stop) → Type 0
  IsInNext None plan = ⊥
  IsInNext (Some box) plan = IsInBox box plan

  -- where the plan is
  abbrev IsOpen : Option Box → List Box → Bound → List (List Stop) → Type 0
  IsOpen present waiting bound plan =
      Allows (plan_cost parts.tables parts.flights plan) bound
      ⊎ (IsInNext present plan ⊎ IsInOne waiting plan)

  record IsWholePlan (cost : ℤ) (plan : List (List Stop)) : Type 0 where
    plan_in : IsPlanIn parts root plan
    costs : plan_cost parts.tables parts.flights plan ≡ cost

  abbrev IsTruth : Told → Type 0
  IsTruth told.Nothing = Unit {0}
  IsTruth told.NoPlan = Unit {0}
  IsTruth (told.Trips cost trips) = Unit {0}
  IsTruth (told.Whole cost plan) = IsWholePlan cost plan

  record IsSound (front : Front) (progress : Progress) : Type 0 where
    plans : (plan : List (List Stop)) → IsPlanIn parts root plan
        → IsOpen front.present front.waiting progress.bound plan
    present : IfThere (IsBoxOf parts) front.present
    waiting : AreBoxesOf parts front.waiting
    over : front.present ≡ None → front.waiting ≡ []
    truth : IsTruth progress.told

  abbrev OnOutcome : Outcome → Type 0
  OnOutcome (Ok now) = IsSound now.0 now.1
  OnOutcome (Err fault) = Unit {0}

  -- a plan in a box is in the tight one
  in_tight : (box tight : Box) (plan : List (List Stop)) → IsTightened parts box tight
      → IsPlanIn parts root plan → IsInBox box plan → IsInBox tight plan
  in_tight box tight plan tight_is in_root inside =
      plan_kept parts valid plan box in_root.feasible.trips in_root.feasible.turns tight tight_is
      inside

  module _ (box : Box) (boxes : List Box) (progress : Progress) (outcome : Outcome)
      (box_of : IsBoxOf parts box) (boxes_of : AreBoxesOf parts boxes)
      (truth : IsTruth progress.told)
      (plans : (plan : List (List Stop)) → IsPlanIn parts root plan
      → IsOpen (Some box) boxes progress.bound plan) where
    split_sound : (flight node time : ℕ)
        → IsMadeSplit parts box boxes progress flight node time outcome → OnOutcome outcome
    split_sound flight node time made = subst OnOutcome (sym made.is) (record {
      plans = λ plan in_root. by plan in_root (plans plan in_root);
      present = within_inside parts (early_branch flight node time box) made.early
          made.early_is.within (early_inside parts box flight node time made.branching box_of);
      waiting = (late_inside parts box flight node time made.branching box_of, boxes_of);
      over = λ none. absurd (let e : ⊥ = cc none in e);
      truth = truth;
    })
      where
        sides : (plan : List (List Stop)) → IsPlanIn parts root plan
            → IsInBox (early_branch flight node time box) plan
            ⊎ IsInBox (late_branch flight node time box) plan
            → IsOpen (Some made.early) (late_branch flight node time box ∷ boxes) progress.bound
            plan
        sides plan in_root (inl early) =
            inr (inl (in_tight (early_branch flight node time box) made.early plan made.early_is
            in_root early))
        sides plan in_root (inr late) = inr (inr (inl late))

        by : (plan : List (List Stop)) → IsPlanIn parts root plan
            → IsOpen (Some box) boxes progress.bound plan
            → IsOpen (Some made.early) (late_branch flight node time box ∷ boxes) progress.bound
            plan
        by plan in_root (inl allowed) = inl allowed
        by plan in_root (inr (inl inside)) =
            sides plan in_root (share_plan box flight node time parts plan valid made.there
            in_root.feasible.trips inside)
        by plan in_root (inr (inr waits)) = inr (inr (inr waits))

    -- a leaf whose bound this is
    leaf_allows : (bound : Bound) → IsBoundIn parts box bound → (plan : List (List Stop))
        → IsPlanIn parts root plan
        → Allows (plan_cost parts.tables parts.flights plan) (lesser progress.bound bound)
        ⊎ IsInOne boxes plan
    leaf_allows bound is plan in_root = by (plans plan in_root)
      where
        cost : ℤ
        cost = plan_cost parts.tables parts.flights plan

        by : IsOpen (Some box) boxes progress.bound plan
            → Allows cost (lesser progress.bound bound) ⊎ IsInOne boxes plan
        by (inl allowed) = inl (allows_lesser_left cost progress.bound bound allowed)
        by (inr (inl inside)) =
            inl (allows_lesser_right cost progress.bound bound
            (bound_allows parts box bound plan is
            (record { feasible = in_root.feasible; inside = inside })))
        by (inr (inr waits)) = inr waits

    abbrev IsSafe : Result Bound LeafFault → Type 0
    IsSafe (Ok bound) = IsBoundIn parts box bound
    IsSafe (Err fault) = Unit {0}

    is_safe : (leaf : LeafKind) (answer : Result Bound LeafFault)
        → IsLeafBound parts progress.pool box leaf answer → IsSafe answer
    is_safe leaf (Ok bound) is =
        leaf_bounds parts progress.pool box leaf bound valid box_of is
    is_safe leaf (Err fault) is = tt

    after_sound : (answer : Result Bound LeafFault) → IsSafe answer
        → IsAfterLeaf parts boxes progress answer outcome → OnOutcome outcome
    after_sound (Err fault) sound after = subst OnOutcome (sym after) tt
    after_sound (Ok bound) sound (front, goes_on, is) =
        subst OnOutcome (sym is) (by boxes refl front goes_on)
      where
        by : (waiting : List Box) → waiting ≡ boxes → (next : Front) → GoesOn parts waiting next
            → IsSound next (with_bound progress bound)
        by [] same next none = rw none (record {
          plans = λ plan in_root. only plan (leaf_allows bound sound plan in_root);
          present = tt;
          waiting = tt;
          over = λ _. refl;
          truth = truth;
        })
          where
            only : (plan : List (List Stop))
                → Allows (plan_cost parts.tables parts.flights plan) (lesser progress.bound bound)
                ⊎ IsInOne boxes plan
                → IsOpen None [] (lesser progress.bound bound) plan
            only plan (inl allowed) = inl allowed
            only plan (inr waits) = absurd (rw (sym same) at waits)
        by (first ∷ waiting) same next (tight, tight_is, next_is) = rw next_is (record {
          plans = λ plan in_root. on plan in_root (leaf_allows bound sound plan in_root);
          present = within_inside parts first tight tight_is.within are.0;
          waiting = are.1;
          over = λ none. absurd (let e : ⊥ = cc none in e);
          truth = truth;
        })
          where
            are : AreBoxesOf parts (first ∷ waiting)
            are = subst (AreBoxesOf parts) (sym same) boxes_of

            goes : (plan : List (List Stop)) → IsPlanIn parts root plan
                → IsInOne (first ∷ waiting) plan
                → IsOpen (Some tight) waiting (lesser progress.bound bound) plan
            goes plan in_root (inl inside) =
                inr (inl (in_tight first tight plan tight_is in_root inside))
            goes plan in_root (inr waits) = inr (inr waits)

            on : (plan : List (List Stop)) → IsPlanIn parts root plan
                → Allows (plan_cost parts.tables parts.flights plan) (lesser progress.bound bound)
                ⊎ IsInOne boxes plan
                → IsOpen (Some tight) waiting (lesser progress.bound bound) plan
            on plan in_root (inl allowed) = inl allowed
            on plan in_root (inr waits) =
                goes plan in_root (subst (λ bs. IsInOne bs plan) (sym same) waits)

    leaf_at_sound : (leaf : LeafKind) → IsLeafAt parts box boxes progress leaf outcome
        → OnOutcome outcome
    leaf_at_sound leaf is = after_sound is.answer (is_safe leaf is.answer is.bound) is.after

    -- the same boxes
    rows_sound : (kind : RowLeaf) (weight left : ℕ) (rows : List Multiplier)
        → IsRowsAt parts box boxes progress kind weight left rows outcome → OnOutcome outcome
    rows_sound kind weight zero rows is = leaf_at_sound (leaf_of kind weight rows) is
    rows_sound kind weight (suc left) rows is = subst OnOutcome (sym is) (record {
      plans = plans;
      present = box_of;
      waiting = boxes_of;
      over = λ none. absurd (let e : ⊥ = cc none in e);
      truth = truth;
    })

    refused_sound : (fault : StepFault) → outcome ≡ Err fault → OnOutcome outcome
    refused_sound fault is = subst OnOutcome (sym is) tt

    split_at_sound : (flight node time : ℕ)
        → IsSplitAt parts box boxes progress flight node time outcome → OnOutcome outcome
    split_at_sound flight node time (inl made) = split_sound flight node time made
    split_at_sound flight node time (inr bad) = refused_sound _ bad.is

    leaf_line_sound : (kind : RowLeaf) (weight rows : ℕ)
        → IsLeafLineAt parts box boxes progress kind weight rows outcome → OnOutcome outcome
    leaf_line_sound kind weight rows (inl (closed, is)) = refused_sound _ is
    leaf_line_sound kind weight rows (inr (live, is)) = rows_sound kind weight rows [] is

    row_sound : (draft : LeafDraft) (multiplier : Multiplier)
        → IsRowAt parts box boxes progress draft multiplier outcome → OnOutcome outcome
    row_sound draft multiplier (inl (unknown, is)) = refused_sound _ is
    row_sound draft multiplier (inr (known, is)) =
        rows_sound draft.kind draft.weight (draft.left - 1) (draft.rows ++ multiplier ∷ []) is

    row_line_sound : (leaf : Option LeafDraft) (multiplier : Multiplier)
        → IsRowLine parts box boxes progress leaf multiplier outcome → OnOutcome outcome
    row_line_sound None multiplier is = refused_sound _ is
    row_line_sound (Some draft) multiplier is = row_sound draft multiplier is

  -- what is told of the plan
  fault_truth : (cost : ℤ) (plan : List (List Stop)) (broken : Option Broken) (now : Told)
      → first_broken parts plan ≡ broken
      → or_fault (told.Whole cost plan) (plan_fault parts root plan cost broken) ≡ Ok now
      → IsTruth now
  fault_truth cost plan (Some rule) now none is = absurd (let e : ⊥ = cc is in e)
  fault_truth cost plan None now none is =
      by (same_cost cost (plan_cost parts.tables parts.flights plan)) refl
    where
      feasible : IsFeasible parts plan
      feasible = feasible_from parts plan none

      inside : (found : Option (ℕ × ℕ)) → first_outside root plan ≡ found
          → or_fault (told.Whole cost plan) (outside_fault found) ≡ Ok now
          → plan_cost parts.tables parts.flights plan ≡ cost → IsTruth now
      inside (Some at) found gives costs = absurd (let e : ⊥ = cc gives in e)
      inside None found gives costs =
          let same : told.Whole cost plan ≡ now = ap (ok_or now) gives in
          subst IsTruth same (record {
            plan_in = record {
              feasible = feasible;
              inside = in_box parts valid root root_of plan feasible.trips found;
            };
            costs = costs;
          })

      by : (same : Bool) → same_cost cost (plan_cost parts.tables parts.flights plan) ≡ same
          → IsTruth now
      by true same =
          inside (first_outside root plan) refl (rw same at is)
          (cost_is cost (plan_cost parts.tables parts.flights plan) same)
      by false other = absurd (let e : ⊥ = cc (rw other at is) in e)

  trips_truth : (cost : ℤ) (trips : List (List Stop)) (now : Told)
      → trips_told parts root cost trips ≡ Ok now → IsTruth now
  trips_truth cost trips now is = by (nat_lt (length trips) (length parts.flights)) refl
    where
      by : (more : Bool) → nat_lt (length trips) (length parts.flights) ≡ more → IsTruth now
      by true more =
          let same : told.Trips cost trips ≡ now = ap (ok_or now) (rw more at is) in
          subst IsTruth same tt
      by false whole =
          fault_truth cost trips (first_broken parts trips) now refl (rw whole at is)

  plan_truth : (old now : Told) (cost : Option ℤ) → plan_told parts root old cost ≡ Ok now
      → IsTruth now
  plan_truth told.Nothing now None is =
      subst IsTruth (ap (ok_or now) is) tt
  plan_truth told.Nothing now (Some cost) is = trips_truth cost [] now is
  plan_truth told.NoPlan now cost is = absurd (let e : ⊥ = cc is in e)
  plan_truth (told.Trips other trips) now cost is = absurd (let e : ⊥ = cc is in e)
  plan_truth (told.Whole other plan) now cost is = absurd (let e : ⊥ = cc is in e)

  trip_truth : (old now : Told) (trip : List Stop) → trip_told parts root old trip ≡ Ok now
      → IsTruth now
  trip_truth told.Nothing now trip is = absurd (let e : ⊥ = cc is in e)
  trip_truth told.NoPlan now trip is = absurd (let e : ⊥ = cc is in e)
  trip_truth (told.Trips cost trips) now trip is = trips_truth cost (trips ++ trip ∷ []) now is
  trip_truth (told.Whole cost plan) now trip is = absurd (let e : ⊥ = cc is in e)

  -- and the bound stays
  record IsStill (old now : Progress) : Type 0 where
    bound : now.bound ≡ old.bound
    truth : IsTruth now.told

  told_still : (old now : Progress) (found : Result Told StepFault)
      → ((it : Told) → found ≡ Ok it → IsTruth it) → progress_told old found ≡ Ok now
      → IsStill old now
  told_still old now (Err fault) truth is = absurd (let e : ⊥ = cc is in e)
  told_still old now (Ok it) truth is =
      subst (IsStill old) (ap (ok_or now) is)
      (record { bound = refl; truth = truth it refl })

  same_still : (old now : Progress) (fault : Option StepFault) → IsTruth old.told
      → unless_fault old fault ≡ Ok now → IsStill old now
  same_still old now (Some fault) truth is = absurd (let e : ⊥ = cc is in e)
  same_still old now None truth is =
      subst (IsStill old) (ap (ok_or now) is) (record { bound = refl; truth = truth })

  -- a cut changes neither
  cut_by : (after there : Bool) (old now : Progress) (cut : CutName) (bad early : StepFault)
      → IsTruth old.told
      → (if after then (if there then Ok (with_cut old cut) else Err bad) else Err early) ≡ Ok now
      → IsStill old now
  cut_by true true old now cut bad early truth is =
      subst (IsStill old) (ap (ok_or now) is) (record { bound = refl; truth = truth })
  cut_by true false old now cut bad early truth is = absurd (let e : ⊥ = cc is in e)
  cut_by false there old now cut bad early truth is = absurd (let e : ⊥ = cc is in e)

  cut_still : (old now : Progress) (cut : CutName) → IsTruth old.told
      → cut_told parts old cut ≡ Ok now → IsStill old now
  cut_still old now cut truth is =
      cut_by (follows old.pool cut) (is_cut parts cut) old now cut _ _ truth is

  later_still : (old now : Progress) (it : CertItem) → IsTruth old.told
      → later_told parts root digest old it ≡ Ok now → IsStill old now
  later_still old now (item.Head stated) truth is =
      same_still old now (digest_fault digest stated) truth is
  later_still old now (item.Cut cut) truth is = absurd (let e : ⊥ = cc is in e)
  later_still old now (item.Plan cost) truth is =
      told_still old now (plan_told parts root old.told cost)
      (λ next. plan_truth old.told next cost) is
  later_still old now (item.Trip trip) truth is =
      told_still old now (trip_told parts root old.told trip)
      (λ next. trip_truth old.told next trip) is
  later_still old now (item.Bound stated) truth is =
      same_still old now (bound_fault old stated) truth is
  later_still old now (item.End nodes) truth is =
      same_still old now (count_fault old nodes) truth is
  later_still old now (item.Split flight node time cutoff) truth is =
      absurd (let e : ⊥ = cc is in e)
  later_still old now item.Empty truth is = absurd (let e : ⊥ = cc is in e)
  later_still old now item.Unit truth is = absurd (let e : ⊥ = cc is in e)
  later_still old now (item.Dual weight rows) truth is = absurd (let e : ⊥ = cc is in e)
  later_still old now (item.Lag weight rows) truth is = absurd (let e : ⊥ = cc is in e)
  later_still old now (item.Row multiplier) truth is = absurd (let e : ⊥ = cc is in e)

  -- the same boxes
  still_sound : (front : Front) (old : Progress) → IsSound front old
      → (found : Result Progress StepFault) → ((now : Progress) → found ≡ Ok now
      → IsStill old now) → OnOutcome (at_front front found)
  still_sound front old sound (Err fault) still = tt
  still_sound front old sound (Ok now) still =
      let is = still now refl in
      record {
        plans = λ plan in_root. subst (λ bound. IsOpen front.present front.waiting bound plan)
            (sym is.bound) (sound.plans plan in_root);
        present = sound.present;
        waiting = sound.waiting;
        over = sound.over;
        truth = is.truth;
      }

  -- where a node is to come
  tree_sound : (front : Front) (progress : Progress) (outcome : Outcome)
      → IsSound front progress → (box : Box) → front.present ≡ Some box → (it : CertItem)
      → IsTreeStep parts root digest front box progress it outcome → OnOutcome outcome
  tree_sound front progress outcome sound box here it step = by it step
    where
      box_of : IsBoxOf parts box
      box_of = subst (IfThere (IsBoxOf parts)) here sound.present

      plans : (plan : List (List Stop)) → IsPlanIn parts root plan
          → IsOpen (Some box) front.waiting progress.bound plan
      plans plan in_root = subst (λ (present : Option Box).
          IsOpen present front.waiting progress.bound plan) here (sound.plans plan in_root)

      by : (it : CertItem) → IsTreeStep parts root digest front box progress it outcome
          → OnOutcome outcome
      by (item.Head stated) is = subst OnOutcome (sym is)
          (still_sound front progress sound
          (unless_fault progress (digest_fault digest stated))
          (λ now. same_still progress now (digest_fault digest stated) sound.truth))
      by (item.Cut cut) is = subst OnOutcome (sym is)
          (still_sound front progress sound (cut_told parts progress cut)
          (λ now. cut_still progress now cut sound.truth))
      by (item.Split flight node time cutoff) is =
          split_at_sound box front.waiting progress outcome box_of sound.waiting sound.truth plans
          flight node time is
      by item.Empty is =
          leaf_at_sound box front.waiting progress outcome box_of sound.waiting sound.truth plans
          leaf.Empty is
      by item.Unit is =
          leaf_at_sound box front.waiting progress outcome box_of sound.waiting sound.truth plans
          leaf.Unit is
      by (item.Dual weight rows) is =
          leaf_line_sound box front.waiting progress outcome box_of sound.waiting sound.truth
          plans Dual weight rows is
      by (item.Lag weight rows) is =
          leaf_line_sound box front.waiting progress outcome box_of sound.waiting sound.truth
          plans Lag weight rows is
      by (item.Row multiplier) is =
          row_line_sound box front.waiting progress outcome box_of sound.waiting sound.truth plans
          front.leaf multiplier is
      by (item.Plan cost) is = subst OnOutcome (sym is) tt
      by (item.Trip trip) is = subst OnOutcome (sym is) tt
      by (item.Bound bound) is = subst OnOutcome (sym is) tt
      by (item.End nodes) is = subst OnOutcome (sym is) tt

  step_sound : (front : Front) (progress : Progress) (it : CertItem) (outcome : Outcome)
      → IsSound front progress → IsStep parts root digest front progress it outcome
      → OnOutcome outcome
  step_sound front progress it outcome sound step = by front.present refl step
    where
      by : (present : Option Box) → front.present ≡ present
          → IsStepAt parts root digest present front progress it outcome → OnOutcome outcome
      by (Some box) here is = tree_sound front progress outcome sound box here it is
      by None none is = subst OnOutcome (sym is)
          (still_sound front progress sound (later_told parts root digest progress it)
          (λ now. later_still progress now it sound.truth))

  claim_sound : (front : Front) (progress : Progress) (claim : CertClaim)
      → IsSound front progress → claim_at front.present progress ≡ Ok claim
      → IsTrueClaim parts root claim
  claim_sound front progress claim sound is = by front.present refl is
    where
      bounded : front.present ≡ None → IsBoundIn parts root progress.bound
      bounded none = bound_from parts root progress.bound
          (λ plan in_root. allowed plan (subst (λ waiting. IsOpen None waiting progress.bound
          plan) (sound.over none) (subst (λ (present : Option Box).
          IsOpen present front.waiting progress.bound plan) none (sound.plans plan in_root))))
        where
          allowed : (plan : List (List Stop)) → IsOpen None [] progress.bound plan
              → Allows (plan_cost parts.tables parts.flights plan) progress.bound
          allowed plan (inl allows) = allows
          allowed plan (inr (inl nowhere)) = absurd nowhere
          allowed plan (inr (inr nowhere)) = absurd nowhere

      told_by : (now : Told) → IsTruth now → front.present ≡ None
          → claim_told progress now ≡ Ok claim → IsTrueClaim parts root claim
      told_by told.Nothing truth none tells = absurd (let e : ⊥ = cc tells in e)
      told_by (told.Trips cost trips) truth none tells = absurd (let e : ⊥ = cc tells in e)
      told_by told.NoPlan truth none tells =
          subst (IsTrueClaim parts root) (ap (ok_or claim) tells)
          (record { bound = bounded none; plan = refl })
      told_by (told.Whole cost plan) truth none tells =
          subst (IsTrueClaim parts root) (ap (ok_or claim) tells)
          (record {
            bound = bounded none;
            plan = (truth.plan_in, ap Some (sym truth.costs));
          })

      by : (present : Option Box) → front.present ≡ present
          → claim_at present progress ≡ Ok claim → IsTrueClaim parts root claim
      by (Some box) here claims = absurd (let e : ⊥ = cc claims in e)
      by None none claims = told_by progress.told sound.truth none claims

  verdict_sound : (items : List CertItem) (line : ℕ) (fault : Option LineFault) (front : Front)
      (progress : Progress) (claim : CertClaim) → IsSound front progress
      → IsVerdictOn parts root digest line items fault front progress (Ok claim)
      → IsTrueClaim parts root claim
  verdict_sound [] line (Some fault) front progress claim sound is =
      absurd (let e : ⊥ = cc is in e)
  verdict_sound [] line None front progress claim sound is =
      claim_sound front progress claim sound
      (in_line_ok line (claim_at front.present progress) claim (sym is))
  verdict_sound (it ∷ items) line fault front progress claim sound (Err refused, step, after) =
      absurd (let e : ⊥ = cc after in e)
  verdict_sound (it ∷ items) line fault front progress claim sound (Ok now, step, after) =
      verdict_sound items (line + 1) fault now.0 now.1 claim
      (step_sound front progress it (Ok now) sound step) after

  -- an accepted claim holds
  pub claims_hold : (text : List ℕ) (claim : CertClaim)
      → IsVerdict parts root digest text (Ok claim) → IsTrueClaim parts root claim
  claims_hold text claim is =
      let read = read_from parts stage.Head text in
      verdict_sound read.items 1 read.fault (front_at is.tight []) begun claim (record {
        plans = λ plan in_root. inr (inl (in_tight root is.tight plan is.tight_is in_root
            in_root.inside));
        present = within_inside parts root is.tight is.tight_is.within root_of;
        waiting = tt;
        over = λ none. absurd (let e : ⊥ = cc none in e);
        truth = tt;
      }) is.decided

  -- and so it is of what a check answers
  pub result_holds : (held : Option Held) (name : List ℕ) (result : Result CertClaim CheckFault)
      → IfOk result (λ claim. IsChecked parts root digest held name (Ok claim))
      → IfOk result (IsTrueClaim parts root)
  result_holds held name (Ok claim) is = claims_hold is.text claim is.is
  result_holds held name (Err fault) is = tt
