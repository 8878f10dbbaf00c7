-- What the next line of a certificate does: to the boxes of the nodes that are still to come, and
-- to what was told so far. It is said of every item: where no reader answers one, it is of a bad
-- kind, or as if it could stand there.
use Rattle.std.specs.Prelude.{◌≡◌, ◌⊎◌, ℕ, zero, suc, ◌+◌, ◌-◌, ◌<◌, ◌≤◌, Bool, true, false, ◌&&◌, nat_eq, nat_lt, List, [], ◌∷◌, ◌++◌, length, Option, None, Some, Result, Ok, Err, slice_get, ℤ, int_le, if◌then◌else◌}
use Rattle.std.specs.Str.{bytes_eq}
use Rattle.flow_types.specs.declared.bound.Bound.{Bound}
use Rattle.flow_types.specs.declared.bound.Bound.TheVariants.{AtLeast, NoPlan}
use Rattle.flow_types.specs.declared.parts.Parts.{Parts}
use Rattle.flow_types.specs.declared.plan.Stop.{Stop}
use Rattle.flow_types.specs.Bounds.{lesser}
use Rattle.flow_types.specs.Costs.{plan_cost}
use Rattle.plan_rules.specs.declared.broken.Broken.{Broken}
use Rattle.plan_rules.specs.FirstBroken.{first_broken}
use Rattle.time_windows.specs.Boxes.{Box}
use Rattle.time_windows.specs.Splits.{IsBranching, early_branch, late_branch}
use Rattle.time_windows.specs.Tight.{IsLive, IsTightened}
use Rattle.bytime_model.specs.declared.multiplier.Multiplier.{Multiplier}
use Rattle.bytime_model.specs.declared.names.RowName.{RowName}
use Rattle.bytime_model.specs.Rows.{is_node}
use Rattle.branch_tree.specs.declared.leaf.Leaf.{Leaf as LeafKind}
use Rattle.branch_tree.specs.declared.leaf.Leaf.TheVariants as leaf
use Rattle.dual_leaf.specs.declared.fault.LeafFault.{LeafFault}
use Rattle.dual_leaf.specs.declared.fault.LeafFault.TheVariants as leaf_fault
use Rattle.cut_rows.specs.declared.names.CutName.{CutName}
use Rattle.cut_rows.specs.Cuts.{is_cut}
use Rattle.cut_rows.specs.Order.{follows}
use Rattle.cut_rows.specs.Pools.{is_row_with}
use Rattle.dual_leaf.specs.Lag.{is_priceable}
use Rattle.dual_leaf.specs.Leaf.{IsLeafBound}
use Rattle.certificate.specs.declared.fault.TextCause.TheVariants.{BadCut, BadKind, Order}
use Rattle.certificate.specs.declared.item.CertItem.{CertItem}
use Rattle.certificate.specs.declared.item.CertItem.TheVariants as item
use Rattle.cert_checker.specs.declared.fault.CertCause.{CertCause}
use Rattle.cert_checker.specs.declared.fault.CertCause.TheVariants as cause
use Rattle.cert_checker.specs.declared.fault.StepFault.{StepFault}
use Rattle.cert_checker.specs.declared.progress.LeafDraft.{LeafDraft}
use Rattle.cert_checker.specs.declared.progress.Progress.{Progress}
use Rattle.cert_checker.specs.declared.progress.RowLeaf.{RowLeaf}
use Rattle.cert_checker.specs.declared.progress.RowLeaf.TheVariants.{Dual, Lag}
use Rattle.cert_checker.specs.declared.progress.Told.{Told}
use Rattle.cert_checker.specs.declared.progress.Told.TheVariants as told
use Rattle.cert_checker.specs.Fronts.{Front, GoesOn, front_at, front_in}
use Rattle.cert_checker.specs.Outside.{first_outside}

abbrev pub Outcome : Type 0
Outcome = Result (Front × Progress) StepFault

abbrev pub fault_in : ℕ → CertCause → StepFault
fault_in field cause = record { field = field; cause = cause }

abbrev pub bad_kind : StepFault
bad_kind = fault_in 1 (cause.Text BadKind)

-- nothing was told
abbrev pub begun : Progress
begun = record { pool = []; bound = NoPlan; nodes = 0; told = told.Nothing }

-- a cut more
abbrev pub with_cut : Progress → CutName → Progress
with_cut progress cut = record {
  pool = progress.pool ++ cut ∷ [];
  bound = progress.bound;
  nodes = progress.nodes;
  told = progress.told;
}

-- a split more
abbrev pub with_node : Progress → Progress
with_node progress = record {
  pool = progress.pool;
  bound = progress.bound;
  nodes = progress.nodes + 1;
  told = progress.told;
}

-- a leaf more
abbrev pub with_bound : Progress → Bound → Progress
with_bound progress bound = record {
  pool = progress.pool;
  bound = lesser progress.bound bound;
  nodes = progress.nodes + 1;
  told = progress.told;
}

-- something of the plan
abbrev pub with_told : Progress → Told → Progress
with_told progress now = record {
  pool = progress.pool;
  bound = progress.bound;
  nodes = progress.nodes;
  told = now;
}

-- a split that isn't lawful, and the field that shows it
abbrev pub IsBadSplit : Parts → Box → ℕ → ℕ → ℕ → ℕ → Type 0
IsBadSplit parts box flight node time field =
    ((field ≡ 1) × (IsLive box → ⊥))
    ⊎ ((field ≡ 2) × IsLive box × (length parts.flights ≤ flight))
    ⊎ ((field ≡ 3) × IsLive box × (flight < length parts.flights)
    × (is_node (slice_get parts.flights flight) node ≡ false))
    ⊎ ((field ≡ 4) × IsLive box × (flight < length parts.flights)
    × (is_node (slice_get parts.flights flight) node ≡ true)
    × (IsBranching (box flight node) time → ⊥))

pub record IsMadeSplit (parts : Parts) (box : Box) (boxes : List Box) (progress : Progress)
    (flight node time : ℕ) (outcome : Outcome) : Type 0 where
  pub live : IsLive box
  pub there : flight < length parts.flights
  pub node_there : is_node (slice_get parts.flights flight) node ≡ true
  pub branching : IsBranching (box flight node) time
  pub early : Box
  pub early_is : IsTightened parts (early_branch flight node time box) early
  pub is : outcome ≡ Ok (
    front_at early (late_branch flight node time box ∷ boxes),
    with_node progress,
  )

pub record IsRefusedSplit (parts : Parts) (box : Box) (flight node time : ℕ) (outcome : Outcome)
    : Type 0 where
  pub field : ℕ
  pub bad : IsBadSplit parts box flight node time field
  pub is : outcome ≡ Err (fault_in field cause.BadSplit)

abbrev pub IsSplitAt : Parts → Box → List Box → Progress → ℕ → ℕ → ℕ → Outcome → Type 0
IsSplitAt parts box boxes progress flight node time outcome =
    IsMadeSplit parts box boxes progress flight node time outcome
    ⊎ IsRefusedSplit parts box flight node time outcome

abbrev pub leaf_cause : LeafFault → StepFault
leaf_cause leaf_fault.NotEmpty = fault_in 1 cause.NotEmpty
leaf_cause (leaf_fault.NotUnit flight node) = fault_in 1 cause.NotUnit
leaf_cause (leaf_fault.Closed flight node) = fault_in 1 cause.Closed
leaf_cause (leaf_fault.UnknownRow position) = fault_in 2 cause.UnknownRow
leaf_cause (leaf_fault.Useless value) = fault_in 1 (cause.Useless value)

-- a leaf that is read, by its bound or its fault
abbrev pub IsAfterLeaf : Parts → List Box → Progress → Result Bound LeafFault → Outcome → Type 0
IsAfterLeaf parts boxes progress (Err fault) outcome = outcome ≡ Err (leaf_cause fault)
IsAfterLeaf parts boxes progress (Ok bound) outcome =
    (front : Front) × GoesOn parts boxes front
    × (outcome ≡ Ok (front, with_bound progress bound))

pub record IsLeafAt (parts : Parts) (box : Box) (boxes : List Box) (progress : Progress)
    (leaf : LeafKind) (outcome : Outcome) : Type 0 where
  pub answer : Result Bound LeafFault
  pub bound : IsLeafBound parts progress.pool box leaf answer
  pub after : IsAfterLeaf parts boxes progress answer outcome

abbrev pub leaf_of : RowLeaf → ℕ → List Multiplier → LeafKind
leaf_of Dual weight rows = leaf.Dual weight rows
leaf_of Lag weight rows = leaf.Lag weight rows

-- so many rows of a leaf are still to come
abbrev pub IsRowsAt : Parts → Box → List Box → Progress → RowLeaf → ℕ → ℕ → List Multiplier
    → Outcome → Type 0
IsRowsAt parts box boxes progress kind weight zero rows outcome =
    IsLeafAt parts box boxes progress (leaf_of kind weight rows) outcome
IsRowsAt parts box boxes progress kind weight (suc left) rows outcome =
    outcome ≡ Ok (
      front_in box
          (record { kind = kind; weight = weight; left = suc left; rows = rows }) boxes,
      progress,
    )

-- a leaf with rows isn't of an empty box
abbrev pub IsLeafLineAt : Parts → Box → List Box → Progress → RowLeaf → ℕ → ℕ → Outcome → Type 0
IsLeafLineAt parts box boxes progress kind weight rows outcome =
    ((IsLive box → ⊥) × (outcome ≡ Err (fault_in 1 cause.Closed)))
    ⊎ (IsLive box × IsRowsAt parts box boxes progress kind weight rows [] outcome)

-- a row that the leaf may name
abbrev pub may_name : Parts → List CutName → RowLeaf → RowName → Bool
may_name parts pool Dual name = is_row_with parts pool name
may_name parts pool Lag name = is_priceable parts name

abbrev pub IsRowAt : Parts → Box → List Box → Progress → LeafDraft → Multiplier → Outcome → Type 0
IsRowAt parts box boxes progress draft multiplier outcome =
    ((may_name parts progress.pool draft.kind multiplier.row ≡ false)
    × (outcome ≡ Err (fault_in 2 cause.UnknownRow)))
    ⊎ ((may_name parts progress.pool draft.kind multiplier.row ≡ true)
    × IsRowsAt parts box boxes progress draft.kind draft.weight (draft.left - 1)
    (draft.rows ++ multiplier ∷ []) outcome)

abbrev pub IsRowLine : Parts → Box → List Box → Progress → Option LeafDraft → Multiplier → Outcome
    → Type 0
IsRowLine parts box boxes progress None multiplier outcome = outcome ≡ Err bad_kind
IsRowLine parts box boxes progress (Some draft) multiplier outcome =
    IsRowAt parts box boxes progress draft multiplier outcome

abbrev pub outside_fault : Option (ℕ × ℕ) → Option StepFault
outside_fault None = None
outside_fault (Some at) = Some (fault_in 1 (cause.OutsideRoot at.0 at.1))

abbrev pub same_cost : ℤ → ℤ → Bool
same_cost a b = int_le a b && int_le b a

-- what is wrong with a whole plan, by the rule that it breaks
abbrev pub plan_fault : Parts → Box → List (List Stop) → ℤ → Option Broken → Option StepFault
plan_fault parts root plan cost (Some broken) = Some (fault_in 1 (cause.BrokenPlan plan broken))
plan_fault parts root plan cost None =
    if same_cost cost (plan_cost parts.tables parts.flights plan)
    then outside_fault (first_outside root plan)
    else Some (fault_in 1 (cause.OtherCost cost (plan_cost parts.tables parts.flights plan)))

abbrev pub or_fault : Told → Option StepFault → Result Told StepFault
or_fault now None = Ok now
or_fault now (Some fault) = Err fault

-- the trips so far; or all of them, of a plan without a fault
abbrev pub trips_told : Parts → Box → ℤ → List (List Stop) → Result Told StepFault
trips_told parts root cost trips =
    if nat_lt (length trips) (length parts.flights) then Ok (told.Trips cost trips)
    else or_fault (told.Whole cost trips)
    (plan_fault parts root trips cost (first_broken parts trips))

abbrev pub plan_told : Parts → Box → Told → Option ℤ → Result Told StepFault
plan_told parts root told.Nothing None = Ok told.NoPlan
plan_told parts root told.Nothing (Some cost) = trips_told parts root cost []
plan_told parts root other cost = Err bad_kind

abbrev pub trip_told : Parts → Box → Told → List Stop → Result Told StepFault
trip_told parts root (told.Trips cost trips) trip = trips_told parts root cost (trips ++ trip ∷ [])
trip_told parts root other trip = Err bad_kind

abbrev pub same_bound : Bound → Bound → Bool
same_bound NoPlan NoPlan = true
same_bound NoPlan (AtLeast b) = false
same_bound (AtLeast a) NoPlan = false
same_bound (AtLeast a) (AtLeast b) = same_cost a b

abbrev pub bound_fault : Progress → Bound → Option StepFault
bound_fault progress stated =
    if same_bound stated progress.bound then None
    else Some (fault_in 2 (cause.OtherBound stated progress.bound))

abbrev pub count_fault : Progress → ℕ → Option StepFault
count_fault progress stated =
    if nat_eq stated progress.nodes then None
    else Some (fault_in 2 (cause.OtherCount stated progress.nodes))

abbrev pub digest_fault : List ℕ → List ℕ → Option StepFault
digest_fault digest stated =
    if bytes_eq stated digest then None
    else Some (fault_in 3 (cause.OtherScenario stated digest))

abbrev pub unless_fault : Progress → Option StepFault → Result Progress StepFault
unless_fault progress None = Ok progress
unless_fault progress (Some fault) = Err fault

abbrev pub progress_told : Progress → Result Told StepFault → Result Progress StepFault
progress_told progress (Ok now) = Ok (with_told progress now)
progress_told progress (Err fault) = Err fault

-- a cut comes after those before it, and is one of the scenario
abbrev pub cut_told : Parts → Progress → CutName → Result Progress StepFault
cut_told parts progress cut =
    if follows progress.pool cut
    then (if is_cut parts cut then Ok (with_cut progress cut)
    else Err (fault_in 2 (cause.Text BadCut)))
    else Err (fault_in 2 (cause.Text Order))

-- the boxes stay
abbrev pub at_front : Front → Result Progress StepFault → Outcome
at_front front (Ok progress) = Ok (front, progress)
at_front front (Err fault) = Err fault

-- after the tree no line of one can stand
abbrev pub later_told : Parts → Box → List ℕ → Progress → CertItem → Result Progress StepFault
later_told parts root digest progress (item.Head stated) =
    unless_fault progress (digest_fault digest stated)
later_told parts root digest progress (item.Plan cost) =
    progress_told progress (plan_told parts root progress.told cost)
later_told parts root digest progress (item.Trip trip) =
    progress_told progress (trip_told parts root progress.told trip)
later_told parts root digest progress (item.Bound stated) =
    unless_fault progress (bound_fault progress stated)
later_told parts root digest progress (item.End nodes) =
    unless_fault progress (count_fault progress nodes)
later_told parts root digest progress other = Err bad_kind

-- where a node is to come no line of what follows the tree can stand, no head and no cut
abbrev pub IsNodeStep : Parts → Front → Box → Progress → CertItem → Outcome → Type 0
IsNodeStep parts front box progress (item.Split flight node time cutoff) outcome =
    IsSplitAt parts box front.waiting progress flight node time outcome
IsNodeStep parts front box progress item.Empty outcome =
    IsLeafAt parts box front.waiting progress leaf.Empty outcome
IsNodeStep parts front box progress item.Unit outcome =
    IsLeafAt parts box front.waiting progress leaf.Unit outcome
IsNodeStep parts front box progress (item.Dual weight rows) outcome =
    IsLeafLineAt parts box front.waiting progress Dual weight rows outcome
IsNodeStep parts front box progress (item.Lag weight rows) outcome =
    IsLeafLineAt parts box front.waiting progress Lag weight rows outcome
IsNodeStep parts front box progress (item.Row multiplier) outcome =
    IsRowLine parts box front.waiting progress front.leaf multiplier outcome
IsNodeStep parts front box progress other outcome = outcome ≡ Err bad_kind

module _ (parts : Parts) (root : Box) (digest : List ℕ) where
  -- but the head of the text, and the cuts
  abbrev pub IsTreeStep : Front → Box → Progress → CertItem → Outcome → Type 0
  IsTreeStep front box progress (item.Head stated) outcome =
      outcome ≡ at_front front (unless_fault progress (digest_fault digest stated))
  IsTreeStep front box progress (item.Cut cut) outcome =
      outcome ≡ at_front front (cut_told parts progress cut)
  IsTreeStep front box progress other outcome = IsNodeStep parts front box progress other outcome

  abbrev pub IsStepAt : Option Box → Front → Progress → CertItem → Outcome → Type 0
  IsStepAt (Some box) front progress item outcome = IsTreeStep front box progress item outcome
  IsStepAt None front progress item outcome =
      outcome ≡ at_front front (later_told parts root digest progress item)

  abbrev pub IsStep : Front → Progress → CertItem → Outcome → Type 0
  IsStep front progress item outcome = IsStepAt front.present front progress item outcome
