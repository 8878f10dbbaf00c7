-- The certificate of a lawful tree is accepted. Its lines go down the tree; the late side of a
-- split is made tight when its turn comes, and is then the box that the lawful tree has there.
use Rattle.std.proofs.Common.{◌≡◌, inl, inr, ℕ, suc, ◌+◌, ◌-◌, ◌<◌, Bool, true, false, All, AllPairs, List, [], ◌∷◌, ◌++◌, length, drop, slice_get, append_assoc, Option, None, Some, Ok, Err, refl, sym, ◌∙◌, ap, ap₂, subst, ℤ, arith}
use Rattle.std.specs.Prelude.{if◌then◌else◌, int_le, nat_eq, nat_lt, slice_index_or}
use Rattle.std.proofs.lemmas.Bool.{and_from, eq-eqb, le-ltb, lt-ltb}
use Rattle.std.proofs.lemmas.Int.{ints}
use Rattle.std.proofs.lemmas.List.{append-nil, get_or_push, length-append}
use Rattle.std.proofs.lemmas.Option.{slice_get-get_or}
use Rattle.std.proofs.lemmas.Slice.Eq.{bytes_eq-Decides}
use Rattle.flow_types.specs.declared.bound.Bound.{Bound}
use Rattle.flow_types.specs.declared.bound.Bound.TheVariants.{AtLeast, NoPlan}
use Rattle.flow_types.specs.declared.flight.Flight.{Flight}
use Rattle.flow_types.specs.declared.parts.Parts.{Parts}
use Rattle.flow_types.specs.declared.plan.Stop.{Stop}
use Rattle.flow_types.specs.Bounds.{least_of, lesser}
use Rattle.flow_types.specs.Costs.{plan_cost}
use Rattle.flow_types.specs.Valid.{IsScenario}
use Rattle.flow_types.proofs.BoundFacts.{least_all, least_more, lesser_none}
use Rattle.plan_rules.specs.FirstBroken.{first_broken}
use Rattle.plan_rules.proofs.BrokenPlans.{feasible_to}
use Rattle.plan_rules.proofs.TripFacts.{AreTrips-length}
use Rattle.time_windows.specs.declared.access.Access.{Access}
use Rattle.time_windows.specs.Boxes.{Box, IsBoxOf, IsWindowWithin, closed, root_row}
use Rattle.time_windows.specs.Plans.{IsPlanIn}
use Rattle.time_windows.specs.Splits.{IsBranching, early_branch, late_branch}
use Rattle.time_windows.specs.Tight.{IsTightened}
use Rattle.time_windows.proofs.MadeFacts.{early_inside, late_inside, within_inside}
use Rattle.time_windows.proofs.WindowFacts.{if_lt}
use Rattle.bytime_model.specs.declared.multiplier.Multiplier.{Multiplier}
use Rattle.bytime_model.specs.Rows.{is_node}
use Rattle.cut_rows.specs.declared.names.CutName.{CutName}
use Rattle.cut_rows.specs.Cuts.{is_cut}
use Rattle.cut_rows.specs.Order.{IsBefore, follows, follows_last}
use Rattle.branch_tree.specs.declared.leaf.Leaf.{Leaf as LeafKind}
use Rattle.branch_tree.specs.declared.leaf.Leaf.TheVariants as leaf
use Rattle.branch_tree.specs.declared.tree.TreeNode.{TreeNode}
use Rattle.branch_tree.specs.declared.tree.TreeNode.TheVariants.{Leaf, Split}
use Rattle.branch_tree.specs.Forests.{Leads}
use Rattle.branch_tree.specs.Lawful.{IsLawfulAt}
use Rattle.dual_leaf.specs.Leaf.{IsLeafBound}
use Rattle.dual_leaf.specs.Trees.{IsLeafBoundAt}
use Rattle.certificate.specs.declared.item.CertItem.{CertItem}
use Rattle.certificate.specs.declared.item.CertItem.TheVariants as item
use Rattle.certificate.specs.ItemLines.{cert_items, leaf_items, plan_items, pool_items, row_items, tree_items, trip_items}
use Rattle.certificate.specs.Texts.{Certified, cert_text}
use Rattle.certificate.specs.Writable.{IsWritable}
use Rattle.certificate.proofs.TextsBack.{text_reads}
use Rattle.cert_checker.specs.declared.claim.CertClaim.{CertClaim}
use Rattle.cert_checker.specs.declared.fault.StepFault.{StepFault}
use Rattle.cert_checker.specs.declared.progress.LeafDraft.{LeafDraft}
use Rattle.cert_checker.specs.declared.progress.Progress.{Progress}
use Rattle.cert_checker.specs.declared.progress.RowLeaf.{RowLeaf}
use Rattle.cert_checker.specs.declared.progress.RowLeaf.TheVariants.{Dual, Lag}
use Rattle.cert_checker.specs.declared.progress.Told.{Told}
use Rattle.cert_checker.specs.declared.progress.Told.TheVariants as told
use Rattle.cert_checker.specs.Accepted.{IsLawfulCertificate, claim_of}
use Rattle.cert_checker.specs.Checks.{IfThere}
use Rattle.cert_checker.specs.Fronts.{Front, GoesOn, front_at, front_in, none_left}
use Rattle.cert_checker.specs.Steps.{IsLeafAt, IsRowsAt, Outcome, at_front, begun, cut_told, leaf_of, may_name, plan_fault, same_bound, same_cost, trips_told, with_bound, with_cut, with_node}
use Rattle.cert_checker.specs.Verdicts.{After, IsVerdict, IsVerdictOn, claim_told, in_line}
use Rattle.cert_checker.proofs.OutsideFacts.{nowhere_outside}
use Rattle.cert_checker.proofs.SoundFacts.{AreBoxesOf}

-- a node that may be split at is one of its flight's
node_there : (parts : Parts) (box : Box) (f n time : ℕ) → IsBoxOf parts box
    → IsBranching (box f n) time → is_node (slice_get parts.flights f) n ≡ true
node_there parts box f n time inside branching =
    opens (slice_get parts.flights f) (subst (λ window. IsWindowWithin window
    (root_row parts.day.periods (slice_get parts.flights f) n).window) branching.is_open
    (inside.windows f n))
  where
    opens : (found : Option Flight)
        → IsWindowWithin (Some branching.window) (root_row parts.day.periods found n).window
        → is_node found n ≡ true
    opens None within = absurd within
    opens (Some flight) within =
        if_lt (λ (a : Access). IsWindowWithin (Some branching.window) a.window
        → is_node (Some flight) n ≡ true) n (length flight.nodes) _ closed
        (λ below _. lt-ltb n (length flight.nodes) below) (λ _ shut. absurd shut) within

cost_same : (a : ℤ) → same_cost a a ≡ true
cost_same a = and_from (int_le a a) (int_le a a) (below a) (below a)
  where
    below : (z : ℤ) → int_le z z ≡ true
    below z = grind (arith, ints)

bound_same : (bound : Bound) → same_bound bound bound ≡ true
bound_same NoPlan = refl
bound_same (AtLeast least) = cost_same least

-- the boxes that wait, as their splits left them, and as they are when they are made tight
abbrev AreTightOf : Parts → List Box → List Box → Type 0
AreTightOf parts [] [] = Unit {0}
AreTightOf parts [] (tight ∷ tights) = ⊥
AreTightOf parts (box ∷ boxes) [] = ⊥
AreTightOf parts (box ∷ boxes) (tight ∷ tights) =
    IsTightened parts box tight × AreTightOf parts boxes tights

abbrev IsFrontOf : Parts → List Box → Front → Type 0
IsFrontOf parts [] front = front ≡ none_left
IsFrontOf parts (box ∷ boxes) front =
    (waiting : List Box) × AreTightOf parts waiting boxes × (front ≡ front_at box waiting)

goes_on : (parts : Parts) (waiting boxes : List Box) → AreTightOf parts waiting boxes
    → (front : Front) × GoesOn parts waiting front × IsFrontOf parts boxes front
goes_on parts [] [] are = (none_left, refl, refl)
goes_on parts [] (tight ∷ tights) are = absurd are
goes_on parts (box ∷ boxes) [] are = absurd are
goes_on parts (box ∷ boxes) (tight ∷ tights) are =
    (front_at tight boxes, (tight, are.0, refl), (boxes, are.1, refl))

abbrev AreNamed : Parts → List CutName → RowLeaf → List Multiplier → Type 0
AreNamed parts pool kind rows = (k : ℕ) (multiplier : Multiplier)
    → slice_get rows k ≡ Some multiplier → may_name parts pool kind multiplier.row ≡ true

-- a cut of the scenario that comes after those before it is taken
cut_taken : (parts : Parts) (progress : Progress) (cut : CutName)
    → follows progress.pool cut ≡ true → is_cut parts cut ≡ true
    → Ok (with_cut progress cut) ≡ cut_told parts progress cut
cut_taken parts progress cut after there =
    by (follows progress.pool cut) (is_cut parts cut) _ _ after there
  where
    by : (after there : Bool) (bad early : StepFault) → after ≡ true → there ≡ true
        → Ok (with_cut progress cut)
        ≡ (if after then (if there then Ok (with_cut progress cut) else Err bad) else Err early)
    by true true bad early after there = refl
    by true false bad early after there = absurd (let wrong : false ≡ true = there in cc wrong)
    by false any bad early after there = absurd (let wrong : false ≡ true = after in cc wrong)

-- these cuts were told, and nothing else
abbrev taken : List CutName → Progress
taken cuts = record { pool = cuts; bound = NoPlan; nodes = 0; told = told.Nothing }

-- the next of these cuts, if there is one, comes after those before it
abbrev IsNext : List CutName → List CutName → Type 0
IsNext done [] = Unit {0}
IsNext done (cut ∷ cuts) = follows done cut ≡ true

none_before : (cuts : List CutName) → IsNext [] cuts
none_before [] = tt
none_before (cut ∷ cuts) = refl

next_after : (cut : CutName) (cuts done : List CutName) → AllPairs IsBefore (cut ∷ cuts)
    → IsNext (done ++ cut ∷ []) cuts
next_after cut [] done order = tt
next_after cut (next ∷ cuts) done order =
    subst (λ last. follows_last last next ≡ true) (sym last_is)
    (order 0 1 cut (omega arith) (omega arith))
  where
    last : length (done ++ cut ∷ []) - 1 ≡ length done
    last = let size = length-append done (cut ∷ []) in omega (arith, size)

    last_is : slice_get (done ++ cut ∷ []) (length (done ++ cut ∷ []) - 1) ≡ Some cut
    last_is =
        let size = length-append done (cut ∷ []) in
        ap (slice_get (done ++ cut ∷ [])) last
        ∙ slice_get-get_or (done ++ cut ∷ []) (length done) cut (omega (arith, size))
        ∙ ap Some (get_or_push done cut cut (length done) refl)

module _ (parts : Parts) (root : Box) (digest : List ℕ) (claim : CertClaim) where
  abbrev Accepts : ℕ → List CertItem → Front → Progress → Type 0
  Accepts line items front progress =
      IsVerdictOn parts root digest line items None front progress (Ok claim)

  -- from any line on, wherever these boxes are to come
  abbrev AcceptsAt : List CertItem → List Box → Progress → Type 0
  AcceptsAt items boxes progress =
      (line : ℕ) (front : Front) → IsFrontOf parts boxes front → Accepts line items front progress

  -- what a line comes to, and that the rest is accepted
  abbrev Goes : ℕ → List CertItem → Outcome → Type 0
  Goes line items outcome =
      After line outcome (λ front progress. Accepts (line + 1) items front progress) (Ok claim)

  module _ (box : Box) (waiting boxes : List Box) (are : AreTightOf parts waiting boxes)
      (progress : Progress) (bound : Bound) (more : List CertItem)
      (rest : AcceptsAt more boxes (with_bound progress bound)) where
    leaf_done : (line : ℕ) (kind : LeafKind) → IsLeafBound parts progress.pool box kind (Ok bound)
        → (outcome : Outcome) × IsLeafAt parts box waiting progress kind outcome
        × Goes line more outcome
    leaf_done line kind is =
        let (front, goes, front_is) = goes_on parts waiting boxes are in (
          Ok (front, with_bound progress bound),
          record { answer = Ok bound; bound = is; after = (front, goes, refl) },
          rest (line + 1) front front_is,
        )

    rows_done : (rows : List Multiplier) (line : ℕ) (kind : RowLeaf) (weight : ℕ)
        (done : List Multiplier) → AreNamed parts progress.pool kind rows
        → IsLeafBound parts progress.pool box (leaf_of kind weight (done ++ rows)) (Ok bound)
        → (outcome : Outcome)
        × IsRowsAt parts box waiting progress kind weight (length rows) done outcome
        × Goes line (row_items rows ++ more) outcome
    rows_done [] line kind weight done named is =
        leaf_done line (leaf_of kind weight done)
        (subst (λ rows. IsLeafBound parts progress.pool box (leaf_of kind weight rows) (Ok bound))
        (append-nil done) is)
    rows_done (multiplier ∷ rows) line kind weight done named is =
        let (outcome, at, goes) =
        rows_done rows (line + 1) kind weight (done ++ multiplier ∷ [])
        (λ k. named (suc k))
        (subst (λ all. IsLeafBound parts progress.pool box (leaf_of kind weight all) (Ok bound))
        (sym (append_assoc done (multiplier ∷ []) rows)) is) in
        let left : length rows ≡ suc (length rows) - 1 = omega arith in
        let draft : LeafDraft = record {
          kind = kind;
          weight = weight;
          left = suc (length rows);
          rows = done;
        } in (
          Ok (front_in box draft waiting, progress),
          refl,
          (
            outcome,
            inr (
              named 0 multiplier refl,
              subst (λ k. IsRowsAt parts box waiting progress kind weight k
                  (done ++ multiplier ∷ []) outcome) left at,
            ),
            goes,
          ),
        )

    leaf_accepted : (line : ℕ) (kind : LeafKind)
        → IsLeafBound parts progress.pool box kind (Ok bound)
        → Accepts line (leaf_items kind ++ more) (front_at box waiting) progress
    leaf_accepted line leaf.Empty is = leaf_done line leaf.Empty is
    leaf_accepted line leaf.Unit is = leaf_done line leaf.Unit is
    leaf_accepted line (leaf.Dual weight rows) (inl is) =
        let (outcome, at, goes) = rows_done rows line Dual weight [] is.known (inl is) in
        (outcome, inr (is.live, at), goes)
    leaf_accepted line (leaf.Dual weight rows) (inr none) = absurd none
    leaf_accepted line (leaf.Lag weight rows) (inl is) =
        let (outcome, at, goes) = rows_done rows line Lag weight [] is.priceable (inl is) in
        (outcome, inr (is.live, at), goes)
    leaf_accepted line (leaf.Lag weight rows) (inr none) = absurd none

  cuts_accepted : (box : Box) (more : List CertItem) (cuts done : List CutName)
      → ((line : ℕ) → Accepts line more (front_at box []) (taken (done ++ cuts)))
      → All (λ cut. is_cut parts cut ≡ true) cuts → AllPairs IsBefore cuts → IsNext done cuts
      → (line : ℕ) → Accepts line (pool_items cuts ++ more) (front_at box []) (taken done)
  cuts_accepted box more [] done rest there order next line =
      subst (λ cuts. Accepts line more (front_at box []) (taken cuts)) (append-nil done)
      (rest line)
  cuts_accepted box more (cut ∷ cuts) done rest there order next line = (
    Ok (front_at box [], taken (done ++ cut ∷ [])),
    ap (at_front (front_at box []))
        (cut_taken parts (taken done) cut next (there 0 cut (omega arith))),
    cuts_accepted box more cuts (done ++ cut ∷ [])
        (λ at. subst (λ all. Accepts at more (front_at box []) (taken all))
        (sym (append_assoc done (cut ∷ []) cuts)) (rest at))
        (λ k d within. there (suc k) d (omega (arith, within)))
        (λ i j d less within. order (suc i) (suc j) d (omega (arith, less))
        (omega (arith, within)))
        (next_after cut cuts done order) (line + 1),
  )

  -- what was told, where so many nodes are behind
  module _ (pool : List CutName) (bounds : List Bound) where
    record IsSoFar (number : ℕ) (progress : Progress) : Type 0 where
      cuts : progress.pool ≡ pool
      bound : lesser progress.bound (least_of (drop number bounds)) ≡ least_of bounds
      nodes : progress.nodes ≡ number
      told : progress.told ≡ told.Nothing

    abbrev over : Progress
    over = record {
      pool = pool;
      bound = least_of bounds;
      nodes = length bounds;
      told = told.Nothing;
    }

    abbrev IsNode : ℕ → Box → TreeNode → Type 0
    IsNode = IsLawfulAt parts (IsLeafBoundAt parts pool) bounds

    all_over : (number : ℕ) (progress : Progress) → number ≡ length bounds
        → IsSoFar number progress → progress ≡ over
    all_over number progress ends so =
        let bound = least_all progress.bound bounds number (omega (arith, ends)) so.bound in
        let nodes = so.nodes ∙ ends in
        let told_is = so.told in
        let cuts = so.cuts in
        rw (cuts, bound, nodes, told_is) refl

    leaf_more : (number : ℕ) (progress : Progress) → number < length bounds
        → IsSoFar number progress
        → IsSoFar (number + 1) (with_bound progress (slice_index_or bounds number NoPlan))
    leaf_more number progress within so = record {
      cuts = so.cuts;
      bound = least_more progress.bound bounds number NoPlan within so.bound;
      nodes = ap (λ n. n + 1) so.nodes;
      told = so.told;
    }

    split_more : (number : ℕ) (progress : Progress) → number < length bounds
        → slice_index_or bounds number NoPlan ≡ NoPlan → IsSoFar number progress
        → IsSoFar (number + 1) (with_node progress)
    split_more number progress within none so = record {
      cuts = so.cuts;
      bound = ap (λ b. lesser b (least_of (drop (number + 1) bounds)))
          (sym (ap (lesser progress.bound) none ∙ lesser_none progress.bound))
          ∙ least_more progress.bound bounds number NoPlan within so.bound;
      nodes = ap (λ n. n + 1) so.nodes;
      told = so.told;
    }

    nodes_accepted : (nodes : List TreeNode) (number : ℕ) (boxes : List Box)
        (progress : Progress) (more : List CertItem) → Leads parts IsNode number boxes nodes []
        → AreBoxesOf parts boxes → number + length nodes ≡ length bounds
        → IsSoFar number progress → AcceptsAt more [] over
        → AcceptsAt (tree_items nodes ++ more) boxes progress
    nodes_accepted [] number boxes progress more leads inside sized so rest line front is =
        subst (λ now. Accepts line more front now)
        (sym (all_over number progress (omega (arith, sized)) so))
        (rest line front (subst (λ waiting. IsFrontOf parts waiting front) leads is))
    nodes_accepted (Leaf kind ∷ nodes) number [] progress more leads inside sized so rest line
        front is = absurd leads
    nodes_accepted (Leaf kind ∷ nodes) number (box ∷ boxes) progress more leads inside sized so
        rest line front (waiting, are, is) =
        let bound : Bound = slice_index_or bounds number NoPlan in
        let within : number < length bounds = omega (arith, sized) in
        let next : number + 1 + length nodes ≡ length bounds = omega (arith, sized) in
        subst (λ now. Accepts line (tree_items (Leaf kind ∷ nodes) ++ more) now progress) (sym is)
        (subst (λ items. Accepts line items (front_at box waiting) progress)
        (sym (append_assoc (leaf_items kind) (tree_items nodes) more))
        (leaf_accepted box waiting boxes are progress bound (tree_items nodes ++ more)
        (nodes_accepted nodes (number + 1) boxes (with_bound progress bound) more leads.1
        inside.1 next (leaf_more number progress within so) rest) line kind
        (subst (λ cuts. IsLeafBound parts cuts box kind (Ok bound)) (sym so.cuts) leads.0.1)))
    nodes_accepted (Split f n t cutoff ∷ nodes) number [] progress more leads inside sized so rest
        line front is = absurd leads
    nodes_accepted (Split f n t cutoff ∷ nodes) number (box ∷ boxes) progress more
        ((own, here), (early, late, sides, leads)) inside sized so rest line front
        (waiting, are, is) =
        let within : number < length bounds = omega (arith, sized) in
        let next : number + 1 + length nodes ≡ length bounds = omega (arith, sized) in
        let early_of = within_inside parts (early_branch f n t box) early sides.early_is.within
        (early_inside parts box f n t sides.branching inside.0) in
        let late_of = within_inside parts (late_branch f n t box) late sides.late_is.within
        (late_inside parts box f n t sides.branching inside.0) in
        subst (λ now. Accepts line (tree_items (Split f n t cutoff ∷ nodes) ++ more) now progress)
        (sym is) (
          Ok (front_at early (late_branch f n t box ∷ waiting), with_node progress),
          inl (record {
            live = sides.live;
            there = sides.there;
            node_there = node_there parts box f n t inside.0 sides.branching;
            branching = sides.branching;
            early = early;
            early_is = sides.early_is;
            is = refl;
          }),
          nodes_accepted nodes (number + 1) (early ∷ late ∷ boxes) (with_node progress) more leads
              (early_of, (late_of, inside.1)) next (split_more number progress within own so) rest
              (line + 1) (front_at early (late_branch f n t box ∷ waiting))
              (late_branch f n t box ∷ waiting, (sides.late_is, are), refl),
        )

-- what is told of a plan, where these of its trips are to come
abbrev told_before : List (List Stop) → ℤ → List (List Stop) → Told
told_before [] cost done = told.Whole cost done
told_before (trip ∷ rest) cost done = told.Trips cost done

module _ (parts : Parts) (valid : IsScenario parts) (root : Box) (inside : IsBoxOf parts root)
    (cert : Certified) (writable : IsWritable parts cert)
    (lawful : IsLawfulCertificate parts root cert) where
  abbrev Ends : ℕ → List CertItem → Progress → Type 0
  Ends line items progress =
      Accepts parts root cert.digest (claim_of parts cert) line items none_left progress

  abbrev last_items : List CertItem
  last_items = item.Bound cert.bound ∷ item.End (length cert.tree) ∷ []

  -- all nodes are behind, and so much of the plan was told
  abbrev past : Told → Progress
  past now = record {
    pool = cert.pool;
    bound = cert.bound;
    nodes = length cert.tree;
    told = now;
  }

  ended : (line : ℕ) (now : Told)
      → in_line (line + 1 + 1) (claim_told (past now) now) ≡ Ok (claim_of parts cert)
      → Ends line last_items (past now)
  ended line now is = (
    Ok (none_left, past now),
    rw (bound_same cert.bound) refl,
    (
      Ok (none_left, past now),
      rw (eqb_same (length cert.tree)) refl,
      sym is,
    ),
  )
    where
      eqb_same : (n : ℕ) → nat_eq n n ≡ true
      eqb_same n = eq-eqb n n refl

  no_plan : cert.plan ≡ None → (line : ℕ)
      → Ends line (item.Plan None ∷ last_items) (past told.Nothing)
  no_plan none line = (
    Ok (none_left, past told.NoPlan),
    refl,
    ended (line + 1) told.NoPlan (rw none refl),
  )

  module _ (plan : List (List Stop)) (is : cert.plan ≡ Some plan)
      (in_root : IsPlanIn parts root plan) where
    abbrev cost : ℤ
    cost = plan_cost parts.tables parts.flights plan

    same_length : length plan ≡ length parts.flights
    same_length = AreTrips-length parts.day.periods parts.flights plan in_root.feasible.trips

    -- of such a plan there is nothing wrong
    no_fault : plan_fault parts root plan cost (first_broken parts plan) ≡ None
    no_fault =
        rw (
          feasible_to parts plan valid in_root.feasible,
          cost_same cost,
          nowhere_outside root plan in_root.inside,
        ) refl

    told_now : (rest done : List (List Stop)) → done ++ rest ≡ plan
        → trips_told parts root cost done ≡ Ok (told_before rest cost done)
    told_now [] done same =
        let whole : done ≡ plan = sym (append-nil done) ∙ same in
        let past_all : nat_lt (length plan) (length parts.flights) ≡ false =
        le-ltb (length plan) (length parts.flights) (omega (arith, same_length)) in
        subst (λ trips. trips_told parts root cost trips ≡ Ok (told.Whole cost trips)) (sym whole)
        (rw (past_all, no_fault) refl)
    told_now (trip ∷ rest) done same =
        let sizes = length-append done (trip ∷ rest) in
        let all = ap (λ (trips : List (List Stop)). length trips) same in
        let fewer : nat_lt (length done) (length parts.flights) ≡ true =
        lt-ltb (length done) (length parts.flights) (omega (arith, sizes, all, same_length)) in
        rw fewer refl

    trips_end : (rest done : List (List Stop)) → done ++ rest ≡ plan → (line : ℕ)
        → Ends line (trip_items rest ++ last_items) (past (told_before rest cost done))
    trips_end [] done same line =
        let whole : done ≡ plan = sym (append-nil done) ∙ same in
        ended line (told.Whole cost done) (rw (is, whole) refl)
    trips_end (trip ∷ rest) done same line =
        let again : (done ++ trip ∷ []) ++ rest ≡ plan =
        append_assoc done (trip ∷ []) rest ∙ same in (
          Ok (none_left, past (told_before rest cost (done ++ trip ∷ []))),
          rw (told_now rest (done ++ trip ∷ []) again) refl,
          trips_end rest (done ++ trip ∷ []) again (line + 1),
        )

    some_plan : (line : ℕ)
        → Ends line (item.Plan (Some cost) ∷ trip_items plan ++ last_items) (past told.Nothing)
    some_plan line = (
      Ok (none_left, past (told_before plan cost [])),
      rw (told_now plan [] refl) refl,
      trips_end plan [] refl (line + 1),
    )

  plan_end : (plan : Option (List (List Stop))) → cert.plan ≡ plan → (line : ℕ)
      → Ends line (plan_items parts plan ++ last_items) (past told.Nothing)
  plan_end None is line = no_plan is line
  plan_end (Some plan) is line =
      some_plan plan is (subst (IfThere (IsPlanIn parts root)) is lawful.plan) line

  all_accepted : Accepts parts root cert.digest (claim_of parts cert) 1 (cert_items parts cert)
      (front_at lawful.tight []) begun
  all_accepted = (
    Ok (front_at lawful.tight [], begun),
    rw ((bytes_eq-Decides cert.digest cert.digest).1 refl) refl,
    cuts_accepted parts root cert.digest (claim_of parts cert) lawful.tight
        (tree_items cert.tree ++ (plan_items parts cert.plan ++ last_items)) cert.pool []
        tree_accepted lawful.cuts lawful.order (none_before cert.pool) 2,
  )
    where
      bounds : List Bound
      bounds = lawful.tree.bounds

      all_nodes : 0 + length cert.tree ≡ length bounds
      all_nodes = let same = lawful.tree.lawful.bounded in omega (arith, same)

      told_then : Progress
      told_then = record {
        pool = cert.pool;
        bound = least_of bounds;
        nodes = length bounds;
        told = told.Nothing;
      }

      past_is : told_then ≡ past told.Nothing
      past_is =
          ap₂ (λ (least : Bound) (count : ℕ). record {
            pool = cert.pool;
            bound = least;
            nodes = count;
            told = told.Nothing;
          }) (sym lawful.tree.least) lawful.tree.lawful.bounded

      after : AcceptsAt parts root cert.digest (claim_of parts cert)
          (plan_items parts cert.plan ++ last_items) [] told_then
      after line front is =
          subst (λ now. Accepts parts root cert.digest (claim_of parts cert) line
          (plan_items parts cert.plan ++ last_items) now told_then) (sym is)
          (subst (λ progress. Ends line (plan_items parts cert.plan ++ last_items) progress)
          (sym past_is) (plan_end cert.plan refl line))

      tree_accepted : (line : ℕ)
          → Accepts parts root cert.digest (claim_of parts cert) line
          (tree_items cert.tree ++ (plan_items parts cert.plan ++ last_items))
          (front_at lawful.tight []) (taken cert.pool)
      tree_accepted line =
          nodes_accepted parts root cert.digest (claim_of parts cert) cert.pool bounds cert.tree 0
          (lawful.tight ∷ []) (taken cert.pool) (plan_items parts cert.plan ++ last_items)
          lawful.tree.lawful.nodes_are
          (within_inside parts root lawful.tight lawful.tight_is.within inside, tt) all_nodes
          (record { cuts = refl; bound = refl; nodes = refl; told = refl }) after line
          (front_at lawful.tight []) ([], tt, refl)

  pub accepted : IsVerdict parts root cert.digest (cert_text parts cert)
      (Ok (claim_of parts cert))
  accepted = record {
    tight = lawful.tight;
    tight_is = lawful.tight_is;
    decided = rw (text_reads parts valid cert writable) all_accepted;
  }
