-- The text of a certificate is read as its items, one after the other.
use Rattle.std.proofs.Common.{◌≡◌, ℕ, zero, suc, ◌+◌, ◌-◌, ◌<◌, true, List, [], ◌∷◌, ◌++◌, length, Option, Some, None, Ok, refl, sym, ap, subst, ◌∙◌, arith, append_assoc, length-append, ℤ, slice_get}
use Rattle.std.specs.Prelude.{codes}
use Rattle.std.proofs.lemmas.List.{append-nil}
use Rattle.std.proofs.lemmas.Bool.{false≢true, le-ltb, lt-ltb, or_right}
use Rattle.flow_types.specs.declared.parts.Parts.{Parts}
use Rattle.flow_types.specs.declared.flight.Flight.{Flight}
use Rattle.flow_types.specs.declared.plan.Stop.{Stop}
use Rattle.flow_types.specs.Costs.{plan_cost}
use Rattle.flow_types.specs.Valid.{IsScenario}
use Rattle.bytime_model.specs.declared.multiplier.Multiplier.{Multiplier}
use Rattle.bytime_model.specs.declared.names.RowName.{RowName}
use Rattle.cut_rows.specs.declared.names.CutName.{CutName}
use Rattle.branch_tree.specs.declared.leaf.Leaf.{Leaf as LeafKind}
use Rattle.branch_tree.specs.declared.leaf.Leaf.TheVariants as leaf
use Rattle.branch_tree.specs.declared.tree.TreeNode.{TreeNode}
use Rattle.branch_tree.specs.declared.tree.TreeNode.TheVariants.{Leaf, Split}
use Rattle.branch_tree.specs.Trees.{is_forest, left_after}
use Rattle.certificate.specs.declared.item.CertItem.{CertItem}
use Rattle.certificate.specs.declared.item.CertItem.TheVariants as item
use Rattle.certificate.specs.declared.kind.LineKind.{LineKind}
use Rattle.certificate.specs.declared.stage.Stage.{Stage}
use Rattle.certificate.specs.declared.stage.Stage.TheVariants as stage
use Rattle.certificate.specs.ItemLines.{cert_items, item_text, leaf_items, node_items, plan_items, pool_items, row_items, tree_items, trip_items}
use Rattle.certificate.specs.Lines.{cut_fields, line_of, row_fields, stop_fields}
use Rattle.certificate.specs.Ranges.{IsItemInRange, IsTripInRange}
use Rattle.certificate.specs.Reading.{Read, read_from, read_whole, with_item}
use Rattle.certificate.specs.Stages.{is_cut, is_node, may_stand, next_at, rows_left, stage_after, trees_left, trips_left, waiting_at}
use Rattle.certificate.specs.Texts.{Certified, bound_text, cert_text, count_text, head_text, leaf_text, node_text, plan_text, pool_text, rows_text, tree_text, trips_text}
use Rattle.certificate.specs.Writable.{AreAbove, AreCutsWritable, AreLeafRows, AreNodesWritable, AreRowsInRange, AreTripsWritable, IfPlanWritable, IsLeafWritable, IsNodeWritable, IsWritable}
use Rattle.certificate.proofs.LinesBack.{item_reads}

abbrev pub with_items : List CertItem → Read → Read
with_items [] read = read
with_items (item ∷ items) read = with_item item (with_items items read)

with_both : (first second : List CertItem) (read : Read)
    → with_items first (with_items second read) ≡ with_items (first ++ second) read
with_both [] second read = refl
with_both (item ∷ first) second read = ap (with_item item) (with_both first second read)

whole_is : (items : List CertItem) → with_items items (read_whole []) ≡ read_whole items
whole_is [] = refl
whole_is (item ∷ items) = ap (with_item item) (whole_is items)

-- where nodes of a tree may stand, and so many trees wait
pub record IsTreeStage (now : Stage) (waiting : ℕ) : Type 0 where
  pub may : (kind : LineKind) → is_node kind ≡ true → may_stand now kind ≡ true
  pub waits : waiting_at now ≡ waiting

one_less : (n : ℕ) → suc n - 1 ≡ n
one_less n = omega arith

one_more : (n : ℕ) → n + 1 ≡ suc n
one_more n = omega arith

after_split : (waiting : ℕ) → stage.Tree (waiting + 1) ≡ trees_left (waiting + 1)
after_split waiting = rw (one_more waiting) refl

seam : (front left : List Flight) (flight : Flight)
    → slice_get (front ++ flight ∷ left) (length front) ≡ Some flight
seam [] left flight = refl
seam (other ∷ front) left flight = seam front left flight

forest_on : (waiting : ℕ) (node : TreeNode) (nodes : List TreeNode)
    → is_forest (suc waiting) (node ∷ nodes) ≡ true
    → is_forest (left_after (suc waiting) node) nodes ≡ true
forest_on waiting (Leaf leaf) nodes is = rw (one_less waiting) is
forest_on waiting (Split flight node time cutoff) nodes is =
    rw (one_more (suc waiting)) is

-- the last of these cuts, or the one before them
abbrev last_of : Option CutName → List CutName → Option CutName
last_of last [] = last
last_of last (cut ∷ pool) = last_of (Some cut) pool

module _ (parts : Parts) (valid : IsScenario parts) where
  -- after a cut another one may stand
  pool_reads : (pool : List CutName) (last : Option CutName) (more : List ℕ)
      → AreCutsWritable parts last pool
      → read_from parts (stage.Pool last) (pool_text pool ++ more)
      ≡ with_items (pool_items pool) (read_from parts (stage.Pool (last_of last pool)) more)
  pool_reads [] last more are = refl
  pool_reads (cut ∷ pool) last more are =
      let now : Stage = stage.Pool last in
      let next : stage_after parts now (item.Cut cut) ≡ Ok (stage.Pool (Some cut)) =
      rw (are.0.1, are.0.2) refl in
      ap (read_from parts now)
      (append_assoc (line_of (codes "cut") (cut_fields cut)) (pool_text pool) more)
      ∙ item_reads parts valid now (stage.Pool (Some cut)) (item.Cut cut)
      (pool_text pool ++ more) are.0.0 refl next
      ∙ ap (with_item (item.Cut cut)) (pool_reads pool (Some cut) more are.1)

  rows_back : (rows : List Multiplier) (last : Option RowName) (waiting : ℕ) (more : List ℕ)
      → AreRowsInRange rows → AreAbove last rows
      → read_from parts (rows_left (length rows) last waiting) (rows_text rows ++ more)
      ≡ with_items (row_items rows) (read_from parts (trees_left waiting) more)
  rows_back [] last waiting more each above = refl
  rows_back (multiplier ∷ rows) last waiting more each above =
      let now : Stage = stage.Rows (suc (length rows)) last waiting in
      let next : stage_after parts now (item.Row multiplier)
      ≡ Ok (rows_left (length rows) (Some multiplier.row) waiting) =
      rw (above.0, one_less (length rows)) refl in
      ap (read_from parts now)
      (append_assoc (line_of (codes "y") (row_fields multiplier)) (rows_text rows) more)
      ∙ item_reads parts valid now (rows_left (length rows) (Some multiplier.row) waiting)
      (item.Row multiplier) (rows_text rows ++ more) each.0 refl next
      ∙ ap (with_item (item.Row multiplier))
      (rows_back rows (Some multiplier.row) waiting more each.1 above.1)

  module _ (now : Stage) (waiting : ℕ) (tree : IsTreeStage now (suc waiting)) where
    leaf_with : (head : CertItem) (weight : ℕ) (rows : List Multiplier) (more : List ℕ)
        → AreLeafRows weight rows → IsItemInRange parts (next_at now) head
        → ((after : Stage) (text : List ℕ)
        → stage_after parts now head ≡ Ok after
        → read_from parts now (item_text parts (next_at now) head ++ text)
        ≡ with_item head (read_from parts after text))
        → stage_after parts now head ≡ Ok (rows_left (length rows) None (waiting_at now - 1))
        → read_from parts now ((item_text parts (next_at now) head ++ rows_text rows) ++ more)
        ≡ with_items (head ∷ row_items rows) (read_from parts (trees_left waiting) more)
    leaf_with head weight rows more are range reads next =
        let waits : waiting_at now - 1 ≡ waiting = rw tree.waits (one_less waiting) in
        ap (read_from parts now)
        (append_assoc (item_text parts (next_at now) head) (rows_text rows) more)
        ∙ reads (rows_left (length rows) None (waiting_at now - 1)) (rows_text rows ++ more) next
        ∙ ap (with_item head)
        (ap (λ (w : ℕ). read_from parts (rows_left (length rows) None w) (rows_text rows ++ more))
        waits
        ∙ rows_back rows None waiting more are.each are.ascending)

    leaf_reads : (is : LeafKind) (more : List ℕ) → IsLeafWritable is
        → read_from parts now (leaf_text is ++ more)
        ≡ with_items (leaf_items is) (read_from parts (trees_left waiting) more)
    leaf_reads leaf.Empty more are =
        let waits : stage_after parts now item.Empty ≡ Ok (trees_left waiting) =
        rw (tree.waits, one_less waiting) refl in
        item_reads parts valid now (trees_left waiting) item.Empty more tt
        (tree.may _ refl) waits
    leaf_reads leaf.Unit more are =
        let waits : stage_after parts now item.Unit ≡ Ok (trees_left waiting) =
        rw (tree.waits, one_less waiting) refl in
        item_reads parts valid now (trees_left waiting) item.Unit more tt
        (tree.may _ refl) waits
    leaf_reads (leaf.Dual weight rows) more are =
        leaf_with (item.Dual weight (length rows)) weight rows more are are.sizes
        (λ after text next. item_reads parts valid now after (item.Dual weight (length rows)) text
        are.sizes (tree.may _ refl) next) refl
    leaf_reads (leaf.Lag weight rows) more are =
        leaf_with (item.Lag weight (length rows)) weight rows more are are.sizes
        (λ after text next. item_reads parts valid now after (item.Lag weight (length rows)) text
        are.sizes (tree.may _ refl) next) refl

    node_reads : (node : TreeNode) (more : List ℕ) → IsNodeWritable node
        → read_from parts now (node_text node ++ more)
        ≡ with_items (node_items node)
        (read_from parts (trees_left (left_after (suc waiting) node)) more)
    node_reads (Leaf leaf) more is = rw (one_less waiting) (leaf_reads leaf more is)
    node_reads (Split flight node time cutoff) more is =
        let next : stage_after parts now (item.Split flight node time cutoff)
        ≡ Ok (trees_left (suc waiting + 1)) =
        rw tree.waits (ap (λ (s : Stage). Ok s) (after_split (suc waiting))) in
        item_reads parts valid now (trees_left (suc waiting + 1))
        (item.Split flight node time cutoff) more is (tree.may _ refl) next

  tree_stage : (waiting : ℕ) → IsTreeStage (stage.Tree waiting) waiting
  tree_stage waiting = record { may = λ kind is. is; waits = refl }

  forest_reads : (nodes : List TreeNode) (waiting : ℕ) (more : List ℕ) → AreNodesWritable nodes
      → is_forest waiting nodes ≡ true
      → read_from parts (trees_left waiting) (tree_text nodes ++ more)
      ≡ with_items (tree_items nodes) (read_from parts stage.Plan more)
  forest_reads [] zero more are is = refl
  forest_reads (node ∷ nodes) zero more are is = absurd (false≢true is)
  forest_reads [] (suc waiting) more are is = absurd (false≢true is)
  forest_reads (node ∷ nodes) (suc waiting) more are is =
      ap (read_from parts (stage.Tree (suc waiting)))
      (append_assoc (node_text node) (tree_text nodes) more)
      ∙ node_reads (stage.Tree (suc waiting)) waiting (tree_stage (suc waiting)) node
      (tree_text nodes ++ more) are.0
      ∙ ap (with_items (node_items node))
      (forest_reads nodes (left_after (suc waiting) node) more are.1
      (forest_on waiting node nodes is))
      ∙ with_both (node_items node) (tree_items nodes) (read_from parts stage.Plan more)

  pool_stage : (last : Option CutName) → IsTreeStage (stage.Pool last) 1
  pool_stage last = record { may = pool_may; waits = refl } where
    pool_may : (kind : LineKind) → is_node kind ≡ true → may_stand (stage.Pool last) kind ≡ true
    pool_may kind is = or_right (is_cut kind) (is_node kind) is

  pub tree_reads : (nodes : List TreeNode) (last : Option CutName) (more : List ℕ)
      → AreNodesWritable nodes → is_forest 1 nodes ≡ true
      → read_from parts (stage.Pool last) (tree_text nodes ++ more)
      ≡ with_items (tree_items nodes) (read_from parts stage.Plan more)
  tree_reads [] last more are is = absurd (false≢true is)
  tree_reads (node ∷ nodes) last more are is =
      ap (read_from parts (stage.Pool last)) (append_assoc (node_text node) (tree_text nodes) more)
      ∙ node_reads (stage.Pool last) 0 (pool_stage last) node (tree_text nodes ++ more) are.0
      ∙ ap (with_items (node_items node))
      (forest_reads nodes (left_after 1 node) more are.1 (forest_on 0 node nodes is))
      ∙ with_both (node_items node) (tree_items nodes) (read_from parts stage.Plan more)

  -- the trips of the flights that are left
  trips_back : (front left : List Flight) (plan : List (List Stop)) (more : List ℕ)
      → front ++ left ≡ parts.flights → AreTripsWritable left plan
      → read_from parts (trips_left parts (length front))
      (trips_text parts.places left plan ++ more)
      ≡ with_items (trip_items plan) (read_from parts stage.Bound more)
  trips_back front [] [] more all are =
      let count : length front ≡ length parts.flights =
      ap length (sym (append-nil front) ∙ all) in
      rw (count, le-ltb (length parts.flights) (length parts.flights) (omega arith)) refl
  trips_back front [] (trip ∷ plan) more all are = absurd are
  trips_back front (flight ∷ left) [] more all are = absurd are
  trips_back front (flight ∷ left) (trip ∷ plan) more all are =
      let k : ℕ = length front in
      let count : length (front ++ flight ∷ left) ≡ length parts.flights = ap length all in
      let within : k < length parts.flights =
      omega (arith, count, length-append front (flight ∷ left)) in
      let here : slice_get parts.flights k ≡ Some flight =
      subst (λ (flights : List Flight). slice_get flights k ≡ Some flight) all
      (seam front left flight) in
      let stays : trips_left parts k ≡ stage.Trips k =
      rw (lt-ltb k (length parts.flights) within) refl in
      let range : IsTripInRange (slice_get parts.flights k) trip = rw here are.0 in
      let text : item_text parts k (item.Trip trip)
      ≡ line_of (codes "trip") (flight.name ∷ stop_fields parts.places flight trip) =
      rw here refl in
      let grouped : (front ++ flight ∷ []) ++ left ≡ parts.flights =
      append_assoc front (flight ∷ []) left ∙ all in
      let next : length (front ++ flight ∷ []) ≡ k + 1 = length-append front (flight ∷ []) in
      let rest = trips_back (front ++ flight ∷ []) left plan more grouped are.1 in
      ap (λ (now : Stage). read_from parts now
      ((line_of (codes "trip") (flight.name ∷ stop_fields parts.places flight trip)
      ++ trips_text parts.places left plan) ++ more)) stays
      ∙ ap (read_from parts (stage.Trips k))
      (append_assoc (line_of (codes "trip") (flight.name ∷ stop_fields parts.places flight trip))
      (trips_text parts.places left plan) more)
      ∙ ap (λ (line : List ℕ). read_from parts (stage.Trips k)
      (line ++ (trips_text parts.places left plan ++ more))) (sym text)
      ∙ item_reads parts valid (stage.Trips k) (trips_left parts (k + 1)) (item.Trip trip)
      (trips_text parts.places left plan ++ more) range refl refl
      ∙ ap (λ (n : ℕ). with_item (item.Trip trip)
      (read_from parts (trips_left parts n) (trips_text parts.places left plan ++ more)))
      (sym next)
      ∙ ap (with_item (item.Trip trip)) rest

  plan_reads : (plan : Option (List (List Stop))) (more : List ℕ) → IfPlanWritable parts plan
      → read_from parts stage.Plan (plan_text parts plan ++ more)
      ≡ with_items (plan_items parts plan) (read_from parts stage.Bound more)
  plan_reads None more is =
      item_reads parts valid stage.Plan stage.Bound (item.Plan None) more tt refl refl
  plan_reads (Some plan) more is =
      let cost : Option ℤ = Some (plan_cost parts.tables parts.flights plan) in
      ap (read_from parts stage.Plan)
      (append_assoc (item_text parts 0 (item.Plan cost))
      (trips_text parts.places parts.flights plan) more)
      ∙ item_reads parts valid stage.Plan (trips_left parts 0) (item.Plan cost)
      (trips_text parts.places parts.flights plan ++ more) is.cost refl refl
      ∙ ap (with_item (item.Plan cost)) (trips_back [] parts.flights plan more refl is.trips)

  -- the text of a certificate is read as what it tells, whatever follows it
  pub text_reads_on : (cert : Certified) (more : List ℕ) → IsWritable parts cert
      → read_from parts stage.Head (cert_text parts cert ++ more)
      ≡ with_items (cert_items parts cert) (read_from parts stage.Ended more)
  text_reads_on cert more is =
      ap (read_from parts stage.Head) (append_assoc (head_text cert.digest) pooled more)
      ∙ item_reads parts valid stage.Head (stage.Pool None) (item.Head cert.digest) (pooled ++ more)
      is.digest refl refl
      ∙ ap (with_item (item.Head cert.digest))
      (ap (read_from parts (stage.Pool None)) (append_assoc (pool_text cert.pool) grown more)
      ∙ pool_reads cert.pool None (grown ++ more) is.pool
      ∙ ap (with_items (pool_items cert.pool)) tree_on
      ∙ together)
    where
      nodes : ℕ
      nodes = length cert.tree

      bounded : List ℕ
      bounded = bound_text cert.bound ++ count_text nodes

      planned : List ℕ
      planned = plan_text parts cert.plan ++ bounded

      grown : List ℕ
      grown = tree_text cert.tree ++ planned

      pooled : List ℕ
      pooled = pool_text cert.pool ++ grown

      last : List CertItem
      last = item.Bound cert.bound ∷ item.End nodes ∷ []

      end : Read
      end = read_from parts stage.Ended more

      last_reads : read_from parts stage.Bound (bounded ++ more) ≡ with_items last end
      last_reads =
          ap (read_from parts stage.Bound)
          (append_assoc (bound_text cert.bound) (count_text nodes) more)
          ∙ item_reads parts valid stage.Bound stage.End (item.Bound cert.bound)
          (count_text nodes ++ more) is.bound refl refl
          ∙ ap (with_item (item.Bound cert.bound))
          (item_reads parts valid stage.End stage.Ended (item.End nodes) more is.count refl refl)

      pooled_at : Stage
      pooled_at = stage.Pool (last_of None cert.pool)

      tree_on : read_from parts pooled_at (grown ++ more)
          ≡ with_items (tree_items cert.tree) (with_items (plan_items parts cert.plan)
          (with_items last end))
      tree_on =
          ap (read_from parts pooled_at) (append_assoc (tree_text cert.tree) planned more)
          ∙ tree_reads cert.tree (last_of None cert.pool) (planned ++ more) is.nodes is.tree
          ∙ ap (with_items (tree_items cert.tree))
          (ap (read_from parts stage.Plan) (append_assoc (plan_text parts cert.plan) bounded more)
          ∙ plan_reads cert.plan (bounded ++ more) is.plan
          ∙ ap (with_items (plan_items parts cert.plan)) last_reads)

      together : with_items (pool_items cert.pool) (with_items (tree_items cert.tree)
          (with_items (plan_items parts cert.plan) (with_items last end)))
          ≡ with_items (pool_items cert.pool ++ (tree_items cert.tree
          ++ (plan_items parts cert.plan ++ last))) end
      together =
          ap (with_items (pool_items cert.pool))
          (ap (with_items (tree_items cert.tree)) (with_both (plan_items parts cert.plan) last end)
          ∙ with_both (tree_items cert.tree) (plan_items parts cert.plan ++ last) end)
          ∙ with_both (pool_items cert.pool)
          (tree_items cert.tree ++ (plan_items parts cert.plan ++ last)) end

  -- and has no fault
  pub text_reads : (cert : Certified) → IsWritable parts cert
      → read_from parts stage.Head (cert_text parts cert) ≡ read_whole (cert_items parts cert)
  text_reads cert is =
      ap (read_from parts stage.Head) (sym (append-nil (cert_text parts cert)))
      ∙ text_reads_on cert [] is ∙ whole_is (cert_items parts cert)
