-- Two certificates with one text are one, and no text begins another: what the items of a text tell
-- is found in them.
use Rattle.std.proofs.Common.{◌≡◌, ℕ, List, [], ◌∷◌, ◌++◌, length, Bool, true, false, Option, Some, None, refl, sym, ap, ◌∙◌, arith, ℤ, append_assoc}
use Rattle.std.specs.List.{onto_first}
use Rattle.std.proofs.lemmas.Bool.{eqb-true}
use Rattle.std.proofs.lemmas.List.{append-nil}
use Rattle.std.proofs.lemmas.List.Splits.{slice_split-cons_no}
use Rattle.flow_types.specs.declared.bound.Bound.{Bound}
use Rattle.flow_types.specs.declared.bound.Bound.TheVariants.{NoPlan}
use Rattle.flow_types.specs.declared.parts.Parts.{Parts}
use Rattle.flow_types.specs.declared.plan.Stop.{Stop}
use Rattle.flow_types.specs.Valid.{IsScenario}
use Rattle.bytime_model.specs.declared.multiplier.Multiplier.{Multiplier}
use Rattle.cut_rows.specs.declared.names.CutName.{CutName}
use Rattle.branch_tree.specs.declared.leaf.Leaf.TheVariants as leaf
use Rattle.branch_tree.specs.declared.tree.TreeNode.{TreeNode}
use Rattle.branch_tree.specs.declared.tree.TreeNode.TheVariants.{Leaf, Split}
use Rattle.certificate.specs.declared.fault.TextCause.TheVariants.{AfterEnd}
use Rattle.certificate.specs.declared.item.CertItem.{CertItem}
use Rattle.certificate.specs.declared.item.CertItem.TheVariants as item
use Rattle.certificate.specs.declared.stage.Stage.TheVariants as stage
use Rattle.certificate.specs.ItemLines.{cert_items, plan_items, pool_items, row_items, tree_items, trip_items}
use Rattle.certificate.specs.Reading.{Read, in_first, is_feed, pieces_of, read_from, read_on, read_whole, stopped}
use Rattle.certificate.specs.Texts.{Certified, cert_text}
use Rattle.certificate.specs.Writable.{IsWritable}
use Rattle.certificate.proofs.RefuseFacts.{line_read}
use Rattle.certificate.proofs.TextsBack.{text_reads, text_reads_on, with_items}

abbrev digest_in : List CertItem → List ℕ
digest_in (item.Head digest ∷ items) = digest
digest_in other = []

-- the cuts up to the tree
abbrev pool_in : List CertItem → List CutName
pool_in (item.Head digest ∷ items) = pool_in items
pool_in (item.Cut cut ∷ items) = cut ∷ pool_in items
pool_in other = []

-- the rows in front
abbrev rows_in : List CertItem → List Multiplier
rows_in (item.Row multiplier ∷ items) = multiplier ∷ rows_in items
rows_in other = []

-- the nodes up to the plan
abbrev tree_in : List CertItem → List TreeNode
tree_in [] = []
tree_in (item.Head digest ∷ items) = tree_in items
tree_in (item.Cut cut ∷ items) = tree_in items
tree_in (item.Split flight node time cutoff ∷ items) =
    Split flight node time cutoff ∷ tree_in items
tree_in (item.Empty ∷ items) = Leaf leaf.Empty ∷ tree_in items
tree_in (item.Unit ∷ items) = Leaf leaf.Unit ∷ tree_in items
tree_in (item.Dual weight rows ∷ items) = Leaf (leaf.Dual weight (rows_in items)) ∷ tree_in items
tree_in (item.Lag weight rows ∷ items) = Leaf (leaf.Lag weight (rows_in items)) ∷ tree_in items
tree_in (item.Row multiplier ∷ items) = tree_in items
tree_in (item.Plan cost ∷ items) = []
tree_in (item.Trip trip ∷ items) = []
tree_in (item.Bound bound ∷ items) = []
tree_in (item.End nodes ∷ items) = []

-- the trips in front
abbrev trips_in : List CertItem → List (List Stop)
trips_in (item.Trip trip ∷ items) = trip ∷ trips_in items
trips_in other = []

abbrev plan_from : Option ℤ → List CertItem → Option (List (List Stop))
plan_from None items = None
plan_from (Some cost) items = Some (trips_in items)

-- the first plan
abbrev plan_in : List CertItem → Option (List (List Stop))
plan_in [] = None
plan_in (item.Head digest ∷ items) = plan_in items
plan_in (item.Cut cut ∷ items) = plan_in items
plan_in (item.Split flight node time cutoff ∷ items) = plan_in items
plan_in (item.Empty ∷ items) = plan_in items
plan_in (item.Unit ∷ items) = plan_in items
plan_in (item.Dual weight rows ∷ items) = plan_in items
plan_in (item.Lag weight rows ∷ items) = plan_in items
plan_in (item.Row multiplier ∷ items) = plan_in items
plan_in (item.Plan cost ∷ items) = plan_from cost items
plan_in (item.Trip trip ∷ items) = plan_in items
plan_in (item.Bound bound ∷ items) = None
plan_in (item.End nodes ∷ items) = None

-- the first bound
abbrev bound_in : List CertItem → Bound
bound_in [] = NoPlan
bound_in (item.Head digest ∷ items) = bound_in items
bound_in (item.Cut cut ∷ items) = bound_in items
bound_in (item.Split flight node time cutoff ∷ items) = bound_in items
bound_in (item.Empty ∷ items) = bound_in items
bound_in (item.Unit ∷ items) = bound_in items
bound_in (item.Dual weight rows ∷ items) = bound_in items
bound_in (item.Lag weight rows ∷ items) = bound_in items
bound_in (item.Row multiplier ∷ items) = bound_in items
bound_in (item.Plan cost ∷ items) = bound_in items
bound_in (item.Trip trip ∷ items) = bound_in items
bound_in (item.Bound bound ∷ items) = bound
bound_in (item.End nodes ∷ items) = NoPlan

-- of cuts, and of what follows them
pool_back : (pool : List CutName) (more : List CertItem) → pool_in more ≡ []
    → pool_in (pool_items pool ++ more) ≡ pool
pool_back [] more none = none
pool_back (cut ∷ pool) more none =
    ap (λ (rest : List CutName). cut ∷ rest) (pool_back pool more none)

tree_past_cuts : (pool : List CutName) (more : List CertItem)
    → tree_in (pool_items pool ++ more) ≡ tree_in more
tree_past_cuts [] more = refl
tree_past_cuts (cut ∷ pool) more = tree_past_cuts pool more

plan_past_cuts : (pool : List CutName) (more : List CertItem)
    → plan_in (pool_items pool ++ more) ≡ plan_in more
plan_past_cuts [] more = refl
plan_past_cuts (cut ∷ pool) more = plan_past_cuts pool more

bound_past_cuts : (pool : List CutName) (more : List CertItem)
    → bound_in (pool_items pool ++ more) ≡ bound_in more
bound_past_cuts [] more = refl
bound_past_cuts (cut ∷ pool) more = bound_past_cuts pool more

-- no cut stands among a tree's items
no_cuts : (nodes : List TreeNode) (more : List CertItem) → pool_in more ≡ []
    → pool_in (tree_items nodes ++ more) ≡ []
no_cuts [] more none = none
no_cuts (Leaf leaf.Empty ∷ nodes) more none = refl
no_cuts (Leaf leaf.Unit ∷ nodes) more none = refl
no_cuts (Leaf (leaf.Dual weight rows) ∷ nodes) more none = refl
no_cuts (Leaf (leaf.Lag weight rows) ∷ nodes) more none = refl
no_cuts (Split flight node time cutoff ∷ nodes) more none = refl

-- of rows, and of what follows them
rows_back : (rows : List Multiplier) (more : List CertItem) → rows_in more ≡ []
    → rows_in (row_items rows ++ more) ≡ rows
rows_back [] more none = none
rows_back (multiplier ∷ rows) more none =
    ap (λ (rest : List Multiplier). multiplier ∷ rest) (rows_back rows more none)

tree_past : (rows : List Multiplier) (more : List CertItem)
    → tree_in (row_items rows ++ more) ≡ tree_in more
tree_past [] more = refl
tree_past (multiplier ∷ rows) more = tree_past rows more

plan_past : (rows : List Multiplier) (more : List CertItem)
    → plan_in (row_items rows ++ more) ≡ plan_in more
plan_past [] more = refl
plan_past (multiplier ∷ rows) more = plan_past rows more

bound_past : (rows : List Multiplier) (more : List CertItem)
    → bound_in (row_items rows ++ more) ≡ bound_in more
bound_past [] more = refl
bound_past (multiplier ∷ rows) more = bound_past rows more

-- no row stands in front of a tree's items
no_rows : (nodes : List TreeNode) (more : List CertItem) → rows_in more ≡ []
    → rows_in (tree_items nodes ++ more) ≡ []
no_rows [] more none = none
no_rows (Leaf leaf.Empty ∷ nodes) more none = refl
no_rows (Leaf leaf.Unit ∷ nodes) more none = refl
no_rows (Leaf (leaf.Dual weight rows) ∷ nodes) more none = refl
no_rows (Leaf (leaf.Lag weight rows) ∷ nodes) more none = refl
no_rows (Split flight node time cutoff ∷ nodes) more none = refl

-- the nodes are found again
tree_back : (nodes : List TreeNode) (more : List CertItem) → rows_in more ≡ []
    → tree_in more ≡ [] → tree_in (tree_items nodes ++ more) ≡ nodes
tree_back [] more none over = over
tree_back (Leaf leaf.Empty ∷ nodes) more none over =
    ap (λ (rest : List TreeNode). Leaf leaf.Empty ∷ rest) (tree_back nodes more none over)
tree_back (Leaf leaf.Unit ∷ nodes) more none over =
    ap (λ (rest : List TreeNode). Leaf leaf.Unit ∷ rest) (tree_back nodes more none over)
tree_back (Leaf (leaf.Dual weight rows) ∷ nodes) more none over =
    rw (
      append_assoc (row_items rows) (tree_items nodes) more,
      rows_back rows (tree_items nodes ++ more) (no_rows nodes more none),
      tree_past rows (tree_items nodes ++ more),
      tree_back nodes more none over,
    ) refl
tree_back (Leaf (leaf.Lag weight rows) ∷ nodes) more none over =
    rw (
      append_assoc (row_items rows) (tree_items nodes) more,
      rows_back rows (tree_items nodes ++ more) (no_rows nodes more none),
      tree_past rows (tree_items nodes ++ more),
      tree_back nodes more none over,
    ) refl
tree_back (Split flight node time cutoff ∷ nodes) more none over =
    ap (λ (rest : List TreeNode). Split flight node time cutoff ∷ rest)
    (tree_back nodes more none over)

plan_after : (nodes : List TreeNode) (more : List CertItem)
    → plan_in (tree_items nodes ++ more) ≡ plan_in more
plan_after [] more = refl
plan_after (Leaf leaf.Empty ∷ nodes) more = plan_after nodes more
plan_after (Leaf leaf.Unit ∷ nodes) more = plan_after nodes more
plan_after (Leaf (leaf.Dual weight rows) ∷ nodes) more =
    rw (append_assoc (row_items rows) (tree_items nodes) more)
    (plan_past rows (tree_items nodes ++ more) ∙ plan_after nodes more)
plan_after (Leaf (leaf.Lag weight rows) ∷ nodes) more =
    rw (append_assoc (row_items rows) (tree_items nodes) more)
    (plan_past rows (tree_items nodes ++ more) ∙ plan_after nodes more)
plan_after (Split flight node time cutoff ∷ nodes) more = plan_after nodes more

bound_after : (nodes : List TreeNode) (more : List CertItem)
    → bound_in (tree_items nodes ++ more) ≡ bound_in more
bound_after [] more = refl
bound_after (Leaf leaf.Empty ∷ nodes) more = bound_after nodes more
bound_after (Leaf leaf.Unit ∷ nodes) more = bound_after nodes more
bound_after (Leaf (leaf.Dual weight rows) ∷ nodes) more =
    rw (append_assoc (row_items rows) (tree_items nodes) more)
    (bound_past rows (tree_items nodes ++ more) ∙ bound_after nodes more)
bound_after (Leaf (leaf.Lag weight rows) ∷ nodes) more =
    rw (append_assoc (row_items rows) (tree_items nodes) more)
    (bound_past rows (tree_items nodes ++ more) ∙ bound_after nodes more)
bound_after (Split flight node time cutoff ∷ nodes) more = bound_after nodes more

trips_back : (plan : List (List Stop)) (more : List CertItem) → trips_in more ≡ []
    → trips_in (trip_items plan ++ more) ≡ plan
trips_back [] more none = none
trips_back (trip ∷ plan) more none =
    ap (λ (rest : List (List Stop)). trip ∷ rest) (trips_back plan more none)

bound_past_trips : (plan : List (List Stop)) (more : List CertItem)
    → bound_in (trip_items plan ++ more) ≡ bound_in more
bound_past_trips [] more = refl
bound_past_trips (trip ∷ plan) more = bound_past_trips plan more

module _ (parts : Parts) where
  plan_back : (plan : Option (List (List Stop))) (more : List CertItem) → trips_in more ≡ []
      → plan_in (plan_items parts plan ++ more) ≡ plan
  plan_back None more none = refl
  plan_back (Some plan) more none = ap Some (trips_back plan more none)

  bound_past_plan : (plan : Option (List (List Stop))) (more : List CertItem)
      → bound_in (plan_items parts plan ++ more) ≡ bound_in more
  bound_past_plan None more = refl
  bound_past_plan (Some plan) more = bound_past_trips plan more

  plan_first : (plan : Option (List (List Stop))) (more : List CertItem)
      → (rows_in (plan_items parts plan ++ more) ≡ [])
      × (tree_in (plan_items parts plan ++ more) ≡ [])
      × (pool_in (plan_items parts plan ++ more) ≡ [])
  plan_first None more = (refl, refl, refl)
  plan_first (Some plan) more = (refl, refl, refl)

  -- what the items of a certificate tell is that
  abbrev told_in : List CertItem → Certified
  told_in items = record {
    digest = digest_in items;
    pool = pool_in items;
    tree = tree_in items;
    plan = plan_in items;
    bound = bound_in items;
  }

  told_back : (cert : Certified) → told_in (cert_items parts cert) ≡ cert
  told_back cert =
      let last : List CertItem = item.Bound cert.bound ∷ item.End (length cert.tree) ∷ [] in
      let first = plan_first cert.plan last in
      let planned : List CertItem = plan_items parts cert.plan ++ last in
      let grown : List CertItem = tree_items cert.tree ++ planned in
      rw (
        pool_back cert.pool grown (no_cuts cert.tree planned first.2),
        tree_past_cuts cert.pool grown,
        tree_back cert.tree planned first.0 first.1,
        plan_past_cuts cert.pool grown,
        plan_after cert.tree planned,
        plan_back cert.plan last refl,
        bound_past_cuts cert.pool grown,
        bound_after cert.tree planned,
        bound_past_plan cert.plan last,
      ) refl

  items_of : (items : List CertItem) (read : Read)
      → (with_items items read).items ≡ items ++ read.items
  items_of [] read = refl
  items_of (item ∷ items) read =
      ap (λ (rest : List CertItem). item ∷ rest) (items_of items read)

  fault_of : (items : List CertItem) (read : Read) → (with_items items read).fault ≡ read.fault
  fault_of [] read = refl
  fault_of (item ∷ items) read = fault_of items read

  -- nothing may follow the last line
  more_stops : (b : ℕ) (pieces : List (List ℕ))
      → (read_on parts (onto_first b pieces) stage.Ended).fault ≡ Some (in_first AfterEnd)
  more_stops b [] = refl
  more_stops b (piece ∷ []) = refl
  more_stops b (piece ∷ next ∷ pieces) = refl

  after_end : (more : List ℕ) → (read_from parts stage.Ended more).fault ≡ None → more ≡ []
  after_end [] whole = refl
  after_end (b ∷ more) whole = absurd (by (is_feed b) refl)
    where
      by : (feed : Bool) → is_feed b ≡ feed → ⊥
      by true is =
          let feed : b ≡ 10 = eqb-true b 10 is in
          let read : read_from parts stage.Ended (b ∷ more) ≡ stopped (Some (in_first AfterEnd)) =
          ap (λ (first : ℕ). read_from parts stage.Ended (first ∷ more)) feed
          ∙ line_read parts stage.Ended [] more (λ k d below. absurd (omega (arith, below))) in
          let e : ⊥ = cc (rw read at whole) in e
      by false is =
          let pieces : pieces_of (b ∷ more) ≡ onto_first b (pieces_of more) =
          slice_split-cons_no is_feed b more is in
          let stops : (read_from parts stage.Ended (b ∷ more)).fault ≡ Some (in_first AfterEnd) =
          ap (λ (ps : List (List ℕ)). (read_on parts ps stage.Ended).fault) pieces
          ∙ more_stops b (pieces_of more) in
          let e : ⊥ = cc (rw stops at whole) in e

  one_reading : (a b : List CertItem) (more : List ℕ)
      → with_items a (read_from parts stage.Ended more) ≡ read_whole b → (a ≡ b) × (more ≡ [])
  one_reading a b more same =
      let end = read_from parts stage.Ended more in
      let whole : end.fault ≡ None =
      sym (fault_of a end) ∙ ap (λ (read : Read). read.fault) same in
      let none : more ≡ [] = after_end more whole in
      let items : a ++ end.items ≡ b =
      sym (items_of a end) ∙ ap (λ (read : Read). read.items) same in
      let left : end.items ≡ [] =
      ap (λ (bytes : List ℕ). (read_from parts stage.Ended bytes).items) none in
      (sym (append-nil a) ∙ ap (λ (rest : List CertItem). a ++ rest) (sym left) ∙ items, none)

  -- a certificate whose text begins another one's is that
  pub one_text : (first second : Certified) (more : List ℕ) → IsScenario parts
      → IsWritable parts first → IsWritable parts second
      → cert_text parts first ++ more ≡ cert_text parts second
      → (first ≡ second) × (more ≡ [])
  one_text first second more valid one two same =
      let read = one_reading (cert_items parts first) (cert_items parts second) more
      (sym (text_reads_on parts valid first more one) ∙ ap (read_from parts stage.Head) same
      ∙ text_reads parts valid second two) in
      (sym (told_back first) ∙ ap told_in read.0 ∙ told_back second, read.1)
