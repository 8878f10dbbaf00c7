-- The nodes of a search's tree are within the limits of lines, and have so many bytes at most.
use Rattle.std.proofs.Common.{◌≡◌, inl, inr, ℕ, zero, suc, ◌+◌, ◌*◌, ◌<◌, ◌≤◌, ◌==◌, ◌||◌, List, [], ◌∷◌, ◌++◌, length, All, Option, None, Some, Ok, slice_get, refl, sym, subst, ℤ, arith, length-append}
use Rattle.std.specs.Prelude.{codes, is_some, slice_index, slice_index_or}
use Rattle.std.specs.Fmt.{decimal}
use Rattle.std.proofs.lemmas.Bool.{and_parts}
use Rattle.exact_sums.proofs.ItemFacts.{All-item}
use Rattle.flow_types.specs.declared.bound.Bound.{Bound}
use Rattle.flow_types.specs.declared.bound.Bound.TheVariants.{NoPlan}
use Rattle.flow_types.specs.declared.flight.Flight.{Flight}
use Rattle.flow_types.specs.declared.parts.Parts.{Parts}
use Rattle.flow_types.specs.declared.plan.Stop.{Stop}
use Rattle.flow_types.specs.Trips.{earliest_of, latest_of}
use Rattle.flow_types.specs.Valid.{IsScenario}
use Rattle.flow_types.proofs.CostFacts.{latest_to}
use Rattle.time_windows.specs.declared.access.Access.{Access}
use Rattle.time_windows.specs.Boxes.{Box, IsBoxOf, IsWindowWithin, closed, root_row}
use Rattle.time_windows.specs.Plans.{IsPlanIn}
use Rattle.time_windows.specs.Splits.{IsBranching}
use Rattle.time_windows.proofs.WindowFacts.{if_lt}
use Rattle.bytime_model.specs.declared.multiplier.Multiplier.{Multiplier}
use Rattle.bytime_model.specs.AllRows.{rows_of}
use Rattle.bytime_model.specs.Rows.{is_row, node_count}
use Rattle.bytime_model.proofs.AllRowsFacts.{nodes_few}
use Rattle.cut_rows.specs.declared.names.CutName.{CutName}
use Rattle.cut_rows.specs.Pools.{cut_names}
use Rattle.cut_rows.proofs.PoolRows.{names_long}
use Rattle.branch_tree.specs.declared.leaf.Leaf.{Leaf as LeafKind}
use Rattle.branch_tree.specs.declared.leaf.Leaf.TheVariants as leaf
use Rattle.branch_tree.specs.declared.tree.TreeNode.{TreeNode}
use Rattle.branch_tree.specs.declared.tree.TreeNode.TheVariants.{Leaf, Split}
use Rattle.branch_tree.specs.Forests.{Leads}
use Rattle.branch_tree.specs.Lawful.{IsLawfulAt}
use Rattle.dual_leaf.specs.Leaf.{IsDualAnswer, IsLagAnswer}
use Rattle.dual_leaf.specs.PriceRows.{key_of}
use Rattle.relaxed_bound.proofs.RowsFacts.{run_ascends, run_positive}
use Rattle.certificate.specs.Limits.{most_cost}
use Rattle.certificate.specs.Lines.{leaf_fields, line_of, split_fields, whole_word}
use Rattle.certificate.specs.Ranges.{IsSplitInRange, IsWithinEither}
use Rattle.certificate.specs.Texts.{leaf_text, rows_text, tree_text}
use Rattle.certificate.specs.Writable.{AreNodesWritable, IsLeafWritable}
use Rattle.tree_search.specs.declared.found.Budget.{Budget}
use Rattle.tree_search.specs.Nodes.{IsLeafNode, IsNodeOf, cost_of, cutoff_after}
use Rattle.flow_cli.proofs.OwnPlan.{cost_to}
use Rattle.flow_cli.proofs.OwnRows.{AreFitRows, AreListed, fit_rows, listed}
use Rattle.flow_cli.proofs.OwnSizes.{digits_to, field_to, line_size, whole_to}

-- no node of a tree has more bytes, whatever cuts its leaves name
abbrev pub node_bytes : Parts → ℕ
node_bytes parts = 48 * (length (rows_of parts) + 10001)

record IsFitLeaf (parts : Parts) (kind : LeafKind) : Type 0 where
  writable : IsLeafWritable kind
  short : length (leaf_text kind) ≤ node_bytes parts

record IsFitSplit (parts : Parts) (f n t : ℕ) (named : Option ℤ) : Type 0 where
  writable : IsSplitInRange f n t named
  short : length (line_of (codes "split") (split_fields f n t named)) ≤ node_bytes parts

pub record AreFitNodes (parts : Parts) (nodes : List TreeNode) : Type 0 where
  pub writable : AreNodesWritable nodes
  pub short : length (tree_text nodes) ≤ length nodes * node_bytes parts

-- a leaf with its rows
leaf_size : (parts : Parts) {valid : IsScenario parts} (pool : List CutName)
    (few : length pool ≤ 10000) (word : List ℕ) (weight : ℕ) (rows : List Multiplier)
    → length word ≤ 4 → AreFitRows parts valid pool few weight rows
    → length (line_of word (leaf_fields weight (length rows)) ++ rows_text rows)
    ≤ node_bytes parts
leaf_size parts pool few word weight rows short fit =
    let both = length-append (rows_of parts) (cut_names pool) in
    let cuts = names_long pool in
    let sizes = fit.writable.sizes in
    let weight_to = sizes.weight_to in
    let rows_to = sizes.rows_to in
    let weight_size = digits_to 19 weight (omega arith) (omega arith) (omega (arith, weight_to)) in
    let count_size = digits_to 9 (length rows) (omega arith) (omega arith)
    (omega (arith, rows_to)) in
    let second = field_to 9 1 (decimal (length rows)) [] count_size (omega arith) in
    let first = field_to 19 11 (decimal weight) (decimal (length rows) ∷ []) weight_size second in
    let line = line_size word (leaf_fields weight (length rows)) in
    let all = length-append (line_of word (leaf_fields weight (length rows))) (rows_text rows) in
    let listed = fit.no_more in
    let lines = fit.short in
    omega (arith, short, first, line, all, listed, lines, both, cuts, few)

both_short : (first rest : List ℕ) (nodes most : ℕ) → length first ≤ most
    → length rest ≤ nodes * most → length (first ++ rest) ≤ suc nodes * most
both_short first rest nodes most one more =
    let all = length-append first rest in
    omega (arith, all, one, more)

-- a split's node is one of its flight's, and its period one of the day's
record IsOpenAt (parts : Parts) (f n time : ℕ) : Type 0 where
  node_small : n < 32
  time_to : time ≤ 511

module _ (parts : Parts) (valid : IsScenario parts) where
  open_at : (box : Box) (f n time : ℕ) → IsBoxOf parts box → IsBranching (box f n) time
      → IsOpenAt parts f n time
  open_at box f n time inside branching =
      within (slice_get parts.flights f) refl (subst (λ window. IsWindowWithin window
      (root_row parts.day.periods (slice_get parts.flights f) n).window) branching.is_open
      (inside.windows f n))
    where
      within : (found : Option Flight) → slice_get parts.flights f ≡ found
          → IsWindowWithin (Some branching.window) (root_row parts.day.periods found n).window
          → IsOpenAt parts f n time
      within None is shut = absurd shut
      within (Some flight) is there =
          if_lt (λ (a : Access). IsWindowWithin (Some branching.window) a.window
          → IsOpenAt parts f n time) n (length flight.nodes) (record {
            window = Some (record {
              lo = earliest_of flight n;
              hi = latest_of parts.day.periods flight n;
            });
            must = (n == 0) || (n + 1 == length flight.nodes);
          }) closed (λ below inner. at below inner) (λ _ shut. absurd shut) there
        where
          at : n < length flight.nodes
              → IsWindowWithin (Some branching.window) (Some (record {
                lo = earliest_of flight n;
                hi = latest_of parts.day.periods flight n;
              }))
              → IsOpenAt parts f n time
          at below inner =
              let last = latest_to parts.day.periods flight n in
              let to = branching.to in
              let periods = valid.day.periods_to in
              let nodes : length flight.nodes ≤ 32 =
              subst (λ found. node_count found ≤ 32) is (nodes_few parts f valid) in
              record {
                node_small = omega (arith, below, nodes);
                time_to = omega (arith, inner.1, last, to, periods);
              }

  module _ (pool : List CutName) (few : length pool ≤ 10000) (root : Box) (budget : Budget)
      (plans : List (List (List Stop))) (counts : List ℕ)
      (in_root : All (IsPlanIn parts root) plans)
      (bounds : List Bound) where
    cutoff_to : (count : ℕ) → IsWithinEither most_cost (cutoff_after parts plans count)
    cutoff_to zero = tt
    cutoff_to (suc k) = by (slice_get plans k) refl
      where
        by : (found : Option (List (List Stop))) → slice_get plans k ≡ found
            → IsWithinEither most_cost (cost_of parts found)
        by None is = tt
        by (Some plan) is =
            cost_to parts valid plan
            (All-item (IsPlanIn parts root) plans k plan in_root is).feasible.trips

    leaf_fit : (cutoff : Option ℤ) (bound : Bound) (box : Box) (kind : LeafKind)
        → IsLeafNode parts pool budget cutoff bound box kind → IsFitLeaf parts kind
    leaf_fit cutoff bound box leaf.Empty is = record { writable = tt; short = omega arith }
    leaf_fit cutoff bound box leaf.Unit is = record { writable = tt; short = omega arith }
    leaf_fit cutoff bound box (leaf.Dual weight rows) is =
        let fit = fit_rows parts valid pool few weight rows is.range
        (run_positive parts pool box budget.limits cutoff weight rows is.kind.is)
        (run_ascends parts pool box budget.limits cutoff weight rows is.kind.is)
        (known is.bound_is) in
        record {
          writable = fit.writable;
          short = leaf_size parts pool few (codes "dual") weight rows (omega arith) fit;
        }
      where
        known : IsDualAnswer parts pool box weight rows (Ok bound)
            → AreListed parts valid pool few rows
        known (inl told) k multiplier at =
            listed parts valid pool few multiplier.row (told.known k multiplier at)
        known (inr none) k multiplier at = absurd none
    leaf_fit cutoff bound box (leaf.Lag weight rows) is =
        let fit = fit_rows parts valid pool few weight rows is.range is.kind.positive
        is.kind.ascending
        (known is.bound_is) in
        record {
          writable = fit.writable;
          short = leaf_size parts pool few (codes "lag") weight rows (omega arith) fit;
        }
      where
        known : IsLagAnswer parts box weight rows (Ok bound) → AreListed parts valid pool few rows
        known (inl told) k multiplier at =
            inl (and_parts (is_some (key_of multiplier.row)) (is_row parts multiplier.row)
            (told.priceable k multiplier at)).1
        known (inr none) k multiplier at = absurd none

    abbrev IsNode : ℕ → Box → TreeNode → Type 0
    IsNode = IsLawfulAt parts (IsNodeOf parts pool budget plans counts) bounds

    split_fit : (f n t : ℕ) (named : Option ℤ) → f < 2000 → IsOpenAt parts f n t
        → IsWithinEither most_cost named → IsFitSplit parts f n t named
    split_fit f n t named there at cutoff =
        let flight = digits_to 4 f (omega arith) (omega arith) (omega (arith, there)) in
        let node_small = at.node_small in
        let time = at.time_to in
        let node = digits_to 4 n (omega arith) (omega arith) (omega (arith, node_small)) in
        let period = digits_to 4 t (omega arith) (omega arith) (omega (arith, time)) in
        let whole = whole_to 14 most_cost named (omega arith) (omega arith) (omega arith) cutoff in
        let fourth = field_to 15 1 (whole_word named) [] whole (omega arith) in
        let third = field_to 4 17 (decimal t) (whole_word named ∷ []) period fourth in
        let second = field_to 4 22 (decimal n) (decimal t ∷ whole_word named ∷ []) node third in
        let first = field_to 4 27 (decimal f) (decimal n ∷ decimal t ∷ whole_word named ∷ [])
        flight second in
        let line = line_size (codes "split") (split_fields f n t named) in
        record {
          writable = record {
            at = record {
              at = record {
                flight_to = omega (arith, there);
                node_to = omega (arith, node_small);
              };
              time_to = time;
            };
            cutoff_to = cutoff;
          };
          short = omega (arith, first, line);
        }

    pub nodes_fit : (nodes : List TreeNode) (number : ℕ) (boxes rest : List Box)
        → Leads parts IsNode number boxes nodes rest → AreFitNodes parts nodes
    nodes_fit [] number boxes rest leads = record { writable = tt; short = omega arith }
    nodes_fit (Leaf kind ∷ nodes) number [] rest leads = absurd leads
    nodes_fit (Leaf kind ∷ nodes) number (box ∷ boxes) rest ((own, is), leads) =
        let here = leaf_fit (cutoff_after parts plans (slice_index counts number))
        (slice_index_or bounds number NoPlan) box kind is in
        let more = nodes_fit nodes (number + 1) boxes rest leads in
        record {
          writable = (here.writable, more.writable);
          short = both_short (leaf_text kind) (tree_text nodes) (length nodes)
              (node_bytes parts) here.short more.short;
        }
    nodes_fit (Split f n t named ∷ nodes) number [] rest leads = absurd leads
    nodes_fit (Split f n t named ∷ nodes) number (box ∷ boxes) rest
        ((own, is), (early, late, sides, leads)) =
        let there = sides.there in
        let flights = valid.flights.few in
        let here = split_fit f n t named (omega (arith, there, flights))
        (open_at box f n t is.inside sides.branching)
        (subst (IsWithinEither most_cost) (sym is.cutoff_is)
        (cutoff_to (slice_index counts number))) in
        let more = nodes_fit nodes (number + 1) (early ∷ late ∷ boxes) rest leads in
        record {
          writable = (here.writable, more.writable);
          short = both_short (line_of (codes "split") (split_fields f n t named)) (tree_text nodes)
              (length nodes) (node_bytes parts) here.short more.short;
        }
