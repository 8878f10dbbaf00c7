-- Step by step: after a leaf the search goes on at the next box that waits, or it is at its end;
-- after a split it goes on at the early side.
use Rattle.std.proofs.Common.{◌≡◌, suc, ◌+◌, ◌≤◌, Bool, false, true, List, [], ◌∷◌, length, refl, sym, ◌∙◌, ap, subst, length-append, arith}
use Rattle.flow_types.specs.declared.bound.Bound.{Bound}
use Rattle.flow_types.specs.declared.bound.Bound.TheVariants.{NoPlan}
use Rattle.flow_types.specs.declared.parts.Parts.{Parts}
use Rattle.flow_types.specs.Valid.{IsScenario}
use Rattle.time_windows.specs.Boxes.{Box}
use Rattle.time_windows.specs.Held.{Held, IsMadeFor, box_of}
use Rattle.time_windows.specs.Splits.{early_branch}
use Rattle.time_windows.specs.Tight.{IsTightened}
use Rattle.branch_tree.specs.declared.leaf.Leaf.{Leaf as LeafKind}
use Rattle.branch_tree.specs.declared.tree.TreeNode.{TreeNode}
use Rattle.branch_tree.specs.declared.tree.TreeNode.TheVariants.{Leaf, Split}
use Rattle.cut_rows.specs.declared.names.CutName.{CutName}
use Rattle.tree_search.specs.declared.draft.RecordDraft.{RecordDraft}
use Rattle.tree_search.specs.declared.found.Budget.{Budget}
use Rattle.branch_tree.specs.declared.walk.Branch.{Branch}
use Rattle.branch_tree.specs.declared.walk.Step.{Step}
use Rattle.branch_tree.specs.declared.walk.Step.TheVariants.{Early}
use Rattle.tree_search.specs.Drafts.{Completes, IsDraft, IsDrafted, IsNoted}
use Rattle.tree_search.specs.Pools.{IsFirstPool}
use Rattle.tree_search.specs.Searching.{IsArrived, IsAtNext, IsGoneOn, IsLeft, IsSearched, IsSearching, planned_in}
use Rattle.tree_search.specs.Seen.{IsLeafSeen, IsSplitSeen}
use Rattle.tree_search.specs.Visits.{IsVisited}
use Rattle.branch_tree.specs.Paths.{ArePartsOf, ArePending, IsNext, IsNextOr, IsOver, IsPartOf, Path, top_box}
use Rattle.tree_search.proofs.CompleteFacts.{all_complete, leaf_complete, split_complete}
use Rattle.tree_search.proofs.DraftFacts.{noted_best, noted_draft, noted_still}
use Rattle.time_windows.proofs.PartFacts.{in_early}
use Rattle.tree_search.proofs.VisitFacts.{visited_best, visited_complete, visited_draft, visited_same, visited_still, visited_tried}

module _ (parts : Parts) (pool : List CutName) (budget : Budget) (path : Path)
    (old new : RecordDraft) (arrived : IsArrived parts pool budget path old)
    (begun : length old.nodes ≡ 0
    → IsFirstPool parts budget.limits old.best (box_of path.present) pool) where
  -- a node more
  one_longer : (node : TreeNode) (bound : Bound) → IsNoted node bound old new
      → length new.nodes ≡ suc (length old.nodes)
  one_longer node bound noted =
      let long = ap length noted.nodes in
      omega (arith, long, length-append old.nodes (node ∷ []))

  module _ (more : Bool) (room : planned_in old path + 2 ≤ budget.nodes → more ≡ true) where
    module _ (leaf : LeafKind) (bound : Bound)
        (seen : IsLeafSeen parts pool budget old.best more (box_of path.present) leaf bound)
        (noted : IsNoted (Leaf leaf) bound old new) where
      is_node : IsDrafted parts pool budget (length old.nodes) old.best bound
          (box_of path.present) (Leaf leaf)
      is_node = (tt, record { node_is = seen.node; pool_is = begun })

      leaf_whole : (boxes : List Box) → ArePending parts path.above path.steps boxes
          → Completes parts pool budget (top_box path) new boxes
      leaf_whole boxes pending =
          leaf_complete parts pool budget (top_box path) (box_of path.present) leaf boxes old new
          bound arrived.draft_is.counted arrived.draft_is.bounded
          (subst (λ cutoff. IsDrafted parts pool budget (length old.nodes) cutoff bound
          (box_of path.present) (Leaf leaf)) arrived.best is_node) noted
          (arrived.whole boxes pending)

      pub leaf_next : (next : Path) → IsNext parts path next
          → IsAtNext parts pool budget old (top_box path) next new
      leaf_next next on = record {
        arrived = record {
          made = on.made;
          tight = on.tight.tight;
          part = subst (λ top. IsPartOf top next.present) (sym same) are_parts.0;
          steps = on.steps;
          parts_of = subst (λ top. ArePartsOf top next.above) (sym same) are_parts.1;
          draft_is = subst (λ top. IsDraft parts top new) (sym same)
              (noted_draft parts (top_box path) old new (Leaf leaf) bound seen.near
              arrived.draft_is noted);
          best = noted_best parts (top_box path) old new (Leaf leaf) bound arrived.best noted;
          whole = λ boxes pending. subst
              (λ top. Completes parts pool budget top new (box_of next.present ∷ boxes)) (sym same)
              (leaf_whole (box_of next.present ∷ boxes) (on.pending boxes pending));
          room = omega (arith, arrived.room, on.fewer, one_longer (Leaf leaf) bound noted);
          unspent = λ left.
              let enough : planned_in old path + 2 ≤ budget.nodes =
              omega (arith, left, on.fewer, one_longer (Leaf leaf) bound noted) in
              noted_still parts (top_box path) old new (Leaf leaf) bound noted
              (arrived.unspent enough) (seen.reached (room enough));
        };
        same = same;
        longer = one_longer (Leaf leaf) bound noted;
      }
        where
          same : top_box next ≡ top_box path
          same = ap box_of on.top

          are_parts : IsPartOf (top_box path) next.present × ArePartsOf (top_box path) next.above
          are_parts = on.parts_of (top_box path) arrived.parts_of

      pub leaf_over : IsOver parts path → IsSearched parts pool budget (top_box path) new
      leaf_over over = record {
        draft_is =
            noted_draft parts (top_box path) old new (Leaf leaf) bound seen.near
            arrived.draft_is noted;
        best = noted_best parts (top_box path) old new (Leaf leaf) bound arrived.best noted;
        tree = all_complete parts pool budget (top_box path) new (leaf_whole [] over.none);
        room = omega (arith, arrived.room, over.fewer, one_longer (Leaf leaf) bound noted);
        unspent = λ left.
            let enough : planned_in old path + 2 ≤ budget.nodes =
            omega (arith, left, over.fewer, one_longer (Leaf leaf) bound noted) in
            noted_still parts (top_box path) old new (Leaf leaf) bound noted
            (arrived.unspent enough) (seen.reached (room enough));
      }

  -- after a split
  module _ (more : Bool) (room : more ≡ true → planned_in old path + 2 ≤ budget.nodes)
      (branch : Branch)
      (seen : IsSplitSeen parts pool budget old.best more (box_of path.present) branch)
      (noted : IsNoted (Split branch.flight branch.node branch.time old.best) NoPlan old new)
      (after : Held)
      (tight : IsTightened parts (early_branch branch.flight branch.node branch.time
      (box_of path.present)) (box_of after))
      (made : IsMadeFor parts after) where
    enough : planned_in old path + 2 ≤ budget.nodes
    enough = room seen.room

    abbrev down : Path
    down = record {
      present = after;
      above = path.present ∷ path.above;
      steps = Early branch ∷ path.steps;
    }

    split_whole : (boxes : List Box) → ArePending parts down.above down.steps boxes
        → Completes parts pool budget (top_box path) new (box_of after ∷ boxes)
    split_whole [] pending = absurd pending
    split_whole (late ∷ boxes) (late_is, pending) =
        split_complete parts pool budget (top_box path) (box_of path.present) (box_of after) late
        branch.flight branch.node branch.time old.best boxes old new NoPlan
        (record {
          live = seen.live;
          there = seen.branch_is.there;
          branching = seen.branch_is.branching;
          early_is = tight;
          late_is = late_is;
        })
        arrived.draft_is.counted arrived.draft_is.bounded
        (subst (λ cutoff. IsDrafted parts pool budget (length old.nodes) cutoff NoPlan
        (box_of path.present) (Split branch.flight branch.node branch.time old.best))
        arrived.best (refl, record { node_is = seen.node; pool_is = begun }))
        noted (arrived.whole boxes pending)

    split_next : IsAtNext parts pool budget old (top_box path) down new
    split_next = record {
      arrived = record {
        made = made;
        tight = tight.tight;
        part = λ plan inside.
            arrived.part plan (in_early branch.flight branch.node branch.time (box_of path.present)
            (box_of after) plan tight.within inside);
        steps = (
          record {
            made = arrived.made;
            tight = arrived.tight;
            there = seen.branch_is.there;
            branching = seen.branch_is.branching;
          },
          arrived.steps,
        );
        parts_of = (arrived.part, arrived.parts_of);
        draft_is = noted_draft parts (top_box path) old new
            (Split branch.flight branch.node branch.time old.best) NoPlan tt
            arrived.draft_is noted;
        best = noted_best parts (top_box path) old new
            (Split branch.flight branch.node branch.time old.best) NoPlan arrived.best noted;
        whole = split_whole;
        room = omega (
          arith,
          enough,
          one_longer
              (Split branch.flight branch.node branch.time old.best) NoPlan noted,
        );
        unspent = λ left.
            noted_still parts (top_box path) old new
            (Split branch.flight branch.node branch.time old.best) NoPlan noted
            (arrived.unspent enough) refl;
      };
      same = refl;
      longer = one_longer (Split branch.flight branch.node branch.time old.best) NoPlan noted;
    }

    pub split_on : (next : Path) → next.present ≡ after → next.above ≡ path.present ∷ path.above
        → next.steps ≡ Early branch ∷ path.steps
        → IsAtNext parts pool budget old (top_box path) next new
    split_on next present above steps =
        subst (λ (h : Held). IsAtNext parts pool budget old (top_box path) (record {
          present = h;
          above = next.above;
          steps = next.steps;
        }) new) (sym present)
        (subst (λ (l : List Held). IsAtNext parts pool budget old (top_box path) (record {
          present = after;
          above = l;
          steps = next.steps;
        }) new) (sym above)
        (subst (λ (l : List Step). IsAtNext parts pool budget old (top_box path) (record {
          present = after;
          above = path.present ∷ path.above;
          steps = l;
        }) new) (sym steps) split_next))

-- the greedy plan of the box was offered
pub visited_on : (parts : Parts) (pool : List CutName) (budget : Budget) (path : Path)
    (before old new : RecordDraft)
    (top : Box) → IsScenario parts → IsAtNext parts pool budget before top path old
    → IsVisited parts (box_of path.present) old new → IsSearching parts pool budget path new
visited_on parts pool budget path before old new top valid next visited =
    let arrived = next.arrived in
    let same = ap length (visited_same parts (box_of path.present) old new visited).nodes in
    record {
      arrived = record {
        made = arrived.made;
        tight = arrived.tight;
        part = arrived.part;
        steps = arrived.steps;
        parts_of = arrived.parts_of;
        draft_is = visited_draft parts (box_of path.present) old new (top_box path) arrived.part
            arrived.draft_is arrived.best visited;
        best = visited_best parts (box_of path.present) old new arrived.best visited;
        whole = λ boxes pending.
            visited_complete parts (box_of path.present) old new pool budget (top_box path)
            (box_of path.present ∷ boxes) visited (arrived.whole boxes pending);
        room = omega (arith, same, arrived.room);
        unspent = λ left.
            visited_still parts (box_of path.present) old new visited
            (arrived.unspent (omega (arith, same, left)));
      };
      tried = visited_tried parts (box_of path.present) old new valid visited;
    }

pub left_leaf : (parts : Parts) (pool : List CutName) (budget : Budget) (path next : Path)
    (old new : RecordDraft)
    (more on : Bool)
    (leaf : LeafKind) (bound : Bound) → IsArrived parts pool budget path old
    → (length old.nodes ≡ 0
    → IsFirstPool parts budget.limits old.best (box_of path.present) pool)
    → (planned_in old path + 2 ≤ budget.nodes → more ≡ true)
    → IsLeafSeen parts pool budget old.best more (box_of path.present) leaf bound
    → IsNoted (Leaf leaf) bound old new → IsNextOr parts path next on
    → IsLeft parts pool budget path old next new on
left_leaf parts pool budget path next old new more true leaf bound arrived begun room seen noted is
    =
    leaf_next parts pool budget path old new arrived begun more room leaf bound seen noted next is
left_leaf parts pool budget path next old new more false leaf bound arrived begun room seen noted is
    =
    leaf_over parts pool budget path old new arrived begun more room leaf bound seen noted is

pub gone_on : (parts : Parts) (pool : List CutName) (budget : Budget) (path : Path)
    (before old new : RecordDraft)
    (top : Box)
    → IsScenario parts → IsAtNext parts pool budget before top path old
    → IsVisited parts (box_of path.present) old new → IsGoneOn parts pool budget before top path new
gone_on parts pool budget path before old new top valid next visited = record {
  searching = visited_on parts pool budget path before old new top valid next visited;
  same = next.same;
  longer =
      ap length (visited_same parts (box_of path.present) old new visited).nodes ∙ next.longer;
}
