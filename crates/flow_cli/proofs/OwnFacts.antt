-- The certificate of a search's record is accepted, and nothing else is said of its text.
use Rattle.std.proofs.Common.{◌≡◌, ℕ, ◌+◌, ◌-◌, ◌*◌, ◌^◌, ◌<◌, ◌≤◌, true, List, [], ◌∷◌, ◌++◌, length, Option, None, Some, Ok, refl, arith, length-append}
use Rattle.std.specs.Prelude.{codes}
use Rattle.std.specs.Fmt.{decimal}
use Rattle.std.proofs.Math.Nat.{mul-le-mul_left, mul-le-mul_right}
use Rattle.hex.specs.Hex.{encode_lower, lower_digits}
use Rattle.hex.proofs.HexLemmas.{length-encode_with}
use Rattle.sha2.specs.Sha256.{sha256}
use Rattle.sha2.proofs.Facts256.{length-sha256}
use Rattle.exact_sums.proofs.ItemFacts.{All-item}
use Rattle.flow_types.specs.declared.bound.Bound.{Bound}
use Rattle.flow_types.specs.declared.bound.Bound.TheVariants.{AtLeast, NoPlan}
use Rattle.flow_types.specs.declared.parts.Parts.{Parts}
use Rattle.flow_types.specs.declared.plan.Stop.{Stop}
use Rattle.flow_types.specs.Bounds.{IsNearBound}
use Rattle.flow_types.specs.Valid.{IsScenario}
use Rattle.time_windows.specs.Boxes.{Box, IsBoxOf}
use Rattle.time_windows.specs.Plans.{IsPlanIn}
use Rattle.branch_tree.specs.declared.tree.TreeNode.{TreeNode}
use Rattle.branch_tree.specs.Trees.{is_tree}
use Rattle.branch_tree.proofs.LawfulFacts.{lawful_tree}
use Rattle.bytime_model.specs.AllRows.{rows_of}
use Rattle.certificate.specs.Limits.{most_bound, most_tree_nodes}
use Rattle.certificate.specs.Lines.{bound_number, whole_word}
use Rattle.certificate.specs.Ranges.{IsWithinEither}
use Rattle.certificate.specs.Texts.{Certified, bound_text, cert_text, count_text, head_text, plan_text, pool_text, tree_text}
use Rattle.certificate.specs.Writable.{IfPlanWritable, IsWritable}
use Rattle.cert_checker.specs.Accepted.{IsLawfulCertificate, claim_of}
use Rattle.cert_checker.specs.Checks.{IfThere}
use Rattle.cert_checker.specs.Verdicts.{IsVerdict, Verdict}
use Rattle.cert_checker.proofs.AcceptFacts.{accepted}
use Rattle.cert_checker.proofs.OneVerdict.{one_verdict}
use Rattle.tree_search.specs.declared.found.Budget.{Budget}
use Rattle.tree_search.specs.declared.found.Found.{Found}
use Rattle.tree_search.specs.Nodes.{IsNodeOf}
use Rattle.tree_search.specs.Records.{IsSearchRecord, last_plan}
use Rattle.tree_search.proofs.SoundFacts.{record_tree}
use Rattle.flow_cli.specs.Own.{certified, most_bytes_of}
use Rattle.flow_cli.proofs.OwnCuts.{short_cuts}
use Rattle.flow_cli.proofs.OwnDigest.{is_digest}
use Rattle.flow_cli.proofs.OwnNodes.{AreFitNodes, node_bytes, nodes_fit}
use Rattle.flow_cli.proofs.OwnPlan.{plan_size, plan_writable}
use Rattle.flow_cli.proofs.OwnSizes.{digits_to, field_size, line_size, whole_to}

-- a tree has a node
tree_some : (nodes : List TreeNode) → is_tree nodes ≡ true → 1 ≤ length nodes
tree_some [] is = absurd (let e : ⊥ = cc is in e)
tree_some (node ∷ nodes) is = omega arith

near_within : (bound : Bound) → IsNearBound bound → IsWithinEither most_bound (bound_number bound)
near_within NoPlan near = tt
near_within (AtLeast least) near = omega (arith, near)

-- the lines of a certificate beside its tree and its plan
head_size : (digest : List ℕ) → length digest ≡ 32 → length (head_text digest) ≤ 72
head_size digest size =
    let digits = length-encode_with lower_digits digest in
    let second = field_size (encode_lower digest) [] in
    let first = field_size (codes "1") (encode_lower digest ∷ []) in
    let line = line_size (codes "cert") (codes "1" ∷ encode_lower digest ∷ []) in
    omega (arith, size, digits, second, first, line)

bound_size : (bound : Bound) → IsWithinEither most_bound (bound_number bound)
    → length (bound_text bound) ≤ 46
bound_size bound within =
    let digits = whole_to 38 most_bound (bound_number bound) (omega arith) (omega arith)
    (omega arith) within in
    let field = field_size (whole_word (bound_number bound)) [] in
    let line = line_size (codes "bound") (whole_word (bound_number bound) ∷ []) in
    omega (arith, digits, field, line)

count_size : (nodes : ℕ) → nodes ≤ most_tree_nodes → length (count_text nodes) ≤ 15
count_size nodes few =
    let digits = digits_to 10 nodes (omega arith) (omega arith) (omega (arith, few)) in
    let field = field_size (decimal nodes) [] in
    let line = line_size (codes "end") (decimal nodes ∷ []) in
    omega (arith, digits, field, line)

module _ (parts : Parts) (root : Box) (budget : Budget) (found : Found) (day : List ℕ)
    (valid : IsScenario parts) (inside : IsBoxOf parts root) (few : budget.nodes < 2 ^ 32)
    (searched : IsSearchRecord parts root budget found) where
  abbrev own : Certified
  own = certified (sha256 day) found

  is_one_tree : is_tree found.tree ≡ true
  is_one_tree =
      lawful_tree parts (IsNodeOf parts found.pool budget found.plans found.counts) searched.tight
      found.tree
      found.bounds searched.tree

  last_in : (plan : List (List Stop)) → last_plan found ≡ Some plan → IsPlanIn parts root plan
  last_in plan is =
      All-item (IsPlanIn parts root) found.plans (length found.plans - 1) plan searched.plans is

  own_nodes : AreFitNodes parts found.tree
  own_nodes =
      nodes_fit parts valid found.pool searched.pool.few root budget found.plans found.counts
      searched.plans found.bounds found.tree 0 (searched.tight ∷ []) [] searched.tree.nodes_are

  pub own_writable : IsWritable parts own
  own_writable =
      let some = tree_some found.tree is_one_tree in
      let nodes = searched.nodes in
      record {
        digest = is_digest day;
        pool = (short_cuts parts valid found.pool searched.pool.cuts.cuts
            searched.pool.order).writable;
        nodes = own_nodes.writable;
        tree = is_one_tree;
        plan = by (last_plan found) refl;
        bound = near_within found.bound searched.near;
        count = record { from = some; to = omega (arith, nodes, few) };
      }
    where
      by : (plan : Option (List (List Stop))) → last_plan found ≡ plan
          → IfPlanWritable parts plan
      by None is = tt
      by (Some plan) is = plan_writable parts valid plan (last_in plan is).feasible

  -- its text has no more bytes than the budget lets it have
  pub own_short : length (cert_text parts own) ≤ most_bytes_of parts budget.nodes
  own_short =
      let head = head_size (sha256 day) (length-sha256 day) in
      let cuts = (short_cuts parts valid found.pool searched.pool.cuts.cuts
      searched.pool.order).short in
      let pool_few = searched.pool.few in
      let nodes = own_nodes.short in
      let plan = plan_size parts valid own.plan own_writable.plan in
      let bound = bound_size found.bound (near_within found.bound searched.near) in
      let count = count_size (length found.tree) own_writable.count.to in
      let first = length-append (head_text own.digest) (pool_text own.pool ++ (tree_text own.tree
      ++ (plan_text parts own.plan ++ (bound_text own.bound ++ count_text (length own.tree))))) in
      let pool = length-append (pool_text own.pool) (tree_text own.tree
      ++ (plan_text parts own.plan ++ (bound_text own.bound ++ count_text (length own.tree)))) in
      let second = length-append (tree_text own.tree) (plan_text parts own.plan
      ++ (bound_text own.bound ++ count_text (length own.tree))) in
      let third = length-append (plan_text parts own.plan)
      (bound_text own.bound ++ count_text (length own.tree)) in
      let fourth = length-append (bound_text own.bound) (count_text (length own.tree)) in
      let each : length found.tree * node_bytes parts
      ≤ length found.tree * (48 * (length (rows_of parts) + 10001)) =
      mul-le-mul_left (length found.tree) (omega arith) in
      let all : length found.tree * (48 * (length (rows_of parts) + 10001))
      ≤ budget.nodes * (48 * (length (rows_of parts) + 10001)) =
      mul-le-mul_right (48 * (length (rows_of parts) + 10001)) searched.nodes in
      omega (
        arith,
        head,
        cuts,
        pool_few,
        nodes,
        plan,
        bound,
        count,
        first,
        pool,
        second,
        third,
        fourth,
        each,
        all,
      )

  own_lawful : IsLawfulCertificate parts root own
  own_lawful = record {
    tight = searched.tight;
    tight_is = searched.tight_is;
    cuts = searched.pool.cuts.cuts;
    order = searched.pool.order;
    tree = record_tree parts root budget found searched;
    plan = by (last_plan found) refl;
  }
    where
      by : (plan : Option (List (List Stop))) → last_plan found ≡ plan
          → IfThere (IsPlanIn parts root) plan
      by None is = tt
      by (Some plan) is = last_in plan is

  pub own_accepted : IsVerdict parts root (sha256 day) (cert_text parts own)
      (Ok (claim_of parts own))
  own_accepted = accepted parts valid root inside own own_writable own_lawful

  pub own_alone : (verdict : Verdict)
      → IsVerdict parts root (sha256 day) (cert_text parts own) verdict
      → verdict ≡ Ok (claim_of parts own)
  own_alone verdict is =
      one_verdict parts valid root (sha256 day) (cert_text parts own) verdict
      (Ok (claim_of parts own)) is own_accepted
