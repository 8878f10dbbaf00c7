-- Certificates that are accepted, whoever made them, and what they claim.
use Rattle.std.specs.Prelude.{◌≡◌, true, All, AllPairs, List, length, Option, None, Some, ℤ}
use Rattle.flow_types.specs.declared.parts.Parts.{Parts}
use Rattle.flow_types.specs.declared.plan.Stop.{Stop}
use Rattle.flow_types.specs.Costs.{plan_cost}
use Rattle.time_windows.specs.Boxes.{Box}
use Rattle.time_windows.specs.Plans.{IsPlanIn}
use Rattle.time_windows.specs.Tight.{IsTightened}
use Rattle.branch_tree.specs.Lawful.{IsTreeBound}
use Rattle.cut_rows.specs.Cuts.{is_cut}
use Rattle.cut_rows.specs.Order.{IsBefore}
use Rattle.dual_leaf.specs.Trees.{IsLeafBoundAt}
use Rattle.certificate.specs.Texts.{Certified}
use Rattle.cert_checker.specs.declared.claim.CertClaim.{CertClaim}
use Rattle.cert_checker.specs.Checks.{IfThere}

-- Cuts of the scenario, in order; a lawful tree on the tight first box, whose leaves may name them,
-- with the tree's bound; and no plan or one in the first box that keeps every rule.
pub record IsLawfulCertificate (parts : Parts) (root : Box) (cert : Certified) : Type 0 where
  pub tight : Box
  pub tight_is : IsTightened parts root tight
  pub cuts : All (λ cut. is_cut parts cut ≡ true) cert.pool
  pub order : AllPairs IsBefore cert.pool
  pub tree : IsTreeBound parts (IsLeafBoundAt parts cert.pool) tight cert.tree cert.bound
  pub plan : IfThere (IsPlanIn parts root) cert.plan

abbrev pub cost_of : Parts → Option (List (List Stop)) → Option ℤ
cost_of parts None = None
cost_of parts (Some plan) = Some (plan_cost parts.tables parts.flights plan)

-- what it claims: its plan and what that costs, its bound, and how many nodes its tree has
abbrev pub claim_of : Parts → Certified → CertClaim
claim_of parts cert = record {
  plan = cert.plan;
  cost = cost_of parts cert.plan;
  bound = cert.bound;
  nodes = length cert.tree;
}
