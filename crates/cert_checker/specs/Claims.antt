-- What it is for a claim to hold.
use Rattle.std.specs.Prelude.{◌≡◌, List, Option, None, Some, ℤ}
use Rattle.flow_types.specs.declared.parts.Parts.{Parts}
use Rattle.flow_types.specs.declared.plan.Stop.{Stop}
use Rattle.flow_types.specs.Costs.{plan_cost}
use Rattle.time_windows.specs.Boxes.{Box}
use Rattle.time_windows.specs.Plans.{IsBoundIn, IsPlanIn}
use Rattle.cert_checker.specs.declared.claim.CertClaim.{CertClaim}

-- the plan keeps every rule, is in the box, and costs what is claimed
abbrev pub IsTruePlan : Parts → Box → Option (List (List Stop)) → Option ℤ → Type 0
IsTruePlan parts root None cost = cost ≡ None
IsTruePlan parts root (Some plan) cost =
    IsPlanIn parts root plan × (cost ≡ Some (plan_cost parts.tables parts.flights plan))

-- no plan in the box that keeps every rule costs less than the bound, and a claimed plan is true
pub record IsTrueClaim (parts : Parts) (root : Box) (claim : CertClaim) : Type 0 where
  pub bound : IsBoundIn parts root claim.bound
  pub plan : IsTruePlan parts root claim.plan claim.cost
