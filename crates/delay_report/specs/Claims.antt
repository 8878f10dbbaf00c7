-- What a claim says of its plan.
use Rattle.std.specs.Prelude.{ℕ, List, Option, None, Some, ℤ, if◌then◌else◌}
use Rattle.std.specs.Ordering.{int_eq}
use Rattle.flow_types.specs.declared.bound.Bound.{Bound}
use Rattle.flow_types.specs.declared.bound.Bound.TheVariants.{AtLeast, NoPlan}
use Rattle.flow_types.specs.declared.plan.Stop.{Stop}
use Rattle.delay_report.specs.declared.claim.Outcome.{Outcome}
use Rattle.delay_report.specs.declared.claim.Outcome.TheVariants.{Infeasible, Open, Optimal}

-- a plan, if there is one, and what it costs; a bound, and how many nodes its tree has
pub record Claimed : Type 0 where
  pub plan : Option (List (List Stop))
  pub cost : Option ℤ
  pub bound : Bound
  pub nodes : ℕ

-- optimal where the plan costs the bound, infeasible where the bound is that no plan exists, else
-- open
abbrev pub outcome_of : Option ℤ → Bound → Outcome
outcome_of cost NoPlan = Infeasible
outcome_of None (AtLeast least) = Open
outcome_of (Some cost) (AtLeast least) = if int_eq cost least then Optimal else Open
