-- A bound that reaches what a plan in the box costs is no less than what any round tells there:
-- prices tell no more than a plan costs (weak duality).
use Rattle.std.proofs.Common.{◌≡◌, ℕ, ◌≤◌, Bool, true, false, not, List, IfSome, Option, None, Some, ℤ, ◌≤ℤ◌, refl, sym, subst, arith}
use Rattle.std.proofs.lemmas.Bool.{false≢true}
use Rattle.std.proofs.lemmas.Int.{ints}
use Rattle.std.specs.Prelude.{int_lt}
use Rattle.flow_types.specs.declared.bound.Bound.{Bound}
use Rattle.flow_types.specs.declared.bound.Bound.TheVariants.{AtLeast, NoPlan}
use Rattle.flow_types.specs.declared.parts.Parts.{Parts}
use Rattle.flow_types.specs.declared.plan.Stop.{Stop}
use Rattle.flow_types.specs.Bounds.{IsAtMost, is_reached}
use Rattle.flow_types.specs.Costs.{plan_cost}
use Rattle.flow_types.specs.Valid.{IsScenario}
use Rattle.time_windows.specs.Boxes.{Box, IsBoxOf}
use Rattle.time_windows.specs.Plans.{IsBoundIn, IsPlanIn}
use Rattle.priced_plans.proofs.ValueFacts.{bound-below}
use Rattle.flight_routes.specs.Prices.{PriceTable}
use Rattle.lagrange_bound.specs.Best.{HasPlanAt, IsMostOfRounds}
use Rattle.lagrange_bound.specs.Rounds.{cost_weight}
use Rattle.lagrange_bound.specs.Work.{IsBest}
use Rattle.lagrange_bound.proofs.ExistFacts.{rounds_there}

reached_from : (least cost : ℤ) → not (int_lt least cost) ≡ true → cost ≤ℤ least
reached_from least cost is = by (int_lt least cost) refl is where
  by : (b : Bool) → int_lt least cost ≡ b → not b ≡ true → cost ≤ℤ least
  by true less never = absurd (false≢true never)
  by false more is = omega (arith, ints, more)

module _ (parts : Parts) (box : Box) (plan : List (List Stop)) (inside : IsPlanIn parts box plan)
  where
    bound_under : (told bound : Bound) → IsBoundIn parts box told
        → is_reached (Some (plan_cost parts.tables parts.flights plan)) bound ≡ true
        → IsAtMost told bound
    bound_under told NoPlan is reached = tt
    bound_under NoPlan (AtLeast least) is reached = absurd (is plan inside)
    bound_under (AtLeast told) (AtLeast least) is reached =
        let low = is plan inside in
        let high = reached_from least (plan_cost parts.tables parts.flights plan) reached in
        omega (arith, ints, low, high)

    pub most_reached : IsScenario parts → IsBoxOf parts box → (bound : Bound) → (rounds : ℕ)
        → is_reached (Some (plan_cost parts.tables parts.flights plan)) bound ≡ true
        → IsMostOfRounds parts box rounds bound
    most_reached valid of bound rounds reached = record {
      told = rounds_there parts valid box of rounds;
      no_more = λ round told within at.
          bound_under told bound (bound-below parts box cost_weight at.0 told valid at.2) reached;
    }

-- so a bound that reaches what a plan is known to cost, if one is, or NoPlan
pub enough_most : (parts : Parts) (box : Box) → IsScenario parts → IsBoxOf parts box
    → (enough : Option ℤ) → IfSome enough (HasPlanAt parts box) → (bound : Bound) (rounds : ℕ)
    → is_reached enough bound ≡ true → IsMostOfRounds parts box rounds bound
enough_most parts box valid of None known NoPlan rounds reached = record {
  told = rounds_there parts valid box of rounds;
  no_more = λ round told within at. tt;
}
enough_most parts box valid of None known (AtLeast least) rounds reached =
    absurd (false≢true reached)
enough_most parts box valid of (Some cost) known bound rounds reached =
    most_reached parts box known.plan known.inside valid of bound rounds
    (subst (λ c. is_reached (Some c) bound ≡ true) (sym known.costs) reached)

-- and what is kept then is the best of all
pub best_reached : (parts : Parts) (box : Box) → IsScenario parts → IsBoxOf parts box
    → (enough : Option ℤ) → IfSome enough (HasPlanAt parts box) → (played rounds : ℕ)
    → played ≤ rounds → (best : PriceTable) (bound : Bound) → is_reached enough bound ≡ true
    → IsBest parts box played best bound → IsBest parts box rounds best bound
best_reached parts box valid of enough known played rounds few best bound reached is = record {
  size = is.size;
  one = record {
    round = is.one.round;
    within = let within = is.one.within in omega (arith, within, few);
    after = is.one.after;
  };
  told = is.told;
  most = enough_most parts box valid of enough known bound rounds reached;
}
