-- What the record of a search of the root box says of its day.
use Rattle.std.proofs.Common.{List, [], ◌∷◌, length, slice_get, ◌≡◌, ℕ, zero, suc, ◌+◌, ◌-◌, ◌*◌, ◌≤◌, ◌⊎◌, inl, inr, Option, None, Some, IfSome, option_map, ℤ, All, refl, sym, ap, ◌∙◌, subst, if◌then◌else◌, arith}
use Rattle.std.proofs.Math.Path.{fun_ext}
use Rattle.std.proofs.lemmas.List.Elements.{All-head, All-tail, All-weaker}
use Rattle.std.proofs.lemmas.Cmp.{int_eq_equiv}
use Rattle.flow_types.specs.declared.bound.Bound.{Bound}
use Rattle.flow_types.specs.declared.bound.Bound.TheVariants.{AtLeast, NoPlan}
use Rattle.flow_types.specs.declared.parts.Parts.{Parts}
use Rattle.flow_types.specs.declared.plan.Stop.{Stop}
use Rattle.flow_types.specs.Bounds.{IsBound, bound_of}
use Rattle.flow_types.specs.Costs.{plan_cost}
use Rattle.flow_types.specs.Feasible.{AreTrips, IsFeasible}
use Rattle.flow_types.specs.Valid.{IsScenario}
use Rattle.time_windows.specs.Boxes.{Box, IsInBox, root_box}
use Rattle.time_windows.specs.Tight.{IsTightened}
use Rattle.time_windows.proofs.BoxFacts.{in_box_same}
use Rattle.time_windows.specs.Plans.{IsBoundIn, IsPlanIn}
use Rattle.tree_search.specs.Budgets.{options_in}
use Rattle.tree_search.specs.Nodes.{cost_of, cutoff_after}
use Rattle.tree_search.specs.Records.{IsClosed, IsSearchRecord, last_cost, last_plan}
use Rattle.tree_search.specs.declared.found.Budget.{Budget}
use Rattle.tree_search.specs.declared.found.Found.{Found}
use Rattle.delay_report.specs.declared.claim.Outcome.TheVariants.{Open, Optimal}
use Rattle.flow_cli.specs.declared.status.Status.TheVariants.{Done, Infeasible, OpenGap}
use Rattle.flow_cli.specs.Outside.{Printed}
use Rattle.flow_cli.specs.Planning.{IsEnough, IsOpen, IsPlannedDay, IsSpent, TellsRecord}
use Rattle.flow_cli.specs.Status.{status_by, status_of}

-- a record on a box that is the root box is one on that
pub record_of_day : (parts : Parts) (box : Box) (budget : Budget) (found : Found)
    → ((f n : ℕ) → box f n ≡ root_box parts f n) → IsSearchRecord parts box budget found
    → IsSearchRecord parts (root_box parts) budget found
record_of_day parts box budget found same is =
    subst (λ (b : Box). IsSearchRecord parts b budget found) (fun_ext (λ f. fun_ext (same f))) is

-- what bounds the plans in the root box bounds all of them
pub bound_of_day : (parts : Parts) (box : Box) (bound : Bound) → IsScenario parts
    → ((parts : Parts) (plan : List (List Stop)) → IsScenario parts
    → AreTrips parts.day.periods parts.flights plan → IsInBox (root_box parts) plan)
    → ((f n : ℕ) → box f n ≡ root_box parts f n) → IsBoundIn parts box bound
    → IsBound parts bound
bound_of_day parts box bound valid rooted same is = of bound is
  where
    kept : (plan : List (List Stop)) → IsFeasible parts plan → IsPlanIn parts box plan
    kept plan feasible = record {
      feasible = feasible;
      inside = in_box_same (root_box parts) box plan same (rooted parts plan valid feasible.trips);
    }

    of : (bound : Bound) → IsBoundIn parts box bound → IsBound parts bound
    of NoPlan is = λ plan feasible. is plan (kept plan feasible)
    of (AtLeast least) is = λ plan feasible. is plan (kept plan feasible)

-- what holds of each item holds of one that is there
holds_at : {A : Type 0} (P : A → Type 0) (xs : List A) (k : ℕ) → All P xs
    → IfSome (slice_get xs k) P
holds_at P [] k all = tt
holds_at P (x ∷ xs) zero all = All-head P x xs all
holds_at P (x ∷ xs) (suc k) all = holds_at P xs k (All-tail P x xs all)

-- the last plan keeps every rule
pub last_is_feasible : (parts : Parts) (box : Box) (budget : Budget) (found : Found)
    → IsSearchRecord parts box budget found → IfSome (last_plan found) (IsFeasible parts)
last_is_feasible parts box budget found is =
    holds_at (IsFeasible parts) found.plans (length found.plans - 1)
    (All-weaker (IsPlanIn parts box) (IsFeasible parts) (λ plan kept. kept.feasible) found.plans
    is.plans)

-- the cutoff after all plans is what the last one costs
cost_is : (parts : Parts) (plan : Option (List (List Stop)))
    → cost_of parts plan ≡ option_map (plan_cost parts.tables parts.flights) plan
cost_is parts None = refl
cost_is parts (Some plan) = refl

cutoff_is : (parts : Parts) (plans : List (List (List Stop)))
    → cutoff_after parts plans (length plans)
    ≡ option_map (plan_cost parts.tables parts.flights) (slice_get plans (length plans - 1))
cutoff_is parts [] = refl
cutoff_is parts (plan ∷ plans) =
    cost_is parts (slice_get (plan ∷ plans) (length plans))
    ∙ ap (λ k. option_map (plan_cost parts.tables parts.flights) (slice_get (plan ∷ plans) k))
    (one_less (length plans))
  where
    one_less : (n : ℕ) → n ≡ suc n - 1
    one_less n = omega arith

-- a plan that costs the bound isn't open, nor is it where there is no plan
shut : (cost : Option ℤ) → status_of cost (bound_of cost) ≡ OpenGap → ⊥
shut None gap = let e : Infeasible ≡ OpenGap = gap in cc
shut (Some cost) gap =
    let e : Done ≡ OpenGap =
    subst (λ b. status_by (if b then Optimal else Open) ≡ OpenGap) (int_eq_equiv.refl cost) gap in
    cc

closed_is_shut : (parts : Parts) (found : Found) → IsClosed parts found → IsOpen parts found → ⊥
closed_is_shut parts found closed gap =
    shut (last_cost parts found)
    (subst (λ bound. status_of (last_cost parts found) bound ≡ OpenGap)
    (closed ∙ ap bound_of (cutoff_is parts found.plans)) gap)

-- what is open spent its budget
pub spent_of_day : (parts : Parts) (box : Box) (budget : Budget) (found : Found)
    → IsSearchRecord parts box budget found → IsOpen parts found → IsSpent budget found
spent_of_day parts box budget found is gap = of is.ended
  where
    of : IsClosed parts found ⊎ IsSpent budget found → IsSpent budget found
    of (inl closed) = absurd (closed_is_shut parts found closed gap)
    of (inr spent) = spent

-- a budget that is enough leaves nothing open
pub closed_of_day : (parts : Parts) (budget : Budget) (found : Found) → IsScenario parts
    → ((parts : Parts) (root tight : Box) (budget : Budget) (found : Found)
    → IsScenario parts → IsTightened parts root tight
    → IsSearchRecord parts root budget found
    → 2 * options_in parts tight ≤ budget.nodes + 1 → IsClosed parts found)
    → IsSearchRecord parts (root_box parts) budget found
    → IsEnough parts budget → IsOpen parts found → ⊥
closed_of_day parts budget found valid closes is enough gap =
    closed_is_shut parts found
    (closes parts (root_box parts) enough.tight budget found valid enough.tight_is is enough.nodes)
    gap

-- the answer that tells a record is one to the day
abbrev pub planned_day : (parts : Parts) (budget : Budget) (found : Found) (answer : Printed)
    → IsSearchRecord parts (root_box parts) budget found
    → IfSome (last_plan found) (IsFeasible parts) → IsBound parts found.bound
    → (IsOpen parts found → IsSpent budget found)
    → (IsEnough parts budget → IsOpen parts found → ⊥)
    → TellsRecord parts found answer → IsPlannedDay parts budget answer
planned_day parts budget found answer searched feasible below spent closed told = record {
  found = found;
  told = told;
  searched = searched;
  feasible = feasible;
  below = below;
  spent = λ open_gap. spent (sym told.ends ∙ open_gap);
  closed = λ enough open_gap. closed enough (sym told.ends ∙ open_gap);
}
