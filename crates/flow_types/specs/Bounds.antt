-- What a bound says, and how bounds compare.
use Rattle.std.specs.Prelude.{ℕ, ◌<◌, ◌^◌, Bool, false, true, not, int_lt, List, [], ◌∷◌, Option, None, Some, ℤ, ◌≤ℤ◌, unsigned_abs}
use Rattle.std.specs.Int.{int_min}
use Rattle.flow_types.specs.declared.bound.Bound.{Bound}
use Rattle.flow_types.specs.declared.bound.Bound.TheVariants.{AtLeast, NoPlan}
use Rattle.flow_types.specs.declared.parts.Parts.{Parts}
use Rattle.flow_types.specs.declared.plan.Stop.{Stop}
use Rattle.flow_types.specs.Costs.{plan_cost}
use Rattle.flow_types.specs.Feasible.{IsFeasible}

-- A lower bound over a set of plans: none of them costs less. There is none where it is NoPlan.
abbrev pub IsLowerBound : Parts → (List (List Stop) → Type 0) → Bound → Type 0
IsLowerBound parts IsOfSet NoPlan = (plan : List (List Stop)) → IsOfSet plan → ⊥
IsLowerBound parts IsOfSet (AtLeast least) =
    (plan : List (List Stop)) → IsOfSet plan
    → least ≤ℤ plan_cost parts.tables parts.flights plan

-- over all feasible plans
abbrev pub IsBound : Parts → Bound → Type 0
IsBound parts bound = IsLowerBound parts (IsFeasible parts) bound

-- of a least cost, and NoPlan where there is none
abbrev pub bound_of : Option ℤ → Bound
bound_of None = NoPlan
bound_of (Some least) = AtLeast least

-- the first is no more than the second; NoPlan is above every number
abbrev pub IsAtMost : Bound → Bound → Type 0
IsAtMost first NoPlan = Unit {0}
IsAtMost NoPlan (AtLeast second) = ⊥
IsAtMost (AtLeast first) (AtLeast second) = first ≤ℤ second

-- nothing is left to be gained: there is no plan, or none that costs less than the cutoff
abbrev pub is_reached : Option ℤ → Bound → Bool
is_reached cutoff NoPlan = true
is_reached None (AtLeast least) = false
is_reached (Some cutoff) (AtLeast least) = not (int_lt least cutoff)

-- the lesser of two, and the least of a list
abbrev pub lesser : Bound → Bound → Bound
lesser NoPlan second = second
lesser (AtLeast first) NoPlan = AtLeast first
lesser (AtLeast first) (AtLeast second) = AtLeast (int_min first second)

abbrev pub least_of : List Bound → Bound
least_of [] = NoPlan
least_of (bound ∷ bounds) = lesser bound (least_of bounds)

-- nearer to 0 than this
abbrev pub IsNearer : ℕ → Bound → Type 0
IsNearer limit NoPlan = Unit {0}
IsNearer limit (AtLeast least) = unsigned_abs least < limit

-- not too far from 0
abbrev pub IsNearBound : Bound → Type 0
IsNearBound bound = IsNearer (2 ^ 115) bound
