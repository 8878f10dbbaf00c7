-- Where each bound reaches its own cutoff, the least of them reaches the last cutoff.
use Rattle.std.proofs.Common.{◌≡◌, ◌⊎◌, ℕ, zero, suc, ◌<◌, ◌≤◌, Bool, true, false, not, int_lt, List, [], ◌∷◌, length, get_or, slice_get, All, Option, None, Some, ℤ, ◌≤ℤ◌, inl, inr, refl, ap, arith}
use Rattle.std.proofs.lemmas.Bool.{cases_eq, false≢true}
use Rattle.std.proofs.lemmas.Int.{ints}
use Rattle.std.proofs.lemmas.Option.{get_or_from_slice_get}
use Rattle.std.specs.Int.{int_min}
use Rattle.std.specs.List.{AllPairs}
use Rattle.exact_sums.proofs.ItemFacts.{All-item, item_there}
use Rattle.exact_sums.proofs.LeastFacts.{least_of_two}
use Rattle.flow_types.specs.declared.bound.Bound.{Bound}
use Rattle.flow_types.specs.declared.bound.Bound.TheVariants.{AtLeast, NoPlan}
use Rattle.flow_types.specs.declared.parts.Parts.{Parts}
use Rattle.flow_types.specs.declared.plan.Stop.{Stop}
use Rattle.flow_types.specs.Costs.{plan_cost}
use Rattle.row_arena.proofs.WholeLaws.{less_isnt}
use Rattle.flow_types.specs.Bounds.{is_reached, least_of, lesser, bound_of}
use Rattle.time_windows.specs.Boxes.{Box}
use Rattle.time_windows.specs.Plans.{IsBoundIn, IsPlanIn}
use Rattle.branch_tree.proofs.LawfulFacts.{Allows, bound_allows}
use Rattle.tree_search.specs.Nodes.{cost_of, cutoff_after}
use Rattle.tree_search.specs.Records.{IsCheaper}

-- there is no plan, or none that costs less than the cutoff
abbrev pub Reaches : Option ℤ → Bound → Type 0
Reaches cutoff NoPlan = Unit {0}
Reaches None (AtLeast least) = ⊥
Reaches (Some cutoff) (AtLeast least) = cutoff ≤ℤ least

pub reaches_from : (cutoff : Option ℤ) (bound : Bound) → is_reached cutoff bound ≡ true
    → Reaches cutoff bound
reaches_from cutoff NoPlan is = tt
reaches_from None (AtLeast least) is = absurd (false≢true is)
reaches_from (Some cutoff) (AtLeast least) is = less_isnt least cutoff (by (int_lt least cutoff) is)
  where
    by : (b : Bool) → not b ≡ true → b ≡ false
    by false is = refl
    by true is = absurd (false≢true is)

reaches_lesser : (cutoff : Option ℤ) (a b : Bound) → Reaches cutoff a → Reaches cutoff b
    → Reaches cutoff (lesser a b)
reaches_lesser cutoff NoPlan b first second = second
reaches_lesser cutoff (AtLeast a) NoPlan first second = first
reaches_lesser None (AtLeast a) (AtLeast b) first second = absurd first
reaches_lesser (Some cutoff) (AtLeast a) (AtLeast b) first second =
    by (least_of_two a b).2
  where
    by : (int_min a b ≡ a) ⊎ (int_min a b ≡ b) → cutoff ≤ℤ int_min a b
    by (inl is) = omega (arith, ints, is, first)
    by (inr is) = omega (arith, ints, is, second)

pub reaches_least : (cutoff : Option ℤ) (bounds : List Bound)
    → ((k : ℕ) → k < length bounds → Reaches cutoff (get_or bounds k NoPlan))
    → Reaches cutoff (least_of bounds)
reaches_least cutoff [] each = tt
reaches_least cutoff (bound ∷ bounds) each =
    reaches_lesser cutoff bound (least_of bounds) (each 0 (omega arith))
    (reaches_least cutoff bounds (λ k below. each (suc k) (omega (arith, below))))

-- where there was a cutoff, the later one is no higher
abbrev pub IsLowered : Option ℤ → Option ℤ → Type 0
IsLowered None later = Unit {0}
IsLowered (Some before) None = ⊥
IsLowered (Some before) (Some later) = later ≤ℤ before

pub reaches_later : (before later : Option ℤ) (bound : Bound) → IsLowered before later
    → Reaches before bound → Reaches later bound
reaches_later before later NoPlan lowered reached = tt
reaches_later None later (AtLeast least) lowered reached = absurd reached
reaches_later (Some before) None (AtLeast least) lowered reached = absurd lowered
reaches_later (Some before) (Some later) (AtLeast least) lowered reached =
    omega (arith, ints, lowered, reached)

module _ (parts : Parts) where
  abbrev cost : List (List Stop) → ℤ
  cost plan = plan_cost parts.tables parts.flights plan

  cheaper_then : (plans : List (List (List Stop))) → AllPairs (IsCheaper parts) plans → (j m : ℕ)
      → (a b : List (List Stop)) → slice_get plans j ≡ Some a → slice_get plans m ≡ Some b
      → j ≤ m → m < length plans → cost b ≤ℤ cost a
  cheaper_then plans cheaper j m a b a_is b_is early below = elim (cases_eq j m)
      as (λ _. cost b ≤ℤ cost a) [
        | inl same ↦
            let there = ap (slice_get plans) same in
            let one : a ≡ b = cc (there, a_is, b_is) in
            let costs = ap cost one in
            omega (arith, ints, costs)
        | inr apart ↦
            let less = cheaper j m a (omega (arith, early, apart)) below in
            let one = ap cost (get_or_from_slice_get plans j a a a_is) in
            let two = ap cost (get_or_from_slice_get plans m b a b_is) in
            omega (arith, ints, less, one, two)
      ]

  lowered_to : (plans : List (List (List Stop))) → AllPairs (IsCheaper parts) plans → (j m : ℕ)
      → j ≤ m → m < length plans
      → IsLowered (cost_of parts (slice_get plans j)) (cost_of parts (slice_get plans m))
  lowered_to plans cheaper j m early below =
      let a = item_there plans j (omega (arith, early, below)) in
      let b = item_there plans m below in
      rw (a.1, b.1) (cheaper_then plans cheaper j m a.0 b.0 a.1 b.1 early below)

  -- what the last plan costs is no more than what an earlier one does
  pub last_lowered : (plans : List (List (List Stop))) → AllPairs (IsCheaper parts) plans
      → (count : ℕ) → count ≤ length plans
      → IsLowered (cutoff_after parts plans count) (cutoff_after parts plans (length plans))
  last_lowered plans cheaper zero within = tt
  last_lowered [] cheaper (suc j) within = absurd (omega (arith, within))
  last_lowered (plan ∷ plans) cheaper (suc j) within =
      lowered_to (plan ∷ plans) cheaper j (length plans) (omega (arith, within)) (omega arith)

  -- what is allowed by a bound on the root: the last plan is in it
  abbrev pub AllowsLast : Bound → Option ℤ → Type 0
  AllowsLast bound None = Unit {0}
  AllowsLast bound (Some cutoff) = Allows cutoff bound

  pub last_allowed : (root : Box) (plans : List (List (List Stop))) (bound : Bound)
      → All (IsPlanIn parts root) plans → IsBoundIn parts root bound
      → AllowsLast bound (cutoff_after parts plans (length plans))
  last_allowed root [] bound inside is = tt
  last_allowed root (plan ∷ plans) bound inside is =
      let last = item_there (plan ∷ plans) (length plans) (omega arith) in
      let here =
      All-item (IsPlanIn parts root) (plan ∷ plans) (length plans) last.0 inside last.1 in
      rw last.1 (bound_allows parts root bound last.0 is here)

  -- a bound that reaches a cutoff and allows it is it
  pub bound_closed : (cutoff : Option ℤ) (bound : Bound) → Reaches cutoff bound
      → AllowsLast bound cutoff → bound ≡ bound_of cutoff
  bound_closed None NoPlan reached allowed = refl
  bound_closed None (AtLeast least) reached allowed = absurd reached
  bound_closed (Some cutoff) NoPlan reached allowed = absurd allowed
  bound_closed (Some cutoff) (AtLeast least) reached allowed =
      let same : least ≡ cutoff = omega (arith, ints, reached, allowed) in
      ap (λ z. AtLeast z) same
