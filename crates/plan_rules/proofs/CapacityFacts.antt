-- One capacity, read from a load and a place.
use Rattle.std.proofs.Common.{◌≡◌, ℕ, ◌<◌, true, false, nat_le, slice_get, Some, None, arith}
use Rattle.std.proofs.lemmas.Bool.Decides.{nat_tests}
use Rattle.flow_types.specs.declared.parts.Parts.{Parts}
use Rattle.flow_types.specs.declared.place.CapKind.{CapKind}
use Rattle.flow_types.specs.Capacities.{capacity_of, has_kind}
use Rattle.plan_rules.specs.FirstBroken.{broken_capacity, first_below, first_over_in, over}
use Rattle.plan_rules.specs.declared.broken.Broken.{Broken}
use Rattle.plan_rules.proofs.FirstFacts.{unless_false, unless_true}

-- more than the capacity, or no more
pub capacity_over : (parts : Parts) (kind : CapKind) (load : ℕ → ℕ
    → ℕ) (place t n c : ℕ) (rule : Broken) → n ≡ load place t
    → c ≡ capacity_of parts.places kind place t → c < n
    → rule ≡ over kind place t n c → broken_capacity parts kind load place t ≡ Some rule
capacity_over parts kind load place t n c rule load_is capacity_is more rule_is =
    rw (rule_is, load_is, capacity_is)
    (unless_false (nat_le (load place t) (capacity_of parts.places kind place t))
    (over kind place t (load place t) (capacity_of parts.places kind place t))
    (grind (arith, nat_tests)))

pub capacity_kept : (parts : Parts) (kind : CapKind) (load : ℕ → ℕ → ℕ) (place t n c : ℕ)
    → n ≡ load place t → c ≡ capacity_of parts.places kind place t → (c < n → ⊥)
    → broken_capacity parts kind load place t ≡ None
capacity_kept parts kind load place t n c load_is capacity_is fits =
    unless_true (nat_le (load place t) (capacity_of parts.places kind place t))
    (over kind place t (load place t) (capacity_of parts.places kind place t))
    (grind (arith, nat_tests))

-- a place without capacities of the kind, and one with them
pub place_without : (parts : Parts) (kind : CapKind) (load : ℕ → ℕ → ℕ) (place : ℕ)
    → has_kind kind (slice_get parts.places place) ≡ false
    → first_over_in parts kind load place ≡ None
place_without parts kind load place without = rw without

pub place_with : (parts : Parts) (kind : CapKind) (load : ℕ → ℕ → ℕ) (place : ℕ)
    → has_kind kind (slice_get parts.places place) ≡ true
    → first_over_in parts kind load place
    ≡ first_below parts.day.periods (broken_capacity parts kind load place)
place_with parts kind load place has = rw has
