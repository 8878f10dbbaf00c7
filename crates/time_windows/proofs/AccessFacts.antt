-- Nodes of flights and indices of a list.
use Rattle.std.proofs.Common.{◌≡◌, ◌⊎◌, ℕ, ◌+◌, ◌*◌, ◌/◌, ◌%◌, ◌<◌, ◌≤◌, List, length, get_or, All, inl, inr, refl, ap, arith}
use Rattle.std.proofs.lemmas.Bool.{cases_lt}
use Rattle.std.proofs.lemmas.List.{get_or_default, get_or_past}
use Rattle.std.specs.List.{Any}
use Rattle.flow_types.specs.Limits.{most_nodes}
use Rattle.time_windows.specs.declared.access.Access.{Access}
use Rattle.time_windows.specs.Boxes.{IsClosedMust, closed, options_of}
use Rattle.time_windows.specs.Held.{access_at}
use Rattle.time_windows.proofs.WindowFacts.{if_lt}

-- what holds of each index and of a closed node holds of each node
pub at_nodes : (P : Access → Type 0) (accesses : List Access) → P closed
    → ((k : ℕ) → k < length accesses → P (get_or accesses k closed))
    → (f n : ℕ) → P (access_at accesses f n)
at_nodes P accesses none each f n =
    if_lt P n most_nodes (get_or accesses (f * most_nodes + n) closed) closed
    (λ _. at_index (cases_lt (f * most_nodes + n) (length accesses))) (λ _. none)
  where
    at_index : (f * most_nodes + n < length accesses) ⊎ (length accesses ≤ f * most_nodes + n)
        → P (get_or accesses (f * most_nodes + n) closed)
    at_index (inl within) = each (f * most_nodes + n) within
    at_index (inr past) = rw (get_or_past accesses (f * most_nodes + n) closed past) none

node_place : (k : ℕ) → (k / 32) * 32 + k % 32 ≡ k
node_place k = omega arith

-- the node of an index
pub node_of_index : (accesses : List Access) (k : ℕ)
    → access_at accesses (k / 32) (k % 32) ≡ get_or accesses k closed
node_of_index accesses k =
    if_lt (λ (a : Access). a ≡ get_or accesses k closed) (k % 32) most_nodes
    (get_or accesses ((k / 32) * 32 + k % 32) closed) closed
    (λ _. ap (λ i. get_or accesses i closed) (node_place k)) (λ past. absurd (omega arith))

pub units_box : (accesses : List Access) → All (λ access. options_of access ≡ 1) accesses
    → (f n : ℕ) → options_of (access_at accesses f n) ≡ 1
units_box accesses each =
    at_nodes (λ access. options_of access ≡ 1) accesses refl (λ k below. each k closed below)

pub box_units : (accesses : List Access)
    → ((f n : ℕ) → options_of (access_at accesses f n) ≡ 1)
    → All (λ access. options_of access ≡ 1) accesses
box_units accesses each k d below =
    rw (get_or_default accesses k d closed below, ← node_of_index accesses k)
    (each (k / 32) (k % 32))

pub closed_box : (accesses : List Access) → Any IsClosedMust accesses
    → (f : ℕ) × (n : ℕ) × IsClosedMust (access_at accesses f n)
closed_box accesses any = (
  any.0 / 32,
  any.0 % 32,
  rw (
    node_of_index accesses any.0,
    get_or_default accesses any.0 closed any.1 any.2,
    any.3,
  ) any.4,
)

not_closed : IsClosedMust closed → ⊥
not_closed shut = absurd (cc (shut.must))

abbrev Found : List Access → Type 0
Found accesses = Any IsClosedMust accesses

pub box_closed : (accesses : List Access) (f n : ℕ) → IsClosedMust (access_at accesses f n)
    → Any IsClosedMust accesses
box_closed accesses =
    at_nodes (λ access. IsClosedMust access → Found accesses) accesses
    (λ shut. absurd (not_closed shut))
    (λ k below shut. (
      k,
      get_or accesses k closed,
      below,
      get_or_default accesses k (get_or accesses k closed) closed below,
      shut,
    ))
