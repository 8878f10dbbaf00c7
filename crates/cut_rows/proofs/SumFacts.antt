-- Sums over nodes in ascending order.
use Rattle.std.proofs.Common.{◌≡◌, ◌⊎◌, ℕ, zero, suc, ◌+◌, ◌<◌, ◌≤◌, ◌==◌, Bool, true, false, nat_le, List, [], ◌∷◌, length, if◌then◌else◌, get_or, inl, inr, refl, ◌∙◌, arith}
use Rattle.std.specs.List.{Contains}
use Rattle.std.proofs.lemmas.Bool.{and_parts, cases_eq, eq-eqb, eqb-true, leb-true}
use Rattle.cut_rows.specs.Cuts.{ascends_from}

-- a number of each node, added up
abbrev pub sum_of : (ℕ → ℕ) → List ℕ → ℕ
sum_of value [] = 0
sum_of value (node ∷ nodes) = value node + sum_of value nodes

-- no more, where it is so of each node
pub sum_le : (v w : ℕ → ℕ) (nodes : List ℕ) → ((node : ℕ) → Contains nodes node → v node ≤ w node)
    → sum_of v nodes ≤ sum_of w nodes
sum_le v w [] each = omega arith
sum_le v w (node ∷ nodes) each =
    omega (
      arith,
      each node (0, omega arith, refl),
      sum_le v w nodes (λ other there. each other (suc there.0, omega (arith, there.1), there.2)),
    )

-- of one node alone
abbrev pub only : ℕ → ℕ → ℕ → ℕ
only here count node = if node == here then count else 0

pub only_here : (here count : ℕ) → only here count here ≡ count
only_here here count = if_yes (here == here) (eq-eqb here here refl)
  where
    if_yes : (b : Bool) → b ≡ true → (if b then count else 0) ≡ count
    if_yes true is = refl
    if_yes false is = absurd cc

pub only_le : (here count node : ℕ) → only here count node ≤ count
only_le here count node = le (node == here)
  where
    le : (b : Bool) → (if b then count else 0) ≤ count
    le true = omega arith
    le false = omega arith

pub only_more : (here count more node : ℕ) → count ≤ more
    → only here count node ≤ only here more node
only_more here count more node le = by (node == here)
  where
    by : (b : Bool) → (if b then count else 0) ≤ (if b then more else 0)
    by true = le
    by false = omega arith

only_other : (here count node : ℕ) → (node ≡ here → ⊥) → only here count node ≡ 0
only_other here count node other = if_no (node == here) (λ is. other (eqb-true node here is))
  where
    if_no : (b : Bool) → (b ≡ true → ⊥) → (if b then count else 0) ≡ 0
    if_no true not_so = absurd (not_so refl)
    if_no false not_so = refl

past_none : (here count low : ℕ) (nodes : List ℕ) → ascends_from low nodes ≡ true → here < low
    → sum_of (only here count) nodes ≡ 0
past_none here count low [] up less = refl
past_none here count low (node ∷ nodes) up less =
    let both = and_parts (nat_le low node) (ascends_from (node + 1) nodes) up in
    let above : low ≤ node = leb-true low node both.0 in
    omega (
      arith,
      only_other here count node (λ same. omega (arith, same, above, less)),
      past_none here count (node + 1) nodes both.1 (omega (arith, above, less)),
    )

-- it is among them once at the most
pub sum_once : (here count low : ℕ) (nodes : List ℕ) → ascends_from low nodes ≡ true
    → sum_of (only here count) nodes ≤ count
sum_once here count low [] up = omega arith
sum_once here count low (node ∷ nodes) up =
    let both = and_parts (nat_le low node) (ascends_from (node + 1) nodes) up in
    elim (cases_eq node here) as (λ _. sum_of (only here count) (node ∷ nodes) ≤ count) [
      | inl same ↦ omega (
        arith,
        only_le here count node,
        past_none here count (node + 1) nodes both.1 (omega (arith, same)),
      )
      | inr other ↦ omega (
        arith,
        only_other here count node other,
        sum_once here count (node + 1) nodes both.1,
      )
    ]

-- a node is one of a list, or differs from each
pub named_or_not : (nodes : List ℕ) (here : ℕ)
    → Contains nodes here ⊎ ((node : ℕ) → Contains nodes node → node ≡ here → ⊥)
named_or_not [] here = inr (λ node there same. omega (arith, there.1))
named_or_not (first ∷ nodes) here =
    elim (cases_eq first here) as (λ _. Contains (first ∷ nodes) here
    ⊎ ((node : ℕ) → Contains (first ∷ nodes) node → node ≡ here → ⊥)) [
      | inl same ↦ inl (0, omega arith, same)
      | inr other ↦ elim (named_or_not nodes here) as (λ _. Contains (first ∷ nodes) here
          ⊎ ((node : ℕ) → Contains (first ∷ nodes) node → node ≡ here → ⊥)) [
            | inl there ↦ inl (suc there.0, omega (arith, there.1), there.2)
            | inr none ↦ inr (λ node there. cases node there.0 there.1 there.2 other none)
          ]
    ]
  where
    cases : (node k : ℕ) → k < length (first ∷ nodes) → get_or (first ∷ nodes) k node ≡ node
        → (first ≡ here → ⊥) → ((n : ℕ) → Contains nodes n → n ≡ here → ⊥) → node ≡ here → ⊥
    cases node zero within is other none same = other (is ∙ same)
    cases node (suc k) within is other none same =
        none node (k, omega (arith, within), is) same
