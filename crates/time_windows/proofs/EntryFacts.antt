-- The least entry by legs, and the latest limit of legs.
use Rattle.std.proofs.Common.{◌≡◌, ◌≢◌, ◌⊎◌, ℕ, ◌<◌, ◌≤◌, min, max, List, [], ◌∷◌, length, get_or, set, All, Option, inl, inr, refl, sym, ◌∙◌, arith}
use Rattle.std.proofs.lemmas.Bool.{cases_eq, cases_lt}
use Rattle.std.proofs.lemmas.List.{length-set, get_or-set_same, get_or-set_other}
use Rattle.std.proofs.lemmas.List.Elements.{All-head, All-tail}
use Rattle.std.specs.List.{Any}
use Rattle.flow_types.specs.declared.flight.Leg.{Leg}
use Rattle.time_windows.specs.declared.access.Access.{Access}
use Rattle.time_windows.specs.declared.access.Window.{Window}
use Rattle.time_windows.specs.Steps.{entry_of, latest_limit, limit_of, with_entries}
use Rattle.time_windows.proofs.AnyFacts.{any_cases, any_here, any_none, any_there}

le_cases : (a b : ℕ) → (a ≤ b) ⊎ (b < a)
le_cases a b = elim (cases_lt b a) as (λ _. (a ≤ b) ⊎ (b < a)) [
  | inl past ↦ inr past
  | inr upto ↦ inl upto
]

-- the leg leads to the node, in time for the period, from a window
pub record IsEntryBy (window : Option Window) (node period : ℕ) (leg : Leg) : Type 0 where
  pub to : leg.to ≡ node
  pub in_time : entry_of window leg.least ≤ period

pub entries_length : (window : Option Window) (legs : List Leg) (entries : List ℕ)
    → length (with_entries window legs entries) ≡ length entries
entries_length window [] entries = refl
entries_length window (leg ∷ legs) entries =
    entries_length window legs
    (set entries leg.to (min (get_or entries leg.to 0) (entry_of window leg.least)))
    ∙ length-set entries leg.to (min (get_or entries leg.to 0) (entry_of window leg.least))

-- one entry after one leg
set_at : (entries : List ℕ) (to node entry : ℕ) → to < length entries → to ≡ node
    → get_or (set entries to (min (get_or entries to 0) entry)) node 0
    ≡ min (get_or entries node 0) entry
set_at entries to node entry within same =
    rw (← same) (get_or-set_same entries to (min (get_or entries to 0) entry) 0 within)

set_apart : (entries : List ℕ) (to node entry : ℕ) → to ≢ node
    → get_or (set entries to (min (get_or entries to 0) entry)) node 0 ≡ get_or entries node 0
set_apart entries to node entry apart =
    get_or-set_other entries to node (min (get_or entries to 0) entry) 0 (λ e. apart (sym e))

set_no_later : (entries : List ℕ) (to node entry : ℕ) → to < length entries
    → get_or (set entries to (min (get_or entries to 0) entry)) node 0 ≤ get_or entries node 0
set_no_later entries to node entry within =
    elim (cases_eq to node)
    as (λ _. get_or (set entries to (min (get_or entries to 0) entry)) node 0
    ≤ get_or entries node 0) [
      | inl same ↦ omega (arith, set_at entries to node entry within same)
      | inr apart ↦ omega (arith, set_apart entries to node entry apart)
    ]

abbrev AreWithin : List Leg → List ℕ → Type 0
AreWithin legs entries = All (λ leg. leg.to < length entries) legs

within_tail : (window : Option Window) (leg : Leg) (legs : List Leg) (entries : List ℕ)
    → AreWithin (leg ∷ legs) entries
    → AreWithin legs (set entries leg.to (min (get_or entries leg.to 0)
    (entry_of window leg.least)))
within_tail window leg legs entries within k d below =
    omega (
      arith,
      All-tail (λ l. l.to < length entries) leg legs within k d below,
      length-set entries leg.to (min (get_or entries leg.to 0) (entry_of window leg.least)),
    )

-- entries are no later than before
pub entries_kept : (window : Option Window) (legs : List Leg) (entries : List ℕ)
    (node period : ℕ) → AreWithin legs entries → get_or entries node 0 ≤ period
    → get_or (with_entries window legs entries) node 0 ≤ period
entries_kept window [] entries node period within before = before
entries_kept window (leg ∷ legs) entries node period within before =
    let here : leg.to < length entries =
    All-head (λ l. l.to < length entries) leg legs within in
    let less = set_no_later entries leg.to node (entry_of window leg.least) here in
    entries_kept window legs
    (set entries leg.to (min (get_or entries leg.to 0) (entry_of window leg.least))) node period
    (within_tail window leg legs entries within) (omega (arith, less))

-- and no later than by each leg
pub entries_by : (window : Option Window) (legs : List Leg) (entries : List ℕ)
    (node period : ℕ) → AreWithin legs entries → Any (IsEntryBy window node period) legs
    → get_or (with_entries window legs entries) node 0 ≤ period
entries_by window [] entries node period within any =
    absurd (any_none (IsEntryBy window node period) any)
entries_by window (leg ∷ legs) entries node period within any =
    let next = set entries leg.to (min (get_or entries leg.to 0) (entry_of window leg.least)) in
    let rest = within_tail window leg legs entries within in
    elim (any_cases (IsEntryBy window node period) leg legs any)
    as (λ _. get_or (with_entries window legs next) node 0 ≤ period) [
      | inl here ↦ entries_kept window legs next node period rest
          (omega (
            arith,
            here.in_time,
            set_at entries leg.to node (entry_of window leg.least)
                (All-head (λ l. l.to < length entries) leg legs within) here.to,
          ))
      | inr there ↦ entries_by window legs next node period rest there
    ]

at_leg : (window : Option Window) (leg : Leg) (legs : List Leg) (entries : List ℕ)
    (node period : ℕ) → leg.to < length entries
    → get_or (set entries leg.to (min (get_or entries leg.to 0) (entry_of window leg.least)))
    node 0 ≤ period
    → (leg.to ≡ node) ⊎ (leg.to ≢ node)
    → (entry_of window leg.least ≤ period) ⊎ (period < entry_of window leg.least)
    → (get_or entries node 0 ≤ period) ⊎ Any (IsEntryBy window node period) (leg ∷ legs)
at_leg window leg legs entries node period here early (inr apart) any =
    inl (omega (arith, set_apart entries leg.to node (entry_of window leg.least) apart))
at_leg window leg legs entries node period here early (inl same) (inl by) =
    inr (any_here (IsEntryBy window node period) leg legs (record { to = same; in_time = by }))
at_leg window leg legs entries node period here early (inl same) (inr late) =
    inl (omega (arith, late, set_at entries leg.to node (entry_of window leg.least) here same))

-- an entry was there before, or is by a leg
pub entries_cases : (window : Option Window) (legs : List Leg) (entries : List ℕ)
    (node period : ℕ) → AreWithin legs entries
    → get_or (with_entries window legs entries) node 0 ≤ period
    → (get_or entries node 0 ≤ period) ⊎ Any (IsEntryBy window node period) legs
entries_cases window [] entries node period within early = inl early
entries_cases window (leg ∷ legs) entries node period within early =
    let P : Leg → Type 0 = IsEntryBy window node period in
    let next = set entries leg.to (min (get_or entries leg.to 0) (entry_of window leg.least)) in
    elim (entries_cases window legs next node period
    (within_tail window leg legs entries within) early)
    as (λ _. (get_or entries node 0 ≤ period) ⊎ Any (IsEntryBy window node period) (leg ∷ legs)) [
      | inl before ↦ at_leg window leg legs entries node period
          (All-head (λ l. l.to < length entries) leg legs within) before (cases_eq leg.to node)
          (le_cases (entry_of window leg.least) period)
      | inr there ↦ inr (any_there (IsEntryBy window node period) leg legs there)
    ]

-- the limit of a leg is late enough
abbrev pub IsLimitBy : (ℕ → Access) → ℕ → Leg → Type 0
IsLimitBy row k leg = k ≤ limit_of (row leg.to).window leg.least

pub limit_kept : (row : ℕ → Access) (legs : List Leg) (limit k : ℕ) → k ≤ limit
    → k ≤ latest_limit row legs limit
limit_kept row [] limit k early = early
limit_kept row (leg ∷ legs) limit k early =
    limit_kept row legs (max limit (limit_of (row leg.to).window leg.least)) k (omega arith)

pub limit_by : (row : ℕ → Access) (legs : List Leg) (limit k : ℕ) → Any (IsLimitBy row k) legs
    → k ≤ latest_limit row legs limit
limit_by row [] limit k any = absurd (any_none (IsLimitBy row k) any)
limit_by row (leg ∷ legs) limit k any =
    let next = max limit (limit_of (row leg.to).window leg.least) in
    elim (any_cases (IsLimitBy row k) leg legs any) as (λ _. k ≤ latest_limit row legs next) [
      | inl here ↦ limit_kept row legs next k (omega (arith, here))
      | inr there ↦ limit_by row legs next k there
    ]

max_cases : (a b k : ℕ) → k ≤ max a b → (k ≤ a) ⊎ (k ≤ b)
max_cases a b k h = elim (le_cases k a) as (λ _. (k ≤ a) ⊎ (k ≤ b)) [
  | inl first ↦ inl first
  | inr past ↦ inr (omega arith)
]

pub limit_cases : (row : ℕ → Access) (legs : List Leg) (limit k : ℕ)
    → k ≤ latest_limit row legs limit → (k ≤ limit) ⊎ Any (IsLimitBy row k) legs
limit_cases row [] limit k early = inl early
limit_cases row (leg ∷ legs) limit k early =
    let by = limit_of (row leg.to).window leg.least in
    elim (limit_cases row legs (max limit by) k early)
    as (λ _. (k ≤ limit) ⊎ Any (IsLimitBy row k) (leg ∷ legs)) [
      | inl before ↦ elim (max_cases limit by k before)
          as (λ _. (k ≤ limit) ⊎ Any (IsLimitBy row k) (leg ∷ legs)) [
            | inl old ↦ inl old
            | inr here ↦ inr (any_here (IsLimitBy row k) leg legs here)
          ]
      | inr there ↦ inr (any_there (IsLimitBy row k) leg legs there)
    ]
