-- What holds of each row of a day with a pool: of those of the day, and of those of cuts.
use Rattle.std.proofs.Common.{◌≡◌, ◌∙◌, ℕ, ◌-◌, ◌≤◌, Bool, true, false, nat_le, nat_lt, List, [], ◌∷◌, length, map, Option, None, Some, slice_get, All, if◌then◌else◌, unsigned_abs, inl, refl, arith}
use Rattle.std.specs.List.{range_with_len}
use Rattle.std.proofs.lemmas.Bool.{and_parts}
use Rattle.std.proofs.lemmas.List.{length-append, length-map}
use Rattle.std.proofs.lemmas.List.Elements.{All-append, All-cons, All-nil}
use Rattle.std.proofs.lemmas.List.FromFn.{length-range_with_len}
use Rattle.flow_types.specs.declared.flight.Flight.{Flight}
use Rattle.flow_types.specs.declared.parts.Parts.{Parts}
use Rattle.flow_types.specs.declared.plan.Stop.{Stop}
use Rattle.flow_types.specs.Feasible.{IsFeasible}
use Rattle.flow_types.specs.Limits.{most_capacity}
use Rattle.flow_types.specs.Valid.{IsScenario}
use Rattle.bytime_model.specs.declared.names.RowName.{RowName}
use Rattle.bytime_model.specs.declared.names.RowName.TheVariants.{Arr, Connect, Cut, Dep, Enter, Leave, Mono, Occupy, Sector, Top}
use Rattle.bytime_model.specs.declared.variables.Term.{Term}
use Rattle.bytime_model.specs.declared.variables.Var.TheVariants.{By}
use Rattle.bytime_model.specs.Columns.{IsThere}
use Rattle.bytime_model.specs.Rows.{AtMost, RowHolds, by_before, is_row, minus_one, most_terms, one, row_of, term_of}
use Rattle.bytime_model.specs.Values.{value_at}
use Rattle.bytime_model.proofs.RowLaws.{row_few, row_kept, row_limit_small, row_there, row_units}
use Rattle.bytime_model.proofs.SmallFacts.{IsUnit, all_if, minus, with_one}
use Rattle.route_distances.specs.Walks.{legs_of, shortest_of}
use Rattle.cut_rows.specs.declared.names.CutName.{CutName}
use Rattle.cut_rows.specs.declared.names.CutName.TheVariants.{Apart, Departed, Heads}
use Rattle.cut_rows.specs.Cuts.{apart_term, are_apart, are_heads, cut_limit, cut_terms, head_term, is_cut}
use Rattle.cut_rows.specs.Pools.{cut_names, cut_row_at, is_cut_at, is_row_with, row_with}
use Rattle.cut_rows.proofs.CutLaws.{cut_kept, all_mapped}
use Rattle.cut_rows.proofs.NodeFacts.{heads_few, nodes_few}

-- the terms of a cut: entered nodes, each once
pub cut_units : (parts : Parts) (cut : CutName) → All IsUnit (cut_terms parts cut)
cut_units parts (Heads f n t heads) =
    let part = head_term parts.day.periods (legs_of (slice_get parts.flights f)) f n t in
    All-append IsUnit (map part heads) (term_of minus_one (By f n t) ∷ [])
    (all_mapped IsUnit part (λ head. inl refl) heads) (minus (By f n t))
cut_units parts (Apart f t nodes) = all_mapped IsUnit (apart_term f t) (λ node. inl refl) nodes
cut_units parts (Departed f n t) =
    let wait = shortest_of (legs_of (slice_get parts.flights f)) n in
    with_one (By f n t) (by_before minus_one f 0 t wait)
    (all_if IsUnit (nat_le wait t) (term_of minus_one (By f 0 (t - wait)) ∷ [])
    (minus (By f 0 (t - wait))))

-- whatever flights there are
abbrev pub Has : List Flight → Term → Type 0
Has flights term = IsThere flights term.variable

before_there : (flights : List Flight) (b : Bool) (f n t : ℕ)
    → All (Has flights) (if b then term_of minus_one (By f n t) ∷ [] else [])
before_there flights true f n t =
    All-cons (Has flights) (term_of minus_one (By f n t)) [] tt (All-nil (Has flights))
before_there flights false f n t = All-nil (Has flights)

pub cut_there : (parts : Parts) (cut : CutName) → All (Has parts.flights) (cut_terms parts cut)
cut_there parts (Heads f n t heads) =
    let flights = parts.flights in
    let part = head_term parts.day.periods (legs_of (slice_get flights f)) f n t in
    All-append (Has flights) (map part heads) (term_of minus_one (By f n t) ∷ [])
    (all_mapped (Has flights) part (λ head. tt) heads) (before_there flights true f n t)
cut_there parts (Apart f t nodes) =
    all_mapped (Has parts.flights) (apart_term f t) (λ node. tt) nodes
cut_there parts (Departed f n t) =
    let wait = shortest_of (legs_of (slice_get parts.flights f)) n in
    All-cons (Has parts.flights) (term_of one (By f n t)) (by_before minus_one f 0 t wait) tt
    (before_there parts.flights (nat_le wait t) f 0 (t - wait))

-- a term for each node that a cut names, and one more
before_few : (b : Bool) (term : Term) → length (if b then term ∷ [] else []) ≤ 1
before_few true term = omega arith
before_few false term = omega arith

pub cut_few : (parts : Parts) (cut : CutName) → IsScenario parts → is_cut parts cut ≡ true
    → length (cut_terms parts cut) ≤ most_terms
cut_few parts (Heads f n t heads) scenario is =
    let legs = legs_of (slice_get parts.flights f) in
    omega (
      arith,
      length-append (map (head_term parts.day.periods legs f n t) heads)
          (term_of minus_one (By f n t) ∷ []),
      length-map heads (head_term parts.day.periods legs f n t),
      heads_few parts f n heads scenario
          (and_parts (nat_lt t parts.day.periods) (are_heads legs n heads) is).1,
    )
cut_few parts (Apart f t nodes) scenario is =
    omega (
      arith,
      length-map nodes (apart_term f t),
      nodes_few parts f nodes scenario (and_parts (nat_lt t parts.day.periods)
          (are_apart (slice_get parts.flights f) nodes) is).1,
    )
cut_few parts (Departed f n t) scenario is =
    let wait = shortest_of (legs_of (slice_get parts.flights f)) n in
    omega (arith, before_few (nat_le wait t) (term_of minus_one (By f 0 (t - wait))))

cut_limit_small : (cut : CutName) → cut_limit cut ≤ most_capacity
cut_limit_small (Heads f n t heads) = omega arith
cut_limit_small (Apart f t nodes) = omega arith
cut_limit_small (Departed f n t) = omega arith

-- What holds of the rows of a day and of those of cuts holds of all with a pool.
pub with_pool : (P : Bool → AtMost → Type 0) (parts : Parts) (pool : List CutName) (name : RowName)
    → P (is_row parts name) (row_of parts name)
    → ((cut : Option CutName) → P (is_cut_at parts cut) (cut_row_at parts cut))
    → P (is_row_with parts pool name) (row_with parts pool name)
with_pool P parts pool (Mono f n t) day cuts = day
with_pool P parts pool (Top f n) day cuts = day
with_pool P parts pool (Dep p t) day cuts = day
with_pool P parts pool (Arr p t) day cuts = day
with_pool P parts pool (Sector p t) day cuts = day
with_pool P parts pool (Occupy f n t) day cuts = day
with_pool P parts pool (Enter f n t) day cuts = day
with_pool P parts pool (Leave f n) day cuts = day
with_pool P parts pool (Connect c t) day cuts = day
with_pool P parts pool (Cut i) day cuts = cuts (slice_get pool i)

module _ (parts : Parts) (pool : List CutName) where
  -- every factor is 1 or -1
  pub units_with : (name : RowName) → All IsUnit (row_with parts pool name).terms
  units_with name =
      with_pool (λ there row. All IsUnit row.terms) parts pool name (row_units parts name) by
    where
      by : (cut : Option CutName) → All IsUnit (cut_row_at parts cut).terms
      by None = All-nil IsUnit
      by (Some cut) = cut_units parts cut

  pub limit_with : (name : RowName) → IsScenario parts
      → unsigned_abs (row_with parts pool name).limit ≤ most_capacity
  limit_with name scenario =
      with_pool (λ there row. unsigned_abs row.limit ≤ most_capacity) parts pool name
      (row_limit_small parts name scenario) by
    where
      by : (cut : Option CutName) → unsigned_abs (cut_row_at parts cut).limit ≤ most_capacity
      by None = omega arith
      by (Some cut) = cut_limit_small cut

  pub few_with : (name : RowName) → IsScenario parts → is_row_with parts pool name ≡ true
      → length (row_with parts pool name).terms ≤ most_terms
  few_with name scenario =
      with_pool (λ there row. there ≡ true → length row.terms ≤ most_terms) parts pool name
      (λ is. row_few parts name scenario) by
    where
      by : (cut : Option CutName) → is_cut_at parts cut ≡ true
          → length (cut_row_at parts cut).terms ≤ most_terms
      by None is = omega arith
      by (Some cut) is = cut_few parts cut scenario is

  -- it names variables of the program alone
  pub there_with : (name : RowName) → IsScenario parts → is_row_with parts pool name ≡ true
      → All (Has parts.flights) (row_with parts pool name).terms
  there_with name scenario =
      with_pool (λ there row. there ≡ true → All (Has parts.flights) row.terms) parts pool name
      (row_there parts scenario name) by
    where
      by : (cut : Option CutName) → is_cut_at parts cut ≡ true
          → All (Has parts.flights) (cut_row_at parts cut).terms
      by None is = All-nil (Has parts.flights)
      by (Some cut) is = cut_there parts cut

  -- and no plan that keeps every rule breaks it
  pub kept_with : (plan : List (List Stop)) (name : RowName) → IsScenario parts
      → IsFeasible parts plan → is_row_with parts pool name ≡ true
      → RowHolds (value_at parts.flights plan) (row_with parts pool name)
  kept_with plan name scenario feasible =
      with_pool (λ there row. there ≡ true → RowHolds (value_at parts.flights plan) row) parts pool
      name (row_kept parts plan scenario feasible name) by
    where
      by : (cut : Option CutName) → is_cut_at parts cut ≡ true
          → RowHolds (value_at parts.flights plan) (cut_row_at parts cut)
      by None is = absurd cc
      by (Some cut) is = cut_kept parts plan scenario feasible cut is

-- there are as many names as cuts
pub names_long : (pool : List CutName) → length (cut_names pool) ≡ length pool
names_long pool =
    length-map (range_with_len 0 (length pool)) Cut ∙ length-range_with_len 0 (length pool)
