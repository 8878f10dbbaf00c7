-- The rows of a day with a pool of cuts, by their names.
use Rattle.std.proofs.Common.{◌≡◌, ℕ, ◌^◌, ◌+◌, ◌<◌, ◌≤◌, true, false, List, length, get_or, All, sym, ap, ◌∙◌, subst, arith}
use Rattle.std.proofs.lemmas.List.{length-append}
use Rattle.std.proofs.lemmas.List.Elements.{All-map}
use Rattle.std.proofs.lemmas.List.FromFn.{get_or-range_with_len, length-range_with_len}
use Rattle.std.proofs.lemmas.Option.{slice_get-get_or}
use Rattle.std.specs.List.{range_with_len}
use Rattle.flow_types.specs.declared.parts.Parts.{Parts}
use Rattle.flow_types.specs.Valid.{IsScenario}
use Rattle.bytime_model.specs.declared.names.RowName.{RowName}
use Rattle.bytime_model.specs.declared.names.RowName.TheVariants.{Arr, Connect, Cut, Dep, Enter, Leave, Mono, Occupy, Sector, Top}
use Rattle.bytime_model.specs.AllRows.{rows_of}
use Rattle.bytime_model.specs.Rows.{is_row}
use Rattle.bytime_model.proofs.KindLaws.{rows_few}
use Rattle.cut_rows.specs.declared.names.CutName.{CutName}
use Rattle.cut_rows.specs.declared.names.CutName.TheVariants.{Departed}
use Rattle.cut_rows.specs.Pools.{IsPoolOf, cut_names, is_cut_at, is_row_with, rows_with}
use Rattle.cut_rows.proofs.PoolRows.{names_long}

module _ (parts : Parts) (pool : List CutName) where
  -- a row of the day is one with a pool
  pub day_row : (name : RowName) → is_row parts name ≡ true → is_row_with parts pool name ≡ true
  day_row (Mono f n t) is = is
  day_row (Top f n) is = is
  day_row (Dep p t) is = is
  day_row (Arr p t) is = is
  day_row (Sector p t) is = is
  day_row (Occupy f n t) is = is
  day_row (Enter f n t) is = is
  day_row (Leave f n) is = is
  day_row (Connect c t) is = is
  day_row (Cut i) is = absurd (let e : false ≡ true = is in cc)

  module _ (cuts : IsPoolOf parts pool) where
    -- and so is that of each cut
    cut_there : (i : ℕ) → i < length pool → is_row_with parts pool (Cut i) ≡ true
    cut_there i within =
        ap (is_cut_at parts) (slice_get-get_or pool i (Departed 0 0 0) within)
        ∙ cuts.cuts i (Departed 0 0 0) within

    pub cuts_there : All (λ name. is_row_with parts pool name ≡ true) (cut_names pool)
    cuts_there =
        All-map (λ name. is_row_with parts pool name ≡ true) Cut (range_with_len 0 (length pool))
        (λ k d within.
        let long = length-range_with_len 0 (length pool) in
        let under : k < length pool = omega (arith, within, long) in
        let first = get_or-range_with_len 0 (length pool) k d under in
        let here : get_or (range_with_len 0 (length pool)) k d ≡ k = omega (arith, first) in
        subst (λ i. is_row_with parts pool (Cut i) ≡ true) (sym here) (cut_there k under))

    pub names_there : (names : List RowName) → names ≡ cut_names pool
        → All (λ name. is_row_with parts pool name ≡ true) names
    names_there names are =
        subst (λ list. All (λ name. is_row_with parts pool name ≡ true) list) (sym are) cuts_there

    -- there are few of them
    pub cuts_few : length pool < 2 ^ 32
    cuts_few = let few = cuts.few in omega (arith, few)

    pub all_few : IsScenario parts → length (rows_with parts pool) ≤ 35000000 + 2 ^ 31
    all_few scenario =
        let both = length-append (rows_of parts) (cut_names pool) in
        let rows = rows_few parts scenario in
        let names = names_long pool in
        let few = cuts.few in
        omega (arith, both, rows, names, few)
