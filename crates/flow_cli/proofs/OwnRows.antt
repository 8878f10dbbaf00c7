-- The rows of a leaf are within the limits of lines: their numbers, how many there are, and how
-- many bytes their lines have.
use Rattle.std.proofs.Common.{◌≡◌, ℕ, suc, ◌^◌, ◌<◌, ◌≤◌, ◌&&◌, ◌⊎◌, nat_lt, true, false, List, [], ◌∷◌, length, get_or, All, AllPairs, ◌++◌, ◌*◌, map, Option, None, Some, slice_get, inl, inr, refl, sym, ◌∙◌, subst, arith, length-append}
use Rattle.std.specs.Prelude.{codes}
use Rattle.std.specs.Fmt.{decimal}
use Rattle.std.specs.List.{Any}
use Rattle.std.proofs.lemmas.Bool.{and_parts, ltb-true}
use Rattle.std.proofs.lemmas.List.Elements.{All-tail}
use Rattle.std.proofs.lemmas.Option.{slice_get-get_or, slice_get_within}
use Rattle.flow_types.specs.declared.parts.Parts.{Parts}
use Rattle.flow_types.specs.declared.place.CapKind.{CapKind}
use Rattle.flow_types.specs.declared.place.CapKind.TheVariants as cap
use Rattle.flow_types.specs.Capacities.{has_kind}
use Rattle.flow_types.specs.Valid.{IsScenario}
use Rattle.flow_types.proofs.PlaceFacts.{has_kind-within}
use Rattle.time_windows.proofs.AnyFacts.{any_cases, any_none}
use Rattle.bytime_model.specs.declared.multiplier.Multiplier.{Multiplier}
use Rattle.bytime_model.specs.declared.names.RowName.{RowName}
use Rattle.bytime_model.specs.declared.names.RowName.TheVariants.{Arr, Connect, Cut, Dep, Enter, Leave, Mono, Occupy, Sector, Top}
use Rattle.bytime_model.specs.AllRows.{rows_of}
use Rattle.bytime_model.specs.Multipliers.{AreAscending, ArePositive, HasRange}
use Rattle.bytime_model.specs.Order.{IsBefore}
use Rattle.bytime_model.specs.Rows.{is_capacity, is_node, is_row, node_count}
use Rattle.bytime_model.specs.Values.{has_inside}
use Rattle.bytime_model.proofs.AllRowsFacts.{flight_within, goes_within, inside_within, node_within, nodes_few}
use Rattle.bytime_model.proofs.KindLaws.{rows_each, rows_few}
use Rattle.bytime_model.proofs.NameLists.{Each, any_first, any_map, any_second}
use Rattle.bytime_model.proofs.OrderFacts.{before_on, not_before_itself}
use Rattle.cut_rows.specs.declared.names.CutName.{CutName}
use Rattle.cut_rows.specs.Pools.{cut_names, is_cut_at, is_row_with, rows_with}
use Rattle.cut_rows.proofs.PoolRows.{names_long}
use Rattle.relaxed_bound.proofs.RowsFacts.{rows_with_ascend}
use Rattle.certificate.specs.Limits.{most_weight}
use Rattle.certificate.specs.Lines.{line_of, row_fields}
use Rattle.certificate.specs.Ranges.{IsNodeOf, IsNodeTime, IsPlaceTime, IsRowInRange}
use Rattle.certificate.specs.Rows.{row_numbers, row_word}
use Rattle.certificate.specs.Stages.{is_above}
use Rattle.certificate.specs.Texts.{rows_text}
use Rattle.certificate.specs.Writable.{AreAbove, AreLeafRows, AreRowsInRange}
use Rattle.flow_cli.proofs.OwnSizes.{digits_to, field_size, field_to, line_size, numbers_to}

never_itself : (a : RowName) → IsBefore a a → ⊥
never_itself a before =
    let wrong : true ≡ false = sym before ∙ not_before_itself a in
    let e : ⊥ = cc wrong in e

-- things that ascend and are all in a list that ascends are no more than those of the list
no_longer : {X : Type 0} (name : X → RowName) (xs : List X) (ys : List RowName)
    → AllPairs (λ a b. IsBefore (name a) (name b)) xs → AllPairs IsBefore ys
    → All (λ x. Any (λ other. other ≡ name x) ys) xs → length xs ≤ length ys
no_longer name [] ys pairs ascending each = omega arith
no_longer name (x ∷ xs) [] pairs ascending each =
    absurd (any_none (λ other. other ≡ name x) (each 0 x (omega arith)))
no_longer name (x ∷ xs) (y ∷ ys) pairs ascending each =
    let more = no_longer name xs ys
    (λ i j d less within. pairs (suc i) (suc j) d (omega (arith, less)) (omega (arith, within)))
    (λ i j d less within.
    ascending (suc i) (suc j) d (omega (arith, less)) (omega (arith, within)))
    later in
    omega (arith, more)
  where
    -- what comes after the first isn't the first of the list
    is_first : (k : ℕ) (d : _) → k < length xs → y ≡ name (get_or xs k d) → ⊥
    is_first k d within same =
        let past : IsBefore (name x) (name (get_or xs k d)) =
        pairs 0 (suc k) d (omega arith) (omega (arith, within)) in
        let before : IsBefore (name x) y = subst (IsBefore (name x)) (sym same) past in
        elim (any_cases (λ other. other ≡ name x) y ys (each 0 x (omega arith))) as (λ _. ⊥) [
          | inl here ↦ never_itself (name x) (subst (IsBefore (name x)) here before)
          | inr (i, item, below, at, is) ↦ (
              let after : IsBefore y (get_or ys i item) =
              ascending 0 (suc i) item (omega arith) (omega (arith, below)) in
              let back : IsBefore y (name x) = subst (IsBefore y) (at ∙ is) after in
              never_itself (name x) (before_on (name x) y (name x) before back))
        ]

    later : All (λ z. Any (λ other. other ≡ name z) ys) xs
    later k d within =
        elim (any_cases (λ other. other ≡ name (get_or xs k d)) y ys
        (each (suc k) d (omega (arith, within))))
        as (λ _. Any (λ other. other ≡ name (get_or xs k d)) ys) [
          | inl here ↦ absurd (is_first k d within here)
          | inr there ↦ there
        ]

-- the row of a cut of a pool
pub record IsCutRow (pool : List CutName) (name : RowName) : Type 0 where
  position : ℕ
  name_is : name ≡ Cut position
  within : position < length pool

-- the numbers of a row are within the limits of its line, and have at most four digits
abbrev IsSmallRow : RowName → Type 0
IsSmallRow name = IsRowInRange name × Each (λ n. n < 10000) (row_numbers name)

module _ (parts : Parts) (valid : IsScenario parts) where
  pub flight_to : (f n : ℕ) → n < node_count (slice_get parts.flights f) → f < 2000
  flight_to f n within =
      let flight = flight_within parts.flights f n within in
      let flights = valid.flights.few in
      omega (arith, flight, flights)

  pub node_to : (f n : ℕ) → n < node_count (slice_get parts.flights f) → n < 32
  node_to f n within = let nodes = nodes_few parts f valid in omega (arith, within, nodes)

  pub period_to : (t : ℕ) → nat_lt t parts.day.periods ≡ true → t < 512
  period_to t is =
      let within = ltb-true t parts.day.periods is in
      let most = valid.day.periods_to in
      omega (arith, within, most)

  pub two_numbers : (f n : ℕ) → n < node_count (slice_get parts.flights f)
      → IsNodeOf f n × Each (λ k. k < 10000) (f ∷ n ∷ [])
  two_numbers f n within =
      let flight = flight_to f n within in
      let node = node_to f n within in (
        record { flight_to = omega (arith, flight); node_to = omega (arith, node) },
        (omega (arith, flight), (omega (arith, node), tt)),
      )

  pub three_numbers : (f n t : ℕ) → n < node_count (slice_get parts.flights f)
      → nat_lt t parts.day.periods ≡ true
      → IsNodeTime f n t × Each (λ k. k < 10000) (f ∷ n ∷ t ∷ [])
  three_numbers f n t within is =
      let (at, small) = two_numbers f n within in
      let time = period_to t is in (
        record { at = at; time_to = omega (arith, time) },
        (small.0, (small.1.0, (omega (arith, time), tt))),
      )

  place_numbers : (p t : ℕ) → p < 4000 → nat_lt t parts.day.periods ≡ true
      → IsPlaceTime p t × Each (λ k. k < 10000) (p ∷ t ∷ [])
  place_numbers p t few is =
      let time = period_to t is in (
        record { place_to = omega (arith, few); period_to = omega (arith, time) },
        (omega (arith, few), (omega (arith, time), tt)),
      )

  capacity_numbers : (kind : CapKind) (p t : ℕ) → is_capacity parts kind p t ≡ true
      → IsPlaceTime p t × Each (λ k. k < 10000) (p ∷ t ∷ [])
  capacity_numbers kind p t is =
      let both = and_parts (has_kind kind (slice_get parts.places p)) (nat_lt t parts.day.periods)
      is in
      let place = has_kind-within kind parts.places p both.0 in
      let places = valid.places.few in
      place_numbers p t (omega (arith, place, places)) both.1

  small_row : (name : RowName) → is_row parts name ≡ true → IsSmallRow name
  small_row (Mono f n t) is =
      let found = and_parts (is_node (slice_get parts.flights f) n)
      (nat_lt 0 t && nat_lt t parts.day.periods) is in
      let time = and_parts (nat_lt 0 t) (nat_lt t parts.day.periods) found.1 in
      three_numbers f n t (node_within (slice_get parts.flights f) n found.0) time.1
  small_row (Top f n) is =
      two_numbers f n (node_within (slice_get parts.flights f) n is)
  small_row (Dep p t) is =
      capacity_numbers cap.Dep p t is
  small_row (Arr p t) is =
      capacity_numbers cap.Arr p t is
  small_row (Sector p t) is =
      capacity_numbers cap.Sector p t is
  small_row (Occupy f n t) is =
      let both = and_parts (has_inside (slice_get parts.flights f) n)
      (nat_lt t parts.day.periods) is in
      three_numbers f n t (inside_within (slice_get parts.flights f) n both.0) both.1
  small_row (Enter f n t) is =
      let found = and_parts (is_node (slice_get parts.flights f) n)
      (nat_lt 0 n && nat_lt t parts.day.periods) is in
      let time = and_parts (nat_lt 0 n) (nat_lt t parts.day.periods) found.1 in
      three_numbers f n t (node_within (slice_get parts.flights f) n found.0) time.1
  small_row (Leave f n) is =
      two_numbers f n (goes_within (slice_get parts.flights f) n is)
  small_row (Connect c t) is =
      let both = and_parts (nat_lt c (length parts.connections)) (nat_lt t parts.day.periods) is
      in
      let connection = ltb-true c (length parts.connections) both.0 in
      let connections = valid.connections.few in
      place_numbers c t (omega (arith, connection, connections)) both.1
  small_row (Cut i) is = absurd (let e : ⊥ = cc is in e)

  -- a line of at most 48 bytes
  row_size : (multiplier : Multiplier) → IsSmallRow multiplier.row
      → multiplier.value ≤ most_weight
      → length (line_of (codes "y") (row_fields multiplier)) ≤ 48
  row_size multiplier is value_to =
      let value = digits_to 19 multiplier.value (omega arith) (omega arith)
      (omega (arith, value_to)) in
      let last = field_to 19 1 (decimal multiplier.value) [] value (omega arith) in
      let numbers = numbers_to (row_numbers multiplier.row) (decimal multiplier.value ∷ [])
      is.1 in
      let names = few_numbers multiplier.row in
      let word = word_size multiplier.row in
      let all = field_size (row_word multiplier.row)
      (map decimal (row_numbers multiplier.row) ++ decimal multiplier.value ∷ []) in
      let line = line_size (codes "y") (row_fields multiplier) in
      omega (arith, last, numbers, names, word, all, line)
    where
      few_numbers : (name : RowName) → length (row_numbers name) ≤ 3
      few_numbers (Mono f n t) = omega arith
      few_numbers (Top f n) = omega arith
      few_numbers (Dep p t) = omega arith
      few_numbers (Arr p t) = omega arith
      few_numbers (Sector p t) = omega arith
      few_numbers (Occupy f n t) = omega arith
      few_numbers (Enter f n t) = omega arith
      few_numbers (Leave f n) = omega arith
      few_numbers (Connect c t) = omega arith
      few_numbers (Cut i) = omega arith

      word_size : (name : RowName) → length (row_word name) ≤ 7
      word_size (Mono f n t) = omega arith
      word_size (Top f n) = omega arith
      word_size (Dep p t) = omega arith
      word_size (Arr p t) = omega arith
      word_size (Sector p t) = omega arith
      word_size (Occupy f n t) = omega arith
      word_size (Enter f n t) = omega arith
      word_size (Leave f n) = omega arith
      word_size (Connect c t) = omega arith
      word_size (Cut i) = omega arith

  module _ (pool : List CutName) (few : length pool ≤ 10000) where
    -- a row of the day, or of a cut of the pool
    abbrev pub IsListed : RowName → Type 0
    IsListed name = (is_row parts name ≡ true) ⊎ IsCutRow pool name

    abbrev pub AreListed : List Multiplier → Type 0
    AreListed rows = (k : ℕ) (multiplier : Multiplier) → slice_get rows k ≡ Some multiplier
        → IsListed multiplier.row

    small_listed : (name : RowName) → IsListed name → IsSmallRow name
    small_listed name (inl day) = small_row name day
    small_listed name (inr cut) =
        let within = cut.within in
        subst IsSmallRow (sym cut.name_is) (
          omega (arith, within, few),
          (omega (arith, within, few), tt),
        )

    any_listed : (name : RowName) → IsListed name
        → Any (λ other. other ≡ name) (rows_with parts pool)
    any_listed name (inl day) =
        any_first (λ other. other ≡ name) (rows_of parts) (cut_names pool)
        ((rows_each parts name).1 day)
    any_listed name (inr cut) =
        let within = cut.within in
        any_second (λ other. other ≡ name) (rows_of parts) (cut_names pool)
        (any_map (λ other. other ≡ name) Cut 0 (length pool) cut.position (omega arith)
        (omega (arith, within)) (sym cut.name_is))

    pub listed : (name : RowName) → is_row_with parts pool name ≡ true → IsListed name
    listed (Mono f n t) is = inl is
    listed (Top f n) is = inl is
    listed (Dep p t) is = inl is
    listed (Arr p t) is = inl is
    listed (Sector p t) is = inl is
    listed (Occupy f n t) is = inl is
    listed (Enter f n t) is = inl is
    listed (Leave f n) is = inl is
    listed (Connect c t) is = inl is
    listed (Cut i) is = inr (by (slice_get pool i) refl is)
      where
        by : (found : Option CutName) → slice_get pool i ≡ found
            → is_cut_at parts found ≡ true → IsCutRow pool (Cut i)
        by None at there = absurd (let e : ⊥ = cc there in e)
        by (Some cut) at there =
            record { position = i; name_is = refl; within = slice_get_within pool i cut at }

    -- rows with their multipliers are within the limits of lines, in lines of at most 48 bytes
    record AreShortRows (rows : List Multiplier) : Type 0 where
      each : AreRowsInRange rows
      short : length (rows_text rows) ≤ 48 * length rows

    short_rows : (rows : List Multiplier) → AreListed rows
        → All (λ multiplier. multiplier.value < 2 ^ 62) rows → ArePositive rows
        → AreShortRows rows
    short_rows [] are values positive = record { each = tt; short = omega arith }
    short_rows (multiplier ∷ rows) are values positive =
        let value = values 0 multiplier (omega arith) in
        let some = positive 0 multiplier (omega arith) in
        let row = small_listed multiplier.row (are 0 multiplier refl) in
        let more = short_rows rows (λ k. are (suc k))
        (All-tail (λ (m : Multiplier). m.value < 2 ^ 62) multiplier rows values)
        (All-tail (λ (m : Multiplier). 0 < m.value) multiplier rows positive) in
        let size = row_size multiplier row (omega (arith, value)) in
        let both = length-append (line_of (codes "y") (row_fields multiplier)) (rows_text rows) in
        let behind = more.short in
        record {
          each = (
            record {
              name = row.0;
              from = omega (arith, some);
              to = omega (arith, value);
            },
            more.each,
          );
          short = omega (arith, size, both, behind);
        }

    above_last : (last : Option RowName) (rows : List Multiplier) → AreAscending rows
        → All (λ (m : Multiplier). is_above last m.row ≡ true) rows → AreAbove last rows
    above_last last [] ascending above = tt
    above_last last (multiplier ∷ rows) ascending above = (
      above 0 multiplier (omega arith),
      above_last (Some multiplier.row) rows
          (λ i j d less within.
          ascending (suc i) (suc j) d (omega (arith, less)) (omega (arith, within)))
          (λ k d within. ascending 0 (suc k) d (omega arith) (omega (arith, within))),
    )

    -- the rows of a leaf are within the limits of lines, and no more than there are with the pool
    pub record AreFitRows (weight : ℕ) (rows : List Multiplier) : Type 0 where
      pub writable : AreLeafRows weight rows
      pub no_more : length rows ≤ length (rows_with parts pool)
      pub short : length (rows_text rows) ≤ 48 * length rows

    pub fit_rows : (weight : ℕ) (rows : List Multiplier) → HasRange weight rows
        → ArePositive rows → AreAscending rows → AreListed rows → AreFitRows weight rows
    fit_rows weight rows range positive ascending are =
        let within = no_longer (λ (m : Multiplier). m.row) rows (rows_with parts pool) ascending
        (rows_with_ascend parts pool) (λ k d within. any_listed (get_or rows k d).row
        (are k (get_or rows k d) (slice_get-get_or rows k d within))) in
        let most = rows_few parts valid in
        let both = length-append (rows_of parts) (cut_names pool) in
        let cuts = names_long pool in
        let weight_to = range.weight_to in
        let each = short_rows rows are range.values positive in
        record {
          writable = record {
            sizes = record {
              weight_to = omega (arith, weight_to);
              rows_to = omega (arith, within, most, both, cuts, few);
            };
            each = each.each;
            ascending = above_last None rows ascending (λ k d within. refl);
          };
          no_more = within;
          short = each.short;
        }
