-- What the columns cost.
use Rattle.std.proofs.Common.{◌≡◌, ℕ, zero, suc, ◌+◌, ◌-◌, ◌*◌, ◌^◌, ◌<◌, ◌≤◌, Bool, true, false, List, [], ◌∷◌, length, map, get_or, sum_by, if◌then◌else◌, All, ℤ, pos, ◌+ℤ◌, unsigned_abs, refl, sym, ap, ap₂, ◌∙◌, subst, arith}
use Rattle.std.proofs.lemmas.Bool.Decides.{Decides-int_eq}
use Rattle.std.proofs.lemmas.Int.{ints}
use Rattle.std.proofs.lemmas.List.{length-append}
use Rattle.std.proofs.lemmas.List.Sums.{sum_by-append, sum_by-cons}
use Rattle.std.specs.Int.{int_min}
use Rattle.std.specs.List.{range_with_len}
use Rattle.std.specs.Ordering.{int_eq}
use Rattle.exact_sums.specs.Sums.{total}
use Rattle.exact_sums.specs.Near.{IsNear}
use Rattle.exact_sums.specs.Lists.{flat_map_from}
use Rattle.flow_types.specs.declared.flight.Flight.{Flight}
use Rattle.flow_types.specs.declared.parts.Parts.{Parts}
use Rattle.flow_types.specs.Valid.{IsScenario}
use Rattle.row_arena.specs.declared.entry.Entry.{Entry}
use Rattle.row_arena.specs.Rows.{IsRow, entry_at, unless_zero}
use Rattle.row_arena.proofs.WholeLaws.{linear}
use Rattle.scaled_simplex.proofs.EntryLaws.{entry_append, unless_other, unless_same}
use Rattle.time_windows.specs.Boxes.{Box}
use Rattle.bytime_model.specs.declared.variables.Term.{Term}
use Rattle.bytime_model.specs.declared.variables.Var.{Var}
use Rattle.bytime_model.specs.declared.variables.Var.TheVariants.{By}
use Rattle.bytime_model.specs.CostRow.{Priced, cost_row, flight_terms, late_step, late_terms, most_late, most_wait, steps, wait_step, wait_terms, unless_zero as priced_unless}
use Rattle.bytime_model.specs.Rows.{term_of}
use Rattle.bytime_model.proofs.SmallFacts.{constant_small, cost_terms_near}
use Rattle.bytime_model.specs.Columns.{IsThere}
use Rattle.presolve.proofs.FlatFacts.{flat_few}
use Rattle.presolve.specs.Gathering.{Gathered, IsLanded, most_factor, most_gathered, size_of}
use Rattle.presolve.specs.Landed.{coefficient_of, entries_from, fixed_of}
use Rattle.presolve.specs.Listing.{HaveCosts}
use Rattle.presolve.specs.Relaxed.{cost_in}
use Rattle.presolve.specs.Variables.{columns_of}
use Rattle.presolve.proofs.GatherFacts.{none_later}
use Rattle.presolve.proofs.PointFacts.{cost_there}
use Rattle.presolve.proofs.RowFacts.{from_le, row_made}
use Rattle.presolve.proofs.TotalFacts.{below_part, below_small, total_small}

-- what landing asks of the cost row's terms
module _ (parts : Parts) (row : Priced) (terms : List Term) (is : row ≡ cost_row parts)
    (are : terms ≡ row.terms) where
  all_are : terms ≡ (cost_row parts).terms
  all_are = are ∙ ap (λ (r : Priced). r.terms) is

  pub terms_there : All (λ term. IsThere parts.flights term.variable) terms
  terms_there =
      subst (λ list. All (λ (term : Term). IsThere parts.flights term.variable) list) (sym all_are)
      (cost_there parts)

  near_abs : (z : ℤ) → IsNear 200000000000 z → unsigned_abs z ≤ most_factor
  near_abs z near =
      let low = near.low in let high = near.high in omega (arith, ints, low, high)

  pub terms_small : IsScenario parts → All (λ term. unsigned_abs term.factor ≤ most_factor) terms
  terms_small scenario =
      subst (λ list. All (λ (term : Term). unsigned_abs term.factor ≤ most_factor) list)
      (sym all_are)
      (λ k d within. near_abs (get_or (cost_row parts).terms k d).factor
      (cost_terms_near parts scenario k d within))

  unless_few : (factor : ℤ) (variable : Var) → length (priced_unless factor variable) ≤ 1
  unless_few factor variable = by (int_eq factor (pos 0))
    where
      by : (b : Bool) → length (if b then [] else term_of factor variable ∷ []) ≤ 1
      by true = omega arith
      by false = omega arith

  steps_few : (step : ℕ → ℤ) (variable : ℕ → Var) (count : ℕ)
      → length (steps step variable count) ≤ count
  steps_few step variable count =
      let all = flat_few (λ delay. priced_unless (step delay) (variable delay)) 1 0 count
      (λ delay. unless_few (step delay) (variable delay)) in
      omega (arith, all)

  flight_few : (number : ℕ) (flight : Flight) → parts.day.periods ≤ 512
      → length (flight_terms parts.tables parts.day.periods number flight) ≤ 1024
  flight_few number flight most =
      let both = length-append (late_terms parts.tables parts.day.periods number flight)
      (wait_terms parts.tables parts.day.periods number flight) in
      let late = steps_few (late_step parts.tables flight)
      (λ delay. By number (length flight.nodes - 1) (flight.sa + delay))
      (most_late parts.day.periods flight) in
      let wait = steps_few (wait_step parts.tables flight)
      (λ delay. By number 0 (flight.sd + delay)) (most_wait parts.day.periods flight) in
      omega (arith, both, late, wait, most)

  flights_few : (k : ℕ) (flights : List Flight) → parts.day.periods ≤ 512
      → length (flat_map_from (flight_terms parts.tables parts.day.periods) k flights)
      ≤ length flights * 1024
  flights_few k [] most = omega arith
  flights_few k (flight ∷ flights) most =
      let both = length-append (flight_terms parts.tables parts.day.periods k flight)
      (flat_map_from (flight_terms parts.tables parts.day.periods) (k + 1) flights) in
      let one = flight_few k flight most in
      let more = flights_few (k + 1) flights most in
      omega (arith, both, one, more)

  pub terms_few : IsScenario parts → length terms ≤ most_gathered
  terms_few scenario =
      let all = flights_few 0 parts.flights scenario.day.periods_to in
      let most = scenario.flights.few in
      let same = ap length all_are in
      omega (arith, all, most, same)

-- by column, and as entries
map_same : (f g : ℕ → ℤ) (from count : ℕ) → ((k : ℕ) → from ≤ k → f k ≡ g k)
    → map f (range_with_len from count) ≡ map g (range_with_len from count)
map_same f g from zero same = refl
map_same f g from (suc count) same =
    ap₂ (λ v list. v ∷ list) (same from (omega arith))
    (map_same f g (from + 1) count (λ k past. same k (omega (arith, past))))

module _ (factor : Var → ℤ) where
  entry_first : (column : Var) (columns : List Var) (from : ℕ)
      → entry_at (entries_from factor from (column ∷ columns)) from ≡ factor column
  entry_first column columns from =
      let both = entry_append (unless_zero from (factor column))
      (entries_from factor (from + 1) columns) from in
      let here = unless_same from (factor column) from refl in
      let none = none_later from (entries_from factor (from + 1) columns)
      (λ k d below.
      let past = from_le factor columns (from + 1) k d below in omega (arith, past)) in
      omega (arith, linear, both, here, none)

  entry_past : (column : Var) (columns : List Var) (from k : ℕ) → from + 1 ≤ k
      → entry_at (entries_from factor from (column ∷ columns)) k
      ≡ entry_at (entries_from factor (from + 1) columns) k
  entry_past column columns from k past =
      let both = entry_append (unless_zero from (factor column))
      (entries_from factor (from + 1) columns) k in
      let none = unless_other from (factor column) k (λ same. omega (arith, same, past)) in
      omega (arith, linear, both, none)

  entries_at : (columns : List Var) (from : ℕ)
      → map (entry_at (entries_from factor from columns)) (range_with_len from (length columns))
      ≡ map factor columns
  entries_at [] from = refl
  entries_at (column ∷ columns) from =
      ap₂ (λ v list. v ∷ list) (entry_first column columns from)
      (map_same (entry_at (entries_from factor from (column ∷ columns)))
      (entry_at (entries_from factor (from + 1) columns)) (from + 1) (length columns)
      (entry_past column columns from)
      ∙ entries_at columns (from + 1))

  pub entries_size : (columns : List Var) (from : ℕ)
      → sum_by unsigned_abs (map factor columns) ≡ size_of (entries_from factor from columns)
  entries_size [] from = refl
  entries_size (column ∷ columns) from =
      let all = sum_by-cons unsigned_abs (factor column) (map factor columns) in
      let both = sum_by-append (λ (entry : Entry). unsigned_abs entry.value)
      (unless_zero from (factor column)) (entries_from factor (from + 1) columns) in
      let here = by (int_eq (factor column) (pos 0)) refl in
      let more = entries_size columns (from + 1) in
      omega (arith, all, both, here, more)
    where
      entry : Entry
      entry = record { column = from; value = factor column }

      by : (b : Bool) → int_eq (factor column) (pos 0) ≡ b
          → size_of (if b then [] else entry ∷ []) ≡ unsigned_abs (factor column)
      by true is = sym (ap unsigned_abs ((Decides-int_eq (factor column) (pos 0)).0 is))
      by false isnt =
          let one = sum_by-cons (λ (e : Entry). unsigned_abs e.value) entry [] in
          omega (arith, one)

pub total_map : (f : ℤ → ℤ) (g : Var → ℤ) (xs : List Var)
    → total f (map g xs) ≡ total (λ x. f (g x)) xs
total_map f g [] = refl
total_map f g (x ∷ xs) = ap (λ n. f (g x) +ℤ n) (total_map f g xs)

three : (a b c : ℤ) → unsigned_abs ((a +ℤ b) +ℤ c)
    ≤ unsigned_abs a + unsigned_abs b + unsigned_abs c
three a b c = omega (arith, ints)

module _ (parts : Parts) (box : Box) (row : Priced) (gathered : Gathered) (terms : List Term)
    (is : row ≡ cost_row parts) (are : terms ≡ row.terms) (scenario : IsScenario parts)
    (landed : IsLanded parts box terms gathered) where
  same_terms : terms ≡ (cost_row parts).terms
  same_terms = are ∙ ap (λ (r : Priced). r.terms) is

  entries_are : gathered.entries ≡ entries_from (cost_in parts box) 0 (columns_of parts box)
  entries_are =
      landed.entries
      ∙ ap (λ list. entries_from (coefficient_of parts box list) 0 (columns_of parts box))
      same_terms

  small : size_of gathered.entries + unsigned_abs gathered.fixed ≤ 2 ^ 59
  small =
      let size = landed.size in
      let few = terms_few parts row terms is are scenario in
      omega (arith, size, few)

  pub entries_row : IsRow gathered.entries
  entries_row =
      row_made (cost_in parts box) (columns_of parts box) gathered.entries entries_are
      (let size = small in omega (arith, size))

  module _ (values : List ℤ) (count : ℕ)
      (dense : values ≡ map (entry_at gathered.entries) (range_with_len 0 count))
      (long : count ≡ length (columns_of parts box)) where
    values_are : values ≡ map (cost_in parts box) (columns_of parts box)
    values_are =
        dense ∙ ap (λ n. map (entry_at gathered.entries) (range_with_len 0 n)) long
        ∙ ap (λ list. map (entry_at list) (range_with_len 0 (length (columns_of parts box))))
        entries_are
        ∙ entries_at (cost_in parts box) (columns_of parts box) 0

    values_size : sum_by unsigned_abs values ≡ size_of gathered.entries
    values_size =
        ap (sum_by unsigned_abs) values_are
        ∙ entries_size (cost_in parts box) (columns_of parts box) 0
        ∙ ap size_of (sym entries_are)

    pub values_small : sum_by unsigned_abs values < 2 ^ 62
    values_small = let size = small in let same = values_size in omega (arith, size, same)

    abs_near : (z : ℤ) → IsNear (2 ^ 60) z → unsigned_abs z ≤ 2 ^ 60
    abs_near z near = let low = near.low in let high = near.high in omega (arith, ints, low, high)

    constant_abs : unsigned_abs row.constant ≤ 2 ^ 60
    constant_abs =
        let near = abs_near (cost_row parts).constant (constant_small parts scenario) in
        let same = ap (λ (r : Priced). unsigned_abs r.constant) is in
        omega (arith, near, same)

    pub sum_small : (below : ℤ) → below ≡ total (λ value. int_min (pos 0) value) values
        → unsigned_abs row.constant + unsigned_abs gathered.fixed + unsigned_abs below < 2 ^ 62
    sum_small below lows =
        let constant = constant_abs in
        let size = small in
        let same = values_size in
        let least = total_small below_part unsigned_abs below_small values in
        let now = ap unsigned_abs lows in
        omega (arith, constant, size, same, least, now)

    pub are_costs : (constant below : ℤ)
        → below ≡ total (λ value. int_min (pos 0) value) values
        → constant ≡ (row.constant +ℤ gathered.fixed) +ℤ below
        → HaveCosts parts box values constant
    are_costs constant below lows sum = record {
      values = values_are;
      constant = sum
          ∙ ap (λ (n : ℤ). (n +ℤ gathered.fixed) +ℤ below) (ap (λ (r : Priced). r.constant) is)
          ∙ ap (λ n. ((cost_row parts).constant +ℤ n) +ℤ below)
          (landed.fixed ∙ ap (fixed_of parts box) same_terms)
          ∙ ap (λ n. ((cost_row parts).constant +ℤ fixed_of parts box (cost_row parts).terms) +ℤ n)
          (lows ∙ ap (total (λ value. int_min (pos 0) value)) values_are
          ∙ total_map (λ value. int_min (pos 0) value) (cost_in parts box) (columns_of parts box));
      size = let size = small in let same = values_size in omega (arith, size, same);
      near =
          let all = three row.constant gathered.fixed below in
          let first = constant_abs in
          let size = small in
          let same = values_size in
          let least = total_small below_part unsigned_abs below_small values in
          let now = ap unsigned_abs lows in
          let whole = ap unsigned_abs sum in
          omega (arith, all, first, size, same, least, now, whole);
    }
