-- The program of a tight box is one that a run may be made of: its numbers are near enough to 0,
-- and its columns and rows are few enough.
use Rattle.std.proofs.Common.{◌≡◌, ℕ, zero, suc, ◌+◌, ◌*◌, ◌≤◌, Bool, true, false, List, [], ◌∷◌, length, map, get_or, sum_by, if◌then◌else◌, All, ℤ, pos, ◌+ℤ◌, ◌≤ℤ◌, nat_abs, unsigned_abs, refl, sym, ap, ◌∙◌, subst, arith}
use Rattle.std.proofs.lemmas.Int.{ints}
use Rattle.std.proofs.lemmas.List.{length-append, length-map}
use Rattle.std.proofs.lemmas.List.Elements.{All-append, All-cons, All-map, All-nil, All-tail}
use Rattle.std.proofs.lemmas.List.FromFn.{length-map-range_with_len}
use Rattle.std.proofs.lemmas.List.Sums.{sum_by-cons}
use Rattle.std.specs.Int.{int_min}
use Rattle.std.specs.List.{range_with_len}
use Rattle.exact_sums.specs.Sums.{total}
use Rattle.exact_sums.proofs.SumFacts.{total-both, total-le, total-natural}
use Rattle.flow_types.specs.declared.parts.Parts.{Parts}
use Rattle.flow_types.specs.Valid.{IsScenario}
use Rattle.row_arena.specs.Rows.{entry_at, most_entry}
use Rattle.scaled_simplex.specs.Program.{IsConstraint, IsCost, IsProblem, columns}
use Rattle.time_windows.specs.Boxes.{Box, IsBoxOf}
use Rattle.time_windows.specs.Tight.{IsTight}
use Rattle.bytime_model.specs.declared.left.Left.{Left}
use Rattle.bytime_model.specs.declared.left.Left.TheVariants.{Free, One, Same, Zero}
use Rattle.bytime_model.specs.declared.names.RowName.{RowName}
use Rattle.bytime_model.specs.declared.variables.Term.{Term}
use Rattle.bytime_model.specs.declared.variables.Var.{Var}
use Rattle.bytime_model.specs.Columns.{IsThere, IsWhole}
use Rattle.bytime_model.specs.CostRow.{cost_row}
use Rattle.bytime_model.specs.Left.{left_of}
use Rattle.bytime_model.proofs.NumberFacts.{whole_box}
use Rattle.cut_rows.specs.declared.names.CutName.{CutName}
use Rattle.cut_rows.specs.Pools.{IsPoolOf, is_row_with, row_with, rows_with}
use Rattle.presolve.specs.Gathering.{Gathered, IsLanded, most_factor}
use Rattle.presolve.specs.Landed.{coefficient_of, entries_from, fixed_of, is_on, is_one, part_fixed, part_on}
use Rattle.presolve.specs.Listing.{HaveCosts, IsLandedRow}
use Rattle.presolve.specs.Relaxed.{at_most_one, flipped_of, kept_of, kept_row, program_of, row_in}
use Rattle.presolve.specs.Variables.{columns_of, is_same}
use Rattle.presolve.proofs.ColumnFacts.{once}
use Rattle.presolve.proofs.CostFacts.{are_costs, entries_size, terms_small, total_map}
use Rattle.presolve.proofs.FreeFacts.{columns_few}
use Rattle.presolve.proofs.PointFacts.{cost_there, few}
use Rattle.presolve.proofs.PoolFacts.{all_few}
use Rattle.presolve.proofs.ProgramFacts.{costs_are, paid_near, sizes_are}
use Rattle.presolve.proofs.PromiseFacts.{kept_are}
use Rattle.presolve.proofs.RowFacts.{factors_small, flipped_constraint, kept_few, landed, landed_row_is, landed_within, one_constraint, row_there_at}
use Rattle.presolve.proofs.SumLaws.{total_same, total_zero}

abbrev size : ℤ → ℤ
size z = pos (unsigned_abs z)

size_sum : (a b : ℤ) → size (a +ℤ b) ≤ℤ (size a +ℤ size b)
size_sum a b = omega (arith, ints)

module _ (parts : Parts) (pool : List CutName) (box : Box) (scenario : IsScenario parts)
    (cuts : IsPoolOf parts pool) (made : IsBoxOf parts box) (tight : IsTight parts box) where
  abbrev all_columns : List Var
  all_columns = columns_of parts box

  whole : IsWhole parts.flights box
  whole = whole_box parts box made tight

  -- a factor lands on one column at the most
  if_size : (b : Bool) (factor : ℤ)
      → size (if b then factor else pos 0) ≡ (if b then size factor else pos 0)
  if_size true factor = refl
  if_size false factor = refl

  lands_once : (factor : ℤ) (variable : Var) → IsThere parts.flights variable
      → left_of parts.flights box variable ≡ Free
      → total (λ column. size (if is_same variable column then factor else pos 0)) all_columns
      ≡ size factor
  lands_once factor variable there free =
      total_same (λ column. size (if is_same variable column then factor else pos 0))
      (λ column. if is_same variable column then size factor else pos 0) all_columns
      (λ column. if_size (is_same variable column) factor)
      ∙ once parts scenario box made (λ column. size factor) variable there free

  lands_nowhere : total (λ column. size (pos 0)) all_columns ≡ pos 0
  lands_nowhere = total_zero (λ column. size (pos 0)) all_columns (λ column. refl)

  one_term : (term : Term) → IsThere parts.flights term.variable
      → (total (λ column. size (part_on parts box column term)) all_columns
      +ℤ size (part_fixed parts box term)) ≤ℤ size term.factor
  one_term term there = by (left_of parts.flights box term.variable) refl
    where
      by : (left : Left) → left_of parts.flights box term.variable ≡ left
          → (total (λ column. size
          (if is_on left term.variable column then term.factor else pos 0)) all_columns
          +ℤ size (if is_one left then term.factor else pos 0)) ≤ℤ size term.factor
      by Zero is = omega (arith, ints, lands_nowhere)
      by One is = omega (arith, ints, lands_nowhere)
      by (Same other) is =
          let all = lands_once term.factor other (whole.there term.variable other is)
          (whole.same term.variable other is) in
          omega (arith, ints, all)
      by Free is = let all = lands_once term.factor term.variable there is in
          omega (arith, ints, all)

  -- and so all factors together are no larger than before
  all_terms : (terms : List Term) → All (λ term. IsThere parts.flights term.variable) terms
      → (total (λ column. size (coefficient_of parts box terms column)) all_columns
      +ℤ size (fixed_of parts box terms)) ≤ℤ total (λ term. size term.factor) terms
  all_terms [] there = omega (arith, ints, lands_nowhere)
  all_terms (term ∷ terms) there =
      let own : Var → ℤ = λ column. size (part_on parts box column term) in
      let rest : Var → ℤ = λ column. size (coefficient_of parts box terms column) in
      let less = total-le (λ column. size (coefficient_of parts box (term ∷ terms) column))
      (λ column. own column +ℤ rest column) all_columns
      (λ k d within. size_sum (part_on parts box (get_or all_columns k d) term)
      (coefficient_of parts box terms (get_or all_columns k d))) in
      let both = total-both own rest all_columns in
      let here = one_term term (there 0 term (omega arith)) in
      let more = all_terms terms
      (All-tail (λ (t : Term). IsThere parts.flights t.variable) term terms there) in
      let fixed = size_sum (part_fixed parts box term) (fixed_of parts box terms) in
      omega (arith, ints, less, both, here, more, fixed)

  factors_most : (terms : List Term) → All (λ term. unsigned_abs term.factor ≤ most_factor) terms
      → sum_by (λ (term : Term). unsigned_abs term.factor) terms ≤ length terms * most_factor
  factors_most [] small = omega arith
  factors_most (term ∷ terms) small =
      let all = sum_by-cons (λ (t : Term). unsigned_abs t.factor) term terms in
      let one = small 0 term (omega arith) in
      let more = factors_most terms
      (All-tail (λ (t : Term). unsigned_abs t.factor ≤ most_factor) term terms small) in
      omega (arith, all, one, more)

  -- the row that terms make
  abbrev row_for : List Term → Gathered
  row_for terms = record {
    entries = entries_from (coefficient_of parts box terms) 0 all_columns;
    fixed = fixed_of parts box terms;
  }

  lands : (terms : List Term) → All (λ term. IsThere parts.flights term.variable) terms
      → All (λ term. unsigned_abs term.factor ≤ most_factor) terms
      → IsLanded parts box terms (row_for terms)
  lands terms there small = record {
    entries = refl;
    fixed = refl;
    size =
        let factor : Var → ℤ = coefficient_of parts box terms in
        let all = all_terms terms there in
        let left = sym (total_map size factor all_columns)
        ∙ total-natural unsigned_abs (map factor all_columns)
        ∙ ap pos (entries_size factor all_columns 0) in
        let right = total-natural (λ (term : Term). unsigned_abs term.factor) terms in
        let most = factors_most terms small in
        omega (arith, ints, all, left, right, most);
  }

  -- what the columns cost
  costs_landed : IsLanded parts box (cost_row parts).terms (row_for (cost_row parts).terms)
  costs_landed =
      lands (cost_row parts).terms (cost_there parts)
      (terms_small parts (cost_row parts) (cost_row parts).terms refl refl scenario)

  abbrev values : List ℤ
  values =
      map (entry_at (row_for (cost_row parts).terms).entries)
      (range_with_len 0 (length all_columns))

  abbrev paid : ℤ
  paid = ((cost_row parts).constant +ℤ fixed_of parts box (cost_row parts).terms)
      +ℤ total (λ value. int_min (pos 0) value) values

  have_costs : HaveCosts parts box values paid
  have_costs =
      are_costs parts box (cost_row parts) (row_for (cost_row parts).terms) (cost_row parts).terms
      refl refl scenario costs_landed values (length all_columns) refl refl paid
      (total (λ value. int_min (pos 0) value) values) refl refl

  abbrev sizes : List ℤ
  sizes = map (λ value. pos (unsigned_abs value)) values

  costs_near : All IsCost (program_of parts pool box).costs
  costs_near =
      subst (All IsCost) (costs_are parts box values paid have_costs sizes refl)
      (sizes_are parts box values paid have_costs sizes refl)

  constant_near : nat_abs (program_of parts pool box).constant ≤ most_entry
  constant_near =
      subst (λ n. nat_abs n ≤ most_entry) have_costs.constant
      (paid_near parts box values paid have_costs)

  -- the rows
  abbrev count : ℕ
  count = columns (program_of parts pool box)

  row_landed : (name : RowName) → is_row_with parts pool name ≡ true
      → IsLandedRow parts pool box name (row_in parts pool box name).terms
      (row_in parts pool box name).limit
  row_landed name is =
      landed parts pool name (row_with parts pool name) refl box
      (row_for (row_with parts pool name).terms) (row_in parts pool box name).limit scenario is
      (lands (row_with parts pool name).terms
      (row_there_at parts pool name (row_with parts pool name) refl scenario is)
      (factors_small parts pool name (row_with parts pool name) refl))
      refl

  row_near : (name : RowName) → is_row_with parts pool name ≡ true
      → IsConstraint count (kept_row parts pool box name)
  row_near name is =
      let row = row_in parts pool box name in
      let on = row_landed name is in
      flipped_constraint (flipped_of parts box) row.terms row.limit
      (kept_row parts pool box name).limit count (kept_row parts pool box name).terms
      (landed_row_is parts pool box name row.terms row.limit on)
      (landed_within parts pool box name row.terms row.limit count on (sym (few parts pool box)))
      on.size on.near refl refl

  ones_near : (from many : ℕ) → from + many ≤ count
      → All (IsConstraint count) (map at_most_one (range_with_len from many))
  ones_near from zero within = All-nil (IsConstraint count)
  ones_near from (suc many) within =
      All-cons (IsConstraint count) (at_most_one from)
      (map at_most_one (range_with_len (from + 1) many))
      (one_constraint from count (omega (arith, within)))
      (ones_near (from + 1) many (omega (arith, within)))

  rows_near : All (IsConstraint count) (program_of parts pool box).constraints
  rows_near =
      All-append (IsConstraint count) (map (kept_row parts pool box) (kept_of parts pool box))
      (map at_most_one (range_with_len 0 (length all_columns)))
      (All-map (IsConstraint count) (kept_row parts pool box) (kept_of parts pool box)
      (λ k d within. row_near (get_or (kept_of parts pool box) k d)
      (kept_are parts pool box cuts k d within)))
      (ones_near 0 (length all_columns) (omega (arith, few parts pool box)))

  pub problem : IsProblem (program_of parts pool box)
  problem = record {
    costs = costs_near;
    constant = constant_near;
    constraints = rows_near;
    few =
        let both = length-append (map (kept_row parts pool box) (kept_of parts pool box))
        (map at_most_one (range_with_len 0 (length all_columns))) in
        let kept = length-map (kept_of parts pool box) (kept_row parts pool box) in
        let ones = length-map-range_with_len at_most_one 0 (length all_columns) in
        let rows = all_few parts pool cuts scenario in
        let less = kept_few parts pool box (rows_with parts pool) in
        let cols = columns_few parts scenario box in
        let same = few parts pool box in
        omega (arith, both, kept, ones, rows, less, cols, same);
  }
