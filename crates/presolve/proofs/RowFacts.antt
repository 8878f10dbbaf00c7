-- The rows of the program.
use Rattle.std.proofs.Common.{◌≡◌, ◌≢◌, ℕ, suc, ◌+◌, ◌^◌, ◌<◌, ◌≤◌, Bool, true, false, List, [], ◌∷◌, ◌++◌, length, map, get_or, take, if◌then◌else◌, All, AllPairs, int_lt, ℤ, pos, negsuc, neg_ℤ, ◌-ℤ◌, unsigned_abs, nat_abs, refl, sym, ap, ◌∙◌, subst, arith}
use Rattle.std.proofs.lemmas.Bool.Decides.{Decides-int_eq}
use Rattle.std.proofs.lemmas.Int.{ints}
use Rattle.std.proofs.lemmas.List.{append-nil, append_assoc, get_or-map, length-append, length-map, length-take-le, map-append}
use Rattle.std.proofs.lemmas.List.Elements.{All-append, All-cons, All-nil, filter_more}
use Rattle.std.proofs.lemmas.List.FromFn.{length-map-range_with_len, map-range_with_len_more}
use Rattle.std.proofs.lemmas.List.Kept.{AllPairs-cons}
use Rattle.std.specs.List.{range_with_len}
use Rattle.std.specs.Ordering.{int_eq}
use Rattle.exact_sums.proofs.ShortLists.{no_pairs}
use Rattle.flow_types.specs.declared.parts.Parts.{Parts}
use Rattle.flow_types.specs.Valid.{IsScenario}
use Rattle.row_arena.specs.declared.entry.Entry.{Entry}
use Rattle.row_arena.specs.Rows.{IsRow, most_entry, unless_zero}
use Rattle.scaled_simplex.specs.Program.{Constraint, IsConstraint, Problem, columns}
use Rattle.time_windows.specs.Boxes.{Box}
use Rattle.bytime_model.specs.declared.names.RowName.{RowName}
use Rattle.bytime_model.specs.declared.variables.Var.{Var}
use Rattle.bytime_model.specs.Rows.{AtMost}
use Rattle.bytime_model.specs.Columns.{IsThere}
use Rattle.cut_rows.specs.declared.names.CutName.{CutName}
use Rattle.cut_rows.specs.Pools.{is_row_with, row_with}
use Rattle.cut_rows.proofs.PoolRows.{few_with, limit_with, there_with}
use Rattle.dual_sums.proofs.RowGrowFacts.{row_small}
use Rattle.presolve.specs.Gathering.{Gathered, IsLanded, most_factor, most_gathered, size_of}
use Rattle.presolve.specs.Landed.{coefficient_of, entries_from, fixed_of}
use Rattle.presolve.specs.Listing.{AddsRow, AddsRows, IsLandedRow, kept_among, kept_if, most_size, with_rows}
use Rattle.presolve.specs.Relaxed.{flipped_part, at_most_one, flipped_entry, flipped_of, flipped_row, flipped_sum, greatest, is_flipped, kept_row, may_exceed, row_in}
use Rattle.presolve.specs.Variables.{columns_of}
use Rattle.presolve.proofs.FlipFacts.{entries_within, flipped_within}
use Rattle.presolve.proofs.RaiseFacts.{item_size}
use Rattle.presolve.proofs.TotalFacts.{flipped_small, size_part, total_small}

abs_less : (a b : ℤ) → unsigned_abs (a -ℤ b) ≤ unsigned_abs a + unsigned_abs b
abs_less a b = omega (arith, ints)

-- what landing asks of a row's terms
module _ (parts : Parts) (pool : List CutName) (name : RowName) (row : AtMost)
    (is : row ≡ row_with parts pool name) where
  pub row_there_at : IsScenario parts → is_row_with parts pool name ≡ true
      → All (λ term. IsThere parts.flights term.variable) row.terms
  row_there_at scenario told =
      subst (λ (r : AtMost). All (λ term. IsThere parts.flights term.variable) r.terms) (sym is)
      (there_with parts pool name scenario told)

  pub factors_small : All (λ term. unsigned_abs term.factor ≤ most_factor) row.terms
  factors_small =
      subst (λ (r : AtMost). All (λ term. unsigned_abs term.factor ≤ most_factor) r.terms) (sym is)
      (λ k d within. let one = row_small parts pool name k d within in omega (arith, one))

  pub few_landed : IsScenario parts → is_row_with parts pool name ≡ true
      → length row.terms ≤ most_gathered
  few_landed scenario told =
      let few = few_with parts pool name scenario told in
      let same = ap (λ (r : AtMost). length r.terms) is in
      omega (arith, few, same)

  pub limit_near : (box : Box) (gathered : Gathered) → IsScenario parts
      → is_row_with parts pool name ≡ true → IsLanded parts box row.terms gathered
      → unsigned_abs row.limit + unsigned_abs gathered.fixed < 2 ^ 62
  limit_near box gathered scenario told landed =
      let most = limit_with parts pool name scenario in
      let same = ap (λ (r : AtMost). unsigned_abs r.limit) is in
      let size = landed.size in
      let few = few_with parts pool name scenario told in
      let terms = ap (λ (r : AtMost). length r.terms) is in
      omega (arith, most, same, size, few, terms)

  pub landed : (box : Box) (gathered : Gathered) (limit : ℤ) → IsScenario parts
      → is_row_with parts pool name ≡ true → IsLanded parts box row.terms gathered
      → limit ≡ row.limit -ℤ gathered.fixed
      → IsLandedRow parts pool box name gathered.entries limit
  landed box gathered limit scenario told lands less = record {
    terms = lands.entries
        ∙ ap (λ (r : AtMost). entries_from (coefficient_of parts box r.terms) 0
        (columns_of parts box)) is;
    limit = less ∙ ap (λ n. row.limit -ℤ n) lands.fixed
        ∙ ap (λ (r : AtMost). r.limit -ℤ fixed_of parts box r.terms) is;
    size =
        let size = lands.size in
        let few = few_with parts pool name scenario told in
        let terms = ap (λ (r : AtMost). length r.terms) is in
        omega (arith, size, few, terms);
    near =
        let size = lands.size in
        let few = few_with parts pool name scenario told in
        let terms = ap (λ (r : AtMost). length r.terms) is in
        let most = limit_with parts pool name scenario in
        let same = ap (λ (r : AtMost). unsigned_abs r.limit) is in
        let both = abs_less row.limit gathered.fixed in
        let now = ap unsigned_abs less in
        omega (arith, size, few, terms, most, same, both, now);
  }

-- a row made of values is one
pub from_le : (factor : Var → ℤ) (columns : List Var) (from : ℕ)
    → All (λ entry. from ≤ entry.column) (entries_from factor from columns)
from_le factor [] from = All-nil (λ (entry : Entry). from ≤ entry.column)
from_le factor (column ∷ columns) from =
    All-append (λ (entry : Entry). from ≤ entry.column) (unless_zero from (factor column))
    (entries_from factor (from + 1) columns) (by (int_eq (factor column) (pos 0)))
    (λ k d below. let more = from_le factor columns (from + 1) k d below in omega (arith, more))
  where
    here : Entry
    here = record { column = from; value = factor column }

    by : (b : Bool) → All (λ (entry : Entry). from ≤ entry.column) (if b then [] else here ∷ [])
    by true = All-nil (λ (entry : Entry). from ≤ entry.column)
    by false = All-cons (λ (entry : Entry). from ≤ entry.column) here [] (omega arith)
        (All-nil (λ (entry : Entry). from ≤ entry.column))

abbrev Ascends : Entry → Entry → Type 0
Ascends a b = a.column < b.column

ascends : (factor : Var → ℤ) (columns : List Var) (from : ℕ)
    → AllPairs Ascends (entries_from factor from columns)
ascends factor [] from = no_pairs Ascends
ascends factor (column ∷ columns) from =
    by (int_eq (factor column) (pos 0)) (ascends factor columns (from + 1))
  where
    here : Entry
    here = record { column = from; value = factor column }

    by : (b : Bool) → AllPairs Ascends (entries_from factor (from + 1) columns)
        → AllPairs Ascends ((if b then [] else here ∷ []) ++ entries_from factor (from + 1) columns)
    by true more = more
    by false more =
        AllPairs-cons Ascends here (entries_from factor (from + 1) columns)
        (λ k d below. let past = from_le factor columns (from + 1) k d below in omega (arith, past))
        more

some_each : (factor : Var → ℤ) (columns : List Var) (from : ℕ)
    → All (λ entry. entry.value ≢ pos 0) (entries_from factor from columns)
some_each factor [] from = All-nil (λ (entry : Entry). entry.value ≢ pos 0)
some_each factor (column ∷ columns) from =
    All-append (λ (entry : Entry). entry.value ≢ pos 0) (unless_zero from (factor column))
    (entries_from factor (from + 1) columns) (by (int_eq (factor column) (pos 0)) refl)
    (some_each factor columns (from + 1))
  where
    here : Entry
    here = record { column = from; value = factor column }

    by : (b : Bool) → int_eq (factor column) (pos 0) ≡ b
        → All (λ (entry : Entry). entry.value ≢ pos 0) (if b then [] else here ∷ [])
    by true is = All-nil (λ (entry : Entry). entry.value ≢ pos 0)
    by false isnt =
        All-cons (λ (entry : Entry). entry.value ≢ pos 0) here []
        (λ zeros. let is = (Decides-int_eq (factor column) (pos 0)).1 zeros in
        absurd (let e : false ≡ true = sym isnt ∙ is in cc))
        (All-nil (λ (entry : Entry). entry.value ≢ pos 0))

pub row_made : (factor : Var → ℤ) (columns : List Var) (entries : List Entry)
    → entries ≡ entries_from factor 0 columns → size_of entries ≤ most_entry → IsRow entries
row_made factor columns entries are small = record {
  ascending = subst (λ list. AllPairs Ascends list) (sym are) (ascends factor columns 0);
  no_zeros = subst (λ list. All (λ (entry : Entry). entry.value ≢ pos 0) list) (sym are)
      (some_each factor columns 0);
  near = λ k d below. let one = item_size entries k d below in omega (arith, one, small);
}

pub landed_row_is : (parts : Parts) (pool : List CutName) (box : Box) (name : RowName)
    (entries : List Entry) (limit : ℤ) → IsLandedRow parts pool box name entries limit
    → IsRow entries
landed_row_is parts pool box name entries limit row =
    row_made (coefficient_of parts box (row_with parts pool name).terms) (columns_of parts box)
    entries row.terms (let size = row.size in omega (arith, size))

pub landed_within : (parts : Parts) (pool : List CutName) (box : Box) (name : RowName)
    (entries : List Entry) (limit : ℤ) (count : ℕ) → IsLandedRow parts pool box name entries limit
    → count ≡ length (columns_of parts box) → All (λ entry. entry.column < count) entries
landed_within parts pool box name entries limit count row same =
    subst (λ list. All (λ (entry : Entry). entry.column < count) list) (sym row.terms)
    (entries_within (coefficient_of parts box (row_with parts pool name).terms)
    (columns_of parts box) 0 count (omega (arith, same)))

-- a row with flipped columns is one
abs_neg : (z : ℤ) → unsigned_abs (neg_ℤ z) ≡ unsigned_abs z
abs_neg z = omega (arith, ints)

module _ (flips : List Bool) where
  flipped_get : (entries : List Entry) (k : ℕ) (d : Entry) → k < length entries
      → get_or (map (flipped_entry flips) entries) k d ≡ flipped_entry flips (get_or entries k d)
  flipped_get entries k d below = get_or-map (flipped_entry flips) entries k d d below

  flipped_size : (entry : Entry) → unsigned_abs (flipped_entry flips entry).value
      ≡ unsigned_abs entry.value
  flipped_size entry = by (is_flipped flips entry)
    where
      by : (b : Bool) → unsigned_abs (if b then neg_ℤ entry.value else entry.value)
          ≡ unsigned_abs entry.value
      by true = abs_neg entry.value
      by false = refl

  flipped_some : (entry : Entry) → entry.value ≢ pos 0
      → (flipped_entry flips entry).value ≢ pos 0
  flipped_some entry some zeros =
      let size = flipped_size entry in
      let none = ap unsigned_abs zeros in
      some (is_zero entry.value (omega (arith, size, none)))
    where
      is_zero : (z : ℤ) → unsigned_abs z ≡ 0 → z ≡ pos 0
      is_zero (pos n) none = ap pos none
      is_zero (negsuc n) none = absurd (omega (arith, none))

  flipped_is : (entries : List Entry) → IsRow entries → IsRow (map (flipped_entry flips) entries)
  flipped_is entries is = record {
    ascending = λ i j d less below.
        let long = length-map entries (flipped_entry flips) in
        let under : j < length entries = omega (arith, below, long) in
        let one = ap (λ (e : Entry). e.column)
        (flipped_get entries i d (omega (arith, less, under))) in
        let two = ap (λ (e : Entry). e.column) (flipped_get entries j d under) in
        let order = is.ascending i j d less under in
        omega (arith, one, two, order);
    no_zeros = λ k d below.
        let long = length-map entries (flipped_entry flips) in
        let under : k < length entries = omega (arith, below, long) in
        subst (λ (e : Entry). e.value ≢ pos 0) (sym (flipped_get entries k d under))
        (flipped_some (get_or entries k d) (is.no_zeros k d under));
    near = λ k d below.
        let long = length-map entries (flipped_entry flips) in
        let under : k < length entries = omega (arith, below, long) in
        let same = ap (λ (e : Entry). unsigned_abs e.value) (flipped_get entries k d under) in
        let size = flipped_size (get_or entries k d) in
        let most = is.near k d under in
        omega (arith, same, size, most);
  }

  pub flipped_constraint : (entries : List Entry) (limit less : ℤ) (count : ℕ) (now : List Entry)
      → IsRow entries → All (λ entry. entry.column < count) entries
      → size_of entries ≤ most_size → unsigned_abs limit ≤ most_size
      → less ≡ limit -ℤ flipped_sum flips entries → now ≡ map (flipped_entry flips) entries
      → IsConstraint count (record { terms = now; limit = less })
  flipped_constraint entries limit less count now is within size near taken flipped = record {
    terms = subst IsRow (sym flipped) (flipped_is entries is);
    within = subst (λ list. All (λ (entry : Entry). entry.column < count) list) (sym flipped)
        (flipped_within flips entries count within);
    near =
        let both = abs_less limit (flipped_sum flips entries) in
        let sum = total_small (flipped_part flips) size_part (flipped_small flips) entries in
        let same = ap unsigned_abs taken in
        omega (arith, both, sum, same, size, near);
  }

  pub sum_small : (entries : List Entry) (limit sum : ℤ) → sum ≡ flipped_sum flips entries
      → size_of entries ≤ most_size → unsigned_abs limit ≤ most_size
      → unsigned_abs limit + unsigned_abs sum < 2 ^ 62
  sum_small entries limit sum is size near =
      let total = total_small (flipped_part flips) size_part (flipped_small flips) entries in
      let same = ap unsigned_abs is in
      omega (arith, total, same, size, near)

pub entries_small : (entries : List Entry) → size_of entries ≤ most_size
    → All (λ entry. unsigned_abs entry.value < 2 ^ 62) entries
entries_small entries size k d below =
    let one = item_size entries k d below in omega (arith, one, size)

-- a row more, or none
module _ (parts : Parts) (pool : List CutName) (box : Box) (name : RowName) where
  told_by : (entries : List Entry) (limit : ℤ) → IsLandedRow parts pool box name entries limit
      → int_lt limit (greatest entries) ≡ may_exceed (row_in parts pool box name)
  told_by entries limit row =
      ap (λ n. int_lt n (greatest entries)) row.limit
      ∙ ap (λ list. int_lt (row_in parts pool box name).limit (greatest list)) row.terms

  pub kept_one : (entries : List Entry) (limit : ℤ) → IsLandedRow parts pool box name entries limit
      → int_lt limit (greatest entries) ≡ true → kept_if parts pool box name ≡ name ∷ []
  kept_one entries limit row exceeds =
      ap (λ b. if b then name ∷ [] else []) (sym (told_by entries limit row) ∙ exceeds)

  pub kept_none : (entries : List Entry) (limit : ℤ) → IsLandedRow parts pool box name entries limit
      → int_lt limit (greatest entries) ≡ false → kept_if parts pool box name ≡ []
  kept_none entries limit row below =
      ap (λ b. if b then name ∷ [] else []) (sym (told_by entries limit row) ∙ below)

  pub adds_kept : (entries : List Entry) (limit : ℤ) (flips : List Bool) (old new : Problem)
      (before after : List RowName) → IsLandedRow parts pool box name entries limit
      → int_lt limit (greatest entries) ≡ true → flips ≡ flipped_of parts box
      → new ≡ with_rows old (flipped_row flips (record { terms = entries; limit = limit }) ∷ [])
      → after ≡ before ++ name ∷ [] → AddsRow parts pool box name old new before after
  adds_kept entries limit flips old new before after row exceeds are added named =
      let one = kept_one entries limit row exceeds in
      record {
        program = added
            ∙ ap (λ list. with_rows old (flipped_row list
            (record { terms = entries; limit = limit }) ∷ [])) are
            ∙ ap (λ list. with_rows old (flipped_row (flipped_of parts box)
            (record { terms = list; limit = limit }) ∷ [])) row.terms
            ∙ ap (λ n. with_rows old (flipped_row (flipped_of parts box)
            (record { terms = (row_in parts pool box name).terms; limit = n }) ∷ [])) row.limit
            ∙ ap (λ names. with_rows old (map (kept_row parts pool box) names)) (sym one);
        kept = named ∙ ap (λ names. before ++ names) (sym one);
      }

  pub adds_none : (entries : List Entry) (limit : ℤ) (problem : Problem) (names : List RowName)
      → IsLandedRow parts pool box name entries limit → int_lt limit (greatest entries) ≡ false
      → AddsRow parts pool box name problem problem names names
  adds_none entries limit problem names row below =
      let none = kept_none entries limit row below in
      record {
        program = sym (ap (λ (rows : List Constraint). with_rows problem rows)
            (ap (map (kept_row parts pool box)) none) ∙ no_rows problem);
        kept = sym (ap (λ more. names ++ more) none ∙ append-nil names);
      }
    where
      no_rows : (p : Problem) → with_rows p [] ≡ p
      no_rows p = ap (λ rows. record {
        costs = p.costs;
        constant = p.constant;
        constraints = rows;
      }) (append-nil p.constraints)

-- the rows of the first so many names
module _ (parts : Parts) (pool : List CutName) (box : Box) where
  pub rows_none : (problem : Problem) (names : List RowName)
      → AddsRows parts pool box [] problem problem names names
  rows_none problem names = record {
    program = sym (ap (λ rows. record {
      costs = problem.costs;
      constant = problem.constant;
      constraints = rows;
    }) (append-nil problem.constraints));
    kept = sym (append-nil names);
  }

  kept_more : (names : List RowName) (i : ℕ) (d : RowName) → i < length names
      → kept_among parts pool box (take (i + 1) names)
      ≡ kept_among parts pool box (take i names) ++ kept_if parts pool box (get_or names i d)
  kept_more names i d within =
      filter_more (λ name. may_exceed (row_in parts pool box name)) names i d within

  pub rows_more : (names : List RowName) (i : ℕ) (d : RowName) (first old new : Problem)
      (start before after : List RowName) → i < length names
      → AddsRows parts pool box (take i names) first old start before
      → AddsRow parts pool box (get_or names i d) old new before after
      → AddsRows parts pool box (take (i + 1) names) first new start after
  rows_more names i d first old new start before after within rows one = record {
    program = one.program
        ∙ ap (λ (p : Problem). with_rows p (map (kept_row parts pool box) more)) rows.program
        ∙ ap (λ list. record {
          costs = first.costs;
          constant = first.constant;
          constraints = list;
        }) (append_assoc first.constraints (map (kept_row parts pool box) some)
        (map (kept_row parts pool box) more)
        ∙ ap (λ list. first.constraints ++ list)
        (sym (map-append (kept_row parts pool box) some more))
        ∙ ap (λ list. first.constraints ++ map (kept_row parts pool box) list)
        (sym (kept_more names i d within)));
    kept = one.kept ∙ ap (λ list. list ++ more) rows.kept ∙ append_assoc start some more
        ∙ ap (λ list. start ++ list) (sym (kept_more names i d within));
  }
    where
      some : List RowName
      some = kept_among parts pool box (take i names)

      more : List RowName
      more = kept_if parts pool box (get_or names i d)

  if_few : (name : RowName) → length (kept_if parts pool box name) ≤ 1
  if_few name = by (may_exceed (row_in parts pool box name))
    where
      by : (b : Bool) → length (if b then name ∷ [] else []) ≤ 1
      by true = omega arith
      by false = omega arith

  pub kept_few : (names : List RowName) → length (kept_among parts pool box names) ≤ length names
  kept_few [] = omega arith
  kept_few (name ∷ names) = by (may_exceed (row_in parts pool box name)) (kept_few names)
    where
      by : (b : Bool) → length (kept_among parts pool box names) ≤ length names
          → length (if b then name ∷ kept_among parts pool box names
          else kept_among parts pool box names) ≤ suc (length names)
      by true more = omega (arith, more)
      by false more = omega (arith, more)

  -- there is room for a row more
  pub rows_room : (names : List RowName) (i : ℕ) (first old : Problem)
      (start before : List RowName) (most : ℕ) → i < length names
      → AddsRows parts pool box (take i names) first old start before
      → columns first + length first.constraints + length names ≤ most
      → columns old + length old.constraints < most
  rows_room names i first old start before most within rows few =
      let cols = ap columns rows.program in
      let long = ap (λ (p : Problem). length p.constraints) rows.program in
      let sum = length-append first.constraints
      (map (kept_row parts pool box) (kept_among parts pool box (take i names))) in
      let mapped = length-map (kept_among parts pool box (take i names))
      (kept_row parts pool box) in
      let less = kept_few (take i names) in
      let taken = length-take-le i names (omega (arith, within)) in
      omega (arith, cols, long, sum, mapped, less, taken, few, within)

  pub rows_columns : (names : List RowName) (i : ℕ) (first old : Problem)
      (start before : List RowName) (count : ℕ)
      → AddsRows parts pool box (take i names) first old start before → columns first ≡ count
      → columns old ≡ count
  rows_columns names i first old start before count rows same = ap columns rows.program ∙ same

-- that a column is at most 1
pub one_constraint : (column count : ℕ) → column < count → IsConstraint count (at_most_one column)
one_constraint column count within = record {
  terms = record {
    ascending = λ i j d less below. absurd (omega (arith, less, below));
    no_zeros = All-cons (λ (entry : Entry). entry.value ≢ pos 0) here [] (λ none. cc)
        (All-nil (λ (entry : Entry). entry.value ≢ pos 0));
    near = All-cons (λ (entry : Entry). nat_abs entry.value ≤ most_entry) here [] (omega arith)
        (All-nil (λ (entry : Entry). nat_abs entry.value ≤ most_entry));
  };
  within = All-cons (λ (entry : Entry). entry.column < count) here [] within
      (All-nil (λ (entry : Entry). entry.column < count));
  near = omega arith;
}
  where
    here : Entry
    here = record { column = column; value = pos 1 }

-- that the first so many are
pub record AreOnes (count : ℕ) (first now : Problem) : Type 0 where
  pub are : now ≡ with_rows first (map at_most_one (range_with_len 0 count))

pub ones_none : (problem : Problem) → AreOnes 0 problem problem
ones_none problem = record {
  are = sym (ap (λ rows. record {
    costs = problem.costs;
    constant = problem.constant;
    constraints = rows;
  }) (append-nil problem.constraints));
}

pub ones_more : (count : ℕ) (first old new : Problem) → AreOnes count first old
    → new ≡ with_rows old (at_most_one count ∷ []) → AreOnes (count + 1) first new
ones_more count first old new ones one = record {
  are = one
      ∙ ap (λ (p : Problem). with_rows p (at_most_one count ∷ [])) ones.are
      ∙ ap (λ list. record {
        costs = first.costs;
        constant = first.constant;
        constraints = list;
      }) (append_assoc first.constraints (map at_most_one (range_with_len 0 count))
      (at_most_one count ∷ [])
      ∙ ap (λ list. first.constraints ++ list)
      (sym (map-range_with_len_more at_most_one 0 count count (omega arith))));
}

pub ones_room : (count all most : ℕ) (first old : Problem) → AreOnes count first old
    → count < all → columns first + length first.constraints + all ≤ most
    → columns old + length old.constraints < most
ones_room count all most first old ones less few =
    let cols = ap columns ones.are in
    let long = ap (λ (p : Problem). length p.constraints) ones.are in
    let sum = length-append first.constraints (map at_most_one (range_with_len 0 count)) in
    let mapped = length-map-range_with_len at_most_one 0 count in
    omega (arith, cols, long, sum, mapped, less, few)

pub ones_within : (count all : ℕ) (first old : Problem) → AreOnes count first old → count < all
    → all ≡ columns first → count < columns old
ones_within count all first old ones less same =
    let cols = ap columns ones.are in omega (arith, cols, less, same)

pub greatest_room : (parts : Parts) (pool : List CutName) (box : Box) (name : RowName)
    (entries : List Entry) (limit : ℤ) → IsLandedRow parts pool box name entries limit
    → size_of entries < 2 ^ 62
greatest_room parts pool box name entries limit row =
    let size = row.size in omega (arith, size)
