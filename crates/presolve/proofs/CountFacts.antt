-- Counting the entries of the program's first tableau.
use Rattle.std.proofs.Common.{◌≡◌, ℕ, zero, suc, ◌+◌, ◌*◌, ◌<◌, ◌≤◌, Bool, true, false, List, [], ◌∷◌, ◌++◌, length, map, get_or, take, sum_by, if◌then◌else◌, int_lt, ℤ, Option, None, Some, refl, sym, ap, ◌∙◌, subst, arith}
use Rattle.std.proofs.lemmas.List.{length-append, length-map, take_more}
use Rattle.std.proofs.lemmas.List.FromFn.{length-range_with_len}
use Rattle.std.proofs.lemmas.List.Sums.{sum_by-append, sum_by-cons, sum_by-take-le}
use Rattle.std.specs.List.{flat_map, range_with_len}
use Rattle.exact_sums.proofs.RangeFacts.{sum_next}
use Rattle.flow_types.specs.declared.parts.Parts.{Parts}
use Rattle.row_arena.specs.declared.entry.Entry.{Entry}
use Rattle.row_arena.specs.Arena.{live}
use Rattle.row_arena.specs.Rows.{unless_zero}
use Rattle.scaled_simplex.specs.Program.{Problem, columns}
use Rattle.scaled_simplex.specs.Tableau.{constraint_row, constraint_rows, cost_row, one_at, right_side}
use Rattle.time_windows.specs.Boxes.{Box}
use Rattle.bytime_model.specs.declared.names.RowName.{RowName}
use Rattle.cut_rows.specs.declared.names.CutName.{CutName}
use Rattle.cut_rows.specs.Pools.{rows_with}
use Rattle.presolve.specs.declared.tally.Refused.{Refused}
use Rattle.presolve.specs.declared.tally.Refused.TheVariants as refused
use Rattle.presolve.specs.declared.tally.Tally.{Tally}
use Rattle.presolve.specs.Counting.{IfWide, IsCounted, IsPast, column_entries, flight_entries, row_entries}
use Rattle.presolve.specs.Listing.{IsLandedRow, kept_among}
use Rattle.presolve.specs.Presolved.{entries_of}
use Rattle.presolve.specs.Relaxed.{at_most_one, flipped_entry, flipped_of, greatest, kept_row, may_exceed, program_of, row_in}
use Rattle.presolve.specs.Variables.{columns_of, flight_columns}

-- what is past the room stays so
pub past_more : (cells : Option ℕ) (few many : ℕ) → few ≤ many → IsPast cells few
    → IsPast cells many
past_more None few many more past = past
past_more (Some cells) few many more past = omega (arith, more, past)

pub wide_more : (reason : Refused) (cells : Option ℕ) (few many : ℕ) → few ≤ many
    → IfWide reason (IsPast cells few) → IfWide reason (IsPast cells many)
wide_more refused.Wide cells few many more past = past_more cells few many more past
wide_more refused.OutOfMemory cells few many more past = past

pub none_counted : (tally : Tally) → IsCounted 0 tally tally
none_counted tally = record { upto = omega arith; cells = refl }

pub counted_both : (few more all : ℕ) (first old new : Tally) → IsCounted few first old
    → IsCounted more old new → few + more ≡ all → IsCounted all first new
counted_both few more all first old new some next sum = record {
  upto = let one = some.upto in let two = next.upto in omega (arith, one, two, sum);
  cells = next.cells ∙ some.cells;
}

-- what the next ones have past the room, all have
pub wide_both : (few more all : ℕ) (first old : Tally) (reason : Refused)
    → IsCounted few first old → few + more ≤ all
    → IfWide reason (IsPast old.cells (old.entries + more))
    → IfWide reason (IsPast first.cells (first.entries + all))
wide_both few more all first old reason some sum why =
    wide_more reason first.cells (old.entries + more) (first.entries + all)
    (let one = some.upto in omega (arith, one, sum))
    (subst (λ cells. IfWide reason (IsPast cells (old.entries + more))) some.cells why)

-- sums over the first so many
sum_pushed : {X : Type 0} (part : X → ℕ) (xs : List X) (x : X)
    → sum_by part (xs ++ x ∷ []) ≡ sum_by part xs + part x
sum_pushed part xs x =
    let both = sum_by-append part xs (x ∷ []) in
    let one = sum_by-cons part x [] in
    omega (arith, both, one)

pub sum_taken : {X : Type 0} (part : X → ℕ) (xs : List X) (i : ℕ) (d : X) → i < length xs
    → sum_by part (take i xs) + part (get_or xs i d) ≡ sum_by part (take (i + 1) xs)
sum_taken part xs i d within =
    sym (ap (sum_by part) (take_more xs i d within) ∙ sum_pushed part (take i xs) (get_or xs i d))

pub sum_within : {X : Type 0} (part : X → ℕ) (xs : List X) (i : ℕ) (d : X) → i < length xs
    → sum_by part (take i xs) + part (get_or xs i d) ≤ sum_by part xs
sum_within part xs i d within =
    let one = sum_taken part xs i d within in
    let all = sum_by-take-le part xs (i + 1) in
    omega (arith, one, all)

pub sum_ranged : (part : ℕ → ℕ) (from n : ℕ) → sum_by part (range_with_len from n) + part (from + n)
    ≡ sum_by part (range_with_len from (suc n))
sum_ranged part from zero =
    let here : from + 0 ≡ from = omega arith in
    let one = sum_by-cons part from [] in
    let same = ap part here in
    omega (arith, one, same)
sum_ranged part from (suc n) =
    let here : from + 1 + n ≡ from + suc n = omega arith in
    let more = sum_ranged part (from + 1) n in
    let one = sum_by-cons part from (range_with_len (from + 1) n) in
    let two = sum_by-cons part from (range_with_len (from + 1) (suc n)) in
    let same = ap part here in
    omega (arith, more, one, two, same)

sum_ranged_less : (part : ℕ → ℕ) (from few many : ℕ) → few ≤ many
    → sum_by part (range_with_len from few) ≤ sum_by part (range_with_len from many)
sum_ranged_less part from zero many less = omega arith
sum_ranged_less part from (suc few) zero less = absurd (omega (arith, less))
sum_ranged_less part from (suc few) (suc many) less =
    let more = sum_ranged_less part (from + 1) few many (omega (arith, less)) in
    let one = sum_by-cons part from (range_with_len (from + 1) few) in
    let two = sum_by-cons part from (range_with_len (from + 1) many) in
    omega (arith, more, one, two)

pub sum_ranged_within : (part : ℕ → ℕ) (n all : ℕ) → n < all
    → sum_by part (range_with_len 0 n) + part n ≤ sum_by part (range_with_len 0 all)
sum_ranged_within part n all within =
    let one = sum_next part n in
    let more = sum_ranged_less part 0 (n + 1) all (omega (arith, within)) in
    omega (arith, one, more)

-- a row that has landed
module _ (parts : Parts) (pool : List CutName) (box : Box) (name : RowName) (entries : List Entry)
    (limit : ℤ) (row : IsLandedRow parts pool box name entries limit) where
  told : int_lt limit (greatest entries) ≡ may_exceed (row_in parts pool box name)
  told =
      ap (λ n. int_lt n (greatest entries)) row.limit
      ∙ ap (λ list. int_lt (row_in parts pool box name).limit (greatest list)) row.terms

  kept_entries : int_lt limit (greatest entries) ≡ true
      → row_entries parts pool box name ≡ length entries + 1
  kept_entries exceeds =
      ap (λ b. if b then length (row_in parts pool box name).terms + 1 else 0) (sym told ∙ exceeds)
      ∙ ap (λ (list : List Entry). length list + 1) (sym row.terms)

  no_entries : int_lt limit (greatest entries) ≡ false → row_entries parts pool box name ≡ 0
  no_entries below =
      ap (λ b. if b then length (row_in parts pool box name).terms + 1 else 0) (sym told ∙ below)

  pub row_counted : int_lt limit (greatest entries) ≡ true → (old new : Tally)
      → IsCounted ((length entries + 1) * 1) old new
      → IsCounted (row_entries parts pool box name) old new
  row_counted exceeds old new counted = record {
    upto =
        let upto = counted.upto in
        let same = kept_entries exceeds in
        omega (arith, upto, same);
    cells = counted.cells;
  }

  pub row_uncounted : (tally : Tally) → IsCounted (row_entries parts pool box name) tally tally
  row_uncounted tally = record { upto = omega arith; cells = refl }

  pub row_wide : int_lt limit (greatest entries) ≡ true → (reason : Refused) (cells : Option ℕ)
      (old : ℕ) → IfWide reason (IsPast cells (old + (length entries + 1) * 1))
      → IfWide reason (IsPast cells (old + row_entries parts pool box name))
  row_wide exceeds reason cells old why =
      wide_more reason cells (old + (length entries + 1) * 1)
      (old + row_entries parts pool box name)
      (let same = kept_entries exceeds in omega (arith, same)) why

-- the rows that are kept, and after them one for each column
module _ (parts : Parts) (pool : List CutName) (box : Box) (problem : Problem) where
  ones_hold : (numbers : List ℕ) (k : ℕ)
      → length numbers * 3 ≤ live (constraint_rows problem k (map at_most_one numbers))
  ones_hold [] k = omega arith
  ones_hold (number ∷ numbers) k =
      let more = ones_hold numbers (k + 1) in
      let all = sum_by-cons length (constraint_row problem k (at_most_one number))
      (constraint_rows problem (k + 1) (map at_most_one numbers)) in
      omega (arith, more, all)

  row_long : (name : RowName) (k : ℕ) → length (row_in parts pool box name).terms + 1
      ≤ length (constraint_row problem k (kept_row parts pool box name))
  row_long name k =
      let row = kept_row parts pool box name in
      let rest = one_at (columns problem + k) ++ unless_zero (right_side problem) row.limit in
      let one = length-append row.terms rest in
      let two = length-append (one_at (columns problem + k))
      (unless_zero (right_side problem) row.limit) in
      let same = length-map (row_in parts pool box name).terms
      (flipped_entry (flipped_of parts box)) in
      omega (arith, one, two, same)

  rows_hold : (names : List RowName) (numbers : List ℕ) (k : ℕ)
      → sum_by (row_entries parts pool box) names + length numbers * 3
      ≤ live (constraint_rows problem k
      (map (kept_row parts pool box) (kept_among parts pool box names) ++ map at_most_one numbers))
  rows_hold [] numbers k = let ones = ones_hold numbers k in omega (arith, ones)
  rows_hold (name ∷ names) numbers k =
      let all = sum_by-cons (row_entries parts pool box) name names in
      let most = by (may_exceed (row_in parts pool box name)) (rows_hold names numbers k)
      (rows_hold names numbers (k + 1)) in
      omega (arith, all, most)
    where
      rest : List RowName
      rest = kept_among parts pool box names

      by : (b : Bool)
          → sum_by (row_entries parts pool box) names + length numbers * 3
          ≤ live (constraint_rows problem k (map (kept_row parts pool box) rest
          ++ map at_most_one numbers))
          → sum_by (row_entries parts pool box) names + length numbers * 3
          ≤ live (constraint_rows problem (k + 1) (map (kept_row parts pool box) rest
          ++ map at_most_one numbers))
          → (if b then length (row_in parts pool box name).terms + 1 else 0)
          + sum_by (row_entries parts pool box) names + length numbers * 3
          ≤ live (constraint_rows problem k
          (map (kept_row parts pool box) (if b then name ∷ rest else rest)
          ++ map at_most_one numbers))
      by true here next =
          let long = row_long name k in
          let all = sum_by-cons length (constraint_row problem k (kept_row parts pool box name))
          (constraint_rows problem (k + 1) (map (kept_row parts pool box) rest
          ++ map at_most_one numbers)) in
          omega (arith, next, long, all)
      by false here next = omega (arith, here)

columns_held : (parts : Parts) (box : Box)
    → column_entries parts box ≡ length (columns_of parts box) * 3
columns_held parts box = go (range_with_len 0 (length parts.flights))
  where
    go : (flights : List ℕ) → sum_by (flight_entries parts box) flights
        ≡ length (flat_map (flight_columns parts box) flights) * 3
    go [] = refl
    go (f ∷ flights) =
        let more = go flights in
        let one = sum_by-cons (flight_entries parts box) f flights in
        let both = length-append (flight_columns parts box f)
        (flat_map (flight_columns parts box) flights) in
        omega (arith, more, one, both)

pub entries_held : (parts : Parts) (pool : List CutName) (box : Box)
    → column_entries parts box + sum_by (row_entries parts pool box) (rows_with parts pool)
    ≤ entries_of parts pool box
entries_held parts pool box =
    let problem = program_of parts pool box in
    let count = length (columns_of parts box) in
    let rows = rows_hold parts pool box problem (rows_with parts pool) (range_with_len 0 count)
    0 in
    let ones = length-range_with_len 0 count in
    let cols = columns_held parts box in
    let last = sum_pushed length (constraint_rows problem 0 problem.constraints)
    (cost_row problem) in
    omega (arith, rows, ones, cols, last)

-- what is past the room so far is so for the whole tableau
module _ (parts : Parts) (pool : List CutName) (box : Box) (cells : Option ℕ) (first : Tally)
    (reason : Refused) (begun : first ≡ record { entries = 0; cells = cells }) where
  none_yet : first.entries ≡ 0
  none_yet = ap (λ (t : Tally). t.entries) begun

  same_room : (entries : ℕ) → IfWide reason (IsPast first.cells entries)
      → IfWide reason (IsPast cells entries)
  same_room entries why =
      subst (λ room. IfWide reason (IsPast room entries)) (ap (λ (t : Tally). t.cells) begun) why

  pub columns_wide : IfWide reason (IsPast first.cells (first.entries + column_entries parts box))
      → IfWide reason (IsPast cells (entries_of parts pool box))
  columns_wide why =
      let none = none_yet in
      let all = entries_held parts pool box in
      wide_more reason cells (first.entries + column_entries parts box) (entries_of parts pool box)
      (omega (arith, none, all)) (same_room (first.entries + column_entries parts box) why)

  pub rows_wide : (old : Tally) → IsCounted (column_entries parts box) first old
      → IfWide reason
      (IsPast old.cells (old.entries + sum_by (row_entries parts pool box) (rows_with parts pool)))
      → IfWide reason (IsPast cells (entries_of parts pool box))
  rows_wide old counted why =
      let none = none_yet in
      let held = entries_held parts pool box in
      let rows = sum_by (row_entries parts pool box) (rows_with parts pool) in
      same_room (entries_of parts pool box)
      (wide_more reason first.cells (first.entries + (column_entries parts box + rows))
      (entries_of parts pool box) (omega (arith, none, held))
      (wide_both (column_entries parts box) rows (column_entries parts box + rows) first old reason
      counted (omega arith) why))
