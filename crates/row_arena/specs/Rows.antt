-- Rows of numbers that are mostly 0: entries by ascending column, none of them 0.
use Rattle.std.specs.Prelude.{◌≢◌, ℕ, ◌+◌, ◌-◌, ◌^◌, ◌<◌, ◌≤◌, ◌==◌, max, List, [], ◌∷◌, All, AllPairs, if◌then◌else◌, map, ℤ, pos, neg_ℤ, nat_abs}
use Rattle.std.specs.List.{flat_map, range_with_len}
use Rattle.std.specs.Ordering.{int_eq}
use Rattle.exact_sums.specs.Sums.{total}
use Rattle.row_arena.specs.declared.entry.Entry.{Entry}

-- how far from 0 an entry may be
abbrev pub most_entry : ℕ
most_entry = 2 ^ 62 - 1

-- entries by ascending column, none of them 0, none too far from it
pub record IsRow (row : List Entry) : Type 0 where
  pub ascending : AllPairs (λ a b. a.column < b.column) row
  pub no_zeros : All (λ entry. entry.value ≢ pos 0) row
  pub near : All (λ entry. nat_abs entry.value ≤ most_entry) row

-- what a row has in a column, 0 where it has no entry there
abbrev pub value_in : ℕ → Entry → ℤ
value_in column entry = if entry.column == column then entry.value else pos 0

abbrev pub entry_at : List Entry → ℕ → ℤ
entry_at row column = total (value_in column) row

-- one past a row's last column
abbrev pub reach : List Entry → ℕ
reach [] = 0
reach (entry ∷ row) = max (entry.column + 1) (reach row)

-- the entry, where it isn't 0
abbrev pub unless_zero : ℕ → ℤ → List Entry
unless_zero column value =
    if int_eq value (pos 0) then [] else record { column = column; value = value } ∷ []

-- the row that has such values in so many columns, from one on
abbrev pub row_from : (ℕ → ℤ) → ℕ → ℕ → List Entry
row_from value from count =
    flat_map (λ column. unless_zero column (value column)) (range_with_len from count)

-- the entry, and a row, with turned signs
abbrev pub negated_entry : Entry → Entry
negated_entry entry = record { column = entry.column; value = neg_ℤ entry.value }

abbrev pub negated : List Entry → List Entry
negated row = map negated_entry row
