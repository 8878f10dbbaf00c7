-- How a column is cleared in a row by means of another row, in whole numbers.
use Rattle.std.specs.Prelude.{ℕ, suc, zero, ◌%◌, ◌==◌, max, Bool, List, [], ◌∷◌, map, if◌then◌else◌, ℤ, pos, nat_abs, int_div, ◌-ℤ◌, ◌*ℤ◌}
use Rattle.std.specs.List.{list_all}
use Rattle.row_arena.specs.declared.entry.Entry.{Entry}
use Rattle.row_arena.specs.Rows.{entry_at, reach, row_from}

-- p times the target less a times the pivot
abbrev pub difference_at : ℤ → ℤ → List Entry → List Entry → ℕ → ℤ
difference_at p a target pivot column =
    (p *ℤ entry_at target column) -ℤ (a *ℤ entry_at pivot column)

abbrev pub difference : ℤ → ℤ → List Entry → List Entry → List Entry
difference p a target pivot =
    row_from (difference_at p a target pivot) 0 (max (reach target) (reach pivot))

-- the greatest number from 1 to a limit with a property, 1 where there is none
abbrev pub greatest : (ℕ → Bool) → ℕ → ℕ
greatest has zero = 1
greatest has (suc n) = if has (suc n) then suc n else greatest has n

-- the number divides each entry
abbrev pub divides_all : ℕ → List Entry → Bool
divides_all d row = list_all (λ entry. nat_abs entry.value % d == 0) row

-- the greatest common divisor of a row's entries: it is no greater than the first of them
abbrev pub divisor_of : List Entry → ℕ
divisor_of [] = 1
divisor_of (entry ∷ row) = greatest (λ d. divides_all d (entry ∷ row)) (nat_abs entry.value)

abbrev pub entry_by : ℕ → Entry → Entry
entry_by d entry = record { column = entry.column; value = int_div entry.value (pos d) }

-- the row, divided by that
abbrev pub divided : List Entry → List Entry
divided row = map (entry_by (divisor_of row)) row

-- the target with no entry in the column: as often itself as the pivot has there, less as often the
-- pivot as itself has there, divided
abbrev pub cleared : ℕ → List Entry → List Entry → List Entry
cleared column target pivot =
    divided (difference (entry_at pivot column) (entry_at target column) target pivot)
