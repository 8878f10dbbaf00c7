-- Rows that are small enough to see.
use Rattle.std.proofs.Common.{◌≡◌, ℕ, Ok, Err, List, [], ◌∷◌, ℤ, pos, negsuc, refl}
use Rattle.row_arena.specs.declared.entry.Entry.{Entry}
use Rattle.row_arena.specs.declared.wide.Wide.TheVariants.{Cells, Value}
use Rattle.row_arena.specs.Arena.{combined, live}
use Rattle.row_arena.specs.Combining.{cleared, difference, divisor_of}
use Rattle.row_arena.specs.Rows.{entry_at, negated, reach}

abbrev at : ℕ → ℤ → Entry
at column value = record { column = column; value = value }

abbrev target : List Entry
target = at 0 (negsuc 0) ∷ at 1 (negsuc 0) ∷ at 2 (pos 1) ∷ at 5 (negsuc 0) ∷ []

abbrev pivot : List Entry
pivot = at 1 (pos 2) ∷ at 3 (pos 4) ∷ at 5 (negsuc 5) ∷ []

-- what is in a column, and one past the last
in_column_two : entry_at target 2 ≡ pos 1
in_column_two = refl

in_column_three : entry_at target 3 ≡ pos 0
in_column_three = refl

past_the_last : reach target ≡ 6
past_the_last = refl

-- twice the target and once the pivot: what is in column 1 is gone
the_difference : difference (pos 2) (negsuc 0) target pivot
    ≡ at 0 (negsuc 1) ∷ at 2 (pos 2) ∷ at 3 (pos 4) ∷ at 5 (negsuc 7) ∷ []
the_difference = refl

-- all of it is divided by 2
its_divisor : divisor_of (difference (pos 2) (negsuc 0) target pivot) ≡ 2
its_divisor = refl

the_cleared : cleared 1 target pivot
    ≡ at 0 (negsuc 0) ∷ at 2 (pos 1) ∷ at 3 (pos 2) ∷ at 5 (negsuc 3) ∷ []
the_cleared = refl

-- a row less itself has nothing left, and nothing is left as it is
nothing_left : cleared 1 pivot pivot ≡ []
nothing_left = refl

-- a row with nothing in the column is but divided
only_divided : cleared 3 (at 0 (pos 6) ∷ at 9 (negsuc 8) ∷ []) pivot
    ≡ at 0 (pos 2) ∷ at 9 (negsuc 2) ∷ []
only_divided = refl

turned : negated pivot ≡ at 1 (negsuc 1) ∷ at 3 (negsuc 3) ∷ at 5 (pos 6) ∷ []
turned = refl

-- the rows and how many entries they have
abbrev rows : List (List Entry)
rows = target ∷ pivot ∷ []

entries : live rows ≡ 7
entries = refl

-- the old target counts: 7 entries and 4 more need 11
with_room : combined 11 rows 0 1 1
    ≡ Ok ((at 0 (negsuc 0) ∷ at 2 (pos 1) ∷ at 3 (pos 2) ∷ at 5 (negsuc 3) ∷ []) ∷ pivot ∷ [])
with_room = refl

without_room : combined 10 rows 0 1 1 ≡ Err (Cells 7 4)
without_room = refl

-- the first entry that is too far from 0, by as little as can be
too_far : combined 100
    ((at 0 (pos 1) ∷ at 1 (pos 1) ∷ at 2 (pos 1) ∷ at 3 (pos 1) ∷ [])
    ∷ (at 0 (pos 1) ∷ at 2 (negsuc 4611686018427387902) ∷ at 3 (negsuc 4611686018427387902) ∷ [])
    ∷ [])
    0 1 0 ≡ Err (Value 2 (pos 4611686018427387904))
too_far = refl

-- and one that isn't
near_enough : combined 100
    ((at 0 (pos 1) ∷ at 1 (pos 1) ∷ at 2 (pos 1) ∷ [])
    ∷ (at 0 (pos 1) ∷ at 2 (negsuc 4611686018427387901) ∷ []) ∷ []) 0 1 0
    ≡ Ok ((at 1 (pos 1) ∷ at 2 (pos 4611686018427387903) ∷ [])
    ∷ (at 0 (pos 1) ∷ at 2 (negsuc 4611686018427387901) ∷ []) ∷ [])
near_enough = refl
