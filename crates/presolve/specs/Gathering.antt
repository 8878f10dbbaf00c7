-- Gathering terms by the columns that they land on. No public clause cites these.
use Rattle.std.specs.Prelude.{◌≡◌, ◌≢◌, ℕ, ◌+◌, ◌*◌, ◌^◌, ◌<◌, ◌≤◌, ◌==◌, Bool, true, false, List, length, All, AllPairs, Some, not, slice_get, slice_index, slice_index_or, sum_by, ℤ, pos, ◌+ℤ◌, unsigned_abs}
use Rattle.std.specs.Ordering.{int_eq}
use Rattle.flow_types.specs.declared.parts.Parts.{Parts}
use Rattle.row_arena.specs.declared.entry.Entry.{Entry}
use Rattle.row_arena.specs.Rows.{entry_at, value_in}
use Rattle.time_windows.specs.Boxes.{Box}
use Rattle.time_windows.specs.Held.{Held, box_of}
use Rattle.bytime_model.specs.declared.variables.Term.{Term}
use Rattle.bytime_model.specs.declared.variables.Var.{Var}
use Rattle.bytime_model.specs.Left.{left_of}
use Rattle.bytime_model.specs.Columns.{Numbering, position_of, variable_at}
use Rattle.bytime_model.specs.Landing.{IsReady}
use Rattle.presolve.specs.declared.numbers.Spot.{Spot}
use Rattle.presolve.specs.declared.numbers.Spot.TheVariants.{Nowhere, On, Surely}
use Rattle.presolve.specs.Landed.{coefficient_of, entries_from, fixed_of, is_on, is_one, part_fixed, part_on}
use Rattle.presolve.specs.Variables.{columns_of}

-- a position for each variable that may be free, and the number of the column there
pub record Numbered : Type 0 where
  pub positions : Numbering
  pub numbers : List ℕ

-- each column of the box has its number, at its position
pub record IsNumberedFor (parts : Parts) (held : Held) (numbered : Numbered) : Type 0 where
  pub ready : IsReady parts numbered.positions held
  pub count : length numbered.numbers ≡ numbered.positions.count
  pub each : (k : ℕ) (column : Var)
      → slice_get (columns_of parts (box_of held)) k ≡ Some column
      → slice_get (columns_of parts (box_of held))
      (slice_index numbered.numbers (position_of numbered.positions.columns column)) ≡ Some column

-- the column has a position, and is found there
pub record IsOwn (numbering : Numbering) (column : Var) : Type 0 where
  pub within : position_of numbering.columns column < numbering.count
  pub small : position_of numbering.columns column < 2 ^ 64
  pub here : variable_at 0 numbering.columns (position_of numbering.columns column) ≡ column

abbrev pub AreOwn : Numbering → List Var → Type 0
AreOwn numbering columns = All (IsOwn numbering) columns

-- the numbers of the first so many columns stand there
pub record AreNumbers (numbering : Numbering) (columns : List Var) (upto : ℕ) (numbers : List ℕ)
    : Type 0 where
  pub count : length numbers ≡ numbering.count
  pub each : (k : ℕ) (column : Var) → k < upto → slice_get columns k ≡ Some column
      → slice_get columns (slice_index numbers (position_of numbering.columns column))
      ≡ Some column

-- where a variable lands: nowhere, in what is fixed, or on the column of a number
abbrev pub is_surely : Spot → Bool
is_surely Nowhere = false
is_surely Surely = true
is_surely (On number) = false

abbrev pub is_number : ℕ → Spot → Bool
is_number k Nowhere = false
is_number k Surely = false
is_number k (On number) = number == k

abbrev pub IsSpotWithin : ℕ → Spot → Type 0
IsSpotWithin count Nowhere = Unit {0}
IsSpotWithin count Surely = Unit {0}
IsSpotWithin count (On number) = number < count

pub record IsSpot (parts : Parts) (box : Box) (variable : Var) (spot : Spot) : Type 0 where
  pub one : is_one (left_of parts.flights box variable) ≡ is_surely spot
  pub on : (k : ℕ) (column : Var) → slice_get (columns_of parts box) k ≡ Some column
      → is_on (left_of parts.flights box variable) variable column ≡ is_number k spot

-- entries by ascending column, zeros among them, and what is fixed
pub record Gathered : Type 0 where
  pub entries : List Entry
  pub fixed : ℤ

abbrev pub size_of : List Entry → ℕ
size_of entries = sum_by (λ entry. unsigned_abs entry.value) entries

abbrev pub IsAscending : List Entry → Type 0
IsAscending entries = AllPairs (λ a b. a.column < b.column) entries

-- so much more in a column
pub record IsRaised (column : ℕ) (factor : ℤ) (old new : List Entry) : Type 0 where
  pub at : (k : ℕ) → entry_at new k
      ≡ entry_at old k +ℤ value_in k (record { column = column; value = factor })
  pub size : size_of new ≤ size_of old + unsigned_abs factor
  pub ascending : IsAscending new
  pub within : (count : ℕ) → column < count → All (λ entry. entry.column < count) old
      → All (λ entry. entry.column < count) new

-- a term more
pub record AddsTerm (parts : Parts) (box : Box) (term : Term) (old new : Gathered) : Type 0 where
  pub at : (k : ℕ) (column : Var) → slice_get (columns_of parts box) k ≡ Some column
      → entry_at new.entries k ≡ entry_at old.entries k +ℤ part_on parts box column term
  pub fixed : new.fixed ≡ old.fixed +ℤ part_fixed parts box term
  pub size : size_of new.entries + unsigned_abs new.fixed
      ≤ size_of old.entries + unsigned_abs old.fixed + unsigned_abs term.factor
  pub ascending : IsAscending new.entries
  pub within : All (λ entry. entry.column < length (columns_of parts box)) old.entries
      → All (λ entry. entry.column < length (columns_of parts box)) new.entries

-- how large a factor may be, and how many terms there may be
abbrev pub most_factor : ℕ
most_factor = 2 ^ 38

abbrev pub most_gathered : ℕ
most_gathered = 2 ^ 21

-- all terms so far
pub record AreGathered (parts : Parts) (box : Box) (terms : List Term) (gathered : Gathered)
    : Type 0 where
  pub at : (k : ℕ) (column : Var) → slice_get (columns_of parts box) k ≡ Some column
      → entry_at gathered.entries k ≡ coefficient_of parts box terms column
  pub fixed : gathered.fixed ≡ fixed_of parts box terms
  pub size : size_of gathered.entries + unsigned_abs gathered.fixed ≤ length terms * most_factor
  pub ascending : IsAscending gathered.entries
  pub within : All (λ entry. entry.column < length (columns_of parts box)) gathered.entries

-- the place after the last entry whose column isn't past this one
pub record IsPlace (column : ℕ) (entries : List Entry) (place : ℕ) : Type 0 where
  pub within : place ≤ length entries
  pub past : (k : ℕ) (d : Entry) → place ≤ k → k < length entries
      → column < (slice_index_or entries k d).column
  pub before : (k : ℕ) (d : Entry) → k + 1 ≡ place → (slice_index_or entries k d).column ≤ column

-- whether the entry before a place is the column's
pub record IsFound (column : ℕ) (entries : List Entry) (place : ℕ) (found : Bool) : Type 0 where
  pub some : found ≡ true → 0 < place
  pub here : found ≡ true → (k : ℕ) (d : Entry) → k + 1 ≡ place
      → (slice_index_or entries k d).column ≡ column
  pub other : found ≡ false → (k : ℕ) (d : Entry) → k + 1 ≡ place
      → (slice_index_or entries k d).column ≢ column

abbrev pub is_not_zero : Entry → Bool
is_not_zero entry = not (int_eq entry.value (pos 0))

-- the row that the terms make, and what is fixed
pub record IsLanded (parts : Parts) (box : Box) (terms : List Term) (gathered : Gathered)
    : Type 0 where
  pub entries : gathered.entries
      ≡ entries_from (coefficient_of parts box terms) 0 (columns_of parts box)
  pub fixed : gathered.fixed ≡ fixed_of parts box terms
  pub size : size_of gathered.entries + unsigned_abs gathered.fixed ≤ length terms * most_factor
