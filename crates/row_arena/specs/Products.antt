-- Rows whose numbers may be wide, before they are divided.
use Rattle.std.specs.Prelude.{◌≡◌, ◌≢◌, ℕ, ℤ, ◌-ℤ◌, ◌<◌, ◌≤◌, ◌*◌, List, ◌++◌, drop, take, length, map, get_or, pos, ◌*ℤ◌, nat_abs, ◌^◌, All, Option, None, Some}
use Rattle.std.specs.List.{Contains}
use Rattle.row_arena.specs.declared.entry.Entry.{Entry}
use Rattle.row_arena.specs.declared.products.WideEntry.{WideEntry}
use Rattle.row_arena.specs.declared.products.Factors.{Factors}
use Rattle.row_arena.specs.declared.pair.Pair.{Pair}
use Rattle.row_arena.specs.declared.wide.Wide.{Wide}
use Rattle.row_arena.specs.declared.wide.Wide.TheVariants.{Value}
use Rattle.row_arena.specs.Combining.{difference, entry_by}
use Rattle.row_arena.specs.Rows.{entry_at, most_entry, unless_zero}

abbrev pub entry_of : WideEntry → Entry
entry_of wide = record { column = wide.column; value = wide.value }

abbrev pub entries_of : List WideEntry → List Entry
entries_of wides = map entry_of wides

-- as often the one as p, less as often the other as a, where it isn't 0
abbrev pub difference_in : ℤ → ℤ → Pair → List Entry
difference_in p a pair = unless_zero pair.column ((p *ℤ pair.target) -ℤ (a *ℤ pair.pivot))

-- what a pair comes to, as an entry, which may be 0
abbrev pub came_of : Factors → Pair → Entry
came_of by pair = record {
  column = pair.column;
  value = (by.target *ℤ pair.target) -ℤ (by.pivot *ℤ pair.pivot);
}

-- so many first items as entries
abbrev pub first_entries : {X : Type 0} → (X → Entry) → ℕ → List X → List Entry
first_entries entry count items = map entry (take count items)

-- the product of either factor with a number within the reach isn't too far from 0
pub record IsReach (by : Factors) : Type 0 where
  pub within : nat_abs by.reach ≤ most_entry
  pub target : nat_abs by.target * nat_abs by.reach ≤ most_entry
  pub pivot : nat_abs by.pivot * nat_abs by.reach ≤ most_entry

-- neither factor is too far from 0
pub record AreNear (by : Factors) : Type 0 where
  pub target : nat_abs by.target ≤ most_entry
  pub pivot : nat_abs by.pivot ≤ most_entry
  pub reach : IsReach by

-- none of these is 0, nor as far from it as a difference of two products can't be
pub record AreWide (wides : List WideEntry) : Type 0 where
  pub no_zeros : All (λ (wide : WideEntry). wide.value ≢ pos 0) wides
  pub near : All (λ (wide : WideEntry). nat_abs wide.value < 2 ^ 126) wides

-- the first entry of those that are too far from 0 is told
abbrev pub TellsFar : Option Entry → Wide → Type 0
TellsFar None wide = ⊥
TellsFar (Some far) wide = wide ≡ Value far.column far.value

-- both are as many times two others
pub record AreScaled (by less : Factors) : Type 0 where
  pub times : ℕ
  pub some : 0 < times
  pub target : by.target ≡ pos times *ℤ less.target
  pub pivot : by.pivot ≡ pos times *ℤ less.pivot

-- each column in which one of so many entries of the pivot is, and none of the target, is among
-- these
pub record AreFilledBy (target pivot : List Entry) (count : ℕ) (filled : List ℕ) : Type 0 where
  pub each : (column : ℕ) → entry_at target column ≡ pos 0
      → entry_at (take count pivot) column ≢ pos 0 → Contains filled column

-- so much has come of the rows up to two positions: with what comes of the rest it is what comes of
-- both
pub record IsWalked (by : Factors) (target pivot : List Entry) (i j : ℕ) (came : List Entry)
    : Type 0 where
  pub rows : came ++ difference by.target by.pivot (drop i target) (drop j pivot)
      ≡ difference by.target by.pivot target pivot
  pub within : i ≤ length target

-- what is left of the target lies in no column before the pivot's at a position
pub record IsPast (target pivot : List Entry) (i j : ℕ) : Type 0 where
  pub each : (d e : Entry) → i < length target
      → (get_or pivot j e).column ≤ (get_or target i d).column

-- the walk went on by an entry of the pivot, and by one of the target where it lies in its column
pub record IsBeside (target pivot : List Entry) (i j next : ℕ) : Type 0 where
  pub both : (d e : Entry) → next ≢ i → (i < length target)
      × ((get_or target i d).column ≡ (get_or pivot j e).column)

-- each value divided
abbrev pub divided_by : ℕ → List Entry → List Entry
divided_by divisor row = map (entry_by divisor) row

-- an entry that was found, as one of a row
abbrev pub far_of : Option WideEntry → Option Entry
far_of None = None
far_of (Some wide) = Some (entry_of wide)

-- before the position all columns are below this one, and from it on none
pub record IsPlaceOf (row : List Entry) (column position : ℕ) : Type 0 where
  pub before : (k : ℕ) (d : Entry) → k < position → (get_or row k d).column < column
  pub after : (k : ℕ) (d : Entry) → position ≤ k → k < length row
      → column ≤ (get_or row k d).column
