-- Rows side by side in one block, each in a place of its own.
use Rattle.std.specs.Prelude.{◌≡◌, ◌≢◌, ◌⊎◌, ℕ, ◌+◌, ◌-◌, ◌^◌, ◌<◌, ◌≤◌, All, List, [], ◌∷◌, ◌++◌, length, map, drop, take, get_or, vec_capacity, Option, None, Some}
use Rattle.row_arena.specs.declared.entry.Entry.{Entry}
use Rattle.row_arena.specs.declared.place.Place.{Place}
use Rattle.row_arena.specs.declared.desk.Desk.{Desk}
use Rattle.row_arena.specs.declared.shelf.Shelf.{Shelf}
use Rattle.row_arena.specs.Arena.{live}
use Rattle.row_arena.specs.Desks.{IsDesk}

-- a list in which these are written from a position on
abbrev pub written : {C : Type 0} → List C → ℕ → List C → List C
written cs at xs = take at cs ++ (xs ++ drop (at + length xs) cs)

-- the values that are there
abbrev pub values : List (Option Entry) → List Entry
values [] = []
values (None ∷ cs) = values cs
values (Some entry ∷ cs) = entry ∷ values cs

-- what a place has, and what all have
abbrev pub row_in : List (Option Entry) → Place → List Entry
row_in cs place = values (take place.len (drop place.from cs))

abbrev pub rows_in : List (Option Entry) → List Place → List (List Entry)
rows_in cs places = map (row_in cs) places

abbrev pub rows_of : Shelf → List (List Entry)
rows_of shelf = rows_in shelf.block shelf.places.items

-- each entry of a place is there, and the place lies between two positions
pub record IsPlaced (cs : List (Option Entry)) (low high : ℕ) (place : Place) : Type 0 where
  pub above : low ≤ place.from
  pub under : place.from + place.room ≤ high
  pub fits : place.len ≤ place.room
  pub held : take place.len (drop place.from cs) ≡ map Some (row_in cs place)

-- two places have no position in common
abbrev pub Apart : Place → Place → Type 0
Apart p q = (p.from + p.room ≤ q.from) ⊎ (q.from + q.room ≤ p.from)

pub record AreApart (places : List Place) : Type 0 where
  pub each : (i j : ℕ) (d : Place) → i < length places → j < length places → i ≢ j
      → Apart (get_or places i d) (get_or places j d)

-- all rows lie in one half of the block
pub record IsShelf (shelf : Shelf) : Type 0 where
  pub placed : All (IsPlaced shelf.block shelf.start shelf.tail) shelf.places.items
  pub apart : AreApart shelf.places.items
  pub below : shelf.start ≤ shelf.tail
  pub within : shelf.tail ≤ shelf.start + shelf.half
  pub starts : (shelf.start ≡ 0) ⊎ (shelf.start ≡ shelf.half)
  pub block : length shelf.block ≡ shelf.half + shelf.half
  pub small : shelf.half < 2 ^ 34

-- so many first rows lie closely in the other half from its start to a position, the others where
-- they lay
pub record IsMoving (shelf : Shelf) (row to : ℕ) : Type 0 where
  pub first : (k : ℕ) (d : Place) → k < row → k < length shelf.places.items
      → IsPlaced shelf.block (shelf.half - shelf.start) to (get_or shelf.places.items k d)
  pub later : (k : ℕ) (d : Place) → row ≤ k → k < length shelf.places.items
      → IsPlaced shelf.block shelf.start shelf.tail (get_or shelf.places.items k d)
  pub apart : (i j : ℕ) (d : Place) → i < row → j < row → i < length shelf.places.items
      → j < length shelf.places.items → i ≢ j
      → Apart (get_or shelf.places.items i d) (get_or shelf.places.items j d)
  pub end : to ≡ shelf.half - shelf.start + live (take row (rows_of shelf))
  pub room : live (rows_of shelf) ≤ shelf.half
  pub within : shelf.tail ≤ shelf.start + shelf.half
  pub starts : (shelf.start ≡ 0) ⊎ (shelf.start ≡ shelf.half)
  pub block : length shelf.block ≡ shelf.half + shelf.half
  pub small : shelf.half < 2 ^ 34

-- there is room in a half of the block, and where rows are combined, for what the limits allow
pub record HasRooms (of : Shelf) (most cells : ℕ) (room : Desk) : Type 0 where
  pub shelf : IsShelf of
  pub places : most ≤ vec_capacity of.places
  pub half : cells ≤ of.half
  pub desk : IsDesk cells room
