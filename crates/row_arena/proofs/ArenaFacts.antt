-- Rows in room for so many entries.
use Rattle.std.proofs.Common.{◌≡◌, ◌≢◌, ◌⊎◌, ℕ, zero, suc, ◌+◌, ◌-◌, ◌<◌, ◌≤◌, Option, None, Some, Ok, Err, List, [], ◌∷◌, ◌++◌, length, get_or, set, All, ℤ, pos, negsuc, neg_ℤ, nat_abs, vec_capacity, refl, sym, ap, ◌∙◌, subst, inl, inr, arith}
use Rattle.std.proofs.lemmas.Int.{ints}
use Rattle.std.proofs.lemmas.Bool.{cond-true, cond-false, le-leb, lt-leb, cases_lt}
use Rattle.std.proofs.lemmas.List.{get_or-map, length-map, length-set, length_push}
use Rattle.std.proofs.lemmas.List.Elements.{All-map, All-push, All-set}
use Rattle.std.proofs.lemmas.List.Sums.{get_or-le-sum_by, sum_by-set, sum_by_push}
use Rattle.row_arena.specs.declared.entry.Entry.{Entry}
use Rattle.row_arena.specs.declared.desk.Desk.{Desk}
use Rattle.row_arena.specs.declared.wide.Wide.TheVariants.{Cells}
use Rattle.row_arena.specs.declared.shelf.Shelf.{Shelf}
use Rattle.row_arena.specs.Arena.{IsArena, has_room, live, replaced, row_at, row_or_none, with_row}
use Rattle.row_arena.specs.Desks.{IsDesk, KeepsRoom}
use Rattle.row_arena.specs.Rows.{IsRow, most_entry, negated, negated_entry}
use Rattle.row_arena.specs.Shelves.{HasRooms, IsShelf}
use Rattle.exact_sums.proofs.ItemFacts.{slice_get-set_other}

-- a row that was read
pub row_is : (rows : List (List Entry)) (k : ℕ) (d : List Entry) → k < length rows
    → get_or rows k d ≡ row_at rows k
row_is [] k d within = absurd (omega (arith, within))
row_is (row ∷ rows) zero d within = refl
row_is (row ∷ rows) (suc k) d within = row_is rows k d (omega (arith, within))

pub row_read : (rows : List (List Entry)) (k : ℕ) (row : List Entry) → k < length rows
    → row ≡ get_or rows k row → row ≡ row_at rows k
row_read rows k row within is = is ∙ row_is rows k row within

pub row_valid : (rows : List (List Entry)) (k : ℕ) (row : List Entry) → All IsRow rows
    → k < length rows → row ≡ get_or rows k row → IsRow row
row_valid rows k row valid within is = subst IsRow (sym is) (valid k row within)

pub row_at_valid : (rows : List (List Entry)) (k : ℕ) → All IsRow rows → k < length rows
    → IsRow (row_at rows k)
row_at_valid rows k valid within = subst IsRow (row_is rows k [] within) (valid k [] within)

-- how many entries there are with another row
pub live_set : (rows : List (List Entry)) (k : ℕ) (row : List Entry) → k < length rows
    → live (set rows k row) + length (row_at rows k) ≡ live rows + length row
live_set rows k row within =
    ap (λ (r : List Entry). live (set rows k row) + length r) (sym (row_is rows k [] within))
    ∙ sum_by-set length rows k row [] within

pub live_of : (rows : List (List Entry)) (k : ℕ) → k < length rows
    → length (row_at rows k) ≤ live rows
live_of rows k within =
    subst (λ (r : List Entry). length r ≤ live rows) (row_is rows k [] within)
    (get_or-le-sum_by length rows k [] within)

-- a row that is put in the place of another, or why it can't be
module _ (cells : ℕ) (rows : List (List Entry)) (target : ℕ) (row : List Entry) where
  pub put_full : (count more : ℕ) → count ≡ live rows → more ≡ length row → cells < count + more
      → with_row cells rows target row ≡ Err (Cells count more)
  put_full count more here size full =
      cond-false (has_room cells rows row) (Ok (set rows target row))
      (Err (Cells (live rows) (length row)))
      (lt-leb (live rows + length row) cells (omega (arith, here, size, full)))
      ∙ ap (λ n. Err (Cells n (length row))) (sym here) ∙ ap (λ n. Err (Cells count n)) (sym size)

  pub put_there : (new : List (List Entry)) (count more : ℕ) → count ≡ live rows
      → more ≡ length row → count + more ≤ cells → new ≡ set rows target row
      → with_row cells rows target row ≡ Ok new
  put_there new count more here size fits is =
      cond-true (has_room cells rows row) (Ok (set rows target row))
      (Err (Cells (live rows) (length row)))
      (le-leb (live rows + length row) cells (omega (arith, here, size, fits)))
      ∙ ap Ok (sym is)

-- what the rows are then
pub with_row_is : (cells : ℕ) (rows new : List (List Entry)) (target : ℕ) (row : List Entry)
    → (cells < live rows + length row) ⊎ (live rows + length row ≤ cells)
    → with_row cells rows target row ≡ Ok new
    → (new ≡ set rows target row) × (live rows + length row ≤ cells)
with_row_is cells rows new target row (inl full) is =
    let not' : Err (Cells (live rows) (length row)) ≡ Ok new =
    sym (cond-false (has_room cells rows row) (Ok (set rows target row))
    (Err (Cells (live rows) (length row))) (lt-leb (live rows + length row) cells full)) ∙ is in
    absurd cc
with_row_is cells rows new target row (inr fits) is =
    let same = sym (cond-true (has_room cells rows row) (Ok (set rows target row))
    (Err (Cells (live rows) (length row))) (le-leb (live rows + length row) cells fits)) ∙ is in
    (cc, fits)

pub replaced_is : (far : Option Entry) (cells : ℕ) (rows new : List (List Entry)) (target : ℕ)
    (row : List Entry) → replaced far cells rows target row ≡ Ok new
    → (far ≡ None) × (new ≡ set rows target row) × (live rows + length row ≤ cells)
replaced_is (Some entry) cells rows new target row is = absurd cc
replaced_is None cells rows new target row is =
    let at = with_row_is cells rows new target row (cases_lt cells (live rows + length row)) is in
    (refl, at.0, at.1)

pub live_put : (rows new : List (List Entry)) (target count before : ℕ) (row : List Entry)
    → target < length rows → count ≡ live rows → before ≡ length (row_at rows target)
    → new ≡ set rows target row → count + length row - before ≡ live new
live_put rows new target count before row within here old is =
    let sum = live_set rows target row within in
    let size = ap live is in
    omega (arith, sum, size, here, old)

pub ruleset puts = (put_full, put_there, live_put)

-- The invariant after each call.
pub arena_none : (most cells : ℕ)
    → IsArena 0 (record { rows = []; most_rows = most; cells = cells; filled = [] })
arena_none most cells = record {
  valid = λ k d within. absurd (omega (arith, within));
  few = omega arith;
  count = refl;
  room = omega arith;
}

pub arena_pushed : (count more most cells : ℕ) (rows new : List (List Entry)) (row : List Entry)
    (filled : List ℕ)
    → IsArena count (record { rows = rows; most_rows = most; cells = cells; filled = filled })
    → IsRow row → length rows < most → more ≡ length row → count + more ≤ cells
    → new ≡ rows ++ row ∷ []
    → IsArena (count + more)
    (record { rows = new; most_rows = most; cells = cells; filled = filled })
arena_pushed count more most cells rows new row filled is valid place same fits here =
    let long = length_push rows row in
    let sum = sum_by_push length rows row in
    let before = is.count in
    subst (λ (l : List (List Entry)). IsArena (count + more)
    (record { rows = l; most_rows = most; cells = cells; filled = filled })) (sym here)
    (record {
      valid = All-push IsRow rows row is.valid valid;
      few = omega (arith, long, place);
      count = omega (arith, sum, same, before);
      room = omega (arith, sum, same, before, fits);
    })

pub arena_set : (count now most cells target : ℕ) (rows new : List (List Entry)) (row : List Entry)
    (filled other : List ℕ)
    → IsArena count (record { rows = rows; most_rows = most; cells = cells; filled = filled })
    → IsRow row → target < length rows → now ≡ live new → live new ≤ cells
    → new ≡ set rows target row
    → IsArena now (record { rows = new; most_rows = most; cells = cells; filled = other })
arena_set count now most cells target rows new row filled other is valid within here room same =
    let long = length-set rows target row in
    let size = ap length same in
    let few = is.few in
    record {
      valid = subst (All IsRow) (sym same) (All-set IsRow rows target row valid is.valid);
      few = omega (arith, long, size, few);
      count = here;
      room = room;
    }

pub arena_kept : (count most cells : ℕ) (rows new : List (List Entry)) (filled other : List ℕ)
    → IsArena count (record { rows = rows; most_rows = most; cells = cells; filled = filled })
    → new ≡ rows
    → IsArena count (record { rows = new; most_rows = most; cells = cells; filled = other })
arena_kept count most cells rows new filled other is same =
    let size = ap live same in
    let long = ap length same in
    let few = is.few in
    let here = is.count in
    let room = is.room in
    record {
      valid = subst (All IsRow) (sym same) is.valid;
      few = omega (arith, long, few);
      count = omega (arith, size, here);
      room = omega (arith, size, room);
    }

-- with the signs of a row turned
pub negated_row : (row : List Entry) → IsRow row → IsRow (negated row)
negated_row row is = record {
  ascending = λ i j d below within.
      let long = length-map row negated_entry in
      subst (λ (e : Entry). e.column < (get_or (negated row) j d).column)
      (sym (get_or-map negated_entry row i d d (omega (arith, long, below, within))))
      (subst (λ (e : Entry). (get_or row i d).column < e.column)
      (sym (get_or-map negated_entry row j d d (omega (arith, long, within))))
      (is.ascending i j d below (omega (arith, long, within))));
  no_zeros = All-map (λ (e : Entry). e.value ≢ pos 0) negated_entry row
      (λ k d within none. is.no_zeros k d within (turned (get_or row k d).value none));
  near = All-map (λ (e : Entry). nat_abs e.value ≤ most_entry) negated_entry row
      (λ k d within. near (get_or row k d).value (is.near k d within));
}
  where
    turned : (z : ℤ) → neg_ℤ z ≡ pos 0 → z ≡ pos 0
    turned z none = omega (arith, ints, none)

    near : (z : ℤ) → nat_abs z ≤ most_entry → nat_abs (neg_ℤ z) ≤ most_entry
    near (pos zero) le = le
    near (pos (suc n)) le = le
    near (negsuc n) le = le

pub arena_negated : (count most cells k : ℕ) (rows new : List (List Entry)) (filled : List ℕ)
    → IsArena count (record { rows = rows; most_rows = most; cells = cells; filled = filled })
    → k < length rows → new ≡ set rows k (negated (row_at rows k))
    → IsArena count (record { rows = new; most_rows = most; cells = cells; filled = filled })
arena_negated count most cells k rows new filled is within same =
    let sum = live_set rows k (negated (row_at rows k)) within in
    let long = length-map (row_at rows k) negated_entry in
    let size = ap live same in
    let here = is.count in
    let room = is.room in
    arena_set count count most cells k rows new (negated (row_at rows k)) filled filled is
    (negated_row (row_at rows k) (row_at_valid rows k is.valid within)) within
    (omega (arith, sum, long, size, here)) (omega (arith, sum, long, size, room)) same

-- Two rows together have no more entries than all.
pub two_live : (rows : List (List Entry)) (i j : ℕ) → i < length rows → j < length rows → i ≢ j
    → length (row_at rows i) + length (row_at rows j) ≤ live rows
two_live rows i j first second differ =
    let long = length-set rows i [] in
    let sum = live_set rows i [] first in
    let there = live_of (set rows i []) j (omega (arith, long, second)) in
    let same = ap (λ (o : Option (List Entry)). length (row_or_none o))
    (slice_get-set_other rows i j [] (λ e. differ (sym e))) in
    omega (arith, sum, there, same)

-- There is room still.
pub desk_kept : (cells : ℕ) (old new : Desk) → IsDesk cells old → KeepsRoom old new
    → IsDesk cells new
desk_kept cells old new is keeps = record {
  narrow = let a = is.narrow in let b = keeps.narrow in omega (arith, a, b);
  wides = let a = is.wides in let b = keeps.wides in omega (arith, a, b);
  filled = let a = is.filled in let b = keeps.filled in omega (arith, a, b);
}

pub desk_less : (cells fewer : ℕ) (desk : Desk) → IsDesk cells desk → fewer ≤ cells
    → IsDesk fewer desk
desk_less cells fewer desk is less = record {
  narrow = let a = is.narrow in omega (arith, a, less);
  wides = let a = is.wides in omega (arith, a, less);
  filled = let a = is.filled in omega (arith, a, less);
}

pub rooms_kept : (s t : Shelf) (most cells : ℕ) (old new : Desk) → HasRooms s most cells old
    → IsShelf t → t.half ≡ s.half → vec_capacity s.places ≤ vec_capacity t.places
    → KeepsRoom old new → HasRooms t most cells new
rooms_kept s t most cells old new is shelf half places keeps = record {
  shelf = shelf;
  places = let a = is.places in omega (arith, a, places);
  half = let a = is.half in omega (arith, a, half);
  desk = desk_kept cells old new is.desk keeps;
}

pub rooms_same : (s t : Shelf) (most cells : ℕ) (desk : Desk) → HasRooms s most cells desk
    → IsShelf t → t.half ≡ s.half → vec_capacity s.places ≤ vec_capacity t.places
    → HasRooms t most cells desk
rooms_same s t most cells desk is shelf half places = record {
  shelf = shelf;
  places = let a = is.places in omega (arith, a, places);
  half = let a = is.half in omega (arith, a, half);
  desk = is.desk;
}
