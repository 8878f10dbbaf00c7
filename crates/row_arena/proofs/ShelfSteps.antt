-- What each step does to a shelf.
use Rattle.std.proofs.Common.{◌≡◌, ◌≢◌, ◌⊎◌, ℕ, ◌+◌, ◌-◌, ◌<◌, ◌≤◌, All, List, [], ◌∷◌, ◌++◌, length, map, get_or, set, drop, take, Option, Some, refl, sym, ap, ◌∙◌, subst, inl, inr, arith}
use Rattle.std.proofs.lemmas.Bool.{cases_eq, cases_lt}
use Rattle.std.proofs.lemmas.List.{get_or-map, get_or-set_other, get_or-set_same, get_or_default, length-map, length-set, set-get_or}
use Rattle.std.proofs.lemmas.List.Sums.{sum_by_more, sum_by-take-le}
use Rattle.std.specs.Vec.{with_item}
use Rattle.row_arena.specs.declared.entry.Entry.{Entry}
use Rattle.row_arena.specs.declared.place.Place.{Place}
use Rattle.row_arena.specs.declared.shelf.Shelf.{Shelf}
use Rattle.row_arena.specs.Arena.{live, row_at}
use Rattle.row_arena.specs.Rows.{negated, negated_entry}
use Rattle.row_arena.specs.Shelves.{Apart, AreApart, IsMoving, IsPlaced, IsShelf, row_in, rows_in, rows_of, values, written}
use Rattle.row_arena.proofs.ArenaFacts.{row_is}
use Rattle.row_arena.proofs.ShelfFacts.{apart_pushed, apart_set, kept_apart, place_kept, placed_there, push_placed, push_rows, row_length, row_read, rows_changed, row_there, set_placed, set_rows}
use Rattle.row_arena.proofs.WindowFacts.{written_length}

-- a row that is read
pub row_is_read : (s : Shelf) (k : ℕ) (p : Place) (row : List Entry)
    → k < length s.places.items → p ≡ get_or s.places.items k p
    → take p.len (drop p.from s.block) ≡ map Some row → row ≡ row_at (rows_of s) k
row_is_read s k p row within here is =
    let long = length-map s.places.items (row_in s.block) in
    sym (row_read s.block p row is) ∙ ap (row_in s.block) here
    ∙ sym (get_or-map (row_in s.block) s.places.items k p [] within)
    ∙ row_is (rows_of s) k [] (omega (arith, long, within))

-- A row is written at a place of its own.
module _ (s : Shelf) (is : IsShelf s) (k : ℕ) (p : Place) (xs : List Entry)
    (inside : k < length s.places.items) (here : p ≡ get_or s.places.items k p) where
  pub top : s.tail ≤ length s.block
  top = by is.starts
    where
      by : (s.start ≡ 0) ⊎ (s.start ≡ s.half) → s.tail ≤ length s.block
      by (inl low) = let a = is.within in let b = is.block in omega (arith, low, a, b)
      by (inr high) = let a = is.within in let b = is.block in omega (arith, high, a, b)

  placed_here : IsPlaced s.block s.start s.tail p
  placed_here = subst (IsPlaced s.block s.start s.tail) (sym here) (is.placed k p inside)

  as_p : (d : Place) → get_or s.places.items k d ≡ p
  as_p d = get_or_default s.places.items k d p inside ∙ sym here

  block_same : (at : ℕ) → at + length xs ≤ length s.block
      → length (written s.block at (map Some xs)) ≡ s.half + s.half
  block_same at room =
      let long = length-map xs (λ (e : Entry). Some e) in
      written_length s.block at (map Some xs) (omega (arith, long, room)) ∙ is.block

  module _ (count : ℕ) (size : count ≡ length xs) where
    -- in the place where the row lies
    module _ (room : count ≤ p.room) (ds : List (Option Entry))
        (new : ds ≡ written s.block p.from (map Some xs)) where
      abbrev same : Place
      same = record { from = p.from; len = count; room = p.room }

      fits_in : p.from + length xs ≤ length s.block
      fits_in =
          let under = placed_here.under in
          let whole = top in
          omega (arith, under, whole, room, size)

      others : (i : ℕ) (d : Place) → i < length s.places.items → i ≢ k
          → ((get_or s.places.items i d).from + (get_or s.places.items i d).room ≤ p.from)
          ⊎ (p.from + length xs ≤ (get_or s.places.items i d).from)
      others i d in' other =
          by (subst (λ (q : Place). Apart (get_or s.places.items i d) q) (as_p d)
          (is.apart.each i k d in' inside other))
        where
          by : Apart (get_or s.places.items i d) p
              → ((get_or s.places.items i d).from + (get_or s.places.items i d).room ≤ p.from)
              ⊎ (p.from + length xs ≤ (get_or s.places.items i d).from)
          by (inl before) = inl before
          by (inr behind) = inr (omega (arith, behind, room, size))

      apart_still : (i : ℕ) (d : Place) → i < length s.places.items → i ≢ k
          → Apart (get_or s.places.items i d) same
      apart_still i d in' other =
          subst (λ (q : Place). Apart (get_or s.places.items i d) q) (as_p d)
          (is.apart.each i k d in' inside other)

      low_in : p.from ≤ length s.block
      low_in = let fits = fits_in in omega (arith, fits)

      pub rewritten_rows : rows_in ds (set s.places.items k same) ≡ set (rows_of s) k xs
      rewritten_rows =
          ap (λ (l : List (Option Entry)). rows_in l (set s.places.items k same)) new
          ∙ set_rows s.block p.from xs low_in s.places.items s.start s.tail is.placed s.tail
          (omega arith) k same inside others refl size placed_here.above placed_here.under room

      pub rewritten : IsShelf (record {
        block = ds;
        places = with_item s.places k same;
        half = s.half;
        start = s.start;
        tail = s.tail;
        most = s.most;
      })
      rewritten = record {
        placed = subst (λ (l : List (Option Entry)). All (IsPlaced l s.start s.tail)
            (set s.places.items k same))
            (sym new)
            (set_placed s.block p.from xs low_in s.places.items s.start s.tail is.placed s.tail
            (omega arith) k same inside others refl size placed_here.above placed_here.under room);
        apart = apart_set s.places.items k same inside is.apart apart_still;
        below = is.below;
        within = is.within;
        starts = is.starts;
        block = ap length new ∙ block_same p.from fits_in;
        small = is.small;
      }

    -- in a place at the free end
    module _ (room : ℕ) (fits : count ≤ room) (left : s.tail + room ≤ s.start + s.half)
        (ds : List (Option Entry)) (new : ds ≡ written s.block s.tail (map Some xs)) where
      abbrev last : Place
      last = record { from = s.tail; len = count; room = room }

      before : (i : ℕ) (d : Place) → i < length s.places.items → i ≢ k
          → ((get_or s.places.items i d).from + (get_or s.places.items i d).room ≤ s.tail)
          ⊎ (s.tail + length xs ≤ (get_or s.places.items i d).from)
      before i d in' other = inl (is.placed i d in').under

      apart_last : (i : ℕ) (d : Place) → i < length s.places.items → i ≢ k
          → Apart (get_or s.places.items i d) last
      apart_last i d in' other = inl (is.placed i d in').under

      whole_in : s.tail + length xs ≤ length s.block
      whole_in = by is.starts
        where
          by : (s.start ≡ 0) ⊎ (s.start ≡ s.half) → s.tail + length xs ≤ length s.block
          by (inl low) = let b = is.block in omega (arith, low, left, fits, size, b)
          by (inr high) = let b = is.block in omega (arith, high, left, fits, size, b)

      pub moved_rows : rows_in ds (set s.places.items k last) ≡ set (rows_of s) k xs
      moved_rows =
          ap (λ (l : List (Option Entry)). rows_in l (set s.places.items k last)) new
          ∙ set_rows s.block s.tail xs top s.places.items s.start s.tail is.placed (s.tail + room)
          (omega arith) k last inside before refl size is.below (omega arith) fits

      pub moved : IsShelf (record {
        block = ds;
        places = with_item s.places k last;
        half = s.half;
        start = s.start;
        tail = s.tail + room;
        most = s.most;
      })
      moved = record {
        placed = subst (λ (l : List (Option Entry)). All (IsPlaced l s.start (s.tail + room))
            (set s.places.items k last))
            (sym new)
            (set_placed s.block s.tail xs top s.places.items s.start s.tail is.placed
            (s.tail + room) (omega arith) k last inside before refl size is.below (omega arith)
            fits);
        apart = apart_set s.places.items k last inside is.apart apart_last;
        below = let b = is.below in omega (arith, b);
        within = left;
        starts = is.starts;
        block = ap length new ∙ block_same s.tail whole_in;
        small = is.small;
      }

-- The signs of a row are turned.
module _ (s : Shelf) (is : IsShelf s) (k : ℕ) (p : Place) (inside : k < length s.places.items)
    (here : p ≡ get_or s.places.items k p) (ds : List (Option Entry))
    (new : ds ≡ written s.block p.from (map Some (negated (row_in s.block p)))) where
  long' : p.len ≡ length (negated (row_in s.block p))
  long' =
      let size = row_length s.block s.start s.tail p
      (placed_here s is k p (negated (row_in s.block p)) inside here)
      (top s is k p (negated (row_in s.block p)) inside here) in
      let turned = length-map (row_in s.block p) negated_entry in
      omega (arith, size, turned)

  fits_still : p.len ≤ p.room
  fits_still = (placed_here s is k p (negated (row_in s.block p)) inside here).fits

  same_place : set s.places.items k p ≡ s.places.items
  same_place = ap (λ (q : Place). set s.places.items k q) here ∙ set-get_or s.places.items k p

  row_here : row_in s.block p ≡ row_at (rows_of s) k
  row_here =
      let long = length-map s.places.items (row_in s.block) in
      ap (row_in s.block) here ∙ sym (get_or-map (row_in s.block) s.places.items k p [] inside)
      ∙ row_is (rows_of s) k [] (omega (arith, long, inside))

  pub negated_rows : rows_in ds s.places.items ≡ set (rows_of s) k (negated (row_at (rows_of s) k))
  negated_rows =
      ap (λ (l : List Place). rows_in ds l) (sym same_place)
      ∙ rewritten_rows s is k p (negated (row_in s.block p)) inside here p.len long' fits_still ds
      new
      ∙ ap (λ (l : List Entry). set (rows_of s) k (negated l)) row_here

  pub negated_shelf : IsShelf (record {
    block = ds;
    places = s.places;
    half = s.half;
    start = s.start;
    tail = s.tail;
    most = s.most;
  })
  negated_shelf =
      let on = rewritten s is k p (negated (row_in s.block p)) inside here p.len long' fits_still
      ds new in
      record {
        placed = subst (λ (l : List Place). All (IsPlaced ds s.start s.tail) l) same_place
            on.placed;
        apart = subst AreApart same_place on.apart;
        below = is.below;
        within = is.within;
        starts = is.starts;
        block = on.block;
        small = is.small;
      }

-- A row is laid into the other half.
module _ (s : Shelf) (row to : ℕ) (is : IsMoving s row to) (p : Place)
    (inside : row < length s.places.items) (here : p ≡ get_or s.places.items row p) where
  abbrev other : ℕ
  other = s.half - s.start

  low_half : s.tail ≤ length s.block
  low_half = by is.starts
    where
      by : (s.start ≡ 0) ⊎ (s.start ≡ s.half) → s.tail ≤ length s.block
      by (inl low) = let a = is.within in let b = is.block in omega (arith, low, a, b)
      by (inr high) = let a = is.within in let b = is.block in omega (arith, high, a, b)

  old_place : IsPlaced s.block s.start s.tail p
  old_place = subst (IsPlaced s.block s.start s.tail) (sym here)
      (is.later row p (omega arith) inside)

  pub old_run : p.from + p.len ≤ length s.block
  old_run =
      let under = old_place.under in
      let fits = old_place.fits in
      let whole = low_half in
      omega (arith, under, fits, whole)

  abbrev xs : List Entry
  xs = row_in s.block p

  xs_size : length xs ≡ p.len
  xs_size = row_length s.block s.start s.tail p old_place low_half

  rows_long : length (rows_of s) ≡ length s.places.items
  rows_long = length-map s.places.items (row_in s.block)

  row_there' : get_or (rows_of s) row [] ≡ xs
  row_there' =
      get_or-map (row_in s.block) s.places.items row p [] inside ∙ ap (row_in s.block) (sym here)

  sum_more : live (take (row + 1) (rows_of s)) ≡ live (take row (rows_of s)) + p.len
  sum_more =
      let long = rows_long in
      sum_by_more length (rows_of s) row [] (omega (arith, long, inside))
      ∙ ap (λ (l : List Entry). live (take row (rows_of s)) + length l) row_there'
      ∙ ap (λ n. live (take row (rows_of s)) + n) xs_size

  ends : to + p.len ≤ other + s.half
  ends =
      let sum = sum_more in
      let whole = sum_by-take-le length (rows_of s) (row + 1) in
      let room = is.room in
      let end = is.end in
      omega (arith, sum, whole, room, end)

  starts_at : other ≤ to
  starts_at = let end = is.end in omega (arith, end)

  pub copy_within : to + p.len ≤ length s.block
  copy_within =
      let a = ends in
      let b = is.block in
      omega (arith, a, b)

  -- what lies in the old half has no position that is written to
  aside' : (q : Place) → s.start ≤ q.from → q.from + q.room ≤ s.tail
      → (q.from + q.room ≤ to) ⊎ (to + p.len ≤ q.from)
  aside' q above under = by is.starts
    where
      by : (s.start ≡ 0) ⊎ (s.start ≡ s.half) → (q.from + q.room ≤ to) ⊎ (to + p.len ≤ q.from)
      by (inl low) =
          let a = is.within in
          let b = starts_at in
          inl (omega (arith, low, a, b, under))
      by (inr high) = let a = ends in inr (omega (arith, high, a, above))

  pub copy_apart : (p.from + p.len ≤ to) ⊎ (to + p.len ≤ p.from)
  copy_apart = by (aside' p old_place.above old_place.under)
    where
      by : (p.from + p.room ≤ to) ⊎ (to + p.len ≤ p.from)
          → (p.from + p.len ≤ to) ⊎ (to + p.len ≤ p.from)
      by (inl before) = let fits = old_place.fits in inl (omega (arith, before, fits))
      by (inr behind) = inr behind

  module _ (ds : List (Option Entry)) (new : ds ≡ written s.block to (map Some xs)) where
    abbrev laid_place : Place
    laid_place = record { from = to; len = p.len; room = p.len }

    abbrev now : Shelf
    now = record {
      block = ds;
      places = with_item s.places row laid_place;
      half = s.half;
      start = s.start;
      tail = s.tail;
      most = s.most;
    }

    to_within : to ≤ length s.block
    to_within = let a = copy_within in omega (arith, a)

    keeps : (low high : ℕ) (q : Place) → (q.from + q.room ≤ to) ⊎ (to + p.len ≤ q.from)
        → IsPlaced s.block low high q → IsPlaced ds low high q
    keeps low high q apart placed =
        subst (λ (l : List (Option Entry)). IsPlaced l low high q) (sym new)
        (place_kept s.block (written s.block to (map Some xs)) low high q
        (kept_apart s.block to xs to_within low high q (sized apart) placed) placed)
      where
        sized : (q.from + q.room ≤ to) ⊎ (to + p.len ≤ q.from)
            → (q.from + q.room ≤ to) ⊎ (to + length xs ≤ q.from)
        sized (inl before) = inl before
        sized (inr behind) = let size = xs_size in inr (omega (arith, behind, size))

    new_place : IsPlaced ds other (to + p.len) laid_place
    new_place =
        subst (λ (l : List (Option Entry)). IsPlaced l other (to + p.len) laid_place) (sym new)
        (placed_there s.block to xs laid_place refl (sym xs_size) to_within other (to + p.len)
        starts_at (omega arith) (omega arith))

    other_place : (k : ℕ) (d : Place) → (k ≡ row → ⊥)
        → get_or (set s.places.items row laid_place) k d ≡ get_or s.places.items k d
    other_place k d differ = get_or-set_other s.places.items row k laid_place d differ

    that_place : (k : ℕ) (d : Place) → k ≡ row
        → get_or (set s.places.items row laid_place) k d ≡ laid_place
    that_place k d same =
        ap (λ n. get_or (set s.places.items row laid_place) n d) same
        ∙ get_or-set_same s.places.items row laid_place d inside

    places_long : length (set s.places.items row laid_place) ≡ length s.places.items
    places_long = length-set s.places.items row laid_place

    below_place : (k : ℕ) (d : Place) → k < row → k < length s.places.items
        → (get_or s.places.items k d).from + (get_or s.places.items k d).room ≤ to
    below_place k d low in' = (is.first k d low in').under

    first_kept : (k : ℕ) (d : Place) → k < row → k < length s.places.items
        → IsPlaced ds other (to + p.len) (get_or s.places.items k d)
    first_kept k d low in' =
        let placed = keeps other to (get_or s.places.items k d)
        (inl (is.first k d low in').under) (is.first k d low in') in
        record {
          above = placed.above;
          under = let a = placed.under in omega (arith, a);
          fits = placed.fits;
          held = placed.held;
        }

    first_now : (k : ℕ) (d : Place) → k < row + 1
        → k < length (set s.places.items row laid_place)
        → IsPlaced ds other (to + p.len) (get_or (set s.places.items row laid_place) k d)
    first_now k d low in' = by (cases_eq k row)
      where
        strictly : (a b : ℕ) → a < b + 1 → (a ≡ b → ⊥) → a < b
        strictly a b less other' = omega (arith, less, other')

        by : (k ≡ row) ⊎ (k ≡ row → ⊥)
            → IsPlaced ds other (to + p.len) (get_or (set s.places.items row laid_place) k d)
        by (inl same) =
            subst (IsPlaced ds other (to + p.len)) (sym (that_place k d same)) new_place
        by (inr differ) =
            let long = places_long in
            subst (IsPlaced ds other (to + p.len)) (sym (other_place k d differ))
            (first_kept k d (strictly k row low differ) (omega (arith, long, in')))

    later_now : (k : ℕ) (d : Place) → row + 1 ≤ k
        → k < length (set s.places.items row laid_place)
        → IsPlaced ds s.start s.tail (get_or (set s.places.items row laid_place) k d)
    later_now k d high in' =
        let long = places_long in
        let placed = is.later k d (omega (arith, high)) (omega (arith, long, in')) in
        subst (IsPlaced ds s.start s.tail)
        (sym (other_place k d (λ same. absurd (omega (arith, high, same)))))
        (keeps s.start s.tail (get_or s.places.items k d)
        (aside' (get_or s.places.items k d) placed.above placed.under) placed)

    apart_now : (i j : ℕ) (d : Place) → i < row + 1 → j < row + 1
        → i < length (set s.places.items row laid_place)
        → j < length (set s.places.items row laid_place) → i ≢ j
        → Apart (get_or (set s.places.items row laid_place) i d)
        (get_or (set s.places.items row laid_place) j d)
    apart_now i j d low high left right differ = by (cases_eq i row) (cases_eq j row)
      where
        by : (i ≡ row) ⊎ (i ≡ row → ⊥) → (j ≡ row) ⊎ (j ≡ row → ⊥)
            → Apart (get_or (set s.places.items row laid_place) i d)
            (get_or (set s.places.items row laid_place) j d)
        by (inl a) (inl b) = absurd (differ (a ∙ sym b))
        by (inl a) (inr b) =
            subst (λ (q : Place). Apart q (get_or (set s.places.items row laid_place) j d))
            (sym (that_place i d a))
            (subst (λ (q : Place). Apart laid_place q) (sym (other_place j d b))
            (inr (below_place j d (omega (arith, high, b)) (omega (arith, places_long, right)))))
        by (inr a) (inl b) =
            subst (λ (q : Place). Apart (get_or (set s.places.items row laid_place) i d) q)
            (sym (that_place j d b))
            (subst (λ (q : Place). Apart q laid_place) (sym (other_place i d a))
            (inl (below_place i d (omega (arith, low, a)) (omega (arith, places_long, left)))))
        by (inr a) (inr b) =
            subst (λ (q : Place). Apart q (get_or (set s.places.items row laid_place) j d))
            (sym (other_place i d a))
            (subst (λ (q : Place). Apart (get_or s.places.items i d) q) (sym (other_place j d b))
            (is.apart i j d (omega (arith, low, a)) (omega (arith, high, b))
            (omega (arith, places_long, left)) (omega (arith, places_long, right)) differ))

    row_kept : (i : ℕ) (d : Place) → i < length s.places.items → i ≢ row
        → row_in ds (get_or s.places.items i d) ≡ row_in s.block (get_or s.places.items i d)
    row_kept i d in' differ = by (cases_lt i row)
      where
        read_same : (q : Place) → (low high : ℕ) → (q.from + q.room ≤ to) ⊎ (to + p.len ≤ q.from)
            → IsPlaced s.block low high q → row_in ds q ≡ row_in s.block q
        read_same q low high apart placed =
            ap (λ (l : List (Option Entry)). row_in l q) new
            ∙ ap values (kept_apart s.block to xs to_within low high q (sized apart) placed)
          where
            sized : (q.from + q.room ≤ to) ⊎ (to + p.len ≤ q.from)
                → (q.from + q.room ≤ to) ⊎ (to + length xs ≤ q.from)
            sized (inl before) = inl before
            sized (inr behind) = let size = xs_size in inr (omega (arith, behind, size))

        by : (i < row) ⊎ (row ≤ i)
            → row_in ds (get_or s.places.items i d) ≡ row_in s.block (get_or s.places.items i d)
        by (inl low) =
            read_same (get_or s.places.items i d) other to (inl (below_place i d low in'))
            (is.first i d low in')
        by (inr high) =
            let placed = is.later i d high in' in
            read_same (get_or s.places.items i d) s.start s.tail
            (aside' (get_or s.places.items i d) placed.above placed.under) placed

    pub laid_rows : rows_of now ≡ rows_of s
    laid_rows =
        rows_changed s.block ds s.places.items row laid_place xs inside row_kept
        (ap (λ (l : List (Option Entry)). row_in l laid_place) new
        ∙ row_there s.block to xs laid_place refl (sym xs_size) to_within)
        ∙ ap (λ (l : List Entry). set (rows_of s) row l) (sym row_there')
        ∙ set-get_or (rows_of s) row []

    pub laid : IsMoving now (row + 1) (to + p.len)
    laid = record {
      first = first_now;
      later = later_now;
      apart = apart_now;
      end =
          let sum = sum_more in
          let end = is.end in
          let same = ap (λ (l : List (List Entry)). live (take (row + 1) l)) laid_rows in
          omega (arith, sum, end, same);
      room = let same = ap live laid_rows in let room = is.room in omega (arith, same, room);
      within = is.within;
      starts = is.starts;
      block =
          let long = length-map xs (λ (e : Entry). Some e) in
          let size = xs_size in
          let a = copy_within in
          ap length new ∙ written_length s.block to (map Some xs) (omega (arith, long, size, a))
          ∙ is.block;
      small = is.small;
    }

-- A row is added at the free end.
module _ (s : Shelf) (is : IsShelf s) (xs : List Entry)
    (left : s.tail + length xs ≤ s.start + s.half) (ds : List (Option Entry))
    (new : ds ≡ written s.block s.tail (map Some xs)) where
  abbrev added : Place
  added = record { from = s.tail; len = length xs; room = length xs }

  tail_within : s.tail + length xs ≤ length s.block
  tail_within = by is.starts
    where
      by : (s.start ≡ 0) ⊎ (s.start ≡ s.half) → s.tail + length xs ≤ length s.block
      by (inl low) = let b = is.block in omega (arith, low, left, b)
      by (inr high) = let b = is.block in omega (arith, high, left, b)

  free : s.tail ≤ length s.block
  free = let a = tail_within in omega (arith, a)

  module _ (ps : List Place) (more : ps ≡ s.places.items ++ added ∷ []) where
    pub pushed_rows : rows_in ds ps ≡ rows_of s ++ xs ∷ []
    pushed_rows =
        (λ i. rows_in (new i) (more i))
        ∙ push_rows s.block s.tail xs free s.places.items s.start s.tail is.placed
        (s.tail + length xs) (omega arith) added (omega arith) refl refl is.below (omega arith)
        (omega arith)

    pub pushed_placed : All (IsPlaced ds s.start (s.tail + length xs)) ps
    pushed_placed =
        subst (λ (l : List Place). All (IsPlaced ds s.start (s.tail + length xs)) l) (sym more)
        (subst (λ (l : List (Option Entry)). All (IsPlaced l s.start (s.tail + length xs))
        (s.places.items ++ added ∷ []))
        (sym new)
        (push_placed s.block s.tail xs free s.places.items s.start s.tail is.placed
        (s.tail + length xs) (omega arith) added (omega arith) refl refl is.below (omega arith)
        (omega arith)))

    pub pushed_apart : AreApart ps
    pushed_apart =
        subst AreApart (sym more)
        (apart_pushed s.places.items added is.apart (λ i d in'. (is.placed i d in').under))

    pub pushed_block : length ds ≡ s.half + s.half
    pushed_block =
        let long = length-map xs (λ (e : Entry). Some e) in
        let within = tail_within in
        ap length new ∙ written_length s.block s.tail (map Some xs) (omega (arith, long, within))
        ∙ is.block
