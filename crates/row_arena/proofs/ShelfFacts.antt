-- Rows side by side in one block.
use Rattle.std.proofs.Common.{◌≡◌, ◌≢◌, ◌⊎◌, ℕ, ◌+◌, ◌<◌, ◌≤◌, All, List, [], ◌∷◌, ◌++◌, length, map, get_or, set, drop, take, Option, None, Some, refl, sym, ap, ◌∙◌, subst, inl, inr, arith}
use Rattle.std.proofs.lemmas.Bool.{cases_eq}
use Rattle.std.proofs.lemmas.List.{ext_get_or, get_or-map, get_or-set_other, get_or-set_same, get_or_append_left, length-map, length-set, length_push, map-append}
use lib.Seq.{get_or-append_seam}
use Rattle.raw_block.specs.Places.{IsRun}
use Rattle.row_arena.specs.declared.entry.Entry.{Entry}
use Rattle.row_arena.specs.declared.place.Place.{Place}
use Rattle.row_arena.specs.Shelves.{Apart, AreApart, IsPlaced, row_in, rows_in, values, written}
use Rattle.row_arena.proofs.WindowFacts.{length_run, run_apart, run_item, window_has}

-- the values of a list in which all are there
pub values_there : (xs : List Entry) → values (map Some xs) ≡ xs
values_there [] = refl
values_there (x ∷ xs) = ap (λ (l : List Entry). x ∷ l) (values_there xs)

module _ (cs : List (Option Entry)) where
  -- a place has what is read of it
  pub row_read : (p : Place) (row : List Entry) → take p.len (drop p.from cs) ≡ map Some row
      → row_in cs p ≡ row
  row_read p row is = ap values is ∙ values_there row

  pub row_length : (low high : ℕ) (p : Place) → IsPlaced cs low high p → high ≤ length cs
      → length (row_in cs p) ≡ p.len
  row_length low high p is within =
      let long = length-map (row_in cs p) (λ (e : Entry). Some e) in
      let same = ap length is.held in
      let left = length_run p.from p.len cs (omega (arith, is.under, is.fits, within)) in
      omega (arith, long, same, left)

  -- its entries can be read
  pub place_run : (low high : ℕ) (p : Place) → IsPlaced cs low high p → high ≤ length cs
      → IsRun cs p.from p.len
  place_run low high p is within =
      (omega (arith, is.under, is.fits, within), (row_in cs p, is.held))

  pub place_item : (p : Place) (k : ℕ) (d : Entry)
      → take p.len (drop p.from cs) ≡ map Some (row_in cs p) → k < p.len
      → p.from + p.len ≤ length cs
      → get_or cs (p.from + k) None ≡ Some (get_or (row_in cs p) k d)
  place_item p k d held within inside =
      let long = length-map (row_in cs p) (λ (e : Entry). Some e) in
      let same = ap length held in
      let left = length_run p.from p.len cs inside in
      sym (run_item cs p.from p.len k None within)
      ∙ ap (λ (l : List (Option Entry)). get_or l k None) held
      ∙ get_or-map (λ (e : Entry). Some e) (row_in cs p) k d None
      (omega (arith, long, same, left, within))

-- a place whose run is as before
pub place_kept : (cs ds : List (Option Entry)) (low high : ℕ) (p : Place)
    → take p.len (drop p.from ds) ≡ take p.len (drop p.from cs) → IsPlaced cs low high p
    → IsPlaced ds low high p
place_kept cs ds low high p same is = record {
  above = is.above;
  under = is.under;
  fits = is.fits;
  held = same ∙ is.held ∙ ap (λ (l : List Entry). map Some l) (sym (ap values same));
}

-- a place that was written
module _ (cs : List (Option Entry)) (at : ℕ) (xs : List Entry) (q : Place) (from : q.from ≡ at)
    (len : q.len ≡ length xs) (within : at ≤ length cs) where
  pub held_there : take q.len (drop q.from (written cs at (map Some xs))) ≡ map Some xs
  held_there =
      let long = length-map xs (λ (e : Entry). Some e) in
      ap (λ n. take n (drop q.from (written cs at (map Some xs)))) (len ∙ sym long)
      ∙ ap (λ n. take (length (map Some xs)) (drop n (written cs at (map Some xs)))) from
      ∙ window_has cs at (map Some xs) within

  pub row_there : row_in (written cs at (map Some xs)) q ≡ xs
  row_there = row_read (written cs at (map Some xs)) q xs held_there

  pub placed_there : (low high : ℕ) → low ≤ at → q.from + q.room ≤ high → q.len ≤ q.room
      → IsPlaced (written cs at (map Some xs)) low high q
  placed_there low high above under fits = record {
    above = omega (arith, above, from);
    under = under;
    fits = fits;
    held = held_there ∙ ap (λ (l : List Entry). map Some l) (sym row_there);
  }

-- The rows, where those of the places are as before but for one.
module _ (cs ds : List (Option Entry)) (places : List Place) where
  row_of_place : (es : List (Option Entry)) (ps : List Place) (i : ℕ) (d : Place) → i < length ps
      → get_or (rows_in es ps) i [] ≡ row_in es (get_or ps i d)
  row_of_place es ps i d within = get_or-map (row_in es) ps i d [] within

  pub rows_same : ((i : ℕ) (d : Place) → i < length places
      → row_in ds (get_or places i d) ≡ row_in cs (get_or places i d))
      → rows_in ds places ≡ rows_in cs places
  rows_same each =
      let left = length-map places (row_in ds) in
      let right = length-map places (row_in cs) in
      ext_get_or [] (rows_in ds places) (rows_in cs places) (omega (arith, left, right))
      (λ i within. at places i (omega (arith, left, within)) each)
    where
      at : (ps : List Place) (i : ℕ) → i < length ps
          → ((j : ℕ) (d : Place) → j < length ps
          → row_in ds (get_or ps j d) ≡ row_in cs (get_or ps j d))
          → get_or (rows_in ds ps) i [] ≡ get_or (rows_in cs ps) i []
      at [] i within all = absurd (omega (arith, within))
      at (p ∷ ps) i within all =
          row_of_place ds (p ∷ ps) i p within ∙ all i p within
          ∙ sym (row_of_place cs (p ∷ ps) i p within)

  pub rows_changed : (k : ℕ) (q : Place) (xs : List Entry) → k < length places
      → ((i : ℕ) (d : Place) → i < length places → i ≢ k
      → row_in ds (get_or places i d) ≡ row_in cs (get_or places i d)) → row_in ds q ≡ xs
      → rows_in ds (set places k q) ≡ set (rows_in cs places) k xs
  rows_changed k q xs within each new =
      let left = length-map (set places k q) (row_in ds) in
      let long = length-set places k q in
      let right = length-set (rows_in cs places) k xs in
      let size = length-map places (row_in cs) in
      ext_get_or [] (rows_in ds (set places k q)) (set (rows_in cs places) k xs)
      (omega (arith, left, long, right, size))
      (λ i inside. at i (omega (arith, left, long, inside)) (cases_eq i k))
    where
      at : (i : ℕ) → i < length places → (i ≡ k) ⊎ (i ≡ k → ⊥)
          → get_or (rows_in ds (set places k q)) i [] ≡ get_or (set (rows_in cs places) k xs) i []
      at i inside (inl same) =
          let long = length-set places k q in
          let size = length-map places (row_in cs) in
          row_of_place ds (set places k q) i q (omega (arith, long, inside))
          ∙ ap (row_in ds) (ap (λ n. get_or (set places k q) n q) same
          ∙ get_or-set_same places k q q within)
          ∙ new
          ∙ sym (ap (λ n. get_or (set (rows_in cs places) k xs) n []) same
          ∙ get_or-set_same (rows_in cs places) k xs [] (omega (arith, size, within)))
      at i inside (inr other) =
          let long = length-set places k q in
          row_of_place ds (set places k q) i q (omega (arith, long, inside))
          ∙ ap (row_in ds) (get_or-set_other places k i q q other)
          ∙ each i q inside other
          ∙ sym (row_of_place cs places i q inside)
          ∙ sym (get_or-set_other (rows_in cs places) k i xs [] other)

-- The places, where one of them is another one.
module _ (places : List Place) (k : ℕ) (q : Place) (inside : k < length places) where
  pub each_set : (P : Place → Type 0)
      → ((i : ℕ) (d : Place) → i < length places → i ≢ k → P (get_or places i d)) → P q
      → All P (set places k q)
  each_set P others here i d within = at (cases_eq i k)
    where
      at : (i ≡ k) ⊎ (i ≡ k → ⊥) → P (get_or (set places k q) i d)
      at (inl same) = subst P
          (sym (ap (λ n. get_or (set places k q) n d) same ∙ get_or-set_same places k q d inside))
          here
      at (inr other) =
          let long = length-set places k q in
          subst P (sym (get_or-set_other places k i q d other))
          (others i d (omega (arith, long, within)) other)

  pub apart_set : AreApart places
      → ((i : ℕ) (d : Place) → i < length places → i ≢ k → Apart (get_or places i d) q)
      → AreApart (set places k q)
  apart_set apart others = record {
    each = λ i j d left right differ. at i j d left right differ (cases_eq i k) (cases_eq j k);
  }
    where
      here : (i : ℕ) (d : Place) → i ≡ k → get_or (set places k q) i d ≡ q
      here i d same =
          ap (λ n. get_or (set places k q) n d) same ∙ get_or-set_same places k q d inside

      turn : (a b : Place) → Apart a b → Apart b a
      turn a b (inl before) = inr before
      turn a b (inr after) = inl after

      at : (i j : ℕ) (d : Place) → i < length (set places k q) → j < length (set places k q)
          → i ≢ j → (i ≡ k) ⊎ (i ≡ k → ⊥) → (j ≡ k) ⊎ (j ≡ k → ⊥)
          → Apart (get_or (set places k q) i d) (get_or (set places k q) j d)
      at i j d left right differ (inl a) (inl b) = absurd (differ (a ∙ sym b))
      at i j d left right differ (inl a) (inr b) =
          let long = length-set places k q in
          subst (λ (p : Place). Apart p (get_or (set places k q) j d)) (sym (here i d a))
          (subst (λ (p : Place). Apart q p) (sym (get_or-set_other places k j q d b))
          (turn (get_or places j d) q (others j d (omega (arith, long, right)) b)))
      at i j d left right differ (inr a) (inl b) =
          let long = length-set places k q in
          subst (λ (p : Place). Apart (get_or (set places k q) i d) p) (sym (here j d b))
          (subst (λ (p : Place). Apart p q) (sym (get_or-set_other places k i q d a))
          (others i d (omega (arith, long, left)) a))
      at i j d left right differ (inr a) (inr b) =
          let long = length-set places k q in
          subst (λ (p : Place). Apart p (get_or (set places k q) j d))
          (sym (get_or-set_other places k i q d a))
          (subst (λ (p : Place). Apart (get_or places i d) p)
          (sym (get_or-set_other places k j q d b))
          (apart.each i j d (omega (arith, long, left)) (omega (arith, long, right)) differ))

-- One place more.
module _ (places : List Place) (q : Place) where
  one_more : (i : ℕ) → i < length (places ++ q ∷ []) → (i < length places) ⊎ (i ≡ length places)
  one_more i within = by (cases_eq i (length places))
    where
      by : (i ≡ length places) ⊎ (i ≡ length places → ⊥)
          → (i < length places) ⊎ (i ≡ length places)
      by (inl same) = inr same
      by (inr other) =
          let long = length_push places q in
          inl (less i (length places) (omega (arith, long, within)) other)
        where
          less : (a b : ℕ) → a < b + 1 → (a ≡ b → ⊥) → a < b
          less a b low other' = by' (cases_eq a b)
            where
              by' : (a ≡ b) ⊎ (a ≡ b → ⊥) → a < b
              by' (inl same) = absurd (other' same)
              by' (inr differ) = omega (arith, low, differ)

  at_end : (d : Place) → get_or (places ++ q ∷ []) (length places) d ≡ q
  at_end d = get_or-append_seam places q [] d

  pub each_pushed : (P : Place → Type 0) → All P places → P q → All P (places ++ q ∷ [])
  each_pushed P all here i d within = by (one_more i within)
    where
      by : (i < length places) ⊎ (i ≡ length places) → P (get_or (places ++ q ∷ []) i d)
      by (inl below) = subst P (sym (get_or_append_left places (q ∷ []) d i below)) (all i d below)
      by (inr last) =
          subst P (sym (ap (λ n. get_or (places ++ q ∷ []) n d) last ∙ at_end d)) here

  pub apart_pushed : AreApart places
      → ((i : ℕ) (d : Place) → i < length places
      → (get_or places i d).from + (get_or places i d).room ≤ q.from)
      → AreApart (places ++ q ∷ [])
  apart_pushed apart before = record {
    each = λ i j d left right differ. by i j d (one_more i left) (one_more j right) differ;
  }
    where
      by : (i j : ℕ) (d : Place) → (i < length places) ⊎ (i ≡ length places)
          → (j < length places) ⊎ (j ≡ length places) → i ≢ j
          → Apart (get_or (places ++ q ∷ []) i d) (get_or (places ++ q ∷ []) j d)
      by i j d (inl a) (inl b) differ =
          subst (λ (p : Place). Apart p (get_or (places ++ q ∷ []) j d))
          (sym (get_or_append_left places (q ∷ []) d i a))
          (subst (λ (p : Place). Apart (get_or places i d) p)
          (sym (get_or_append_left places (q ∷ []) d j b)) (apart.each i j d a b differ))
      by i j d (inl a) (inr b) differ =
          subst (λ (p : Place). Apart p (get_or (places ++ q ∷ []) j d))
          (sym (get_or_append_left places (q ∷ []) d i a))
          (subst (λ (p : Place). Apart (get_or places i d) p)
          (sym (ap (λ n. get_or (places ++ q ∷ []) n d) b ∙ at_end d)) (inl (before i d a)))
      by i j d (inr a) (inl b) differ =
          subst (λ (p : Place). Apart p (get_or (places ++ q ∷ []) j d))
          (sym (ap (λ n. get_or (places ++ q ∷ []) n d) a ∙ at_end d))
          (subst (λ (p : Place). Apart q p)
          (sym (get_or_append_left places (q ∷ []) d j b)) (inr (before j d b)))
      by i j d (inr a) (inr b) differ = absurd (differ (a ∙ sym b))

-- A row is written in a window that no other row has a position of.
module _ (cs : List (Option Entry)) (at : ℕ) (xs : List Entry) (within : at ≤ length cs) where
  abbrev pub after : List (Option Entry)
  after = written cs at (map Some xs)

  pub kept_apart : (low high : ℕ) (p : Place)
      → (p.from + p.room ≤ at) ⊎ (at + length xs ≤ p.from) → IsPlaced cs low high p
      → (take p.len (drop p.from after) ≡ take p.len (drop p.from cs))
  kept_apart low high p apart is =
      run_apart cs at (map Some xs) p.from p.len (by apart) within
    where
      by : (p.from + p.room ≤ at) ⊎ (at + length xs ≤ p.from)
          → (p.from + p.len ≤ at) ⊎ (at + length (map Some xs) ≤ p.from)
      by (inl before) = let fits = is.fits in inl (omega (arith, before, fits))
      by (inr behind') =
          let long = length-map xs (λ (e : Entry). Some e) in
          inr (omega (arith, behind', long))

  module _ (places : List Place) (low high : ℕ) (placed : All (IsPlaced cs low high) places)
      (top : ℕ) (under : high ≤ top) where
    pub raised : (p : Place) → IsPlaced after low high p → IsPlaced after low top p
    raised p is = record {
      above = is.above;
      under = let here = is.under in omega (arith, here, under);
      fits = is.fits;
      held = is.held;
    }

    -- in the place of another row
    module _ (k : ℕ) (q : Place) (inside : k < length places)
        (others : (i : ℕ) (d : Place) → i < length places → i ≢ k
        → ((get_or places i d).from + (get_or places i d).room ≤ at)
        ⊎ (at + length xs ≤ (get_or places i d).from))
        (from : q.from ≡ at) (len : q.len ≡ length xs) (above : low ≤ at)
        (below : q.from + q.room ≤ top) (fits : q.len ≤ q.room) where
      pub set_placed : All (IsPlaced after low top) (set places k q)
      set_placed = each_set places k q inside (IsPlaced after low top)
          (λ i d in' other. raised (get_or places i d) (place_kept cs after low high
          (get_or places i d)
          (kept_apart low high (get_or places i d) (others i d in' other) (placed i d in'))
          (placed i d in')))
          (placed_there cs at xs q from len within low top above below fits)

      pub set_rows : rows_in after (set places k q) ≡ set (rows_in cs places) k xs
      set_rows = rows_changed cs after places k q xs inside
          (λ i d in' other. ap values
          (kept_apart low high (get_or places i d) (others i d in' other) (placed i d in')))
          (row_there cs at xs q from len within)

    -- and behind all rows, as one more
    module _ (q : Place) (free : high ≤ at) (from : q.from ≡ at) (len : q.len ≡ length xs)
        (above : low ≤ at) (below : q.from + q.room ≤ top) (fits : q.len ≤ q.room) where
      same : (i : ℕ) (d : Place) → i < length places
          → take (get_or places i d).len (drop (get_or places i d).from after)
          ≡ take (get_or places i d).len (drop (get_or places i d).from cs)
      same i d in' =
          let here = (placed i d in').under in
          kept_apart low high (get_or places i d) (inl (omega (arith, here, free))) (placed i d in')

      pub push_placed : All (IsPlaced after low top) (places ++ q ∷ [])
      push_placed = each_pushed places q (IsPlaced after low top)
          (λ i d in'. raised (get_or places i d) (place_kept cs after low high (get_or places i d)
          (same i d in') (placed i d in')))
          (placed_there cs at xs q from len within low top above below fits)

      pub push_rows : rows_in after (places ++ q ∷ []) ≡ rows_in cs places ++ xs ∷ []
      push_rows =
          map-append (row_in after) places (q ∷ [])
          ∙ ap (λ (l : List (List Entry)). l ++ row_in after q ∷ [])
          (rows_same cs after places (λ i d in'. ap values (same i d in')))
          ∙ ap (λ (r : List Entry). rows_in cs places ++ r ∷ [])
          (row_there cs at xs q from len within)
