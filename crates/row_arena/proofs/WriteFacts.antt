-- Loops that write into the block, entry by entry.
use Rattle.std.proofs.Common.{◌≡◌, ◌⊎◌, inl, inr, ℕ, ◌+◌, ◌<◌, ◌≤◌, List, [], ◌∷◌, ◌++◌, length, map, get_or, set, drop, take, Option, None, Some, sym, ap, ◌∙◌, arith}
use Rattle.std.proofs.lemmas.List.{get_or-drop, get_or-take, get_or_append_left, length-map, map-append, take_all, take_more}
use Rattle.std.proofs.Common.{length-take-le}
use Rattle.raw_block.specs.Places.{IsFilled}
use Rattle.row_arena.specs.declared.entry.Entry.{Entry}
use Rattle.row_arena.specs.declared.place.Place.{Place}
use Rattle.row_arena.specs.Shelves.{row_in, written}
use Rattle.row_arena.proofs.ShelfFacts.{place_item}
use Rattle.row_arena.proofs.WindowFacts.{behind, length_run, written_length, written_more, written_none}

module _ (cs : List (Option Entry)) (at : ℕ) (row : List Entry) where
  -- so many entries of the row are written
  abbrev pub begun : ℕ → List (Option Entry)
  begun k = written cs at (map Some (take k row))

  size : (k : ℕ) → k ≤ length row → length (map Some (take k row)) ≡ k
  size k within =
      let long = length-map (take k row) (λ (e : Entry). Some e) in
      let first = length-take-le k row within in
      omega (arith, long, first)

  pub none_begun : cs ≡ begun 0
  none_begun = sym (written_none cs at)

  pub all_begun : (k : ℕ) → length row ≤ k → begun k ≡ written cs at (map Some row)
  all_begun k whole = ap (λ (l : List Entry). written cs at (map Some l)) (take_all k row whole)

  pub begun_length : (k : ℕ) → k ≤ length row → at + length row ≤ length cs
      → length (begun k) ≡ length cs
  begun_length k within room =
      let long = size k within in
      written_length cs at (map Some (take k row)) (omega (arith, long, within, room))

  pub begun_more : (k : ℕ) (d e : Entry) (ds : List (Option Entry)) → k < length row
      → at + length row ≤ length cs → e ≡ get_or row k d → ds ≡ begun k
      → set ds (at + k) (Some e) ≡ begun (k + 1)
  begun_more k d e ds within room is here =
      let long = size k (omega (arith, within)) in
      ap (λ (l : List (Option Entry)). set l (at + k) (Some e)) here
      ∙ ap (λ n. set (begun k) (at + n) (Some e)) (sym long)
      ∙ written_more cs at (map Some (take k row)) (Some e) (omega (arith, long, within, room))
      ∙ ap (λ (l : List (Option Entry)). written cs at l)
      (sym (map-append (λ (a : Entry). Some a) (take k row) (e ∷ []))
      ∙ ap (λ (a : Entry). map Some (take k row ++ a ∷ [])) is
      ∙ ap (λ (l : List Entry). map Some l) (sym (take_more row k d within)))

  -- what stands behind them is as before
  pub read_behind : (k n : ℕ) → k ≤ length row → at + length row ≤ length cs → at + k ≤ n
      → get_or (begun k) n None ≡ get_or cs n None
  read_behind k n within room after =
      let long = size k within in
      sym (get_or-drop n (begun k) 0 None ∙ ap (λ m. get_or (begun k) m None) {x = n + 0}
      (omega arith))
      ∙ ap (λ (l : List (Option Entry)). get_or l 0 None)
      (behind cs at (map Some (take k row)) n (omega (arith, room)) (omega (arith, long, after)))
      ∙ (get_or-drop n cs 0 None ∙ ap (λ m. get_or cs m None) {x = n + 0} (omega arith))

  pub read_before : (k n : ℕ) → at ≤ length cs → n < at
      → get_or (begun k) n None ≡ get_or cs n None
  read_before k n room before =
      let front = length-take-le at cs room in
      get_or_append_left (take at cs) (map Some (take k row) ++ drop
      (at + length (map Some (take k row))) cs)
      None n (omega (arith, front, before))
      ∙ get_or-take at cs n None before

-- What a place has is copied to a position, or has its signs turned.
module _ (cs : List (Option Entry)) (p : Place)
    (held : take p.len (drop p.from cs) ≡ map Some (row_in cs p))
    (inside : p.from + p.len ≤ length cs) where
  pub row_size : length (row_in cs p) ≡ p.len
  row_size =
      let long = length-map (row_in cs p) (λ (e : Entry). Some e) in
      let same = ap length held in
      let left = length_run p.from p.len cs inside in
      omega (arith, long, same, left)

  module _ (to k : ℕ) (d : Entry) (row : List Entry) (ds : List (Option Entry))
      (size : length row ≡ p.len) (room : to + p.len ≤ length cs)
      (within : k < p.len) (here : ds ≡ begun cs to row k) where
    -- an entry that is yet to be read
    pub still : (p.from + p.len ≤ to) ⊎ (to + p.len ≤ p.from) ⊎ (to ≡ p.from)
        → get_or ds (p.from + k) None ≡ Some (get_or (row_in cs p) k d)
    still apart =
        ap (λ (l : List (Option Entry)). get_or l (p.from + k) None) here ∙ before apart
        ∙ place_item cs p k d held within inside
      where
        before : (p.from + p.len ≤ to) ⊎ (to + p.len ≤ p.from) ⊎ (to ≡ p.from)
            → get_or (begun cs to row k) (p.from + k) None ≡ get_or cs (p.from + k) None
        before (inl low) =
            read_before cs to row k (p.from + k) (omega (arith, room)) (omega (arith, low, within))
        before (inr (inl high)) =
            read_behind cs to row k (p.from + k) (omega (arith, within, size))
            (omega (arith, room, size)) (omega (arith, high, within))
        before (inr (inr same)) =
            read_behind cs to row k (p.from + k) (omega (arith, within, size))
            (omega (arith, room, size)) (omega (arith, same))

    pub found : (p.from + p.len ≤ to) ⊎ (to + p.len ≤ p.from) ⊎ (to ≡ p.from)
        → IsFilled ds (p.from + k)
    found apart = (get_or (row_in cs p) k d, still apart)

    pub read_is : (e : Entry) → (p.from + p.len ≤ to) ⊎ (to + p.len ≤ p.from) ⊎ (to ≡ p.from)
        → get_or ds (p.from + k) None ≡ Some e → e ≡ get_or (row_in cs p) k d
    read_is e apart is = given (sym is ∙ still apart)
      where
        given : {a b : Entry} → Some a ≡ Some b → a ≡ b
        given same = cc

pub aside : {A B C : Type 0} → A ⊎ B → A ⊎ B ⊎ C
aside (inl a) = inl a
aside (inr b) = inr (inl b)
