-- Rows that are added to the lists of their indices.
use Rattle.std.proofs.Common.{◌≡◌, ◌≢◌, ◌⊎◌, ℕ, zero, suc, ◌+◌, ◌<◌, ◌≤◌, Bool, true, false, List, [], ◌∷◌, ◌++◌, All, length, get_or, map, replicate, set, take, pos, inl, inr, refl, sym, ap, ◌∙◌, subst, arith}
use Rattle.std.specs.List.{Contains}
use Rattle.std.specs.Ordering.{int_eq}
use Rattle.std.proofs.lemmas.Bool.{cases_eq, cases_lt}
use Rattle.std.proofs.lemmas.Bool.Decides.{Decides-int_eq}
use Rattle.std.proofs.lemmas.List.{get_or-map, get_or-replicate, get_or-set_other, get_or-set_same, get_or_past, length-map, length-replicate, length-set, take_all, take_more}
use Rattle.std.proofs.lemmas.List.Sums.{sum_by_more, sum_by-take-le}
use Rattle.std.proofs.lemmas.List.Elements.{All-cons, All-nil, Contains-append_cases}
use Rattle.row_arena.specs.declared.entry.Entry.{Entry}
use Rattle.row_arena.specs.Arena.{AreFilled, live, row_at}
use Rattle.row_arena.specs.Rows.{IsRow, entry_at}
use Rattle.row_arena.proofs.AboveFacts.{entry_found}
use Rattle.row_arena.proofs.ArenaFacts.{row_is}
use Rattle.scaled_simplex.specs.Board.{AreAdded, AreListed, column_of}
use Rattle.scaled_simplex.proofs.ListFacts.{no_both, no_item}
use Rattle.scaled_simplex.proofs.Sweeps.{row_at-set_other, row_at-set_same}

-- where there is one item, it is that
one_item : (x y : ℕ) → Contains (x ∷ []) y → y ≡ x
one_item x y (zero, within, is) = sym is
one_item x y (suc k, within, is) = absurd (omega (arith, within))

contains_first : {X : Type 0} (x : X) (xs : List X) → Contains (x ∷ xs) x
contains_first x xs = (0, omega arith, refl)

contains_later : {X : Type 0} (x y : X) (xs : List X) → Contains xs y → Contains (x ∷ xs) y
contains_later x y xs (k, within, is) = (suc k, omega (arith, within), is)

-- what is said of an item is said of its column
contains_map : (row : List Entry) (entry : Entry) → Contains row entry
    → Contains (map column_of row) entry.column
contains_map [] entry has = absurd (no_item entry has)
contains_map (e ∷ row) entry (zero, within, is) =
    (zero, omega arith, ap column_of is)
contains_map (e ∷ row) entry (suc k, within, is) =
    contains_later e.column entry.column (map column_of row)
    (contains_map row entry (k, omega (arith, within), is))

pub none_added : (row : ℕ) (lists : List (List ℕ)) → AreAdded row [] lists lists
none_added row lists = record {
  count_is = refl;
  kept = λ index k has. has;
  added = λ index has within. absurd (no_item index has);
  small = λ index bound below all. all;
}

pub added_none : (row index : ℕ) (lists : List (List ℕ)) → length lists ≤ index
    → AreAdded row (index ∷ []) lists lists
added_none row index lists past = record {
  count_is = refl;
  kept = λ i k has. has;
  added = λ i has within.
      let same = one_item index i has in
      absurd (omega (arith, past, within, same));
  small = λ i bound below all. all;
}

module _ (row index : ℕ) (lists : List (List ℕ)) (within : index < length lists) where
  abbrev grown : List (List ℕ)
  grown = set lists index (row ∷ get_or lists index [])

  own_list : get_or grown index [] ≡ row ∷ get_or lists index []
  own_list = get_or-set_same lists index (row ∷ get_or lists index []) [] within

  other_list : (i : ℕ) → i ≢ index → get_or grown i [] ≡ get_or lists i []
  other_list i other =
      get_or-set_other lists index i (row ∷ get_or lists index []) [] other

  pub added_one : AreAdded row (index ∷ []) lists grown
  added_one = record {
    count_is = length-set lists index (row ∷ get_or lists index []);
    kept = λ i k has. elim (cases_eq i index) as (λ _. Contains (get_or grown i []) k) [
      | inl same ↦ rw (same, own_list)
          (contains_later row k (get_or lists index []) (rw same at has))
      | inr other ↦ rw (other_list i other) has
    ];
    added = λ i has below.
        rw (one_item index i has, own_list) (contains_first row (get_or lists index []));
    small = λ i bound below all. elim (cases_eq i index)
        as (λ _. All (λ k. k < bound) (get_or grown i [])) [
          | inl same ↦ rw (same, own_list)
              (All-cons (λ k. k < bound) row (get_or lists index []) below (rw same at all))
          | inr other ↦ rw (other_list i other) all
        ];
  }

-- some, and then one more
added_more : (row index : ℕ) (done : List ℕ) (old middle new : List (List ℕ))
    → AreAdded row done old middle → AreAdded row (index ∷ []) middle new
    → AreAdded row (done ++ index ∷ []) old new
added_more row index done old middle new first second = record {
  count_is = second.count_is ∙ first.count_is;
  kept = λ i k has. second.kept i k (first.kept i k has);
  added = λ i has below. elim (Contains-append_cases done (index ∷ []) i has)
      as (λ _. Contains (get_or new i []) row) [
        | inl before ↦ second.kept i row (first.added i before below)
        | inr last ↦ second.added i last
            (let count = first.count_is in omega (arith, count, below))
      ];
  small = λ i bound below all. second.small i bound below (first.small i bound below all);
}

pub added_index : (row : ℕ) (indices : List ℕ) (k d : ℕ) (old middle new : List (List ℕ))
    → k < length indices → AreAdded row (take k indices) old middle
    → AreAdded row (get_or indices k d ∷ []) middle new
    → AreAdded row (take (k + 1) indices) old new
added_index row indices k d old middle new within first second =
    rw (take_more indices k d within)
    (added_more row (get_or indices k d) (take k indices) old middle new first second)

pub added_all : (row : ℕ) (indices : List ℕ) (old new : List (List ℕ))
    → AreAdded row (take (length indices) indices) old new → AreAdded row indices old new
added_all row indices old new added =
    subst (λ l. AreAdded row l old new) (take_all (length indices) indices (omega arith)) added

-- the same of the columns of entries
pub added_entry : (row : ℕ) (entries : List Entry) (k : ℕ) (d : Entry)
    (old middle new : List (List ℕ)) → k < length entries
    → AreAdded row (take k (map column_of entries)) old middle
    → AreAdded row ((get_or entries k d).column ∷ []) middle new
    → AreAdded row (take (k + 1) (map column_of entries)) old new
added_entry row entries k d old middle new within first second =
    added_index row (map column_of entries) k 0 old middle new (rw length-map within) first
    (rw (get_or-map column_of entries k d 0 within) second)

pub added_entries : (row : ℕ) (entries : List Entry) (old new : List (List ℕ))
    → AreAdded row (take (length entries) (map column_of entries)) old new
    → AreAdded row (map column_of entries) old new
added_entries row entries old new added =
    added_all row (map column_of entries) old new (rw length-map added)

-- the lists of no rows
pub none_listed : (rows : List (List Entry)) (indices : ℕ)
    → AreListed rows 0 indices (replicate indices [])
none_listed rows indices = record {
  count_is = length-replicate indices [];
  each = λ k index below within some. absurd (omega (arith, below));
  small = λ index. by index (cases_lt index indices);
}
  where
    by : (index : ℕ) → (index < indices) ⊎ (indices ≤ index)
        → All (λ k. k < 0) (get_or (replicate indices []) index [])
    by index (inl below) =
        rw (get_or-replicate {A = List ℕ} indices index [] [] below) (All-nil (λ k. k < 0))
    by index (inr past) =
        let lists : List (List ℕ) = replicate indices [] in
        let count : length lists ≡ indices = length-replicate indices [] in
        rw (get_or_past {X = List ℕ} lists index [] (omega (arith, past, count)))
        (All-nil (λ k. k < 0))

-- a row more
pub listed_more : (rows : List (List Entry)) (row indices : ℕ) (old new : List (List ℕ))
    → IsRow (row_at rows row) → AreListed rows row indices old
    → AreAdded row (map column_of (row_at rows row)) old new
    → AreListed rows (row + 1) indices new
listed_more rows row indices old new is listed added = record {
  count_is = added.count_is ∙ listed.count_is;
  each = λ k index below within some. elim (cases_lt k row)
      as (λ _. Contains (get_or new index []) k) [
        | inl before ↦ added.kept index k (listed.each k index before within some)
        | inr past ↦
            let same : k ≡ row = omega (arith, below, past) in
            rw same
            (added.added index
            (contains_map (row_at rows row) (record {
              column = index;
              value = entry_at (row_at rows row) index;
            }) (entry_found (row_at rows row) index is (rw same at some)))
            (let count = listed.count_is in omega (arith, within, count)))
      ];
  small = λ index. added.small index (row + 1) (omega arith)
      (λ i d inside. let before = listed.small index i d inside in omega (arith, before));
}

-- the entries of so many first rows, and those of the next one
pub live_more : (rows : List (List Entry)) (row : ℕ) → row < length rows
    → live (take (row + 1) rows) ≡ live (take row rows) + length (row_at rows row)
live_more rows row within =
    sum_by_more length rows row [] within
    ∙ ap (λ (r : List Entry). live (take row rows) + length r) (row_is rows row [] within)

pub room_begun : (rows : List (List Entry)) (row cells room : ℕ) → row < length rows
    → live rows ≤ cells → cells ≤ room
    → live (take row rows) + length (row_at rows row) ≤ room
room_begun rows row cells room within fits enough =
    let more = live_more rows row within in
    let less = sum_by-take-le length rows (row + 1) in
    omega (arith, more, less, fits, enough)

-- one row is another one, and is added where it has an entry and had none
module _ (rows new : List (List Entry)) (row count indices : ℕ) (made : List Entry)
    (filled : List ℕ) (old lists : List (List ℕ)) (below : row < count)
    (within : row < length rows) (is : new ≡ set rows row made)
    (listed : AreListed rows count indices old) (more : AreFilled (row_at rows row) made filled)
    (added : AreAdded row filled old lists) where
  own_row : row_at new row ≡ made
  own_row = ap (λ l. row_at l row) is ∙ row_at-set_same rows row made within

  other_row : (k : ℕ) → k ≢ row → row_at new k ≡ row_at rows k
  other_row k other = ap (λ l. row_at l k) is ∙ row_at-set_other rows row k made other

  own_listed : (index : ℕ) → index < indices → entry_at made index ≢ pos 0
      → Contains (get_or lists index []) row
  own_listed index small some = by (int_eq (entry_at (row_at rows row) index) (pos 0)) refl
    where
      by : (b : Bool) → int_eq (entry_at (row_at rows row) index) (pos 0) ≡ b
          → Contains (get_or lists index []) row
      by true none = added.added index
          (more.each index ((Decides-int_eq (entry_at (row_at rows row) index) (pos 0)).0 none)
          some)
          (let count_is = listed.count_is in omega (arith, small, count_is))
      by false has = added.kept index row (listed.each row index below small
          (λ none. no_both ((Decides-int_eq (entry_at (row_at rows row) index) (pos 0)).1 none)
          has))

  pub listed_set : AreListed new count indices lists
  listed_set = record {
    count_is = added.count_is ∙ listed.count_is;
    each = λ k index small inside some. elim (cases_eq k row)
        as (λ _. Contains (get_or lists index []) k) [
          | inl same ↦ rw same (own_listed index inside (rw (same, own_row) at some))
          | inr other ↦ added.kept index k (listed.each k index small inside
              (rw (other_row k other) at some))
        ];
    small = λ index. added.small index count below (listed.small index);
  }

-- an index at which one row alone has an entry
pub listed_left : (rows : List (List Entry)) (count indices index row : ℕ)
    (lists : List (List ℕ)) → row < count → index < indices
    → ((k : ℕ) → k < count → k ≢ row → entry_at (row_at rows k) index ≡ pos 0)
    → AreListed rows count indices lists
    → AreListed rows count indices (set lists index (row ∷ []))
listed_left rows count indices index row lists below within alone listed = record {
  count_is = length-set lists index (row ∷ []) ∙ listed.count_is;
  each = λ k i small inside some. elim (cases_eq i index)
      as (λ _. Contains (get_or (set lists index (row ∷ [])) i []) k) [
        | inl same ↦
            let it : k ≡ row = alone_is k small
            (subst (λ n. entry_at (row_at rows k) n ≢ pos 0) same some) in
            rw (same, get_or-set_same lists index (row ∷ []) [] there, it) (contains_first row [])
        | inr other ↦ rw (get_or-set_other lists index i (row ∷ []) [] other)
            (listed.each k i small inside some)
      ];
  small = λ i. elim (cases_eq i index)
      as (λ _. All (λ k. k < count) (get_or (set lists index (row ∷ [])) i [])) [
        | inl same ↦ rw (same, get_or-set_same lists index (row ∷ []) [] there)
            (All-cons (λ k. k < count) row [] below (All-nil (λ k. k < count)))
        | inr other ↦ rw (get_or-set_other lists index i (row ∷ []) [] other) (listed.small i)
      ];
}
  where
    there : index < length lists
    there = let count_is = listed.count_is in omega (arith, within, count_is)

    alone_is : (k : ℕ) → k < count → entry_at (row_at rows k) index ≢ pos 0 → k ≡ row
    alone_is k small some = by (cases_eq k row)
      where
        by : (k ≡ row) ⊎ (k ≢ row) → k ≡ row
        by (inl same) = same
        by (inr other) = absurd (some (alone k small other))
