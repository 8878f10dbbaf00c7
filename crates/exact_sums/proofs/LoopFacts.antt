-- Loops that append: what is there now is what was there before, and then what each step so far has
-- given.
use Rattle.std.proofs.Common.{◌≡◌, ℕ, zero, suc, ◌+◌, ◌-◌, ◌<◌, ◌≤◌, List, [], ◌∷◌, ◌++◌, length, get_or, map, take, take_all, sym, ap, ◌∙◌, arith}
use Rattle.std.proofs.lemmas.Grind.{flat_map-append}
use Rattle.std.proofs.lemmas.List.{append-nil, append_assoc, take_more}
use Rattle.std.proofs.lemmas.List.Concat.{flat_map_single}
use Rattle.std.specs.List.{flat_map, range_with_len}
use Rattle.exact_sums.specs.Lists.{flat_map_from}

-- steps over numbers, from one on
pub record AreOfNumbers {Y : Type 0} (part : ℕ → List Y) (from to : ℕ) (start now : List Y)
    : Type 0 where
  pub are : now ≡ start ++ flat_map part (range_with_len from (to - from))
  pub onward : from ≤ to

-- over the items of a list
pub record AreOfItems {X Y : Type 0} (part : X → List Y) (xs : List X) (i : ℕ)
    (start now : List Y) : Type 0 where
  pub are : now ≡ start ++ flat_map part (take i xs)

-- and over its items by their numbers
pub record AreOfNumbered {X Y : Type 0} (part : ℕ → X → List Y) (xs : List X) (i : ℕ)
    (start now : List Y) : Type 0 where
  pub are : now ≡ start ++ flat_map_from part 0 (take i xs)

-- what a step appends comes behind what is given so far
given_more : {Y : Type 0} (start old new given more next : List Y) → old ≡ start ++ given
    → new ≡ old ++ more → next ≡ given ++ more → new ≡ start ++ next
given_more start old new given more next was added is =
    added ∙ ap (λ list. list ++ more) was ∙ append_assoc start given more
    ∙ ap (λ list. start ++ list) (sym is)

pub next_number : {Y : Type 0} (part : ℕ → List Y) (from count : ℕ)
    → flat_map part (range_with_len from (suc count))
    ≡ flat_map part (range_with_len from count) ++ part (from + count)
next_number part from zero = append-nil (part from) ∙ ap part (omega arith)
next_number part from (suc count) =
    let same : from + 1 + count ≡ from + suc count = omega arith in
    ap (λ list. part from ++ list) (next_number part (from + 1) count)
    ∙ ap (λ n. part from ++ (flat_map part (range_with_len (from + 1) count) ++ part n)) same
    ∙ sym (append_assoc (part from) (flat_map part (range_with_len (from + 1) count))
    (part (from + suc count)))

module _ {Y : Type 0} {part : ℕ → List Y} where
  pub numbers_none : (from : ℕ) (start : List Y) → AreOfNumbers part from from start start
  numbers_none from start =
      let none : 0 ≡ from - from = omega arith in
      record {
        are = sym (append-nil start)
            ∙ ap (λ n. start ++ flat_map part (range_with_len from n)) none;
        onward = omega arith;
      }

  pub numbers_more : {from to : ℕ} {start old new : List Y} → AreOfNumbers part from to start old
      → new ≡ old ++ part to → AreOfNumbers part from (to + 1) start new
  numbers_more {from} {to} {start} {old} {new} so_far more =
      let past = so_far.onward in
      let one : to + 1 - from ≡ suc (to - from) = omega (arith, past) in
      let here : from + (to - from) ≡ to = omega (arith, past) in
      record {
        are = given_more start old new (flat_map part (range_with_len from (to - from)))
            (part to) (flat_map part (range_with_len from (to + 1 - from))) so_far.are more
            (ap (λ n. flat_map part (range_with_len from n)) one ∙ next_number part from (to - from)
            ∙ ap (λ n. flat_map part (range_with_len from (to - from)) ++ part n) here);
        onward = omega (arith, past);
      }

  pub numbers_all : (from to count : ℕ) (start now : List Y)
      → AreOfNumbers part from to start now → to - from ≡ count
      → now ≡ start ++ flat_map part (range_with_len from count)
  numbers_all from to count start now so_far same =
      so_far.are ∙ ap (λ n. start ++ flat_map part (range_with_len from n)) same

-- the same where a step appends one
pub numbers_mapped : {Y : Type 0} (f : ℕ → Y) (from to count : ℕ) (start now : List Y)
    → AreOfNumbers (λ n. f n ∷ []) from to start now → to - from ≡ count
    → now ≡ start ++ map f (range_with_len from count)
numbers_mapped f from to count start now so_far same =
    numbers_all from to count start now so_far same
    ∙ ap (λ list. start ++ list) (flat_map_single f (range_with_len from count))

pub next_item : {X Y : Type 0} (part : X → List Y) (xs : List X) (i : ℕ) (d : X) → i < length xs
    → flat_map part (take (i + 1) xs) ≡ flat_map part (take i xs) ++ part (get_or xs i d)
next_item part xs i d within =
    ap (flat_map part) (take_more xs i d within)
    ∙ flat_map-append part (take i xs) (get_or xs i d ∷ [])
    ∙ ap (λ list. flat_map part (take i xs) ++ list) (append-nil (part (get_or xs i d)))

module _ {X Y : Type 0} {part : X → List Y} {xs : List X} where
  pub items_none : (start : List Y) → AreOfItems part xs 0 start start
  items_none start = record { are = sym (append-nil start) }

  pub items_more : {i : ℕ} {x : X} {start old new : List Y} (d : X) → i < length xs
      → x ≡ get_or xs i d → AreOfItems part xs i start old → new ≡ old ++ part x
      → AreOfItems part xs (i + 1) start new
  items_more {i} {x} {start} {old} {new} d within is so_far more = record {
    are = given_more start old new (flat_map part (take i xs)) (part x)
        (flat_map part (take (i + 1) xs)) so_far.are more
        (next_item part xs i d within
        ∙ ap (λ item. flat_map part (take i xs) ++ part item) (sym is));
  }

  pub items_all : (i : ℕ) (start now : List Y) → length xs ≤ i → AreOfItems part xs i start now
      → now ≡ start ++ flat_map part xs
  items_all i start now past so_far =
      so_far.are ∙ ap (λ list. start ++ flat_map part list) (take_all i xs past)

pub items_mapped : {X Y : Type 0} (f : X → Y) (xs : List X) (i : ℕ) (start now : List Y)
    → length xs ≤ i → AreOfItems (λ x. f x ∷ []) xs i start now → now ≡ start ++ map f xs
items_mapped f xs i start now past so_far =
    items_all i start now past so_far
    ∙ ap (λ list. start ++ list) (flat_map_single f xs)

numbered_from : {X Y : Type 0} (part : ℕ → X → List Y) (k : ℕ) (xs : List X) (i n : ℕ) (d : X)
    → i < length xs → n ≡ k + i → flat_map_from part k (take (suc i) xs)
    ≡ flat_map_from part k (take i xs) ++ part n (get_or xs i d)
numbered_from part k [] i n d within is = absurd (omega (arith, within))
numbered_from part k (x ∷ xs) zero n d within is =
    append-nil (part k x) ∙ ap (λ m. part m x) (omega (arith, is))
numbered_from part k (x ∷ xs) (suc i) n d within is =
    ap (λ list. part k x ++ list)
    (numbered_from part (k + 1) xs i n d (omega (arith, within)) (omega (arith, is)))
    ∙ sym (append_assoc (part k x) (flat_map_from part (k + 1) (take i xs))
    (part n (get_or xs i d)))

pub next_numbered : {X Y : Type 0} (part : ℕ → X → List Y) (xs : List X) (i : ℕ) (d : X)
    → i < length xs → flat_map_from part 0 (take (i + 1) xs)
    ≡ flat_map_from part 0 (take i xs) ++ part i (get_or xs i d)
next_numbered part xs i d within =
    let next : i + 1 ≡ suc i = omega arith in
    ap (λ n. flat_map_from part 0 (take n xs)) next
    ∙ numbered_from part 0 xs i i d within (omega arith)

module _ {X Y : Type 0} {part : ℕ → X → List Y} {xs : List X} where
  pub numbered_none : (start : List Y) → AreOfNumbered part xs 0 start start
  numbered_none start = record { are = sym (append-nil start) }

  pub numbered_more : {i : ℕ} {x : X} {start old new : List Y} (d : X) → i < length xs
      → x ≡ get_or xs i d → AreOfNumbered part xs i start old → new ≡ old ++ part i x
      → AreOfNumbered part xs (i + 1) start new
  numbered_more {i} {x} {start} {old} {new} d within is so_far more = record {
    are = given_more start old new (flat_map_from part 0 (take i xs)) (part i x)
        (flat_map_from part 0 (take (i + 1) xs)) so_far.are more
        (next_numbered part xs i d within
        ∙ ap (λ item. flat_map_from part 0 (take i xs) ++ part i item) (sym is));
  }

  pub numbered_all : (i : ℕ) (start now : List Y) → length xs ≤ i
      → AreOfNumbered part xs i start now → now ≡ start ++ flat_map_from part 0 xs
  numbered_all i start now past so_far =
      so_far.are ∙ ap (λ list. start ++ flat_map_from part 0 list) (take_all i xs past)
