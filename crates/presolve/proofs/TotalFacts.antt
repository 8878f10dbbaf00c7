-- Sums that are made step by step, and lists.
use Rattle.std.proofs.Common.{◌≡◌, ℕ, zero, suc, ◌+◌, ◌<◌, ◌≤◌, Bool, true, false, List, [], ◌∷◌, length, get_or, take, sum_by, if◌then◌else◌, int_lt, ℤ, pos, ◌+ℤ◌, unsigned_abs, ap, arith}
use Rattle.std.proofs.lemmas.Int.{ints}
use Rattle.std.proofs.lemmas.List.Sums.{sum_by-cons}
use Rattle.std.specs.Int.{int_max, int_min}
use Rattle.exact_sums.specs.Sums.{total}
use Rattle.row_arena.specs.declared.entry.Entry.{Entry}
use Rattle.presolve.specs.Relaxed.{flipped_part, is_flipped}

abs_sum : (a b : ℤ) → unsigned_abs (a +ℤ b) ≤ unsigned_abs a + unsigned_abs b
abs_sum a b = omega (arith, ints)

module _ {A : Type 0} (f : A → ℤ) (size : A → ℕ)
    (small : (x : A) → unsigned_abs (f x) ≤ size x) where
  pub total_small : (xs : List A) → unsigned_abs (total f xs) ≤ sum_by size xs
  total_small [] = omega arith
  total_small (x ∷ xs) =
      let more = total_small xs in
      let both = abs_sum (f x) (total f xs) in
      let all = sum_by-cons size x xs in
      let one = small x in
      omega (arith, more, both, all, one)

  total_room : (xs : List A) (i : ℕ) (d : A) → i < length xs
      → unsigned_abs (total f (take i xs)) + unsigned_abs (f (get_or xs i d)) ≤ sum_by size xs
  total_room [] i d within = absurd (omega (arith, within))
  total_room (x ∷ xs) zero d within =
      let all = sum_by-cons size x xs in
      let one = small x in
      omega (arith, all, one)
  total_room (x ∷ xs) (suc i) d within =
      let more = total_room xs i d (omega (arith, within)) in
      let both = abs_sum (f x) (total f (take i xs)) in
      let all = sum_by-cons size x xs in
      let one = small x in
      omega (arith, more, both, all, one)

  -- the sum so far and the next part, as a loop has them
  pub next_room : (xs : List A) (i : ℕ) (d : A) (sum part : ℤ) (most : ℕ)
      → sum ≡ total f (take i xs) → part ≡ f (get_or xs i d) → i < length xs
      → sum_by size xs < most → unsigned_abs sum + unsigned_abs part < most
  next_room xs i d sum part most is here within few =
      let room = total_room xs i d within in
      let one = ap unsigned_abs is in
      let two = ap unsigned_abs here in
      omega (arith, room, one, two, few)

-- the parts that are added up
abbrev pub above_part : Entry → ℤ
above_part entry = int_max (pos 0) entry.value

abbrev pub below_part : ℤ → ℤ
below_part value = int_min (pos 0) value

abbrev pub size_part : Entry → ℕ
size_part entry = unsigned_abs entry.value

pub above_small : (entry : Entry) → unsigned_abs (above_part entry) ≤ size_part entry
above_small entry = by (int_lt entry.value (pos 0))
  where
    by : (b : Bool) → unsigned_abs (if b then pos 0 else entry.value) ≤ unsigned_abs entry.value
    by true = omega arith
    by false = omega arith

pub below_small : (v : ℤ) → unsigned_abs (below_part v) ≤ unsigned_abs v
below_small v = by (int_lt v (pos 0))
  where
    by : (b : Bool) → unsigned_abs (if b then v else pos 0) ≤ unsigned_abs v
    by true = omega arith
    by false = omega arith

pub flipped_small : (flips : List Bool) (entry : Entry)
    → unsigned_abs (flipped_part flips entry) ≤ size_part entry
flipped_small flips entry = by (is_flipped flips entry)
  where
    by : (b : Bool) → unsigned_abs (if b then entry.value else pos 0) ≤ unsigned_abs entry.value
    by true = omega arith
    by false = omega arith
