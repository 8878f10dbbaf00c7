-- A row of which each value is divided by a number that divides all of them.
use Rattle.std.proofs.Common.{◌≡◌, ◌≢◌, ◌⊎◌, ℕ, zero, suc, ◌*◌, ◌/◌, ◌%◌, ◌<◌, List, [], ◌∷◌, length, map, get_or, All, AllPairs, ℤ, pos, negsuc, neg_ℤ, ◌*ℤ◌, ◌<ℤ◌, ◌≤ℤ◌, int_div, nat_abs, refl, sym, ap, ◌∙◌, subst, inl, inr, arith}
use Prim.Native.Nat.{◌∣◌}
use Rattle.std.proofs.lemmas.Int.{ints}
use Rattle.std.proofs.lemmas.Bool.{cases_eq}
use Rattle.std.proofs.lemmas.List.{get_or-map, length-map}
use Rattle.std.proofs.lemmas.List.Elements.{All-map, All-tail}
use Rattle.std.proofs.lemmas.Nat.Gcd.{mod-eq-zero_of_dvd}
use Rattle.std.proofs.Math.IntN.{*ℤ-zero}
use Rattle.std.proofs.Math.Nat.{div-add-mod}
use Rattle.row_arena.specs.declared.entry.Entry.{Entry}
use Rattle.row_arena.specs.Rows.{entry_at}
use Rattle.row_arena.specs.Combining.{entry_by}
use Rattle.row_arena.proofs.RowFacts.{IsAfter, entry_first, entry_later}
use Rattle.row_arena.proofs.DivisorFacts.{Divides}

-- a quotient that leaves nothing
pub exact : (d : ℕ) (z : ℤ) → d ∣ nat_abs z → pos d *ℤ int_div z (pos d) ≡ z
exact d (pos n) divides = ap pos (whole d n (mod-eq-zero_of_dvd d divides))
  where
    whole : (d n : ℕ) → n % d ≡ 0 → d * (n / d) ≡ n
    whole d n none = omega (arith, none, div-add-mod n d)
exact d (negsuc n) divides =
    times-neg d (suc n / d)
    ∙ ap (λ m. neg_ℤ (pos m)) (whole d (suc n) (mod-eq-zero_of_dvd d divides))
  where
    whole : (d n : ℕ) → n % d ≡ 0 → d * (n / d) ≡ n
    whole d n none = omega (arith, none, div-add-mod n d)

    times-neg : (d m : ℕ) → pos d *ℤ neg_ℤ (pos m) ≡ neg_ℤ (pos (d * m))
    times-neg d zero = *ℤ-zero (pos d) ∙ ap (λ n. neg_ℤ (pos n)) (none d)
      where
        none : (n : ℕ) → 0 ≡ n * 0
        none n = omega arith
    times-neg d (suc m) = refl

pub by_one : (z : ℤ) → int_div z (pos 1) ≡ z
by_one (pos n) = omega (arith, ints)
by_one (negsuc n) = omega (arith, ints)

-- by the size of the number, with its sign
pub part_below : (z : ℤ) (size divisor : ℕ) → z <ℤ pos 0 → size ≡ nat_abs z / divisor
    → neg_ℤ (pos size) ≡ int_div z (pos divisor)
part_below (pos n) size divisor below is = absurd (omega (arith, ints, below))
part_below (negsuc n) size divisor below is = ap (λ m. neg_ℤ (pos m)) is

pub part_above : (z : ℤ) (size divisor : ℕ) → pos 0 ≤ℤ z → size ≡ nat_abs z / divisor
    → pos size ≡ int_div z (pos divisor)
part_above (pos n) size divisor above is = ap pos is
part_above (negsuc n) size divisor above is = absurd (omega (arith, ints, above))

pub ruleset parts = (part_below, part_above)

-- divided by 1 it is as before
pub divided_one : (row : List Entry) → map (entry_by 1) row ≡ row
divided_one [] = refl
divided_one (e ∷ row) =
    ap (λ v. record { column = e.column; value = v } ∷ map (entry_by 1) row) (by_one e.value)
    ∙ ap (λ (l : List Entry). e ∷ l) (divided_one row)

-- a row whose entries ascend
pub record IsSorted (row : List Entry) : Type 0 where
  pub each : AllPairs (λ a b. a.column < b.column) row

pub sorted_first : (e : Entry) (row : List Entry) → IsSorted (e ∷ row) → IsAfter e.column row
sorted_first e row is = record {
  each = λ i d within. is.each 0 (suc i) d (omega arith) (omega (arith, within));
}

pub sorted_tail : (e : Entry) (row : List Entry) → IsSorted (e ∷ row) → IsSorted row
sorted_tail e row is = record {
  each = λ i j d below within.
      is.each (suc i) (suc j) d (omega (arith, below)) (omega (arith, within));
}

module _ (d : ℕ) where
  after_by : (k : ℕ) (row : List Entry) → IsAfter k row → IsAfter k (map (entry_by d) row)
  after_by k row after = record {
    each = All-map (λ (e : Entry). k < e.column) (entry_by d) row after.each;
  }

  divides_tail : (e : Entry) (row : List Entry) → Divides d (e ∷ row) → Divides d row
  divides_tail e row divides = record {
    each = All-tail (λ (a : Entry). d ∣ nat_abs a.value) e row divides.each;
  }

  -- so many times what it has in a column, as before
  pub entry_of_divided : (row : List Entry) (k : ℕ) → IsSorted row → Divides d row
      → pos d *ℤ entry_at (map (entry_by d) row) k ≡ entry_at row k
  entry_of_divided [] k sorted divides = *ℤ-zero (pos d)
  entry_of_divided (e ∷ row) k sorted divides =
      of_by (cases_eq e.column k)
      (entry_of_divided row k (sorted_tail e row sorted) (divides_tail e row divides))
    where
      of_by : (e.column ≡ k) ⊎ (e.column ≡ k → ⊥)
          → pos d *ℤ entry_at (map (entry_by d) row) k ≡ entry_at row k
          → pos d *ℤ entry_at (map (entry_by d) (e ∷ row)) k ≡ entry_at (e ∷ row) k
      of_by (inl same) rest =
          let after = subst (λ c. IsAfter c row) same (sorted_first e row sorted) in
          ap (λ v. pos d *ℤ v)
          (entry_first k (entry_by d e) (map (entry_by d) row) same (after_by k row after))
          ∙ exact d e.value (divides.each 0 e (omega arith))
          ∙ sym (entry_first k e row same after)
      of_by (inr other) rest =
          ap (λ v. pos d *ℤ v) (entry_later k (entry_by d e) (map (entry_by d) row) other)
          ∙ rest ∙ sym (entry_later k e row other)

  -- no entry is lost
  pub none_of_divided : (row : List Entry) → 0 < d → Divides d row
      → All (λ (e : Entry). e.value ≢ pos 0) row
      → All (λ (e : Entry). e.value ≢ pos 0) (map (entry_by d) row)
  none_of_divided row some divides no_zeros =
      All-map (λ (e : Entry). e.value ≢ pos 0) (entry_by d) row
      (λ k e within none. no_zeros k e within
      (sym (exact d (get_or row k e).value (divides.each k e within))
      ∙ ap (λ v. pos d *ℤ v) none ∙ *ℤ-zero (pos d)))

  pub sorted_divided : (row : List Entry) → IsSorted row → IsSorted (map (entry_by d) row)
  sorted_divided row sorted = record {
    each = λ i j e below within.
        let long = length-map row (entry_by d) in
        at i j e (omega (arith, within, long)) below;
  }
    where
      at : (i j : ℕ) (e : Entry) → j < length row → i < j
          → (get_or (map (entry_by d) row) i e).column < (get_or (map (entry_by d) row) j e).column
      at i j e within below =
          subst (λ (a : Entry). a.column < (get_or (map (entry_by d) row) j e).column)
          (sym (get_or-map (entry_by d) row i e e (omega (arith, within, below))))
          (subst (λ (b : Entry). (get_or row i e).column < b.column)
          (sym (get_or-map (entry_by d) row j e e within))
          (sorted.each i j e below within))
