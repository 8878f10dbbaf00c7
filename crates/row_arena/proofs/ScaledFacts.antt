-- A row whose values are all taken as often: what is left of it after the division is the same.
use Rattle.std.proofs.Common.{◌≡◌, ◌≢◌, ◌⊎◌, ℕ, zero, suc, ◌+◌, ◌*◌, ◌/◌, ◌%◌, ◌<◌, List, [], ◌∷◌, ◌++◌, length, get_or, map, max, All, ℤ, pos, negsuc, neg_ℤ, ◌-ℤ◌, ◌*ℤ◌, ◌<ℤ◌, int_div, nat_abs, refl, sym, ap, ap₂, ◌∙◌, subst, inl, inr, arith}
use Prim.Native.Nat.{◌∣◌}
use Rattle.std.specs.Int.{IsGcd}
use Rattle.std.proofs.lemmas.Int.{ints}
use Rattle.std.proofs.lemmas.List.{get_or-map, length-map, map-append}
use Rattle.std.proofs.lemmas.List.Elements.{All-cons, All-map, All-nil, All-tail}
use Rattle.std.proofs.lemmas.Nat.Gcd.{IsGcd-from_mod, IsGcd-from_zero, dvd-zero, dvd_antisymm, dvd_trans}
use Rattle.std.proofs.Math.IntN.{*ℤ-zero, pos-*ℤ-negsuc}
use Rattle.std.proofs.Math.Nat.{div-div-eq-div-mul, dvd-mul_right, dvd_of_mul-dvd-mul_left, mod-lt, mul-div_cancel', mul-div_cancel_left, mul-dvd-mul_left, mul-pos}
use Rattle.row_arena.specs.declared.entry.Entry.{Entry}
use Rattle.row_arena.specs.declared.products.Factors.{Factors}
use Rattle.row_arena.specs.Combining.{cleared, difference, difference_at, divided, divisor_of, entry_by}
use Rattle.row_arena.specs.Products.{AreScaled}
use Rattle.row_arena.specs.Rows.{entry_at, reach, row_from, unless_zero}
use Rattle.row_arena.proofs.DifferenceFacts.{unless_none}
use Rattle.row_arena.proofs.DifferenceRows.{difference_no_zeros, none_or_some, unless_some}
use Rattle.row_arena.proofs.DividedFacts.{exact, part_below}
use Rattle.row_arena.proofs.DivisorFacts.{Divides, IsCommon, abs_some, common_is, dvd_some}
use Rattle.row_arena.proofs.WholeLaws.{times_assoc, times_less}

-- each row has a greatest common divisor
gcd_of : (n a b : ℕ) → b < n → (g : ℕ) × IsGcd a b g
gcd_of zero a b small = absurd (omega (arith, small))
gcd_of (suc n) a zero small = (a, IsGcd-from_zero a 0 refl)
gcd_of (suc n) a (suc b) small =
    let less : a % suc b < suc b = mod-lt a (omega arith) in
    let rest = gcd_of n (suc b) (a % suc b) (omega (arith, small, less)) in
    (rest.0, IsGcd-from_mod a (suc b) rest.0 rest.1)

common_of : (row : List Entry) → (g : ℕ) × IsCommon g row
common_of [] = (
  0,
  record {
    divides = record { each = All-nil (λ (e : Entry). 0 ∣ nat_abs e.value) };
    greatest = λ d divides. dvd-zero d;
  },
)
common_of (e ∷ row) =
    let rest = common_of row in
    let gcd = gcd_of (suc rest.0) (nat_abs e.value) rest.0 (omega arith) in (
      gcd.0,
      record {
        divides = record {
          each = All-cons (λ (x : Entry). gcd.0 ∣ nat_abs x.value) e row gcd.1.0
              (λ i x inside. dvd_trans gcd.0 gcd.1.1 (rest.1.divides.each i x inside));
        };
        greatest = λ d divides. gcd.1.2 d (divides.each 0 e (omega arith))
            (rest.1.greatest d (record {
              each = All-tail (λ (x : Entry). d ∣ nat_abs x.value) e row divides.each;
            }));
      },
    )

-- by the quotient of two multiples
quotient_times : (h m g : ℕ) → 0 < h → (h * m) / (h * g) ≡ m / g
quotient_times h m g some =
    sym (div-div-eq-div-mul (h * m) h g) ∙ ap (λ n. n / g) (mul-div_cancel_left m some)

abs_neg : (m : ℕ) → nat_abs (neg_ℤ (pos m)) ≡ m
abs_neg zero = refl
abs_neg (suc m) = refl

abbrev times : ℕ → Entry → Entry
times h e = record { column = e.column; value = pos h *ℤ e.value }

module _ (h : ℕ) (some : 0 < h) where
  size : (v : ℤ) → nat_abs (pos h *ℤ v) ≡ h * nat_abs v
  size (pos n) = refl
  size (negsuc n) = ap nat_abs (pos-*ℤ-negsuc h n) ∙ abs_neg (h * suc n)

  isnt_none : (v : ℤ) → v ≢ pos 0 → pos h *ℤ v ≢ pos 0
  isnt_none v is none =
      let here : h * nat_abs v ≡ 0 = sym (size v) ∙ ap nat_abs none in
      let more = mul-pos some (abs_some v is) in
      omega (arith, here, more)

  value_by : (g : ℕ) (v : ℤ) → int_div (pos h *ℤ v) (pos (h * g)) ≡ int_div v (pos g)
  value_by g (pos n) = ap pos (quotient_times h n g some)
  value_by g (negsuc n) =
      let same = pos-*ℤ-negsuc h n in
      let more = mul-pos some (the_suc n) in
      sym (part_below (pos h *ℤ negsuc n) ((h * suc n) / (h * g)) (h * g)
      (subst (λ z. z <ℤ pos 0) (sym same) (below (h * suc n) more))
      (ap (λ m. m / (h * g)) (sym (size (negsuc n)))))
      ∙ ap (λ m. neg_ℤ (pos m)) (quotient_times h (suc n) g some)
    where
      the_suc : (n : ℕ) → 0 < suc n
      the_suc n = omega arith

      below : (m : ℕ) → 0 < m → neg_ℤ (pos m) <ℤ pos 0
      below m positive = omega (arith, ints, positive)

  divides_times : (d : ℕ) (row : List Entry) → Divides d row → Divides (h * d) (map (times h) row)
  divides_times d row divides = record {
    each = All-map (λ (e : Entry). h * d ∣ nat_abs e.value) (times h) row
        (λ i x inside. subst (λ n. h * d ∣ n) (sym (size (get_or row i x).value))
        (mul-dvd-mul_left d h (divides.each i x inside)));
  }

  divides_less : (k : ℕ) (row : List Entry) → Divides (h * k) (map (times h) row) → Divides k row
  divides_less k row divides = record {
    each = λ i x inside. dvd_of_mul-dvd-mul_left k some
        (subst (λ n. h * k ∣ n) (size (get_or row i x).value)
        (subst (λ (e : Entry). h * k ∣ nat_abs e.value) (get_or-map (times h) row i x x inside)
        (divides.each i x (let long = length-map row (times h) in omega (arith, long, inside)))));
  }

  each_by : (row : List Entry) → Divides h (map (times h) row)
  each_by row = record {
    each = All-map (λ (e : Entry). h ∣ nat_abs e.value) (times h) row
        (λ i x inside. subst (λ n. h ∣ n) (sym (size (get_or row i x).value))
        (dvd-mul_right h (nat_abs (get_or row i x).value)));
  }

  no_zeros_times : (row : List Entry) → All (λ (e : Entry). e.value ≢ pos 0) row
      → All (λ (e : Entry). e.value ≢ pos 0) (map (times h) row)
  no_zeros_times row none =
      All-map (λ (e : Entry). e.value ≢ pos 0) (times h) row
      (λ i x inside. isnt_none (get_or row i x).value (none i x inside))

  -- the divisor is as many times that of the row
  divisor_times : (row : List Entry) → 0 < length row
      → All (λ (e : Entry). e.value ≢ pos 0) row
      → divisor_of (map (times h) row) ≡ h * divisor_of row
  divisor_times row long none =
      let own = common_of row in
      let all = common_of (map (times h) row) in
      let part : h * (all.0 / h) ≡ all.0 = mul-div_cancel' h (all.1.greatest h (each_by row)) in
      let less : Divides (all.0 / h) row =
      divides_less (all.0 / h) row
      (subst (λ n. Divides n (map (times h) row)) (sym part) all.1.divides) in
      let down : all.0 ∣ h * own.0 =
      subst (λ n. n ∣ h * own.0) part
      (mul-dvd-mul_left (all.0 / h) h (own.1.greatest (all.0 / h) less)) in
      let up : h * own.0 ∣ all.0 =
      all.1.greatest (h * own.0) (divides_times own.0 row own.1.divides) in
      let count = length-map row (times h) in
      sym (common_is (map (times h) row) all.0 (omega (arith, count, long))
      (no_zeros_times row none) all.1).0
      ∙ dvd_antisymm down up
      ∙ ap (λ g. h * g) (common_is row own.0 long none own.1).0

  each_divided : (g : ℕ) (row : List Entry)
      → map (entry_by (h * g)) (map (times h) row) ≡ map (entry_by g) row
  each_divided g [] = refl
  each_divided g (e ∷ row) =
      ap (λ v. record { column = e.column; value = v }
      ∷ map (entry_by (h * g)) (map (times h) row)) (value_by g e.value)
      ∙ ap (λ (l : List Entry). entry_by g e ∷ l) (each_divided g row)

  divided_times : (row : List Entry) → All (λ (e : Entry). e.value ≢ pos 0) row
      → divided (map (times h) row) ≡ divided row
  divided_times [] none = refl
  divided_times (e ∷ row) none =
      ap (λ d. map (entry_by d) (map (times h) (e ∷ row)))
      (divisor_times (e ∷ row) (omega arith) none)
      ∙ each_divided (divisor_of (e ∷ row)) (e ∷ row)

  unless_times : (c : ℕ) (v : ℤ) → (v ≡ pos 0) ⊎ (v ≢ pos 0)
      → unless_zero c (pos h *ℤ v) ≡ map (times h) (unless_zero c v)
  unless_times c v (inl none) =
      unless_none c (pos h *ℤ v) (ap (λ z. pos h *ℤ z) none ∙ *ℤ-zero (pos h))
      ∙ ap (map (times h)) (sym (unless_none c v none))
  unless_times c v (inr is) =
      unless_some c (pos h *ℤ v) (isnt_none v is)
      ∙ ap (map (times h)) (sym (unless_some c v is))

  row_times : (f g : ℕ → ℤ) (from n : ℕ) → ((k : ℕ) → f k ≡ pos h *ℤ g k)
      → row_from f from n ≡ map (times h) (row_from g from n)
  row_times f g from zero same = refl
  row_times f g from (suc n) same =
      ap₂ (λ (a b : List Entry). a ++ b)
      (ap (unless_zero from) (same from) ∙ unless_times from (g from) (none_or_some (g from)))
      (row_times f g (from + 1) n same)
      ∙ sym (map-append (times h) (unless_zero from (g from)) (row_from g (from + 1) n))

  difference_times : (p a q b : ℤ) (target pivot : List Entry) → p ≡ pos h *ℤ q
      → a ≡ pos h *ℤ b
      → difference p a target pivot ≡ map (times h) (difference q b target pivot)
  difference_times p a q b target pivot first second =
      row_times (difference_at p a target pivot) (difference_at q b target pivot) 0
      (max (reach target) (reach pivot))
      (λ k.
      let x = entry_at target k in
      let y = entry_at pivot k in
      ap₂ (λ m n. (m *ℤ x) -ℤ (n *ℤ y)) first second
      ∙ ap₂ (λ m n. m -ℤ n) (times_assoc (pos h) q x) (times_assoc (pos h) b y)
      ∙ sym (times_less (pos h) (q *ℤ x) (b *ℤ y)))

-- so a column is cleared as well by factors without what they have in common
pub cleared_by : (column : ℕ) (target pivot : List Entry) (by less : Factors)
    → by.target ≡ entry_at pivot column → by.pivot ≡ entry_at target column → AreScaled by less
    → divided (difference less.target less.pivot target pivot) ≡ cleared column target pivot
cleared_by column target pivot by less first second scaled =
    sym (divided_times scaled.times scaled.some (difference less.target less.pivot target pivot)
    (difference_no_zeros less.target less.pivot target pivot))
    ∙ ap divided (sym (difference_times scaled.times scaled.some (entry_at pivot column)
    (entry_at target column) less.target less.pivot target pivot (sym first ∙ scaled.target)
    (sym second ∙ scaled.pivot)))

-- a divisor of a number above 0 is above 0
pub some_common : (z : ℤ) (other g : ℕ) → pos 0 <ℤ z → IsGcd (nat_abs z) other g → 0 < g
some_common z other g above gcd =
    dvd_some g (nat_abs z) gcd.0 (abs_some z (λ none. omega (arith, ints, above, none)))

-- both divided by what they have in common
pub scaled_by : (by less : Factors) (g : ℕ) → pos 0 <ℤ by.target
    → IsGcd (nat_abs by.target) (nat_abs by.pivot) g
    → less.target ≡ int_div by.target (pos g) → less.pivot ≡ int_div by.pivot (pos g)
    → AreScaled by less
scaled_by by less g above gcd first second = record {
  times = g;
  some = some_common by.target (nat_abs by.pivot) g above gcd;
  target = sym (ap (λ z. pos g *ℤ z) first ∙ exact g by.target gcd.0);
  pivot = sym (ap (λ z. pos g *ℤ z) second ∙ exact g by.pivot gcd.1);
}
