-- The greatest common divisor of a row's entries.
use Rattle.std.proofs.Common.{◌≡◌, ◌≢◌, ◌⊎◌, ℕ, zero, suc, ◌+◌, ◌<◌, ◌≤◌, ◌%◌, ◌==◌, Bool, true, false, List, [], ◌∷◌, ◌++◌, length, get_or, take, All, ℤ, pos, nat_abs, refl, sym, ap, ◌∙◌, subst, inl, inr, arith, negsuc}
use Prim.Native.Nat.{◌∣◌}
use Rattle.std.specs.Int.{IsGcd}
use Rattle.std.proofs.Math.Nat.{one-dvd, eq-zero_of_zero-dvd}
use Rattle.std.proofs.lemmas.Bool.{cases_Bool, cond-true, cond-false, eq-eqb, eqb-true}
use Rattle.std.proofs.lemmas.List.{get_or-map, length-map, take_all, take_more, get_or_append_left, get_or_push, length-append}
use Rattle.std.proofs.lemmas.List.Elements.{All-push, All-take, All-map}
use Rattle.std.proofs.lemmas.List.Sums.{AllPass-from_list_all, list_all-from_AllPass}
use Rattle.std.proofs.lemmas.Nat.Gcd.{IsGcd-from_zero, IsGcd-swap, dvd-zero, dvd_of_mod-eq-zero, dvd_trans, le_of_dvd, mod-eq-zero_of_dvd}
use Rattle.row_arena.specs.declared.entry.Entry.{Entry}
use Rattle.row_arena.specs.declared.products.WideEntry.{WideEntry}
use Rattle.row_arena.specs.Combining.{divides_all, divisor_of, greatest}
use Rattle.row_arena.specs.Products.{entries_of, entry_of}

-- a number divides each entry
pub record Divides (d : ℕ) (row : List Entry) : Type 0 where
  pub each : All (λ entry. d ∣ nat_abs entry.value) row

-- it does, and each number that does divides it
pub record IsCommon (g : ℕ) (row : List Entry) : Type 0 where
  pub divides : Divides g row
  pub greatest : (d : ℕ) → Divides d row → d ∣ g

pub divides_from : (d : ℕ) (row : List Entry) → divides_all d row ≡ true → Divides d row
divides_from d row passes = record {
  each = λ k e within. dvd_of_mod-eq-zero d
      (eqb-true (nat_abs (get_or row k e).value % d) 0
      (AllPass-from_list_all (λ entry. nat_abs entry.value % d == 0) row passes k e within));
}

passes_from : (d : ℕ) (row : List Entry) → Divides d row → divides_all d row ≡ true
passes_from d row divides =
    list_all-from_AllPass (λ entry. nat_abs entry.value % d == 0) row
    (λ k e within. eq-eqb (nat_abs (get_or row k e).value % d) 0
    (mod-eq-zero_of_dvd d (divides.each k e within)))

module _ (has : ℕ → Bool) where
  greatest_step : (n g : ℕ) → (has (suc n) ≡ true) ⊎ (has (suc n) ≡ false) → has g ≡ true
      → g ≤ suc n → ((d : ℕ) → 0 < d → has d ≡ true → d ≤ g)
      → (g ≤ n → greatest has n ≡ g) → greatest has (suc n) ≡ g
  greatest_step n g (inl passes) here le best rest =
      let up : suc n ≤ g = best (suc n) (omega arith) passes in
      cond-true (has (suc n)) (suc n) (greatest has n) passes ∙ omega (arith, up, le)
  greatest_step n g (inr fails) here le best rest =
      cond-false (has (suc n)) (suc n) (greatest has n) fails ∙ rest (less (at g n le))
    where
      at : (a b : ℕ) → a ≤ suc b → (a ≡ suc b) ⊎ (a ≤ b)
      at a b h = grind arith

      less : (g ≡ suc n) ⊎ (g ≤ n) → g ≤ n
      less (inl same) = absurd (no (sym here ∙ ap has same ∙ fails))
        where
          no : true ≡ false → ⊥
          no h = cc
      less (inr below) = below

  greatest_is : (n g : ℕ) → has g ≡ true → 0 < g → g ≤ n
      → ((d : ℕ) → 0 < d → has d ≡ true → d ≤ g) → greatest has n ≡ g
  greatest_is zero g here some le best = absurd (omega arith)
  greatest_is (suc n) g here some le best =
      greatest_step n g (cases_Bool (has (suc n))) here le best
      (λ less. greatest_is n g here some less best)

pub abs_some : (z : ℤ) → z ≢ pos 0 → 0 < nat_abs z
abs_some (pos zero) some = absurd (some refl)
abs_some (pos (suc n)) some = omega arith
abs_some (negsuc n) some = omega arith

pub dvd_some : (g n : ℕ) → g ∣ n → 0 < n → 0 < g
dvd_some zero n divides some = absurd (no (le_of_zero divides))
  where
    le_of_zero : zero ∣ n → n ≡ 0
    le_of_zero h = eq-zero_of_zero-dvd h

    no : n ≡ 0 → ⊥
    no e = omega (arith, some, e)
dvd_some (suc g) n divides some = omega arith

pub common_is : (row : List Entry) (g : ℕ) → 0 < length row
    → All (λ entry. entry.value ≢ pos 0) row → IsCommon g row → (g ≡ divisor_of row) × (0 < g)
common_is [] g some no_zeros common = absurd (omega (arith, some))
common_is (e ∷ row) g some no_zeros common =
    let first = abs_some e.value (no_zeros 0 e (omega arith)) in
    let divides = common.divides.each 0 e (omega arith) in
    let positive : 0 < g = dvd_some g (nat_abs e.value) divides first in (
      sym (greatest_is (λ d. divides_all d (e ∷ row)) (nat_abs e.value) g
          (passes_from g (e ∷ row) common.divides) positive (le_of_dvd first divides)
          (λ d above passes. le_of_dvd positive
          (common.greatest d (divides_from d (e ∷ row) passes)))),
      positive,
    )

-- The fold of the code.
module _ (row : List Entry) where
  pub common_next : (k : ℕ) (d : Entry) (g h : ℕ) → k < length row → IsCommon g (take k row)
      → IsGcd g (nat_abs (get_or row k d).value) h → IsCommon h (take (k + 1) row)
  common_next k d g h within common gcd =
      subst (IsCommon h) (sym (take_more row k d within)) (record {
        divides = record {
          each = All-push (λ (e : Entry). h ∣ nat_abs e.value) (take k row) (get_or row k d)
              (λ i e inside. dvd_trans h gcd.0 (common.divides.each i e inside)) gcd.1;
        };
        greatest = λ n divides. gcd.2 n (common.greatest n (front n (take k row) (get_or row k d)
            divides)) (last n (take k row) (get_or row k d) divides);
      })
    where
      front : (d : ℕ) (row : List Entry) (e : Entry) → Divides d (row ++ e ∷ []) → Divides d row
      front d row e divides = record {
        each = λ i x inside. subst (λ (y : Entry). d ∣ nat_abs y.value)
            (get_or_append_left row (e ∷ []) x i inside)
            (divides.each i x
            (let same = length-append row (e ∷ []) in omega (arith, inside, same)));
      }

      last : (d : ℕ) (row : List Entry) (e : Entry) → Divides d (row ++ e ∷ [])
          → d ∣ nat_abs e.value
      last d row e divides = subst (λ (y : Entry). d ∣ nat_abs y.value)
          (get_or_push row e e (length row) refl)
          (divides.each (length row) e
          (let same = length-append row (e ∷ []) in omega (arith, same)))

  pub common_none : IsCommon 0 (take 0 row)
  common_none = record {
    divides = record { each = λ i e inside. absurd (omega (arith, inside)) };
    greatest = λ d divides. dvd-zero d;
  }

  pub one_alone : (k g : ℕ) → 0 < length row → All (λ (e : Entry). e.value ≢ pos 0) row
      → g ≡ 1 → IsCommon g (take k row) → 1 ≡ divisor_of row
  one_alone k g some none one common =
      (common_is row 1 some none (record {
        divides = record { each = λ i e inside. one-dvd (nat_abs (get_or row i e).value) };
        greatest = λ d divides. subst (λ n. d ∣ n) one (common.greatest d (record {
          each = All-take (λ (e : Entry). d ∣ nat_abs e.value) k row divides.each;
        }));
      })).0

module _ (xs : List WideEntry) where
  read : (k : ℕ) (w : WideEntry) (e : Entry) → k < length xs
      → get_or (entries_of xs) k e ≡ entry_of (get_or xs k w)
  read k w e within = get_or-map entry_of xs k w e within

  long : length (entries_of xs) ≡ length xs
  long = length-map xs entry_of

  pub common_more : (k : ℕ) (w : WideEntry) (g h : ℕ) → k < length xs
      → IsCommon g (take k (entries_of xs)) → IsGcd g (nat_abs (get_or xs k w).value) h
      → IsCommon h (take (k + 1) (entries_of xs))
  common_more k w g h within common gcd =
      let same = long in
      common_next (entries_of xs) k (entry_of w) g h (omega (arith, within, same)) common
      (subst (λ (e : Entry). IsGcd g (nat_abs e.value) h) (sym (read k w (entry_of w) within))
      gcd)

  pub common_first : (w : WideEntry) (g : ℕ) → 0 < length xs
      → g ≡ nat_abs (get_or xs 0 w).value → IsCommon g (take 1 (entries_of xs))
  common_first w g some is =
      common_more 0 w 0 g some (common_none (entries_of xs))
      (subst (λ n. IsGcd 0 n g) is
      (IsGcd-swap g 0 g (IsGcd-from_zero g 0 refl)))

  no_zero_entries : All (λ (w : WideEntry). w.value ≢ pos 0) xs
      → All (λ (e : Entry). e.value ≢ pos 0) (entries_of xs)
  no_zero_entries none =
      All-map (λ (e : Entry). e.value ≢ pos 0) entry_of xs none

  pub common_all : (k g : ℕ) → 0 < length xs → All (λ (w : WideEntry). w.value ≢ pos 0) xs
      → length xs ≤ k → IsCommon g (take k (entries_of xs))
      → (g ≡ divisor_of (entries_of xs)) × (0 < g)
  common_all k g some none past common =
      let same = long in
      common_is (entries_of xs) g (omega (arith, some, same)) (no_zero_entries none)
      (subst (IsCommon g) (take_all k (entries_of xs) (omega (arith, past, same))) common)

  pub common_early : (k g : ℕ) → 0 < length xs → All (λ (w : WideEntry). w.value ≢ pos 0) xs
      → g ≡ 1 → IsCommon g (take k (entries_of xs)) → 1 ≡ divisor_of (entries_of xs)
  common_early k g some none one common =
      let same = long in
      one_alone (entries_of xs) k g (omega (arith, some, same)) (no_zero_entries none) one common
