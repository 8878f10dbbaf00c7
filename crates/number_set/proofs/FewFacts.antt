-- Sets of few numbers, a bit each.
use Rattle.std.proofs.Common.{◌≡◌, ◌≢◌, ◌↔◌, ℕ, ◌+◌, ◌*◌, ◌/◌, ◌%◌, ◌<◌, ◌≤◌, suc, zero, List, [], ◌∷◌, All, length, get_or, replicate, set, inl, inr, refl, sym, ◌∙◌, ap, arith, get_or-set_other, get_or-set_same}
use Rattle.std.specs.Int.{bit_at}
use Rattle.std.proofs.lemmas.Bool.{cases_eq}
use Rattle.std.proofs.lemmas.List.Elements.{All-head, All-replicate, All-tail}
use Rattle.std.proofs.lemmas.Nat.Bits.{bit_at-lt, bit_at-zero}
use Rattle.number_set.specs.Few.{IsIn, IsTaken, bit_in, count_in}
use Rattle.number_set.specs.Numbers.{IsFirstWord}

module _ (words : List ℕ) (number word : ℕ) (within : number / 64 < length words) where
  pub bit_here : bit_in (set words (number / 64) word) number ≡ bit_at word (number % 64)
  bit_here = ap (λ n. bit_at n (number % 64)) (get_or-set_same words (number / 64) word 0 within)

  -- a word that keeps its other bits keeps that of each other number
  pub bit_elsewhere : ((i : ℕ) → i < 64 → i ≢ number % 64
      → bit_at word i ≡ bit_at (get_or words (number / 64) 0) i)
      → (f : ℕ) → f ≢ number → bit_in (set words (number / 64) word) f ≡ bit_in words f
  bit_elsewhere kept f apart =
      elim (cases_eq (f / 64) (number / 64))
      as (λ _. bit_in (set words (number / 64) word) f ≡ bit_in words f) [
        | inl same ↦ rw (same, get_or-set_same words (number / 64) word 0 within)
            (kept (f % 64) (omega arith) (λ index. apart (omega arith)))
        | inr other ↦ ap (λ n. bit_at n (f % 64))
            (get_or-set_other words (number / 64) (f / 64) word 0 other)
      ]

-- the lowest bit of the first word that has one is taken
pub bit_taken : (words : List ℕ) (at bit now : ℕ) → IsFirstWord words at → bit < 64
    → bit_at (get_or words at 0) bit ≡ 1
    → ((i : ℕ) → i < bit → bit_at (get_or words at 0) i ≡ 0)
    → bit_at now bit ≡ 0
    → ((i : ℕ) → i < 64 → i ≢ bit → bit_at now i ≡ bit_at (get_or words at 0) i)
    → IsTaken (at * 64 + bit) words (set words at now)
bit_taken words at bit now first few was lower here others =
    let number = at * 64 + bit in
    let is_at : number / 64 ≡ at = omega (arith, few) in
    let is_bit : number % 64 ≡ bit = omega (arith, few) in
    let there : number / 64 < length words = omega (arith, is_at, first.within) in
    record {
      was = rw (is_at, is_bit) was;
      none_before = λ k before. elim (cases_eq (k / 64) at) as (λ _. bit_in words k ≡ 0) [
        | inl same ↦ rw same (lower (k % 64) (omega (arith, same, before, few)))
        | inr other ↦ ap (λ n. bit_at n (k % 64))
            (first.none_before (k / 64) (omega (arith, other, before, few)))
            ∙ bit_at-zero (k % 64)
      ];
      here = ap (λ n. bit_in (set words n now) number) (sym is_at)
          ∙ bit_here words number now there ∙ ap (bit_at now) is_bit ∙ here;
      others = λ f apart. ap (λ n. bit_in (set words n now) f) (sym is_at)
          ∙ bit_elsewhere words number now there
          (λ i below differs. others i below (λ same. differs (same ∙ sym is_bit))
          ∙ ap (λ n. bit_at (get_or words n 0) i) (sym is_at)) f apart;
    }

-- where all words are 0 no number is in the set
all_clear : (words : List ℕ) → All (λ word. word ≡ 0) words → (k : ℕ) → get_or words k 0 ≡ 0
all_clear [] all k = refl
all_clear (word ∷ words) all zero = All-head (λ w. w ≡ 0) word words all
all_clear (word ∷ words) all (suc k) =
    all_clear words (All-tail (λ w. w ≡ 0) word words all) k

pub none_in : (words : List ℕ) → All (λ word. word ≡ 0) words → (f : ℕ) → bit_in words f ≡ 0
none_in words all f =
    ap (λ n. bit_at n (f % 64)) (all_clear words all (f / 64)) ∙ bit_at-zero (f % 64)

pub none_below : (f : ℕ) → IsIn (replicate 32 0) f ↔ f < 0
none_below f = (
  λ waits. absurd (omega (
    arith,
    none_in (replicate 32 0)
        (All-replicate (λ w. w ≡ 0) 32 0 refl) f,
    waits,
  )),
  λ below. absurd (omega (arith, below)),
)

-- there are no more than there are numbers
pub count_few : (words : List ℕ) (n : ℕ) → count_in words n ≤ n
count_few words zero = omega arith
count_few words (suc n) =
    omega (arith, count_few words n, bit_at-lt (get_or words (n / 64) 0) (n % 64))

-- one less where one is taken
module _ (number : ℕ) (old new : List ℕ) (taken : IsTaken number old new) where
  count_same : (n : ℕ) → n ≤ number → count_in new n ≡ count_in old n
  count_same zero below = omega arith
  count_same (suc n) below =
      omega (arith, taken.others n (omega (arith, below)), count_same n (omega (arith, below)))

  pub count_less : (n : ℕ) → number < n → count_in new n + 1 ≡ count_in old n
  count_less zero below = omega (arith, below)
  count_less (suc n) below =
      elim (cases_eq n number) as (λ _. count_in new (suc n) + 1 ≡ count_in old (suc n)) [
        | inl same ↦
            let was : bit_in old n ≡ 1 = rw same taken.was in
            let here : bit_in new n ≡ 0 = rw same taken.here in
            omega (arith, count_same n (omega (arith, same)), was, here)
        | inr apart ↦ omega (
          arith,
          taken.others n apart,
          count_less n (omega (arith, below, apart)),
        )
      ]
