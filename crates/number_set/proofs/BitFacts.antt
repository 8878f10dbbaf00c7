-- Bits in lists of words.
use Rattle.std.proofs.Common.{◌≡◌, ◌≢◌, ◌⊎◌, ℕ, ◌+◌, ◌*◌, ◌/◌, ◌%◌, ◌<◌, ◌≤◌, ◌==◌, Bool, false, List, All, length, set, slice_index, inl, inr, refl, ◌∙◌, ap, arith, get_or-set_other, get_or-set_same}
use Rattle.std.specs.Int.{bit_at}
use Rattle.std.proofs.lemmas.Nat.Bits.{bit_at-zero}
use Rattle.std.proofs.lemmas.List.{get_or_past}
use Rattle.std.proofs.lemmas.Bool.{cases_eq, cases_lt}
use Rattle.std.proofs.lemmas.List.{length-set}
use Rattle.number_set.specs.Numbers.{IsBitPut, IsFirstBit, IsFirstIn, IsFirstWord, has_bit}

-- a word that keeps its other bits, in a list
pub is_put : (words : List ℕ) (k word : ℕ) (now : Bool) → k / 64 < length words
    → (bit_at word (k % 64) == 1) ≡ now
    → ((i : ℕ) → i < 64 → i ≢ k % 64 → bit_at word i ≡ bit_at (slice_index words (k / 64)) i)
    → IsBitPut k now words (set words (k / 64) word)
is_put words k word now within here kept = record {
  count = length-set words (k / 64) word;
  here = ap (λ n. bit_at n (k % 64) == 1) (get_or-set_same words (k / 64) word 0 within) ∙ here;
  others = λ i apart. elim (cases_eq (i / 64) (k / 64))
      as (λ _. has_bit (set words (k / 64) word) i ≡ has_bit words i) [
        | inl same ↦ rw (same, get_or-set_same words (k / 64) word 0 within)
            (ap (λ n. n == 1) (kept (i % 64) (omega arith) (λ index. apart (omega arith))))
        | inr other ↦ ap (λ n. bit_at n (i % 64) == 1)
            (get_or-set_other words (k / 64) (i / 64) word 0 other)
      ];
  words = λ i apart. get_or-set_other words (k / 64) i word 0 apart;
}

-- a word that is 0 has no bit
pub no_bit : (words : List ℕ) (k : ℕ) → slice_index words (k / 64) ≡ 0 → has_bit words k ≡ false
no_bit words k none = rw (none, bit_at-zero (k % 64)) refl

pub none_in : (words : List ℕ) → All (λ word. word ≡ 0) words → (k : ℕ) → has_bit words k ≡ false
none_in words all k = no_bit words k (by (cases_lt (k / 64) (length words)))
  where
    by : (k / 64 < length words) ⊎ (length words ≤ k / 64) → slice_index words (k / 64) ≡ 0
    by (inl within) = all (k / 64) 0 within
    by (inr past) = get_or_past words (k / 64) 0 past

-- the lowest bit of the first word that has one
pub first_in : (words : List ℕ) (at bit : ℕ) → IsFirstWord words at → bit < 64
    → bit_at (slice_index words at) bit ≡ 1
    → ((i : ℕ) → i < bit → bit_at (slice_index words at) i ≡ 0)
    → IsFirstBit words (at * 64 + bit)
first_in words at bit first few here lower =
    let is_at : (at * 64 + bit) / 64 ≡ at = omega (arith, few) in
    let is_bit : (at * 64 + bit) % 64 ≡ bit = omega (arith, few) in
    record {
      within = omega (arith, is_at, first.within);
      here = rw (is_at, is_bit, here) refl;
      none_before = λ i before. elim (cases_eq (i / 64) at) as (λ _. has_bit words i ≡ false) [
        | inl same ↦ rw (same, lower (i % 64) (omega (arith, same, before, few))) refl
        | inr other ↦ no_bit words i
            (first.none_before (i / 64) (omega (arith, other, before, few)))
      ];
    }

pub number_in : (words : List ℕ) (word bit : ℕ) → bit < 64
    → bit_at (slice_index words word) bit ≡ 1
    → ((i : ℕ) → i < bit → bit_at (slice_index words word) i ≡ 0)
    → IsFirstIn words word (word * 64 + bit)
number_in words word bit few here lower =
    let is_word : (word * 64 + bit) / 64 ≡ word = omega (arith, few) in
    let is_bit : (word * 64 + bit) % 64 ≡ bit = omega (arith, few) in
    record {
      place = is_word;
      here = rw (is_word, is_bit, here) refl;
      none_before =
          λ i same before. rw (same, lower (i % 64) (omega (arith, same, before, few))) refl;
    }
