-- The words of a set, and the bits that tell which of them aren't 0.
use Rattle.std.proofs.Common.{◌≡◌, ◌≢◌, ◌⊎◌, ℕ, ◌+◌, ◌/◌, ◌^◌, ◌<◌, ◌≤◌, ◌==◌, Bool, false, true, not, List, length, replicate, slice_index, inl, inr, refl, sym, ◌∙◌, ap, arith}
use Rattle.std.proofs.lemmas.Bool.{cases_eq, cases_lt, eq-eqb, eqb-true}
use Rattle.std.proofs.lemmas.List.{get_or_past, length-replicate}
use Rattle.std.proofs.lemmas.List.Elements.{All-replicate}
use Rattle.number_set.proofs.BitFacts.{no_bit, none_in}
use Rattle.number_set.specs.Numbers.{AreKept, ArePut, IsBitPut, IsFirstBit, IsFirstIn, IsChanged, IsFirst, has, has_bit, words_for}

no_true : {b : Bool} → b ≡ false → b ≡ true → ⊥
no_true none is = let same : true ≡ false = sym is ∙ none in let e : ⊥ = cc in e

-- the words that a bit was put in, and the bit that tells of its word
module _ (bound number : ℕ) (now : Bool) (old new summary told : List ℕ)
    (kept : AreKept bound old summary) (below : number < bound)
    (put : ArePut number now old new summary told) where
  words : IsBitPut number now old new
  words = put.number_is

  bits : IsBitPut (number / 64) (not (slice_index new (number / 64) == 0)) summary told
  bits = put.word_is

  pub put_kept : AreKept bound new told
  put_kept = record {
    bound_few = kept.bound_few;
    words_few = words.count ∙ kept.words_few;
    summary_few = bits.count ∙ kept.summary_few ∙ ap words_for (sym words.count);
    told = λ word within none. elim (cases_eq word (number / 64))
        as (λ _. slice_index new word ≡ 0) [
          | inl same ↦ zero_if (slice_index new word)
              (ap (λ w. not (slice_index new w == 0)) same ∙ sym bits.here
              ∙ ap (has_bit told) (sym same) ∙ none)
          | inr other ↦ words.words word other
              ∙ kept.told word (omega (arith, within, words.count))
              (sym (bits.others word other) ∙ none)
        ];
    some = λ word has_it. elim (cases_eq word (number / 64))
        as (λ _. slice_index new word ≢ 0) [
          | inl same ↦ other_if (slice_index new word)
              (ap (λ w. not (slice_index new w == 0)) same ∙ sym bits.here
              ∙ ap (has_bit told) (sym same) ∙ has_it)
          | inr other ↦ λ none. kept.some word (sym (bits.others word other) ∙ has_it)
              (sym (words.words word other) ∙ none)
        ];
    within = λ k has_it. elim (cases_eq k number) as (λ _. k < bound) [
      | inl same ↦ omega (arith, same, below)
      | inr other ↦ kept.within k (sym (words.others k other) ∙ has_it)
    ];
  }
    where
      zero_if : (n : ℕ) → not (n == 0) ≡ false → n ≡ 0
      zero_if n e = by (n == 0) refl e
        where
          by : (b : Bool) → (n == 0) ≡ b → not b ≡ false → n ≡ 0
          by true is e = eqb-true n 0 is
          by false is e = absurd (let g : ⊥ = cc in g)

      other_if : (n : ℕ) → not (n == 0) ≡ true → n ≢ 0
      other_if n e same =
          let is : (n == 0) ≡ true = eq-eqb n 0 same in
          let no_more : not true ≡ true = ap not (sym is) ∙ e in
          let g : ⊥ = cc in g

  pub put_changed : IsChanged number now (record { bound = bound; words = old })
      (record { bound = bound; words = new })
  put_changed = record { bound = refl; here = words.here; others = words.others }

-- no bit anywhere
pub none_kept : (bound : ℕ) → bound < 2 ^ 32 → AreKept bound (replicate (bound / 64 + 1) 0)
    (replicate ((bound / 64 + 1) / 64 + 1) 0)
none_kept bound few =
    let count = length-replicate (bound / 64 + 1) 0 in
    let none : (words k : ℕ) → has_bit (replicate words 0) k ≡ false
    = λ words k. none_in (replicate words 0) (All-replicate (λ w. w ≡ 0) words 0 refl) k in
    record {
      bound_few = few;
      words_few = count;
      summary_few = length-replicate ((bound / 64 + 1) / 64 + 1) 0
          ∙ ap words_for (sym count);
      told = λ word within is. All-replicate (λ w. w ≡ 0) (bound / 64 + 1) 0 refl word 0 within;
      some = λ word has_it. absurd (no_true (none ((bound / 64 + 1) / 64 + 1) word) has_it);
      within = λ k has_it. absurd (no_true (none (bound / 64 + 1) k) has_it);
    }

pub none_new : (count k : ℕ) → has_bit (replicate count 0) k ≡ false
none_new count k =
    none_in (replicate count 0) (All-replicate (λ w. w ≡ 0) count 0 refl) k

-- what the bits of words tell of the numbers
module _ (bound : ℕ) (words summary : List ℕ) (kept : AreKept bound words summary) where
  untold : (k : ℕ) → has_bit summary (k / 64) ≡ false → has_bit words k ≡ false
  untold k none = no_bit words k (by (cases_lt (k / 64) (length words)))
    where
      by : (k / 64 < length words) ⊎ (length words ≤ k / 64) → slice_index words (k / 64) ≡ 0
      by (inl within) = kept.told (k / 64) within none
      by (inr past) = get_or_past words (k / 64) 0 past

  pub none_told : ((k : ℕ) → has_bit summary k ≡ false) → (k : ℕ)
      → has (record { bound = bound; words = words }) k ≡ false
  none_told none k = untold k (none (k / 64))

  pub word_some : (word : ℕ) → IsFirstBit summary word → 0 < slice_index words word
  word_some word first = let some = kept.some word first.here in omega (arith, some)

  pub word_within : (word : ℕ) → IsFirstBit summary word → word < length words
  word_within word first = by (cases_lt word (length words))
    where
      by : (word < length words) ⊎ (length words ≤ word) → word < length words
      by (inl within) = within
      by (inr past) = absurd (kept.some word first.here (get_or_past words word 0 past))

  pub word_few : (word : ℕ) → IsFirstBit summary word → word < 2 ^ 26
  word_few word first =
      let within = word_within word first in
      let few = kept.bound_few in
      let count = kept.words_few in
      omega (arith, within, few, count)

  pub first_told : (word number : ℕ) → IsFirstBit summary word → IsFirstIn words word number
      → IsFirst (record { bound = bound; words = words }) number
  first_told word number first found = record {
    within = kept.within number found.here;
    here = found.here;
    none_before = λ i before. elim (cases_eq (i / 64) word) as (λ _. has_bit words i ≡ false) [
      | inl same ↦ found.none_before i same before
      | inr other ↦ untold i
          (first.none_before (i / 64)
          (let place = found.place in omega (arith, other, before, place)))
    ];
  }
