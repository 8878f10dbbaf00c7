-- Sets of numbers below a bound.
use Rattle.std.specs.Prelude.{◌≡◌, ◌≢◌, ℕ, ◌+◌, ◌/◌, ◌%◌, ◌^◌, ◌<◌, ◌==◌, Bool, false, true, not, List, length, slice_index}
use Rattle.std.specs.Int.{bit_at}

-- a bit for each number, 64 to a word
abbrev pub has_bit : List ℕ → ℕ → Bool
has_bit words k = bit_at (slice_index words (k / 64)) (k % 64) == 1

pub record Numbers : Type 0 where
  pub bound : ℕ
  pub words : List ℕ

-- whether the number is in the set
abbrev pub has : Numbers → ℕ → Bool
has numbers number = has_bit numbers.words number

-- the number is in the set now, or is no more, and each other one if it was
pub record IsChanged (number : ℕ) (now : Bool) (old new : Numbers) : Type 0 where
  pub bound : new.bound ≡ old.bound
  pub here : has new number ≡ now
  pub others : (k : ℕ) → k ≢ number → has new k ≡ has old k

-- in the set, and none before it is
pub record IsFirst (numbers : Numbers) (number : ℕ) : Type 0 where
  pub within : number < numbers.bound
  pub here : has numbers number ≡ true
  pub none_before : (k : ℕ) → k < number → has numbers k ≡ false

-- the number is in the word, and none before it there
pub record IsFirstIn (words : List ℕ) (word number : ℕ) : Type 0 where
  pub place : number / 64 ≡ word
  pub here : has_bit words number ≡ true
  pub none_before : (k : ℕ) → k / 64 ≡ word → k < number → has_bit words k ≡ false

-- How a set is kept: so many words for so many bits, and a bit for each word that isn't 0.

-- how many words there are for so many bits
abbrev pub words_for : ℕ → ℕ
words_for bits = bits / 64 + 1

-- a word that isn't 0, and each one before it is
pub record IsFirstWord (words : List ℕ) (at : ℕ) : Type 0 where
  pub within : at < length words
  pub some : 0 < slice_index words at
  pub none_before : (i : ℕ) → i < at → slice_index words i ≡ 0

-- the bit, and none before it
pub record IsFirstBit (words : List ℕ) (k : ℕ) : Type 0 where
  pub within : k / 64 < length words
  pub here : has_bit words k ≡ true
  pub none_before : (i : ℕ) → i < k → has_bit words i ≡ false

-- the bit is so, and each other one as before; and so is each other word
pub record IsBitPut (k : ℕ) (now : Bool) (old new : List ℕ) : Type 0 where
  pub count : length new ≡ length old
  pub here : has_bit new k ≡ now
  pub others : (i : ℕ) → i ≢ k → has_bit new i ≡ has_bit old i
  pub words : (word : ℕ) → word ≢ k / 64 → slice_index new word ≡ slice_index old word

-- the number's bit is so, and that of its word tells whether it isn't 0
pub record ArePut (number : ℕ) (now : Bool) (old new summary told : List ℕ) : Type 0 where
  pub number_is : IsBitPut number now old new
  pub word_is : IsBitPut (number / 64) (not (slice_index new (number / 64) == 0)) summary told

pub record AreKept (bound : ℕ) (words summary : List ℕ) : Type 0 where
  pub bound_few : bound < 2 ^ 32
  pub words_few : length words ≡ words_for bound
  pub summary_few : length summary ≡ words_for (length words)
  pub told : (word : ℕ) → word < length words
      → has_bit summary word ≡ false → slice_index words word ≡ 0
  pub some : (word : ℕ) → has_bit summary word ≡ true → slice_index words word ≢ 0
  pub within : (k : ℕ) → has_bit words k ≡ true → k < bound
