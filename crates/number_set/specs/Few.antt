-- Sets of few numbers, a bit each.
use Rattle.std.specs.Prelude.{◌≡◌, ◌≢◌, ℕ, ◌+◌, ◌/◌, ◌%◌, ◌<◌, suc, zero, List, slice_index}
use Rattle.std.specs.Int.{bit_at}

-- 1 for a number of the set, and else 0
abbrev pub bit_in : List ℕ → ℕ → ℕ
bit_in words number = bit_at (slice_index words (number / 64)) (number % 64)

-- the number is in the set
abbrev pub IsIn : List ℕ → ℕ → Type 0
IsIn words number = bit_in words number ≡ 1

-- the number is in the set now, and each other one if it was
pub record IsAdded (number : ℕ) (old new : List ℕ) : Type 0 where
  pub here : IsIn new number
  pub others : (k : ℕ) → k ≢ number → bit_in new k ≡ bit_in old k

-- the number was in the set and none before it, and it is no more
pub record IsTaken (number : ℕ) (old new : List ℕ) : Type 0 where
  pub was : IsIn old number
  pub none_before : (k : ℕ) → k < number → bit_in old k ≡ 0
  pub here : bit_in new number ≡ 0
  pub others : (k : ℕ) → k ≢ number → bit_in new k ≡ bit_in old k

-- how many numbers below a bound are in the set
abbrev pub count_in : List ℕ → ℕ → ℕ
count_in words zero = 0
count_in words (suc n) = bit_in words n + count_in words n
