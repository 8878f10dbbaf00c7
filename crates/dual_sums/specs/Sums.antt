-- A constant, and a factor for each position: a sum over what stands at the positions.
use Rattle.std.specs.Prelude.{ℕ, suc, ◌+◌, ◌≤◌, List, [], ◌∷◌, replicate, sum_by, ℤ, pos, negsuc, ◌*ℤ◌, ◌+ℤ◌, ◌-ℤ◌, unsigned_abs}

pub record Summed : Type 0 where
  pub constant : ℤ
  pub factors : List ℤ

-- nothing yet
abbrev pub nothing : ℕ → Summed
nothing positions = record { constant = pos 0; factors = replicate positions (pos 0) }

-- the factors, each as often as is said of its position
abbrev pub weighed : (ℕ → ℕ) → ℕ → List ℤ → ℤ
weighed bit from [] = pos 0
weighed bit from (factor ∷ factors) =
    factor *ℤ pos (bit from) +ℤ weighed bit (from + 1) factors

abbrev pub sum_at : (ℕ → ℕ) → Summed → ℤ
sum_at bit sums = sums.constant +ℤ weighed bit 0 sums.factors

-- once or not at all
abbrev pub AreBits : (ℕ → ℕ) → Type 0
AreBits bit = (k : ℕ) → bit k ≤ 1

-- how far below 0
abbrev pub below : ℤ → ℕ
below (pos n) = 0
below (negsuc n) = suc n

-- the constant, less all that is below 0
abbrev pub least_sum : Summed → ℤ
least_sum sums = sums.constant -ℤ pos (sum_by below sums.factors)

-- how large all numbers are together
abbrev pub mass : Summed → ℕ
mass sums = unsigned_abs sums.constant + sum_by unsigned_abs sums.factors
