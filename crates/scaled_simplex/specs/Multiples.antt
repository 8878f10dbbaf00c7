-- Common divisors and common multiples. No public clause cites these.
use Rattle.std.specs.Prelude.{◌≡◌, ℕ, ◌*◌, ◌%◌, ◌^◌, ◌<◌}

-- It divides both; and so often, whatever divides both so often divides it so often.
pub record IsDivisor (a b divisor : ℕ) : Type 0 where
  pub first : a % divisor ≡ 0
  pub second : b % divisor ≡ 0
  pub greatest : (times d : ℕ) → (a * times) % d ≡ 0 → (b * times) % d ≡ 0
      → (divisor * times) % d ≡ 0

-- the least multiple of a denominator by which a fraction is whole
pub record IsLeastWith (denominator top bottom multiple : ℕ) : Type 0 where
  pub positive : 0 < multiple
  pub below : multiple < 2 ^ 124
  pub is : multiple % denominator ≡ 0
  pub whole : (top * multiple) % bottom ≡ 0
  pub least : (times : ℕ) → times % denominator ≡ 0 → (top * times) % bottom ≡ 0
      → times % multiple ≡ 0
