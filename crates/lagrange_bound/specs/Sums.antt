-- The value of prices and what it tells, as they are found.
use Rattle.std.specs.Prelude.{ℕ, Option, None, Some, ℤ, pos, ◌-ℤ◌}

-- so much less, where there is a number
abbrev pub less : Option ℤ → ℕ → Option ℤ
less None paid = None
less (Some sum) paid = Some (sum -ℤ pos paid)
