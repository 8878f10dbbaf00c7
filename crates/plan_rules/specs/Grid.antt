-- Counts by place and period, kept in one block.
use Rattle.std.specs.Prelude.{◌≡◌, ℕ, ◌+◌, ◌-◌, ◌*◌, ◌^◌, ◌<◌, slice_index}
use Rattle.plan_rules.specs.Tally.{CountGrid}
use Rattle.plan_rules.specs.declared.grid.Change.{Change}
use Rattle.plan_rules.specs.declared.grid.Change.TheVariants as change

-- the count of a place in a period
abbrev pub count_at : CountGrid → ℕ → ℕ → ℕ
count_at grid place period = slice_index grid.counts (place * grid.periods + period)

-- nothing is counted
abbrev pub IsEmpty : CountGrid → Type 0
IsEmpty grid = (k t : ℕ) → k < grid.places → t < grid.periods → count_at grid k t ≡ 0

-- as many places and periods
pub record SameSize (old new : CountGrid) : Type 0 where
  pub places : new.places ≡ old.places
  pub periods : new.periods ≡ old.periods

-- a count that has grown by so much, or shrunk, down to 0 at the most
abbrev pub changed : Change → ℕ → ℕ → ℕ
changed change.More count by = count + by
changed change.Less count by = count - by

-- a change by so much fits in 32 bits: always, where the count becomes less
abbrev pub Fits : Change → ℕ → ℕ → Type 0
Fits change.More count by = count + by < 2 ^ 32
Fits change.Less count by = Unit {0}

-- each count has changed by so much, where that fits
pub record Changes (change : Change) (by : ℕ → ℕ → ℕ) (old new : CountGrid) : Type 0 where
  pub places : new.places ≡ old.places
  pub periods : new.periods ≡ old.periods
  pub each : (k t : ℕ) → k < old.places → t < old.periods → Fits change (count_at old k t) (by k t)
      → count_at new k t ≡ changed change (count_at old k t) (by k t)
