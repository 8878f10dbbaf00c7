-- Counts of faults: 64 bits wide, they never fall and stop at their last value.
use Rattle.std.specs.Prelude.{ℕ, ◌+◌, ◌-◌, ◌^◌, ◌<◌, nat_lt, Result, Ok, Err, if◌then◌else◌}

-- the count rose, or stands at the counter's last value
abbrev pub Rose : ℕ → ℕ → Type 0
Rose before now = now < 2 ^ 64 - 1 → before < now

-- a count with one more
abbrev pub raised : ℕ → ℕ
raised count = if nat_lt count (2 ^ 64 - 1) then count + 1 else count

-- the count after a call with this answer: an error raises it
abbrev pub count_after : {A E : Type 0} → Result A E → ℕ → ℕ
count_after (Ok value) count = count
count_after (Err error) count = raised count

-- what contracts see of `HostFiles`: its counts
pub record FilesCounts : Type 0 where
  pub faults : ℕ
  pub store_faults : ℕ
