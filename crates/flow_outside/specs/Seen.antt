-- What contracts see of files and of an output.
use Rattle.std.specs.Prelude.{◌≡◌, ℕ, ◌≤◌, List, Option}
use Rattle.flow_outside.specs.Held.{Held}

-- of files: what they hold, where they tell it, and how often reads and stores failed
pub record FilesSeen : Type 0 where
  pub held : Option Held
  pub faults : ℕ
  pub store_faults : ℕ

-- of an output: what was written, where it tells it, and how often writes failed
pub record SinkSeen : Type 0 where
  pub written : Option (List ℕ)
  pub faults : ℕ

-- files are as before, but for the count of reads that failed, which doesn't fall
pub record AreKept (before now : FilesSeen) : Type 0 where
  pub held : now.held ≡ before.held
  pub store_faults : now.store_faults ≡ before.store_faults
  pub faults : before.faults ≤ now.faults
