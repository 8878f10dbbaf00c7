-- What a trail keeps: its boxes, what each node was noted to be, and the log of changes. No public
-- clause cites these.
use Rattle.std.specs.Prelude.{◌≡◌, ℕ, ◌^◌, ◌<◌, List, length, reverse, All}
use Rattle.time_windows.specs.declared.access.Access.{Access}
use Rattle.time_windows.specs.declared.trail.Change.{Change}
use Rattle.time_windows.specs.declared.trail.Change.TheVariants.{Descent, Was}
use Rattle.time_windows.specs.Held.{Held}
use Rattle.time_windows.specs.Narrowing.{IsSound}
use Rattle.time_windows.specs.Path.{above_of}

abbrev pub IsSoundAccess : Access → Type 0
IsSoundAccess access = IsSound access.window

-- a change of one of so many accesses
abbrev pub IsChange : ℕ → Change → Type 0
IsChange count Descent = Unit {0}
IsChange count (Was index access) = (index < count) × IsSoundAccess access

pub record IsTrail (held : Held) (accesses : List Access) (log : List Change) (depth : ℕ)
    : Type 0 where
  pub same : accesses ≡ held.accesses
  pub sound : All IsSoundAccess accesses
  pub few : length accesses < 2 ^ 32
  pub changes : All (IsChange (length accesses)) log
  pub depth_is : depth ≡ length (above_of held (reverse log))
