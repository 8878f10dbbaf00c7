-- The two sides of a split of a box at a node and a period: the flight enters the node by then, or
-- it enters it later or not at all.
use Rattle.std.specs.Prelude.{◌≡◌, ℕ, ◌+◌, ◌<◌, ◌≤◌, ◌==◌, true, ◌&&◌, nat_lt, min, max, Option, None, Some, if◌then◌else◌}
use Rattle.time_windows.specs.declared.access.Access.{Access}
use Rattle.time_windows.specs.declared.access.Window.{Window}
use Rattle.time_windows.specs.Boxes.{Box}

-- no later than a period
abbrev pub until : Option Window → ℕ → Option Window
until None time = None
until (Some window) time = Some (record { lo = window.lo; hi = min window.hi time })

-- later than a period
abbrev pub after : Option Window → ℕ → Option Window
after None time = None
after (Some window) time =
    if nat_lt time window.hi then Some (record { lo = max window.lo (time + 1); hi = window.hi })
    else None

-- a box that is changed at one node of one flight alone
abbrev pub changed_at : ℕ → ℕ → Access → Box → Box
changed_at flight node access box f n =
    if (f == flight) && (n == node) then access else box f n

-- the flight enters the node, by the period
abbrev pub early_branch : ℕ → ℕ → ℕ → Box → Box
early_branch flight node time box =
    changed_at flight node (record { window = until (box flight node).window time; must = true })
    box

-- the flight enters the node after the period, or never where it needn't
abbrev pub late_branch : ℕ → ℕ → ℕ → Box → Box
late_branch flight node time box =
    changed_at flight node
    (record { window = after (box flight node).window time; must = (box flight node).must }) box

-- both sides leave something out: the period is in the window, and it isn't the last of a node that
-- must be entered
pub record IsBranching (access : Access) (time : ℕ) : Type 0 where
  pub window : Window
  pub is_open : access.window ≡ Some window
  pub from : window.lo ≤ time
  pub to : time ≤ window.hi
  pub later : access.must ≡ true → time < window.hi
