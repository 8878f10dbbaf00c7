-- What files hold under their names, where they tell it.
use Rattle.std.specs.Prelude.{◌≡◌, ◌≢◌, ℕ, ◌-◌, ◌<◌, ◌≤◌, ◌↔◌, ⊤, List, ◌++◌, length, take, drop, Option, None, Some, IsSome}
use Rattle.std.specs.Ordering.{nat_cmp}
use Rattle.std.specs.Cmp.Lexicographic.{slice_cmp}
use Rattle.std.specs.FinMap.{FinMap, get, insert}

-- the bytes under each name; a name is its bytes
abbrev pub Held : Type 0
Held = FinMap (slice_cmp nat_cmp) (List ℕ)

-- the bytes under a name, where they are told and the name is there
abbrev pub bytes_told : Option Held → List ℕ → Option (List ℕ)
bytes_told None name = None
bytes_told (Some held) name = get held name

-- a fact of the bytes under a name, where they are told and the name is there
abbrev pub IfTold : Option Held → List ℕ → (List ℕ → Type 0) → Type 0
IfTold held name P = (bytes : List ℕ) → bytes_told held name ≡ Some bytes → P bytes

-- the name is there, or nothing is told
abbrev pub HasName : Option Held → List ℕ → Type 0
HasName None name = ⊤
HasName (Some held) name = IsSome (get held name)

-- n of the bytes, from that offset on, were put in front of a buffer, which is else as before
pub record ReadsPart (bytes : List ℕ) (offset n : ℕ) (before now : List ℕ) : Type 0 where
  -- so many are left there
  pub left : n ≤ length bytes - offset
  -- one at least, where one is left and the buffer has room
  pub some : offset < length bytes → 0 < length before → 0 < n
  pub front : now ≡ take n (drop offset bytes) ++ drop n before

-- what is held once these bytes are stored under the name
abbrev pub stored : Option Held → List ℕ → List ℕ → Option Held
stored None name bytes = None
stored (Some held) name bytes = Some (insert held name bytes)

-- every name but this one has what it had
pub record KeepsOthers (before now : Option Held) (name : List ℕ) : Type 0 where
  pub told : IsSome now ↔ IsSome before
  pub others : (other : List ℕ) → other ≢ name → bytes_told now other ≡ bytes_told before other
