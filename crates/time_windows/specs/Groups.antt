-- Lists of items in one block, one after another.
use Rattle.std.specs.Prelude.{ℕ, zero, suc, ◌-◌, ◌≤◌, List, [], ◌∷◌, slice_index, take, drop}

-- the lists that are closed, and the items since
pub record Grouped (X : Type 0) : Type 0 where
  pub closed : List (List X)
  pub pending : List X

-- the block cut at these positions, from one on
abbrev pub cut : {X : Type 0} → ℕ → List ℕ → List X → List (List X)
cut begin [] items = []
cut begin (end ∷ ends) items = take (end - begin) (drop begin items) ∷ cut end ends items

-- the last of these positions
abbrev pub last_end : ℕ → List ℕ → ℕ
last_end begin [] = begin
last_end begin (end ∷ ends) = last_end end ends

-- the positions rise, up to the end of the block
abbrev pub AreEnds : ℕ → ℕ → List ℕ → Type 0
AreEnds begin limit [] = begin ≤ limit
AreEnds begin limit (end ∷ ends) = (begin ≤ end) × AreEnds end limit ends

-- where the list at a position begins
abbrev pub begin_at : List ℕ → ℕ → ℕ
begin_at ends zero = 0
begin_at ends (suc position) = slice_index ends position
