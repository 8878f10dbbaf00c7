-- The order of cuts: by kind, then by the numbers of their names from left to right, a front first.
use Rattle.std.specs.Prelude.{ℕ, ◌==◌, Bool, false, true, ◌&&◌, ◌||◌, ◌-◌, nat_lt, IsTrue, List, [], ◌∷◌, length, Option, None, Some, slice_get}
use Rattle.cut_rows.specs.declared.names.CutName.{CutName}
use Rattle.cut_rows.specs.declared.names.CutName.TheVariants.{Apart, Departed, Heads}

abbrev pub numbers_of : CutName → List ℕ
numbers_of (Heads f n t heads) = 0 ∷ f ∷ n ∷ t ∷ heads
numbers_of (Apart f t nodes) = 1 ∷ f ∷ t ∷ nodes
numbers_of (Departed f n t) = 2 ∷ f ∷ n ∷ t ∷ []

abbrev pub comes_before : List ℕ → List ℕ → Bool
comes_before xs [] = false
comes_before [] (y ∷ ys) = true
comes_before (x ∷ xs) (y ∷ ys) = nat_lt x y || ((x == y) && comes_before xs ys)

abbrev pub IsBefore : CutName → CutName → Type 0
IsBefore a b = IsTrue (comes_before (numbers_of a) (numbers_of b))

-- a cut comes after the last one of the pool, if there is one
abbrev pub follows_last : Option CutName → CutName → Bool
follows_last None cut = true
follows_last (Some last) cut = comes_before (numbers_of last) (numbers_of cut)

abbrev pub follows : List CutName → CutName → Bool
follows pool cut = follows_last (slice_get pool (length pool - 1)) cut
