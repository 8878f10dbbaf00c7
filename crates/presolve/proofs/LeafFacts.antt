-- The rows of a leaf, one after the other.
use Rattle.std.proofs.Common.{◌≡◌, ℕ, ◌+◌, ◌<◌, ◌≤◌, min, List, [], ◌∷◌, ◌++◌, length, get_or, ℤ, refl, sym, ap, ◌∙◌, arith}
use Rattle.std.specs.List.{flat_map, zip}
use Rattle.std.proofs.lemmas.Slice.Zip.{get_or-zip, length-zip}
use Rattle.exact_sums.proofs.LoopFacts.{AreOfItems, items_all, items_more}
use Rattle.bytime_model.specs.declared.names.RowName.{RowName}
use Rattle.bytime_model.specs.declared.multiplier.Multiplier.{Multiplier}
use Rattle.presolve.specs.Leaf.{leaf_rows, unless_never}

abbrev row_of : RowName × ℤ → List Multiplier
row_of named = unless_never named.0 named.1

-- those of the first so many names
abbrev pub AreLeafRows : List RowName → List ℤ → ℕ → List Multiplier → Type 0
AreLeafRows names multipliers count rows =
    AreOfItems row_of (zip names multipliers) count [] rows

pub leaf_more : (names : List RowName) (multipliers : List ℤ) (k : ℕ) (n : RowName) (m : ℤ)
    (old new : List Multiplier) → AreLeafRows names multipliers k old
    → k < min (length names) (length multipliers)
    → new ≡ old ++ unless_never (get_or names k n) (get_or multipliers k m)
    → AreLeafRows names multipliers (k + 1) new
leaf_more names multipliers k n m old new so_far within more =
    let long = length-zip names multipliers in
    items_more (n, m) (omega (arith, within, long))
    (sym (get_or-zip names multipliers k (n, m) (omega (arith, within)) (omega (arith, within))))
    so_far more

zipped : (names : List RowName) (multipliers : List ℤ)
    → flat_map row_of (zip names multipliers) ≡ leaf_rows names multipliers
zipped [] multipliers = refl
zipped (name ∷ names) [] = refl
zipped (name ∷ names) (multiplier ∷ multipliers) =
    ap (λ rows. unless_never name multiplier ++ rows) (zipped names multipliers)

pub leaf_all : (names : List RowName) (multipliers : List ℤ) (count : ℕ) (rows : List Multiplier)
    → AreLeafRows names multipliers count rows
    → min (length names) (length multipliers) ≤ count → rows ≡ leaf_rows names multipliers
leaf_all names multipliers count rows are few =
    let long = length-zip names multipliers in
    items_all count [] rows (omega (arith, few, long)) are ∙ zipped names multipliers
