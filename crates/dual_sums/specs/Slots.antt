-- Numbers that count only under the stamp under which they were set.
use Rattle.std.specs.Prelude.{ℕ, ◌==◌, List, [], ◌∷◌, if◌then◌else◌, ℤ, pos}

abbrev pub values_in : ℕ → List ℕ → List ℤ → List ℤ
values_in stamp [] values = []
values_in stamp (set_in ∷ stamps) [] = []
values_in stamp (set_in ∷ stamps) (value ∷ values) =
    (if set_in == stamp then value else pos 0) ∷ values_in stamp stamps values
