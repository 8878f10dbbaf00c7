-- A record's fields as a list.
use Rattle.std.proofs.Common.{◌≡◌, ℕ, zero, suc, List, [], ◌∷◌, refl, slice_get}
use Rattle.csv.specs.Records.{field_at}

pub field_at_is : (fields : List (List ℕ)) (k : ℕ) → field_at fields k ≡ slice_get fields k
unfolding field_at
field_at_is [] k = refl
field_at_is (f ∷ fs) zero = refl
field_at_is (f ∷ fs) (suc k) = field_at_is fs k
