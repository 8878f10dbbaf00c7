-- The least that a cost takes on a set, and the first of those that take it; with no word on how
-- they are found.
use Rattle.std.specs.Prelude.{◌≡◌, Option, None, Some, ℤ, ◌+ℤ◌, ◌≤ℤ◌}
use Rattle.std.specs.Int.{int_min}

-- one of the set costs so much, and none costs less
pub record IsLeastAt {A : Type 0} (P : A → Type 0) (cost : A → ℤ) (least : ℤ) : Type 0 where
  pub reached : (x : A) × P x × (cost x ≡ least)
  pub below : (x : A) → P x → least ≤ℤ cost x

-- nothing where the set is empty
abbrev pub IsLeast : {A : Type 0} → (A → Type 0) → (A → ℤ) → Option ℤ → Type 0
IsLeast {A} P cost None = (x : A) → P x → ⊥
IsLeast {A} P cost (Some least) = IsLeastAt P cost least

-- one of the set; none costs less, and none that costs as much stands before it
pub record IsFirstLeast {A : Type 0} (P : A → Type 0) (cost : A → ℤ)
    (IsNoLater : A → A → Type 0) (chosen : A) : Type 0 where
  pub inside : P chosen
  pub least : (x : A) → P x → cost chosen ≤ℤ cost x
  pub first : (x : A) → P x → cost x ≡ cost chosen → IsNoLater chosen x

-- the lesser of two, as far as they are there
abbrev pub lesser : Option ℤ → Option ℤ → Option ℤ
lesser None b = b
lesser (Some a) None = Some a
lesser (Some a) (Some b) = Some (int_min a b)

-- so much more, where there is a number
abbrev pub raised : ℤ → Option ℤ → Option ℤ
raised more None = None
raised more (Some value) = Some (value +ℤ more)
