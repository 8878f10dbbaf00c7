-- The order of the rows: by kind, then by the numbers of their names, from left to right.
use Rattle.std.specs.Prelude.{ℕ, ◌==◌, Bool, ◌&&◌, ◌||◌, nat_lt, IsTrue}
use Rattle.bytime_model.specs.declared.names.RowName.{RowName}
use Rattle.bytime_model.specs.Kinds.{SortKey, sort_key}

-- less, or the same and what is to follow holds
abbrev pub is_less_or : ℕ → ℕ → Bool → Bool
is_less_or a b rest = nat_lt a b || ((a == b) && rest)

-- by the first in which they differ
abbrev pub is_less : SortKey → SortKey → Bool
is_less a b =
    is_less_or a.0 b.0 (is_less_or a.1 b.1 (is_less_or a.2 b.2 (nat_lt a.3 b.3)))

abbrev pub is_before : RowName → RowName → Bool
is_before a b = is_less (sort_key a) (sort_key b)

abbrev pub IsBefore : RowName → RowName → Type 0
IsBefore a b = IsTrue (is_before a b)
