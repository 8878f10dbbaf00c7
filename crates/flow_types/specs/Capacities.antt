-- The capacities of a place.
use Rattle.std.specs.Prelude.{ℕ, Bool, List, [], Option, Some, None, slice_get, slice_index}
use Rattle.flow_types.specs.declared.place.CapKind.{CapKind}
use Rattle.flow_types.specs.declared.place.CapKind.TheVariants as kind
use Rattle.flow_types.specs.declared.place.Place.{Place}
use Rattle.flow_types.specs.Routes.{is_airport, is_sector}

-- the place has capacities of this kind
abbrev pub has_kind : CapKind → Option Place → Bool
has_kind kind.Dep place = is_airport place
has_kind kind.Arr place = is_airport place
has_kind kind.Sector place = is_sector place

-- the place's capacities of this kind, by period
abbrev pub caps_of : CapKind → Option Place → List ℕ
caps_of kind None = []
caps_of kind.Dep (Some place) = place.first
caps_of kind.Arr (Some place) = place.second
caps_of kind.Sector (Some place) = place.first

-- the capacity in a period
abbrev pub capacity_of : List Place → CapKind → ℕ → ℕ → ℕ
capacity_of places kind place period = slice_index (caps_of kind (slice_get places place)) period
