-- What prices are put on, by kinds, rows and periods.
use Rattle.std.specs.Prelude.{◌≡◌, ◌<◌, ℕ, Bool, false, true, ◌&&◌, nat_eq, List, [], ◌∷◌, slice_get}
use Rattle.flow_types.specs.declared.bound.PriceKey.{PriceKey}
use Rattle.flow_types.specs.declared.bound.PriceKind.{PriceKind}
use Rattle.flow_types.specs.declared.bound.PriceKind.TheVariants.{Capacity, Connection}
use Rattle.flow_types.specs.declared.parts.Parts.{Parts}
use Rattle.flow_types.specs.declared.place.CapKind.TheVariants as cap
use Rattle.flow_types.specs.Capacities.{has_kind}
use Rattle.flight_routes.specs.Prices.{PriceTable, kind_number, price_at, row_count}

-- the kinds, each at its number
abbrev pub price_kinds : List PriceKind
price_kinds = Capacity cap.Dep ∷ Capacity cap.Arr ∷ Capacity cap.Sector ∷ Connection ∷ []

-- the key names a price of the day
abbrev pub IsKeyFor : Parts → PriceKey → Type 0
IsKeyFor parts key = (key.row < row_count parts key.kind) × (key.period < parts.day.periods)

-- the key is the one of this kind, row and period
abbrev pub is_at : ℕ → ℕ → ℕ → PriceKey → Bool
is_at kind row period key =
    nat_eq (kind_number key.kind) kind && (nat_eq key.row row && nat_eq key.period period)

-- what a price may be put on: a capacity that is there, or a connection
abbrev pub row_has_limit : Parts → PriceKind → ℕ → Bool
row_has_limit parts (Capacity kind) row = has_kind kind (slice_get parts.places row)
row_has_limit parts Connection row = true

abbrev pub has_limit : Parts → PriceKey → Bool
has_limit parts key = row_has_limit parts key.kind key.row

-- nothing else has a price
abbrev pub ArePlaced : Parts → PriceTable → Type 0
ArePlaced parts table =
    (key : PriceKey) → IsKeyFor parts key → has_limit parts key ≡ false → price_at table key ≡ 0
