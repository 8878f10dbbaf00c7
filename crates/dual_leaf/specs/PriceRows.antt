-- The rows that prices are put on, and what a price of a row is put on.
use Rattle.std.specs.Prelude.{ℕ, Option, None, Some}
use Rattle.flow_types.specs.declared.bound.PriceKey.{PriceKey}
use Rattle.flow_types.specs.declared.bound.PriceKind.{PriceKind}
use Rattle.flow_types.specs.declared.bound.PriceKind.TheVariants.{Capacity, Connection}
use Rattle.flow_types.specs.declared.place.CapKind.TheVariants as cap
use Rattle.flight_routes.specs.Prices.{key_in}
use Rattle.bytime_model.specs.declared.names.RowName.{RowName}
use Rattle.bytime_model.specs.declared.names.RowName.TheVariants.{Arr, Connect, Dep, Sector}

abbrev pub name_at : PriceKind → ℕ → ℕ → RowName
name_at (Capacity cap.Dep) row period = Dep row period
name_at (Capacity cap.Arr) row period = Arr row period
name_at (Capacity cap.Sector) row period = Sector row period
name_at Connection row period = Connect row period

abbrev pub name_of : PriceKey → RowName
name_of key = name_at key.kind key.row key.period

-- rows that aren't of a capacity or a connection have no price
abbrev pub key_of : RowName → Option PriceKey
key_of (Dep place period) = Some (key_in (Capacity cap.Dep) place period)
key_of (Arr place period) = Some (key_in (Capacity cap.Arr) place period)
key_of (Sector place period) = Some (key_in (Capacity cap.Sector) place period)
key_of (Connect connection period) = Some (key_in Connection connection period)
key_of name = None
