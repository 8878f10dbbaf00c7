-- What a trip takes at its two ends.
use Rattle.std.specs.Prelude.{ℕ}
use Rattle.flow_types.specs.declared.flight.Flight.{Flight}
use Rattle.flow_types.specs.declared.place.CapKind.{CapKind}
use Rattle.flow_types.specs.declared.place.CapKind.TheVariants as kind
use Rattle.time_windows.specs.declared.ends.End.{End}
use Rattle.time_windows.specs.declared.ends.End.TheVariants.{Arrival, Departure}

-- the airport at this end, and the kind of capacity that is taken there
abbrev pub airport_at : End → Flight → ℕ
airport_at Departure flight = flight.from
airport_at Arrival flight = flight.to

abbrev pub kind_at : End → CapKind
kind_at Departure = kind.Dep
kind_at Arrival = kind.Arr
