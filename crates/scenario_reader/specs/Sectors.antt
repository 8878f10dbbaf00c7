-- The sectors of a flight.
use Rattle.std.specs.Prelude.{ℕ, ◌-◌}
use Rattle.flow_types.specs.Limits.{most_nodes}

-- its nodes without the two airports
abbrev pub most_sectors : ℕ
most_sectors = most_nodes - 2
