-- What leaving and arriving in a period cost a flight.
use Rattle.std.specs.Prelude.{ℕ, ◌-◌, List, Option, None, Some, ℤ, pos}
use Rattle.flow_types.specs.declared.flight.CostTable.{CostTable}
use Rattle.flow_types.specs.declared.flight.Flight.{Flight}
use Rattle.flow_types.specs.Costs.{credit_of, total_of}

-- the credit of the ground delay
abbrev pub credit_then : List CostTable → Option Flight → ℕ → ℤ
credit_then tables None time = pos 0
credit_then tables (Some flight) time = credit_of tables flight.cost (time - flight.sd)

-- the total of the arrival delay
abbrev pub total_then : List CostTable → Option Flight → ℕ → ℤ
total_then tables None time = pos 0
total_then tables (Some flight) time = total_of tables flight.cost (time - flight.sa)
