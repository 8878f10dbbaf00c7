-- The cost row: what a plan costs, as a constant and a sum of terms. A flight that hasn't arrived
-- by a period pays for it, and one that hasn't departed by a period is paid back.
use Rattle.std.specs.Prelude.{ℕ, ◌+◌, ◌-◌, min, List, [], ◌∷◌, ◌++◌, length, Option, None, Some, ℤ, pos, ◌+ℤ◌, ◌-ℤ◌, if◌then◌else◌}
use Rattle.std.specs.Ordering.{int_eq}
use Rattle.std.specs.List.{flat_map, range_with_len}
use Rattle.flow_types.specs.declared.flight.CostTable.{CostTable}
use Rattle.flow_types.specs.declared.flight.Flight.{Flight}
use Rattle.flow_types.specs.declared.parts.Parts.{Parts}
use Rattle.flow_types.specs.Costs.{credit_of, total_of}
use Rattle.bytime_model.specs.declared.variables.Term.{Term}
use Rattle.bytime_model.specs.declared.variables.Var.{Var}
use Rattle.bytime_model.specs.declared.variables.Var.TheVariants.{By}
use Rattle.bytime_model.specs.Rows.{term_of}
use Rattle.bytime_model.specs.Values.{form_value}
use Rattle.exact_sums.specs.Lists.{flat_map_from}
use Rattle.exact_sums.specs.Sums.{total}

-- a sum of terms and a constant
pub record Priced : Type 0 where
  pub constant : ℤ
  pub terms : List Term

-- the term, where its factor isn't 0
abbrev pub unless_zero : ℤ → Var → List Term
unless_zero factor variable = if int_eq factor (pos 0) then [] else term_of factor variable ∷ []

-- such a term for each of so many periods of delay
abbrev pub steps : (ℕ → ℤ) → (ℕ → Var) → ℕ → List Term
steps step variable count =
    flat_map (λ delay. unless_zero (step delay) (variable delay)) (range_with_len 0 count)

-- how much later than scheduled a flight may arrive, and depart
abbrev pub most_late : ℕ → Flight → ℕ
most_late periods flight = min (flight.sa + flight.md) (periods - 1) - flight.sa

abbrev pub most_wait : ℕ → Flight → ℕ
most_wait periods flight = min (flight.sd + flight.mg) (periods - 1) - flight.sd

-- what a flight puts into the constant: its cost, if it were as late as it may
abbrev pub flight_constant : List CostTable → ℕ → Flight → ℤ
flight_constant tables periods flight =
    total_of tables flight.cost (most_late periods flight)
    -ℤ credit_of tables flight.cost (most_wait periods flight)

-- what it is spared, if it has arrived with no more than this delay, against a period more
abbrev pub late_step : List CostTable → Flight → ℕ → ℤ
late_step tables flight delay =
    total_of tables flight.cost delay -ℤ total_of tables flight.cost (delay + 1)

-- what it isn't credited, if it has departed with no more than this delay, against a period more
abbrev pub wait_step : List CostTable → Flight → ℕ → ℤ
wait_step tables flight delay =
    credit_of tables flight.cost (delay + 1) -ℤ credit_of tables flight.cost delay

-- a term for each period by which it may have arrived, and by which it may have departed
abbrev pub late_terms : List CostTable → ℕ → ℕ → Flight → List Term
late_terms tables periods number flight =
    steps (late_step tables flight)
    (λ delay. By number (length flight.nodes - 1) (flight.sa + delay)) (most_late periods flight)

abbrev pub wait_terms : List CostTable → ℕ → ℕ → Flight → List Term
wait_terms tables periods number flight =
    steps (wait_step tables flight) (λ delay. By number 0 (flight.sd + delay))
    (most_wait periods flight)

abbrev pub flight_terms : List CostTable → ℕ → ℕ → Flight → List Term
flight_terms tables periods number flight =
    late_terms tables periods number flight ++ wait_terms tables periods number flight

abbrev pub constants : List CostTable → ℕ → List Flight → ℤ
constants tables periods flights = total (flight_constant tables periods) flights

abbrev pub cost_row : Parts → Priced
cost_row parts = record {
  constant = constants parts.tables parts.day.periods parts.flights;
  terms = flat_map_from (flight_terms parts.tables parts.day.periods) 0 parts.flights;
}

-- its value where variables have these values
abbrev pub priced_value : (Var → ℕ) → Priced → ℤ
priced_value value row = row.constant +ℤ form_value value row.terms

-- the most that a flight is late and waits, and what each period of that costs; nothing of a flight
-- that isn't there
abbrev pub most_late_at : ℕ → Option Flight → ℕ
most_late_at periods None = 0
most_late_at periods (Some flight) = most_late periods flight

abbrev pub most_wait_at : ℕ → Option Flight → ℕ
most_wait_at periods None = 0
most_wait_at periods (Some flight) = most_wait periods flight

abbrev pub late_step_at : List CostTable → Option Flight → ℕ → ℤ
late_step_at tables None delay = pos 0
late_step_at tables (Some flight) delay = late_step tables flight delay

abbrev pub wait_step_at : List CostTable → Option Flight → ℕ → ℤ
wait_step_at tables None delay = pos 0
wait_step_at tables (Some flight) delay = wait_step tables flight delay

-- having arrived, and departed, with no more than this delay
abbrev pub late_variable : ℕ → Option Flight → ℕ → Var
late_variable number None delay = By number 0 0
late_variable number (Some flight) delay =
    By number (length flight.nodes - 1) (flight.sa + delay)

abbrev pub wait_variable : ℕ → Option Flight → ℕ → Var
wait_variable number None delay = By number 0 0
wait_variable number (Some flight) delay = By number 0 (flight.sd + delay)
