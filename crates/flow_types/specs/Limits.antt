-- How large a text, a scenario and the numbers in it may be. The code has constants of its own with
-- these names, and each clause is about the numbers here.
use Rattle.std.specs.Prelude.{ℕ}

-- bytes of a text (64 MiB) and of a name, digits of a number
abbrev pub most_text_bytes : ℕ
most_text_bytes = 67108864

abbrev pub most_name_bytes : ℕ
most_name_bytes = 32

abbrev pub most_digits : ℕ
most_digits = 18

-- the last year, minutes of a period, periods of a day
abbrev pub last_year : ℕ
last_year = 9998

abbrev pub most_minutes : ℕ
most_minutes = 120

abbrev pub most_periods : ℕ
most_periods = 512

-- places, and the capacity of one in a period
abbrev pub most_places : ℕ
most_places = 1000

abbrev pub most_capacity : ℕ
most_capacity = 1000000

-- flights, nodes and legs of one, nodes of all
abbrev pub most_flights : ℕ
most_flights = 2000

abbrev pub most_nodes : ℕ
most_nodes = 32

abbrev pub most_legs : ℕ
most_legs = 64

abbrev pub most_nodes_in_all : ℕ
most_nodes_in_all = 20000

-- delays, least times and turnarounds in periods, and what a period of delay may cost
abbrev pub most_delay : ℕ
most_delay = 511

abbrev pub most_period_cost : ℕ
most_period_cost = 1000000

-- tables, values of one, and how far a value is from zero
abbrev pub most_tables : ℕ
most_tables = 1000

abbrev pub most_values : ℕ
most_values = 512

abbrev pub most_value : ℕ
most_value = 1000000000

-- what a delay costs, and what a trip costs, are no further than these from zero
abbrev pub most_delay_cost : ℕ
most_delay_cost = 100000000000

abbrev pub most_trip_cost : ℕ
most_trip_cost = 200000000000

-- connections
abbrev pub most_connections : ℕ
most_connections = 4000
