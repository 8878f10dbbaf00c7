-- Rows of the day of two flights, of the flight there and back, and of a flight with two ways.
use Rattle.std.proofs.Common.{◌≡◌, ℕ, true, false, [], ◌∷◌, pos, refl}
use Rattle.flow_types.specs.declared.flight.Leg.{Leg}
use Rattle.flow_types.specs.declared.parts.Parts.{Parts}
use Rattle.bytime_model.specs.declared.names.RowName.TheVariants.{Arr, Connect, Dep, Enter, Leave, Mono, Occupy, Sector, Top}
use Rattle.bytime_model.specs.declared.variables.Var.TheVariants.{By, Inside}
use Rattle.bytime_model.specs.CostRow.{cost_row, priced_value}
use Rattle.bytime_model.specs.Rows.{is_row, minus_one, one, row_of, term_of}
use Rattle.bytime_model.specs.Values.{form_value, value_at}
use Rattle.worked_days.specs.Days.{plan_with, there, there_and_back, trip_at, two_flights}

-- one departure a period, nine arrivals, nine flights in the sector
abbrev two : Parts
two = two_flights 1 9 9

-- both flights may leave in the first period, and one departs
departures_at_first : row_of two (Dep 0 0) ≡ record {
  terms = term_of one (By 0 0 0) ∷ term_of one (By 1 0 0) ∷ [];
  limit = pos 1;
}
departures_at_first = refl

-- later on, those that hadn't left yet
departures_then : row_of two (Dep 0 1) ≡ record {
  terms = term_of one (By 0 0 1) ∷ term_of minus_one (By 0 0 0) ∷ term_of one (By 1 0 1)
      ∷ term_of minus_one (By 1 0 0) ∷ [];
  limit = pos 1;
}
departures_then = refl

arrivals_at_first : row_of two (Arr 1 0) ≡ record {
  terms = term_of one (By 0 2 0) ∷ term_of one (By 1 2 0) ∷ [];
  limit = pos 9;
}
arrivals_at_first = refl

-- the sector's node has one way in and on, so who entered it and not the next node is inside
inside_sector : row_of two (Sector 2 3) ≡ record {
  terms = term_of one (By 0 1 3) ∷ term_of minus_one (By 0 2 3) ∷ term_of one (By 1 1 3)
      ∷ term_of minus_one (By 1 2 3) ∷ [];
  limit = pos 9;
}
inside_sector = refl

entered_later : row_of two (Mono 1 2 4) ≡ record {
  terms = term_of one (By 1 2 3) ∷ term_of minus_one (By 1 2 4) ∷ [];
  limit = pos 0;
}
entered_later = refl

entered_once : row_of two (Top 1 2) ≡ record { terms = term_of one (By 1 2 7) ∷ []; limit = pos 1 }
entered_once = refl

-- the leg takes two periods: before that no one can have come
too_early : row_of two (Enter 0 2 1) ≡ record { terms = term_of one (By 0 2 1) ∷ []; limit = pos 0 }
too_early = refl

in_time : row_of two (Enter 0 2 3) ≡ record {
  terms = term_of one (By 0 2 3) ∷ term_of minus_one (By 0 1 1) ∷ [];
  limit = pos 0;
}
in_time = refl

leaves : row_of two (Leave 0 1) ≡ record {
  terms = term_of one (By 0 1 7) ∷ term_of minus_one (By 0 2 7) ∷ [];
  limit = pos 0;
}
leaves = refl

-- the flight back waits for its aircraft, and the turnaround of one period
waits : row_of (there_and_back 9 1) (Connect 0 3) ≡ record {
  terms = term_of one (By 1 0 3) ∷ term_of minus_one (By 0 2 2) ∷ [];
  limit = pos 0;
}
waits = refl

-- there is no row of what was entered before the first period, nor of an airport's node
no_earlier : is_row two (Mono 0 0 0) ≡ false
no_earlier = refl

no_airport_inside : is_row two (Occupy 0 0 1) ≡ false
no_airport_inside = refl

-- a plain node has no variable for being inside
no_plain_inside : is_row two (Occupy 0 1 1) ≡ false
no_plain_inside = refl

-- both flights on time break the row of departures, with its two departures where there is one
both_leave : form_value (value_at two.flights (plan_with (trip_at 0 2)))
    (row_of two (Dep 0 0)).terms ≡ pos 2
both_leave = refl

-- the second one a period later keeps it
one_leaves : form_value (value_at two.flights (plan_with (trip_at 1 3)))
    (row_of two (Dep 0 0)).terms ≡ pos 1
one_leaves = refl

-- A flight with two ways, by either sector: whoever has entered one may still be inside, as the
-- last node has two ways in.
abbrev leg_with : ℕ → ℕ → ℕ → Leg
leg_with from to least = record { from = from; to = to; least = least }

abbrev pub forked : Parts
forked = record two {
  flights = record there {
    nodes = 0 ∷ 2 ∷ 3 ∷ 1 ∷ [];
    legs = leg_with 0 1 0 ∷ leg_with 0 2 1 ∷ leg_with 1 3 2 ∷ leg_with 2 3 1 ∷ [];
  } ∷ [];
}

inside_one : row_of forked (Sector 2 3) ≡ record {
  terms = term_of one (Inside 0 1 3) ∷ [];
  limit = pos 9;
}
inside_one = refl

occupies : is_row forked (Occupy 0 1 3) ≡ true
occupies = refl

inside_or_on : row_of forked (Occupy 0 1 3) ≡ record {
  terms = term_of one (By 0 1 3) ∷ term_of minus_one (By 0 3 3)
      ∷ term_of minus_one (Inside 0 1 3) ∷ [];
  limit = pos 0;
}
inside_or_on = refl

-- the last node is entered from either, as long ago as the leg from there takes
from_either : row_of forked (Enter 0 3 1) ≡ record {
  terms = term_of one (By 0 3 1) ∷ term_of minus_one (By 0 2 0) ∷ [];
  limit = pos 0;
}
from_either = refl

from_both : row_of forked (Enter 0 3 2) ≡ record {
  terms = term_of one (By 0 3 2) ∷ term_of minus_one (By 0 1 0) ∷ term_of minus_one (By 0 2 1) ∷ [];
  limit = pos 0;
}
from_both = refl

-- the first flight's cost: 2 a period late, and 1 less for each that it waited on the ground
costs_late : priced_value (value_at two.flights (plan_with (trip_at 1 4))) (cost_row two) ≡ pos 3
costs_late = refl

costs_nothing : priced_value (value_at two.flights (plan_with (trip_at 0 2))) (cost_row two) ≡ pos 0
costs_nothing = refl
