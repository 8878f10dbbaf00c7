-- The values of the variables at a plan, and of a sum of terms.
use Rattle.std.specs.Prelude.{ℕ, ◌+◌, ◌==◌, Bool, false, ◌&&◌, not, nat_le, nat_lt, List, length, Option, Some, None, slice_get, count_by, ℤ, pos, ◌*ℤ◌, if◌then◌else◌}
use Rattle.std.specs.List.{list_any}
use Rattle.exact_sums.specs.Sums.{total}
use Rattle.flow_types.specs.declared.flight.Flight.{Flight}
use Rattle.flow_types.specs.declared.plan.Stop.{Stop}
use Rattle.flow_types.specs.Counts.{one_if, stays_at}
use Rattle.flow_types.specs.Routes.{next_of}
use Rattle.flow_types.specs.Trips.{place_at}
use Rattle.bytime_model.specs.declared.variables.Term.{Term}
use Rattle.bytime_model.specs.declared.variables.Var.{Var}
use Rattle.bytime_model.specs.declared.variables.Var.TheVariants.{By, Inside}

-- 1 where the trip has a stop at the node by the period
abbrev pub by_of : ℕ → ℕ → List Stop → ℕ
by_of node time stops = one_if (list_any (λ stop. (stop.node == node) && nat_le stop.time time)
    stops)

abbrev pub by_at : ℕ → ℕ → Option (List Stop) → ℕ
by_at node time None = 0
by_at node time (Some stops) = by_of node time stops

-- The node is a sector's that has one successor, of which it is the one predecessor. Its flight is
-- inside until it enters that successor, so it needs no variable of its own.
abbrev pub is_plain : Flight → ℕ → Bool
is_plain flight node =
    nat_lt 0 node && (nat_lt (node + 1) (length flight.nodes)
    && ((count_by (λ leg. leg.from == node) flight.legs == 1)
    && (count_by (λ leg. leg.to == next_of flight.legs node) flight.legs == 1)))

-- the flight has a variable for being inside the node
abbrev pub has_inside : Option Flight → ℕ → Bool
has_inside None node = false
has_inside (Some flight) node = nat_lt 0 node && (nat_lt (node + 1) (length flight.nodes)
    && not (is_plain flight node))

-- 1 where the flight has such a variable, and its trip is inside the node's place in the period
abbrev pub inside_at : ℕ → ℕ → Option Flight → Option (List Stop) → ℕ
inside_at node time None stops = 0
inside_at node time (Some flight) None = 0
inside_at node time (Some flight) (Some stops) =
    if has_inside (Some flight) node then stays_at (place_at flight node) time flight stops else 0

-- the value of a variable at a plan
abbrev pub value_at : List Flight → List (List Stop) → Var → ℕ
value_at flights plan (By flight node time) = by_at node time (slice_get plan flight)
value_at flights plan (Inside flight node time) =
    inside_at node time (slice_get flights flight) (slice_get plan flight)

-- the value of a sum of terms, where variables have these values
abbrev pub form_value : (Var → ℕ) → List Term → ℤ
form_value value terms = total (λ term. term.factor *ℤ pos (value term.variable)) terms
