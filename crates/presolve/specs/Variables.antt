-- The columns of a box: the variables of the by-time program that it leaves free.
use Rattle.std.specs.Prelude.{ℕ, ◌==◌, Bool, true, false, ◌&&◌, List, [], ◌∷◌, ◌++◌, length, slice_get, if◌then◌else◌}
use Rattle.std.specs.List.{flat_map, range_with_len}
use Rattle.flow_types.specs.declared.parts.Parts.{Parts}
use Rattle.time_windows.specs.Boxes.{Box}
use Rattle.bytime_model.specs.declared.left.Left.{Left}
use Rattle.bytime_model.specs.declared.left.Left.TheVariants.{Free, One, Same, Zero}
use Rattle.bytime_model.specs.declared.variables.Var.{Var}
use Rattle.bytime_model.specs.declared.variables.Var.TheVariants.{By, Inside}
use Rattle.bytime_model.specs.Left.{left_of}
use Rattle.bytime_model.specs.Rows.{node_count}
use Rattle.bytime_model.specs.Values.{has_inside}

-- whether two are one and the same variable
abbrev pub is_same : Var → Var → Bool
is_same (By f n t) (By g m u) = (f == g) && ((n == m) && (t == u))
is_same (By f n t) (Inside g m u) = false
is_same (Inside f n t) (By g m u) = false
is_same (Inside f n t) (Inside g m u) = (f == g) && ((n == m) && (t == u))

abbrev pub is_free : Left → Bool
is_free Zero = false
is_free One = false
is_free (Same other) = false
is_free Free = true

-- the variable, where the box leaves it free
abbrev pub if_free : Parts → Box → Var → List Var
if_free parts box variable =
    if is_free (left_of parts.flights box variable) then variable ∷ [] else []

-- the periods of the day
abbrev pub periods_of : Parts → List ℕ
periods_of parts = range_with_len 0 parts.day.periods

-- of a node those of entering it, then those of being inside, each by period
abbrev pub by_columns : Parts → Box → ℕ → ℕ → List Var
by_columns parts box f n = flat_map (λ t. if_free parts box (By f n t)) (periods_of parts)

abbrev pub inside_columns : Parts → Box → ℕ → ℕ → List Var
inside_columns parts box f n =
    if has_inside (slice_get parts.flights f) n
    then flat_map (λ t. if_free parts box (Inside f n t)) (periods_of parts) else []

abbrev pub node_columns : Parts → Box → ℕ → ℕ → List Var
node_columns parts box f n = by_columns parts box f n ++ inside_columns parts box f n

-- node by node, flight by flight
abbrev pub flight_columns : Parts → Box → ℕ → List Var
flight_columns parts box f =
    flat_map (node_columns parts box f)
    (range_with_len 0 (node_count (slice_get parts.flights f)))

abbrev pub columns_of : Parts → Box → List Var
columns_of parts box =
    flat_map (flight_columns parts box) (range_with_len 0 (length parts.flights))
