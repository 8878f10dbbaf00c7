-- The distances of all flights of a day.
use Rattle.std.specs.Prelude.{ℕ, [], List, slice_get, slice_index_or}
use Rattle.exact_sums.specs.Lists.{AreEach}
use Rattle.flow_types.specs.declared.parts.Parts.{Parts}
use Rattle.route_distances.specs.Walks.{legs_of}
use Rattle.route_distances.specs.Ways.{AreWaysAlong, Ways}

-- the distances of a flight that isn't there
abbrev pub no_ways : Ways
no_ways = record { times = []; reached = [] }

abbrev pub ways_of : List Ways → ℕ → Ways
ways_of routes flight = slice_index_or routes flight no_ways

abbrev pub AreRoutesOf : Parts → List Ways → Type 0
AreRoutesOf parts routes = (flight : ℕ)
    → AreWaysAlong (legs_of (slice_get parts.flights flight)) (ways_of routes flight)

-- the distances of the first so many flights. No public clause cites this.
abbrev pub AreRoutesTo : Parts → ℕ → List Ways → Type 0
AreRoutesTo parts =
    AreEach (λ flight ways. AreWaysAlong (legs_of (slice_get parts.flights flight)) ways) no_ways
