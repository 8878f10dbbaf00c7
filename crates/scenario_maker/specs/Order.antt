-- In which order the legs of a flight have to stand, so that each is known when it is read.
use Rattle.std.specs.Prelude.{◌==◌, Bool, true, ◌&&◌, ◌||◌, not, List, [], ◌∷◌, ◌++◌, IsTrue, All}
use Rattle.flow_types.specs.declared.flight.Flight.{Flight}
use Rattle.flow_types.specs.declared.flight.Leg.{Leg}
use Rattle.flow_types.specs.Routes.{is_entered, is_left}

-- the leg starts at the origin or where a leg before it leads, and leads to no node from which a
-- leg before it starts
abbrev pub follows : List Leg → Leg → Bool
follows before leg = (leg.from == 0 || is_entered before leg.from) && not (is_left before leg.to)

-- so does each leg after these
abbrev pub all_follow : List Leg → List Leg → Bool
all_follow before [] = true
all_follow before (leg ∷ legs) = follows before leg && all_follow (before ++ leg ∷ []) legs

-- the legs of each flight can be read one after the other
abbrev pub AreInOrder : List Flight → Type 0
AreInOrder flights = All (λ flight. IsTrue (all_follow [] flight.legs)) flights
