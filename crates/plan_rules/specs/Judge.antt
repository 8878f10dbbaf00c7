-- What a verdict says.
use Rattle.std.specs.Prelude.{ℕ, zero, suc, ◌<◌, List, [], ◌∷◌, Option, ℤ}
use Rattle.std.specs.Option.{option_or}
use Rattle.flow_types.specs.declared.flight.Leg.{Leg}
use Rattle.flow_types.specs.declared.parts.Parts.{Parts}
use Rattle.flow_types.specs.declared.place.CapKind.TheVariants as kind
use Rattle.flow_types.specs.declared.plan.Stop.{Stop}
use Rattle.plan_rules.specs.Tally.{Tally}
use Rattle.plan_rules.specs.FirstBroken.{broken_turn, first_along, first_over}
use Rattle.plan_rules.specs.Loads.{arrival_at, departure_at, load_at}
use Rattle.plan_rules.specs.declared.broken.Broken.{Broken}
use Rattle.plan_rules.specs.declared.judging.Verdict.{Verdict}
use Rattle.plan_rules.specs.declared.judging.Verdict.TheVariants.{Keeps, Breaks}

-- a fact for each verdict
abbrev pub MatchVerdict : Verdict → (ℤ → Type 0) → (Broken → Type 0) → Type 0
MatchVerdict (Keeps cost) P Q = P cost
MatchVerdict (Breaks broken) P Q = Q broken

-- the leg leads to a higher node
abbrev pub IsUpward : Leg → Type 0
IsUpward leg = leg.from < leg.to

-- the first turnaround or capacity that the loads break
abbrev pub first_broken_load : Parts → Tally → Option Broken
first_broken_load parts loads =
    option_or (first_along (broken_turn (arrival_at loads) (departure_at loads)) parts.connections)
    (option_or (first_over parts kind.Dep (load_at loads kind.Dep))
    (option_or (first_over parts kind.Arr (load_at loads kind.Arr))
    (first_over parts kind.Sector (load_at loads kind.Sector))))

-- the first trips of a plan, and no stops for the other flights
abbrev pub first_trips : ℕ → List (List Stop) → List (List Stop)
first_trips n [] = []
first_trips zero (trip ∷ plan) = [] ∷ first_trips zero plan
first_trips (suc n) (trip ∷ plan) = trip ∷ first_trips n plan
