-- What is printed of a claim, byte by byte.
use Rattle.std.specs.Prelude.{ℕ, ◌<◌, ◌^◌, List, [], ◌∷◌, ◌++◌, Option, None, Some, codes, ℤ, option_map}
use lib.Signed.{mag}
use Rattle.std.specs.Fmt.{decimal, signed_decimal}
use Rattle.flow_types.specs.declared.bound.Bound.{Bound}
use Rattle.flow_types.specs.declared.bound.Bound.TheVariants.{AtLeast, NoPlan}
use Rattle.flow_types.specs.declared.flight.Flight.{Flight}
use Rattle.flow_types.specs.declared.parts.Parts.{Parts}
use Rattle.flow_types.specs.declared.place.Place.{Place}
use Rattle.flow_types.specs.declared.plan.Stop.{Stop}
use Rattle.flow_types.specs.Costs.{plan_cost}
use Rattle.plan_text.specs.Lines.{trip_text}
use Rattle.text_records.specs.Lines.{line_text}
use Rattle.delay_report.specs.Claims.{outcome_of}
use Rattle.delay_report.specs.declared.claim.Outcome.{Outcome}
use Rattle.delay_report.specs.declared.claim.Outcome.TheVariants.{Infeasible, Open, Optimal}

-- the word for an outcome
abbrev pub outcome_word : Outcome → List ℕ
outcome_word Optimal = codes "optimal"
outcome_word Infeasible = codes "infeasible"
outcome_word Open = codes "open"

-- a cost, or that there is no plan; a bound, or that there is none
abbrev pub cost_word : Option ℤ → List ℕ
cost_word None = codes "none"
cost_word (Some cost) = signed_decimal cost

abbrev pub bound_word : Bound → List ℕ
bound_word NoPlan = codes "none"
bound_word (AtLeast least) = signed_decimal least

-- four lines: the status, the cost, the bound, and how many nodes the tree has
abbrev pub claim_text : Option ℤ → Bound → ℕ → List ℕ
claim_text cost bound nodes =
    line_text (codes "status,") (outcome_word (outcome_of cost bound))
    ++ (line_text (codes "cost,") (cost_word cost)
    ++ (line_text (codes "bound,") (bound_word bound)
    ++ line_text (codes "nodes,") (decimal nodes)))

-- a line for the trip of each flight
abbrev pub trips_text : List Place → List Flight → List (List Stop) → List ℕ
trips_text places flights [] = []
trips_text places [] (trip ∷ plan) = []
trips_text places (flight ∷ flights) (trip ∷ plan) =
    trip_text places flight trip ++ trips_text places flights plan

abbrev pub plan_text : Parts → Option (List (List Stop)) → List ℕ
plan_text parts None = []
plan_text parts (Some plan) = trips_text parts.places parts.flights plan

-- the claim, and the trips where there is a plan
abbrev pub report_text : Parts → Option (List (List Stop)) → Bound → ℕ → List ℕ
report_text parts plan bound nodes =
    claim_text (option_map (plan_cost parts.tables parts.flights) plan) bound nodes
    ++ plan_text parts plan

-- a number of 128 bits, one of them for its sign
abbrev pub IsShort : ℤ → Type 0
IsShort number = mag number < 2 ^ 127

abbrev pub IsShortBound : Bound → Type 0
IsShortBound NoPlan = Unit {0}
IsShortBound (AtLeast least) = IsShort least
