-- What is printed of a plan beside its claim, byte by byte: when each flight departs and arrives,
-- how late that is, and what its trip costs; which capacities are used up; and the sums of the
-- delays.
use Rattle.std.specs.Prelude.{◌≡◌, ℕ, zero, suc, ◌+◌, ◌-◌, ◌*◌, ◌==◌, ◌≤◌, List, [], ◌++◌, length, Option, None, Some, slice_get, slice_index_or, codes, ℤ, pos, ◌+ℤ◌, ◌-ℤ◌, if◌then◌else◌}
use Rattle.std.specs.Fmt.{decimal, signed_decimal}
use Rattle.exact_sums.specs.Lists.{all_below}
use Rattle.exact_sums.specs.Near.{IsNear}
use Rattle.flow_types.specs.declared.flight.Flight.{Flight}
use Rattle.flow_types.specs.declared.parts.Parts.{Parts}
use Rattle.flow_types.specs.declared.place.CapKind.{CapKind}
use Rattle.flow_types.specs.declared.place.CapKind.TheVariants as kind
use Rattle.flow_types.specs.declared.plan.Stop.{Stop}
use Rattle.flow_types.specs.Capacities.{capacity_of, has_kind}
use Rattle.flow_types.specs.Costs.{trip_cost_at}
use Rattle.flow_types.specs.Counts.{arrivals_at, departures_at, occupancy_at}
use Rattle.flow_types.specs.Trips.{arrival_of, departure_of}
use Rattle.text_records.specs.Lines.{field_text}
use Rattle.delay_report.specs.declared.delays.Delay.{Delay}
use Rattle.delay_report.specs.declared.delays.Flown.{Flown}
use Rattle.delay_report.specs.Claims.{Claimed}
use Rattle.delay_report.specs.Moments.{AreMoments}
use Rattle.delay_report.specs.Texts.{claim_text}
use Rattle.delay_report.specs.Verdicts.{flight_field, place_field}

-- no delay, and two delays together
abbrev pub no_delay : Delay
no_delay = record { ground = 0; airborne = pos 0 }

abbrev pub both_delays : Delay → Delay → Delay
both_delays first second = record {
  ground = first.ground + second.ground;
  airborne = first.airborne +ℤ second.airborne;
}

-- by how many minutes one period is past another
abbrev pub minutes_past : ℕ → ℕ → ℕ → ℕ
minutes_past minutes scheduled period = (period - scheduled) * minutes

-- How late a flight is that departs and arrives in these periods: on the ground what its departure
-- is past the scheduled one, and in the air what its arrival is later than that.
abbrev pub delay_between : ℕ → Flight → ℕ → ℕ → Delay
delay_between minutes flight departure arrival = record {
  ground = minutes_past minutes flight.sd departure;
  airborne = pos (minutes_past minutes flight.sa arrival)
      -ℤ pos (minutes_past minutes flight.sd departure);
}

-- a flight's times, how late they are, and what its trip costs; none without a flight or a stop
abbrev pub flown_at : ℕ → Option Flight → Option ℕ → Option ℕ → ℤ → Option Flown
flown_at minutes None departure arrival cost = None
flown_at minutes (Some flight) None arrival cost = None
flown_at minutes (Some flight) (Some departure) None cost = None
flown_at minutes (Some flight) (Some departure) (Some arrival) cost = Some (record {
  departure = departure;
  arrival = arrival;
  delay = delay_between minutes flight departure arrival;
  cost = cost;
})

-- the stops of the flight of that number
abbrev pub stops_in : List (List Stop) → ℕ → List Stop
stops_in plan number = slice_index_or plan number []

abbrev pub flown_in : Parts → List (List Stop) → ℕ → Option Flown
flown_in parts plan number =
    flown_at parts.day.minutes (slice_get parts.flights number)
    (departure_of (stops_in plan number)) (arrival_of (stops_in plan number))
    (trip_cost_at parts.tables (slice_get parts.flights number) (stops_in plan number))

-- the field of the moment at which a period begins
abbrev pub moment_field : List (List ℕ) → ℕ → List ℕ
moment_field moments period = field_text (slice_index_or moments period [])

-- the fields of a flight's times, each with how late it is
abbrev pub times_fields : List (List ℕ) → Flown → List ℕ
times_fields moments flown =
    moment_field moments flown.departure
    ++ (field_text (decimal flown.delay.ground)
    ++ (moment_field moments flown.arrival
    ++ field_text (signed_decimal flown.delay.airborne)))

-- the line of a flight
abbrev pub flown_text : List (List ℕ) → List ℕ → Option Flown → List ℕ
flown_text moments name None = []
flown_text moments name (Some flown) =
    codes "delay" ++ (name ++ (times_fields moments flown
    ++ (field_text (signed_decimal flown.cost) ++ codes "\n")))

abbrev pub delay_text : Parts → List (List ℕ) → List (List Stop) → ℕ → List ℕ
delay_text parts moments plan number =
    flown_text moments (flight_field parts number) (flown_in parts plan number)

-- the delays of the first n flights together
abbrev pub delay_told : Option Flown → Delay
delay_told None = no_delay
delay_told (Some flown) = flown.delay

abbrev pub delays_below : ℕ → Parts → List (List Stop) → Delay
delays_below zero parts plan = no_delay
delays_below (suc n) parts plan =
    both_delays (delays_below n parts plan) (delay_told (flown_in parts plan n))

-- so many delays of flights, each below 2^32 minutes, are no more together than this
pub record AreShort (n : ℕ) (delay : Delay) : Type 0 where
  pub ground : delay.ground ≤ 4294967296 * n
  pub airborne : IsNear (4294967296 * n) delay.airborne

-- the line of the sums
abbrev pub total_text : Delay → List ℕ
total_text delay =
    codes "total" ++ (field_text (decimal delay.ground)
    ++ (field_text (signed_decimal delay.airborne) ++ codes "\n"))

-- the word for what a capacity limits
abbrev pub kind_word : CapKind → List ℕ
kind_word kind.Dep = codes "dep"
kind_word kind.Arr = codes "arr"
kind_word kind.Sector = codes "sector"

-- how many flights of the plan it counts
abbrev pub count_of : CapKind → Parts → List (List Stop) → ℕ → ℕ → ℕ
count_of kind.Dep parts plan place period = departures_at parts.flights plan place period
count_of kind.Arr parts plan place period = arrivals_at parts.flights plan place period
count_of kind.Sector parts plan place period = occupancy_at parts.flights plan place period

-- the fields of a period: its number, and the moment at which it begins
abbrev pub period_fields : List (List ℕ) → ℕ → List ℕ
period_fields moments period = field_text (decimal period) ++ moment_field moments period

-- the line of a capacity that is used up: what it limits, where, when, and how much it is
abbrev pub full_line : Parts → List (List ℕ) → CapKind → ℕ → ℕ → List ℕ
full_line parts moments kind place period =
    codes "full" ++ (field_text (kind_word kind) ++ (place_field parts place
    ++ (period_fields moments period
    ++ (field_text (decimal (capacity_of parts.places kind place period)) ++ codes "\n"))))

-- where so many are counted, each place and period whose count is its capacity of this kind
abbrev pub full_text : Parts → List (List ℕ) → CapKind → (ℕ → ℕ → ℕ) → ℕ → ℕ → List ℕ
full_text parts moments kind count place period =
    if count place period == capacity_of parts.places kind place period
    then full_line parts moments kind place period else []

abbrev pub full_at : Parts → List (List ℕ) → CapKind → (ℕ → ℕ → ℕ) → ℕ → List ℕ
full_at parts moments kind count place =
    if has_kind kind (slice_get parts.places place)
    then all_below parts.day.periods (full_text parts moments kind count place) else []

abbrev pub full_texts : Parts → List (List ℕ) → CapKind → (ℕ → ℕ → ℕ) → List ℕ
full_texts parts moments kind count =
    all_below (length parts.places) (full_at parts moments kind count)

-- the lines of the plan's full capacities, by what they limit
abbrev pub all_full : Parts → List (List ℕ) → (CapKind → ℕ → ℕ → ℕ) → List ℕ
all_full parts moments count =
    full_texts parts moments kind.Dep (count kind.Dep)
    ++ (full_texts parts moments kind.Arr (count kind.Arr)
    ++ full_texts parts moments kind.Sector (count kind.Sector))

-- all lines of a plan: those of its flights, those of the capacities that it uses up, and the sums
abbrev pub delays_text : Parts → List (List ℕ) → List (List Stop) → List ℕ
delays_text parts moments plan =
    all_below (length parts.flights) (delay_text parts moments plan)
    ++ (all_full parts moments (λ kind. count_of kind parts plan)
    ++ total_text (delays_below (length parts.flights) parts plan))

abbrev pub delays_told : Parts → List (List ℕ) → Option (List (List Stop)) → List ℕ
delays_told parts moments None = []
delays_told parts moments (Some plan) = delays_text parts moments plan

-- The text explains the claim: its four lines, and those of its plan, with the day's moments.
pub record IsExplained (parts : Parts) (claimed : Claimed) (text : List ℕ) : Type 0 where
  pub moments : List (List ℕ)
  pub civil : AreMoments parts.day moments
  pub bytes : text ≡ claim_text claimed.cost claimed.bound claimed.nodes
      ++ delays_told parts moments claimed.plan
