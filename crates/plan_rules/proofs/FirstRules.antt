-- The rule that is found is broken, and it is the first.
use Rattle.std.proofs.Common.{◌≡◌, ◌⊎◌, ℕ, suc, zero, ◌+◌, ◌<◌, ◌≤◌, ◌==◌, Bool, true, false, ◌&&◌, cond, nat_le, List, [], ◌∷◌, length, drop, get_or, slice_get, Option, Some, None, option_and_then, IsTrue, refl, sym, ap, ◌∙◌, subst, inl, inr, add-one, arith}
use Rattle.std.proofs.lemmas.Bool.{cases_lt, false≢true}
use Rattle.std.proofs.lemmas.Bool.Decides.{nat_tests}
use Rattle.std.proofs.lemmas.Option.{slice_get-get_or, slice_get_within}
use Rattle.std.specs.List.{Any, find}
use Rattle.std.specs.Option.{option_or}
use Rattle.flow_types.specs.declared.flight.Flight.{Flight}
use Rattle.flow_types.specs.declared.flight.Leg.{Leg}
use Rattle.flow_types.specs.declared.parts.Parts.{Parts}
use Rattle.flow_types.specs.declared.place.CapKind.{CapKind}
use Rattle.flow_types.specs.declared.place.CapKind.TheVariants as kind
use Rattle.flow_types.specs.declared.plan.Stop.{Stop}
use Rattle.flow_types.specs.Capacities.{capacity_of, has_kind}
use Rattle.flow_types.specs.Counts.{arrivals_at, departures_at, occupancy_at}
use Rattle.flow_types.specs.Feasible.{AreTrips}
use Rattle.flow_types.specs.Trips.{IsStep, IsWithinHours}
use Rattle.plan_rules.specs.BrokenRules.{AreTripsBefore, IsFirstBroken, IsOver, IsTooLong, Joins, KeepsKindBefore, KeepsStops, stop_at}
use Rattle.plan_rules.specs.FirstBroken.{arrival_in, broken_capacity, broken_number, broken_onward, broken_step, broken_times, broken_trip, broken_trip_in, broken_turn, broken_window, departure_in, first_along, first_below, first_broken, first_over, first_over_in, found_at, is_within_hours, leg_between, over, unless}
use Rattle.plan_rules.specs.declared.broken.Broken.{Broken}
use Rattle.plan_rules.specs.declared.broken.Broken.TheVariants as broken
use Rattle.plan_rules.proofs.BrokenPlans.{over_from, times_from, turns_from}
use Rattle.plan_rules.proofs.BrokenTrips.{step_from, trip_from, trips_from, window_from, window_to}
use Rattle.plan_rules.proofs.FirstFacts.{first_below-at, unless_none}

-- where something is found, by what it is found
or_breaks : (P : Broken → Type 0) (a b : Option Broken) (rule : Broken) → option_or a b ≡ Some rule
    → (a ≡ Some rule → P rule) → (a ≡ None → b ≡ Some rule → P rule) → P rule
or_breaks P None b rule found first then = then refl found
or_breaks P (Some x) b rule found first then = first found

unless_breaks : (P : Broken → Type 0) (test : Bool) (told rule : Broken)
    → unless test told ≡ Some rule → (test ≡ false → P told) → P rule
unless_breaks P true told rule found fails = cc
unless_breaks P false told rule found fails =
    let same : told ≡ rule = cc in subst P same (fails refl)

below_breaks : (P : Broken → Type 0) (n : ℕ) (find : ℕ → Option Broken) (rule : Broken)
    → first_below n find ≡ Some rule
    → ((k : ℕ) → k < n → first_below k find ≡ None → find k ≡ Some rule → P rule) → P rule
below_breaks P zero find rule found each = cc
below_breaks P (suc n) find rule found each =
    or_breaks P (first_below n find) (find n) rule found
    (λ earlier. below_breaks P n find rule earlier
    (λ k less none here. each k (omega arith) none here))
    (λ none here. each n (omega arith) none here)

item_breaks : {A : Type 0} (P : Broken → Type 0) (find : ℕ → A
    → Option Broken) (k : ℕ) (item : Option A) (rule : Broken)
    → option_and_then (find k) item ≡ Some rule
    → ((here : A) → item ≡ Some here → find k here ≡ Some rule → P rule) → P rule
item_breaks P find k None rule found each = cc
item_breaks P find k (Some item) rule found each = each item refl found

along_breaks : {A : Type 0} (P : Broken → Type 0) (find : ℕ → A
    → Option Broken) (items : List A) (rule : Broken) → first_along find items ≡ Some rule
    → ((k : ℕ) (item : A) → slice_get items k ≡ Some item
    → first_below k (found_at find items) ≡ None → find k item ≡ Some rule → P rule) → P rule
along_breaks P find items rule found each =
    below_breaks P (length items) (found_at find items) rule found
    (λ k within none here. item_breaks P find k (slice_get items k) rule here
    (λ item is some. each k item is none some))

-- nothing was found of an item before
before_none : {A : Type 0} (find : ℕ → A → Option Broken) (items : List A) (n k : ℕ) (item : A)
    → first_below n (found_at find items) ≡ None → k < n → slice_get items k ≡ Some item
    → find k item ≡ None
before_none find items n k item none less is =
    ap (option_and_then (find k)) (sym is) ∙ first_below-at n (found_at find items) none k less

-- the stops from one on
drop_here : (xs : List Stop) (n : ℕ) (stop : Stop) (rest : List Stop) → drop n xs ≡ stop ∷ rest
    → slice_get xs n ≡ Some stop
drop_here [] zero stop rest is = cc
drop_here [] (suc n) stop rest is = cc
drop_here (x ∷ xs) zero stop rest is = cc
drop_here (x ∷ xs) (suc n) stop rest is = drop_here xs n stop rest is

drop_next : (xs : List Stop) (n : ℕ) (stop : Stop) (rest : List Stop) → drop n xs ≡ stop ∷ rest
    → drop (suc n) xs ≡ rest
drop_next [] zero stop rest is = cc
drop_next [] (suc n) stop rest is = cc
drop_next (x ∷ xs) zero stop rest is = cc
drop_next (x ∷ xs) (suc n) stop rest is = drop_next xs n stop rest is

drop_end : (xs : List Stop) (n : ℕ) → drop n xs ≡ [] → slice_get xs n ≡ None
drop_end [] zero is = refl
drop_end [] (suc n) is = refl
drop_end (x ∷ xs) zero is = cc
drop_end (x ∷ xs) (suc n) is = drop_end xs n is

-- no leg is found, or one that is
no_leg_by : (stop next : Stop) (first : Leg) (legs : List Leg) (test : Bool)
    → ((first.from == stop.node) && (first.to == next.node)) ≡ test
    → cond test (Some first) (leg_between legs stop.node next.node) ≡ None
    → (k : ℕ) (leg : Leg) → k < suc (length legs) → get_or (first ∷ legs) k leg ≡ leg
    → Joins stop next leg
    → (leg_between legs stop.node next.node ≡ None → Any (Joins stop next) legs → ⊥) → ⊥
no_leg_by stop next first legs true is none k leg within here joins more = cc
no_leg_by stop next first legs false is none zero leg within here joins more =
    let from : first.from ≡ stop.node = ap (λ (l : Leg). l.from) here ∙ joins.from in
    let to : first.to ≡ next.node = ap (λ (l : Leg). l.to) here ∙ joins.to in
    grind (arith, nat_tests)
no_leg_by stop next first legs false is none (suc k) leg within here joins more =
    more none (k, leg, omega arith, here, joins)

no_leg : (stop next : Stop) (legs : List Leg) → leg_between legs stop.node next.node ≡ None
    → Any (Joins stop next) legs → ⊥
no_leg stop next [] none some = absurd (omega (arith, some.2))
no_leg stop next (first ∷ legs) none some =
    no_leg_by stop next first legs
    ((first.from == stop.node)
    && (first.to == next.node)) refl none some.0 some.1 some.2 some.3 some.4
    (no_leg stop next legs)

one_leg : (stop next : Stop) (first leg : Leg) (legs : List Leg) (test : Bool)
    → ((first.from == stop.node) && (first.to == next.node)) ≡ test
    → cond test (Some first) (leg_between legs stop.node next.node) ≡ Some leg
    → next.time < stop.time + leg.least
    → (leg_between legs stop.node next.node ≡ Some leg → Any (IsTooLong stop next leg.least) legs)
    → Any (IsTooLong stop next leg.least) (first ∷ legs)
one_leg stop next first leg legs true is found late more =
    let same : first ≡ leg = cc in
    let from : first.from ≡ stop.node = grind (arith, nat_tests) in
    let to : first.to ≡ next.node = grind (arith, nat_tests) in (
      0,
      first,
      omega arith,
      refl,
      record {
        joins = record { from = from; to = to };
        takes = ap (λ (l : Leg). l.least) same;
        late = late;
      },
    )
one_leg stop next first leg legs false is found late more =
    let some = more found in (suc some.0, some.1, omega (arith, some.2), some.3, some.4)

a_leg : (stop next : Stop) (leg : Leg) (legs : List Leg)
    → leg_between legs stop.node next.node ≡ Some leg → next.time < stop.time + leg.least
    → Any (IsTooLong stop next leg.least) legs
a_leg stop next leg [] found late = cc
a_leg stop next leg (first ∷ legs) found late =
    one_leg stop next first leg legs
    ((first.from == stop.node) && (first.to == next.node)) refl found late
    (λ more. a_leg stop next leg legs more late)

late_by : (a b : ℕ) → nat_le a b ≡ false → b < a
late_by a b test = grind (arith, nat_tests)

-- one position is before the end
end_by : (trip : List Stop) (n i : ℕ) (stop : Stop) → slice_get trip n ≡ None → i < length trip
    → (n < length trip) ⊎ (length trip ≤ n) → i < n
end_by trip n i stop ends within (inl less) =
    let there = slice_get-get_or trip n stop less in cc
end_by trip n i stop ends within (inr past) = omega arith

below_end : (trip : List Stop) (n i : ℕ) (stop : Stop) → slice_get trip n ≡ None
    → slice_get trip i ≡ Some stop → i < n
below_end trip n i stop ends is =
    end_by trip n i stop ends (slice_get_within trip i stop is) (cases_lt n (length trip))

-- One trip, whose flight and stops are those of a number.
module _ (parts : Parts) (plan : List (List Stop)) (number : ℕ) (flight : Flight) (trip : List Stop)
    (flight_is : slice_get parts.flights number ≡ Some flight)
    (trip_is : slice_get plan number ≡ Some trip)
    (before : AreTripsBefore parts plan number) where
  at_stop : (place : ℕ) (stop : Stop) → slice_get trip place ≡ Some stop
      → stop_at plan number place ≡ Some stop
  at_stop place stop is = ap (option_and_then (λ stops. slice_get stops place)) trip_is ∙ is

  of_stop : (place : ℕ) (stop : Stop) → stop_at plan number place ≡ Some stop
      → slice_get trip place ≡ Some stop
  of_stop place stop is = ap (option_and_then (λ stops. slice_get stops place)) (sym trip_is) ∙ is

  no_stop : (place : ℕ) → slice_get trip place ≡ None → stop_at plan number place ≡ None
  no_stop place is = ap (option_and_then (λ stops. slice_get stops place)) trip_is ∙ is

  the_flight : (other : Flight) → slice_get parts.flights number ≡ Some other → flight ≡ other
  the_flight other is = cc

  -- what is kept up to a stop
  record Kept (stops steps : ℕ) : Type 0 where
    start : (stop : Stop) → slice_get trip 0 ≡ Some stop → stop.node ≡ 0
    hours : (i : ℕ) (stop : Stop) → i < stops → slice_get trip i ≡ Some stop
        → IsWithinHours parts.day.periods flight stop
    legs : (i : ℕ) (stop next : Stop) → i < steps → slice_get trip i ≡ Some stop
        → slice_get trip (i + 1) ≡ Some next → IsStep flight.legs stop next

  kept : (stops steps : ℕ) → Kept stops steps → KeepsStops parts plan number stops steps
  kept stops steps so_far = record {
    start = λ stop is. so_far.start stop (of_stop 0 stop is);
    hours = λ i other stop less other_is is. subst
        (λ (f : Flight). IsWithinHours parts.day.periods f stop) (the_flight other other_is)
        (so_far.hours i stop less (of_stop i stop is));
    legs = λ i other stop next less other_is is next_is. subst
        (λ (f : Flight). IsStep f.legs stop next) (the_flight other other_is)
        (so_far.legs i stop next less (of_stop i stop is) (of_stop (i + 1) next next_is));
  }

  one_hour : (n i : ℕ) (stop last : Stop) → (n ≡ i) ⊎ (i < n) → slice_get trip n ≡ Some last
      → IsWithinHours parts.day.periods flight last → slice_get trip i ≡ Some stop
      → (i < n → IsWithinHours parts.day.periods flight stop)
      → IsWithinHours parts.day.periods flight stop
  one_hour n i stop last (inl same) last_is hours is earlier =
      let here : slice_get trip n ≡ Some stop =
      subst (λ (j : ℕ). slice_get trip j ≡ Some stop) (sym same) is in
      let stops : last ≡ stop = cc in subst (IsWithinHours parts.day.periods flight) stops hours
  one_hour n i stop last (inr less) last_is hours is earlier = earlier less

  one_leg_more : (n i : ℕ) (stop next from to : Stop) → (n ≡ i) ⊎ (i < n)
      → slice_get trip n ≡ Some from → slice_get trip (n + 1) ≡ Some to → IsStep flight.legs from to
      → slice_get trip i ≡ Some stop → slice_get trip (i + 1) ≡ Some next
      → (i < n → IsStep flight.legs stop next) → IsStep flight.legs stop next
  one_leg_more n i stop next from to (inl same) from_is to_is step is next_is earlier =
      let here : slice_get trip n ≡ Some stop =
      subst (λ (j : ℕ). slice_get trip j ≡ Some stop) (sym same) is in
      let there : slice_get trip (n + 1) ≡ Some next =
      subst (λ (j : ℕ). slice_get trip (j + 1) ≡ Some next) (sym same) next_is in
      let stops : from ≡ stop = cc in
      let nexts : to ≡ next = cc in
      subst (λ (s : Stop). IsStep flight.legs s next) stops
      (subst (λ (s : Stop). IsStep flight.legs from s) nexts step)
  one_leg_more n i stop next from to (inr less) from_is to_is step is next_is earlier = earlier less

  same_or_less : (n i : ℕ) → i < n + 1 → (i < n) ⊎ (n ≤ i) → (n ≡ i) ⊎ (i < n)
  same_or_less n i within (inl less) = inr less
  same_or_less n i within (inr past) = inl (omega arith)

  hour_more : (stops steps : ℕ) (last : Stop) → Kept stops steps → slice_get trip stops ≡ Some last
      → IsWithinHours parts.day.periods flight last → Kept (stops + 1) steps
  hour_more stops steps last so_far last_is hours = record {
    start = so_far.start;
    hours = λ i stop less is. one_hour stops i stop last
        (same_or_less stops i less (cases_lt i stops)) last_is hours is
        (λ earlier. so_far.hours i stop earlier is);
    legs = so_far.legs;
  }

  leg_more : (stops steps : ℕ) (from to : Stop) → Kept stops steps
      → slice_get trip steps ≡ Some from → slice_get trip (steps + 1) ≡ Some to
      → IsStep flight.legs from to → Kept stops (steps + 1)
  leg_more stops steps from to so_far from_is to_is step = record {
    start = so_far.start;
    hours = so_far.hours;
    legs = λ i stop next less is next_is. one_leg_more steps i stop next from to
        (same_or_less steps i less (cases_lt i steps)) from_is to_is step is next_is
        (λ earlier. so_far.legs i stop next earlier is next_is);
  }

  -- the whole trip is kept
  kept_all : (last : ℕ) → Kept (last + 1) last → slice_get trip (last + 1) ≡ None → (n : ℕ)
      → Kept n n
  kept_all last so_far ends n = record {
    start = so_far.start;
    hours = λ i stop less is. so_far.hours i stop (below_end trip (last + 1) i stop ends is) is;
    legs = λ i stop next less is next_is. so_far.legs i stop next (let past =
        below_end trip (last + 1) (i + 1) next ends next_is in omega arith) is next_is;
  }

  step_breaks : (place : ℕ) (stop next : Stop) (leg : Option Leg) (rule : Broken)
      → slice_get trip place ≡ Some stop → slice_get trip (place + 1) ≡ Some next
      → Kept (place + 1) place
      → leg_between flight.legs stop.node next.node ≡ leg
      → broken_step number place stop next leg ≡ Some rule → IsFirstBroken parts plan rule
  step_breaks place stop next None rule stop_is next_is so_far leg_is found =
      let same : broken.NoLeg number place ≡ rule = cc in
      subst (IsFirstBroken parts plan) same (
        (before, kept (place + 1) place so_far),
        (
          flight,
          stop,
          flight_is,
          at_stop place stop stop_is,
          (next, at_stop (place + 1) next next_is, no_leg stop next flight.legs leg_is),
        ),
      )
  step_breaks place stop next (Some leg) rule stop_is next_is so_far leg_is found =
      unless_breaks (IsFirstBroken parts plan) (nat_le (stop.time + leg.least) next.time)
      (broken.Least number place leg.least) rule found
      (λ late. (
        (before, kept (place + 1) place so_far),
        (
          flight,
          stop,
          flight_is,
          at_stop place stop stop_is,
          (
            next,
            at_stop (place + 1) next next_is,
            a_leg stop next leg flight.legs leg_is (late_by (stop.time + leg.least) next.time late),
          ),
        ),
      ))

  window_breaks : (place : ℕ) (stop : Stop) (rule : Broken) → slice_get trip place ≡ Some stop
      → Kept place place → broken_window parts.day.periods number flight place stop ≡ Some rule
      → IsFirstBroken parts plan rule
  window_breaks place stop rule stop_is so_far found =
      unless_breaks (IsFirstBroken parts plan) (is_within_hours parts.day.periods flight stop)
      (broken.Window number place) rule found
      (λ outside. (
        (before, kept place place so_far),
        (
          flight,
          stop,
          flight_is,
          at_stop place stop stop_is,
          λ hours. let none = window_to parts.day.periods number flight place stop hours in
              let holds = unless_none (is_within_hours parts.day.periods flight stop)
              (broken.Window number place) none in false≢true (sym outside ∙ holds),
        ),
      ))

  onward_breaks : (place : ℕ) (stop : Stop) (rest : List Stop) (rule : Broken)
      → drop place trip ≡ stop ∷ rest → Kept (place + 1) place
      → broken_onward parts.day.periods number flight place stop rest ≡ Some rule
      → IsFirstBroken parts plan rule
  onward_breaks place stop [] rule is so_far found =
      let ends : slice_get trip (place + 1) ≡ None =
      rw add-one (drop_end trip (suc place) (drop_next trip place stop [] is)) in
      unless_breaks (IsFirstBroken parts plan) (stop.node + 1 == length flight.nodes)
      (broken.Ending number) rule found
      (λ other. (
        (before, λ n. kept n n (kept_all place so_far ends n)),
        (
          place,
          (
            flight,
            stop,
            flight_is,
            at_stop place stop (drop_here trip place stop [] is),
            (no_stop (place + 1) ends, λ same. grind (arith, nat_tests)),
          ),
        ),
      ))
  onward_breaks place stop (next ∷ rest) rule is so_far found =
      let here = drop_here trip place stop (next ∷ rest) is in
      let on : drop (place + 1) trip ≡ next ∷ rest =
      rw add-one (drop_next trip place stop (next ∷ rest) is) in
      let there = drop_here trip (place + 1) next rest on in
      or_breaks (IsFirstBroken parts plan)
      (broken_step number place stop next (leg_between flight.legs stop.node next.node)) _ rule
      found
      (λ broken. step_breaks place stop next
      (leg_between flight.legs stop.node next.node) rule here there so_far refl broken)
      (λ stepped more.
      let so_long = leg_more (place + 1) place stop next so_far here there
      (step_from number place stop next flight.legs stepped) in
      or_breaks (IsFirstBroken parts plan)
      (broken_window parts.day.periods number flight (place + 1) next) _ rule more
      (λ broken. window_breaks (place + 1) next rule there so_long broken)
      (λ inside rest_broken. onward_breaks (place + 1) next rest rule on
      (hour_more (place + 1) (place + 1) next so_long there
      (window_from parts.day.periods number flight (place + 1) next inside)) rest_broken))

  nothing_kept : (stop : Stop) → slice_get trip 0 ≡ Some stop → stop.node ≡ 0 → Kept 0 0
  nothing_kept stop stop_is zeroth = record {
    start = λ other is. let same : stop ≡ other = cc in
        subst (λ (s : Stop). s.node ≡ 0) same zeroth;
    hours = λ i other less is. absurd (omega arith);
    legs = λ i other next less is next_is. absurd (omega arith);
  }

  trip_breaks : (stops : List Stop) (rule : Broken) → trip ≡ stops
      → broken_trip parts.day.periods number flight stops ≡ Some rule
      → IsFirstBroken parts plan rule
  trip_breaks [] rule same found =
      let start : broken.Start number ≡ rule = cc in
      let none : slice_get trip 0 ≡ None = ap (λ stops. slice_get stops 0) same in
      subst (IsFirstBroken parts plan) start (
        before,
        (
          slice_get_within parts.flights number flight flight_is,
          λ stop is zeroth. let some =
              of_stop 0 stop is in cc,
        ),
      )
  trip_breaks (stop ∷ rest) rule same found =
      let first : slice_get trip 0 ≡ Some stop = ap (λ stops. slice_get stops 0) same in
      let all : drop 0 trip ≡ stop ∷ rest = ap (drop 0) same in
      or_breaks (IsFirstBroken parts plan)
      (unless (stop.node == 0) (broken.Start number)) _ rule found
      (λ off. unless_breaks (IsFirstBroken parts plan) (stop.node == 0)
      (broken.Start number) rule off
      (λ test. (
        before,
        (
          slice_get_within parts.flights number flight flight_is,
          λ other is zeroth. let some = of_stop 0 other is in let one : stop ≡ other = cc in
              let zero_too : stop.node ≡ 0 = subst (λ (s : Stop). s.node ≡ 0) (sym one) zeroth in
              grind (arith, nat_tests),
        ),
      )))
      (λ started more.
      let test = unless_none (stop.node == 0) (broken.Start number) started in
      let none_yet = nothing_kept stop first (grind (arith, nat_tests)) in
      or_breaks (IsFirstBroken parts plan)
      (broken_window parts.day.periods number flight 0 stop) _ rule more
      (λ outside. window_breaks 0 stop rule first none_yet outside)
      (λ inside rest_broken. onward_breaks 0 stop rest rule all
      (hour_more 0 0 stop none_yet first
      (window_from parts.day.periods number flight 0 stop inside)) rest_broken))

-- the trips
trips_break : (parts : Parts) (plan : List (List Stop)) (rule : Broken)
    → length plan ≡ length parts.flights
    → first_along (broken_trip_in parts.day.periods plan) parts.flights ≡ Some rule
    → IsFirstBroken parts plan rule
trips_break parts plan rule same found =
    along_breaks (IsFirstBroken parts plan)
    (broken_trip_in parts.day.periods plan) parts.flights rule found
    (λ k flight is none some.
    let within = slice_get_within parts.flights k flight is in
    trip_breaks parts plan k flight (get_or plan k []) is (slice_get-get_or plan k [] (omega arith))
    (record {
      as_many = same;
      trips = λ j other less other_is. trip_from parts.day.periods j other (get_or plan j [])
          (before_none (broken_trip_in parts.day.periods plan) parts.flights k j other none less
          other_is);
    })
    (get_or plan k []) rule refl some)

-- the turnarounds
times_break : (P : Broken
    → Type 0) (number turnaround : ℕ) (arrival departure : Option ℕ) (rule : Broken)
    → broken_times number turnaround arrival departure ≡ Some rule
    → ((arrives leaves : ℕ) → arrival ≡ Some arrives → departure ≡ Some leaves
    → leaves < arrives + turnaround → P (broken.Turn number arrives leaves)) → P rule
times_break P number turnaround None departure rule found each = cc
times_break P number turnaround (Some arrives) None rule found each = cc
times_break P number turnaround (Some arrives) (Some leaves) rule found each =
    unless_breaks P (nat_le (arrives + turnaround) leaves)
    (broken.Turn number arrives leaves) rule found
    (λ test. each arrives leaves refl refl (late_by (arrives + turnaround) leaves test))

turns_break : (parts : Parts) (plan : List (List Stop)) (rule : Broken)
    → AreTrips parts.day.periods parts.flights plan
    → first_along (broken_turn (arrival_in plan) (departure_in plan)) parts.connections ≡ Some rule
    → IsFirstBroken parts plan rule
turns_break parts plan rule trips found =
    along_breaks (IsFirstBroken parts plan)
    (broken_turn (arrival_in plan) (departure_in plan)) parts.connections rule found
    (λ k connection is none some.
    times_break (IsFirstBroken parts plan) k connection.turnaround
    (arrival_in plan connection.first) (departure_in plan connection.second) rule some
    (λ arrives leaves arrives_is leaves_is soon. (
      (
        trips,
        λ j other less other_is a l a_is l_is. times_from j other.turnaround a l
            (arrival_in plan other.first) (departure_in plan other.second)
            (before_none (broken_turn (arrival_in plan) (departure_in plan)) parts.connections k j
            other none less other_is) a_is l_is,
      ),
      (connection, is, record { arrival = arrives_is; departure = leaves_is; soon = soon }),
    )))

-- the capacities of a kind
capacity_fits : (parts : Parts) (kind : CapKind) (load : ℕ → ℕ → ℕ) (k t : ℕ)
    → broken_capacity parts kind load k t ≡ None → load k t ≤ capacity_of parts.places kind k t
capacity_fits parts kind load k t none =
    let capacity = capacity_of parts.places kind k t in
    let test = unless_none (nat_le (load k t) capacity) (over kind k t (load k t) capacity) none in
    grind (arith, nat_tests)

place_breaks : (P : Broken → Type 0) (test : Bool) (found : Option Broken) (rule : Broken)
    → cond test found None ≡ Some rule → (test ≡ true → found ≡ Some rule → P rule) → P rule
place_breaks P true found rule some each = each refl some
place_breaks P false found rule some each = cc

fits_before : (parts : Parts) (kind : CapKind) (load : ℕ → ℕ → ℕ) (place period : ℕ)
    → first_below place (first_over_in parts kind load) ≡ None
    → first_below period (broken_capacity parts kind load place) ≡ None
    → (k t : ℕ) → IsTrue (has_kind kind (slice_get parts.places k)) → t < parts.day.periods
    → (k < place) ⊎ ((k ≡ place) × (t < period)) → load k t ≤ capacity_of parts.places kind k t
fits_before parts kind load place period places periods k t has t_in (inl less) =
    let here = first_below-at place (first_over_in parts kind load) places k less in
    let none : first_below parts.day.periods (broken_capacity parts kind load k) ≡ None =
    rw has at here in
    capacity_fits parts kind load k t
    (first_below-at parts.day.periods (broken_capacity parts kind load k) none t t_in)
fits_before parts kind load place period places periods k t has t_in (inr (same, less)) =
    capacity_fits parts kind load k t
    (subst (λ (j : ℕ). broken_capacity parts kind load j t ≡ None) (sym same)
    (first_below-at period (broken_capacity parts kind load place) periods t less))

over_breaks : (P : Broken → Type 0) (parts : Parts) (kind : CapKind) (load : ℕ → ℕ
    → ℕ) (rule : Broken) → first_over parts kind load ≡ Some rule
    → ((place period : ℕ) → KeepsKindBefore parts kind load place period
    → IsOver parts kind load place period (load place period)
    (capacity_of parts.places kind place period)
    → P (over kind place period (load place period) (capacity_of parts.places kind place period)))
    → P rule
over_breaks P parts kind load rule found each =
    below_breaks P (length parts.places) (first_over_in parts kind load) rule found
    (λ k within places some. place_breaks P (has_kind kind (slice_get parts.places k))
    (first_below parts.day.periods (broken_capacity parts kind load k)) rule some
    (λ has here. below_breaks P parts.day.periods (broken_capacity parts kind load k) rule here
    (λ t t_in periods there. let capacity = capacity_of parts.places kind k t in
    unless_breaks P (nat_le (load k t) capacity) (over kind k t (load k t) capacity) rule there
    (λ test. each k t (fits_before parts kind load k t places periods)
    (record {
      place_has = has;
      within = t_in;
      load_is = refl;
      capacity_is = refl;
      over = late_by (load k t) capacity test;
    })))))

-- The rule that is found is broken, and it is the first.
pub first_rule : (parts : Parts) (plan : List (List Stop)) (rule : Broken)
    → first_broken parts plan ≡ Some rule → IsFirstBroken parts plan rule
first_rule parts plan rule found =
    let departs = departures_at parts.flights plan in
    let arrives = arrivals_at parts.flights plan in
    let inside = occupancy_at parts.flights plan in
    let P = IsFirstBroken parts plan in
    or_breaks P (broken_number (length plan) (length parts.flights)) _ rule found
    (λ some. unless_breaks P (length plan == length parts.flights)
    (broken.Trips (length plan) (length parts.flights)) rule some
    (λ test. (tt, (refl, refl, λ same. grind (arith, nat_tests)))))
    (λ number rest.
    let test = unless_none (length plan == length parts.flights)
    (broken.Trips (length plan) (length parts.flights)) number in
    let same : length plan ≡ length parts.flights = grind (arith, nat_tests) in
    or_breaks P (first_along (broken_trip_in parts.day.periods plan) parts.flights) _ rule rest
    (trips_break parts plan rule same)
    (λ no_trip rest_2.
    let trips = trips_from parts.day.periods parts.flights plan same no_trip in
    or_breaks P (first_along (broken_turn (arrival_in plan) (departure_in plan)) parts.connections)
    _ rule rest_2 (turns_break parts plan rule trips)
    (λ no_turn rest_3.
    let turns = turns_from plan parts.connections no_turn in
    or_breaks P (first_over parts kind.Dep departs) _ rule rest_3
    (λ some. over_breaks P parts kind.Dep departs rule some
    (λ place period before is. ((trips, turns, before), is)))
    (λ no_departure rest_4.
    let keeps_departures = over_from parts kind.Dep departs no_departure in
    or_breaks P (first_over parts kind.Arr arrives) _ rule rest_4
    (λ some. over_breaks P parts kind.Arr arrives rule some
    (λ place period before is. ((trips, turns, keeps_departures, before), is)))
    (λ no_arrival some. over_breaks P parts kind.Sector inside rule some
    (λ place period before is. (
      (trips, turns, keeps_departures, over_from parts kind.Arr arrives no_arrival, before),
      is,
    )))))))
