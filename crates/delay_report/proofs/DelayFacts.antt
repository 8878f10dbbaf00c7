-- Lines of full capacities, one more; delays together; and what loads count.
use Rattle.std.proofs.Common.{◌≡◌, ℕ, zero, suc, ◌+◌, ◌==◌, ◌<◌, Bool, true, false, List, [], ◌++◌, append-nil, length, slice_get, Option, Some, ℤ, pos, neg_ℤ, ◌≤ℤ◌, to_z, of_z, w64, refl, sym, ap, ap₂, ◌∙◌, append_assoc, arith, if◌then◌else◌}
use Rattle.std.proofs.lemmas.Int.{fits_signed_from_abs, ints, to_z-of_z}
use Rattle.exact_sums.specs.Lists.{all_below}
use Rattle.exact_sums.proofs.RangeFacts.{below_more}
use Rattle.flow_types.specs.declared.flight.Flight.{Flight}
use Rattle.flow_types.specs.declared.parts.Parts.{Parts}
use Rattle.flow_types.specs.declared.place.CapKind.{CapKind}
use Rattle.flow_types.specs.declared.place.CapKind.TheVariants as kind
use Rattle.flow_types.specs.declared.plan.Stop.{Stop}
use Rattle.flow_types.specs.Capacities.{capacity_of, has_kind}
use Rattle.flow_types.specs.Costs.{trip_cost_at}
use Rattle.flow_types.specs.Feasible.{IsFeasible}
use Rattle.flow_types.specs.Limits.{most_trip_cost}
use Rattle.flow_types.specs.Trips.{arrival_of, departure_of}
use Rattle.plan_rules.specs.Judge.{MatchVerdict}
use Rattle.plan_rules.specs.Loads.{AreLoads, load_at, no_trips}
use Rattle.plan_rules.specs.Tally.{Tally}
use Rattle.plan_rules.specs.declared.judging.Verdict.{Verdict}
use Rattle.plan_rules.specs.declared.judging.Verdict.TheVariants.{Keeps, Breaks}
use Rattle.delay_report.specs.declared.delays.Delay.{Delay}
use Rattle.delay_report.specs.Delays.{AreShort, all_full, both_delays, count_of, delay_between, flown_at, flown_in, full_at, full_line, full_text, full_texts, stops_in}

-- one delay more
pub more_delay : (n : ℕ) (first second : Delay) → AreShort n first → AreShort 1 second
    → AreShort (n + 1) (both_delays first second)
more_delay n first second short one = record {
  ground = let a = short.ground in let b = one.ground in omega (arith, a, b);
  airborne = record {
    low = let a = short.airborne.low in let b = one.airborne.low in omega (arith, ints, a, b);
    high = let a = short.airborne.high in let b = one.airborne.high in omega (arith, ints, a, b);
  };
}

-- the line of one capacity more, or none
pub more_full : (parts : Parts) (moments : List (List ℕ)) (kind : CapKind) (count : ℕ → ℕ → ℕ)
    (place period : ℕ) (full : Bool) (start out new : List ℕ)
    → out ≡ start ++ all_below period (full_text parts moments kind count place)
    → full ≡ (count place period == capacity_of parts.places kind place period)
    → new ≡ out ++ (if full then full_line parts moments kind place period else [])
    → new ≡ start ++ all_below (period + 1) (full_text parts moments kind count place)
more_full parts moments kind count place period full start out new so_far is put =
    below_more (full_text parts moments kind count place) period start out new so_far
    (put ∙ ap (λ (b : Bool). out ++ (if b then full_line parts moments kind place period else []))
    is)

-- what is there after a line that was to be put, or not
module _ (full : Bool) (line out new : List ℕ) where
  pub line_put : full ≡ true → new ≡ out ++ line → new ≡ out ++ (if full then line else [])
  line_put is put = put ∙ ap (λ (b : Bool). out ++ (if b then line else [])) (sym is)

  pub no_line : full ≡ false → new ≡ out → new ≡ out ++ (if full then line else [])
  no_line is same =
      same ∙ sym (append-nil out) ∙ ap (λ (b : Bool). out ++ (if b then line else [])) (sym is)

-- what a flight is found to be
pub flown_is : (parts : Parts) (plan : List (List Stop)) (number : ℕ) (flight : Flight)
    (stops : List Stop) (departure arrival : ℕ) (delay : Delay) (cost told : ℤ)
    → slice_get parts.flights number ≡ Some flight → stops ≡ stops_in plan number
    → Some departure ≡ departure_of stops → Some arrival ≡ arrival_of stops
    → delay ≡ delay_between parts.day.minutes flight departure arrival
    → cost ≡ trip_cost_at parts.tables (slice_get parts.flights number) stops → told ≡ cost
    → Some (record { departure = departure; arrival = arrival; delay = delay; cost = told })
    ≡ flown_in parts plan number
flown_is parts plan number flight stops departure arrival delay cost told here stops_is departs
    arrives delay_is cost_is told_is =
    let by : (at : Option Flight) → at ≡ Some flight → (leaves comes : Option ℕ)
    → Some departure ≡ leaves → Some arrival ≡ comes → (paid : ℤ) → told ≡ paid
    → Some (record { departure = departure; arrival = arrival; delay = delay; cost = told })
    ≡ flown_at parts.day.minutes at leaves comes paid =
    λ at at_is leaves comes leaves_is comes_is paid paid_is.
    rw (at_is, sym leaves_is, sym comes_is, sym paid_is, delay_is) refl
    in
    by (slice_get parts.flights number) here (departure_of (stops_in plan number))
    (arrival_of (stops_in plan number)) (departs ∙ ap departure_of stops_is)
    (arrives ∙ ap arrival_of stops_is)
    (trip_cost_at parts.tables (slice_get parts.flights number) (stops_in plan number))
    (told_is ∙ cost_is ∙ ap (trip_cost_at parts.tables (slice_get parts.flights number)) stops_is)

-- a cost, as the code has it
pub whole_cost : (cost : ℤ) → neg_ℤ (pos most_trip_cost) ≤ℤ cost → cost ≤ℤ pos most_trip_cost
    → to_z w64 (of_z w64 cost) ≡ cost
whole_cost cost low high =
    to_z-of_z w64 cost (fits_signed_from_abs w64 cost (omega (arith, ints, low, high)))

-- three texts, one after the other
pub three_texts : (start first second third one two new : List ℕ) → one ≡ start ++ first
    → two ≡ one ++ second → new ≡ two ++ third → new ≡ start ++ (first ++ (second ++ third))
three_texts start first second third one two new is_one is_two is_new =
    is_new ∙ ap (λ bytes. bytes ++ third) is_two
    ∙ ap (λ bytes. (bytes ++ second) ++ third) is_one
    ∙ append_assoc (start ++ first) second third ∙ append_assoc start first (second ++ third)

-- what a plan that keeps every rule leaves in the loads
pub loads_kept : (parts : Parts) (plan : List (List Stop)) (new : Tally) (verdict : Verdict)
    → IsFeasible parts plan
    → MatchVerdict verdict (λ cost. IsFeasible parts plan) (λ broken. IsFeasible parts plan → ⊥)
    → MatchVerdict verdict (λ cost. AreLoads parts plan new)
    (λ broken. AreLoads parts (no_trips parts) new) → AreLoads parts plan new
loads_kept parts plan new (Keeps cost) feasible keeps loads = loads
loads_kept parts plan new (Breaks broken) feasible keeps loads = absurd (keeps feasible)

-- the same texts of each number below n
same_texts : (n : ℕ) (some other : ℕ → List ℕ) → ((k : ℕ) → k < n → some k ≡ other k)
    → all_below n some ≡ all_below n other
same_texts zero some other same = refl
same_texts (suc n) some other same =
    ap₂ (λ (a b : List ℕ). a ++ b)
    (same_texts n some other (λ k less. same k (omega (arith, less)))) (same n (omega arith))

-- the same lines where the same is counted
module _ (parts : Parts) (moments : List (List ℕ)) (kind : CapKind) (some other : ℕ → ℕ → ℕ)
    (same : (k t : ℕ) → k < length parts.places → t < parts.day.periods → some k t ≡ other k t)
  where
    same_at : (k : ℕ) → k < length parts.places
        → full_at parts moments kind some k ≡ full_at parts moments kind other k
    same_at k within =
        ap (λ (texts : List ℕ). if has_kind kind (slice_get parts.places k) then texts else [])
        (same_texts parts.day.periods (full_text parts moments kind some k)
        (full_text parts moments kind other k)
        (λ t less. ap (λ n. if n == capacity_of parts.places kind k t
        then full_line parts moments kind k t else []) (same k t within less)))

    same_full : full_texts parts moments kind some ≡ full_texts parts moments kind other
    same_full =
        same_texts (length parts.places) (full_at parts moments kind some)
        (full_at parts moments kind other) same_at

-- all lines of the loads are those of the plan
pub all_same : (parts : Parts) (moments : List (List ℕ)) (plan : List (List Stop)) (loads : Tally)
    → AreLoads parts plan loads
    → all_full parts moments (load_at loads)
    ≡ all_full parts moments (λ kind. count_of kind parts plan)
all_same parts moments plan loads are =
    ap₂ (λ (a b : List ℕ). a ++ b)
    (same_full parts moments kind.Dep (load_at loads kind.Dep) (count_of kind.Dep parts plan)
    are.departures)
    (ap₂ (λ (a b : List ℕ). a ++ b)
    (same_full parts moments kind.Arr (load_at loads kind.Arr) (count_of kind.Arr parts plan)
    are.arrivals)
    (same_full parts moments kind.Sector (load_at loads kind.Sector)
    (count_of kind.Sector parts plan) are.sectors))
