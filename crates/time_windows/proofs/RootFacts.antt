-- The root box and the list that holds it.
use Rattle.std.proofs.Common.{◌≡◌, ◌⊎◌, ℕ, ◌+◌, ◌*◌, ◌-◌, ◌/◌, ◌%◌, ◌^◌, ◌<◌, ◌≤◌, ◌==◌, ◌||◌, min, List, length, get_or, if◌then◌else◌, Option, None, Some, slice_get, inl, inr, refl, sym, ◌∙◌, ap₂, subst, arith}
use Rattle.std.proofs.lemmas.Bool.{cases_eq, cases_lt}
use Rattle.std.proofs.lemmas.Bool.Decides.{eqb_tells, nat_tests}
use Rattle.std.proofs.lemmas.List.{get_or_past}
use Rattle.std.proofs.lemmas.Option.{get_or_from_slice_get, slice_get_past, slice_get_within}
use Rattle.exact_sums.specs.Lists.{AreEach}
use Rattle.flow_types.specs.declared.flight.Flight.{Flight}
use Rattle.flow_types.specs.declared.parts.Parts.{Parts}
use Rattle.flow_types.specs.Limits.{most_nodes}
use Rattle.flow_types.specs.Trips.{earliest_of, latest_of}
use Rattle.flow_types.specs.Valid.{IsFlight, IsScenario}
use Rattle.time_windows.specs.declared.access.Access.{Access}
use Rattle.time_windows.specs.Boxes.{closed, root_box, root_row}
use Rattle.time_windows.specs.Held.{access_at}
use Rattle.time_windows.specs.Narrowing.{AreAccesses, IsSound}
use Rattle.time_windows.proofs.WindowFacts.{if_lt}

-- by cases of a test
pub if_eq : {X : Type 0} (P : X → Type 0) (a b : ℕ) (x y : X) → (a ≡ b → P x) → ((a ≡ b → ⊥) → P y)
    → P (if a == b then x else y)
if_eq P a b x y then_x else_y = elim (eqb_tells a b) as (λ _. P (if a == b then x else y)) [
  | inl t ↦ rw t.0 (then_x t.1)
  | inr f ↦ rw f.0 (else_y f.1)
]

-- the flight at a place of a valid scenario
pub flight_in : (parts : Parts) (f : ℕ) (flight : Flight) → IsScenario parts
    → slice_get parts.flights f ≡ Some flight
    → IsFlight parts.day.periods parts.places parts.tables flight
flight_in parts f flight valid is =
    subst (IsFlight parts.day.periods parts.places parts.tables)
    (get_or_from_slice_get parts.flights f flight flight is)
    (valid.flights.each f flight (slice_get_within parts.flights f flight is))

hours_proper : (parts : Parts) (flight : Flight) (node : ℕ) → IsScenario parts
    → IsFlight parts.day.periods parts.places parts.tables flight
    → (earliest_of flight node ≤ latest_of parts.day.periods flight node)
    × (latest_of parts.day.periods flight node < 2 ^ 16)
hours_proper parts flight node valid ok =
    let periods = parts.day.periods in
    let last : latest_of periods flight node < 2 ^ 16 =
    if_eq (λ t. t < 2 ^ 16) node 0 (min (flight.sd + flight.mg) (periods - 1))
    (if node + 1 == length flight.nodes then min (flight.sa + flight.md) (periods - 1)
    else periods - 1)
    (λ _. omega (arith, valid.day.periods_to))
    (λ _. if_eq (λ t. t < 2 ^ 16) (node + 1) (length flight.nodes)
    (min (flight.sa + flight.md) (periods - 1)) (periods - 1)
    (λ _. omega (arith, valid.day.periods_to)) (λ _. omega (arith, valid.day.periods_to))) in
    (hours_at (cases_eq node 0) (cases_eq (node + 1) (length flight.nodes)), last)
  where
    hours_at : (node ≡ 0) ⊎ (node ≡ 0 → ⊥)
        → (node + 1 ≡ length flight.nodes) ⊎ (node + 1 ≡ length flight.nodes → ⊥)
        → earliest_of flight node ≤ latest_of parts.day.periods flight node
    hours_at first last = grind (arith, nat_tests, ok.forward, ok.within, valid.day.periods_from)

root_sound : (parts : Parts) (k node : ℕ) → IsScenario parts
    → (found : Option Flight) → slice_get parts.flights k ≡ found
    → IsSound (root_row parts.day.periods found node).window
root_sound parts k node valid None is = tt
root_sound parts k node valid (Some flight) is =
    let hours = hours_proper parts flight node valid (flight_in parts k flight valid is) in
    if_lt (λ (a : Access). IsSound a.window) node (length flight.nodes)
    (record {
      window = Some (record {
        lo = earliest_of flight node;
        hi = latest_of parts.day.periods flight node;
      });
      must = (node == 0) || (node + 1 == length flight.nodes);
    }) closed (λ _. hours) (λ _. tt)

-- the list holds the root box as far as the index
abbrev pub IsRootTo : Parts → List Access → ℕ → Type 0
IsRootTo parts accesses index =
    AreEach (λ k access. access
    ≡ root_row parts.day.periods (slice_get parts.flights (k / 32)) (k % 32)) closed index accesses

pub place_flight : (f n : ℕ) → n < 32 → (f * 32 + n) / 32 ≡ f
place_flight f n few = omega arith

pub place_node : (f n : ℕ) → n < 32 → (f * 32 + n) % 32 ≡ n
place_node f n few = omega arith

-- past the nodes of a flight the root box is closed
root_past : (parts : Parts) (f n : ℕ) → IsScenario parts → 32 ≤ n
    → (found : Option Flight) → slice_get parts.flights f ≡ found
    → closed ≡ root_row parts.day.periods found n
root_past parts f n valid past None is = refl
root_past parts f n valid past (Some flight) is =
    let few = (flight_in parts f flight valid is).route.nodes_to in
    if_lt (λ (a : Access). closed ≡ a) n (length flight.nodes)
    (record {
      window = Some (record {
        lo = earliest_of flight n;
        hi = latest_of parts.day.periods flight n;
      });
      must = (n == 0) || (n + 1 == length flight.nodes);
    }) closed (λ below. absurd (omega (arith, few))) (λ _. refl)

pub root_all : (parts : Parts) (accesses : List Access) (index : ℕ) → IsScenario parts
    → index ≡ length parts.flights * 32 → IsRootTo parts accesses index
    → (f n : ℕ) → access_at accesses f n ≡ root_box parts f n
root_all parts accesses index valid all so_far f n =
    if_lt (λ (a : Access). a ≡ root_box parts f n) n most_nodes
    (get_or accesses (f * most_nodes + n) closed) closed
    (λ few. at few (cases_lt f (length parts.flights)))
    (λ past. root_past parts f n valid past (slice_get parts.flights f) refl)
  where
    at : n < 32 → (f < length parts.flights) ⊎ (length parts.flights ≤ f)
        → get_or accesses (f * 32 + n) closed ≡ root_box parts f n
    at few (inl below) =
        so_far.each (f * 32 + n) (omega arith)
        ∙ ap₂ (λ i m. root_row parts.day.periods (slice_get parts.flights i) m)
        (place_flight f n few) (place_node f n few)
    at few (inr past) =
        rw (
          slice_get_past parts.flights f past,
          get_or_past accesses (f * 32 + n) closed (omega (arith, so_far.long)),
        ) refl

pub root_accesses : (parts : Parts) (accesses : List Access) (index : ℕ) → IsScenario parts
    → index ≡ length parts.flights * 32 → IsRootTo parts accesses index → AreAccesses accesses
root_accesses parts accesses index valid all so_far = record {
  sound = λ f n. subst (λ (a : Access). IsSound a.window)
      (sym (root_all parts accesses index valid all so_far f n))
      (root_sound parts f n valid (slice_get parts.flights f) refl);
  few = omega (arith, so_far.long, valid.flights.few);
}
