-- Sums grow by what plans cost.
use Rattle.std.proofs.Common.{◌≡◌, ℕ, ◌+◌, ◌*◌, ◌^◌, ◌<◌, ◌≤◌, List, ◌++◌, length, get_or, take, Option, None, Some, slice_get, ℤ, pos, ◌+ℤ◌, ◌*ℤ◌, unsigned_abs, refl, sym, ap, ◌∙◌, arith, take_all}
use Rattle.std.proofs.lemmas.Int.{ints}
use Rattle.std.proofs.Math.IntN.{*ℤ-zero}
use Rattle.exact_sums.proofs.ProductFacts.{times-within}
use Rattle.flow_types.specs.declared.flight.Flight.{Flight}
use Rattle.flow_types.specs.declared.parts.Parts.{Parts}
use Rattle.flow_types.specs.Valid.{IsScenario}
use Rattle.bytime_model.specs.declared.variables.Term.{Term}
use Rattle.bytime_model.specs.declared.variables.Var.{Var}
use Rattle.exact_sums.proofs.ItemFacts.{item_there}
use Rattle.std.proofs.lemmas.Option.{get_or_from_slice_get}
use Rattle.bytime_model.specs.CostRow.{cost_row, flight_terms, late_step_at, late_variable, most_late_at, most_wait_at, priced_value, steps, unless_zero, wait_step_at, wait_variable}
use Rattle.exact_sums.specs.Near.{IsNear}
use Rattle.bytime_model.specs.Values.{form_value}
use Rattle.bytime_model.proofs.CostFacts.{steps_suc, unless-zero}
use Rattle.bytime_model.proofs.FormFacts.{form-append}
use Rattle.bytime_model.specs.Columns.{IsThere}
use Rattle.dual_sums.specs.Growing.{Grows, terms_at}
use Rattle.dual_sums.specs.Sums.{Summed, mass, sum_at}
use Rattle.dual_sums.proofs.CostSizeFacts.{constant_near, late_near, wait_near}
use Rattle.dual_sums.proofs.GrowFacts.{grows_as, grows_then}
use Rattle.dual_sums.proofs.SumsFacts.{abs_le}
use Rattle.dual_sums.proofs.TimesFacts.{times-plus}
use Rattle.exact_sums.proofs.LoopFacts.{next_numbered}
use Rattle.exact_sums.specs.Lists.{flat_map_from}

near_abs : (v : ℤ) → IsNear 2000000000 v → unsigned_abs v ≤ 2000000000
near_abs v near = abs_le v 2000000000 near.high near.low

late_near_most : (periods delay : ℕ) (found : Option Flight) → delay < most_late_at periods found
    → delay + 1 ≤ periods
late_near_most periods delay None below = omega (arith, below)
late_near_most periods delay (Some flight) below = omega (arith, below)

wait_near_most : (periods delay : ℕ) (found : Option Flight) → delay < most_wait_at periods found
    → delay + 1 ≤ periods
wait_near_most periods delay None below = omega (arith, below)
wait_near_most periods delay (Some flight) below = omega (arith, below)

pub late_small : (parts : Parts) (number delay : ℕ) → IsScenario parts
    → delay < most_late_at parts.day.periods (slice_get parts.flights number)
    → unsigned_abs (late_step_at parts.tables (slice_get parts.flights number) delay)
    ≤ 2000000000
late_small parts number delay valid below =
    let few = late_near_most parts.day.periods delay (slice_get parts.flights number) below in
    let most = valid.day.periods_to in
    near_abs (late_step_at parts.tables (slice_get parts.flights number) delay)
    (late_near parts valid number delay (slice_get parts.flights number) refl
    (omega (arith, few, most)))

pub wait_small : (parts : Parts) (number delay : ℕ) → IsScenario parts
    → delay < most_wait_at parts.day.periods (slice_get parts.flights number)
    → unsigned_abs (wait_step_at parts.tables (slice_get parts.flights number) delay)
    ≤ 2000000000
wait_small parts number delay valid below =
    let few = wait_near_most parts.day.periods delay (slice_get parts.flights number) below in
    let most = valid.day.periods_to in
    near_abs (wait_step_at parts.tables (slice_get parts.flights number) delay)
    (wait_near parts valid number delay (slice_get parts.flights number) refl
    (omega (arith, few, most)))

pub late_there : (flights : List Flight) (number delay : ℕ) (found : Option Flight)
    → IsThere flights (late_variable number found delay)
late_there flights number delay None = tt
late_there flights number delay (Some flight) = tt

pub wait_there : (flights : List Flight) (number delay : ℕ) (found : Option Flight)
    → IsThere flights (wait_variable number found delay)
wait_there flights number delay None = tt
wait_there flights number delay (Some flight) = tt

pub late_few : (parts : Parts) (found : Option Flight) → IsScenario parts
    → most_late_at parts.day.periods found ≤ 512
late_few parts None valid = omega arith
late_few parts (Some flight) valid = let most = valid.day.periods_to in omega (arith, most)

pub wait_few : (parts : Parts) (found : Option Flight) → IsScenario parts
    → most_wait_at parts.day.periods found ≤ 512
wait_few parts None valid = omega arith
wait_few parts (Some flight) valid = let most = valid.day.periods_to in omega (arith, most)

module _ (at : (ℕ → ℕ) → Var → ℕ) (weight : ℕ) (step : ℕ → ℤ) (variable : ℕ → Var) where
  pub steps_none : (sums : Summed)
      → Grows at (λ value. pos weight *ℤ form_value value (steps step variable 0)) (0 * 2 ^ 93)
      sums sums
  steps_none sums = record {
    sum = λ bit. let none = *ℤ-zero (pos weight) in omega (arith, ints, none);
    mass = omega arith;
    same = refl;
  }

  pub steps_more : (k : ℕ) (start old new : Summed)
      → Grows at (λ value. pos weight *ℤ form_value value (steps step variable k)) (k * 2 ^ 93)
      start old
      → Grows at (λ value. pos weight *ℤ (step k *ℤ pos (value (variable k)))) (2 ^ 93) old new
      → Grows at (λ value. pos weight *ℤ form_value value (steps step variable (k + 1)))
      ((k + 1) * 2 ^ 93) start new
  steps_more k start old new before here =
      grows_then at (λ value. pos weight *ℤ form_value value (steps step variable k))
      (λ value. pos weight *ℤ (step k *ℤ pos (value (variable k))))
      (λ value. pos weight *ℤ form_value value (steps step variable (k + 1))) (k * 2 ^ 93)
      (2 ^ 93) ((k + 1) * 2 ^ 93) start old new before here
      (λ value. ap (λ terms. pos weight *ℤ form_value value terms) (steps_suc step variable k)
      ∙ ap (λ n. pos weight *ℤ n)
      (form-append value (steps step variable k) (unless_zero (step k) (variable k))
      ∙ ap (λ n. form_value value (steps step variable k) +ℤ n)
      (unless-zero value (step k) (variable k)))
      ∙ times-plus weight (form_value value (steps step variable k))
      (step k *ℤ pos (value (variable k)))) (omega arith)

  pub steps_all : (k count : ℕ) (start new : Summed) → count ≤ k → k ≤ count → count ≤ 512
      → Grows at (λ value. pos weight *ℤ form_value value (steps step variable k)) (k * 2 ^ 93)
      start new
      → Grows at (λ value. pos weight *ℤ form_value value (steps step variable count)) (2 ^ 102)
      start new
  steps_all k count start new past upto few grows =
      let same : k ≡ count = omega (arith, past, upto) in
      grows_as at (λ value. pos weight *ℤ form_value value (steps step variable k))
      (λ value. pos weight *ℤ form_value value (steps step variable count)) (k * 2 ^ 93) (2 ^ 102)
      start new grows
      (λ value. ap (λ n. pos weight *ℤ form_value value (steps step variable n)) (sym same))
      (omega (arith, upto, few))

pub flight_grows : (at : (ℕ → ℕ) → Var → ℕ) (weight : ℕ) (late wait : List Term)
    (start old new : Summed)
    → Grows at (λ value. pos weight *ℤ form_value value late) (2 ^ 102) start old
    → Grows at (λ value. pos weight *ℤ form_value value wait) (2 ^ 102) old new
    → Grows at (λ value. pos weight *ℤ form_value value (late ++ wait)) (2 ^ 103) start new
flight_grows at weight late wait start old new first second =
    grows_then at (λ value. pos weight *ℤ form_value value late)
    (λ value. pos weight *ℤ form_value value wait)
    (λ value. pos weight *ℤ form_value value (late ++ wait)) (2 ^ 102) (2 ^ 102) (2 ^ 103) start old
    new first second
    (λ value. ap (λ n. pos weight *ℤ n) (form-append value late wait)
    ∙ times-plus weight (form_value value late) (form_value value wait)) (omega arith)

pub constant_within : (parts : Parts) (weight : ℕ) → IsScenario parts → weight < 2 ^ 62
    → unsigned_abs (pos weight *ℤ (cost_row parts).constant) ≤ 2 ^ 104
constant_within parts weight valid small =
    let near = constant_near parts valid in
    let within = times-within weight (2 ^ 62) (2 ^ 42) (cost_row parts).constant
    (omega (arith, small)) near.low near.high in
    abs_le (pos weight *ℤ (cost_row parts).constant) (2 ^ 104)
    (omega (arith, ints, within.1)) (omega (arith, ints, within.0))

-- the constant, and the first so many flights
abbrev pub part_cost : Parts → ℕ → ℕ → (Var → ℕ) → ℤ
part_cost parts weight count value =
    pos weight *ℤ ((cost_row parts).constant +ℤ form_value value
    (flat_map_from (flight_terms parts.tables parts.day.periods) 0 (take count parts.flights)))

module _ (parts : Parts) (at : (ℕ → ℕ) → Var → ℕ) (weight : ℕ) where
  pub flights_none : (share : ℤ) (old new : Summed)
      → share ≡ pos weight *ℤ (cost_row parts).constant → unsigned_abs share ≤ 2 ^ 104
      → ((bit : ℕ → ℕ) → sum_at bit new ≡ sum_at bit old +ℤ share *ℤ pos 1)
      → mass new ≤ mass old + unsigned_abs share → length new.factors ≡ length old.factors
      → Grows at (part_cost parts weight 0) (2 ^ 104 + 0 * 2 ^ 103) old new
  flights_none share old new is small sum more same = record {
    sum = λ bit. let a = sum bit in
        let b = ap (λ n. pos weight *ℤ n) (alone (cost_row parts).constant) in
        omega (arith, ints, a, b, is);
    mass = omega (arith, more, small);
    same = same;
  }
    where
      alone : (n : ℤ) → n +ℤ pos 0 ≡ n
      alone n = omega (arith, ints)

  pub flights_more : (k : ℕ) (start old new : Summed) → k < length parts.flights
      → Grows at (part_cost parts weight k) (2 ^ 104 + k * 2 ^ 103) start old
      → Grows at (λ value. pos weight *ℤ form_value value
      (terms_at parts k (slice_get parts.flights k))) (2 ^ 103) old new
      → Grows at (part_cost parts weight (k + 1)) (2 ^ 104 + (k + 1) * 2 ^ 103) start new
  flights_more k start old new within before here =
      let found = item_there parts.flights k within in
      let read : get_or parts.flights k found.0 ≡ found.0 =
      get_or_from_slice_get parts.flights k found.0 found.0 found.1 in
      let own : (value : Var → ℕ)
      → form_value value (terms_at parts k (slice_get parts.flights k))
      ≡ form_value value (part k (get_or parts.flights k found.0)) =
      λ value. ap (λ o. form_value value (terms_at parts k o)) found.1
      ∙ ap (λ f. form_value value (part k f)) (sym read) in
      grows_then at (part_cost parts weight k)
      (λ value. pos weight *ℤ form_value value (terms_at parts k (slice_get parts.flights k)))
      (part_cost parts weight (k + 1)) (2 ^ 104 + k * 2 ^ 103) (2 ^ 103)
      (2 ^ 104 + (k + 1) * 2 ^ 103) start old new before here
      (λ value. ap (λ n. pos weight *ℤ n) (whole value found.0 (own value))
      ∙ times-plus weight ((cost_row parts).constant +ℤ form_value value (so_far k))
      (form_value value (terms_at parts k (slice_get parts.flights k)))) (omega arith)
    where
      part : ℕ → Flight → List Term
      part = flight_terms parts.tables parts.day.periods

      so_far : ℕ → List Term
      so_far n = flat_map_from part 0 (take n parts.flights)

      whole : (value : Var → ℕ) (d : Flight)
          → form_value value (terms_at parts k (slice_get parts.flights k))
          ≡ form_value value (part k (get_or parts.flights k d))
          → (cost_row parts).constant +ℤ form_value value (so_far (k + 1))
          ≡ (cost_row parts).constant +ℤ form_value value (so_far k)
          +ℤ form_value value (terms_at parts k (slice_get parts.flights k))
      whole value d own =
          let more = ap (form_value value) (next_numbered part parts.flights k d within)
          ∙ form-append value (so_far k) (part k (get_or parts.flights k d)) in
          omega (arith, ints, more, own)

  pub flights_all : (k : ℕ) (start new : Summed) → IsScenario parts
      → length parts.flights ≤ k → k ≤ length parts.flights
      → Grows at (part_cost parts weight k) (2 ^ 104 + k * 2 ^ 103) start new
      → Grows at (λ value. pos weight *ℤ priced_value value (cost_row parts)) (2 ^ 114) start new
  flights_all k start new valid past upto grows =
      grows_as at (part_cost parts weight k)
      (λ value. pos weight *ℤ priced_value value (cost_row parts)) (2 ^ 104 + k * 2 ^ 103)
      (2 ^ 114) start new grows
      (λ value. ap (λ flights. pos weight *ℤ ((cost_row parts).constant +ℤ form_value value
      (flat_map_from (flight_terms parts.tables parts.day.periods) 0 flights)))
      (sym (take_all k parts.flights past)))
      (let most = valid.flights.few in omega (arith, most, upto))
