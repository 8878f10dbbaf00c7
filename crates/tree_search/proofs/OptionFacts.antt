-- The options of the nodes of a box: where a node has any or several, what a split shares out, and
-- that a box within another has no more.
use Rattle.std.proofs.Common.{◌≡◌, ℕ, ◌+◌, ◌<◌, ◌≤◌, ◌==◌, ◌||◌, Bool, true, false, max, length, Option, None, Some, slice_get, if◌then◌else◌, inl, inr, refl, sym, subst, arith}
use Rattle.std.proofs.lemmas.Bool.{cases_lt}
use Rattle.std.proofs.lemmas.Option.{slice_get_past}
use Rattle.exact_sums.proofs.ItemFacts.{item_there}
use Rattle.flow_types.specs.declared.flight.Flight.{Flight}
use Rattle.flow_types.specs.declared.parts.Parts.{Parts}
use Rattle.flow_types.specs.Limits.{most_nodes}
use Rattle.flow_types.specs.Trips.{earliest_of, latest_of}
use Rattle.flow_types.specs.Valid.{IsScenario}
use Rattle.time_windows.specs.declared.access.Access.{Access}
use Rattle.time_windows.specs.declared.access.Window.{Window}
use Rattle.time_windows.specs.Boxes.{Box, IsBoxOf, IsProper, IsWindowWithin, IsWithin, closed, options_of, root_access, root_box, root_row, width_of}
use Rattle.time_windows.specs.Splits.{IsBranching, after, until}
use Rattle.time_windows.specs.Tight.{IsLive, IsTight}
use Rattle.time_windows.proofs.RootFacts.{flight_in}
use Rattle.time_windows.proofs.WindowFacts.{if_lt, width_within}
use Rattle.tree_search.specs.Nodes.{HasChoice}

-- a node that is open, or needn't be entered, has an option
some_at : (window : Option Window) (must : Bool) → IsProper window
    → (must ≡ true → window ≡ None → ⊥) → 1 ≤ width_of window + (if must then 0 else 1)
some_at (Some w) must proper live = omega (arith, proper)
some_at None true proper live = absurd (live refl refl)
some_at None false proper live = omega arith

-- a node that is closed in the root box is closed in each
shut_within : (inner outer : Option Window) → outer ≡ None → IsWindowWithin inner outer
    → inner ≡ None
shut_within None outer is within = refl
shut_within (Some w) None is within = absurd within
shut_within (Some w) (Some o) is within = absurd (let e : ⊥ = cc in e)

module _ (parts : Parts) (valid : IsScenario parts) where
  in_flight : (f n : ℕ) (flight : Flight) → slice_get parts.flights f ≡ Some flight
      → ((root_access parts.day.periods flight n).window ≡ None → ⊥) → n < most_nodes
  in_flight f n flight is =
      let few : length flight.nodes ≤ most_nodes =
      (flight_in parts f flight valid is).route.nodes_to in
      if_lt (λ (a : Access). (a.window ≡ None → ⊥) → n < most_nodes) n (length flight.nodes)
      (record {
        window = Some (record {
          lo = earliest_of flight n;
          hi = latest_of parts.day.periods flight n;
        });
        must = (n == 0) || (n + 1 == length flight.nodes);
      }) closed (λ below there. omega (arith, below, few)) (λ past there. absurd (there refl))

  -- a node that is open in the root box is one of a flight
  pub node_there : (f n : ℕ) → ((root_box parts f n).window ≡ None → ⊥)
      → (f < length parts.flights) × (n < most_nodes)
  node_there f n there = elim (cases_lt f (length parts.flights))
      as (λ _. (f < length parts.flights) × (n < most_nodes)) [
        | inr past ↦ absurd (there (rw (slice_get_past parts.flights f past) refl))
        | inl below ↦
            let flight = item_there parts.flights f below in (
              below,
              in_flight f n flight.0 flight.1
                  (subst (λ found. (root_row parts.day.periods found n).window ≡ None → ⊥) flight.1
                  there),
            )
      ]

module _ (parts : Parts) (box : Box) (made : IsBoxOf parts box) where
  outside_one : (f n : ℕ) → (root_box parts f n).window ≡ None → options_of (box f n) ≡ 1
  outside_one f n shut =
      let none : (box f n).window ≡ None =
      shut_within (box f n).window (root_box parts f n).window shut (made.windows f n) in
      let free : (box f n).must ≡ false = made.nodes f n shut in
      rw (none, free) refl

  -- so it has neither several options nor a split
  pub choice_there : (choice : HasChoice box)
      → (root_box parts choice.flight choice.node).window ≡ None → ⊥
  choice_there choice shut =
      omega (arith, choice.several, outside_one choice.flight choice.node shut)

  pub branching_there : (f n time : ℕ) → IsBranching (box f n) time
      → (root_box parts f n).window ≡ None → ⊥
  branching_there f n time branching shut =
      let none : (box f n).window ≡ None =
      shut_within (box f n).window (root_box parts f n).window shut (made.windows f n) in
      let is : (box f n).window ≡ Some branching.window = branching.is_open in
      cc (none, is)

  -- each node of a tight box that is live has an option
  pub each_some : IsTight parts box → IsLive box → (f n : ℕ) → 1 ≤ options_of (box f n)
  each_some tight live f n = elim (cases_lt f (length parts.flights))
      as (λ _. 1 ≤ options_of (box f n)) [
        | inl below ↦
            let flight = item_there parts.flights f below in
            some_at (box f n).window (box f n).must ((tight.rows f flight.0 flight.1).proper n)
            (λ must shut. live f n (record { must = must; shut = shut }))
        | inr past ↦
            let one = outside_one f n (rw (slice_get_past parts.flights f past) refl) in
            omega (arith, one)
      ]

-- a box within another
pub options_within : (inner outer : Box) → IsWithin inner outer → (f n : ℕ)
    → options_of (inner f n) ≤ options_of (outer f n)
options_within inner outer within f n =
    let narrow = width_within (inner f n).window (outer f n).window (within.windows f n) in
    rw (within.marks f n) (omega (arith, narrow))

-- what a split makes of its node
abbrev pub early_of : Access → ℕ → Access
early_of access time = record { window = until access.window time; must = true }

abbrev pub late_of : Access → ℕ → Access
late_of access time = record { window = after access.window time; must = access.must }

module _ (w : Window) (must : Bool) (time : ℕ) (from : w.lo ≤ time) (to : time ≤ w.hi)
    (later : must ≡ true → time < w.hi) where
  abbrev opened : Access
  opened = record { window = Some w; must = must }

  shared_opened : options_of (early_of opened time) + options_of (late_of opened time)
      ≤ options_of opened
  shared_opened =
      if_lt (λ x. options_of (early_of opened time)
      + options_of (record { window = x; must = must }) ≤ options_of opened)
      time w.hi (Some (record { lo = max w.lo (time + 1); hi = w.hi })) None
      (λ less. omega (arith, from, to, less)) (λ past. last must later past)
    where
      last : (b : Bool) → (b ≡ true → time < w.hi) → w.hi ≤ time
          → options_of (early_of opened time) + options_of (record { window = None; must = b })
          ≤ options_of (record { window = Some w; must = b })
      last true before past = absurd (omega (arith, before refl, past))
      last false before past = omega (arith, from, to, past)

  late_opened : 1 ≤ options_of (late_of opened time)
  late_opened =
      if_lt (λ x. 1 ≤ options_of (record { window = x; must = must })) time w.hi
      (Some (record { lo = max w.lo (time + 1); hi = w.hi })) None
      (λ less. omega (arith, from, to, less)) (λ past. last must later past)
    where
      last : (b : Bool) → (b ≡ true → time < w.hi) → w.hi ≤ time
          → 1 ≤ options_of (record { window = None; must = b })
      last true before past = absurd (omega (arith, before refl, past))
      last false before past = omega arith

module _ (access : Access) (time : ℕ) (branching : IsBranching access time) where
  pub shared_options : options_of (early_of access time) + options_of (late_of access time)
      ≤ options_of access
  shared_options =
      subst (λ o. options_of (early_of (record { window = o; must = access.must }) time)
      + options_of (late_of (record { window = o; must = access.must }) time)
      ≤ options_of (record { window = o; must = access.must })) (sym branching.is_open)
      (shared_opened branching.window access.must time branching.from branching.to branching.later)

  pub early_some : 1 ≤ options_of (early_of access time)
  early_some = rw branching.is_open (omega (arith, branching.from, branching.to))

  pub late_some : 1 ≤ options_of (late_of access time)
  late_some =
      subst (λ o. 1 ≤ options_of (late_of (record { window = o; must = access.must }) time))
      (sym branching.is_open)
      (late_opened branching.window access.must time branching.from branching.to branching.later)
