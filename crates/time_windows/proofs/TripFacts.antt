-- Where a trip is: it visits each node at most once, and goes on upward.
use Rattle.std.proofs.Common.{◌≡◌, ◌≢◌, ℕ, ◌+◌, ◌-◌, ◌<◌, ◌==◌, Bool, List, [], ◌∷◌, length, All, if◌then◌else◌, Option, None, Some, inl, inr, refl, sym, ◌∙◌, subst, arith}
use Rattle.std.proofs.lemmas.Bool.{cases_eq}
use Rattle.std.proofs.lemmas.List.Elements.{All-cons, All-contains, All-head, All-nil, All-tail, All-weaker}
use Rattle.std.specs.List.{Any}
use Rattle.flow_types.specs.declared.flight.Flight.{Flight}
use Rattle.flow_types.specs.declared.flight.Leg.{Leg}
use Rattle.flow_types.specs.declared.plan.Stop.{Stop}
use Rattle.flow_types.specs.Routes.{IsLeg}
use Rattle.flow_types.specs.Trips.{IsLegBetween, IsOnward, IsStep, IsWithinHours, arrival_from}
use Rattle.time_windows.specs.declared.access.Access.{Access}
use Rattle.time_windows.specs.declared.access.Window.{Window}
use Rattle.time_windows.specs.Boxes.{IsInWindow, IsWindowWithin}
use Rattle.time_windows.specs.Tight.{IsLegIn, IsLegOut, LeadsOn, LeadsTo}
use Rattle.time_windows.proofs.AnyFacts.{any_here, any_map, any_there}
use Rattle.time_windows.proofs.RootFacts.{if_eq}

-- one period
abbrev pub moment : ℕ → Window
moment time = record { lo = time; hi = time }

-- when a trip enters a node
abbrev pub at_node : List Stop → ℕ → Option Window
at_node [] node = None
at_node (stop ∷ rest) node =
    if stop.node == node then Some (moment stop.time) else at_node rest node

abbrev pub trip_row : (ℕ → Bool) → List Stop → ℕ → Access
trip_row marks stops node = record { window = at_node stops node; must = marks node }

pub at_here : (stop : Stop) (rest : List Stop) (node : ℕ) → stop.node ≡ node
    → at_node (stop ∷ rest) node ≡ Some (moment stop.time)
at_here stop rest node here =
    if_eq (λ w. w ≡ Some (moment stop.time)) stop.node node (Some (moment stop.time))
    (at_node rest node) (λ _. refl) (λ apart. absurd (apart here))

pub at_skip : (stop : Stop) (rest : List Stop) (node : ℕ) → stop.node ≢ node
    → at_node (stop ∷ rest) node ≡ at_node rest node
at_skip stop rest node apart =
    if_eq (λ w. w ≡ at_node rest node) stop.node node (Some (moment stop.time))
    (at_node rest node) (λ here. absurd (apart here)) (λ _. refl)

same_moment : (w : Window) (time : ℕ) → Some (moment time) ≡ Some w → moment time ≡ w
same_moment w time e = cc

-- a window that leads somewhere is there
leads_some : (w : Option Window) (least : ℕ) (v : Window) → LeadsTo w least v
    → (x : Window) × (w ≡ Some x)
leads_some None least v leads = absurd leads
leads_some (Some x) least v leads = (x, refl)

leads_on_some : (w : Option Window) (least : ℕ) (v : Window) → LeadsOn w least v
    → (x : Window) × (w ≡ Some x)
leads_on_some None least v leads = absurd leads
leads_on_some (Some x) least v leads = (x, refl)

module _ (periods : ℕ) (flight : Flight)
    (upward : All (IsLeg (length flight.nodes)) flight.legs) where
  pub step_up : (stop next : Stop) → IsStep flight.legs stop next
      → (stop.node < next.node) × (next.node < length flight.nodes)
  step_up stop next step =
      let leg = All-contains (IsLeg (length flight.nodes)) flight.legs step.1 upward
      (step.0, step.2, step.3) in
      (omega (arith, leg.upward, step.4.from, step.4.to), omega (arith, leg.within, step.4.to))

  -- later nodes are higher
  pub visits_later : (stop : Stop) (rest : List Stop) (node : ℕ) (w : Window)
      → IsOnward periods flight stop rest → at_node rest node ≡ Some w → stop.node < node
  visits_later stop [] node w onward is = absurd cc
  visits_later stop (next ∷ more) node w onward is =
      let up = step_up stop next onward.0 in
      elim (cases_eq next.node node) as (λ _. stop.node < node) [
        | inl here ↦ omega (arith, up.0, here)
        | inr apart ↦ omega (
          arith,
          up.0,
          visits_later next more node w onward.2
              (sym (at_skip next more node apart) ∙ is),
        )
      ]

  -- past the present stop the rest says where the trip is
  pub at_rest : (stop : Stop) (rest : List Stop) (node : ℕ) (w : Window)
      → IsOnward periods flight stop rest → at_node rest node ≡ Some w
      → at_node (stop ∷ rest) node ≡ at_node rest node
  at_rest stop rest node w onward is =
      at_skip stop rest node (λ e. omega (arith, visits_later stop rest node w onward is))

  in_here : (marks : ℕ → Bool) (stop next : Stop) (more : List Stop) (node : ℕ) (w : Window)
      → next.node ≡ node → moment next.time ≡ w → (leg : Leg) → IsLegBetween stop next leg
      → IsLegIn (trip_row marks (stop ∷ next ∷ more)) node w leg
  in_here marks stop next more node w here same leg between = record {
    to = between.to ∙ here;
    time = rw (at_here stop (next ∷ more) leg.from (sym between.from), ← same) between.least;
  }

  in_later : (marks : ℕ → Bool) (stop : Stop) (rest : List Stop) (node : ℕ) (w : Window)
      → IsOnward periods flight stop rest → (leg : Leg)
      → IsLegIn (trip_row marks rest) node w leg
      → IsLegIn (trip_row marks (stop ∷ rest)) node w leg
  in_later marks stop rest node w onward leg joins =
      let there = leads_some (at_node rest leg.from) leg.least w joins.time in
      record {
        to = joins.to;
        time = rw (at_rest stop rest leg.from there.0 onward there.1) joins.time;
      }

  -- each entry but the first is led up to
  pub entered_on : (marks : ℕ → Bool) (stop : Stop) (rest : List Stop) (node : ℕ) (w : Window)
      → IsOnward periods flight stop rest → at_node rest node ≡ Some w
      → Any (IsLegIn (trip_row marks (stop ∷ rest)) node w) flight.legs
  entered_on marks stop [] node w onward is = absurd cc
  entered_on marks stop (next ∷ more) node w onward is =
      elim (cases_eq next.node node)
      as (λ _. Any (IsLegIn (trip_row marks (stop ∷ next ∷ more)) node w) flight.legs) [
        | inl here ↦ any_map (IsLegBetween stop next)
            (IsLegIn (trip_row marks (stop ∷ next ∷ more)) node w) flight.legs
            (λ leg on between. in_here marks stop next more node w here
            (same_moment w next.time (sym (at_here next more node here) ∙ is)) leg between) onward.0
        | inr apart ↦ any_map (IsLegIn (trip_row marks (next ∷ more)) node w)
            (IsLegIn (trip_row marks (stop ∷ next ∷ more)) node w) flight.legs
            (λ leg on joins. in_later marks stop (next ∷ more) node w onward leg joins)
            (entered_on marks next more node w onward.2
            (sym (at_skip next more node apart) ∙ is))
      ]

  out_here : (marks : ℕ → Bool) (stop next : Stop) (more : List Stop) (node : ℕ) (w : Window)
      → IsOnward periods flight stop (next ∷ more) → stop.node ≡ node → moment stop.time ≡ w
      → (leg : Leg) → IsLegBetween stop next leg
      → IsLegOut (trip_row marks (stop ∷ next ∷ more)) node w leg
  out_here marks stop next more node w onward here same leg between =
      let there = at_here next more leg.to (sym between.to) in
      record {
        from = between.from ∙ here;
        time = rw (at_rest stop (next ∷ more) leg.to (moment next.time) onward there, there, ← same)
            between.least;
      }

  out_later : (marks : ℕ → Bool) (stop : Stop) (rest : List Stop) (node : ℕ) (w : Window)
      → IsOnward periods flight stop rest → (leg : Leg)
      → IsLegOut (trip_row marks rest) node w leg
      → IsLegOut (trip_row marks (stop ∷ rest)) node w leg
  out_later marks stop rest node w onward leg joins =
      let there = leads_on_some (at_node rest leg.to) leg.least w joins.time in
      record {
        from = joins.from;
        time = rw (at_rest stop rest leg.to there.0 onward there.1) joins.time;
      }

  out_last : (marks : ℕ → Bool) (stop : Stop) (node : ℕ) (w : Window)
      → stop.node + 1 ≡ length flight.nodes → node + 1 < length flight.nodes
      → at_node (stop ∷ []) node ≡ Some w → ⊥
  out_last marks stop node w last below is =
      let skipped = at_skip stop [] node (λ e. omega (arith, e, last, below)) in
      cc

  -- each entry but the last is led on from
  pub left_on : (marks : ℕ → Bool) (stop : Stop) (rest : List Stop) (node : ℕ) (w : Window)
      → IsOnward periods flight stop rest → node + 1 < length flight.nodes
      → at_node (stop ∷ rest) node ≡ Some w
      → Any (IsLegOut (trip_row marks (stop ∷ rest)) node w) flight.legs
  left_on marks stop [] node w onward below is =
      absurd (out_last marks stop node w onward below is)
  left_on marks stop (next ∷ more) node w onward below is =
      elim (cases_eq stop.node node)
      as (λ _. Any (IsLegOut (trip_row marks (stop ∷ next ∷ more)) node w) flight.legs) [
        | inl here ↦ any_map (IsLegBetween stop next)
            (IsLegOut (trip_row marks (stop ∷ next ∷ more)) node w) flight.legs
            (λ leg on between. out_here marks stop next more node w onward here
            (same_moment w stop.time (sym (at_here stop (next ∷ more) node here) ∙ is)) leg between)
            onward.0
        | inr apart ↦ any_map (IsLegOut (trip_row marks (next ∷ more)) node w)
            (IsLegOut (trip_row marks (stop ∷ next ∷ more)) node w) flight.legs
            (λ leg on joins. out_later marks stop (next ∷ more) node w onward leg joins)
            (left_on marks next more node w onward.2 below
            (sym (at_skip stop (next ∷ more) node apart) ∙ is))
      ]

  -- the last node is entered on arrival
  pub last_at : (stop : Stop) (rest : List Stop) → IsOnward periods flight stop rest
      → at_node (stop ∷ rest) (length flight.nodes - 1) ≡ Some (moment (arrival_from stop rest))
  last_at stop [] onward = at_here stop [] (length flight.nodes - 1) (omega (arith, onward))
  last_at stop (next ∷ more) onward =
      let later = last_at next more onward.2 in
      at_rest stop (next ∷ more) (length flight.nodes - 1) (moment (arrival_from next more)) onward
      later ∙ later

  -- each stop is where the trip is at its node
  pub each_at : (stop : Stop) (rest : List Stop) → IsOnward periods flight stop rest
      → All (λ s. at_node (stop ∷ rest) s.node ≡ Some (moment s.time)) (stop ∷ rest)
  each_at stop [] onward =
      All-cons (λ s. at_node (stop ∷ []) s.node ≡ Some (moment s.time)) stop []
      (at_here stop [] stop.node refl)
      (All-nil (λ s. at_node (stop ∷ []) s.node ≡ Some (moment s.time)))
  each_at stop (next ∷ more) onward =
      All-cons (λ s. at_node (stop ∷ next ∷ more) s.node ≡ Some (moment s.time)) stop (next ∷ more)
      (at_here stop (next ∷ more) stop.node refl)
      (All-weaker (λ s. at_node (next ∷ more) s.node ≡ Some (moment s.time))
      (λ s. at_node (stop ∷ next ∷ more) s.node ≡ Some (moment s.time))
      (λ s is. at_rest stop (next ∷ more) s.node (moment s.time) onward is ∙ is) (next ∷ more)
      (each_at next more onward.2))

  -- each stop is at a node of the flight, within its hours
  pub each_within : (stop : Stop) (rest : List Stop) → stop.node < length flight.nodes
      → IsWithinHours periods flight stop → IsOnward periods flight stop rest
      → All (λ s. (s.node < length flight.nodes) × IsWithinHours periods flight s) (stop ∷ rest)
  each_within stop [] below hours onward =
      All-cons (λ s. (s.node < length flight.nodes) × IsWithinHours periods flight s) stop []
      (below, hours)
      (All-nil (λ s. (s.node < length flight.nodes) × IsWithinHours periods flight s))
  each_within stop (next ∷ more) below hours onward =
      All-cons (λ s. (s.node < length flight.nodes) × IsWithinHours periods flight s) stop
      (next ∷ more) (below, hours)
      (each_within next more (step_up stop next onward.0).1 onward.1 onward.2)

  -- the last node is visited
  pub visits_last : (stop : Stop) (rest : List Stop) (node : ℕ) → node + 1 ≡ length flight.nodes
      → IsOnward periods flight stop rest → Any (λ s. s.node ≡ node) (stop ∷ rest)
  visits_last stop [] node last onward =
      any_here (λ s. s.node ≡ node) stop [] (omega (arith, last, onward))
  visits_last stop (next ∷ more) node last onward =
      any_there (λ s. s.node ≡ node) stop (next ∷ more)
      (visits_last next more node last onward.2)

-- a window holds a moment where it holds its period
pub moment_within : (w : Option Window) (time : ℕ) → IsInWindow w time
    → IsWindowWithin (Some (moment time)) w
moment_within None time within = within
moment_within (Some w) time within = within

pub moment_in : (w : Option Window) (time : ℕ) → IsWindowWithin (Some (moment time)) w
    → IsInWindow w time
moment_in None time within = within
moment_in (Some w) time within = within

-- a trip whose stops are in their windows
pub at_within : (row : ℕ → Access) (stops : List Stop) (node : ℕ)
    → All (λ s. IsInWindow (row s.node).window s.time) stops
    → IsWindowWithin (at_node stops node) (row node).window
at_within row [] node within = tt
at_within row (stop ∷ rest) node within =
    if_eq (λ w. IsWindowWithin w (row node).window) stop.node node (Some (moment stop.time))
    (at_node rest node)
    (λ here. moment_within (row node).window stop.time
    (subst (λ m. IsInWindow (row m).window stop.time) here
    (All-head (λ s. IsInWindow (row s.node).window s.time) stop rest within)))
    (λ _. at_within row rest node
    (All-tail (λ s. IsInWindow (row s.node).window s.time) stop rest within))
