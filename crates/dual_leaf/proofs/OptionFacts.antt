-- Nodes that no flight has are closed and needn't be entered, so no search needs a look at them.
use Rattle.std.proofs.Common.{◌≡◌, ℕ, ◌≤◌, true, false, length, List, All, Option, None, Some, slice_get, refl, sym, ◌∙◌, subst, inl, inr}
use Rattle.std.proofs.lemmas.Bool.{cases_lt}
use Rattle.std.proofs.lemmas.List.Elements.{All-contains}
use Rattle.std.proofs.lemmas.Option.{slice_get_past}
use Rattle.std.specs.List.{Any}
use Rattle.exact_sums.proofs.ItemFacts.{item_there}
use Rattle.flow_types.specs.declared.parts.Parts.{Parts}
use Rattle.flow_types.specs.declared.plan.Stop.{Stop}
use Rattle.time_windows.specs.declared.access.Access.{Access}
use Rattle.time_windows.specs.declared.access.Window.{Window}
use Rattle.time_windows.specs.Boxes.{Box, IsBoxOf, IsClosedMust, IsInWindow, IsWindowWithin, root_box}
use Rattle.time_windows.specs.Plans.{HasNoPlan}
use Rattle.time_windows.proofs.PlanFacts.{planned}
use Rattle.dual_leaf.specs.declared.options.Kind.{Kind}
use Rattle.dual_leaf.specs.declared.options.Kind.TheVariants.{ClosedMust, NotOne}
use Rattle.dual_leaf.specs.Options.{IsOfKind}

shut_kind : (kind : Kind) (access : Access) → access.window ≡ None → access.must ≡ false
    → IsOfKind kind access → ⊥
shut_kind ClosedMust access shut free is =
    let e : true ≡ false = sym is.must ∙ free in
    absurd (let none : ⊥ = cc in none)
shut_kind NotOne access shut free is = is (rw (shut, free) refl)

within_shut : (window outer : Option Window) → outer ≡ None → IsWindowWithin window outer
    → window ≡ None
within_shut None outer is within = refl
within_shut (Some w) None is within = absurd within
within_shut (Some w) (Some o) is within = absurd (let e : ⊥ = cc in e)

module _ (parts : Parts) (box : Box) (of : IsBoxOf parts box) where
  beyond : (kind : Kind) (f n : ℕ) → (root_box parts f n).window ≡ None
      → IsOfKind kind (box f n) → ⊥
  beyond kind f n shut is =
      shut_kind kind (box f n)
      (within_shut (box f n).window (root_box parts f n).window shut (of.windows f n))
      (of.nodes f n shut) is

  pub beyond_flights : (kind : Kind) (f n : ℕ) → length parts.flights ≤ f
      → IsOfKind kind (box f n) → ⊥
  beyond_flights kind f n past is =
      let none : slice_get parts.flights f ≡ None = slice_get_past parts.flights f past in
      beyond kind f n (rw none refl) is

-- no plan stops at a node that is closed
pub no_plan_by : (parts : Parts) (box : Box) (f n : ℕ) → IsBoxOf parts box
    → IsClosedMust (box f n) → HasNoPlan parts box
no_plan_by parts box f n of shut plan kept =
    elim (cases_lt f (length parts.flights)) as (λ _. ⊥) [
      | inr past ↦ beyond_flights parts box of ClosedMust f n past shut
      | inl below ↦
          let flight = item_there parts.flights f below in
          let at = planned parts.day.periods parts.flights plan f flight.0 kept.feasible.trips
          flight.1 in
          let trip = kept.inside f at.trip at.is in
          stops_at at.trip (trip.musts n shut.must) trip.windows
    ]
  where
    stops_at : (stops : List Stop) → Any (λ (s : Stop). s.node ≡ n) stops
        → All (λ (s : Stop). IsInWindow (box f s.node).window s.time) stops → ⊥
    stops_at stops any windows =
        let stop = any.1 in
        let there : IsInWindow (box f stop.node).window stop.time =
        All-contains (λ (s : Stop). IsInWindow (box f s.node).window s.time) stops stop windows
        (any.0, any.2, any.3) in
        let here : IsInWindow (box f n).window stop.time =
        subst (λ m. IsInWindow (box f m).window stop.time) any.4 there in
        subst (λ w. IsInWindow w stop.time) shut.shut here
