-- Distances that are made flight by flight.
use Rattle.std.proofs.Common.{◌≡◌, ℕ, ◌≤◌, List, [], length, slice_get, inl, inr, sym, subst, arith}
use Rattle.std.proofs.lemmas.Bool.{cases_lt}
use Rattle.std.proofs.lemmas.List.{get_or_past}
use Rattle.std.proofs.lemmas.List.Elements.{All-nil}
use Rattle.std.proofs.lemmas.Option.{slice_get_past}
use Rattle.flow_types.specs.declared.parts.Parts.{Parts}
use Rattle.flow_types.specs.Routes.{IsLeg}
use Rattle.route_distances.specs.Walks.{legs_of, reaches_of, shortest_of}
use Rattle.route_distances.specs.Ways.{AreWaysAlong, Ways, reaches_in, shortest_in}
use Rattle.route_distances.proofs.WalkFacts.{far_beyond, reach_beyond}
use Rattle.cut_rows.specs.Routes.{AreRoutesOf, AreRoutesTo, no_ways, ways_of}

module _ (parts : Parts) where
  abbrev AreOf : ℕ → Ways → Type 0
  AreOf f ways = AreWaysAlong (legs_of (slice_get parts.flights f)) ways

  none_along : AreWaysAlong [] no_ways
  none_along = record {
    shortest = λ node. sym (far_beyond 0 [] (All-nil (IsLeg 0)) node (omega arith));
    reaches = λ from to. sym (reach_beyond 0 [] (All-nil (IsLeg 0)) from to (omega arith));
  }

  pub all_routes : (count : ℕ) (routes : List Ways) → AreRoutesTo parts count routes
      → length parts.flights ≤ count → AreRoutesOf parts routes
  all_routes count routes are all f =
      elim (cases_lt f count) as (λ _. AreOf f (ways_of routes f)) [
        | inl less ↦ are.each f less
        | inr more ↦ subst (λ o. AreWaysAlong (legs_of o) (ways_of routes f))
            (sym (slice_get_past parts.flights f (omega (arith, more, all))))
            (subst (AreWaysAlong []) (sym (get_or_past routes f no_ways
            (omega (arith, more, are.long)))) none_along)
      ]

  pub reaches_told : (routes : List Ways) (f from to : ℕ) → AreRoutesOf parts routes
      → reaches_in (ways_of routes f) from to
      ≡ reaches_of (legs_of (slice_get parts.flights f)) from to
  reaches_told routes f from to are = (are f).reaches from to

  pub shortest_told : (routes : List Ways) (f node : ℕ) → AreRoutesOf parts routes
      → shortest_in (ways_of routes f) node
      ≡ shortest_of (legs_of (slice_get parts.flights f)) node
  shortest_told routes f node are = (are f).shortest node
