-- What the loads move prices by is what the trips do that they count.
use Rattle.std.proofs.Common.{◌≡◌, ℕ, true, if◌then◌else◌, List, length, inl, ap₂, subst, ◌∙◌}
use Rattle.flow_types.specs.declared.parts.Parts.{Parts}
use Rattle.flow_types.specs.declared.plan.Stop.{Stop}
use Rattle.flight_routes.specs.Prices.{PriceTable, price_at}
use Rattle.plan_rules.specs.Tally.{Tally}
use Rattle.plan_rules.specs.Loads.{AreLoads}
use Rattle.priced_plans.specs.Keys.{has_limit}
use Rattle.priced_plans.specs.Usage.{traffic_in}
use Rattle.priced_plans.proofs.UsageFacts.{limit_same, used_same}
use Rattle.time_windows.specs.Boxes.{Box}
use Rattle.lagrange_bound.specs.Moves.{AreMoved}
use Rattle.lagrange_bound.specs.Rounds.{IsMovedBy, IsRoundStep, moved, moved_price, step_of}
use Rattle.lagrange_bound.specs.Taking.{HaveTaken}
use Rattle.lagrange_bound.proofs.TakeFacts.{all_taken}

module _ (parts : Parts) (trips : List (List Stop)) (loads : Tally)
    (are : AreLoads parts trips loads) where
  pub moved_by_trips : (step : ℕ) (old new : PriceTable)
      → AreMoved parts (moved_price parts (traffic_in loads) step) (λ k. true) old new
      → IsMovedBy parts trips step old new
  moved_by_trips step old new made = record {
    size = made.size;
    each = λ k within. made.each k within
        ∙ ap₂ (λ used limit. if has_limit parts k then moved step used limit (price_at old k)
        else price_at old k)
        (used_same parts trips loads are k.kind k.row k.period within.0 within.1)
        (limit_same parts trips loads are k.kind k.row k.period);
  }

-- a round, once the trips are taken
pub round_played : (parts : Parts) (box : Box) (round step : ℕ) (loads : Tally)
    (old new : PriceTable) → step ≡ step_of round
    → HaveTaken parts box old (length parts.flights) loads
    → AreMoved parts (moved_price parts (traffic_in loads) step) (λ k. true) old new
    → IsRoundStep parts box round old new
round_played parts box round step loads old new is (trips, have) made = inl (
  trips,
  record {
    least = all_taken parts box old loads trips have;
    moved = subst (λ n. IsMovedBy parts trips n old new) is
        (moved_by_trips parts trips loads have.counted step old new made);
  },
)
