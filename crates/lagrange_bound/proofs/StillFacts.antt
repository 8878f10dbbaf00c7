-- Rounds that leave prices where they are tell no more, as those after round 1,024, of a step of 0.
use Rattle.std.proofs.Common.{◌≡◌, ◌⊎◌, ℕ, zero, suc, ◌<◌, ◌≤◌, Bool, true, false, if◌then◌else◌, length, inl, inr, refl, sym, subst, arith}
use Rattle.std.proofs.lemmas.Bool.{cases_lt}
use Rattle.std.proofs.Math.Nat.{div-eq_of_lt}
use Rattle.flow_types.specs.declared.bound.Bound.{Bound}
use Rattle.flow_types.specs.declared.bound.Bound.TheVariants.{AtLeast, NoPlan}
use Rattle.flow_types.specs.declared.bound.PriceKey.{PriceKey}
use Rattle.flow_types.specs.declared.parts.Parts.{Parts}
use Rattle.flow_types.specs.Valid.{IsScenario}
use Rattle.flight_routes.specs.Prices.{ArePricesOf, PriceTable, price_at}
use Rattle.plan_rules.specs.Tally.{Tally}
use Rattle.priced_plans.specs.Keys.{has_limit}
use Rattle.priced_plans.specs.Usage.{Traffic, limit, traffic_in, used}
use Rattle.time_windows.specs.Boxes.{Box}
use Rattle.lagrange_bound.specs.Best.{IsMostOfRounds}
use Rattle.flow_types.specs.Bounds.{IsAtMost}
use Rattle.lagrange_bound.specs.Moves.{AreMoved}
use Rattle.lagrange_bound.specs.Rounds.{IsRoundBound, IsRoundStep, IsRoundTable, IsTableBound, moved, moved_price}
use Rattle.lagrange_bound.specs.Taking.{HaveTaken}
use Rattle.lagrange_bound.specs.Work.{ArePlayed, IsBest}
use Rattle.lagrange_bound.proofs.BestFacts.{rounds_go_on}
use Rattle.lagrange_bound.proofs.SameFacts.{round_same}
use Rattle.lagrange_bound.proofs.StepFacts.{round_played}

moved_none : (count limit price : ℕ) → moved 0 count limit price ≡ price
moved_none count limit price = omega arith

module _ (parts : Parts) where
  price_stays : (traffic : Traffic) (k : PriceKey) (price : ℕ)
      → moved_price parts traffic 0 k price ≡ price
  price_stays traffic k price = by (has_limit parts k)
    where
      by : (b : Bool)
          → (if b then moved 0 (used parts traffic k) (limit parts traffic k) price else price)
          ≡ price
      by true = moved_none (used parts traffic k) (limit parts traffic k) price
      by false = refl

  still : (loads : Tally) (table : PriceTable) → ArePricesOf parts table
      → AreMoved parts (moved_price parts (traffic_in loads) 0) (λ k. true) table table
  still loads table size = record {
    size = size;
    each = λ k within. sym (price_stays (traffic_in loads) k (price_at table k));
    rise = λ k within. omega arith;
  }

  -- prices that each round after the first so many leaves as they are
  module _ (box : Box) (valid : IsScenario parts) (first : ℕ) (table : PriceTable)
      (after : IsRoundTable parts box first table) (last : Bound)
      (told : IsTableBound parts box table last)
      (stay : (round : ℕ) → first < round → IsRoundStep parts box round table table) where
    stands : (round : ℕ) → first ≤ round → IsRoundTable parts box round table
    stands zero late =
        let same : first ≡ 0 = omega (arith, late) in
        subst (λ n. IsRoundTable parts box n table) same after
    stands (suc before) late = by (cases_lt before first) (λ more. stands before more) where
      by : (before < first) ⊎ (first ≤ before)
          → (first ≤ before → IsRoundTable parts box before table)
          → IsRoundTable parts box (suc before) table
      by (inl early) goes_on =
          let same : first ≡ suc before = omega (arith, early, late) in
          subst (λ n. IsRoundTable parts box n table) same after
      by (inr more) goes_on = (table, goes_on more, stay (suc before) (omega (arith, more)))

    tells : (round : ℕ) → first ≤ round → IsRoundBound parts box round last
    tells round late = (table, stands round late, told)

    pub most_stands : (up : Bound) → IsMostOfRounds parts box first up → (rounds : ℕ)
        → IsMostOfRounds parts box rounds up
    most_stands up most rounds = record {
      told = λ round within. has round (cases_lt round first);
      no_more = λ round other within at. by round other at (cases_lt round first);
    }
      where
        has : (round : ℕ) → (round < first) ⊎ (first ≤ round)
            → (bound : Bound) × IsRoundBound parts box round bound
        has round (inl early) = most.told round (omega (arith, early))
        has round (inr late) = (last, tells round late)

        by : (round : ℕ) (other : Bound) → IsRoundBound parts box round other
            → (round < first) ⊎ (first ≤ round) → IsAtMost other up
        by round other at (inl early) = most.no_more round other (omega (arith, early)) at
        by round other at (inr late) =
            let same = round_same parts box round other last valid at (tells round late) in
            subst (λ b. IsAtMost b up) (sym same)
            (most.no_more first last (omega arith) (tells first (omega arith)))

-- so the best of these rounds is the best of more
pub best_stands : (parts : Parts) (box : Box) (valid : IsScenario parts) (first : ℕ)
    (prices best : PriceTable) (loads : Tally) (bound : Bound) (rounds : ℕ) → first ≤ rounds
    → (HaveTaken parts box prices (length parts.flights) loads → (round : ℕ) → first < round
    → IsRoundStep parts box round prices prices)
    → ArePlayed parts box first prices best loads bound → IsBest parts box rounds best bound
best_stands parts box valid first prices best loads bound rounds late stay played = record {
  size = played.kept.size;
  one = record {
    round = played.kept.one.round;
    within = let within = played.kept.one.within in omega (arith, within, late);
    after = played.kept.one.after;
  };
  told = played.kept.told;
  most = by bound played;
}
  where
    by : (up : Bound) → ArePlayed parts box first prices best loads up
        → IsMostOfRounds parts box rounds up
    by NoPlan none = record {
      told = rounds_go_on parts box first none.kept.told none.kept.most.told rounds;
      no_more = λ round other within at. tt;
    }
    by (AtLeast least) some =
        most_stands parts box valid first prices some.table some.last.0 some.last.1
        (stay some.taken) (AtLeast least) some.kept.most rounds

-- after round 1,024 the step is 0
pub last_stands : (parts : Parts) (box : Box) (valid : IsScenario parts) (prices best : PriceTable)
    (loads : Tally) (bound : Bound) (rounds : ℕ) → 1024 ≤ rounds
    → ArePlayed parts box 1024 prices best loads bound → IsBest parts box rounds best bound
last_stands parts box valid prices best loads bound rounds late played =
    best_stands parts box valid 1024 prices best loads bound rounds late
    (λ taken round after. round_played parts box round 0 loads prices prices
    (sym (div-eq_of_lt after)) taken (still parts loads prices played.size))
    played
