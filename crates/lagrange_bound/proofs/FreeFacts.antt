-- Where trips pass no limit, a round leaves prices of 0 as they are.
use Rattle.std.proofs.Common.{◌≡◌, ℕ, ◌*◌, ◌≤◌, Bool, true, false, if◌then◌else◌, refl, arith}
use Rattle.std.proofs.Math.Nat.{mul-le-mul_left}
use Rattle.flow_types.specs.declared.bound.Bound.{Bound}
use Rattle.flow_types.specs.declared.bound.PriceKey.{PriceKey}
use Rattle.flow_types.specs.declared.bound.PriceKind.TheVariants.{Capacity, Connection}
use Rattle.flow_types.specs.declared.parts.Parts.{Parts}
use Rattle.flow_types.specs.declared.place.CapKind.TheVariants as cap
use Rattle.flow_types.specs.Valid.{IsScenario}
use Rattle.flight_routes.specs.Prices.{AreFree, ArePricesOf, PriceTable, price_at}
use Rattle.plan_rules.specs.Tally.{Tally}
use Rattle.priced_plans.specs.Keys.{has_limit}
use Rattle.priced_plans.specs.Usage.{Traffic, limit, traffic_in, used}
use Rattle.time_windows.specs.Boxes.{Box}
use Rattle.lagrange_bound.specs.Limits.{AreWithin, IsKindWithin}
use Rattle.lagrange_bound.specs.Moves.{AreMoved}
use Rattle.lagrange_bound.specs.Rounds.{IsTableBound, moved, moved_price, step_of}
use Rattle.lagrange_bound.specs.Work.{AreTakenFor, IsBest}
use Rattle.lagrange_bound.proofs.BestFacts.{first_played}
use Rattle.lagrange_bound.proofs.StepFacts.{round_played}
use Rattle.lagrange_bound.proofs.StillFacts.{best_stands}

pub all_within : (parts : Parts) (traffic : Traffic)
    → IsKindWithin parts traffic (Capacity cap.Dep)
    → IsKindWithin parts traffic (Capacity cap.Arr)
    → IsKindWithin parts traffic (Capacity cap.Sector)
    → IsKindWithin parts traffic Connection → AreWithin parts traffic
all_within parts traffic leaves arrives inside turns (Capacity cap.Dep) = leaves
all_within parts traffic leaves arrives inside turns (Capacity cap.Arr) = arrives
all_within parts traffic leaves arrives inside turns (Capacity cap.Sector) = inside
all_within parts traffic leaves arrives inside turns Connection = turns

moved_free : (step count most price : ℕ) → price ≡ 0 → count ≤ most
    → price ≡ moved step count most price
moved_free step count most price none few =
    let less : step * count ≤ step * most = mul-le-mul_left step few in omega (arith, none, less)

module _ (parts : Parts) where
  price_free : (traffic : Traffic) (k : PriceKey) (step price : ℕ) → price ≡ 0
      → (has_limit parts k ≡ true → used parts traffic k ≤ limit parts traffic k)
      → price ≡ moved_price parts traffic step k price
  price_free traffic k step price none within = by (has_limit parts k) within where
    by : (b : Bool) → (b ≡ true → used parts traffic k ≤ limit parts traffic k)
        → price
        ≡ (if b then moved step (used parts traffic k) (limit parts traffic k) price else price)
    by true few =
        moved_free step (used parts traffic k) (limit parts traffic k) price none (few refl)
    by false few = refl

  free_still : (loads : Tally) (step : ℕ) (table : PriceTable) → ArePricesOf parts table
      → AreFree table → AreWithin parts (traffic_in loads)
      → AreMoved parts (moved_price parts (traffic_in loads) step) (λ k. true) table table
  free_still loads step table size free within = record {
    size = size;
    each = λ k is. price_free (traffic_in loads) k step (price_at table k) (free k)
        (within k.kind k.row is.0 k.period is.1);
    rise = λ k is. omega arith;
  }

  -- so the first round is the best of all
  pub free_best : (box : Box) (valid : IsScenario parts) (table best : PriceTable) (loads : Tally)
      (bound : Bound) (rounds : ℕ) → ArePricesOf parts table → AreFree table
      → IsTableBound parts box table bound → AreTakenFor parts box table loads bound
      → best ≡ table → AreWithin parts (traffic_in loads) → IsBest parts box rounds best bound
  free_best box valid table best loads bound rounds size free told taken copied within =
      best_stands parts box valid 0 table best loads bound rounds (omega arith)
      (λ have round after. round_played parts box round (step_of round) loads table table refl
      have (free_still loads (step_of round) table size free within))
      (first_played parts box valid table best loads bound size free told taken copied)
