-- Prices that are small, and stay so.
use Rattle.std.proofs.Common.{◌≡◌, ◌≢◌, ◌⊎◌, ◌^◌, ℕ, ◌<◌, ap, inl, inr, arith}
use Rattle.flow_types.specs.declared.bound.PriceKey.{PriceKey}
use Rattle.flow_types.specs.declared.parts.Parts.{Parts}
use Rattle.flight_routes.specs.Prices.{AreFree, ArePricesOf, IsKeyOf, PriceTable, price_at}
use Rattle.flight_routes.proofs.PriceFacts.{keys_are}
use Rattle.priced_plans.specs.Valuing.{AreSmall}
use Rattle.priced_plans.proofs.KeyFacts.{key_back, key_of}

pub free-small : (table : PriceTable) → AreFree table → AreSmall table
free-small table free = λ key is. omega (arith, free key)

-- a key of the one is a key of the other, where both are of the scenario
pub key_moved : (parts : Parts) (old new : PriceTable) (at : PriceKey) → ArePricesOf parts old
    → ArePricesOf parts new → IsKeyOf new at → IsKeyOf old at
key_moved parts old new at was now is =
    key_of parts old at was (key_back parts new at now is)

pub set-small : (parts : Parts) (old new : PriceTable) (chosen : PriceKey) (value : ℕ)
    → ArePricesOf parts old → ArePricesOf parts new → AreSmall old → value < 2 ^ 62
    → price_at new chosen ≡ value
    → ((other : PriceKey) → IsKeyOf old other → other ≢ chosen
    → price_at new other ≡ price_at old other)
    → AreSmall new
set-small parts old new chosen value was now small few here others = λ at is.
    by at (key_moved parts old new at was now is) (keys_are at chosen)
  where
    by : (at : PriceKey) → IsKeyOf old at → (at ≡ chosen) ⊎ (at ≢ chosen)
        → price_at new at < 2 ^ 62
    by at is (inl same) = omega (arith, ap (price_at new) same, here, few)
    by at is (inr other) = omega (arith, others at is other, small at is)
