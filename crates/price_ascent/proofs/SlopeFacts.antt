-- Prices stay good where one that may rise is set, and slopes stay on such prices.
use Rattle.std.proofs.Common.{◌≡◌, ◌≢◌, ◌<◌, ◌^◌, ℕ, List, set, true, false, sym, ◌∙◌, ap}
use Rattle.std.proofs.lemmas.List.Elements.{All-set}
use Rattle.flow_types.specs.declared.bound.PriceKey.{PriceKey}
use Rattle.flow_types.specs.declared.parts.Parts.{Parts}
use Rattle.flight_routes.specs.Prices.{AreFree, ArePricesOf, IsKeyOf, PriceTable, price_at}
use Rattle.priced_plans.specs.Keys.{has_limit}
use Rattle.priced_plans.proofs.KeyFacts.{key_of}
use Rattle.priced_plans.proofs.SmallFacts.{free-small, set-small}
use Rattle.price_ascent.specs.declared.slopes.Slope.{Slope}
use Rattle.price_ascent.specs.Slopes.{AreSlopesFor, IsGood, IsSlopeKey}

pub good_free : (parts : Parts) (table : PriceTable) → ArePricesOf parts table → AreFree table
    → IsGood parts table
good_free parts table size free = record {
  size = size;
  placed = λ key there none. free key;
  small = free-small table free;
}

pub slopes_set : (parts : Parts) (slopes : List Slope) (at : ℕ) (slope : Slope)
    → AreSlopesFor parts slopes → IsSlopeKey parts slope.key
    → AreSlopesFor parts (set slopes at slope)
slopes_set parts slopes at slope are key =
    All-set (λ (s : Slope). IsSlopeKey parts s.key) slopes at slope key are

pub good_set : (parts : Parts) (old new : PriceTable) (key : PriceKey) (value : ℕ)
    → IsGood parts old → IsSlopeKey parts key → ArePricesOf parts new → value < 2 ^ 62
    → price_at new key ≡ value
    → ((other : PriceKey) → IsKeyOf old other → other ≢ key
    → price_at new other ≡ price_at old other)
    → IsGood parts new
good_set parts old new key value good slope size few here others = record {
  size = size;
  placed = λ other there none.
      others other (key_of parts old other good.size there)
      (λ same. apart other none same) ∙ good.placed other there none;
  small = set-small parts old new key value good.size size good.small few here others;
}
  where
    apart : (other : PriceKey) → has_limit parts other ≡ false → other ≡ key → ⊥
    apart other none same =
        let e : true ≡ false = sym slope.limit ∙ sym (ap (has_limit parts) same) ∙ none in cc
