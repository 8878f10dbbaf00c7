-- The listed prices are a Lag leaf, whose bound is what they tell.
use Rattle.std.proofs.Common.{◌≡◌, ℕ, ◌<◌, true, ◌&&◌, ◌||◌, nat_eq, nat_lt, List, Ok, if◌then◌else◌, refl, sym, ap, ◌∙◌, subst, inl, inr, arith}
use Rattle.std.proofs.lemmas.Bool.Decides.{nat_tests}
use Rattle.flow_types.specs.declared.bound.Bound.{Bound}
use Rattle.flow_types.specs.declared.bound.Bound.TheVariants.{AtLeast, NoPlan}
use Rattle.flow_types.specs.declared.bound.PriceKey.{PriceKey}
use Rattle.flow_types.specs.declared.parts.Parts.{Parts}
use Rattle.flight_routes.specs.Prices.{ArePricesOf, PriceTable, kind_number, price_at}
use Rattle.priced_plans.proofs.KeyFacts.{key_back, kind_below}
use Rattle.priced_plans.specs.PricedBound.{IsPricedBound}
use Rattle.time_windows.specs.Boxes.{Box}
use Rattle.branch_tree.specs.declared.leaf.Leaf.{Leaf}
use Rattle.branch_tree.specs.declared.leaf.Leaf.TheVariants.{Lag}
use Rattle.bytime_model.specs.declared.multiplier.Multiplier.{Multiplier}
use Rattle.dual_leaf.specs.Leaf.{IsLeafBound, IsTableAnswer}
use Rattle.dual_leaf.specs.PriceLeaf.{Closes, IsLagOf, TellsAs}
use Rattle.dual_leaf.specs.Listing.{IsListed, is_listed}

all_listed : (k : PriceKey) → is_listed 4 0 0 k ≡ true
all_listed k = listed (kind_number k.kind) k.row k.period (kind_below k.kind)
  where
    listed : (number row period : ℕ) → number < 4 → (nat_lt number 4 || (nat_eq number 4
        && (nat_lt row 0 || (nat_eq row 0 && nat_lt period 0)))) ≡ true
    listed number row period less = grind (arith, nat_tests)

pub lag-of : (parts : Parts) (weight : ℕ) (table : PriceTable) (rows : List Multiplier)
    → ArePricesOf parts table → IsListed parts table 4 0 0 rows
    → IsLagOf parts weight table (Lag weight rows)
lag-of parts weight table rows are listed = record {
  rows = rows;
  is = refl;
  priceable = listed.priceable;
  positive = listed.positive;
  ascending = listed.ascending;
  priced = record {
    size = are;
    each = λ k is. sym (listed.each k (key_back parts table k are is)
        ∙ ap (λ b. if b then price_at table k else 0) (all_listed k));
  };
}

answered : (parts : Parts) (box : Box) (weight : ℕ) (table : PriceTable) (bound : Bound)
    → 0 < weight
    → IsPricedBound parts box weight table bound → IsTableAnswer parts box weight table (Ok bound)
answered parts box weight table NoPlan some told = inl (record { lacks = told; none = refl })
answered parts box weight table (AtLeast least) some (value, priced, rounded) =
    inr (record { value = value; priced = priced; answered = (some, rounded) })

pub tells : (parts : Parts) (weight : ℕ) (table : PriceTable) (leaf : Leaf) → 0 < weight
    → IsLagOf parts weight table leaf → TellsAs parts weight table leaf
tells parts weight table leaf some is = λ pool box bound live told.
    subst (λ z. IsLeafBound parts pool box z (Ok bound)) (sym is.is) (inl (record {
      live = live;
      priceable = is.priceable;
      table = table;
      prices = is.priced;
      answered = answered parts box weight table bound some told;
    }))

pub closes : (parts : Parts) (table : PriceTable) (leaf : Leaf) → IsLagOf parts 0 table leaf
    → Closes parts table leaf
closes parts table leaf is = λ pool box value live priced above.
    subst (λ z. IsLeafBound parts pool box z (Ok NoPlan)) (sym is.is) (inl (record {
      live = live;
      priceable = is.priceable;
      table = table;
      prices = is.priced;
      answered = inr (record { value = value; priced = priced; answered = (refl, above) });
    }))
