-- What prices are put on: a key is told by its kind, row and period.
use Rattle.std.proofs.Common.{◌≡◌, ℕ, zero, suc, ◌<◌, true, ◌&&◌, nat_eq, List, get_or, refl, ap, ◌∙◌, subst, arith}
use Rattle.std.proofs.lemmas.Bool.{and_parts}
use Rattle.std.proofs.lemmas.Bool.Decides.{nat_tests}
use Rattle.flow_types.specs.declared.bound.PriceKey.{PriceKey}
use Rattle.flow_types.specs.declared.bound.PriceKind.{PriceKind}
use Rattle.flow_types.specs.declared.bound.PriceKind.TheVariants.{Capacity, Connection}
use Rattle.flow_types.specs.declared.parts.Parts.{Parts}
use Rattle.flow_types.specs.declared.place.CapKind.TheVariants as cap
use Rattle.flight_routes.specs.Prices.{ArePricesOf, IsKeyOf, PriceTable, kind_number, row_count}
use Rattle.flight_routes.proofs.PriceFacts.{same_key, same_kind, sized}
use Rattle.priced_plans.specs.Keys.{IsKeyFor, is_at, price_kinds}

-- a key of the day is one of its tables, and the other way
pub key_of : (parts : Parts) (table : PriceTable) (k : PriceKey) → ArePricesOf parts table
    → IsKeyFor parts k → IsKeyOf table k
key_of parts table k are within =
    let size = sized parts table k.kind are in
    record {
      within = omega (arith, size.wide, within.0);
      in_day = omega (arith, size.long, within.1);
    }

pub key_back : (parts : Parts) (table : PriceTable) (k : PriceKey) → ArePricesOf parts table
    → IsKeyOf table k → IsKeyFor parts k
key_back parts table k are is =
    let size = sized parts table k.kind are in
    (omega (arith, size.wide, is.within), omega (arith, size.long, is.in_day))

pub same_numbers : (a b : ℕ) → nat_eq a b ≡ true → a ≡ b
same_numbers a b test = grind (arith, nat_tests)

pub itself : (a b c : ℕ) → (nat_eq a a && (nat_eq b b && nat_eq c c)) ≡ true
itself a b c = grind (arith, nat_tests)

pub key_at : (k other : PriceKey) → is_at (kind_number k.kind) k.row k.period other ≡ true
    → other ≡ k
key_at k other at =
    let kind = and_parts (nat_eq (kind_number other.kind) (kind_number k.kind)) _ at in
    let place = and_parts (nat_eq other.row k.row) _ kind.1 in
    same_key other k
    (same_kind other.kind k.kind
    (same_numbers (kind_number other.kind) (kind_number k.kind) kind.0))
    (same_numbers other.row k.row place.0) (same_numbers other.period k.period place.1)

-- the row of a key of this kind is one of its rows
pub row_within : (parts : Parts) (kind : PriceKind) (k : PriceKey) → IsKeyFor parts k
    → kind_number k.kind ≡ kind_number kind → k.row < row_count parts kind
row_within parts kind k within same =
    subst (λ (it : PriceKind). k.row < row_count parts it) (same_kind k.kind kind same) within.0

-- each kind stands at its number, and there are four
kind_at : (at : ℕ) (none : PriceKind) → at < 4 → kind_number (get_or price_kinds at none) ≡ at
kind_at zero none less = refl
kind_at (suc zero) none less = refl
kind_at (suc (suc zero)) none less = refl
kind_at (suc (suc (suc zero))) none less = refl
kind_at (suc (suc (suc (suc n)))) none less = absurd (omega (arith, less))

pub kind_in : (kinds : List PriceKind) (at : ℕ) (none : PriceKind) → kinds ≡ price_kinds → at < 4
    → kind_number (get_or kinds at none) ≡ at
kind_in kinds at none are less =
    ap (λ them. kind_number (get_or them at none)) are ∙ kind_at at none less

pub kind_below : (kind : PriceKind) → kind_number kind < 4
kind_below (Capacity cap.Dep) = omega arith
kind_below (Capacity cap.Arr) = omega arith
kind_below (Capacity cap.Sector) = omega arith
kind_below Connection = omega arith
