-- What prices are put on, told apart; and one price set, in a block and in a table.
use Rattle.std.proofs.Common.{◌≡◌, ◌⊎◌, ◌≢◌, ℕ, zero, suc, ◌+◌, ◌*◌, ◌<◌, List, length, get_or, set, refl, sym, ap, ap₂, ◌∙◌, subst, inl, inr, arith}
use Rattle.std.proofs.lemmas.Bool.{cases_eq}
use Rattle.std.proofs.lemmas.List.{get_or-set_same, get_or-set_other}
use Rattle.std.proofs.lemmas.Nat.{mul-add-lt, same_from_place}
use Rattle.flow_types.specs.declared.bound.PriceKey.{PriceKey}
use Rattle.flow_types.specs.declared.bound.PriceKind.{PriceKind}
use Rattle.flow_types.specs.declared.bound.PriceKind.TheVariants.{Capacity, Connection as Connected}
use Rattle.flow_types.specs.declared.parts.Parts.{Parts}
use Rattle.flow_types.specs.declared.place.CapKind.TheVariants as cap
use Rattle.flight_routes.specs.Prices.{ArePricesOf, Block, IsKeyOf, IsPlaceIn, IsSized, PriceTable, Sets, SetsPrice, block_of, key_in, kind_number, price_at, price_in, row_count}

-- a kind is told by its number
abbrev kind_of : ℕ → PriceKind
kind_of zero = Capacity cap.Dep
kind_of (suc zero) = Capacity cap.Arr
kind_of (suc (suc zero)) = Capacity cap.Sector
kind_of (suc (suc (suc n))) = Connected

kind_back : (kind : PriceKind) → kind_of (kind_number kind) ≡ kind
kind_back (Capacity cap.Dep) = refl
kind_back (Capacity cap.Arr) = refl
kind_back (Capacity cap.Sector) = refl
kind_back Connected = refl

pub same_kind : (a b : PriceKind) → kind_number a ≡ kind_number b → a ≡ b
same_kind a b same = sym (kind_back a) ∙ ap kind_of same ∙ kind_back b

kinds_are : (a b : PriceKind) → (a ≡ b) ⊎ (a ≢ b)
kinds_are a b = by (cases_eq (kind_number a) (kind_number b))
  where
    by : (kind_number a ≡ kind_number b) ⊎ (kind_number a ≢ kind_number b) → (a ≡ b) ⊎ (a ≢ b)
    by (inl same) = inl (same_kind a b same)
    by (inr differ) = inr (λ is. differ (ap kind_number is))

-- a key is told by its kind, row and period
pub same_key : (a b : PriceKey) → a.kind ≡ b.kind → a.row ≡ b.row → a.period ≡ b.period → a ≡ b
same_key a b kind row period =
    ap₂ (λ (k : PriceKind) (r : ℕ). key_in k r a.period) kind row
    ∙ ap (λ (t : ℕ). key_in b.kind b.row t) period

pub keys_are : (a b : PriceKey) → (a ≡ b) ⊎ (a ≢ b)
keys_are a b =
    by (kinds_are a.kind b.kind) (cases_eq a.row b.row) (cases_eq a.period b.period)
  where
    by : (a.kind ≡ b.kind) ⊎ (a.kind ≢ b.kind) → (a.row ≡ b.row) ⊎ (a.row ≢ b.row)
        → (a.period ≡ b.period) ⊎ (a.period ≢ b.period) → (a ≡ b) ⊎ (a ≢ b)
    by (inl kind) (inl row) (inl period) = inl (same_key a b kind row period)
    by (inr other) row period = inr (λ is. other (ap (λ (k : PriceKey). k.kind) is))
    by (inl kind) (inr other) period = inr (λ is. other (ap (λ (k : PriceKey). k.row) is))
    by (inl kind) (inl row) (inr other) = inr (λ is. other (ap (λ (k : PriceKey). k.period) is))

price_other : (prices : List ℕ) (w row period k t value : ℕ) → period < w → t < w
    → ((k ≡ row) × (t ≡ period) → ⊥)
    → (k * w + t ≡ row * w + period) ⊎ (k * w + t ≢ row * w + period)
    → get_or (set prices (row * w + period) value) (k * w + t) 0 ≡ get_or prices (k * w + t) 0
price_other prices w row period k t value in_row in_k other (inl same) =
    let both = same_from_place k t row period w in_k in_row same in
    absurd (other (both.0, both.1))
price_other prices w row period k t value in_row in_k other (inr differ) =
    get_or-set_other prices (row * w + period) (k * w + t) value 0 differ

pub price_set : (rows periods : ℕ) (prices : List ℕ) (row period value : ℕ)
    → length prices ≡ rows * periods → row < rows → period < periods
    → SetsPrice row period value (record { rows = rows; periods = periods; prices = prices })
    (record { rows = rows; periods = periods; prices = set prices (row * periods + period) value })
price_set rows periods prices row period value long row_in period_in = record {
  rows = refl;
  periods = refl;
  here = get_or-set_same prices (row * periods + period) value 0
      (omega (arith, long, mul-add-lt row periods period rows row_in period_in));
  others = λ k t place other.
      price_other prices periods row period k t value period_in place.in_day other
      (cases_eq (k * periods + t) (row * periods + period));
}

-- One price set in a table.
module _ (key : PriceKey) (value : ℕ) (old new : PriceTable) (is : Sets key value old new) where
  pub set_others : (other : PriceKey) → IsKeyOf old other → other ≢ key
      → price_at new other ≡ price_at old other
  set_others other there differ = by (kinds_are other.kind key.kind)
    where
      by : (other.kind ≡ key.kind) ⊎ (other.kind ≢ key.kind)
          → price_at new other ≡ price_at old other
      by (inl same) =
          subst (λ kind. IsPlaceIn (block_of kind old) other.row other.period
          → price_in (block_of kind new) other.row other.period
          ≡ price_in (block_of kind old) other.row other.period) (sym same)
          (λ place. is.here.others other.row other.period place
          (λ both. absurd (differ (same_key other key same both.0 both.1)))) there
      by (inr apart) =
          ap (λ (b : Block). price_in b other.row other.period) (is.others other.kind apart)

  set_sized : (kind : PriceKind) (rows periods : ℕ) → IsSized rows periods (block_of kind old)
      → IsSized rows periods (block_of kind new)
  set_sized kind rows periods size = by (kinds_are kind key.kind)
    where
      by : (kind ≡ key.kind) ⊎ (kind ≢ key.kind) → IsSized rows periods (block_of kind new)
      by (inl same) =
          let was : IsSized rows periods (block_of key.kind old) =
          subst (λ k. IsSized rows periods (block_of k old)) same size in
          subst (λ k. IsSized rows periods (block_of k new)) (sym same) (record {
            wide = is.here.rows ∙ was.wide;
            long = is.here.periods ∙ was.long;
          })
      by (inr apart) = subst (IsSized rows periods) (sym (is.others kind apart)) size

  pub set_size : (parts : Parts) → ArePricesOf parts old → ArePricesOf parts new
  set_size parts are = record {
    departures = set_sized (Capacity cap.Dep) (length parts.places) parts.day.periods
        are.departures;
    arrivals = set_sized (Capacity cap.Arr) (length parts.places) parts.day.periods are.arrivals;
    inside = set_sized (Capacity cap.Sector) (length parts.places) parts.day.periods are.inside;
    turns = set_sized Connected (length parts.connections) parts.day.periods are.turns;
  }

-- the prices of a kind have its size
pub sized : (parts : Parts) (table : PriceTable) (kind : PriceKind) → ArePricesOf parts table
    → IsSized (row_count parts kind) parts.day.periods (block_of kind table)
sized parts table (Capacity cap.Dep) are = are.departures
sized parts table (Capacity cap.Arr) are = are.arrivals
sized parts table (Capacity cap.Sector) are = are.inside
sized parts table Connected are = are.turns
