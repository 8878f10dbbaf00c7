-- Sums over the places and periods of a day: prices times counts, and prices times capacities.
use Rattle.std.proofs.Common.{◌≡◌, ◌≢◌, ℕ, ◌*◌, ◌+◌, ◌<◌, ◌≤◌, Bool, true, false, length, slice_get, if◌then◌else◌, IsTrue, sum_by, refl, ap, ◌∙◌, arith}
use Rattle.std.specs.List.{range_with_len}
use Rattle.std.proofs.Math.Nat.{mul-le-mul_left}
use Rattle.std.proofs.lemmas.Bool.{false≢true}
use Rattle.flow_types.specs.declared.parts.Parts.{Parts}
use Rattle.flow_types.specs.declared.place.CapKind.{CapKind}
use Rattle.flow_types.specs.Capacities.{capacity_of, has_kind}
use Rattle.flow_types.proofs.PlaceFacts.{has_kind-within}
use Rattle.flight_routes.specs.Prices.{Block, price_in}
use Rattle.priced_plans.specs.Values.{capacity_price, counts_price, over_places, over_day, price_of}
use Rattle.priced_plans.proofs.RangeFacts.{range-alone, range-both, range-le, range-none, range-same, times_none}

module _ (parts : Parts) where
  cells-le : (f g : ℕ → ℕ → ℕ) → ((k t : ℕ) → t < parts.day.periods → f k t ≤ g k t)
      → over_places parts f ≤ over_places parts g
  cells-le f g each =
      range-le (λ k. sum_by (f k) (range_with_len 0 parts.day.periods))
      (λ k. sum_by (g k) (range_with_len 0 parts.day.periods)) 0 (length parts.places)
      (λ k after before. range-le (f k) (g k) 0 parts.day.periods
      (λ t from to. each k t (omega (arith, to))))

  cells-same : (f g : ℕ → ℕ → ℕ) → ((k t : ℕ) → f k t ≡ g k t)
      → over_places parts f ≡ over_places parts g
  cells-same f g each =
      range-same (λ k. sum_by (f k) (range_with_len 0 parts.day.periods))
      (λ k. sum_by (g k) (range_with_len 0 parts.day.periods)) 0 (length parts.places)
      (λ k after before. range-same (f k) (g k) 0 parts.day.periods (λ t from to. each k t))

  cells-both : (f g h : ℕ → ℕ → ℕ) → ((k t : ℕ) → h k t ≡ f k t + g k t)
      → over_places parts h ≡ over_places parts f + over_places parts g
  cells-both f g h each =
      range-both (λ k. sum_by (f k) (range_with_len 0 parts.day.periods))
      (λ k. sum_by (g k) (range_with_len 0 parts.day.periods))
      (λ k. sum_by (h k) (range_with_len 0 parts.day.periods)) 0 (length parts.places)
      (λ k. range-both (f k) (g k) (h k) 0 parts.day.periods (each k))

  -- nothing but one place
  cells-alone : (f : ℕ → ℕ → ℕ) (k : ℕ) → k < length parts.places
      → ((i t : ℕ) → i ≢ k → f i t ≡ 0)
      → over_places parts f ≡ sum_by (f k) (range_with_len 0 parts.day.periods)
  cells-alone f k within others =
      range-alone (λ i. sum_by (f i) (range_with_len 0 parts.day.periods)) k 0
      (length parts.places) (omega arith) (omega (arith, within))
      (λ i other. range-none (f i) 0 parts.day.periods (λ t from to. others i t other))

  module _ (kind : CapKind) (block : Block) where
    -- the same count
    pub prices-same : (f g : ℕ → ℕ → ℕ) → ((k t : ℕ) → f k t ≡ g k t)
        → counts_price parts kind block f ≡ counts_price parts kind block g
    prices-same f g each =
        cells-same (λ k t. price_of parts kind block k t * f k t)
        (λ k t. price_of parts kind block k t * g k t)
        (λ k t. ap (λ m. price_of parts kind block k t * m) (each k t))

    -- two counts together
    pub prices-both : (f g h : ℕ → ℕ → ℕ) → ((k t : ℕ) → h k t ≡ f k t + g k t)
        → counts_price parts kind block h
        ≡ counts_price parts kind block f + counts_price parts kind block g
    prices-both f g h each =
        cells-both (λ k t. price_of parts kind block k t * f k t)
        (λ k t. price_of parts kind block k t * g k t)
        (λ k t. price_of parts kind block k t * h k t)
        (λ k t. shared (price_of parts kind block k t) (f k t) (g k t) (h k t) (each k t))
      where
        shared : (p a b c : ℕ) → c ≡ a + b → p * c ≡ p * a + p * b
        shared p a b c is = ap (λ m. p * m) is ∙ omega arith

    -- nothing counted
    pub prices-none : (count : ℕ → ℕ → ℕ)
        → ((k t : ℕ) → price_of parts kind block k t * count k t ≡ 0)
        → counts_price parts kind block count ≡ 0
    prices-none count none =
        range-none
        (λ k. sum_by (λ t. price_of parts kind block k t * count k t)
        (range_with_len 0 parts.day.periods)) 0 (length parts.places)
        (λ k from to. range-none (λ t. price_of parts kind block k t * count k t) 0
        parts.day.periods (λ t after before. none k t))

    -- counts within the capacities pay no more than these
    pub prices-within : (count : ℕ → ℕ → ℕ)
        → ((k t : ℕ) → IsTrue (has_kind kind (slice_get parts.places k)) → t < parts.day.periods
        → count k t ≤ capacity_of parts.places kind k t)
        → counts_price parts kind block count ≤ capacity_price parts kind block
    prices-within count within =
        cells-le (λ k t. price_of parts kind block k t * count k t)
        (λ k t. price_in block k t * capacity_of parts.places kind k t)
        (λ k t day. cell (has_kind kind (slice_get parts.places k)) (price_in block k t) (count k t)
        (capacity_of parts.places kind k t) (λ has. within k t has day))
      where
        cell : (b : Bool) (p c most : ℕ) → (IsTrue b → c ≤ most)
            → (if b then p else 0) * c ≤ p * most
        cell true p c most few = mul-le-mul_left p (few refl)
        cell false p c most few = omega arith

    -- a count at one place, that has capacities of the kind
    pub prices-alone : (k : ℕ) (count : ℕ → ℕ → ℕ) (here : ℕ → ℕ)
        → IsTrue (has_kind kind (slice_get parts.places k))
        → ((t : ℕ) → count k t ≡ here t) → ((i t : ℕ) → i ≢ k → count i t ≡ 0)
        → counts_price parts kind block count
        ≡ over_day parts.day.periods (price_in block k) here
    prices-alone k count here has is others =
        cells-alone (λ i t. price_of parts kind block i t * count i t) k
        (has_kind-within kind parts.places k has)
        (λ i t other. times_none (price_of parts kind block i t) (count i t) (others i t other))
        ∙ range-same (λ t. price_of parts kind block k t * count k t)
        (λ t. price_in block k t * here t) 0 parts.day.periods
        (λ t from to. there (has_kind kind (slice_get parts.places k)) (price_in block k t)
        (count k t) (here t) has (is t))
      where
        there : (b : Bool) (p c d : ℕ) → IsTrue b → c ≡ d → (if b then p else 0) * c ≡ p * d
        there true p c d known same = ap (λ m. p * m) same
        there false p c d known same = absurd (false≢true known)
