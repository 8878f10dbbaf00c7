-- Prices that are moved one after another.
use Rattle.std.proofs.Common.{◌≡◌, ◌≢◌, ◌⊎◌, inl, inr, ℕ, ◌+◌, ◌*◌, ◌<◌, ◌≤◌, ◌^◌, Bool, true, false, ◌&&◌, ◌||◌, nat_eq, nat_lt, if◌then◌else◌, refl, sym, ap, subst, ◌∙◌, arith}
use Rattle.std.proofs.lemmas.Bool.{and_parts, cases_eq}
use Rattle.std.proofs.lemmas.Bool.Decides.{nat_tests}
use Rattle.flow_types.specs.declared.bound.PriceKey.{PriceKey}
use Rattle.flow_types.specs.declared.bound.PriceKind.{PriceKind}
use Rattle.flow_types.specs.declared.parts.Parts.{Parts}
use Rattle.flight_routes.specs.Prices.{ArePricesOf, IsKeyOf, PriceTable, key_in, kind_number, price_at, row_count}
use Rattle.priced_plans.specs.Keys.{IsKeyFor, has_limit, is_at}
use Rattle.flight_routes.proofs.PriceFacts.{same_key, same_kind}
use Rattle.priced_plans.specs.Usage.{Traffic, limit, used}
use Rattle.priced_plans.proofs.KeyFacts.{itself, key_at, key_of, kind_below, row_within, same_numbers}
use Rattle.lagrange_bound.specs.Rounds.{moved, moved_price}
use Rattle.lagrange_bound.specs.Moves.{AreMoved, HasRoomIn, HaveRoom, IsIdle, is_in_kinds, is_in_row, is_in_rows, most_rise}

-- one price
module _ (parts : Parts) (move : PriceKey → ℕ → ℕ) (k : PriceKey) (old new : PriceTable)
    (are : ArePricesOf parts old) (here : price_at new k ≡ move k (price_at old k))
    (low : move k (price_at old k) ≤ price_at old k + most_rise)
    (others : (other : PriceKey) → IsKeyOf old other → other ≢ k
    → price_at new other ≡ price_at old other) where
  abbrev is_here : PriceKey → Bool
  is_here = is_at (kind_number k.kind) k.row k.period

  each_by : (other : PriceKey) → IsKeyFor parts other → (b : Bool) → is_here other ≡ b
      → price_at new other
      ≡ (if b then move other (price_at old other) else price_at old other)
  each_by other within true at =
      subst (λ o. price_at new o ≡ move o (price_at old o)) (sym (key_at k other at)) here
  each_by other within false at =
      others other (key_of parts old other are within)
      (λ same. absurd (cc (
        at,
        subst (λ o. is_here o ≡ true) (sym same)
            (itself (kind_number k.kind) k.row k.period),
      )))

  rise_by : (other : PriceKey) → IsKeyFor parts other → (b : Bool) → is_here other ≡ b
      → price_at new other ≤ price_at old other + most_rise
  rise_by other within true at =
      subst (λ o. price_at new o ≤ price_at old o + most_rise) (sym (key_at k other at))
      (omega (arith, here, low))
  rise_by other within false at = omega (arith, each_by other within false at)

  pub one_moved : ArePricesOf parts new → AreMoved parts move is_here old new
  one_moved size = record {
    size = size;
    each = λ other within. each_by other within (is_here other) refl;
    rise = λ other within. rise_by other within (is_here other) refl;
  }

-- none, and those of two tests that never hold together
pub none_moved : (parts : Parts) (move : PriceKey → ℕ → ℕ) (test : PriceKey → Bool)
    (table : PriceTable) → ArePricesOf parts table → ((k : PriceKey) → test k ≡ false)
    → AreMoved parts move test table table
none_moved parts move test table are none = record {
  size = are;
  each = λ k within. subst (λ b. price_at table k
      ≡ (if b then move k (price_at table k) else price_at table k)) (sym (none k)) refl;
  rise = λ k within. omega arith;
}

each_both : (a b c : Bool) (m : ℕ → ℕ) (x y z : ℕ) → y ≡ (if a then m x else x)
    → z ≡ (if b then m y else y) → (a && b) ≡ false → c ≡ (a || b)
    → z ≡ (if c then m x else x)
each_both true true c m x y z first second apart both = absurd cc
each_both true false c m x y z first second apart both =
    subst (λ c. z ≡ (if c then m x else x)) (sym both) (second ∙ first)
each_both false true c m x y z first second apart both =
    subst (λ c. z ≡ (if c then m x else x)) (sym both) (second ∙ ap m first)
each_both false false c m x y z first second apart both =
    subst (λ c. z ≡ (if c then m x else x)) (sym both) (second ∙ first)

rise_both : (a b : Bool) (m : ℕ → ℕ) (x y z r : ℕ) → y ≡ (if a then m x else x)
    → z ≡ (if b then m y else y) → (a && b) ≡ false → y ≤ x + r → z ≤ y + r → z ≤ x + r
rise_both true true m x y z r first second apart one two = absurd cc
rise_both true false m x y z r first second apart one two = omega (arith, second, one)
rise_both false b m x y z r first second apart one two = omega (arith, first, two)

pub both_moved : (parts : Parts) (move : PriceKey → ℕ → ℕ) (a b c : PriceKey → Bool)
    (old mid new : PriceTable) → AreMoved parts move a old mid → AreMoved parts move b mid new
    → ((k : PriceKey) → (a k && b k) ≡ false)
    → ((k : PriceKey) → IsKeyFor parts k → c k ≡ (a k || b k))
    → AreMoved parts move c old new
both_moved parts move a b c old mid new first second apart both = record {
  size = second.size;
  each = λ k within. each_both (a k) (b k) (c k) (move k) (price_at old k) (price_at mid k)
      (price_at new k) (first.each k within) (second.each k within) (apart k) (both k within);
  rise = λ k within. rise_both (a k) (b k) (move k) (price_at old k) (price_at mid k)
      (price_at new k) most_rise (first.each k within) (second.each k within) (apart k)
      (first.rise k within) (second.rise k within);
}

-- a row, and one period more
row_none : (number n r row p : ℕ)
    → (nat_eq number n && (nat_eq r row && nat_lt p 0)) ≡ false
row_none number n r row p = grind (arith, nat_tests)

row_apart : (number n r row p t : ℕ)
    → ((nat_eq number n && (nat_eq r row && nat_lt p t))
    && (nat_eq number n && (nat_eq r row && nat_eq p t))) ≡ false
row_apart number n r row p t = grind (arith, nat_tests)

row_more : (number n r row p t : ℕ) → (nat_eq number n && (nat_eq r row && nat_lt p (t + 1)))
    ≡ ((nat_eq number n && (nat_eq r row && nat_lt p t))
    || (nat_eq number n && (nat_eq r row && nat_eq p t)))
row_more number n r row p t = grind (arith, nat_tests)

-- rows, and one row more
rows_none : (number n r : ℕ) → (nat_eq number n && nat_lt r 0) ≡ false
rows_none number n r = grind (arith, nat_tests)

rows_apart : (number n r row p t : ℕ)
    → ((nat_eq number n && nat_lt r row)
    && (nat_eq number n && (nat_eq r row && nat_lt p t))) ≡ false
rows_apart number n r row p t = grind (arith, nat_tests)

rows_more : (number n r row p t : ℕ) → p < t → (nat_eq number n && nat_lt r (row + 1))
    ≡ ((nat_eq number n && nat_lt r row) || (nat_eq number n && (nat_eq r row && nat_lt p t)))
rows_more number n r row p t before = grind (arith, nat_tests)

-- kinds, and one kind more
kinds_apart : (number n r rows : ℕ)
    → (nat_lt number n && (nat_eq number n && nat_lt r rows)) ≡ false
kinds_apart number n r rows = grind (arith, nat_tests)

kinds_more : (number n r rows : ℕ) → (number ≡ n → r < rows)
    → nat_lt number (n + 1) ≡ (nat_lt number n || (nat_eq number n && nat_lt r rows))
kinds_more number n r rows within = by (cases_eq number n)
  where
    by : (number ≡ n) ⊎ (number ≢ n)
        → nat_lt number (n + 1) ≡ (nat_lt number n || (nat_eq number n && nat_lt r rows))
    by (inl same) = let less = within same in grind (arith, nat_tests)
    by (inr other) = grind (arith, nat_tests)

module _ (parts : Parts) (move : PriceKey → ℕ → ℕ) (kind : PriceKind) where
  abbrev number : ℕ
  number = kind_number kind

  pub row_start : (row : ℕ) (table : PriceTable) → ArePricesOf parts table
      → AreMoved parts move (is_in_row number row 0) table table
  row_start row table are =
      none_moved parts move (is_in_row number row 0) table are
      (λ k. row_none (kind_number k.kind) number k.row row k.period)

  pub row_next : (row t : ℕ) (old mid new : PriceTable)
      → AreMoved parts move (is_in_row number row t) old mid
      → AreMoved parts move (is_at number row t) mid new
      → AreMoved parts move (is_in_row number row (t + 1)) old new
  row_next row t old mid new first second =
      both_moved parts move (is_in_row number row t) (is_at number row t)
      (is_in_row number row (t + 1)) old mid new first second
      (λ k. row_apart (kind_number k.kind) number k.row row k.period t)
      (λ k within. row_more (kind_number k.kind) number k.row row k.period t)

  pub rows_start : (table : PriceTable) → ArePricesOf parts table
      → AreMoved parts move (is_in_rows number 0) table table
  rows_start table are =
      none_moved parts move (is_in_rows number 0) table are
      (λ k. rows_none (kind_number k.kind) number k.row)

  pub rows_next : (row : ℕ) (old mid new : PriceTable)
      → AreMoved parts move (is_in_rows number row) old mid
      → AreMoved parts move (is_in_row number row parts.day.periods) mid new
      → AreMoved parts move (is_in_rows number (row + 1)) old new
  rows_next row old mid new first second =
      both_moved parts move (is_in_rows number row) (is_in_row number row parts.day.periods)
      (is_in_rows number (row + 1)) old mid new first second
      (λ k. rows_apart (kind_number k.kind) number k.row row k.period parts.day.periods)
      (λ k within. rows_more (kind_number k.kind) number k.row row k.period parts.day.periods
      within.1)

  pub kinds_next : (old mid new : PriceTable) → AreMoved parts move (is_in_kinds number) old mid
      → AreMoved parts move (is_in_rows number (row_count parts kind)) mid new
      → AreMoved parts move (is_in_kinds (number + 1)) old new
  kinds_next old mid new first second =
      both_moved parts move (is_in_kinds number) (is_in_rows number (row_count parts kind))
      (is_in_kinds (number + 1)) old mid new first second
      (λ k. kinds_apart (kind_number k.kind) number k.row (row_count parts kind))
      (λ k within. kinds_more (kind_number k.kind) number k.row (row_count parts kind)
      (row_within parts kind k within))

  -- what wasn't moved has the room that it had
  same_by : (test : PriceKey → Bool) (old new : PriceTable) (k : PriceKey) → IsKeyFor parts k
      → AreMoved parts move test old new → test k ≡ false → price_at new k ≡ price_at old k
  same_by test old new k within moved none =
      subst (λ b. price_at new k ≡ (if b then move k (price_at old k) else price_at old k)) none
      (moved.each k within)

  not_in_row : (row t : ℕ) → is_in_row number row t (key_in kind row t) ≡ false
  not_in_row row t = grind (arith, nat_tests)

  not_in_rows : (row t : ℕ) → is_in_rows number row (key_in kind row t) ≡ false
  not_in_rows row t = grind (arith, nat_tests)

  not_in_kinds : (row t : ℕ) → is_in_kinds number (key_in kind row t) ≡ false
  not_in_kinds row t = grind (arith, nat_tests)

  pub room_in_row : (row t : ℕ) (old new : PriceTable) → row < row_count parts kind
      → t < parts.day.periods → HasRoomIn parts kind old row
      → AreMoved parts move (is_in_row number row t) old new
      → price_at new (key_in kind row t) < 2 ^ 61
  room_in_row row t old new within in_day room moved =
      let same = same_by (is_in_row number row t) old new (key_in kind row t)
      (within, in_day) moved (not_in_row row t) in
      omega (arith, same, room t in_day)

  pub room_in_rows : (row : ℕ) (old new : PriceTable) → row < row_count parts kind
      → HaveRoom parts kind old → AreMoved parts move (is_in_rows number row) old new
      → HasRoomIn parts kind new row
  room_in_rows row old new within room moved = λ t in_day.
      let same = same_by (is_in_rows number row) old new (key_in kind row t)
      (within, in_day) moved (not_in_rows row t) in
      omega (arith, same, room row within t in_day)

  pub room_in_kinds : (old new : PriceTable)
      → ((k : PriceKey) → IsKeyFor parts k → price_at old k < 2 ^ 61)
      → AreMoved parts move (is_in_kinds number) old new → HaveRoom parts kind new
  room_in_kinds old new room moved = λ row within t in_day.
      let is : IsKeyFor parts (key_in kind row t) = (within, in_day) in
      let same = same_by (is_in_kinds number) old new (key_in kind row t) is moved
      (not_in_kinds row t) in
      omega (arith, same, room (key_in kind row t) is)

-- all prices, kind after kind
module _ (parts : Parts) (move : PriceKey → ℕ → ℕ) where
  no_kinds : (n : ℕ) → nat_lt n 0 ≡ false
  no_kinds n = grind (arith, nat_tests)

  pub kinds_start : (table : PriceTable) → ArePricesOf parts table
      → AreMoved parts move (is_in_kinds 0) table table
  kinds_start table are =
      none_moved parts move (is_in_kinds 0) table are (λ k. no_kinds (kind_number k.kind))

  pub kind_next : (at : ℕ) (kind : PriceKind) (old mid new : PriceTable) → kind_number kind ≡ at
      → AreMoved parts move (is_in_kinds at) old mid
      → AreMoved parts move (is_in_rows (kind_number kind) (row_count parts kind)) mid new
      → AreMoved parts move (is_in_kinds (at + 1)) old new
  kind_next at kind old mid new is first second =
      subst (λ n. AreMoved parts move (is_in_kinds (n + 1)) old new) is
      (kinds_next parts move kind old mid new
      (subst (λ n. AreMoved parts move (is_in_kinds n) old mid) (sym is) first) second)

  pub kind_room : (at : ℕ) (kind : PriceKind) (old new : PriceTable) → kind_number kind ≡ at
      → ((k : PriceKey) → IsKeyFor parts k → price_at old k < 2 ^ 61)
      → AreMoved parts move (is_in_kinds at) old new → HaveRoom parts kind new
  kind_room at kind old new is room moved =
      room_in_kinds parts move kind old new room
      (subst (λ n. AreMoved parts move (is_in_kinds n) old new) (sym is) moved)

  is_below : (a b : ℕ) → a < b → nat_lt a b ≡ true
  is_below a b less = grind (arith, nat_tests)

  pub all_kinds : (old new : PriceTable) → AreMoved parts move (is_in_kinds 4) old new
      → AreMoved parts move (λ k. true) old new
  all_kinds old new moved = record {
    size = moved.size;
    each = λ k within. subst (λ b. price_at new k
        ≡ (if b then move k (price_at old k) else price_at old k))
        (is_below (kind_number k.kind) 4 (kind_below k.kind)) (moved.each k within);
    rise = moved.rise;
  }

-- a row that no flight uses, with prices of 0
module _ (parts : Parts) (traffic : Traffic) (step : ℕ) (kind : PriceKind) (row : ℕ)
    (table : PriceTable) (idle : IsIdle parts traffic kind table row) where
  zero_stays : (b : Bool) (used limit price : ℕ) → used ≡ 0 → price ≡ 0
      → price ≡ (if b then moved step used limit price else price)
  zero_stays true used limit price none free =
      let some : step * used ≡ 0 = ap (λ n. step * n) none ∙ omega arith in
      omega (arith, some, free)
  zero_stays false used limit price none free = refl

  idle_each : (k : PriceKey) (b : Bool)
      → is_in_row (kind_number kind) row parts.day.periods k ≡ b
      → price_at table k
      ≡ (if b then moved_price parts traffic step k (price_at table k) else price_at table k)
  idle_each k false is = refl
  idle_each k true is =
      let one = and_parts (nat_eq (kind_number k.kind) (kind_number kind)) _ is in
      let two = and_parts (nat_eq k.row row) _ one.1 in
      let same : k ≡ key_in kind row k.period =
      same_key k (key_in kind row k.period)
      (same_kind k.kind kind (same_numbers (kind_number k.kind) (kind_number kind) one.0))
      (same_numbers k.row row two.0) refl in
      let free = idle k.period (less k.period parts.day.periods two.1) in
      zero_stays (has_limit parts k) (used parts traffic k) (limit parts traffic k)
      (price_at table k) (ap (used parts traffic) same ∙ free.1) (ap (price_at table) same ∙ free.0)
    where
      less : (a b : ℕ) → nat_lt a b ≡ true → a < b
      less a b is = grind (arith, nat_tests)

  pub idle_row : ArePricesOf parts table
      → AreMoved parts (moved_price parts traffic step)
      (is_in_row (kind_number kind) row parts.day.periods) table table
  idle_row are = record {
    size = are;
    each = λ k within. idle_each k (is_in_row (kind_number kind) row parts.day.periods k) refl;
    rise = λ k within. omega arith;
  }
