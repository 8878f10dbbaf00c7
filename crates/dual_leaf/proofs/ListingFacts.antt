-- One price more is listed; a row and a kind are at their end.
use Rattle.std.proofs.Common.{◌≡◌, ◌⊎◌, All, ℕ, ◌+◌, ◌^◌, ◌<◌, ◌≤◌, Bool, true, false, ◌&&◌, ◌||◌, nat_eq, nat_lt, if◌then◌else◌, List, [], ◌∷◌, ◌++◌, length, slice_get, None, Some, zero, suc, refl, sym, ap, ◌∙◌, subst, inl, inr, arith}
use Rattle.std.proofs.lemmas.Bool.{cases_lt}
use Rattle.std.proofs.lemmas.Bool.Decides.{nat_tests}
use Rattle.std.proofs.lemmas.List.{length_push}
use Rattle.std.proofs.lemmas.List.Elements.{All-push, All-weaker}
use Rattle.std.proofs.lemmas.List.Quantifiers.{all_pairs_push}
use Rattle.flow_types.specs.declared.bound.PriceKey.{PriceKey}
use Rattle.flow_types.specs.declared.bound.PriceKind.{PriceKind}
use Rattle.flow_types.specs.declared.bound.PriceKind.TheVariants.{Capacity, Connection as Connected}
use Rattle.flow_types.specs.declared.parts.Parts.{Parts}
use Rattle.flow_types.specs.declared.place.CapKind.TheVariants as cap
use Rattle.flow_types.specs.Valid.{IsScenario}
use Rattle.flight_routes.specs.Prices.{PriceTable, key_in, kind_number, price_at, row_count}
use Rattle.priced_plans.specs.Keys.{ArePlaced, IsKeyFor, has_limit, row_has_limit}
use Rattle.priced_plans.proofs.KeyFacts.{itself, key_at, row_within}
use Rattle.bytime_model.specs.Order.{IsBefore}
use Rattle.bytime_model.specs.declared.multiplier.Multiplier.{Multiplier}
use Rattle.dual_leaf.specs.Lag.{is_key, is_priceable, set_by, set_on}
use Rattle.dual_leaf.proofs.LagFacts.{set-more}
use Rattle.dual_leaf.specs.PriceRows.{key_of, name_at, name_of}
use Rattle.dual_leaf.specs.Listing.{IsListed, IsNamedBelow, is_listed, most_listed}

named : (k : PriceKey) → key_of (name_of k) ≡ Some k
named k = by k.kind k.row k.period
  where
    by : (kind : PriceKind) (row period : ℕ)
        → key_of (name_at kind row period) ≡ Some (key_in kind row period)
    by (Capacity cap.Dep) row period = refl
    by (Capacity cap.Arr) row period = refl
    by (Capacity cap.Sector) row period = refl
    by Connected row period = refl

and_true : (a b : Bool) → a ≡ true → b ≡ true → (a && b) ≡ true
and_true true true first second = refl
and_true true false first second = absurd (let e : false ≡ true = second in cc)
and_true false b first second = absurd (let e : false ≡ true = first in cc)

is_less : (a b : ℕ) → a < b → nat_lt a b ≡ true
is_less a b less = grind (arith, nat_tests)

-- what has a price may have one
limited : (parts : Parts) (table : PriceTable) (k : PriceKey) → ArePlaced parts table
    → IsKeyFor parts k → 0 < price_at table k → has_limit parts k ≡ true
limited parts table k placed within some = by (has_limit parts k) refl where
  by : (b : Bool) → has_limit parts k ≡ b → b ≡ true
  by true is = refl
  by false is = absurd (let none = placed k within is in omega (arith, some, none))

priceable : (parts : Parts) (k : PriceKey) → IsKeyFor parts k → has_limit parts k ≡ true
    → is_priceable parts (name_of k) ≡ true
priceable parts k within limit = by k.kind k.row k.period within.0 within.1 limit
  where
    by : (kind : PriceKind) (row period : ℕ) → row < row_count parts kind
        → period < parts.day.periods → row_has_limit parts kind row ≡ true
        → is_priceable parts (name_at kind row period) ≡ true
    by (Capacity cap.Dep) row period there in_day has =
        and_true (row_has_limit parts (Capacity cap.Dep) row) (nat_lt period parts.day.periods) has
        (is_less period parts.day.periods in_day)
    by (Capacity cap.Arr) row period there in_day has =
        and_true (row_has_limit parts (Capacity cap.Arr) row) (nat_lt period parts.day.periods) has
        (is_less period parts.day.periods in_day)
    by (Capacity cap.Sector) row period there in_day has =
        and_true (row_has_limit parts (Capacity cap.Sector) row) (nat_lt period parts.day.periods)
        has (is_less period parts.day.periods in_day)
    by Connected row period there in_day has =
        and_true (nat_lt row (length parts.connections)) (nat_lt period parts.day.periods)
        (is_less row (length parts.connections) there) (is_less period parts.day.periods in_day)

-- what holds of each item, and of one more
pushed-each : {A : Type 0} (xs : List A) (x : A) (P : A → Type 0)
    → ((k : ℕ) (y : A) → slice_get xs k ≡ Some y → P y) → P x
    → (k : ℕ) (y : A) → slice_get (xs ++ x ∷ []) k ≡ Some y → P y
pushed-each [] x P each last zero y at = let same : x ≡ y = cc in subst P same last
pushed-each [] x P each last (suc k) y at = absurd (let e : None ≡ Some y = at in cc)
pushed-each (first ∷ xs) x P each last zero y at = each 0 y at
pushed-each (first ∷ xs) x P each last (suc k) y at =
    pushed-each xs x P (λ i z is. each (suc i) z is) last k y at

-- what comes before the next period is what comes before this one, and what is at it
one_more : (n r t number row period : ℕ)
    → (nat_lt number n || (nat_eq number n && (nat_lt row r
    || (nat_eq row r && nat_lt period (t + 1)))))
    ≡ ((nat_lt number n || (nat_eq number n && (nat_lt row r
    || (nat_eq row r && nat_lt period t))))
    || (nat_eq number n && (nat_eq row r && nat_eq period t)))
one_more n r t number row period = grind (arith, nat_tests)

row_end : (n r t number row period : ℕ) → period < t
    → (nat_lt number n || (nat_eq number n && (nat_lt row r
    || (nat_eq row r && nat_lt period t))))
    ≡ (nat_lt number n || (nat_eq number n && (nat_lt row (r + 1)
    || (nat_eq row (r + 1) && nat_lt period 0))))
row_end n r t number row period before = grind (arith, nat_tests)

kind_end : (n r number row period : ℕ) → (number ≡ n → row < r)
    → (nat_lt number n || (nat_eq number n && (nat_lt row r
    || (nat_eq row r && nat_lt period 0))))
    ≡ (nat_lt number (n + 1) || (nat_eq number (n + 1) && (nat_lt row 0
    || (nat_eq row 0 && nat_lt period 0))))
kind_end n r number row period before = by (cases_lt number n) (cases_lt n number)
  where
    by : (number < n) ⊎ (n ≤ number) → (n < number) ⊎ (number ≤ n)
        → (nat_lt number n || (nat_eq number n && (nat_lt row r
        || (nat_eq row r && nat_lt period 0))))
        ≡ (nat_lt number (n + 1) || (nat_eq number (n + 1) && (nat_lt row 0
        || (nat_eq row 0 && nat_lt period 0))))
    by (inl less) other = grind (arith, nat_tests)
    by (inr fine) (inl more) = grind (arith, nat_tests)
    by (inr fine) (inr less) =
        let here = before (omega (arith, fine, less)) in grind (arith, nat_tests)

or_true : (b : Bool) → (b || true) ≡ true
or_true true = refl
or_true false = refl

-- of two prices the one that comes before has the row that comes before
less : (row period r t : ℕ)
    → (nat_lt row r || (nat_eq row r && nat_lt period t)) ≡ true
    → (nat_lt row r || (nat_eq row r && (nat_lt period t || (nat_eq period t && false)))) ≡ true
less row period r t before = grind (arith, nat_tests)

never_before : {A : Type 0} → false ≡ true → A
never_before is = absurd (let e : false ≡ true = is in cc)

rows_before : (j k : PriceKey) → is_listed (kind_number k.kind) k.row k.period j ≡ true
    → IsBefore (name_of j) (name_of k)
rows_before j k before = by j.kind k.kind j.row j.period k.row k.period before
  where
    by : (a b : PriceKind) (p u q t : ℕ)
        → is_listed (kind_number b) q t (key_in a p u) ≡ true
        → IsBefore (name_at a p u) (name_at b q t)
    by (Capacity cap.Dep) (Capacity cap.Dep) p u q t before = less p u q t before
    by (Capacity cap.Dep) (Capacity cap.Arr) p u q t before = refl
    by (Capacity cap.Dep) (Capacity cap.Sector) p u q t before = refl
    by (Capacity cap.Dep) Connected p u q t before = refl
    by (Capacity cap.Arr) (Capacity cap.Dep) p u q t before = never_before before
    by (Capacity cap.Arr) (Capacity cap.Arr) p u q t before = less p u q t before
    by (Capacity cap.Arr) (Capacity cap.Sector) p u q t before = refl
    by (Capacity cap.Arr) Connected p u q t before = refl
    by (Capacity cap.Sector) (Capacity cap.Dep) p u q t before = never_before before
    by (Capacity cap.Sector) (Capacity cap.Arr) p u q t before = never_before before
    by (Capacity cap.Sector) (Capacity cap.Sector) p u q t before = less p u q t before
    by (Capacity cap.Sector) Connected p u q t before = refl
    by Connected (Capacity cap.Dep) p u q t before = never_before before
    by Connected (Capacity cap.Arr) p u q t before = never_before before
    by Connected (Capacity cap.Sector) p u q t before = never_before before
    by Connected Connected p u q t before = less p u q t before

pick : (was here now : Bool) (price value sum : ℕ) → now ≡ (was || here)
    → sum ≡ (if was then price else 0) → (here ≡ true → value ≡ price)
    → (if here then value else sum) ≡ (if now then price else 0)
pick was true now price value sum is before same =
    subst (λ b. value ≡ (if b then price else 0)) (sym (is ∙ all was)) (same refl)
  where
    all : (b : Bool) → (b || true) ≡ true
    all true = refl
    all false = refl
pick was false now price value sum is before same =
    subst (λ b. sum ≡ (if b then price else 0)) (sym (is ∙ none was)) before
  where
    none : (b : Bool) → (b || false) ≡ b
    none true = refl
    none false = refl

module _ (parts : Parts) (table : PriceTable) where
  named_same : (n r t m q u : ℕ) (x : Multiplier) → IsNamedBelow parts n r t x
      → ((k : PriceKey) → IsKeyFor parts k → is_listed n r t k ≡ is_listed m q u k)
      → IsNamedBelow parts m q u x
  named_same n r t m q u x below same = record {
    key = below.key;
    there = below.there;
    is = below.is;
    listed = sym (same below.key below.there) ∙ below.listed;
  }

  -- the same prices come before another place
  pub listed-same : (n r t m q u : ℕ) (rows : List Multiplier) → IsListed parts table n r t rows
      → ((k : PriceKey) → IsKeyFor parts k → is_listed n r t k ≡ is_listed m q u k)
      → most_listed n r t ≤ most_listed m q u → IsListed parts table m q u rows
  listed-same n r t m q u rows is same more = record {
    priceable = is.priceable;
    each = λ k within. is.each k within
        ∙ ap (λ b. if b then price_at table k else 0) (same k within);
    positive = is.positive;
    ascending = is.ascending;
    named = All-weaker (IsNamedBelow parts n r t) (IsNamedBelow parts m q u)
        (λ x below. named_same n r t m q u x below same) rows is.named;
    small = is.small;
    few = let few = is.few in omega (arith, few, more);
  }

  pub listed-start : IsListed parts table 0 0 0 []
  listed-start = record {
    priceable = λ k multiplier at. absurd (let e : None ≡ Some multiplier = at in cc);
    each = λ k within. none k (kind_number k.kind) k.row k.period;
    positive = λ k d within. absurd (omega (arith, within));
    ascending = λ i j d before within. absurd (omega (arith, within));
    named = λ k d within. absurd (omega (arith, within));
    small = λ k d within. absurd (omega (arith, within));
    few = omega arith;
  }
    where
      none : (k : PriceKey) (number row period : ℕ)
          → 0 ≡ (if (nat_lt number 0 || (nat_eq number 0 && (nat_lt row 0
          || (nat_eq row 0 && nat_lt period 0)))) then price_at table k else 0)
      none k number row period =
          ap (λ b. if b then price_at table k else 0) (sym (never number row period))
        where
          never : (number row period : ℕ) → (nat_lt number 0 || (nat_eq number 0 && (nat_lt row 0
              || (nat_eq row 0 && nat_lt period 0)))) ≡ false
          never number row period = grind (arith, nat_tests)

  pub row-ended : (kind : PriceKind) (r : ℕ) (rows : List Multiplier) → IsScenario parts
      → IsListed parts table (kind_number kind) r parts.day.periods rows
      → IsListed parts table (kind_number kind) (r + 1) 0 rows
  row-ended kind r rows valid is =
      listed-same (kind_number kind) r parts.day.periods (kind_number kind) (r + 1) 0 rows is
      (λ k within. row_end (kind_number kind) r parts.day.periods (kind_number k.kind) k.row
      k.period within.1)
      (let day = valid.day.periods_to in omega (arith, day))

  most_rows : (kind : PriceKind) → IsScenario parts → row_count parts kind ≤ 2 ^ 20
  most_rows (Capacity kind) valid = let few = valid.places.few in omega (arith, few)
  most_rows Connected valid = let few = valid.connections.few in omega (arith, few)

  pub kind-ended : (kind : PriceKind) (rows : List Multiplier) → IsScenario parts
      → IsListed parts table (kind_number kind) (row_count parts kind) 0 rows
      → IsListed parts table (kind_number kind + 1) 0 0 rows
  kind-ended kind rows valid is =
      listed-same (kind_number kind) (row_count parts kind) 0 (kind_number kind + 1) 0 0 rows is
      (λ k within. kind_end (kind_number kind) (row_count parts kind) (kind_number k.kind) k.row
      k.period (row_within parts kind k within))
      (let few = most_rows kind valid in omega (arith, few))

  -- at the next kind
  pub kind-starts : (at : ℕ) (kind : PriceKind) (rows : List Multiplier) → kind_number kind ≡ at
      → IsListed parts table at 0 0 rows → IsListed parts table (kind_number kind) 0 0 rows
  kind-starts at kind rows is listed =
      subst (λ n. IsListed parts table n 0 0 rows) (sym is) listed

  pub kind-ends : (at : ℕ) (kind : PriceKind) (rows : List Multiplier) → kind_number kind ≡ at
      → IsListed parts table (kind_number kind + 1) 0 0 rows
      → IsListed parts table (at + 1) 0 0 rows
  kind-ends at kind rows is listed =
      subst (λ n. IsListed parts table (n + 1) 0 0 rows) is listed

  -- the price of a key, if there is one
  module _ (k : PriceKey) where
    abbrev n : ℕ
    n = kind_number k.kind

    abbrev r : ℕ
    r = k.row

    abbrev t : ℕ
    t = k.period

    here_now : (other : PriceKey) → is_listed n r (t + 1) other
        ≡ (is_listed n r t other || is_key k other)
    here_now other = one_more n r t (kind_number other.kind) other.row other.period

    -- what came before comes before the next one
    further : (rows : List Multiplier) → All (IsNamedBelow parts n r t) rows
        → All (IsNamedBelow parts n r (t + 1)) rows
    further rows named =
        All-weaker (IsNamedBelow parts n r t) (IsNamedBelow parts n r (t + 1))
        (λ x below. record {
          key = below.key;
          there = below.there;
          is = below.is;
          listed = here_now below.key ∙ ap (λ b. b || is_key k below.key) below.listed;
        }) rows named

    pub listed-none : (rows : List Multiplier) → price_at table k ≡ 0
        → IsListed parts table n r t rows → IsListed parts table n r (t + 1) rows
    listed-none rows none is = record {
      priceable = is.priceable;
      each = λ other within. by other within (is_key k other) refl;
      positive = is.positive;
      ascending = is.ascending;
      named = further rows is.named;
      small = is.small;
      few = let few = is.few in omega (arith, few);
    }
      where
        by : (other : PriceKey) → IsKeyFor parts other → (b : Bool) → is_key k other ≡ b
            → set_by rows other 0
            ≡ (if is_listed n r (t + 1) other then price_at table other else 0)
        by other within true at =
            let same = ap (price_at table) (key_at k other at) ∙ none in
            is.each other within ∙ both (is_listed n r t other) (is_listed n r (t + 1) other) same
          where
            both : (a b : Bool) → price_at table other ≡ 0
                → (if a then price_at table other else 0) ≡ (if b then price_at table other else 0)
            both true true free = refl
            both true false free = free
            both false true free = sym free
            both false false free = refl
        by other within false at =
            pick (is_listed n r t other) false (is_listed n r (t + 1) other) (price_at table other)
            0 (set_by rows other 0) (here_now other ∙ ap (λ b. is_listed n r t other || b) at)
            (is.each other within) (λ never. absurd (let e : false ≡ true = never in cc))

    pub listed-more : (rows : List Multiplier) (value : ℕ) → ArePlaced parts table
        → IsKeyFor parts k → value ≡ price_at table k → 0 < value → value < 2 ^ 62
        → IsListed parts table n r t rows
        → IsListed parts table n r (t + 1) (rows ++ record { row = name_of k; value = value } ∷ [])
    listed-more rows value placed within_day is some low before = record {
      priceable = λ i multiplier at. fine i multiplier at;
      each = λ other within. set-more rows m other 0
          ∙ ap (λ z. set_on z value other (set_by rows other 0)) (named k)
          ∙ pick (is_listed n r t other) (is_key k other) (is_listed n r (t + 1) other)
          (price_at table other) value (set_by rows other 0) (here_now other)
          (before.each other within)
          (λ at. is ∙ ap (price_at table) (sym (key_at k other at)));
      positive = All-push (λ x. 0 < x.value) rows m before.positive some;
      ascending = all_pairs_push (λ x y. IsBefore x.row y.row) rows m before.ascending
          (λ i d within. let below = before.named i d within in
          subst (λ z. IsBefore z (name_of k)) (sym below.is)
          (rows_before below.key k below.listed));
      named = All-push (IsNamedBelow parts n r (t + 1)) rows m (further rows before.named) (record {
        key = k;
        there = within_day;
        is = refl;
        listed = here_now k ∙ ap (λ b. is_listed n r t k || b) (itself n r t) ∙ or_true _;
      });
      small = All-push (λ x. x.value < 2 ^ 62) rows m before.small low;
      few = let few = before.few in
          let long = length_push rows m in
          omega (arith, few, long);
    }
      where
        m : Multiplier
        m = record { row = name_of k; value = value }

        fine : (i : ℕ) (multiplier : Multiplier)
            → slice_get (rows ++ m ∷ []) i ≡ Some multiplier
            → is_priceable parts multiplier.row ≡ true
        fine i multiplier at = pushed-each rows m (λ x. is_priceable parts x.row ≡ true)
            before.priceable (priceable parts k within_day
            (limited parts table k placed within_day (omega (arith, is, some)))) i
            multiplier at
