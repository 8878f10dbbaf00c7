-- Each variable that the box leaves free is one of its columns, once.
use Rattle.std.proofs.Common.{◌≡◌, ◌≢◌, ◌⊎◌, ℕ, ◌+◌, ◌-◌, ◌<◌, ◌≤◌, ◌==◌, Bool, true, false, ◌&&◌, ◌||◌, List, [], ◌∷◌, length, min, nat_lt, Option, None, Some, slice_get, if◌then◌else◌, ℤ, pos, inl, inr, refl, sym, ap, ◌∙◌, subst, arith}
use Rattle.std.proofs.lemmas.Bool.{ltb-true}
use Rattle.std.proofs.lemmas.Bool.Decides.{eqb_tells}
use Rattle.std.proofs.lemmas.Option.{slice_get_within}
use Rattle.std.specs.List.{flat_map, list_any, range_with_len}
use Rattle.exact_sums.specs.Sums.{total}
use Rattle.exact_sums.proofs.SumFacts.{total-append}
use Rattle.flow_types.specs.declared.flight.Flight.{Flight}
use Rattle.flow_types.specs.declared.flight.Leg.{Leg}
use Rattle.flow_types.specs.declared.parts.Parts.{Parts}
use Rattle.flow_types.specs.Trips.{earliest_of, latest_of}
use Rattle.flow_types.specs.Valid.{IsScenario}
use Rattle.row_arena.proofs.WholeLaws.{linear}
use Rattle.time_windows.specs.declared.access.Window.{Window}
use Rattle.time_windows.specs.Boxes.{Box, IsBoxOf, IsWindowWithin, closed, root_box, root_row}
use Rattle.bytime_model.specs.declared.left.Left.{Left}
use Rattle.bytime_model.specs.declared.left.Left.TheVariants.{Free}
use Rattle.bytime_model.specs.declared.variables.Var.{Var}
use Rattle.bytime_model.specs.declared.variables.Var.TheVariants.{By, Inside}
use Rattle.bytime_model.specs.Left.{is_before_end, left_of, may_stay}
use Rattle.bytime_model.specs.Rows.{node_count}
use Rattle.bytime_model.specs.Values.{has_inside}
use Rattle.bytime_model.specs.Columns.{IsThere}
use Rattle.bytime_model.proofs.NumberFacts.{by_free, inside_free}
use Rattle.presolve.specs.Variables.{by_columns, columns_of, flight_columns, if_free, inside_columns, is_free, is_same, node_columns, periods_of}
use Rattle.presolve.proofs.SumLaws.{range_one, total_flat, total_one, total_zero}

free_is : (left : Left) → left ≡ Free → is_free left ≡ true
free_is left free = ap is_free free

if_other : (b : Bool) (value : ℤ) → b ≡ false → (if b then value else pos 0) ≡ pos 0
if_other b value is = ap (λ c. if c then value else pos 0) is

if_this : (b : Bool) (value : ℤ) → b ≡ true → (if b then value else pos 0) ≡ value
if_this b value is = ap (λ c. if c then value else pos 0) is

-- two numbers that differ
differ : (a b : ℕ) → a ≢ b → (a == b) ≡ false
differ a b other = by (eqb_tells a b)
  where
    by : ((a == b) ≡ true) × (a ≡ b) ⊎ ((a == b) ≡ false) × (a ≢ b) → (a == b) ≡ false
    by (inl is) = absurd (other is.1)
    by (inr isnt) = isnt.0

agree : (a : ℕ) → (a == a) ≡ true
agree a = by (eqb_tells a a)
  where
    by : ((a == a) ≡ true) × (a ≡ a) ⊎ ((a == a) ≡ false) × (a ≢ a) → (a == a) ≡ true
    by (inl is) = is.0
    by (inr isnt) = absurd (isnt.1 refl)

third : (a b c : Bool) → c ≡ false → (a && (b && c)) ≡ false
third true true c is = is
third true false c is = refl
third false b c is = refl

second : (a b c : Bool) → b ≡ false → (a && (b && c)) ≡ false
second true b c is = ap (λ d. d && c) is
second false b c is = refl

first : (a b c : Bool) → a ≡ false → (a && (b && c)) ≡ false
first a b c is = ap (λ d. d && (b && c)) is

all_three : (a b c : Bool) → a ≡ true → b ≡ true → c ≡ true → (a && (b && c)) ≡ true
all_three true true true x y z = refl
all_three true true false x y z = z
all_three true false c x y z = y
all_three false b c x y z = x

module _ (parts : Parts) (scenario : IsScenario parts) (box : Box) (made : IsBoxOf parts box) where
  -- a window is of a node, within the day
  record IsOfNode (f n : ℕ) (w : Window) : Type 0 where
    flight : Flight
    there : slice_get parts.flights f ≡ Some flight
    node : n < length flight.nodes
    late : w.hi ≤ parts.day.periods - 1

  latest_in_day : (flight : Flight) (n : ℕ)
      → latest_of parts.day.periods flight n ≤ parts.day.periods - 1
  latest_in_day flight n = by (n == 0) (n + 1 == length flight.nodes)
    where
      by : (a b : Bool) → (if a then min (flight.sd + flight.mg) (parts.day.periods - 1)
          else (if b then min (flight.sa + flight.md) (parts.day.periods - 1)
          else parts.day.periods - 1)) ≤ parts.day.periods - 1
      by true b = omega arith
      by false true = omega arith
      by false false = omega arith

  of_node : (f n : ℕ) (w : Window) → (box f n).window ≡ Some w → IsOfNode f n w
  of_node f n w here = by (slice_get parts.flights f) refl
      (subst (λ o. IsWindowWithin o (root_box parts f n).window) here (made.windows f n))
    where
      by : (found : Option Flight) → slice_get parts.flights f ≡ found
          → IsWindowWithin (Some w) (root_row parts.day.periods found n).window → IsOfNode f n w
      by None none within = absurd within
      by (Some flight) there within = at (nat_lt n (length flight.nodes)) refl within
        where
          at : (b : Bool) → nat_lt n (length flight.nodes) ≡ b
              → IsWindowWithin (Some w) (if b then record {
                window = Some (record {
                  lo = earliest_of flight n;
                  hi = latest_of parts.day.periods flight n;
                });
                must = (n == 0) || (n + 1 == length flight.nodes);
              } else closed).window → IsOfNode f n w
          at true inside within = record {
            flight = flight;
            there = there;
            node = ltb-true n (length flight.nodes) inside;
            late = omega (arith, within.1, latest_in_day flight n);
          }
          at false inside within = absurd within

  -- a period before the end of an open successor is of the day
  before_end : (window : Option Window) (t : ℕ)
      → ((w : Window) → window ≡ Some w → w.hi ≤ parts.day.periods - 1)
      → is_before_end t window ≡ true → t < parts.day.periods
  before_end None t late before = absurd (let e : ⊥ = cc in e)
  before_end (Some w) t late before = omega (arith, ltb-true t w.hi before, late w refl)

  may_in_day : (f n t : ℕ) (legs : List Leg)
      → list_any (λ leg. (leg.from == n) && is_before_end t (box f leg.to).window) legs ≡ true
      → t < parts.day.periods
  may_in_day f n t [] any = absurd (let e : ⊥ = cc in e)
  may_in_day f n t (leg ∷ legs) any =
      by (leg.from == n) (is_before_end t (box f leg.to).window) refl any (may_in_day f n t legs)
    where
      more : Bool
      more = list_any (λ l. (l.from == n) && is_before_end t (box f l.to).window) legs

      by : (a b : Bool) → is_before_end t (box f leg.to).window ≡ b → ((a && b) || more) ≡ true
          → (more ≡ true → t < parts.day.periods) → t < parts.day.periods
      by true true before is later =
          before_end (box f leg.to).window t (λ w here. (of_node f leg.to w here).late) before
      by true false before is later = later is
      by false b before is later = later is

  -- the variable is of a node of a flight, and of a period of the day
  record IsListed (f n t : ℕ) : Type 0 where
    flight : f < length parts.flights
    node : n < node_count (slice_get parts.flights f)
    period : t < parts.day.periods

  listed : (f n t : ℕ) (w : Window) → IsOfNode f n w → t < parts.day.periods → IsListed f n t
  listed f n t w of within = record {
    flight = slice_get_within parts.flights f of.flight of.there;
    node = subst (λ o. n < node_count o) (sym of.there) of.node;
    period = within;
  }

  by_listed : (f n t : ℕ) → left_of parts.flights box (By f n t) ≡ Free → IsListed f n t
  by_listed f n t free =
      let opened = by_free (box f n).must (box f n).window f n t free in
      let of = of_node f n opened.opened opened.is in
      listed f n t opened.opened of
      (let to = opened.to in let late = of.late in let some = scenario.day.periods_from in
      omega (arith, to, late, some))

  inside_listed : (f n t : ℕ) → left_of parts.flights box (Inside f n t) ≡ Free → IsListed f n t
  inside_listed f n t free =
      let opened = inside_free (box f n).window (may_stay (slice_get parts.flights f) (box f) n t) t
      free in
      let of = of_node f n opened.opened opened.is in
      listed f n t opened.opened of (may_in_day f n t of.flight.legs
      (ap (λ o. may_stay o (box f) n t) (sym of.there) ∙ opened.may))

  module _ (value : Var → ℤ) where
    -- what a column counts where it is the variable
    abbrev if_is : Var → Var → ℤ
    if_is variable column = if is_same variable column then value column else pos 0

    freed : (variable column : Var) → total (if_is variable) (if_free parts box column)
        ≡ (if is_free (left_of parts.flights box column) then if_is variable column else pos 0)
    freed variable column =
        total_one (if_is variable) (is_free (left_of parts.flights box column)) column

    none_free : (variable column : Var) → is_same variable column ≡ false
        → total (if_is variable) (if_free parts box column) ≡ pos 0
    none_free variable column other =
        freed variable column
        ∙ by (is_free (left_of parts.flights box column))
        (if_other (is_same variable column) (value column) other)
      where
        by : (b : Bool) → if_is variable column ≡ pos 0
            → (if b then if_is variable column else pos 0) ≡ pos 0
        by true is = is
        by false is = refl

    one_free : (variable : Var) → is_same variable variable ≡ true
        → left_of parts.flights box variable ≡ Free
        → total (if_is variable) (if_free parts box variable) ≡ value variable
    one_free variable same free =
        freed variable variable
        ∙ if_this (is_free (left_of parts.flights box variable)) (if_is variable variable)
        (free_is (left_of parts.flights box variable) free)
        ∙ if_this (is_same variable variable) (value variable) same

    -- of all periods
    over_times : (variable : Var) (kind : ℕ → Var)
        → total (if_is variable) (flat_map (λ t. if_free parts box (kind t)) (periods_of parts))
        ≡ total (λ t. total (if_is variable) (if_free parts box (kind t))) (periods_of parts)
    over_times variable kind =
        total_flat (if_is variable) (λ t. if_free parts box (kind t)) (periods_of parts)

    no_time : (variable : Var) (kind : ℕ → Var) → ((t : ℕ) → is_same variable (kind t) ≡ false)
        → total (if_is variable) (flat_map (λ t. if_free parts box (kind t)) (periods_of parts))
        ≡ pos 0
    no_time variable kind other =
        over_times variable kind
        ∙ total_zero (λ t. total (if_is variable) (if_free parts box (kind t))) (periods_of parts)
        (λ t. none_free variable (kind t) (other t))

    one_time : (kind : ℕ → Var) (t : ℕ) → t < parts.day.periods
        → is_same (kind t) (kind t) ≡ true
        → ((u : ℕ) → u ≢ t → is_same (kind t) (kind u) ≡ false)
        → left_of parts.flights box (kind t) ≡ Free
        → total (if_is (kind t)) (flat_map (λ u. if_free parts box (kind u)) (periods_of parts))
        ≡ value (kind t)
    one_time kind t within same other free =
        over_times (kind t) kind
        ∙ range_one (λ u. total (if_is (kind t)) (if_free parts box (kind u))) t 0
        parts.day.periods (omega arith) (omega (arith, within))
        (λ u isnt. none_free (kind t) (kind u) (other u isnt))
        ∙ one_free (kind t) same free

    no_inside : (variable : Var) (f n : ℕ)
        → ((t : ℕ) → is_same variable (Inside f n t) ≡ false)
        → total (if_is variable) (inside_columns parts box f n) ≡ pos 0
    no_inside variable f n other = by (has_inside (slice_get parts.flights f) n)
      where
        by : (b : Bool) → total (if_is variable)
            (if b then flat_map (λ t. if_free parts box (Inside f n t)) (periods_of parts) else [])
            ≡ pos 0
        by true = no_time variable (Inside f n) other
        by false = refl

    -- of a node
    no_node : (variable : Var) (f n : ℕ) → ((t : ℕ) → is_same variable (By f n t) ≡ false)
        → ((t : ℕ) → is_same variable (Inside f n t) ≡ false)
        → total (if_is variable) (node_columns parts box f n) ≡ pos 0
    no_node variable f n other another =
        omega (
          arith,
          linear,
          total-append (if_is variable) (by_columns parts box f n) (inside_columns parts box f n),
          no_time variable (By f n) other,
          no_inside variable f n another,
        )

    -- of all flights, of which one counts, and of all its nodes, of which one counts
    over_all : (variable : Var) (f n : ℕ) → f < length parts.flights
        → n < node_count (slice_get parts.flights f)
        → ((g m t : ℕ) → g ≢ f → is_same variable (By g m t) ≡ false)
        → ((g m t : ℕ) → g ≢ f → is_same variable (Inside g m t) ≡ false)
        → ((m t : ℕ) → m ≢ n → is_same variable (By f m t) ≡ false)
        → ((m t : ℕ) → m ≢ n → is_same variable (Inside f m t) ≡ false)
        → total (if_is variable) (columns_of parts box)
        ≡ total (if_is variable) (node_columns parts box f n)
    over_all variable f n flight node by inside by_here inside_here =
        total_flat (if_is variable) (flight_columns parts box)
        (range_with_len 0 (length parts.flights))
        ∙ range_one (λ g. total (if_is variable) (flight_columns parts box g)) f 0
        (length parts.flights) (omega arith) (omega (arith, flight))
        (λ g other. in_flight g
        ∙ total_zero (λ m. total (if_is variable) (node_columns parts box g m))
        (range_with_len 0 (node_count (slice_get parts.flights g)))
        (λ m. no_node variable g m (λ t. by g m t other) (λ t. inside g m t other)))
        ∙ in_flight f
        ∙ range_one (λ m. total (if_is variable) (node_columns parts box f m)) n 0
        (node_count (slice_get parts.flights f)) (omega arith) (omega (arith, node))
        (λ m other. no_node variable f m (λ t. by_here m t other) (λ t. inside_here m t other))
      where
        in_flight : (g : ℕ) → total (if_is variable) (flight_columns parts box g)
            ≡ total (λ m. total (if_is variable) (node_columns parts box g m))
            (range_with_len 0 (node_count (slice_get parts.flights g)))
        in_flight g =
            total_flat (if_is variable) (node_columns parts box g)
            (range_with_len 0 (node_count (slice_get parts.flights g)))

    turned : (a b : ℕ) → a ≢ b → (b == a) ≡ false
    turned a b other = differ b a (λ same. other (sym same))

    -- the columns count a free variable once
    pub once : (variable : Var) → IsThere parts.flights variable
        → left_of parts.flights box variable ≡ Free
        → total (if_is variable) (columns_of parts box) ≡ value variable
    once (By f n t) there free =
        let at = by_listed f n t free in
        over_all (By f n t) f n at.flight at.node
        (λ g m u other. first (f == g) (n == m) (t == u) (turned g f other)) (λ g m u other. refl)
        (λ m u other. second (f == f) (n == m) (t == u) (turned m n other)) (λ m u other. refl)
        ∙ (let both = total-append (if_is (By f n t)) (by_columns parts box f n)
        (inside_columns parts box f n) in
        let here = one_time (By f n) t at.period
        (all_three (f == f) (n == n) (t == t) (agree f) (agree n) (agree t))
        (λ u other. third (f == f) (n == n) (t == u) (turned u t other)) free in
        let none = no_inside (By f n t) f n (λ u. refl) in omega (arith, linear, both, here, none))
    once (Inside f n t) there free =
        let at = inside_listed f n t free in
        over_all (Inside f n t) f n at.flight at.node (λ g m u other. refl)
        (λ g m u other. first (f == g) (n == m) (t == u) (turned g f other)) (λ m u other. refl)
        (λ m u other. second (f == f) (n == m) (t == u) (turned m n other))
        ∙ (let both = total-append (if_is (Inside f n t)) (by_columns parts box f n)
        (inside_columns parts box f n) in
        let here = one_time (Inside f n) t at.period
        (all_three (f == f) (n == n) (t == t) (agree f) (agree n) (agree t))
        (λ u other. third (f == f) (n == n) (t == u) (turned u t other)) free in
        let kind = ap (λ b. total (if_is (Inside f n t)) (if b
        then flat_map (λ u. if_free parts box (Inside f n u)) (periods_of parts) else [])) there in
        let none = no_time (Inside f n t) (By f n) (λ u. refl) in
        omega (arith, linear, both, here, none, kind))
