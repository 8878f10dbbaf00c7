-- The first of the least ways, stop by stop.
use Rattle.std.proofs.Common.{◌≡◌, ◌⊎◌, ℕ, ◌+◌, ◌<◌, ◌≤◌, max, min, List, [], ◌∷◌, length, get_or, Option, None, Some, IsSome, ℤ, neg_ℤ, ◌+ℤ◌, ◌-ℤ◌, ◌≤ℤ◌, refl, sym, ap, ◌∙◌, subst, inl, inr, arith}
use Rattle.std.proofs.lemmas.Bool.{cases_lt, cases_order, lt-ltb, le-ltb}
use Rattle.std.proofs.lemmas.Int.{ints}
use Rattle.std.proofs.lemmas.Option.{same_Some}
use Rattle.flow_types.specs.declared.flight.Flight.{Flight}
use Rattle.flow_types.specs.declared.flight.Leg.{Leg}
use Rattle.flow_types.specs.declared.plan.Stop.{Stop}
use Rattle.flow_types.specs.Limits.{most_periods}
use Rattle.time_windows.specs.declared.access.Access.{Access}
use Rattle.time_windows.specs.declared.access.Window.{Window}
use Rattle.time_windows.specs.Boxes.{IsInWindow}
use Rattle.exact_sums.specs.Leasts.{IsFirstLeast, IsLeast, IsLeastAt, raised}
use Rattle.exact_sums.proofs.LeastFacts.{value_of}
use Rattle.flight_routes.specs.Entries.{cell_at}
use Rattle.flight_routes.specs.Firsts.{IsEntryAt, IsFirst, IsFirstAt, IsFirstTime, IsFirstTimeAt, IsKeptMove, IsKeptStart, IsNext, IsNextAmong, IsNextBy, Keeps, cost_to, earlier, key_of}
use Rattle.flight_routes.specs.Rates.{IsPassage, IsWay, IsWayOn, PassesNoMust, Rates, value_or_zero, way_cost, whole_cost}
use Rattle.flight_routes.specs.Ready.{IsReady}
use Rattle.flight_routes.specs.TripOrder.{IsBefore, IsNoLater}
use Rattle.flight_routes.specs.Ways.{AreCells, HasLegsFrom, IsCell, IsPassageAmong, IsPassageBy, start_cost, stop_at}
use Rattle.flight_routes.proofs.EntryFacts.{no_none, some_is}
use Rattle.flight_routes.proofs.PassageFacts.{all_passage, passage_all, passage_apart, passage_left, passage_right}
use Rattle.flight_routes.proofs.WayFacts.{step_up, value_is}

-- the first of a union is the earlier of the firsts
module _ (P Q R : Stop → Type 0) (left : (x : Stop) → P x → R x) (right : (x : Stop) → Q x → R x)
    (apart : (x : Stop) → R x → P x ⊎ Q x) where
  never : ((x : Stop) → P x → ⊥) → ((x : Stop) → Q x → ⊥) → (x : Stop) → P x ⊎ Q x → ⊥
  never p q x (inl in') = p x in'
  never p q x (inr in') = q x in'

  by_right : (b : ℕ) → ((x : Stop) → P x → ⊥) → ((x : Stop) → Q x → b ≤ key_of x) → (x : Stop)
      → P x ⊎ Q x → b ≤ key_of x
  by_right b p q x (inl in') = absurd (p x in')
  by_right b p q x (inr in') = q x in'

  by_left : (a : ℕ) → ((x : Stop) → P x → a ≤ key_of x) → ((x : Stop) → Q x → ⊥) → (x : Stop)
      → P x ⊎ Q x → a ≤ key_of x
  by_left a p q x (inl in') = p x in'
  by_left a p q x (inr in') = absurd (q x in')

  by_both : (a b v : ℕ) → v ≤ a → v ≤ b → ((x : Stop) → P x → a ≤ key_of x)
      → ((x : Stop) → Q x → b ≤ key_of x) → (x : Stop) → P x ⊎ Q x → v ≤ key_of x
  by_both a b v va vb p q x (inl in') = let h = p x in' in omega arith
  by_both a b v va vb p q x (inr in') = let h = q x in' in omega arith

  earlier_by : (a b : Stop) → IsFirstAt P a → IsFirstAt Q b
      → (key_of b < key_of a) ⊎ (key_of a ≤ key_of b) → IsFirst R (earlier (Some a) (Some b))
  earlier_by a b p q (inl less) =
      let e : earlier (Some a) (Some b) ≡ Some b = rw (lt-ltb (key_of b) (key_of a) less) refl in
      subst (IsFirst R) (sym e) (record {
        inside = right b q.inside;
        first = λ x in'. by_both (key_of a) (key_of b) (key_of b) (omega arith) (omega arith)
            p.first q.first x (apart x in');
      })
  earlier_by a b p q (inr more) =
      let e : earlier (Some a) (Some b) ≡ Some a = rw (le-ltb (key_of b) (key_of a) more) refl in
      subst (IsFirst R) (sym e) (record {
        inside = left a p.inside;
        first = λ x in'. by_both (key_of a) (key_of b) (key_of a) (omega arith) (omega arith)
            p.first q.first x (apart x in');
      })

  pub first_either : (a b : Option Stop) → IsFirst P a → IsFirst Q b → IsFirst R (earlier a b)
  first_either None None p q = λ x in'. never p q x (apart x in')
  first_either None (Some b) p q = record {
    inside = right b q.inside;
    first = λ x in'. by_right (key_of b) p q.first x (apart x in');
  }
  first_either (Some a) None p q = record {
    inside = left a p.inside;
    first = λ x in'. by_left (key_of a) p.first q x (apart x in');
  }
  first_either (Some a) (Some b) p q = earlier_by a b p q (cases_lt (key_of b) (key_of a))

-- the order of cells is that of stops
before_by : (a b : Stop) → a.time < most_periods → b.time < most_periods → key_of a < key_of b
    → (a.node ≡ b.node) ⊎ ((a.node < b.node) ⊎ (b.node < a.node)) → IsBefore a b
before_by a b a_in b_in less (inl same) = inr (same, omega arith)
before_by a b a_in b_in less (inr (inl up)) = inl up
before_by a b a_in b_in less (inr (inr down)) = absurd (omega arith)

same_stop : (a b : Stop) → a.time < most_periods → b.time < most_periods → key_of a ≡ key_of b
    → a ≡ b
same_stop a b a_in b_in same =
    let node : a.node ≡ b.node = omega arith in
    let time : a.time ≡ b.time = omega arith in
    ap (λ (n : ℕ). stop_at n a.time) node ∙ ap (λ (n : ℕ). stop_at b.node n) time

-- Of the ways that begin with one of some stops, the first of the least begins with the first stop
-- that keeps the least cost, and goes on by the first of the least from there.
module _ (S : Stop → Type 0) (cell : Stop → Option ℤ) (base : Stop → ℤ)
    (W : Stop → List Stop → Type 0) (price : Stop → List Stop → ℤ)
    (cells : (x : Stop) → S x → IsLeast (W x) (price x) (cell x)) (Q : List Stop → Type 0)
    (whole : List Stop → ℤ) (none : Q [] → ⊥)
    (into : (x : Stop) (r : List Stop) → S x → W x r → Q (x ∷ r))
    (out : (x : Stop) (r : List Stop) → Q (x ∷ r) → S x × W x r)
    (cost : (x : Stop) (r : List Stop) → whole (x ∷ r) ≡ base x +ℤ price x r)
    (short : (x : Stop) → S x → x.time < most_periods) (v : ℤ) (least : IsLeastAt Q whole v)
    (x : Stop) (s : S x) (w : ℤ) (here : cell x ≡ Some w) (keeps : base x +ℤ w ≡ v)
    (first : (y : Stop) (u : ℤ) → S y → cell y ≡ Some u → base y +ℤ u ≡ v → key_of x ≤ key_of y)
    (rest : List Stop) (on : IsFirstLeast (W x) (price x) IsNoLater rest) where
  at_least : (y : Stop) (u : ℤ) → S y → cell y ≡ Some u → IsLeastAt (W y) (price y) u
  at_least y u in' is = subst (IsLeast (W y) (price y)) is (cells y in')

  cost_here : whole (x ∷ rest) ≡ v
  cost_here =
      let at = at_least x w s here in
      let one = at.below rest on.inside in
      let two = on.least at.reached.0 at.reached.1 in
      let e = cost x rest in
      omega (arith, ints, e, one, two, at.reached.2, keeps)

  no_cell : (y : Stop) (r : List Stop) (o : Option ℤ) → cell y ≡ o → S y → W y r → IsSome o
  no_cell y r None is in' way = absurd (subst (IsLeast (W y) (price y)) is (cells y in') r way)
  no_cell y r (Some u) is in' way = refl

  -- a way that costs as much keeps the cost at its first stop
  keeps_there : (y : Stop) (r : List Stop) (u : ℤ) → S y → W y r → cell y ≡ Some u
      → whole (y ∷ r) ≡ v → base y +ℤ u ≡ v
  keeps_there y r u in' way is same =
      let at = at_least y u in' is in
      let one = at.below r way in
      let two = least.below (y ∷ at.reached.0) (into y at.reached.0 in' at.reached.1) in
      let e = cost y r in
      let f = cost y at.reached.0 in
      omega (arith, ints, e, f, one, two, at.reached.2, same)

  later_by : (y : Stop) (r : List Stop) → S y → W y r → whole (y ∷ r) ≡ v
      → (key_of x < key_of y) ⊎ (key_of y ≤ key_of x) → key_of x ≤ key_of y
      → IsNoLater (x ∷ rest) (y ∷ r)
  later_by y r in' way same (inl less) after =
      inl (before_by x y (short x s) (short y in') less (cases_order x.node y.node))
  later_by y r in' way same (inr more) after =
      let equal : x ≡ y = same_stop x y (short x s) (short y in') (omega arith) in
      let w_here : W x r = subst (λ (z : Stop). W z r) (sym equal) way in
      let e = cost x rest in
      let f = cost x r in
      let g : whole (x ∷ r) ≡ v = subst (λ (z : Stop). whole (z ∷ r) ≡ v) (sym equal) same in
      inr (equal, on.first r w_here (omega (arith, ints, e, f, g, cost_here)))

  no_later : (way : List Stop) → Q way → whole way ≡ v → IsNoLater (x ∷ rest) way
  no_later [] way same = absurd (none way)
  no_later (y ∷ r) way same =
      let o = out y r way in
      let u = value_of (cell y) (no_cell y r (cell y) refl o.0 o.1) in
      later_by y r o.0 o.1 same (cases_lt (key_of x) (key_of y))
      (first y u.0 o.0 u.1 (keeps_there y r u.0 o.0 o.1 u.1 same))

  pub first_through : IsFirstLeast Q whole IsNoLater (x ∷ rest)
  first_through = record {
    inside = into x rest s on.inside;
    least = λ way q. let h = least.below way q in omega (arith, ints, h, cost_here);
    first = λ way q same. no_later way q (same ∙ cost_here);
  }

-- what a move costs, as the code adds it up
raised_some : (p q : ℤ) (o : Option ℤ) → IsSome (raised q (raised p o)) → IsSome o
raised_some p q None some = some
raised_some p q (Some v) some = refl

raised_cost : (p q : ℤ) (o : Option ℤ) → IsSome o
    → raised (neg_ℤ q) (raised p o) ≡ Some ((p -ℤ q) +ℤ value_or_zero o)
raised_cost p q None some = absurd (no_none None refl some)
raised_cost p q (Some v) some =
    let e : (v +ℤ p) +ℤ neg_ℤ q ≡ (p -ℤ q) +ℤ v = omega (arith, ints) in
    ap Some e

raised_back : (q : ℤ) (a b : Option ℤ) → a ≡ raised q b → raised (neg_ℤ q) a ≡ b
raised_back q a None is = ap (raised (neg_ℤ q)) is
raised_back q a (Some v) is =
    let e : (v +ℤ q) +ℤ neg_ℤ q ≡ v = omega (arith, ints) in
    ap (raised (neg_ℤ q)) is ∙ ap Some e

raised_to : (q : ℤ) (a b : Option ℤ) → raised (neg_ℤ q) a ≡ b → a ≡ raised q b
raised_to q None b is = ap (raised q) is
raised_to q (Some v) b is =
    let e : v ≡ (v +ℤ neg_ℤ q) +ℤ q = omega (arith, ints) in
    ap Some e ∙ ap (raised q) is

-- Of two sets of periods that are the same the first is the same.
pub first_same : (P Q : ℕ → Type 0) → ((u : ℕ) → P u → Q u) → ((u : ℕ) → Q u → P u)
    → (found : Option ℕ) → IsFirstTime P found → IsFirstTime Q found
first_same P Q to back None none = λ u q. none u (back u q)
first_same P Q to back (Some time) is = record {
  inside = to time is.inside;
  first = λ u q. is.first u (back u q);
}

-- A move keeps the cost where the entry costs as much as the value and what being at the node had
-- cost before.
module _ (rates : Rates) (cell : ℕ → Option ℤ) (next : Window) (node least from : ℕ)
    (value : Option ℤ) (some : IsSome value) (paid : ℕ → ℤ) (within : ℕ → Option ℤ)
    (first last : ℕ) (wanted : Option ℤ) (first_is : first ≡ max next.lo (from + least))
    (last_is : last ≡ min next.hi (rates.clear node from)) (in_day : next.hi < most_periods)
    (wanted_is : wanted ≡ raised (rates.paid node from) value)
    (paid_is : (u : ℕ) → u < most_periods → paid u ≡ rates.paid node u)
    (cell_is : (u : ℕ) → u < most_periods → within u ≡ cell u) where
  entry_kept : (u : ℕ) → IsEntryAt paid within first last wanted u
      → IsKeptMove rates cell next node least from value u
  entry_kept u entry =
      let day : u < most_periods = omega (arith, entry.to, last_is, in_day) in
      let same = ap (λ p. raised p (cell u)) (sym (paid_is u day))
      ∙ ap (raised (paid u)) (sym (cell_is u day)) ∙ entry.cost ∙ wanted_is in
      let keeps =
      raised_back (rates.paid node from) (raised (rates.paid node u) (cell u)) value same in
      let reaches = raised_some (rates.paid node u) (neg_ℤ (rates.paid node from)) (cell u)
      (subst IsSome (sym keeps) some) in
      record {
        move = record {
          late = omega (arith, entry.from, first_is);
          stay = omega (arith, entry.to, last_is);
          lo = omega (arith, entry.from, first_is);
          hi = omega (arith, entry.to, last_is);
          reaches = reaches;
        };
        cost = sym (raised_cost (rates.paid node u) (rates.paid node from) (cell u) reaches)
            ∙ keeps;
      }

  kept_entry : (u : ℕ) → IsKeptMove rates cell next node least from value u
      → IsEntryAt paid within first last wanted u
  kept_entry u kept =
      let day : u < most_periods = omega (arith, kept.move.hi, in_day) in
      record {
        from = omega (arith, kept.move.lo, kept.move.late, first_is);
        to = omega (arith, kept.move.hi, kept.move.stay, last_is);
        cost = ap (λ p. raised p (within u)) (paid_is u day)
            ∙ ap (raised (rates.paid node u)) (cell_is u day)
            ∙ raised_to (rates.paid node from) (raised (rates.paid node u) (cell u)) value
            (raised_cost (rates.paid node u) (rates.paid node from) (cell u) kept.move.reaches
            ∙ kept.cost)
            ∙ sym wanted_is;
      }

  pub first_kept : (found : Option ℕ) → IsFirstTime (IsEntryAt paid within first last wanted) found
      → IsFirstTime (IsKeptMove rates cell next node least from value) found
  first_kept = first_same (IsEntryAt paid within first last wanted)
      (IsKeptMove rates cell next node least from value) entry_kept kept_entry

none_by : (P : ℕ → Type 0) (time : ℕ) → ((u : ℕ) → u < time → P u → ⊥) → (P time → ⊥)
    → (u : ℕ) → u < time + 1 → P u → (u < time) ⊎ (time ≤ u) → ⊥
none_by P time before here u below p (inl less) = before u less p
none_by P time before here u below p (inr more) =
    let same : u ≡ time = omega arith in here (subst P same p)

found_by : (P : ℕ → Type 0) (time : ℕ) → ((u : ℕ) → u < time → P u → ⊥) → (u : ℕ) → P u
    → (u < time) ⊎ (time ≤ u) → time ≤ u
found_by P time before u p (inl less) = absurd (before u less p)
found_by P time before u p (inr more) = more

-- one period more is passed over
pub none_more : (P : ℕ → Type 0) (time : ℕ) → ((u : ℕ) → u < time → P u → ⊥) → (P time → ⊥)
    → (u : ℕ) → u < time + 1 → P u → ⊥
none_more P time before here u below p = none_by P time before here u below p (cases_lt u time)

-- the first that isn't
pub first_found : (P : ℕ → Type 0) (time : ℕ) → ((u : ℕ) → u < time → P u → ⊥) → P time
    → IsFirstTimeAt P time
first_found P time before here = record {
  inside = here;
  first = λ u p. found_by P time before u p (cases_lt u time);
}

-- The next stops by a leg to an open node: the first is at the first period that keeps the cost.
module _ (leg : Leg) (row : ℕ → Access) (rates : Rates) (cells : List (Option ℤ)) (stop : Stop)
    (value : Option ℤ) where
  module _ (window : Window) (is_open : (row leg.to).window ≡ Some window)
      (here : leg.from ≡ stop.node) (musts : PassesNoMust row stop.node leg.to) where
    next_by : (time : ℕ)
        → IsKeptMove rates (cell_at cells leg.to) window leg.from leg.least stop.time value time
        → IsNextBy leg row rates cells stop value (stop_at leg.to time)
    next_by time kept = record {
      passage = record {
        between = record { from = here; to = refl; least = kept.move.late };
        musts = musts;
        stay = subst (λ (n : ℕ). time ≤ rates.clear n stop.time) here kept.move.stay;
        window = subst (λ (w : Option Window). IsInWindow w time) (sym is_open)
            (kept.move.lo, kept.move.hi);
      };
      keeps = record {
        reaches = kept.move.reaches;
        cost = subst (λ (n : ℕ). Some ((rates.paid n time -ℤ rates.paid n stop.time)
            +ℤ value_or_zero (cell_at cells leg.to time)) ≡ value) here kept.cost;
      };
    }

    kept_by : (next : Stop) → IsNextBy leg row rates cells stop value next
        → IsKeptMove rates (cell_at cells leg.to) window leg.from leg.least stop.time value
        next.time
    kept_by next is =
        let to = sym is.passage.between.to in
        let within = subst (λ (w : Option Window). IsInWindow w next.time) is_open
        (subst (λ (n : ℕ). IsInWindow (row n).window next.time) to is.passage.window) in
        record {
          move = record {
            late = is.passage.between.least;
            stay = subst (λ (n : ℕ). next.time ≤ rates.clear n stop.time) (sym here)
                is.passage.stay;
            lo = within.0;
            hi = within.1;
            reaches = subst (λ (n : ℕ). IsSome (cell_at cells n next.time)) to is.keeps.reaches;
          };
          cost = subst (λ (n : ℕ). Some ((rates.paid n next.time -ℤ rates.paid n stop.time)
              +ℤ value_or_zero (cell_at cells leg.to next.time)) ≡ value) (sym here)
              (subst (λ (n : ℕ). Some ((rates.paid stop.node next.time
              -ℤ rates.paid stop.node stop.time) +ℤ value_or_zero (cell_at cells n next.time))
              ≡ value) to is.keeps.cost);
        }

    pub first_some : (time : ℕ)
        → IsFirstTimeAt (IsKeptMove rates (cell_at cells leg.to) window leg.from leg.least
        stop.time value) time
        → IsFirstAt (IsNextBy leg row rates cells stop value) (stop_at leg.to time)
    first_some time first = record {
      inside = next_by time first.inside;
      first = λ next is.
          let less = first.first next.time (kept_by next is) in
          omega (arith, is.passage.between.to);
    }

-- the next stops leg by leg
module _ (legs : List Leg) (row : ℕ → Access) (rates : Rates) (cells : List (Option ℤ))
    (stop : Stop) (value : Option ℤ) where
  keep : (leg : Leg) (k : ℕ) (next : Stop) → Keeps rates cells stop next value
      → IsPassageAmong legs k row rates stop next ⊎ IsPassageBy leg row rates stop next
      → IsNextAmong legs k row rates cells stop value next
      ⊎ IsNextBy leg row rates cells stop value next
  keep leg k next keeps (inl among) = inl (record { passage = among; keeps = keeps })
  keep leg k next keeps (inr by) = inr (record { passage = by; keeps = keeps })

  pub first_more : (leg : Leg) (k : ℕ) → k < length legs → leg ≡ get_or legs k leg
      → (a b : Option Stop) → IsFirst (IsNextAmong legs k row rates cells stop value) a
      → IsFirst (IsNextBy leg row rates cells stop value) b
      → IsFirst (IsNextAmong legs (k + 1) row rates cells stop value) (earlier a b)
  first_more leg k inside is =
      first_either (IsNextAmong legs k row rates cells stop value)
      (IsNextBy leg row rates cells stop value)
      (IsNextAmong legs (k + 1) row rates cells stop value)
      (λ next at. record {
        passage = passage_left row rates legs stop next k at.passage;
        keeps = at.keeps;
      })
      (λ next at. record {
        passage = passage_right row rates legs stop next leg k inside is at.passage;
        keeps = at.keeps;
      })
      (λ next at. keep leg k next at.keeps
      (passage_apart row rates legs stop next leg k inside is at.passage))

module _ (flight : Flight) (row : ℕ → Access) (rates : Rates) (span : Window)
    (ready : IsReady flight row span rates) (cells : List (Option ℤ))
    (are : AreCells flight row rates 0 cells) where
  -- a stop's window is within the day
  short_at : (n t : ℕ) → IsInWindow (row n).window t → t < most_periods
  short_at n t within = omega (arith, (ready.windows.within n t within).1, ready.day.few)

  -- the cell of a stop that a passage leads to
  cell_to : (stop next : Stop) → IsPassage flight row rates stop next
      → IsCell flight row rates next.node next.time (cell_at cells next.node next.time)
  cell_to stop next passage =
      are.each next.node next.time (omega arith)
      (step_up flight row rates ready.network stop next passage.step).1 passage.window

  exists_at : (stop : Stop) (v : ℤ)
      → IsLeastAt (IsWayOn flight row rates stop) (way_cost rates stop) v → (next : Stop)
      (rest : List Stop) (o : Option ℤ) → cell_at cells next.node next.time ≡ o
      → IsPassage flight row rates stop next → IsWayOn flight row rates next rest
      → way_cost rates stop (next ∷ rest) ≡ v
      → (next : Stop) × IsNext flight row rates cells stop (Some v) next
  exists_at stop v least next rest None is passage on same =
      absurd (subst (IsCell flight row rates next.node next.time) is (cell_to stop next passage)
      rest on)
  exists_at stop v least next rest (Some w) is passage on same =
      let at : IsLeastAt (IsWayOn flight row rates next) (way_cost rates next) w =
      subst (IsCell flight row rates next.node next.time) is (cell_to stop next passage) in
      let one = at.below rest on in
      let two = least.below (next ∷ at.reached.0) (passage, at.reached.1) in
      let value = value_is (cell_at cells next.node next.time) w is in
      let e : cost_to rates cells stop next ≡ v =
      omega (arith, ints, one, two, value, at.reached.2, same) in (
        next,
        record {
          passage = passage;
          keeps = record {
            reaches = some_is (cell_at cells next.node next.time) w is;
            cost = ap Some e;
          };
        },
      )

  -- a stop before the last node that has a way on has a next stop that keeps the cost
  exists_by : (stop : Stop) (v : ℤ) → stop.node + 1 < length flight.nodes
      → IsLeastAt (IsWayOn flight row rates stop) (way_cost rates stop) v → (way : List Stop)
      → IsWayOn flight row rates stop way → way_cost rates stop way ≡ v
      → (next : Stop) × IsNext flight row rates cells stop (Some v) next
  exists_by stop v before least [] way same = absurd (omega (arith, way.0))
  exists_by stop v before least (next ∷ rest) way same =
      exists_at stop v least next rest (cell_at cells next.node next.time) refl way.0 way.1 same

  pub next_exists : (stop : Stop) (value : Option ℤ) → stop.node + 1 < length flight.nodes
      → IsCell flight row rates stop.node stop.time value → IsSome value
      → (next : Stop) × IsNext flight row rates cells stop value next
  next_exists stop None before least some = absurd (no_none None refl some)
  next_exists stop (Some v) before least some =
      exists_by stop v before least least.reached.0 least.reached.1 least.reached.2

  -- so the search by all legs finds one
  pub not_none : (legs : List Leg) (stop : Stop) (value : Option ℤ)
      → HasLegsFrom stop.node flight.legs legs → stop.node + 1 < length flight.nodes
      → IsCell flight row rates stop.node stop.time value → IsSome value
      → ((next : Stop) → IsNextAmong legs (length legs) row rates cells stop value next → ⊥) → ⊥
  not_none legs stop value has before least some none =
      let found = next_exists stop value before least some in
      none found.0 (record {
        passage = all_passage row rates legs stop found.0 flight has found.1.passage;
        keeps = found.1.keeps;
      })

  pub first_of_all : (legs : List Leg) (stop next : Stop) (value : Option ℤ)
      → HasLegsFrom stop.node flight.legs legs
      → IsFirstAt (IsNextAmong legs (length legs) row rates cells stop value) next
      → IsFirstAt (IsNext flight row rates cells stop value) next
  first_of_all legs stop next value has first = record {
    inside = record {
      passage = passage_all row rates legs stop next flight has first.inside.passage;
      keeps = first.inside.keeps;
    };
    first = λ x is. first.first x (record {
      passage = all_passage row rates legs stop x flight has is.passage;
      keeps = is.keeps;
    });
  }

  start_at : (v : ℤ) → IsLeastAt (IsWay flight row rates) (whole_cost rates) v → (stop : Stop)
      (rest : List Stop) (o : Option ℤ) → cell_at cells 0 stop.time ≡ o
      → IsWay flight row rates (stop ∷ rest) → whole_cost rates (stop ∷ rest) ≡ v
      → (t : ℕ) × IsKeptStart row rates cells (Some v) t
  start_at v least stop rest None is way same =
      let on = subst (λ (n : ℕ). IsWayOn flight row rates (stop_at n stop.time) rest) way.0 way.3
      in
      absurd (subst (IsCell flight row rates 0 stop.time) is
      (are.each 0 stop.time (omega arith) (omega (arith, ready.network.nodes_from)) way.1)
      rest on)
  start_at v least stop rest (Some w) is way same =
      let on = subst (λ (n : ℕ). IsWayOn flight row rates (stop_at n stop.time) rest) way.0 way.3
      in
      let price = ap (λ (n : ℕ). way_cost rates (stop_at n stop.time) rest) way.0 in
      let at : IsLeastAt (IsWayOn flight row rates (stop_at 0 stop.time))
      (way_cost rates (stop_at 0 stop.time)) w =
      subst (IsCell flight row rates 0 stop.time) is
      (are.each 0 stop.time (omega arith) (omega (arith, ready.network.nodes_from)) way.1) in
      let one = at.below rest on in
      let two = least.below (stop_at 0 stop.time ∷ at.reached.0)
      (refl, way.1, way.2, at.reached.1) in
      let value = value_is (cell_at cells 0 stop.time) w is in
      let e : start_cost rates cells stop.time ≡ v =
      omega (arith, ints, one, two, value, price, at.reached.2, same) in (
        stop.time,
        record {
          start = record {
            window = way.1;
            leaves = way.2;
            reaches = some_is (cell_at cells 0 stop.time) w is;
          };
          cost = ap Some e;
        },
      )

  start_by : (v : ℤ) → IsLeastAt (IsWay flight row rates) (whole_cost rates) v
      → (way : List Stop) → IsWay flight row rates way → whole_cost rates way ≡ v
      → (t : ℕ) × IsKeptStart row rates cells (Some v) t
  start_by v least [] way same = absurd way
  start_by v least (stop ∷ rest) way same =
      start_at v least stop rest (cell_at cells 0 stop.time) refl way same

  -- where there is a way, a start has the least cost
  pub start_exists : (least : Option ℤ) → IsSome least
      → IsLeast (IsWay flight row rates) (whole_cost rates) least
      → (t : ℕ) × IsKeptStart row rates cells least t
  start_exists None some is = absurd (no_none None refl some)
  start_exists (Some v) some is =
      start_by v is is.reached.0 is.reached.1 is.reached.2

  -- a first stop that the flight may leave
  record IsFirstStop (stop : Stop) : Type 0 where
    node : stop.node ≡ 0
    window : IsInWindow (row 0).window stop.time
    leaves : IsSome (rates.leaves stop.time)

  cell_of_first : (stop : Stop) → IsFirstStop stop
      → IsCell flight row rates stop.node stop.time (cell_at cells stop.node stop.time)
  cell_of_first stop first =
      subst (λ (n : ℕ). IsCell flight row rates n stop.time (cell_at cells n stop.time))
      (sym first.node)
      (are.each 0 stop.time (omega arith) (omega (arith, ready.network.nodes_from)) first.window)

  goes_on_start : (t : ℕ) (v : ℤ) → IsLeastAt (IsWay flight row rates) (whole_cost rates) v
      → IsFirstTimeAt (IsKeptStart row rates cells (Some v)) t → (rest : List Stop)
      → IsFirstLeast (IsWayOn flight row rates (stop_at 0 t)) (way_cost rates (stop_at 0 t))
      IsNoLater rest
      → IsFirstLeast (IsWay flight row rates) (whole_cost rates) IsNoLater (stop_at 0 t ∷ rest)
  goes_on_start t v least first =
      let start = first.inside.start in
      let w = value_of (cell_at cells 0 t) start.reaches in
      let e = value_is (cell_at cells 0 t) w.0 w.1 in
      let f = same_Some (start_cost rates cells t) v first.inside.cost in
      first_through IsFirstStop (λ stop. cell_at cells stop.node stop.time)
      (λ stop. value_or_zero (rates.leaves stop.time)) (IsWayOn flight row rates) (way_cost rates)
      cell_of_first (IsWay flight row rates) (whole_cost rates) (λ none. none)
      (λ stop r is way. (is.node, is.window, is.leaves, way))
      (λ stop r way. (record { node = way.0; window = way.1; leaves = way.2 }, way.3))
      (λ stop r. refl) (λ stop is. short_at 0 stop.time is.window) v least (stop_at 0 t)
      (record { node = refl; window = start.window; leaves = start.leaves }) w.0 w.1
      (omega (arith, ints, e, f))
      (λ stop u is here keeps.
      let at : cell_at cells 0 stop.time ≡ Some u =
      subst (λ (n : ℕ). cell_at cells n stop.time ≡ Some u) is.node here in
      let g = value_is (cell_at cells 0 stop.time) u at in
      let k : start_cost rates cells stop.time ≡ v = omega (arith, ints, g, keeps) in
      let less = first.first stop.time (record {
        start = record {
          window = is.window;
          leaves = is.leaves;
          reaches = some_is (cell_at cells 0 stop.time) u at;
        };
        cost = ap Some k;
      }) in
      omega (arith, less, is.node))

  -- the first of the least ways begins with the first of the starts that have the least cost
  pub trace_start : (stop : Stop) (least : Option ℤ) → stop.node ≡ 0 → IsSome least
      → IsLeast (IsWay flight row rates) (whole_cost rates) least
      → IsFirstTimeAt (IsKeptStart row rates cells least) stop.time → (rest : List Stop)
      → IsFirstLeast (IsWayOn flight row rates stop) (way_cost rates stop) IsNoLater rest
      → IsFirstLeast (IsWay flight row rates) (whole_cost rates) IsNoLater (stop ∷ rest)
  trace_start stop None node some is first = absurd (no_none None refl some)
  trace_start stop (Some v) node some is first =
      subst (λ (n : ℕ). (rest : List Stop)
      → IsFirstLeast (IsWayOn flight row rates (stop_at n stop.time))
      (way_cost rates (stop_at n stop.time)) IsNoLater rest
      → IsFirstLeast (IsWay flight row rates) (whole_cost rates) IsNoLater
      (stop_at n stop.time ∷ rest)) (sym node) (goes_on_start stop.time v is first)

  goes_on_next : (stop next : Stop) (v : ℤ) → stop.node + 1 < length flight.nodes
      → IsLeastAt (IsWayOn flight row rates stop) (way_cost rates stop) v
      → IsFirstAt (IsNext flight row rates cells stop (Some v)) next → (rest : List Stop)
      → IsFirstLeast (IsWayOn flight row rates next) (way_cost rates next) IsNoLater rest
      → IsFirstLeast (IsWayOn flight row rates stop) (way_cost rates stop) IsNoLater (next ∷ rest)
  goes_on_next stop next v before least first =
      let w = value_of (cell_at cells next.node next.time) first.inside.keeps.reaches in
      let e = value_is (cell_at cells next.node next.time) w.0 w.1 in
      let f = same_Some (cost_to rates cells stop next) v first.inside.keeps.cost in
      first_through (IsPassage flight row rates stop) (λ x. cell_at cells x.node x.time)
      (λ x. rates.paid stop.node x.time -ℤ rates.paid stop.node stop.time)
      (IsWayOn flight row rates) (way_cost rates) (cell_to stop) (IsWayOn flight row rates stop)
      (way_cost rates stop) (λ way. omega (arith, way.0)) (λ x r is way. (is, way))
      (λ x r way. (way.0, way.1)) (λ x r. refl) (λ x is. short_at x.node x.time is.window) v least
      next first.inside.passage w.0 w.1 (omega (arith, ints, e, f))
      (λ x u is here keeps.
      let g = value_is (cell_at cells x.node x.time) u here in
      let k : cost_to rates cells stop x ≡ v = omega (arith, ints, g, keeps) in
      first.first x (record {
        passage = is;
        keeps = record { reaches = some_is (cell_at cells x.node x.time) u here; cost = ap Some k };
      }))

  -- and goes on with the first of the next stops that keep it
  pub trace_next : (stop next : Stop) (value : Option ℤ) → stop.node + 1 < length flight.nodes
      → IsCell flight row rates stop.node stop.time value → IsSome value
      → IsFirstAt (IsNext flight row rates cells stop value) next → (rest : List Stop)
      → IsFirstLeast (IsWayOn flight row rates next) (way_cost rates next) IsNoLater rest
      → IsFirstLeast (IsWayOn flight row rates stop) (way_cost rates stop) IsNoLater (next ∷ rest)
  trace_next stop next None before cell some first = absurd (no_none None refl some)
  trace_next stop next (Some v) before cell some first = goes_on_next stop next v before cell first

  no_passage : (stop next : Stop) → stop.node + 1 ≡ length flight.nodes
      → IsPassage flight row rates stop next → ⊥
  no_passage stop next last passage =
      let up = step_up flight row rates ready.network stop next passage.step in
      omega (arith, up.0, up.1)

  arrives_at : (stop : Stop) → stop.node + 1 ≡ length flight.nodes → (way : List Stop)
      → IsWayOn flight row rates stop way → IsSome (rates.arrives stop.time)
  arrives_at stop last [] way = way.1
  arrives_at stop last (next ∷ rest) way = absurd (no_passage stop next last way.0)

  nothing_less : (stop : Stop) → stop.node + 1 ≡ length flight.nodes → (way : List Stop)
      → IsWayOn flight row rates stop way → way_cost rates stop [] ≤ℤ way_cost rates stop way
  nothing_less stop last [] way = omega (arith, ints)
  nothing_less stop last (next ∷ rest) way = absurd (no_passage stop next last way.0)

  some_way : (stop : Stop) (value : Option ℤ) → IsCell flight row rates stop.node stop.time value
      → IsSome value → (way : List Stop) × IsWayOn flight row rates stop way
  some_way stop None cell some = absurd (no_none None refl some)
  some_way stop (Some v) cell some = (cell.reached.0, cell.reached.1)

  -- until it is at the last node
  pub trace_last : (stop : Stop) (value : Option ℤ) → stop.node + 1 ≡ length flight.nodes
      → IsCell flight row rates stop.node stop.time value → IsSome value
      → IsFirstLeast (IsWayOn flight row rates stop) (way_cost rates stop) IsNoLater []
  trace_last stop value last cell some =
      let way = some_way stop value cell some in
      record {
        inside = (last, arrives_at stop last way.0 way.1);
        least = nothing_less stop last;
        first = λ way in' same. tt;
      }
