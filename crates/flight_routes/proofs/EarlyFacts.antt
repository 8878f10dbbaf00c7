-- Ways that end early, and what those that end later cost at least.
use Rattle.std.proofs.Common.{◌≡◌, ◌⊎◌, ℕ, ◌+◌, ◌-◌, ◌^◌, ◌<◌, ◌≤◌, max, min, List, [], ◌∷◌, length, Option, None, Some, IfSome, IsSome, ℤ, ◌+ℤ◌, ◌≤ℤ◌, ◌<ℤ◌, refl, sym, ap, ◌∙◌, subst, inl, inr, arith}
use Rattle.std.specs.Int.{int_min}
use Rattle.std.proofs.lemmas.Bool.{cases_lt, le-leb, lt-leb}
use Rattle.std.proofs.lemmas.Int.{ints}
use Rattle.std.proofs.Math.Path.{fun_ext}
use Rattle.flow_types.specs.declared.flight.Flight.{Flight}
use Rattle.flow_types.specs.declared.plan.Stop.{Stop}
use Rattle.flow_types.specs.Trips.{arrival_from}
use Rattle.time_windows.specs.declared.access.Access.{Access}
use Rattle.time_windows.specs.declared.access.Window.{Window}
use Rattle.time_windows.specs.Boxes.{IsInWindow, IsProper}
use Rattle.exact_sums.specs.Leasts.{IsFirstLeast, IsLeast, IsLeastAt, lesser}
use Rattle.exact_sums.proofs.LeastFacts.{least_of_two, value_of}
use Rattle.flight_routes.specs.Early.{AreAhead, AreEnds, IsLess, IsNoMore, cut_at, cut_row, cut_window}
use Rattle.flight_routes.specs.Rates.{IsPassage, IsWay, IsWayOn, Rates, value_or_zero, way_cost, whole_cost}
use Rattle.exact_sums.specs.Near.{IsNear}
use Rattle.flight_routes.specs.Ready.{AreRising, IsReady}
use Rattle.flight_routes.specs.TripOrder.{IsNoLater}
use Rattle.flight_routes.specs.Ways.{both_of}
use Rattle.flight_routes.proofs.EntryFacts.{no_none}
use Rattle.flight_routes.proofs.WayFacts.{step_up, value_is}

-- a wider set, whose further members cost more
module _ {A : Type 0} (P Q : A → Type 0) (cost : A → ℤ) (into : (x : A) → P x → Q x) where
  wide_by : (v : ℤ) (x : A) → ((x : A) → P x → v ≤ℤ cost x) → P x ⊎ (v <ℤ cost x)
      → v ≤ℤ cost x
  wide_by v x below (inl in') = below x in'
  wide_by v x below (inr more) = omega (arith, ints, more)

  pub least_wider : (v : ℤ) → ((x : A) → Q x → P x ⊎ (v <ℤ cost x)) → IsLeast P cost (Some v)
      → IsLeast Q cost (Some v)
  least_wider v apart at = record {
    reached = (at.reached.0, into at.reached.0 at.reached.1, at.reached.2);
    below = λ x q. wide_by v x at.below (apart x q);
  }

  same_by : (Later : A → A → Type 0) (chosen x : A) → ((x : A) → P x → cost x ≡ cost chosen
      → Later chosen x) → cost x ≡ cost chosen → P x ⊎ (cost chosen <ℤ cost x) → Later chosen x
  same_by Later chosen x first same (inl in') = first x in' same
  same_by Later chosen x first same (inr more) = absurd (omega (arith, ints, same, more))

  pub first_wider : (Later : A → A → Type 0) (chosen : A)
      → ((x : A) → Q x → P x ⊎ (cost chosen <ℤ cost x)) → IsFirstLeast P cost Later chosen
      → IsFirstLeast Q cost Later chosen
  first_wider Later chosen apart is = record {
    inside = into chosen is.inside;
    least = λ x q. wide_by (cost chosen) x is.least (apart x q);
    first = λ x q same. same_by Later chosen x is.first same (apart x q);
  }

-- the periods of a window that is cut
cut_some : (cap ahead : ℕ) (window : Window) (t : ℕ)
    → (cap < window.lo + ahead) ⊎ (window.lo + ahead ≤ cap)
    → IsInWindow (cut_window cap ahead (Some window)) t → IsInWindow (Some window) t
cut_some cap ahead window t (inl past) within =
    let e : cut_window cap ahead (Some window) ≡ None =
    rw (lt-leb (window.lo + ahead) cap past) refl in
    absurd (subst (λ (w : Option Window). IsInWindow w t) e within)
cut_some cap ahead window t (inr not) within =
    let e : cut_window cap ahead (Some window)
    ≡ Some (record { lo = window.lo; hi = min window.hi (cap - ahead) }) =
    rw (le-leb (window.lo + ahead) cap not) refl in
    let h = subst (λ (w : Option Window). IsInWindow w t) e within in
    (h.0, omega (arith, h.1))

cut_in : (cap ahead : ℕ) (window : Option Window) (t : ℕ)
    → IsInWindow (cut_window cap ahead window) t → IsInWindow window t
cut_in cap ahead None t within = absurd within
cut_in cap ahead (Some window) t within =
    cut_some cap ahead window t (cases_lt cap (window.lo + ahead)) within

in_cut : (cap ahead : ℕ) (window : Option Window) (t : ℕ) → IsInWindow window t
    → t + ahead ≤ cap → IsInWindow (cut_window cap ahead window) t
in_cut cap ahead None t within upto = within
in_cut cap ahead (Some window) t within upto =
    let e : cut_window cap ahead (Some window)
    ≡ Some (record { lo = window.lo; hi = min window.hi (cap - ahead) }) =
    rw (le-leb (window.lo + ahead) cap (omega (arith, within.0, upto))) refl in
    subst (λ (w : Option Window). IsInWindow w t) (sym e)
    (within.0, omega (arith, within.1, upto))

proper_some : (cap ahead : ℕ) (window : Window)
    → (cap < window.lo + ahead) ⊎ (window.lo + ahead ≤ cap)
    → window.lo ≤ window.hi → IsProper (cut_window cap ahead (Some window))
proper_some cap ahead window (inl past) order =
    let e : cut_window cap ahead (Some window) ≡ None =
    rw (lt-leb (window.lo + ahead) cap past) refl in
    subst IsProper (sym e) tt
proper_some cap ahead window (inr not) order =
    let e : cut_window cap ahead (Some window)
    ≡ Some (record { lo = window.lo; hi = min window.hi (cap - ahead) }) =
    rw (le-leb (window.lo + ahead) cap not) refl in
    subst IsProper (sym e) (omega (arith, order, not))

cut_proper : (cap ahead : ℕ) (window : Option Window) → IsProper window
    → IsProper (cut_window cap ahead window)
cut_proper cap ahead None proper = tt
cut_proper cap ahead (Some window) proper =
    proper_some cap ahead window (cases_lt cap (window.lo + ahead)) proper

-- what is no more than a value, with another number beside it
no_more_left : (a b : Option ℤ) (v : ℤ) → IsNoMore a v → IsNoMore (lesser a b) v
no_more_left None b v more = absurd more
no_more_left (Some a) None v more = more
no_more_left (Some a) (Some b) v more =
    let two = least_of_two a b in omega (arith, ints, more, two.0)

no_more_right : (a b : Option ℤ) (v : ℤ) → b ≡ Some v → IsNoMore (lesser a b) v
no_more_right None None v is = cc
no_more_right (Some a) None v is = cc
no_more_right None (Some b) v is =
    let same : b ≡ v = cc in omega (arith, ints, same)
no_more_right (Some a) (Some b) v is =
    let same : b ≡ v = cc in
    let two = least_of_two a b in omega (arith, ints, same, two.1)

no_more_both : (a b : Option ℤ) (u v : ℤ) → IsNoMore a u → b ≡ Some v
    → IsNoMore (both_of a b) (u +ℤ v)
no_more_both None b u v more is = absurd more
no_more_both (Some a) None u v more is = cc
no_more_both (Some a) (Some b) u v more is =
    let same : b ≡ v = cc in omega (arith, ints, more, same)

no_more_second : (a b : Option ℤ) (v : ℤ) → IsNoMore b v → IsNoMore (lesser a b) v
no_more_second None b v more = more
no_more_second (Some a) None v more = absurd more
no_more_second (Some a) (Some b) v more =
    let two = least_of_two a b in omega (arith, ints, more, two.1)

-- the lesser of two small numbers is small
pub lesser_within : (most : ℕ) (a b : Option ℤ) → IfSome a (IsNear most)
    → IfSome b (IsNear most) → IfSome (lesser a b) (IsNear most)
lesser_within most None b one two = two
lesser_within most (Some a) None one two = one
lesser_within most (Some a) (Some b) one two =
    let least = least_of_two a b in
    by least.2
  where
    by : (int_min a b ≡ a) ⊎ (int_min a b ≡ b) → IsNear most (int_min a b)
    by (inl is) = subst (IsNear most) (sym is) one
    by (inr is) = subst (IsNear most) (sym is) two

pub small_wider : (a : Option ℤ) → IfSome a (IsNear (2 ^ 110))
    → IfSome a (IsNear (2 ^ 120))
small_wider None within = tt
small_wider (Some a) within =
    record { low = omega (arith, ints, within.low); high = omega (arith, ints, within.high) }

-- leaving and arriving, period by period
module _ (leave arrive : Window) (rates : Rates) (ahead : ℕ) where
  leaves_by : (time t : ℕ) (from rate : Option ℤ)
      → ((t : ℕ) → leave.lo ≤ t → t ≤ leave.hi → IsSome (rates.leaves t)
      → t + ahead < time → IsNoMore from (value_or_zero (rates.leaves t)))
      → (time - ahead ≤ leave.hi → rate ≡ rates.leaves (time - ahead))
      → leave.lo ≤ t → t ≤ leave.hi → IsSome (rates.leaves t) → t + ahead < time + 1
      → (t + ahead < time) ⊎ (time ≤ t + ahead)
      → IsNoMore (lesser from rate) (value_or_zero (rates.leaves t))
  leaves_by time t from rate so_far here lo hi some upto (inl before) =
      no_more_left from rate (value_or_zero (rates.leaves t)) (so_far t lo hi some before)
  leaves_by time t from rate so_far here lo hi some upto (inr now) =
      let same : time - ahead ≡ t = omega (arith, upto, now) in
      let v = value_of (rates.leaves t) some in
      no_more_right from rate (value_or_zero (rates.leaves t))
      (here (omega (arith, same, hi)) ∙ ap rates.leaves same ∙ v.1
      ∙ ap Some (sym (value_is (rates.leaves t) v.0 v.1)))

  pub leaves_next : (time : ℕ) (from rate : Option ℤ)
      → ((t : ℕ) → leave.lo ≤ t → t ≤ leave.hi → IsSome (rates.leaves t)
      → t + ahead < time → IsNoMore from (value_or_zero (rates.leaves t)))
      → (time - ahead ≤ leave.hi → rate ≡ rates.leaves (time - ahead))
      → (t : ℕ) → leave.lo ≤ t → t ≤ leave.hi → IsSome (rates.leaves t) → t + ahead < time + 1
      → IsNoMore (lesser from rate) (value_or_zero (rates.leaves t))
  leaves_next time from rate so_far here t lo hi some upto =
      leaves_by time t from rate so_far here lo hi some upto (cases_lt (t + ahead) time)

  pairs_by : (time from to : ℕ) (leaves rate least : Option ℤ)
      → ((t : ℕ) → leave.lo ≤ t → t ≤ leave.hi → IsSome (rates.leaves t)
      → t + ahead < time + 1 → IsNoMore leaves (value_or_zero (rates.leaves t)))
      → (arrive.lo ≤ time → rate ≡ rates.arrives time)
      → ((t u : ℕ) → AreEnds leave arrive rates ahead t u → u < time
      → IsNoMore least (value_or_zero (rates.leaves t) +ℤ value_or_zero (rates.arrives u)))
      → AreEnds leave arrive rates ahead from to → to < time + 1
      → (to < time) ⊎ (time ≤ to)
      → IsNoMore (lesser least (both_of leaves rate))
      (value_or_zero (rates.leaves from) +ℤ value_or_zero (rates.arrives to))
  pairs_by time from to leaves rate least first here so_far pair upto (inl before) =
      no_more_left least (both_of leaves rate)
      (value_or_zero (rates.leaves from) +ℤ value_or_zero (rates.arrives to))
      (so_far from to pair before)
  pairs_by time from to leaves rate least first here so_far pair upto (inr now) =
      let same : time ≡ to = omega (arith, upto, now) in
      let v = value_of (rates.arrives to) pair.arrives in
      let is = here (omega (arith, same, pair.to_lo)) ∙ ap rates.arrives same ∙ v.1
      ∙ ap Some (sym (value_is (rates.arrives to) v.0 v.1)) in
      no_more_second least (both_of leaves rate)
      (value_or_zero (rates.leaves from) +ℤ value_or_zero (rates.arrives to))
      (no_more_both leaves rate (value_or_zero (rates.leaves from))
      (value_or_zero (rates.arrives to))
      (first from pair.from_lo pair.from_hi pair.leaves (omega (arith, same, pair.apart))) is)

  pub pairs_next : (time : ℕ) (leaves rate least : Option ℤ)
      → ((t : ℕ) → leave.lo ≤ t → t ≤ leave.hi → IsSome (rates.leaves t)
      → t + ahead < time + 1 → IsNoMore leaves (value_or_zero (rates.leaves t)))
      → (arrive.lo ≤ time → rate ≡ rates.arrives time)
      → ((t u : ℕ) → AreEnds leave arrive rates ahead t u → u < time
      → IsNoMore least (value_or_zero (rates.leaves t) +ℤ value_or_zero (rates.arrives u)))
      → (from to : ℕ) → AreEnds leave arrive rates ahead from to → to < time + 1
      → IsNoMore (lesser least (both_of leaves rate))
      (value_or_zero (rates.leaves from) +ℤ value_or_zero (rates.arrives to))
  pairs_next time leaves rate least first here so_far from to pair upto =
      pairs_by time from to leaves rate least first here so_far pair upto (cases_lt to time)

-- what is less is there
pub less_some : (least other : Option ℤ) → IsLess least other → IsSome least
less_some None other less = absurd less
less_some (Some v) other less = refl

-- what is less than a bound is less than what the bound is of
pub less_more : (least bound : Option ℤ) (whole : ℤ) → IsLess least bound → IsNoMore bound whole
    → IsLess least (Some whole)
less_more None bound whole less more = absurd less
less_more (Some v) None whole less more = absurd more
less_more (Some v) (Some b) whole less more = omega (arith, ints, less, more)

no_more_by : (bound : Option ℤ) (pair whole : ℤ) → IsNoMore bound pair → pair ≤ℤ whole
    → IsNoMore bound whole
no_more_by None pair whole more under = absurd more
no_more_by (Some b) pair whole more under = omega (arith, ints, more, under)

module _ (flight : Flight) (row : ℕ → Access) (span : Window) (rates : Rates)
    (ready : IsReady flight row span rates) (ahead : ℕ → ℕ)
    (are : AreAhead flight ahead) where
  -- a step takes its time
  step_later : (stop next : Stop) → IsPassage flight row rates stop next
      → (stop.time ≤ next.time) × (stop.time + ahead stop.node ≤ next.time + ahead next.node)
  step_later stop next passage =
      let step = passage.step in
      let short = are.legs step.1 (step.0, step.2, step.3) in
      let from = ap ahead step.4.from in
      let to = ap ahead step.4.to in (
        omega (arith, step.4.least),
        omega (arith, step.4.least, short, from, to),
      )

  ends_later : (stop : Stop) (rest : List Stop) → IsWayOn flight row rates stop rest
      → stop.time + ahead stop.node ≤ arrival_from stop rest
  ends_later stop [] way = omega (arith, are.last stop.node way.0)
  ends_later stop (next ∷ rest) way =
      omega (arith, (step_later stop next way.0).1, ends_later next rest way.1)

  module _ (last : ℕ) (end : last + 1 ≡ length flight.nodes)
      (rising : AreRising flight span rates) where
    record EndsAt (stop : Stop) (rest : List Stop) : Type 0 where
      window : IsInWindow (row last).window (arrival_from stop rest)
      some : IsSome (rates.arrives (arrival_from stop rest))
      below : value_or_zero (rates.arrives (arrival_from stop rest)) ≤ℤ way_cost rates stop rest

    -- it arrives at some rate, and pays no less than that from a stop on
    ends_at : (stop : Stop) (rest : List Stop) → IsInWindow (row stop.node).window stop.time
        → stop.node < length flight.nodes → IsWayOn flight row rates stop rest
        → EndsAt stop rest
    ends_at stop [] window inside way =
        let here : stop.node ≡ last = omega (arith, end, way.0) in
        record {
          window = subst (λ (n : ℕ). IsInWindow (row n).window stop.time) here window;
          some = way.1;
          below = omega (arith, ints);
        }
    ends_at stop (next ∷ rest) window inside way =
        let up = step_up flight row rates ready.network stop next way.0.step in
        let on = ends_at next rest way.0.window up.1 way.1 in
        let from = ready.windows.within stop.node stop.time window in
        let to = ready.windows.within next.node next.time way.0.window in
        let more = rising stop.node stop.time next.time (omega (arith, up.0, up.1)) from.0
        (step_later stop next way.0).0 to.1 in
        record { window = on.window; some = on.some; below = omega (arith, ints, on.below, more) }

    way_ends : (stop : Stop) (rest : List Stop) → IsWay flight row rates (stop ∷ rest)
        → EndsAt stop rest
    way_ends stop rest way =
        ends_at stop rest
        (subst (λ (n : ℕ). IsInWindow (row n).window stop.time) (sym way.0) way.1)
        (omega (arith, way.0, end)) way.3

    -- a way that ends in these periods costs at least what leaving and arriving do
    pub ways_bounded : (leave arrive ends : Window) → (row 0).window ≡ Some leave
        → (row last).window ≡ Some arrive → (lo hi : ℕ) → ends.lo ≤ max arrive.lo lo
        → min arrive.hi hi ≤ ends.hi → (bound : Option ℤ)
        → ((from to : ℕ) → AreEnds leave ends rates (ahead 0) from to
        → IsNoMore bound (value_or_zero (rates.leaves from) +ℤ value_or_zero (rates.arrives to)))
        → (stop : Stop) (rest : List Stop) → IsWay flight row rates (stop ∷ rest)
        → lo ≤ arrival_from stop rest → arrival_from stop rest ≤ hi
        → IsNoMore bound (whole_cost rates (stop ∷ rest))
    ways_bounded leave arrive ends first final lo hi low high bound pairs stop rest way from_lo
        to_hi =
        let at = way_ends stop rest way in
        let from = subst (λ (w : Option Window). IsInWindow w stop.time) first way.1 in
        let to = subst (λ (w : Option Window). IsInWindow w (arrival_from stop rest)) final
        at.window in
        let same = ap ahead way.0 in
        no_more_by bound (value_or_zero (rates.leaves stop.time)
        +ℤ value_or_zero (rates.arrives (arrival_from stop rest)))
        (whole_cost rates (stop ∷ rest))
        (pairs stop.time (arrival_from stop rest) (record {
          from_lo = from.0;
          from_hi = from.1;
          leaves = way.2;
          to_lo = omega (arith, to.0, from_lo, low);
          to_hi = omega (arith, to.1, to_hi, high);
          arrives = at.some;
          apart = omega (arith, ends_later stop rest way.3, same);
        }))
        (omega (arith, ints, at.below))

    -- a way ends within the span, and there is none where the last node is closed
    pub ends_within : (stop : Stop) (rest : List Stop) → IsWay flight row rates (stop ∷ rest)
        → arrival_from stop rest ≤ span.hi
    ends_within stop rest way =
        (ready.windows.within last (arrival_from stop rest) (way_ends stop rest way).window).1

    pub closed_last : (row last).window ≡ None → (stop : Stop) (rest : List Stop)
        → IsWay flight row rates (stop ∷ rest) → ⊥
    closed_last is stop rest way =
        subst (λ (w : Option Window). IsInWindow w (arrival_from stop rest)) is
        (way_ends stop rest way).window

  -- ways through a row that is cut
  module _ (cap : ℕ) where
    cut_ready : IsReady flight (cut_row cap ahead row) span rates
    cut_ready = record {
      day = ready.day;
      clear = ready.clear;
      windows = record {
        proper = λ n. cut_proper cap (ahead n) (row n).window (ready.windows.proper n);
        within = λ n t window.
            ready.windows.within n t (cut_in cap (ahead n) (row n).window t window);
      };
      network = ready.network;
    }

    way_on_cut : (stop : Stop) (rest : List Stop)
        → IsWayOn flight (cut_row cap ahead row) rates stop rest
        → IsWayOn flight row rates stop rest
    way_on_cut stop [] way = way
    way_on_cut stop (next ∷ rest) way = (
      record {
        step = way.0.step;
        musts = way.0.musts;
        stay = way.0.stay;
        window = cut_in cap (ahead next.node) (row next.node).window next.time way.0.window;
      },
      way_on_cut next rest way.1,
    )

    way_cut : (way : List Stop) → IsWay flight (cut_row cap ahead row) rates way
        → IsWay flight row rates way
    way_cut [] way = way
    way_cut (stop ∷ rest) way = (
      way.0,
      cut_in cap (ahead 0) (row 0).window stop.time way.1,
      way.2,
      way_on_cut stop rest way.3,
    )

    cut_way_on : (stop : Stop) (rest : List Stop) → IsWayOn flight row rates stop rest
        → arrival_from stop rest ≤ cap → IsWayOn flight (cut_row cap ahead row) rates stop rest
    cut_way_on stop [] way upto = way
    cut_way_on stop (next ∷ rest) way upto = (
      record {
        step = way.0.step;
        musts = way.0.musts;
        stay = way.0.stay;
        window = in_cut cap (ahead next.node) (row next.node).window next.time way.0.window
            (omega (arith, ends_later next rest way.1, upto));
      },
      cut_way_on next rest way.1 upto,
    )

    -- a way of the row is one of the cut row, or ends after the period
    apart_by : (least : ℤ) (stop : Stop) (rest : List Stop)
        → IsWay flight row rates (stop ∷ rest)
        → (cap < arrival_from stop rest → least <ℤ whole_cost rates (stop ∷ rest))
        → (cap < arrival_from stop rest) ⊎ (arrival_from stop rest ≤ cap)
        → IsWay flight (cut_row cap ahead row) rates (stop ∷ rest)
        ⊎ (least <ℤ whole_cost rates (stop ∷ rest))
    apart_by least stop rest way more (inl late) = inr (more late)
    apart_by least stop rest way more (inr early) =
        let same = ap ahead way.0 in
        inl (
          way.0,
          in_cut cap (ahead 0) (row 0).window stop.time way.1
              (omega (arith, ends_later stop rest way.3, early, same)),
          way.2,
          cut_way_on stop rest way.3 early,
        )

    ways_apart : (least : ℤ) → ((stop : Stop) (rest : List Stop)
        → IsWay flight row rates (stop ∷ rest) → cap < arrival_from stop rest
        → least <ℤ whole_cost rates (stop ∷ rest))
        → (way : List Stop) → IsWay flight row rates way
        → IsWay flight (cut_row cap ahead row) rates way ⊎ (least <ℤ whole_cost rates way)
    ways_apart least more [] way = absurd way
    ways_apart least more (stop ∷ rest) way =
        apart_by least stop rest way (more stop rest way) (cases_lt cap (arrival_from stop rest))

    -- the least of them is that of all, where the later ones cost more
    module _ (cut : ℕ → Access) (each : (n : ℕ) → cut n ≡ cut_at cap (ahead n) (row n)) where
      same_row : cut ≡ cut_row cap ahead row
      same_row = fun_ext each

      pub cut_is_ready : IsReady flight cut span rates
      cut_is_ready =
          subst (λ (r : ℕ → Access). IsReady flight r span rates) (sym same_row) cut_ready

      into : (way : List Stop) → IsWay flight cut rates way → IsWay flight row rates way
      into = subst (λ (r : ℕ → Access). (way : List Stop) → IsWay flight r rates way
          → IsWay flight row rates way) (sym same_row) way_cut

      apart : (v : ℤ) → ((stop : Stop) (rest : List Stop) → IsWay flight row rates (stop ∷ rest)
          → cap < arrival_from stop rest → v <ℤ whole_cost rates (stop ∷ rest))
          → (way : List Stop) → IsWay flight row rates way
          → IsWay flight cut rates way ⊎ (v <ℤ whole_cost rates way)
      apart v more =
          subst (λ (r : ℕ → Access). (way : List Stop) → IsWay flight row rates way
          → IsWay flight r rates way ⊎ (v <ℤ whole_cost rates way)) (sym same_row)
          (ways_apart v more)

      pub early_least : (least : Option ℤ) → IsSome least → ((stop : Stop) (rest : List Stop)
          → IsWay flight row rates (stop ∷ rest) → cap < arrival_from stop rest
          → IsLess least (Some (whole_cost rates (stop ∷ rest))))
          → IsLeast (IsWay flight cut rates) (whole_cost rates) least
          → IsLeast (IsWay flight row rates) (whole_cost rates) least
      early_least None some more is = absurd (no_none None refl some)
      early_least (Some v) some more is =
          least_wider (IsWay flight cut rates) (IsWay flight row rates) (whole_cost rates) into v
          (apart v more) is

      chosen_is : (v : ℤ) (chosen : List Stop)
          → IsLeastAt (IsWay flight cut rates) (whole_cost rates) v
          → IsFirstLeast (IsWay flight cut rates) (whole_cost rates) IsNoLater chosen
          → v ≡ whole_cost rates chosen
      chosen_is v chosen at is =
          let less = is.least at.reached.0 at.reached.1 in
          let more = at.below chosen is.inside in
          omega (arith, ints, less, more, at.reached.2)

      pub early_first : (least : Option ℤ) → IsSome least → ((stop : Stop) (rest : List Stop)
          → IsWay flight row rates (stop ∷ rest) → cap < arrival_from stop rest
          → IsLess least (Some (whole_cost rates (stop ∷ rest))))
          → IsLeast (IsWay flight cut rates) (whole_cost rates) least
          → (chosen : List Stop)
          → IsFirstLeast (IsWay flight cut rates) (whole_cost rates) IsNoLater chosen
          → IsFirstLeast (IsWay flight row rates) (whole_cost rates) IsNoLater chosen
      early_first None some more least chosen is = absurd (no_none None refl some)
      early_first (Some v) some more least chosen is =
          first_wider (IsWay flight cut rates) (IsWay flight row rates) (whole_cost rates) into
          IsNoLater chosen
          (subst (λ (u : ℤ). (way : List Stop) → IsWay flight row rates way
          → IsWay flight cut rates way ⊎ (u <ℤ whole_cost rates way))
          (chosen_is v chosen least is) (apart v more)) is
