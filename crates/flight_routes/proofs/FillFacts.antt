-- Windows within the day, and nodes filled one after another.
use Rattle.std.proofs.Common.{◌^◌, IfSome, get_or, ◌≡◌, ◌≢◌, ◌⊎◌, ℕ, zero, suc, ◌+◌, ◌-◌, ◌<◌, ◌≤◌, length, slice_get, slice_index, List, Option, Some, None, ℤ, refl, sym, ap, ◌∙◌, subst, inl, inr, arith}
use Rattle.std.proofs.lemmas.Bool.{cases_eq, cases_lt}
use Rattle.flow_types.specs.declared.flight.Flight.{Flight}
use Rattle.flow_types.specs.declared.parts.Parts.{Parts}
use Rattle.flow_types.specs.Limits.{most_periods}
use Rattle.flow_types.specs.declared.place.CapKind.TheVariants as kind
use Rattle.flow_types.specs.Capacities.{capacity_of, caps_of}
use Rattle.plan_rules.specs.Tally.{Tally}
use Rattle.plan_rules.specs.Loads.{load_at}
use Rattle.time_windows.specs.declared.access.Access.{Access}
use Rattle.time_windows.specs.declared.access.Window.{Window}
use Rattle.time_windows.specs.Boxes.{IsInWindow, IsProper}
use Rattle.time_windows.specs.declared.ends.End.{End}
use Rattle.time_windows.specs.declared.ends.End.TheVariants.{Arrival, Departure}
use Rattle.flight_routes.specs.Filling.{IsFitTable, OnlyClear, OnlyEnd, OnlyPaid}
use Rattle.flight_routes.specs.FitTimes.{HasSpace, IsClearAt, IsFirstFull, IsNextFull}
use Rattle.flight_routes.specs.RateLists.{RateLists, rates_of}
use Rattle.flight_routes.specs.Rates.{AreClear, IsClear}
use Rattle.exact_sums.specs.Near.{IsNear}
use Rattle.flight_routes.specs.Ready.{AreWindows, IsInSpan}

-- the last period of a window is one of the day
pub window_end : (span : Window) (periods : ℕ) (row : ℕ → Access) (n : ℕ) (window : Window)
    → AreWindows span row → span.hi < periods → (row n).window ≡ Some window
    → window.hi < periods
window_end span periods row n window are day is =
    let proper : window.lo ≤ window.hi = subst IsProper is (are.proper n) in
    let last = are.within n window.hi
    (subst (λ (w : Option Window). IsInWindow w window.hi) (sym is) (proper, omega arith)) in
    omega (arith, last.1, day)

-- an end is set, and set again
pub end_more : (end : End) (old now new : RateLists) → OnlyEnd end old now → OnlyEnd end now new
    → OnlyEnd end old new
end_more Departure old now new one two = record {
  span = two.span ∙ one.span;
  arrives = two.arrives ∙ one.arrives;
  paid = two.paid ∙ one.paid;
  clear = two.clear ∙ one.clear;
}
end_more Arrival old now new one two = record {
  span = two.span ∙ one.span;
  leaves = two.leaves ∙ one.leaves;
  paid = two.paid ∙ one.paid;
  clear = two.clear ∙ one.clear;
}

-- how long one node is clear is set, and set again
pub clear_again : (node : ℕ) (old now new : RateLists) → OnlyClear node old now
    → OnlyClear node now new → OnlyClear node old new
clear_again node old now new one two = record {
  cells = two.cells ∙ one.cells;
  span = two.span ∙ one.span;
  leaves = two.leaves ∙ one.leaves;
  arrives = two.arrives ∙ one.arrives;
  paid = two.paid ∙ one.paid;
  others = λ n t other day. two.others n t other day ∙ one.others n t other day;
}

-- none is set
pub end_none : (end : End) (lists : RateLists) → OnlyEnd end lists lists
end_none Departure lists =
    record { span = refl; arrives = refl; paid = refl; clear = refl }
end_none Arrival lists = record { span = refl; leaves = refl; paid = refl; clear = refl }

-- one node more is paid
pub stays_by : (paid : ℕ → ℕ → ℤ) (node : ℕ) (span : Window) (old new : RateLists)
    → span.hi < most_periods → OnlyPaid node old new
    → ((t : ℕ) → IsInSpan span t → (rates_of new).paid node t ≡ paid node t)
    → ((n t : ℕ) → 0 < n → n < node → IsInSpan span t → (rates_of old).paid n t ≡ paid n t)
    → (n t : ℕ) → 0 < n → n < node + 1 → IsInSpan span t → (n ≡ node) ⊎ (n ≢ node)
    → (rates_of new).paid n t ≡ paid n t
stays_by paid node span old new few only here before n t above below in_span (inl same) =
    ap (λ k. (rates_of new).paid k t) same ∙ here t in_span ∙ ap (λ k. paid k t) (sym same)
stays_by paid node span old new few only here before n t above below in_span (inr other) =
    only.others n t other (omega (arith, few, in_span.1))
    ∙ before n t above (omega (arith, below, other)) in_span

-- one node more is filled beside the loads
pub full_by : (parts : Parts) (loads : Tally) (place : ℕ → ℕ) (node : ℕ) (old new : RateLists)
    (span : Window) → span.hi < most_periods → OnlyClear node old new
    → ((t : ℕ) → IsInSpan span t
    → IsFirstFull parts loads (place node) span.hi t ((rates_of new).clear node t))
    → ((n t : ℕ) → 0 < n → n < node → IsInSpan span t
    → IsFirstFull parts loads (place n) span.hi t ((rates_of old).clear n t))
    → (n t : ℕ) → 0 < n → n < node + 1 → IsInSpan span t → (n ≡ node) ⊎ (n ≢ node)
    → IsFirstFull parts loads (place n) span.hi t ((rates_of new).clear n t)
full_by parts loads place node old new span few only here before n t above below in_span
    (inl same) =
    subst (λ k. IsFirstFull parts loads (place k) span.hi t ((rates_of new).clear k t)) (sym same)
    (here t in_span)
full_by parts loads place node old new span few only here before n t above below in_span
    (inr other) =
    subst (IsFirstFull parts loads (place n) span.hi t)
    (sym (only.others n t other (omega (arith, few, in_span.1))))
    (before n t above (omega (arith, below, other)) in_span)

pub clear_by : (node : ℕ) (old new : RateLists) (span : Window) → span.hi < most_periods
    → OnlyClear node old new → IsClearAt span node (rates_of new)
    → ((n : ℕ) → 0 < n → n < node → IsClearAt span n (rates_of old))
    → (n : ℕ) → 0 < n → n < node + 1 → (n ≡ node) ⊎ (n ≢ node) → IsClearAt span n (rates_of new)
clear_by node old new span few only here before n above below (inl same) =
    subst (λ k. IsClearAt span k (rates_of new)) (sym same) here
clear_by node old new span few only here before n above below (inr other) = λ t after in_span.
    subst (λ c. (c ≡ t) ⊎ ((t < c) × (c ≡ (rates_of new).clear n (t + 1))))
    (sym (only.others n t other (omega (arith, few, in_span))))
    (subst (λ d. ((rates_of old).clear n t ≡ t)
    ⊎ ((t < (rates_of old).clear n t) × ((rates_of old).clear n t ≡ d)))
    (sym (only.others n (t + 1) other (omega (arith, few, in_span))))
    (before n above (omega (arith, below, other)) t after in_span))

pub fit_table_more : (node : ℕ) (old new : RateLists) → 0 < node → OnlyClear node old new
    → IsFitTable old → IsFitTable new
fit_table_more node old new above only table = record {
  cells = only.cells ∙ table.cells;
  free = only.paid ∙ table.free;
  first = λ t in_day.
      only.others 0 t (λ e. absurd (omega (arith, e, above))) in_day ∙ table.first t in_day;
  leaves = subst (λ costs. (t : ℕ) → IfSome (get_or costs t None) (IsNear (2 ^ 110)))
      (sym only.leaves) table.leaves;
  arrives = subst (λ costs. (t : ℕ) → IfSome (get_or costs t None) (IsNear (2 ^ 110)))
      (sym only.arrives) table.arrives;
}

-- the first node is always clear, and the others are as they were filled
pub all_clear : (flight : Flight) (last : ℕ) (span : Window) (lists : RateLists)
    → last + 1 ≡ length flight.nodes → span.hi < most_periods → IsFitTable lists
    → ((n : ℕ) → 0 < n → n < last → IsClearAt span n (rates_of lists))
    → AreClear flight span (rates_of lists)
all_clear flight last span lists end few table each zero inside t after day =
    let one = table.first t (omega (arith, few, day)) in
    let two = table.first (t + 1) (omega (arith, few, day)) in
    inr (omega (arith, one, few, day), one ∙ sym two)
all_clear flight last span lists end few table each (suc n) inside t after day =
    each (suc n) (omega arith) (omega (arith, inside, end)) t after day

-- the windows of one node more are in a wider span
pub in_span_more : (row : ℕ → Access) (node : ℕ) (span wider : Window)
    → ((t : ℕ) → IsInSpan span t → IsInSpan wider t)
    → ((t : ℕ) → IsInWindow (row node).window t → IsInSpan wider t)
    → ((n t : ℕ) → n < node → IsInWindow (row n).window t → IsInSpan span t)
    → (n t : ℕ) → n < node + 1 → IsInWindow (row n).window t → (n ≡ node) ⊎ (n ≢ node)
    → IsInSpan wider t
in_span_more row node span wider wide here before n t below inside (inl same) =
    here t (subst (λ k. IsInWindow (row k).window t) same inside)
in_span_more row node span wider wide here before n t below inside (inr other) =
    wide t (before n t (omega (arith, below, other)) inside)

-- the first full period, by room
pub first_kept : (counts capacities : List ℕ) (time later : ℕ)
    → slice_index counts time + 1 ≤ slice_index capacities time
    → IsNextFull counts capacities time later later
first_kept counts capacities time later room =
    record { room = λ r. refl; none = λ no. absurd (no room) }

pub first_here : (counts capacities : List ℕ) (time later : ℕ)
    → (slice_index counts time + 1 ≤ slice_index capacities time → ⊥)
    → IsNextFull counts capacities time later time
first_here counts capacities time later none =
    record { room = λ r. absurd (none r); none = λ no. refl }

first_by : (parts : Parts) (loads : Tally) (place last time later first : ℕ)
    (counts capacities : List ℕ) → slice_index counts time ≡ load_at loads kind.Sector place time
    → capacities ≡ caps_of kind.Sector (slice_get parts.places place)
    → IsNextFull counts capacities time later first
    → (slice_index capacities time < slice_index counts time + 1)
    ⊎ (slice_index counts time + 1 ≤ slice_index capacities time)
    → IsFirstFull parts loads place last (time + 1) later
    → IsFirstFull parts loads place last time first
first_by parts loads place last time later first counts capacities count is next (inr room) was =
    let here : HasSpace parts loads kind.Sector place time =
    subst (λ (n : ℕ). n + 1 ≤ capacity_of parts.places kind.Sector place time) count
    (subst (λ (xs : List ℕ). slice_index counts time + 1 ≤ slice_index xs time) is room) in
    subst (IsFirstFull parts loads place last time) (sym (next.room room)) (record {
      late = omega (arith, was.late);
      free = λ p from before within. room_at here p from before within (cases_eq p time);
      full = was.full;
    })
  where
    room_at : HasSpace parts loads kind.Sector place time → (p : ℕ) → time ≤ p → p < later
        → p ≤ last → (p ≡ time) ⊎ (p ≢ time) → HasSpace parts loads kind.Sector place p
    room_at here p from before within (inl same) =
        subst (HasSpace parts loads kind.Sector place) (sym same) here
    room_at here p from before within (inr other) =
        was.free p (omega (arith, from, other)) before within
first_by parts loads place last time later first counts capacities count is next (inl less) was =
    subst (IsFirstFull parts loads place last time)
    (sym (next.none (λ room. omega (arith, room, less)))) (record {
      late = omega arith;
      free = λ p from before within. absurd (omega (arith, from, before));
      full = λ within space.
          let room = subst (λ (xs : List ℕ). slice_index counts time + 1 ≤ slice_index xs time)
          (sym is)
          (subst (λ (n : ℕ). n + 1 ≤ capacity_of parts.places kind.Sector place time) (sym count)
          space) in
          omega (arith, room, less);
    })

pub first_is : (parts : Parts) (loads : Tally) (place last time later first : ℕ)
    (counts capacities : List ℕ) → slice_index counts time ≡ load_at loads kind.Sector place time
    → capacities ≡ caps_of kind.Sector (slice_get parts.places place)
    → IsNextFull counts capacities time later first
    → IsFirstFull parts loads place last (time + 1) later
    → IsFirstFull parts loads place last time first
first_is parts loads place last time later first counts capacities count is next was =
    first_by parts loads place last time later first counts capacities count is next
    (cases_lt (slice_index capacities time) (slice_index counts time + 1)) was

-- of one node, what the table tells from a period on: the first full period from each one on
pub record TellsFull (parts : Parts) (loads : Tally) (place node : ℕ) (span : Window)
    (time first : ℕ) (lists : RateLists) : Type 0 where
  pub now : IsFirstFull parts loads place span.hi time first
  pub told : time ≤ span.hi → first ≡ (rates_of lists).clear node time
  pub full : (t : ℕ) → time ≤ t → t ≤ span.hi
      → IsFirstFull parts loads place span.hi t ((rates_of lists).clear node t)
  pub clear : IsClear time span.hi ((rates_of lists).clear node)

-- one period earlier
module _ (parts : Parts) (loads : Tally) (place node : ℕ) (span : Window) (time first new_first : ℕ)
    (old new : RateLists) (some : 0 < time)
    (here : (rates_of new).clear node (time - 1) ≡ new_first)
    (others : (t : ℕ) → t ≢ time - 1 → (rates_of new).clear node t ≡ (rates_of old).clear node t)
    (is : IsFirstFull parts loads place span.hi (time - 1) new_first)
    (was : TellsFull parts loads place node span time first old) where
  full_at : (t : ℕ) → time - 1 ≤ t → t ≤ span.hi → (t ≡ time - 1) ⊎ (t ≢ time - 1)
      → IsFirstFull parts loads place span.hi t ((rates_of new).clear node t)
  full_at t low high (inl same) =
      subst (λ k. IsFirstFull parts loads place span.hi k ((rates_of new).clear node k)) (sym same)
      (subst (IsFirstFull parts loads place span.hi (time - 1)) (sym here) is)
  full_at t low high (inr other) =
      subst (IsFirstFull parts loads place span.hi t) (sym (others t other))
      (was.full t (omega (arith, low, other)) high)

  next_is : (new_first ≡ time - 1) ⊎ (new_first ≡ first) → time ≤ span.hi
      → (new_first ≡ time - 1) ⊎ ((time - 1 < new_first)
      × (new_first ≡ (rates_of new).clear node (time - 1 + 1)))
  next_is (inl now) day = inl now
  next_is (inr later) day =
      let next : time - 1 + 1 ≡ time = omega (arith, some) in
      let same = others time (omega (arith, some)) in
      inr (
        omega (arith, later, was.now.late, some),
        later ∙ was.told day ∙ sym same ∙ sym (ap ((rates_of new).clear node) next),
      )

  clear_at : (new_first ≡ time - 1) ⊎ (new_first ≡ first) → (t : ℕ) → time - 1 ≤ t → t < span.hi
      → (t ≡ time - 1) ⊎ (t ≢ time - 1)
      → ((rates_of new).clear node t ≡ t)
      ⊎ ((t < (rates_of new).clear node t)
      × ((rates_of new).clear node t ≡ (rates_of new).clear node (t + 1)))
  clear_at choice t low high (inl same) =
      subst (λ k. ((rates_of new).clear node k ≡ k)
      ⊎ ((k < (rates_of new).clear node k)
      × ((rates_of new).clear node k ≡ (rates_of new).clear node (k + 1)))) (sym same)
      (subst (λ c. (c ≡ time - 1)
      ⊎ ((time - 1 < c) × (c ≡ (rates_of new).clear node (time - 1 + 1)))) (sym here)
      (next_is choice (omega (arith, same, high, some))))
  clear_at choice t low high (inr other) =
      subst (λ c. (c ≡ t) ⊎ ((t < c) × (c ≡ (rates_of new).clear node (t + 1))))
      (sym (others t other))
      (subst (λ d. ((rates_of old).clear node t ≡ t)
      ⊎ ((t < (rates_of old).clear node t) × ((rates_of old).clear node t ≡ d)))
      (sym (others (t + 1) (omega (arith, low, other))))
      (was.clear t (omega (arith, low, other)) high))

  pub full_more : (new_first ≡ time - 1) ⊎ (new_first ≡ first)
      → TellsFull parts loads place node span (time - 1) new_first new
  full_more choice = record {
    now = is;
    told = λ day. sym here;
    full = λ t low high. full_at t low high (cases_eq t (time - 1));
    clear = λ t low high. clear_at choice t low high (cases_eq t (time - 1));
  }
