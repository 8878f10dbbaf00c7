-- Moves by a leg, from those into a window.
use Rattle.std.proofs.Common.{◌≡◌, ◌⊎◌, ℕ, ◌+◌, ◌*◌, ◌<◌, ◌≤◌, List, length, drop, slice_index_or, Option, Some, IsSome, ℤ, refl, sym, ap, ◌∙◌, subst, inl, inr, arith}
use Rattle.std.proofs.lemmas.Bool.{cases_lt}
use Rattle.std.proofs.lemmas.List.{get_or-drop, get_or-take, get_or_past}
use Rattle.flow_types.specs.Limits.{most_periods}
use Rattle.flow_types.specs.declared.flight.Leg.{Leg}
use Rattle.time_windows.specs.declared.access.Access.{Access}
use Rattle.time_windows.specs.declared.access.Window.{Window}
use Rattle.time_windows.specs.Boxes.{IsInWindow, IsProper}
use Rattle.exact_sums.proofs.LeastFacts.{least_said}
use Rattle.flight_routes.specs.Entries.{IsMove, IsMoveBy, Offers, cell_at, entry_cost}
use Rattle.flight_routes.specs.RateLists.{part_of, place_of}
use Rattle.flight_routes.specs.Rates.{IsClear, PassesNoMust, Rates}
use Rattle.flight_routes.specs.Ready.{AreWindows}

-- a window is in order, and begins and ends within the span
pub window_last : (span : Window) (row : ℕ → Access) (n : ℕ) (window : Window)
    → AreWindows span row → (row n).window ≡ Some window
    → (window.lo ≤ window.hi) × (window.hi ≤ span.hi) × (span.lo ≤ window.lo)
window_last span row n window windows is =
    let proper : window.lo ≤ window.hi = subst IsProper is (windows.proper n) in
    let last = windows.within n window.hi
    (subst (λ (w : Option Window). IsInWindow w window.hi) (sym is) (proper, omega arith)) in
    let first = windows.within n window.lo
    (subst (λ (w : Option Window). IsInWindow w window.lo) (sym is) (omega arith, proper)) in
    (proper, last.1, first.0)

-- what a part of a list holds for a period
module _ {A : Type 0} (items : List A) (node : ℕ) (d : A) where
  pub part_at : (part : List A) → part ≡ part_of node items → (t : ℕ) → t < most_periods
      → slice_index_or part t d ≡ slice_index_or items (place_of node t) d
  part_at part is t in_day =
      ap (λ xs. slice_index_or xs t d) is
      ∙ get_or-take most_periods (drop (node * most_periods) items) t d in_day
      ∙ get_or-drop (node * most_periods) items t d

-- what holds of the value of each period, and of none, holds of what a part has
pub part_all : {A : Type 0} (P : A → Type 0) (part : List A) (d : A) → length part ≡ most_periods
    → P d → ((t : ℕ) → t < most_periods → P (slice_index_or part t d))
    → (t : ℕ) → P (slice_index_or part t d)
part_all P part d long none each t = by (cases_lt t most_periods)
  where
    by : (t < most_periods) ⊎ (most_periods ≤ t) → P (slice_index_or part t d)
    by (inl within) = each t within
    by (inr past) = subst P (sym (get_or_past part t d (omega (arith, long, past)))) none

-- the part of a node is clear as the node is
pub part_clear : (span : Window) (rates : Rates) (node from to : ℕ) (clear : ℕ → ℕ)
    → IsClear span.lo span.hi (rates.clear node) → span.lo ≤ from → to ≤ span.hi
    → span.hi < most_periods
    → ((t : ℕ) → t < most_periods → clear t ≡ rates.clear node t) → IsClear from to clear
part_clear span rates node from to clear are low within few same t after before =
    let here = same t (omega (arith, before, within, few)) in
    let next = same (t + 1) (omega (arith, before, within, few)) in
    subst (λ a. (a ≡ t) ⊎ ((t < a) × (a ≡ clear (t + 1)))) (sym here)
    (subst (λ b. (rates.clear node t ≡ t)
    ⊎ ((t < rates.clear node t) × (rates.clear node t ≡ b))) (sym next)
    (are t (omega (arith, low, after)) (omega (arith, before, within))))

module _ (row : ℕ → Access) (rates : Rates) (cells : List (Option ℤ)) (leg : Leg) (node t : ℕ)
    (clear : ℕ → ℕ) (paid : ℕ → ℤ) (cell : ℕ → Option ℤ)
    (clear_is : (u : ℕ) → u < most_periods → clear u ≡ rates.clear node u)
    (paid_is : (u : ℕ) → u < most_periods → paid u ≡ rates.paid node u)
    (cell_is : (u : ℕ) → u < most_periods → cell u ≡ cell_at cells leg.to u)
    (in_day : t < most_periods) where
  module _ (next : Window) (is : (row leg.to).window ≡ Some next) (last : next.hi < most_periods)
      (here : leg.from ≡ node) (musts : PassesNoMust row node leg.to) where
    move_by : (u : ℕ) → IsMove clear cell next leg.least t u
        → IsMoveBy row rates cells leg node t u
        × (entry_cost (rates.paid node) (cell_at cells leg.to) u ≡ entry_cost paid cell u)
    move_by u move =
        let day : u < most_periods = omega (arith, move.hi, last) in (
          record {
            here = here;
            musts = musts;
            window = subst (λ (w : Option Window). IsInWindow w u) (sym is) (move.lo, move.hi);
            late = move.late;
            stay = omega (arith, move.stay, clear_is t in_day);
            reaches = subst IsSome (cell_is u day) move.reaches;
          },
          rw (sym (paid_is u day), sym (cell_is u day)) refl,
        )

    move_in : (u : ℕ) → IsMoveBy row rates cells leg node t u
        → IsMove clear cell next leg.least t u
    move_in u move =
        let within = subst (λ (w : Option Window). IsInWindow w u) is move.window in
        record {
          late = move.late;
          stay = omega (arith, move.stay, clear_is t in_day);
          lo = within.0;
          hi = within.1;
          reaches = subst IsSome (sym (cell_is u (omega (arith, within.1, last)))) move.reaches;
        }

    -- the moves by the leg are those into its window, told of the parts of the two nodes
    pub offers_by : (old new : Option ℤ)
        → Offers (IsMove clear cell next leg.least t) (entry_cost paid cell) old new
        → Offers (IsMoveBy row rates cells leg node t)
        (entry_cost (rates.paid node) (cell_at cells leg.to)) old new
    offers_by old new offers = record {
      offer = offers.offer;
      least = least_said (IsMove clear cell next leg.least t)
          (IsMoveBy row rates cells leg node t) (entry_cost paid cell)
          (entry_cost (rates.paid node) (cell_at cells leg.to))
          move_by move_in offers.offer offers.least;
      is = offers.is;
    }
