-- Cells node by node, and the starts over the first window.
use Rattle.std.proofs.Common.{◌≡◌, ◌==◌, ◌⊎◌, ℕ, ◌+◌, ◌<◌, ◌≤◌, List, length, Option, None, Some, IsSome, ℤ, ◌+ℤ◌, refl, sym, ap, ◌∙◌, subst, inl, inr, arith}
use Rattle.std.proofs.lemmas.Bool.{cases_eq, cases_lt, eq-eqb}
use Rattle.std.specs.List.{filter}
use Rattle.flow_types.specs.declared.flight.Flight.{Flight}
use Rattle.time_windows.specs.declared.access.Access.{Access}
use Rattle.time_windows.specs.declared.access.Window.{Window}
use Rattle.time_windows.specs.Boxes.{IsInWindow}
use Rattle.exact_sums.specs.Leasts.{IsLeast, lesser}
use Rattle.exact_sums.proofs.ItemFacts.{filter-has, filter-of}
use Rattle.exact_sums.proofs.LeastFacts.{least_either, least_one, least_same}
use Rattle.flight_routes.specs.Entries.{cell_at}
use Rattle.flight_routes.specs.Rates.{Rates, value_or_zero}
use Rattle.flight_routes.specs.Ways.{AreCells, HasLegsFrom, IsCell, IsStart, both_of, start_cost}
use Rattle.flow_types.specs.declared.flight.Leg.{Leg}
use Rattle.flight_routes.proofs.EntryFacts.{no_none, some_is}

-- all legs of a flight have those from each node
pub all_legs : (node : ℕ) (legs : List Leg) → HasLegsFrom node legs legs
all_legs node legs = record { each = λ leg here has. has; only = λ leg has. has }

-- and so do those that a filter keeps
pub filtered_legs : (node : ℕ) (all legs : List Leg) → legs ≡ filter (λ leg. leg.from == node) all
    → HasLegsFrom node all legs
filtered_legs node all legs is =
    subst (HasLegsFrom node all) (sym is) (record {
      each = λ leg here has. filter-has (λ (x : Leg). x.from == node) all leg
          (eq-eqb leg.from node here) has;
      only = filter-of (λ (x : Leg). x.from == node) all;
    })

module _ (flight : Flight) (row : ℕ → Access) (rates : Rates) where
  cell_by : (node : ℕ) (old new : List (Option ℤ))
      → AreCells flight row rates (node + 1) old
      → ((t : ℕ) → IsInWindow (row node).window t
      → IsCell flight row rates node t (cell_at new node t))
      → ((n t : ℕ) → IsInWindow (row n).window t → (n ≡ node → ⊥)
      → cell_at new n t ≡ cell_at old n t)
      → (n t : ℕ) → node ≤ n → n < length flight.nodes → IsInWindow (row n).window t
      → (n ≡ node) ⊎ (n ≡ node → ⊥) → IsCell flight row rates n t (cell_at new n t)
  cell_by node old new are here other n t after inside within (inl same) =
      subst (λ (m : ℕ). IsCell flight row rates m t (cell_at new m t)) (sym same)
      (here t (subst (λ (m : ℕ). IsInWindow (row m).window t) same within))
  cell_by node old new are here other n t after inside within (inr not) =
      subst (IsCell flight row rates n t) (sym (other n t within not))
      (are.each n t (omega (arith, not)) inside within)

  -- one node more
  pub cells_next : (node : ℕ) (old new : List (Option ℤ))
      → AreCells flight row rates (node + 1) old
      → ((t : ℕ) → IsInWindow (row node).window t
      → IsCell flight row rates node t (cell_at new node t))
      → ((n t : ℕ) → IsInWindow (row n).window t → (n ≡ node → ⊥)
      → cell_at new n t ≡ cell_at old n t)
      → AreCells flight row rates node new
  cells_next node old new are here other = record {
    each = λ n t after inside within. cell_by node old new are here other n t after inside within
        (cases_eq n node);
  }

  -- no node is past the last
  pub cells_none : (cells : List (Option ℤ)) (from : ℕ) → length flight.nodes ≤ from
      → AreCells flight row rates from cells
  cells_none cells from past = record {
    each = λ n t after inside within. absurd (omega arith);
  }

module _ (row : ℕ → Access) (rates : Rates) (cells : List (Option ℤ)) (window : Window)
    (is : (row 0).window ≡ Some window) where
  IsBefore : ℕ → ℕ → Type 0
  IsBefore time t = IsStart row rates cells t × (t < time)

  IsHere : ℕ → ℕ → Type 0
  IsHere time t = IsStart row rates cells t × (t ≡ time)

  here_by : (time : ℕ) (leaves cell : Option ℤ) → rates.leaves time ≡ leaves
      → cell_at cells 0 time ≡ cell → window.lo ≤ time → time ≤ window.hi
      → IsLeast (IsHere time) (start_cost rates cells) (both_of leaves cell)
  unfolding IsHere
  here_by time None cell leaves_is cell_is from to = λ t here.
      no_none (rates.leaves time) leaves_is
      (subst (λ (n : ℕ). IsSome (rates.leaves n)) here.1 here.0.leaves)
  here_by time (Some a) None leaves_is cell_is from to = λ t here.
      no_none (cell_at cells 0 time) cell_is
      (subst (λ (n : ℕ). IsSome (cell_at cells 0 n)) here.1 here.0.reaches)
  here_by time (Some a) (Some b) leaves_is cell_is from to =
      subst (λ (cost : ℤ). IsLeast (IsHere time) (start_cost rates cells) (Some cost))
      (ap (λ (o : Option ℤ). value_or_zero o +ℤ value_or_zero (cell_at cells 0 time)) leaves_is
      ∙ ap (λ (o : Option ℤ). a +ℤ value_or_zero o) cell_is)
      (least_one (IsHere time) (start_cost rates cells) time (
        record {
          window = subst (λ (w : Option Window). IsInWindow w time) (sym is) (from, to);
          leaves = some_is (rates.leaves time) a leaves_is;
          reaches = some_is (cell_at cells 0 time) b cell_is;
        },
        refl,
      ) (λ t here. here.1))

  starts_apart : (time t : ℕ) → IsBefore (time + 1) t → (t < time) ⊎ (time ≤ t)
      → IsBefore time t ⊎ IsHere time t
  unfolding IsBefore IsHere
  starts_apart time t start (inl before) = inl (start.0, before)
  starts_apart time t start (inr past) = inr (start.0, omega (arith, start.1))

  -- one period more
  pub starts_next : (time : ℕ) (least : Option ℤ) → window.lo ≤ time → time ≤ window.hi
      → IsLeast (λ t. IsStart row rates cells t × (t < time)) (start_cost rates cells) least
      → IsLeast (λ t. IsStart row rates cells t × (t < time + 1)) (start_cost rates cells)
      (lesser least (both_of (rates.leaves time) (cell_at cells 0 time)))
  unfolding IsBefore IsHere
  starts_next time least from to so_far =
      least_either (IsBefore time) (IsHere time) (IsBefore (time + 1)) (start_cost rates cells)
      (λ t start. (start.0, omega (arith, start.1)))
      (λ t start. (start.0, omega (arith, start.1)))
      (λ t start. starts_apart time t start (cases_lt t time))
      least (both_of (rates.leaves time) (cell_at cells 0 time)) so_far
      (here_by time (rates.leaves time) (cell_at cells 0 time) refl refl from to)

  in_window : (t : ℕ) → IsStart row rates cells t → (window.lo ≤ t) × (t ≤ window.hi)
  in_window t start = subst (λ (w : Option Window). IsInWindow w t) is start.window

  -- none before the window, and all before its end
  pub starts_none : IsLeast (λ t. IsStart row rates cells t × (t < window.lo))
      (start_cost rates cells) None
  starts_none = λ t start. omega (arith, start.1, (in_window t start.0).0)

  pub starts_all : (time : ℕ) (least : Option ℤ) → window.hi < time
      → IsLeast (λ t. IsStart row rates cells t × (t < time)) (start_cost rates cells) least
      → IsLeast (IsStart row rates cells) (start_cost rates cells) least
  starts_all time least past so_far =
      least_same (λ t. IsStart row rates cells t × (t < time)) (IsStart row rates cells)
      (start_cost rates cells) (λ t start. start.0)
      (λ t start. (start, omega (arith, (in_window t start).1))) least so_far
