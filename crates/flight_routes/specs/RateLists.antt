-- What a table of rates holds, and the rates that it is read as.
use Rattle.std.specs.Prelude.{◌≡◌, ℕ, ◌+◌, ◌*◌, ◌<◌, List, drop, length, replicate, take, Option, None, slice_index_or, ℤ, pos}
use Rattle.flow_types.specs.Limits.{most_nodes, most_periods}
use Rattle.time_windows.specs.declared.access.Window.{Window}
use Rattle.flight_routes.specs.Rates.{Rates}

-- for a span of periods: by period what leaving and arriving cost, and by node and period what
-- being there has cost and how long it is clear
pub record RateLists : Type 0 where
  pub span : Window
  pub leaves : List (Option ℤ)
  pub arrives : List (Option ℤ)
  pub paid : List ℤ
  pub clear : List ℕ

-- where a node and a period stand in a list
abbrev pub place_of : ℕ → ℕ → ℕ
place_of node time = node * most_periods + time

-- the part of a list that is of one node
abbrev pub part_of : {A : Type 0} → ℕ → List A → List A
part_of node items = take most_periods (drop (node * most_periods) items)

-- what the part of a node holds for a period: what being there has cost, how long it is clear
abbrev pub paid_in : List ℤ → ℕ → ℤ
paid_in paid time = slice_index_or paid time (pos 0)

abbrev pub clear_in : List ℕ → ℕ → ℕ
clear_in clear time = slice_index_or clear time most_periods

abbrev pub rates_of : RateLists → Rates
rates_of lists = record {
  leaves = λ time. slice_index_or lists.leaves time None;
  arrives = λ time. slice_index_or lists.arrives time None;
  paid = λ node time. slice_index_or lists.paid (place_of node time) (pos 0);
  clear = λ node time. slice_index_or lists.clear (place_of node time) most_periods;
}

-- room for every node and period, and a span of those that a day may have
pub record HasRoom (lists : RateLists) : Type 0 where
  pub span : lists.span.hi < most_periods
  pub leaves : length lists.leaves ≡ most_periods
  pub arrives : length lists.arrives ≡ most_periods
  pub paid : length lists.paid ≡ most_nodes * most_periods
  pub clear : length lists.clear ≡ most_nodes * most_periods

-- no period to leave or to arrive in, nothing paid, and every node clear
pub record IsBlank (lists : RateLists) : Type 0 where
  pub leaves : lists.leaves ≡ replicate most_periods None
  pub arrives : lists.arrives ≡ replicate most_periods None
  pub paid : lists.paid ≡ replicate (most_nodes * most_periods) (pos 0)
  pub clear : lists.clear ≡ replicate (most_nodes * most_periods) most_periods
