-- The columns: how many there are at most, that the box leaves them free, and where each stands.
use Rattle.std.proofs.Common.{◌≡◌, ℕ, zero, suc, ◌*◌, ◌≤◌, ◌==◌, Bool, true, false, ◌&&◌, List, [], ◌∷◌, length, Some, slice_get, if◌then◌else◌, All, ℤ, pos, ◌+ℤ◌, ◌≤ℤ◌, refl, sym, ap, ◌∙◌, arith}
use Rattle.std.proofs.lemmas.Bool.{and_parts}
use Rattle.std.proofs.lemmas.Bool.Decides.{Decides-eqb}
use Rattle.std.proofs.Math.Nat.{mul-le-mul_right}
use Rattle.std.proofs.lemmas.List.{length-append}
use Rattle.std.specs.List.{flat_map}
use Rattle.exact_sums.specs.Sums.{total}
use Rattle.flow_types.specs.declared.flight.Flight.{Flight}
use Rattle.flow_types.specs.declared.parts.Parts.{Parts}
use Rattle.flow_types.specs.Valid.{IsScenario}
use Rattle.row_arena.proofs.WholeLaws.{linear}
use Rattle.time_windows.specs.Boxes.{Box, IsBoxOf}
use Rattle.bytime_model.specs.declared.left.Left.{Left}
use Rattle.bytime_model.specs.declared.left.Left.TheVariants.{Free, One, Same, Zero}
use Rattle.bytime_model.specs.declared.variables.Var.{Var}
use Rattle.bytime_model.specs.declared.variables.Var.TheVariants.{By, Inside}
use Rattle.bytime_model.specs.Left.{left_of}
use Rattle.bytime_model.specs.Rows.{node_count}
use Rattle.bytime_model.specs.Values.{has_inside}
use Rattle.bytime_model.proofs.AllRowsFacts.{nodes_few}
use Rattle.bytime_model.proofs.NameLists.{Each, each_all, each_append, each_flat, each_if}
use Rattle.presolve.proofs.FlatFacts.{flat_few}
use Rattle.bytime_model.specs.Columns.{IsThere}
use Rattle.presolve.specs.Listing.{most_columns}
use Rattle.presolve.specs.Variables.{by_columns, columns_of, flight_columns, if_free, inside_columns, is_free, is_same, node_columns, periods_of}
use Rattle.presolve.proofs.ColumnFacts.{once}

times_le : (a b m : ℕ) → a ≤ b → a * m ≤ b * m
times_le a b m le = mul-le-mul_right m le

module _ (parts : Parts) (scenario : IsScenario parts) (box : Box) where
  if_free_few : (variable : Var) → length (if_free parts box variable) ≤ 1
  if_free_few variable = by (is_free (left_of parts.flights box variable))
    where
      by : (b : Bool) → length (if b then variable ∷ [] else []) ≤ 1
      by true = omega arith
      by false = omega arith

  times_few : (kind : ℕ → Var)
      → length (flat_map (λ t. if_free parts box (kind t)) (periods_of parts)) ≤ 512
  times_few kind =
      let all = flat_few (λ t. if_free parts box (kind t)) 1 0 parts.day.periods
      (λ t. if_free_few (kind t)) in
      let most = scenario.day.periods_to in
      omega (arith, all, most)

  inside_few : (f n : ℕ) → length (inside_columns parts box f n) ≤ 512
  inside_few f n = by (has_inside (slice_get parts.flights f) n)
    where
      by : (b : Bool) → length (if b
          then flat_map (λ t. if_free parts box (Inside f n t)) (periods_of parts) else []) ≤ 512
      by true = times_few (Inside f n)
      by false = omega arith

  node_few : (f n : ℕ) → length (node_columns parts box f n) ≤ 1024
  node_few f n =
      let both = length-append (by_columns parts box f n) (inside_columns parts box f n) in
      let one = times_few (By f n) in
      let two = inside_few f n in
      omega (arith, both, one, two)

  flight_few : (f : ℕ) → length (flight_columns parts box f) ≤ 32768
  flight_few f =
      let all = flat_few (node_columns parts box f) 1024 0 (node_count (slice_get parts.flights f))
      (node_few f) in
      let most = nodes_few parts f scenario in
      omega (arith, all, most)

  pub columns_few : length (columns_of parts box) ≤ most_columns
  columns_few =
      let all = flat_few (flight_columns parts box) 32768 0 (length parts.flights) flight_few in
      let most = scenario.flights.few in
      omega (arith, all, most)

-- a column is free, and one of the program's variables
pub record IsFreed (flights : List Flight) (box : Box) (column : Var) : Type 0 where
  pub there : IsThere flights column
  pub free : left_of flights box column ≡ Free

free_from : (left : Left) → is_free left ≡ true → left ≡ Free
free_from Zero is = absurd cc
free_from One is = absurd cc
free_from (Same other) is = absurd cc
free_from Free is = refl

module _ (parts : Parts) (box : Box) where
  abbrev Is : Var → Type 0
  Is = IsFreed parts.flights box

  freed_one : (variable : Var) → IsThere parts.flights variable
      → Each Is (if_free parts box variable)
  freed_one variable there =
      each_if Is (is_free (left_of parts.flights box variable)) (variable ∷ [])
      (λ is. (
        record {
          there = there;
          free = free_from (left_of parts.flights box variable) is;
        },
        tt,
      ))

  freed_times : (kind : ℕ → Var) → ((t : ℕ) → IsThere parts.flights (kind t))
      → Each Is (flat_map (λ t. if_free parts box (kind t)) (periods_of parts))
  freed_times kind there =
      each_flat Is (λ t. if_free parts box (kind t)) 0 parts.day.periods
      (λ t past before. freed_one (kind t) (there t))

  freed_node : (f n : ℕ) → Each Is (node_columns parts box f n)
  freed_node f n =
      each_append Is (by_columns parts box f n) (inside_columns parts box f n)
      (freed_times (By f n) (λ t. tt))
      (each_if Is (has_inside (slice_get parts.flights f) n)
      (flat_map (λ t. if_free parts box (Inside f n t)) (periods_of parts))
      (λ has. freed_times (Inside f n) (λ t. has)))

  pub all_freed : All Is (columns_of parts box)
  all_freed =
      each_all Is (columns_of parts box)
      (each_flat Is (flight_columns parts box) 0 (length parts.flights) (λ f past before.
      each_flat Is (node_columns parts box f) 0 (node_count (slice_get parts.flights f))
      (λ n since until. freed_node f n)))

-- one and the same variable, by the test
pub same_is : (a b : Var) → is_same a b ≡ true → a ≡ b
same_is (By f n t) (By g m u) is =
    let one = and_parts (f == g) ((n == m) && (t == u)) is in
    let two = and_parts (n == m) (t == u) one.1 in
    let flight = (Decides-eqb f g).0 one.0 in
    let node = (Decides-eqb n m).0 two.0 in
    let time = (Decides-eqb t u).0 two.1 in cc
same_is (By f n t) (Inside g m u) is = absurd cc
same_is (Inside f n t) (By g m u) is = absurd cc
same_is (Inside f n t) (Inside g m u) is =
    let one = and_parts (f == g) ((n == m) && (t == u)) is in
    let two = and_parts (n == m) (t == u) one.1 in
    let flight = (Decides-eqb f g).0 one.0 in
    let node = (Decides-eqb n m).0 two.0 in
    let time = (Decides-eqb t u).0 two.1 in cc

and_two : (a b : Bool) → a ≡ true → b ≡ true → (a && b) ≡ true
and_two true true x y = refl
and_two true false x y = y
and_two false b x y = x

pub is_itself : (a : Var) → is_same a a ≡ true
is_itself (By f n t) =
    and_two (f == f) ((n == n) && (t == t)) ((Decides-eqb f f).1 refl)
    (and_two (n == n) (t == t) ((Decides-eqb n n).1 refl) ((Decides-eqb t t).1 refl))
is_itself (Inside f n t) =
    and_two (f == f) ((n == n) && (t == t)) ((Decides-eqb f f).1 refl)
    (and_two (n == n) (t == t) ((Decides-eqb n n).1 refl) ((Decides-eqb t t).1 refl))

-- how often a list has a variable
module _ (variable : Var) where
  abbrev pub counted : Var → ℤ
  counted other = if is_same variable other then pos 1 else pos 0

  count_low : (xs : List Var) → pos 0 ≤ℤ total counted xs
  count_low [] = omega (arith, linear)
  count_low (x ∷ xs) =
      let more = count_low xs in
      let here = by (is_same variable x) in
      omega (arith, linear, more, here)
    where
      by : (b : Bool) → pos 0 ≤ℤ (if b then pos 1 else pos 0)
      by true = omega (arith, linear)
      by false = omega (arith, linear)

  here_one : (other : Var) → other ≡ variable → counted other ≡ pos 1
  here_one other same =
      ap (λ b. if b then pos 1 else pos 0)
      (ap (is_same variable) same ∙ is_itself variable)

  pub found_at : (xs : List Var) → total counted xs ≡ pos 1
      → (k : ℕ) × (slice_get xs k ≡ Some variable)
  found_at [] one = absurd (omega (arith, linear, one))
  found_at (x ∷ xs) one = by (is_same variable x) refl one (found_at xs)
    where
      by : (b : Bool) → is_same variable x ≡ b
          → (if b then pos 1 else pos 0) +ℤ total counted xs ≡ pos 1
          → (total counted xs ≡ pos 1 → (k : ℕ) × (slice_get xs k ≡ Some variable))
          → (k : ℕ) × (slice_get (x ∷ xs) k ≡ Some variable)
      by true is one later = (0, ap Some (sym (same_is variable x is)))
      by false isnt one later =
          let at = later (omega (arith, linear, one)) in (suc at.0, at.1)

  not_none : (xs : List Var) (k : ℕ) → slice_get xs k ≡ Some variable
      → pos 1 ≤ℤ total counted xs
  not_none [] k here = absurd cc
  not_none (x ∷ xs) zero here =
      let same : x ≡ variable = cc in
      let first = here_one x same in
      let rest = count_low xs in
      omega (arith, linear, first, rest)
  not_none (x ∷ xs) (suc k) here =
      let more = not_none xs k here in
      let first = count_low (x ∷ []) in
      omega (arith, linear, more, first)

  pub at_once : (xs : List Var) (j k : ℕ) → total counted xs ≡ pos 1
      → slice_get xs j ≡ Some variable → slice_get xs k ≡ Some variable → j ≡ k
  at_once [] j k one first second = absurd cc
  at_once (x ∷ xs) zero zero one first second = refl
  at_once (x ∷ xs) zero (suc k) one first second =
      let same : x ≡ variable = cc in
      let here = here_one x same in
      let more = not_none xs k second in
      absurd (omega (arith, linear, one, here, more))
  at_once (x ∷ xs) (suc j) zero one first second =
      let same : x ≡ variable = cc in
      let here = here_one x same in
      let more = not_none xs j first in
      absurd (omega (arith, linear, one, here, more))
  at_once (x ∷ xs) (suc j) (suc k) one first second =
      ap suc (at_once xs j k (rest (is_same variable x) refl) first second)
    where
      rest : (b : Bool) → is_same variable x ≡ b → total counted xs ≡ pos 1
      rest true is =
          let here = ap (λ c. if c then pos 1 else pos 0) is in
          let more = not_none xs j first in
          absurd (omega (arith, linear, one, here, more))
      rest false isnt =
          let here = ap (λ c. if c then pos 1 else pos 0) isnt in
          omega (arith, linear, one, here)

-- a free variable is one column, once
module _ (parts : Parts) (scenario : IsScenario parts) (box : Box) (made : IsBoxOf parts box)
    (variable : Var) (there : IsThere parts.flights variable)
    (free : left_of parts.flights box variable ≡ Free) where
  one_column : total (counted variable) (columns_of parts box) ≡ pos 1
  one_column = once parts scenario box made (λ other. pos 1) variable there free

  pub column_there : (k : ℕ) × (slice_get (columns_of parts box) k ≡ Some variable)
  column_there = found_at variable (columns_of parts box) one_column

  pub column_once : (j k : ℕ) → slice_get (columns_of parts box) j ≡ Some variable
      → slice_get (columns_of parts box) k ≡ Some variable → j ≡ k
  column_once j k = at_once variable (columns_of parts box) j k one_column
