-- The program of a box, from its columns, costs and rows.
use Rattle.std.proofs.Common.{◌≡◌, ℕ, zero, suc, ◌+◌, ◌^◌, ◌<◌, ◌≤◌, Bool, List, [], ◌∷◌, ◌++◌, length, map, get_or, sum_by, All, int_lt, ℤ, pos, unsigned_abs, nat_abs, refl, sym, ap, ◌∙◌, subst, arith}
use Rattle.std.proofs.lemmas.Int.{ints}
use Rattle.std.proofs.lemmas.List.{append_assoc, get_or-map, length-append, length-map}
use Rattle.std.proofs.lemmas.List.Sums.{sum_by-cons}
use Rattle.std.specs.List.{range_with_len}
use Rattle.flow_types.specs.declared.parts.Parts.{Parts}
use Rattle.flow_types.specs.Valid.{IsScenario}
use Rattle.row_arena.specs.Rows.{most_entry}
use Rattle.scaled_simplex.specs.Program.{IsCost, Problem, columns, most_indices}
use Rattle.time_windows.specs.Boxes.{Box}
use Rattle.bytime_model.specs.declared.names.RowName.{RowName}
use Rattle.cut_rows.specs.declared.names.CutName.{CutName}
use Rattle.cut_rows.specs.Pools.{IsPoolOf, rows_with}
use Rattle.presolve.specs.Listing.{AddsRows, HaveCosts, with_rows}
use Rattle.presolve.specs.Relaxed.{at_most_one, cost_in, flipped_of, kept_of, kept_row, program_of}
use Rattle.presolve.specs.Variables.{columns_of}
use Rattle.presolve.proofs.FreeFacts.{columns_few}
use Rattle.presolve.proofs.PoolFacts.{all_few}
use Rattle.presolve.proofs.RowFacts.{kept_few}

-- the costs
module _ (parts : Parts) (box : Box) (values : List ℤ) (paid : ℤ)
    (have : HaveCosts parts box values paid) where
  value_size : (list : List ℤ) (k : ℕ) (d : ℤ) → k < length list
      → unsigned_abs (get_or list k d) ≤ sum_by unsigned_abs list
  value_size [] k d within = absurd (omega (arith, within))
  value_size (v ∷ list) zero d within =
      let all = sum_by-cons unsigned_abs v list in omega (arith, all)
  value_size (v ∷ list) (suc k) d within =
      let all = sum_by-cons unsigned_abs v list in
      let more = value_size list k d (omega (arith, within)) in
      omega (arith, all, more)

  pub sizes_small : All (λ value. unsigned_abs value < 2 ^ 62) values
  sizes_small k d within =
      let one = value_size values k d within in
      let size = have.size in
      omega (arith, one, size)

  is_cost : (z : ℤ) → unsigned_abs z < 2 ^ 62 → IsCost (pos (unsigned_abs z))
  is_cost z small = record { low = omega (arith, ints); near = omega (arith, small) }

  pub sizes_are : (sizes : List ℤ) → sizes ≡ map (λ value. pos (unsigned_abs value)) values
      → All IsCost sizes
  sizes_are sizes are =
      subst (All IsCost) (sym are) (λ k d within.
      let long = length-map values (λ value. pos (unsigned_abs value)) in
      let under : k < length values = omega (arith, within, long) in
      subst IsCost (sym (get_or-map (λ value. pos (unsigned_abs value)) values k (pos 0) d under))
      (is_cost (get_or values k (pos 0)) (sizes_small k (pos 0) under)))

  pub paid_near : nat_abs paid ≤ most_entry
  paid_near = let near = have.near in omega (arith, near)

  map_map : {A B : Type 0} (f : ℤ → B) (g : A → ℤ) (xs : List A)
      → map f (map g xs) ≡ map (λ x. f (g x)) xs
  map_map f g [] = refl
  map_map f g (x ∷ xs) = ap (λ list. f (g x) ∷ list) (map_map f g xs)

  pub flips_are : (flips : List Bool) → flips ≡ map (λ value. int_lt value (pos 0)) values
      → flips ≡ flipped_of parts box
  flips_are flips are =
      are ∙ ap (map (λ value. int_lt value (pos 0))) have.values
      ∙ map_map (λ value. int_lt value (pos 0)) (cost_in parts box) (columns_of parts box)

  pub costs_are : (sizes : List ℤ) → sizes ≡ map (λ value. pos (unsigned_abs value)) values
      → sizes ≡ map (λ column. pos (unsigned_abs (cost_in parts box column))) (columns_of parts box)
  costs_are sizes are =
      are ∙ ap (map (λ value. pos (unsigned_abs value))) have.values
      ∙ map_map (λ value. pos (unsigned_abs value)) (cost_in parts box) (columns_of parts box)

  pub costs_long : (sizes : List ℤ) → sizes ≡ map (λ value. pos (unsigned_abs value)) values
      → length sizes ≡ length (columns_of parts box)
  costs_long sizes are =
      ap length are ∙ length-map values (λ value. pos (unsigned_abs value)) ∙ ap length have.values
      ∙ length-map (columns_of parts box) (cost_in parts box)

  -- the whole
  pub program_is : (pool : List CutName) (sizes : List ℤ) (first last : Problem)
      → sizes ≡ map (λ value. pos (unsigned_abs value)) values
      → first ≡ record { costs = sizes; constant = paid; constraints = [] }
      → last ≡ with_rows first (program_of parts pool box).constraints
      → last ≡ program_of parts pool box
  program_is pool sizes first last are begun whole =
      whole
      ∙ ap (λ (p : Problem). with_rows p (program_of parts pool box).constraints) begun
      ∙ ap (λ list. record {
        costs = list;
        constant = paid;
        constraints = (program_of parts pool box).constraints;
      }) (costs_are sizes are)
      ∙ ap (λ n. record {
        costs = (program_of parts pool box).costs;
        constant = n;
        constraints = (program_of parts pool box).constraints;
      }) have.constant

pub rows_are : (parts : Parts) (pool : List CutName) (box : Box) (start kept : List RowName)
    (count : ℕ) (first second third : Problem)
    → AddsRows parts pool box (rows_with parts pool) first second start kept
    → third ≡ with_rows second (map at_most_one (range_with_len 0 count))
    → count ≡ length (columns_of parts box)
    → third ≡ with_rows first (program_of parts pool box).constraints
rows_are parts pool box start kept count first second third rows ones long =
    ones
    ∙ ap (λ (p : Problem). with_rows p (map at_most_one (range_with_len 0 count))) rows.program
    ∙ ap (λ list. record {
      costs = first.costs;
      constant = first.constant;
      constraints = list;
    }) (append_assoc first.constraints (map (kept_row parts pool box) (kept_of parts pool box))
    (map at_most_one (range_with_len 0 count))
    ∙ ap (λ n. first.constraints ++ (map (kept_row parts pool box) (kept_of parts pool box)
    ++ map at_most_one (range_with_len 0 n))) long)

pub kept_is : (parts : Parts) (pool : List CutName) (box : Box) (start kept : List RowName)
    (first second : Problem)
    → AddsRows parts pool box (rows_with parts pool) first second start kept → start ≡ []
    → kept ≡ kept_of parts pool box
kept_is parts pool box start kept first second rows none =
    rows.kept ∙ ap (λ list. list ++ kept_of parts pool box) none

-- there is room for all columns and rows
pub sizes_few : (parts : Parts) (box : Box) (values sizes : List ℤ) (paid : ℤ)
    → IsScenario parts → HaveCosts parts box values paid
    → sizes ≡ map (λ value. pos (unsigned_abs value)) values → length sizes ≤ most_indices
sizes_few parts box values sizes paid scenario have are =
    let long = costs_long parts box values paid have sizes are in
    let few = columns_few parts scenario box in
    omega (arith, long, few)

pub rows_room : (parts : Parts) (pool : List CutName) (box : Box) (count : ℕ) (first : Problem)
    → IsScenario parts → IsPoolOf parts pool → columns first ≡ count
    → count ≡ length (columns_of parts box) → first.constraints ≡ []
    → columns first + length first.constraints + length (rows_with parts pool) ≤ most_indices
rows_room parts pool box count first scenario cuts long count_is none =
    let rows = all_few parts pool cuts scenario in
    let cols = columns_few parts scenario box in
    let three = ap length none in
    omega (arith, rows, cols, three, long, count_is)

pub ones_room : (parts : Parts) (pool : List CutName) (box : Box) (start kept : List RowName)
    (count : ℕ) (first second : Problem) → IsScenario parts → IsPoolOf parts pool
    → AddsRows parts pool box (rows_with parts pool) first second start kept
    → first.constraints ≡ [] → columns first ≡ count → count ≡ length (columns_of parts box)
    → columns second + length second.constraints + count ≤ most_indices
ones_room parts pool box start kept count first second scenario cuts rows none long count_is =
    let all = all_few parts pool cuts scenario in
    let cols = columns_few parts scenario box in
    let two = ap (λ (p : Problem). length p.constraints) rows.program in
    let three = ap columns rows.program in
    let four = length-append first.constraints
    (map (kept_row parts pool box) (kept_of parts pool box)) in
    let five = length-map (kept_of parts pool box) (kept_row parts pool box) in
    let six = kept_few parts pool box (rows_with parts pool) in
    let seven = ap length none in
    omega (arith, all, cols, two, three, four, five, six, seven, long, count_is)
