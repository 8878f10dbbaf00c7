-- The program of a narrow box of the day of two flights: each departs in one of two periods and
-- arrives in one of two. And a point of it, at which each departs half by the first period.
use Rattle.std.proofs.Common.{◌≡◌, ℕ, ◌+◌, ◌==◌, ◌≤◌, Bool, true, false, not, nat_le, nat_lt, Option, None, Some, List, [], ◌∷◌, length, slice_get, slice_index_or, int_lt, if◌then◌else◌, ℤ, pos, neg_ℤ, ◌*ℤ◌, ◌≤ℤ◌, refl, sym, ap, ◌∙◌, arith}
use Rattle.std.proofs.lemmas.Bool.Decides.{nat_tests}
use Rattle.std.proofs.lemmas.List.Sums.{AllPass-from_list_all}
use Rattle.flow_types.specs.declared.parts.Parts.{Parts}
use Rattle.scaled_simplex.specs.Points.{IsProgramPoint, point_cost, terms_at}
use Rattle.scaled_simplex.specs.Program.{Constraint}
use Rattle.row_arena.proofs.WholeLaws.{less_isnt, linear}
use Rattle.time_windows.specs.declared.access.Access.{Access}
use Rattle.time_windows.specs.declared.access.Window.{Window}
use Rattle.time_windows.specs.Boxes.{Box}
use Rattle.bytime_model.specs.declared.left.Left.TheVariants.{Free, One, Same, Zero}
use Rattle.bytime_model.specs.declared.names.RowName.{RowName}
use Rattle.bytime_model.specs.declared.names.RowName.TheVariants.{Cut, Dep, Enter, Leave, Mono, Sector, Top}
use Rattle.bytime_model.specs.declared.variables.Var.{Var}
use Rattle.bytime_model.specs.declared.variables.Var.TheVariants.{By, Inside}
use Rattle.bytime_model.specs.Left.{by_left, inside_left, left_of, may_stay}
use Rattle.cut_rows.specs.declared.names.CutName.{CutName}
use Rattle.cut_rows.specs.declared.names.CutName.TheVariants.{Departed}
use Rattle.cut_rows.specs.Pools.{row_with, rows_with}
use Rattle.presolve.specs.Leaf.{leaf_rows}
use Rattle.presolve.specs.Points.{AgreesOver, IsNumerator, IsRelaxationPoint, IsRowKept, form_at, relaxation_cost, value_of_point}
use Rattle.presolve.specs.Relaxed.{kept_of, kept_row, flipped_of, may_exceed, program_of, row_in}
use Rattle.presolve.specs.Variables.{columns_of}
use Rattle.worked_days.specs.Days.{two_flights}

abbrev two : Parts
two = two_flights 1 9 9

-- no cuts
abbrev none : List CutName
none = []

abbrev opened : ℕ → ℕ → Bool → Access
opened lo hi must = record { window = Some (record { lo = lo; hi = hi }); must = must }

-- both flights alike: the ends must be entered
abbrev narrow : Box
narrow flight node =
    if node == 0 then opened 0 1 true
    else (if node == 1 then opened 0 1 false else opened 2 3 true)

-- the departures, the sector by the first period and by the second, and the arrivals
columns : columns_of two narrow
    ≡ By 0 0 0 ∷ By 0 1 0 ∷ By 0 1 1 ∷ By 0 2 2 ∷ By 1 0 0 ∷ By 1 1 0 ∷ By 1 1 1 ∷ By 1 2 2 ∷ []
columns = refl

-- to arrive late costs 2 a period, so the arrivals are flipped; to depart late spares 1
flips : flipped_of two narrow
    ≡ false ∷ false ∷ false ∷ true ∷ false ∷ false ∷ false ∷ true ∷ []
flips = refl

costs : (program_of two none narrow).costs
    ≡ pos 1 ∷ pos 0 ∷ pos 0 ∷ pos 2 ∷ pos 1 ∷ pos 0 ∷ pos 0 ∷ pos 2 ∷ []
costs = refl

constant : (program_of two none narrow).constant ≡ neg_ℤ (pos 2)
constant = refl

-- at most one departs in the second period: both are open by then, so at least one has left
departures : kept_row two none narrow (Dep 0 1) ≡ record {
  terms = record { column = 0; value = neg_ℤ (pos 1) } ∷ record {
    column = 4;
    value = neg_ℤ (pos 1);
  } ∷ [];
  limit = neg_ℤ (pos 1);
}
departures = refl

-- an arrival is flipped, in its factor and in the limit
arrival : kept_row two none narrow (Enter 0 2 2) ≡ record {
  terms = record { column = 1; value = neg_ℤ (pos 1) } ∷ record {
    column = 3;
    value = neg_ℤ (pos 1);
  } ∷ [];
  limit = neg_ℤ (pos 1);
}
arrival = refl

-- what is the same as a column by now counts there
merged : kept_row two none narrow (Enter 0 2 5) ≡ record {
  terms = record { column = 2; value = neg_ℤ (pos 1) } ∷ [];
  limit = neg_ℤ (pos 1);
}
merged = refl

-- a node that must be entered is entered once at the most, and nine have room
never : may_exceed (row_in two none narrow (Top 0 0)) ≡ false
never = refl

room : may_exceed (row_in two none narrow (Sector 2 3)) ≡ false
room = refl

-- a multiplier of 0 has no place in a leaf, nor has one past the names
leaf : leaf_rows (Dep 0 1 ∷ Leave 0 0 ∷ []) (pos 3 ∷ pos 0 ∷ pos 5 ∷ [])
    ≡ record { row = Dep 0 1; value = 3 } ∷ []
leaf = refl

-- of 124 rows 20 are kept; after them stand those of the columns
kept : kept_of two none narrow
    ≡ Mono 0 1 1 ∷ Mono 1 1 1 ∷ Dep 0 0 ∷ Dep 0 1 ∷ Enter 0 1 0 ∷ Enter 0 2 2 ∷ Enter 0 2 3
    ∷ Enter 0 2 4 ∷ Enter 0 2 5 ∷ Enter 0 2 6 ∷ Enter 0 2 7 ∷ Enter 1 1 0 ∷ Enter 1 2 2
    ∷ Enter 1 2 3 ∷ Enter 1 2 4 ∷ Enter 1 2 5 ∷ Enter 1 2 6 ∷ Enter 1 2 7 ∷ Leave 0 0
    ∷ Leave 1 0 ∷ []
kept = refl

rows : length (program_of two none narrow).constraints ≡ 28
rows = refl

-- with a cut there is a row more, behind those of the day: who arrives first has departed first
abbrev pool : List CutName
pool = Departed 0 2 2 ∷ []

cut : kept_row two pool narrow (Cut 0) ≡ record {
  terms = record { column = 0; value = neg_ℤ (pos 1) } ∷ record {
    column = 3;
    value = neg_ℤ (pos 1);
  } ∷ [];
  limit = neg_ℤ (pos 1);
}
cut = refl

last_kept : slice_get (kept_of two pool narrow) 20 ≡ Some (Cut 0)
last_kept = refl

more_rows : length (program_of two pool narrow).constraints ≡ 29
more_rows = refl

-- numerators over 2 of the columns: the arrivals are flipped
abbrev halves : ℕ → ℤ
halves column = pos (slice_index_or (1 ∷ 1 ∷ 2 ∷ 1 ∷ 1 ∷ 1 ∷ 2 ∷ 1 ∷ []) column 0)

abbrev holds : Constraint → Bool
holds constraint =
    not (int_lt (constraint.limit *ℤ pos 2) (terms_at constraint.terms halves))

-- and of all variables: half by the first period that a node is open, and all by the next
abbrev risen : ℕ → ℕ → ℤ
risen first time =
    if nat_lt time first then pos 0 else (if nat_le (first + 1) time then pos 2 else pos 1)

abbrev spread : Var → ℤ
spread (By flight node time) =
    if node == 0 then risen 0 time else (if node == 1 then risen 0 time else risen 2 time)
spread (Inside flight node time) = pos 0

abbrev keeps : RowName → Bool
keeps name =
    not (int_lt ((row_with two none name).limit *ℤ pos 2)
    (form_at spread (row_with two none name).terms))

not_less : (a b : ℤ) → not (int_lt a b) ≡ true → b ≤ℤ a
not_less a b is = less_isnt a b (by (int_lt a b) is)
  where
    by : (b : Bool) → not b ≡ true → b ≡ false
    by true is = absurd (let e : ⊥ = cc in e)
    by false is = refl

program_point : IsProgramPoint (program_of two none narrow) halves (pos 2)
program_point = record {
  positive = omega (arith, linear);
  least = λ k within. omega (arith, linear);
  kept = λ k d within.
      let constraint = slice_index_or (program_of two none narrow).constraints k d in
      not_less (constraint.limit *ℤ pos 2) (terms_at constraint.terms halves)
      (AllPass-from_list_all holds (program_of two none narrow).constraints refl k d within);
}

risen_within : (first time : ℕ) → IsNumerator (pos 2) (risen first time)
risen_within first time = by (nat_lt time first) (nat_le (first + 1) time)
  where
    by : (a b : Bool)
        → IsNumerator (pos 2) (if a then pos 0 else (if b then pos 2 else pos 1))
    by true b = record { low = omega (arith, linear); high = omega (arith, linear) }
    by false true = record { low = omega (arith, linear); high = omega (arith, linear) }
    by false false = record { low = omega (arith, linear); high = omega (arith, linear) }

spread_within : (variable : Var) → IsNumerator (pos 2) (spread variable)
spread_within (By f n t) = by (n == 0) (n == 1)
  where
    by : (a b : Bool) → IsNumerator (pos 2)
        (if a then risen 0 t else (if b then risen 0 t else risen 2 t))
    by true b = risen_within 0 t
    by false true = risen_within 0 t
    by false false = risen_within 2 t
spread_within (Inside f n t) = record { low = omega (arith, linear); high = omega (arith, linear) }

risen_before : (first time : ℕ) → nat_lt time first ≡ true → risen first time ≡ pos 0
risen_before first time before =
    ap (λ b. if b then pos 0 else (if nat_le (first + 1) time then pos 2 else pos 1)) before

risen_after : (first time : ℕ) → first + 1 ≤ time → risen first time ≡ pos 2
risen_after first time after = by (nat_lt time first) (nat_le (first + 1) time) refl refl
  where
    by : (a b : Bool) → nat_lt time first ≡ a → nat_le (first + 1) time ≡ b
        → (if a then pos 0 else (if b then pos 2 else pos 1)) ≡ pos 2
    by true b is other = absurd (grind (arith, nat_tests))
    by false true is other = refl
    by false false is other = absurd (grind (arith, nat_tests))

-- a node with a window of two periods
spread_by : (f n t first : ℕ) (must : Bool) → ((u : ℕ) → spread (By f n u) ≡ risen first u)
    → AgreesOver (pos 2) spread (By f n t)
    (by_left must (Some (record { lo = first; hi = first + 1 })) f n t)
spread_by f n t first must are =
    by must (nat_lt t first) (nat_le (first + 1) t) (nat_lt (first + 1) t) refl refl refl
  where
    by : (must a b c : Bool) → nat_lt t first ≡ a → nat_le (first + 1) t ≡ b
        → nat_lt (first + 1) t ≡ c
        → AgreesOver (pos 2) spread (By f n t) (if a then Zero
        else (if must then (if b then One else Free)
        else (if c then Same (By f n (first + 1)) else Free)))
    by must true b c before end past = are t ∙ risen_before first t before
    by true false true c before end past =
        are t ∙ risen_after first t (grind (arith, nat_tests))
    by true false false c before end past = tt
    by false false b true before end past =
        are t ∙ risen_after first t (grind (arith, nat_tests))
        ∙ sym (are (first + 1) ∙ risen_after first (first + 1) (omega arith))
    by false false b false before end past = tt

spread_agrees : (variable : Var)
    → AgreesOver (pos 2) spread variable (left_of two.flights narrow variable)
spread_agrees (By f n t) = by (n == 0) (n == 1) refl refl
  where
    by : (a b : Bool) → (n == 0) ≡ a → (n == 1) ≡ b
        → AgreesOver (pos 2) spread (By f n t) (by_left
        (if a then opened 0 1 true else (if b then opened 0 1 false else opened 2 3 true)).must
        (if a then opened 0 1 true else (if b then opened 0 1 false else opened 2 3 true)).window
        f n t)
    by true b is other =
        spread_by f n t 0 true
        (λ u. ap (λ c. if c then risen 0 u else (if n == 1 then risen 0 u else risen 2 u)) is)
    by false true is other =
        spread_by f n t 0 false
        (λ u. ap (λ c. if c then risen 0 u else (if n == 1 then risen 0 u else risen 2 u)) is
        ∙ ap (λ c. if c then risen 0 u else risen 2 u) other)
    by false false is other =
        spread_by f n t 2 true
        (λ u. ap (λ c. if c then risen 0 u else (if n == 1 then risen 0 u else risen 2 u)) is
        ∙ ap (λ c. if c then risen 0 u else risen 2 u) other)
spread_agrees (Inside f n t) =
    by (narrow f n).window (may_stay (slice_get two.flights f) (narrow f) n t)
  where
    by : (window : Option Window) (stays : Bool)
        → AgreesOver (pos 2) spread (Inside f n t) (inside_left window stays t)
    by None stays = refl
    by (Some window) stays = at (nat_lt t window.lo) stays
      where
        at : (a b : Bool) → AgreesOver (pos 2) spread (Inside f n t)
            (if a then Zero else (if b then Free else Zero))
        at true b = refl
        at false true = tt
        at false false = refl

relaxation_point : IsRelaxationPoint two none narrow spread (pos 2)
relaxation_point = record {
  positive = omega (arith, linear);
  within = λ variable free. spread_within variable;
  agree = spread_agrees;
  kept = λ k d within.
      let row = row_with two none (slice_index_or (rows_with two none) k d) in
      not_less (row.limit *ℤ pos 2) (form_at spread row.terms)
      (AllPass-from_list_all keeps (rows_with two none) refl k d within);
}

-- it is what the columns make, and costs 1 by both
first_arrival : value_of_point two narrow halves (pos 2) (By 0 2 2) ≡ spread (By 0 2 2)
first_arrival = refl

departed : value_of_point two narrow halves (pos 2) (By 1 0 1) ≡ spread (By 1 0 1)
departed = refl

early : value_of_point two narrow halves (pos 2) (By 1 2 1) ≡ spread (By 1 2 1)
early = refl

later : value_of_point two narrow halves (pos 2) (By 1 1 6) ≡ spread (By 1 1 6)
later = refl

cost_by_columns : point_cost (program_of two none narrow) halves (pos 2) ≡ pos 2
cost_by_columns = refl

cost_by_variables : relaxation_cost two spread (pos 2) ≡ pos 2
cost_by_variables = refl

-- both can't depart at once
crowded : IsRowKept (λ variable. pos 2) (pos 2) (row_with two none (Dep 0 0)) → ⊥
crowded kept = let e : pos 4 ≤ℤ pos 2 = kept in omega (arith, linear, e)
