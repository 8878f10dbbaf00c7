-- The rows of a leaf that a run tells: what holds of each name holds of each row, they are in the
-- order of rows, and no multiplier is 0.
use Rattle.std.proofs.Common.{◌≡◌, ℕ, zero, suc, ◌<◌, ◌==◌, ◌&&◌, nat_lt, Bool, true, false, Option, List, [], ◌∷◌, ◌++◌, length, map, get_or, All, AllPairs, if◌then◌else◌, ℤ, pos, negsuc, unsigned_abs, refl, sym, subst, arith}
use Rattle.std.proofs.lemmas.List.Elements.{All-append, All-cons, All-head, All-nil, All-tail}
use Rattle.std.proofs.lemmas.List.Kept.{AllPairs-cons, AllPairs-filter}
use Rattle.std.specs.Ordering.{int_eq}
use Rattle.std.specs.List.{range_with_len}
use Rattle.std.proofs.lemmas.Bool.{lt-ltb, or_left}
use Rattle.exact_sums.proofs.ShortLists.{no_pairs}
use Rattle.flow_types.specs.declared.parts.Parts.{Parts}
use Rattle.scaled_simplex.specs.Multipliers.{multipliers_of}
use Rattle.time_windows.specs.Boxes.{Box}
use Rattle.bytime_model.specs.declared.multiplier.Multiplier.{Multiplier}
use Rattle.bytime_model.specs.declared.names.RowName.{RowName}
use Rattle.bytime_model.specs.declared.names.RowName.TheVariants.{Arr, Connect, Cut, Dep, Enter, Leave, Mono, Occupy, Sector, Top}
use Rattle.bytime_model.specs.AllRows.{rows_of}
use Rattle.bytime_model.specs.Rows.{is_row}
use Rattle.bytime_model.specs.Multipliers.{AreAscending, ArePositive}
use Rattle.bytime_model.specs.Order.{IsBefore, is_before}
use Rattle.bytime_model.proofs.KindLaws.{rows_ascend, rows_each as of_rows}
use Rattle.bytime_model.proofs.NameLists.{ascending_map, ascending_pairs}
use Rattle.presolve.proofs.PointFacts.{every}
use Rattle.branch_tree.specs.declared.leaf.Leaf.TheVariants.{Dual}
use Rattle.presolve.specs.Leaf.{leaf_rows, unless_never}
use Rattle.presolve.specs.Relaxed.{kept_of, may_exceed, program_of, row_in}
use Rattle.cut_rows.specs.declared.names.CutName.{CutName}
use Rattle.cut_rows.specs.Pools.{cut_names, rows_with}
use Rattle.relaxed_bound.specs.declared.limits.Limits.{Limits}
use Rattle.relaxed_bound.specs.Relaxed.{relaxed_leaf, run_of}

-- what holds of each name and multiplier holds of each row
pub kept_one : (P : Multiplier → Type 0) (name : RowName) (multiplier : ℤ)
    → P (record { row = name; value = unsigned_abs multiplier })
    → All P (unless_never name multiplier)
kept_one P name multiplier own = by (int_eq multiplier (pos 0))
  where
    by : (b : Bool) → All P (if b then []
        else record { row = name; value = unsigned_abs multiplier } ∷ [])
    by true = All-nil P
    by false =
        All-cons P (record { row = name; value = unsigned_abs multiplier }) [] own (All-nil P)

-- and so does what holds of each name
pub rows_each : (P : RowName → Type 0) (names : List RowName) (multipliers : List ℤ)
    → All P names → All (λ (row : Multiplier). P row.row) (leaf_rows names multipliers)
rows_each P [] multipliers each = All-nil (λ (row : Multiplier). P row.row)
rows_each P (name ∷ names) [] each = All-nil (λ (row : Multiplier). P row.row)
rows_each P (name ∷ names) (multiplier ∷ multipliers) each =
    All-append (λ (row : Multiplier). P row.row) (unless_never name multiplier)
    (leaf_rows names multipliers)
    (kept_one (λ (row : Multiplier). P row.row) name multiplier (All-head P name names each))
    (rows_each P names multipliers (All-tail P name names each))

-- rows of names in order are in order
abbrev Comes : Multiplier → Multiplier → Type 0
Comes before after = IsBefore before.row after.row

ascend : (names : List RowName) (multipliers : List ℤ) → AllPairs IsBefore names
    → AreAscending (leaf_rows names multipliers)
ascend [] multipliers pairs = no_pairs Comes
ascend (name ∷ names) [] pairs = no_pairs Comes
ascend (name ∷ names) (multiplier ∷ multipliers) pairs =
    by (int_eq multiplier (pos 0)) (ascend names multipliers
    (λ i j d less within. pairs (suc i) (suc j) d (omega (arith, less)) (omega (arith, within))))
  where
    after : All (λ (row : Multiplier). IsBefore name row.row) (leaf_rows names multipliers)
    after = rows_each (IsBefore name) names multipliers
        (λ k d within. pairs 0 (suc k) d (omega arith) (omega (arith, within)))

    by : (b : Bool) → AreAscending (leaf_rows names multipliers) → AreAscending ((if b then []
        else record { row = name; value = unsigned_abs multiplier } ∷ [])
        ++ leaf_rows names multipliers)
    by true rest = rest
    by false rest = AllPairs-cons Comes
        (record { row = name; value = unsigned_abs multiplier }) (leaf_rows names multipliers)
        after rest

-- a multiplier that isn't 0 is above it
abbrev IsAbove : Multiplier → Type 0
IsAbove row = 0 < row.value

not_zero : (z : ℤ) → int_eq z (pos 0) ≡ false → 0 < unsigned_abs z
not_zero (pos zero) isnt = absurd cc
not_zero (pos (suc n)) isnt = omega arith
not_zero (negsuc n) isnt = omega arith

positive : (names : List RowName) (multipliers : List ℤ)
    → ArePositive (leaf_rows names multipliers)
positive [] multipliers = All-nil IsAbove
positive (name ∷ names) [] = All-nil IsAbove
positive (name ∷ names) (multiplier ∷ multipliers) =
    All-append IsAbove (unless_never name multiplier)
    (leaf_rows names multipliers) (by (int_eq multiplier (pos 0)) refl) (positive names multipliers)
  where
    by : (b : Bool) → int_eq multiplier (pos 0) ≡ b → All IsAbove (if b then []
        else record { row = name; value = unsigned_abs multiplier } ∷ [])
    by true is = All-nil IsAbove
    by false isnt = All-cons IsAbove
        (record { row = name; value = unsigned_abs multiplier }) [] (not_zero multiplier isnt)
        (All-nil IsAbove)

-- the names of all rows are in order: those of the day, and then those of cuts
pairs_append : {X : Type 0} (R : X → X → Type 0) (xs ys : List X) → AllPairs R xs → AllPairs R ys
    → All (λ x. All (R x) ys) xs → AllPairs R (xs ++ ys)
pairs_append R [] ys one two across = two
pairs_append R (x ∷ xs) ys one two across =
    AllPairs-cons R x (xs ++ ys)
    (All-append (R x) xs ys
    (λ k d within. one 0 (suc k) d (omega arith) (omega (arith, within))) (across 0 x
    (omega arith)))
    (pairs_append R xs ys
    (λ i j d less within. one (suc i) (suc j) d (omega (arith, less)) (omega (arith, within))) two
    (All-tail (λ z. All (R z) ys) x xs across))

before_cut : (parts : Parts) (name : RowName) (i : ℕ) → is_row parts name ≡ true
    → is_before name (Cut i) ≡ true
before_cut parts (Mono f n t) i is = refl
before_cut parts (Top f n) i is = refl
before_cut parts (Dep p t) i is = refl
before_cut parts (Arr p t) i is = refl
before_cut parts (Sector p t) i is = refl
before_cut parts (Occupy f n t) i is = refl
before_cut parts (Enter f n t) i is = refl
before_cut parts (Leave f n) i is = refl
before_cut parts (Connect c t) i is = refl
before_cut parts (Cut j) i is = absurd (let e : false ≡ true = is in cc)

cuts_ascend : (pool : List CutName) → AllPairs IsBefore (cut_names pool)
cuts_ascend pool =
    ascending_pairs IsBefore (cut_names pool)
    (ascending_map IsBefore Cut 0 (length pool) (λ k m past less below.
    or_left (nat_lt k m) ((k == m) && false) (lt-ltb k m less)))

each_cut : (P : RowName → Type 0) → ((i : ℕ) → P (Cut i)) → (numbers : List ℕ)
    → All P (map Cut numbers)
each_cut P each [] = All-nil P
each_cut P each (i ∷ numbers) =
    All-cons P (Cut i) (map Cut numbers) (each i) (each_cut P each numbers)

pub rows_with_ascend : (parts : Parts) (pool : List CutName)
    → AllPairs IsBefore (rows_with parts pool)
rows_with_ascend parts pool =
    pairs_append IsBefore (rows_of parts) (cut_names pool) (rows_ascend parts) (cuts_ascend pool)
    (λ k d within. each_cut (IsBefore (get_or (rows_of parts) k d)) (λ i.
    before_cut parts (get_or (rows_of parts) k d) i
    (every (λ name. is_row parts name ≡ true) (rows_of parts)
    (λ name any. (of_rows parts name).0 any) k d within)) (range_with_len 0 (length pool)))

module _ (parts : Parts) (pool : List CutName) (box : Box) (limits : Limits) (cutoff : Option ℤ)
    (weight : ℕ) (rows : List Multiplier)
    (is : Dual weight rows ≡ relaxed_leaf parts pool box limits cutoff) where
  abbrev told : List ℤ
  told = multipliers_of (program_of parts pool box) (run_of parts pool box limits cutoff)

  rows_are : rows ≡ leaf_rows (kept_of parts pool box) told
  rows_are = cc

  pub run_ascends : AreAscending rows
  run_ascends = subst AreAscending (sym rows_are) (ascend (kept_of parts pool box) told
      (AllPairs-filter IsBefore (λ name. may_exceed (row_in parts pool box name))
      (rows_with parts pool)
      (rows_with_ascend parts pool)))

  pub run_positive : ArePositive rows
  run_positive = subst ArePositive (sym rows_are) (positive (kept_of parts pool box) told)
