-- The columns of nodes.
use Rattle.std.proofs.Common.{◌≡◌, ◌≤◌, ◌^◌, ◌⊎◌, inl, inr, if◌then◌else◌, ℕ, zero, suc, ◌+◌, ◌/◌, ◌%◌, List, [], ◌∷◌, ◌++◌, length, Option, None, Some, slice_get, length-append, refl, sym, ap, ◌∙◌, subst, arith}
use Rattle.flow_types.specs.declared.flight.Flight.{Flight}
use Rattle.flow_types.specs.Limits.{most_nodes}
use Rattle.time_windows.specs.declared.access.Window.{Window}
use Rattle.time_windows.specs.Boxes.{Box}
use Rattle.bytime_model.specs.declared.columns.Column.{Column}
use Rattle.bytime_model.specs.Columns.{AreColumnsTo, AreInLine, Numbering, column_at, column_in, stays_from}

pub none_yet : (flights : List Flight) (box : Box)
    → AreColumnsTo flights box 0 (record { columns = []; count = 0 })
none_yet flights box = record {
  length = refl;
  line = refl;
  few = omega arith;
  each = λ k column here. absurd cc;
}

line_more : (from to : ℕ) (columns : List Column) (column : Column) → AreInLine from columns to
    → column.start ≡ to
    → AreInLine from (columns ++ column ∷ []) (column.start + column.width + column.stays)
line_more from to [] column line next = (
  next ∙ sym line,
  ap (λ n. n + column.width + column.stays) (sym (next ∙ sym line)),
)
line_more from to (c ∷ columns) column line next =
    (line.0, line_more (from + c.width + c.stays) to columns column line.1 next)

get_more : (columns : List Column) (column found : Column) (k : ℕ)
    → slice_get (columns ++ column ∷ []) k ≡ Some found
    → (slice_get columns k ≡ Some found) ⊎ ((k ≡ length columns) × (found ≡ column))
get_more [] column found zero here = inr (refl, cc)
get_more [] column found (suc k) here = absurd cc
get_more (c ∷ columns) column found zero here = inl here
get_more (c ∷ columns) column found (suc k) here =
    elim (get_more columns column found k here) as (λ _.
    (slice_get columns k ≡ Some found) ⊎ ((suc k ≡ suc (length columns)) × (found ≡ column))) [
      | inl before ↦ inl before
      | inr last ↦ inr (ap suc last.0, last.1)
    ]

pub one_more : (flights : List Flight) (box : Box) (index count : ℕ) (old : Numbering)
    (column : Column) → AreColumnsTo flights box index old
    → column ≡ column_at flights box (index / most_nodes) (index % most_nodes) old.count
    → column.width + column.stays ≤ 2 ^ 17
    → count ≡ old.count + (column.width + column.stays)
    → AreColumnsTo flights box (index + 1)
    (record { columns = old.columns ++ column ∷ []; count = count })
one_more flights box index count old column are is small sum = record {
  few = let few = are.few in omega (arith, few, small, sum);
  length = length-append old.columns (column ∷ []) ∙ ap (λ n. n + 1) are.length;
  line = subst (AreInLine 0 (old.columns ++ column ∷ [])) (total start)
      (line_more 0 old.count old.columns column are.line start);
  each = λ k found here. elim (get_more old.columns column found k here) as (λ _.
      found ≡ column_at flights box (k / most_nodes) (k % most_nodes) found.start) [
        | inl before ↦ are.each k found before
        | inr last ↦ here_is k found (last.0 ∙ are.length) last.1
      ];
}
  where
    start_of : (b : Box) (f n s : ℕ) → (column_at flights b f n s).start ≡ s
    start_of b f n s = by (b f n).window
      where
        by : (w : Option Window) → (column_in w (if (b f n).must then 1 else 0)
            (stays_from (slice_get flights f) (b f) n) s).start ≡ s
        by None = refl
        by (Some w) = refl

    start : column.start ≡ old.count
    start = ap (λ (c : Column). c.start) is
        ∙ start_of box (index / most_nodes) (index % most_nodes) old.count

    total : column.start ≡ old.count → column.start + column.width + column.stays ≡ count
    total same = omega (arith, same, sum)

    here_is : (k : ℕ) (found : Column) → k ≡ index → found ≡ column
        → found ≡ column_at flights box (k / most_nodes) (k % most_nodes) found.start
    here_is k found at same =
        subst (λ (c : Column). c ≡ column_at flights box (k / most_nodes) (k % most_nodes) c.start)
        (sym same)
        (subst (λ i. column ≡ column_at flights box (i / most_nodes) (i % most_nodes) column.start)
        (sym at)
        (subst (λ s. column ≡ column_at flights box (index / most_nodes) (index % most_nodes) s)
        (sym start) is))
