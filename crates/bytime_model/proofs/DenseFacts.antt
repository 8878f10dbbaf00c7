-- Each position is that of a variable which the tight root box leaves free.
use Rattle.std.proofs.Common.{◌≡◌, ◌⊎◌, ℕ, suc, ◌+◌, ◌-◌, ◌*◌, ◌/◌, ◌%◌, ◌<◌, ◌≤◌, ◌==◌, ◌&&◌, ◌||◌, Bool, true, false, max, List, [], ◌∷◌, length, Option, None, Some, slice_get, slice_index_or, if◌then◌else◌, inl, inr, refl, sym, ap, ap₂, ◌∙◌, subst, arith}
use Rattle.std.proofs.Math.Path.{fun_ext}
use Rattle.std.proofs.lemmas.Bool.{cases_lt, le-ltb, lt-leb, lt-ltb}
use Rattle.std.proofs.lemmas.Option.{get_or_from_slice_get}
use Rattle.std.specs.List.{filter, list_any}
use Rattle.flow_types.specs.declared.flight.Flight.{Flight}
use Rattle.flow_types.specs.declared.flight.Leg.{Leg}
use Rattle.flow_types.specs.declared.parts.Parts.{Parts}
use Rattle.flow_types.specs.Limits.{most_nodes}
use Rattle.time_windows.specs.declared.access.Access.{Access}
use Rattle.time_windows.specs.declared.access.Window.{Window}
use Rattle.time_windows.specs.Boxes.{Box, IsWindowWithin, IsWithin, root_box}
use Rattle.time_windows.specs.Steps.{legs_of}
use Rattle.time_windows.specs.Tight.{IsTightened}
use Rattle.bytime_model.specs.declared.columns.Column.{Column}
use Rattle.bytime_model.specs.declared.left.Left.TheVariants.{Free}
use Rattle.bytime_model.specs.declared.variables.Var.TheVariants.{By, Inside}
use Rattle.bytime_model.specs.Columns.{AreColumnsTo, AreInLine, AreTaken, IsTaken, Numbering, column_in, end_of, latest_end, no_column, stays_from}
use Rattle.bytime_model.specs.Left.{by_left, inside_left, is_before_end, may_stay}
use Rattle.bytime_model.specs.Values.{has_inside}

-- the column that has the position
record IsInColumn (columns : List Column) (position : ℕ) : Type 0 where
  index : ℕ
  column : Column
  there : slice_get columns index ≡ Some column
  low : column.start ≤ position
  high : position < column.start + column.width + column.stays

in_column : (from to position : ℕ) (columns : List Column) → AreInLine from columns to
    → from ≤ position → position < to → IsInColumn columns position
in_column from to position [] line past before = absurd (omega (arith, line, past, before))
in_column from to position (column ∷ columns) line past before =
    by (cases_lt position (column.start + column.width + column.stays))
    (λ later. in_column (from + column.width + column.stays) to position columns line.1
    (omega (arith, later, line.0)) before)
  where
    by : (position < column.start + column.width + column.stays)
        ⊎ (column.start + column.width + column.stays ≤ position)
        → (column.start + column.width + column.stays ≤ position → IsInColumn columns position)
        → IsInColumn (column ∷ columns) position
    by (inl here) more = record {
      index = 0;
      column = column;
      there = refl;
      low = omega (arith, line.0, past);
      high = here;
    }
    by (inr later) more =
        let on = more later in
        record {
          index = suc on.index;
          column = on.column;
          there = on.there;
          low = on.low;
          high = on.high;
        }

-- the periods that have one are open: of entering
entering_free : (must : Bool) (w : Window) (f n t : ℕ) → w.lo ≤ t
    → t < w.hi + 1 - (if must then 1 else 0) → by_left must (Some w) f n t ≡ Free
entering_free true w f n t from to =
    let before : t < w.hi = omega (arith, to) in
    rw (le-ltb t w.lo from, lt-leb w.hi t before) refl
entering_free false w f n t from to =
    let upto : t ≤ w.hi = omega (arith, to) in
    rw (le-ltb t w.lo from, le-ltb w.hi t upto) refl

-- and of being inside: a leg leads to a window that ends later
or_right : (a b : Bool) → b ≡ true → (a || b) ≡ true
or_right true b is = refl
or_right false b is = is

ends_later : (window : Option Window) (t latest : ℕ) (more : Bool)
    → t < max latest (end_of window) → (t < latest) ⊎ ((is_before_end t window || more) ≡ true)
ends_later None t latest more before = inl (omega (arith, before))
ends_later (Some w) t latest more before =
    elim (cases_lt t latest) as (λ _. (t < latest) ⊎ ((is_before_end t (Some w) || more) ≡ true)) [
      | inl less ↦ inl less
      | inr past ↦ inr (ap (λ b. b || more) (lt-ltb t w.hi (omega (arith, before, past))))
    ]

latest_reached : (row : ℕ → Access) (n t : ℕ) (legs : List Leg) (latest : ℕ)
    → t < latest_end row (filter (λ leg. leg.from == n) legs) latest
    → (t < latest)
    ⊎ (list_any (λ leg. (leg.from == n) && is_before_end t (row leg.to).window) legs ≡ true)
latest_reached row n t [] latest before = inl before
latest_reached row n t (leg ∷ legs) latest before =
    by (leg.from == n) before (λ l is. latest_reached row n t legs l is)
  where
    rest : List Leg
    rest = filter (λ l. l.from == n) legs

    more : Bool
    more = list_any (λ l. (l.from == n) && is_before_end t (row l.to).window) legs

    by : (a : Bool) → t < latest_end row (if a then leg ∷ rest else rest) latest
        → ((l : ℕ) → t < latest_end row rest l → (t < l) ⊎ (more ≡ true))
        → (t < latest) ⊎ (((a && is_before_end t (row leg.to).window) || more) ≡ true)
    by true within on =
        elim (on (max latest (end_of (row leg.to).window)) within) as (λ _.
        (t < latest) ⊎ ((is_before_end t (row leg.to).window || more) ≡ true)) [
          | inl less ↦ ends_later (row leg.to).window t latest more less
          | inr is ↦ inr (or_right (is_before_end t (row leg.to).window) more is)
        ]
    by false within on = on latest within

inside_may : (found : Option Flight) (row : ℕ → Access) (n lo t : ℕ) → lo ≤ t
    → t - lo < stays_from found row n lo
    → (has_inside found n ≡ true) × (may_stay found row n t ≡ true)
inside_may None row n lo t from within = absurd (omega (arith, within))
inside_may (Some flight) row n lo t from within = by (has_inside (Some flight) n) refl within
  where
    may : t - lo < latest_end row (legs_of flight n) 0 - lo → may_stay (Some flight) row n t ≡ true
    may within =
        elim (latest_reached row n t flight.legs 0 (omega (arith, within, from))) as (λ _.
        may_stay (Some flight) row n t ≡ true) [
          | inl none ↦ absurd (omega (arith, none))
          | inr is ↦ is
        ]

    by : (b : Bool) → has_inside (Some flight) n ≡ b
        → t - lo < (if b then latest_end row (legs_of flight n) 0 - lo else 0)
        → (has_inside (Some flight) n ≡ true) × (may_stay (Some flight) row n t ≡ true)
    by true has within = (has, may within)
    by false has within = absurd (omega (arith, within))

staying_free : (w : Window) (stays : Bool) (t : ℕ) → w.lo ≤ t → stays ≡ true
    → inside_left (Some w) stays t ≡ Free
staying_free w stays t from is = rw (le-ltb t w.lo from, is) refl

-- so the position is a free variable's
module _ (flights : List Flight) (box : Box) (numbering : Numbering) (count : ℕ)
    (are : AreColumnsTo flights box count numbering) (position : ℕ)
    (under : position < numbering.count) where
  place : IsInColumn numbering.columns position
  place = in_column 0 numbering.count position numbering.columns are.line (omega arith) under

  abbrev c : Column
  c = place.column

  abbrev f : ℕ
  f = place.index / most_nodes

  abbrev n : ℕ
  n = place.index % most_nodes

  found : slice_index_or numbering.columns (f * most_nodes + n) no_column ≡ c
  found =
      let index : f * most_nodes + n ≡ place.index = omega arith in
      ap (λ k. slice_index_or numbering.columns k no_column) index
      ∙ get_or_from_slice_get numbering.columns place.index c no_column place.there

  taken : IsTaken flights numbering box position
  taken = by (box f n).window refl (cases_lt position (c.start + c.width))
    where
      column_of : (o : Option Window) → (box f n).window ≡ o
          → c ≡ column_in o (if (box f n).must then 1 else 0)
          (stays_from (slice_get flights f) (box f) n) c.start
      column_of o is =
          are.each place.index c place.there
          ∙ ap (λ o. column_in o (if (box f n).must then 1 else 0)
          (stays_from (slice_get flights f) (box f) n) c.start) is

      entering : (w : Window) → (box f n).window ≡ Some w → position < c.start + c.width
          → IsTaken flights numbering box position
      entering w opened early =
          let own = column_of (Some w) opened in
          let t = c.first + (position - c.start) in
          let low = place.low in
          let first = ap (λ (d : Column). d.first) own in
          let width = ap (λ (d : Column). d.width) own in
          record {
            variable = By f n t;
            there = tt;
            free = ap (λ o. by_left (box f n).must o f n t) opened
                ∙ entering_free (box f n).must w f n t (omega (arith, first))
                (omega (arith, first, width, early, low));
            here = ap (λ (d : Column). d.start + (t - d.first)) found ∙ omega (arith, low);
          }

      staying : (w : Window) → (box f n).window ≡ Some w → c.start + c.width ≤ position
          → IsTaken flights numbering box position
      staying w opened late =
          let own = column_of (Some w) opened in
          let t = c.first + (position - (c.start + c.width)) in
          let high = place.high in
          let first = ap (λ (d : Column). d.first) own in
          let stays = ap (λ (d : Column). d.stays) own in
          let may = inside_may (slice_get flights f) (box f) n w.lo t (omega (arith, first))
          (omega (arith, first, stays, late, high)) in
          record {
            variable = Inside f n t;
            there = may.0;
            free = ap (λ o. inside_left o (may_stay (slice_get flights f) (box f) n t) t) opened
                ∙ staying_free w (may_stay (slice_get flights f) (box f) n t) t
                (omega (arith, first)) may.1;
            here = ap (λ (d : Column). d.start + d.width + (t - d.first)) found
                ∙ omega (arith, late);
          }

      by : (o : Option Window) → (box f n).window ≡ o
          → (position < c.start + c.width) ⊎ (c.start + c.width ≤ position)
          → IsTaken flights numbering box position
      by None shut side =
          let own = column_of None shut in
          let width = ap (λ (d : Column). d.width) own in
          let stays = ap (λ (d : Column). d.stays) own in
          let low = place.low in
          let high = place.high in
          absurd (omega (arith, width, stays, low, high))
      by (Some w) opened (inl early) = entering w opened early
      by (Some w) opened (inr late) = staying w opened late

-- the tight root box is one
window_same : (a b : Option Window) → IsWindowWithin a b → IsWindowWithin b a → a ≡ b
window_same None None one two = refl
window_same None (Some w) one two = absurd two
window_same (Some v) None one two = absurd one
window_same (Some v) (Some w) one two =
    let lo : v.lo ≡ w.lo = omega (arith, one.0, two.0) in
    let hi : v.hi ≡ w.hi = omega (arith, one.1, two.1) in
    ap₂ (λ l h. Some (record { lo = l; hi = h })) lo hi

module _ (parts : Parts) (outer root box : Box)
    (rooted : (f n : ℕ) → outer f n ≡ root_box parts f n) (tight : IsTightened parts outer root)
    (is : IsTightened parts (root_box parts) box) where
  inner : IsWithin root box
  inner = is.widest root (record {
    marks = λ f n. tight.within.marks f n ∙ ap (λ (a : Access). a.must) (rooted f n);
    windows = λ f n. subst (λ (a : Access). IsWindowWithin (root f n).window a.window) (rooted f n)
        (tight.within.windows f n);
  }) tight.tight

  back : IsWithin box root
  back = tight.widest box (record {
    marks = λ f n. is.within.marks f n ∙ sym (ap (λ (a : Access). a.must) (rooted f n));
    windows = λ f n. subst (λ (a : Access). IsWindowWithin (box f n).window a.window)
        (sym (rooted f n)) (is.within.windows f n);
  }) is.tight

  same_access : (f n : ℕ) → root f n ≡ box f n
  same_access f n =
      ap₂ (λ w m. record { window = w; must = m })
      (window_same (root f n).window (box f n).window (inner.windows f n) (back.windows f n))
      (inner.marks f n)

  same_box : root ≡ box
  same_box = fun_ext (λ f. fun_ext (same_access f))

pub all_taken : (parts : Parts) (outer root : Box)
    → ((f n : ℕ) → outer f n ≡ root_box parts f n) → IsTightened parts outer root
    → (numbering : Numbering)
    → AreColumnsTo parts.flights root (length parts.flights * most_nodes) numbering
    → AreTaken parts numbering
all_taken parts outer root rooted tight numbering are = λ box is position under.
    subst (λ (b : Box). IsTaken parts.flights numbering b position)
    (same_box parts outer root box rooted tight is)
    (taken parts.flights root numbering (length parts.flights * most_nodes) are position under)
