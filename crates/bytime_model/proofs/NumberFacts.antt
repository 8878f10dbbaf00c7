-- Each variable that a tight box leaves free has a position of its own, among those of the tight
-- root box.
use Rattle.std.proofs.Common.{◌≡◌, ℕ, zero, suc, ◌+◌, ◌-◌, ◌*◌, ◌/◌, ◌%◌, ◌<◌, ◌≤◌, ◌==◌, ◌&&◌, ◌||◌, Bool, true, false, nat_le, nat_lt, max, List, [], ◌∷◌, length, Option, None, Some, slice_get, slice_index_or, if◌then◌else◌, refl, sym, ap, ap₂, ◌∙◌, subst, arith}
use Rattle.std.proofs.lemmas.Bool.{leb-false, ltb-true, ltb-false}
use Rattle.std.proofs.lemmas.Option.{get_or_from_slice_get, slice_get_within}
use Rattle.std.specs.List.{filter, list_any}
use Rattle.exact_sums.proofs.ItemFacts.{item_there}
use Rattle.flow_types.specs.declared.flight.Flight.{Flight}
use Rattle.flow_types.specs.declared.flight.Leg.{Leg}
use Rattle.flow_types.specs.declared.parts.Parts.{Parts}
use Rattle.flow_types.specs.Limits.{most_nodes}
use Rattle.flow_types.specs.Trips.{earliest_of, latest_of}
use Rattle.flow_types.specs.Valid.{IsScenario}
use Rattle.time_windows.specs.declared.access.Access.{Access}
use Rattle.time_windows.specs.declared.access.Window.{Window}
use Rattle.time_windows.specs.Boxes.{Box, IsBoxOf, IsProper, closed, IsWindowWithin, IsWithin, root_access, root_box, root_row}
use Rattle.time_windows.specs.Held.{Held, IsMadeFor, box_of}
use Rattle.time_windows.specs.Steps.{legs_of}
use Rattle.time_windows.specs.Tight.{IsTight, IsTightened, IsLegIn, IsLegOut}
use Rattle.time_windows.proofs.AnyFacts.{any_map}
use Rattle.time_windows.proofs.RootFacts.{flight_in}
use Rattle.bytime_model.specs.declared.left.Left.TheVariants.{Free, One, Same, Zero}
use Rattle.bytime_model.specs.declared.variables.Var.{Var}
use Rattle.bytime_model.specs.declared.variables.Var.TheVariants.{By, Inside}
use Rattle.bytime_model.specs.Left.{by_left, inside_left, is_before_end, left_of, may_stay}
use Rattle.bytime_model.specs.Values.{has_inside}
use Rattle.bytime_model.specs.declared.columns.Column.{Column}
use Rattle.bytime_model.specs.Landing.{IsReady}
use Rattle.bytime_model.specs.Columns.{AreColumnsOf, AreColumnsTo, AreInLine, IsNumbered, IsThere, IsWhole, Numbering, column_at, column_in, end_of, latest_end, position_of, stays_from, variable_at, variable_in, no_column}

line_le : (from to : ℕ) (columns : List Column) → AreInLine from columns to → from ≤ to
line_le from to [] line = omega (arith, line)
line_le from to (c ∷ columns) line =
    let more = line_le (from + c.width + c.stays) to columns line.1 in
    omega (arith, more)

-- the first so many: nothing of a column that comes later
skip : (index position : ℕ) (column : Column) (columns : List Column)
    → column.start + column.width + column.stays ≤ position
    → variable_at index (column ∷ columns) position ≡ variable_at (index + 1) columns position
skip index position column columns past =
    by (nat_lt position (column.start + column.width + column.stays)) refl
  where
    by : (b : Bool) → nat_lt position (column.start + column.width + column.stays) ≡ b
        → (if b then variable_in index column position
        else variable_at (index + 1) columns position)
        ≡ variable_at (index + 1) columns position
    by true early =
        let lt = ltb-true position (column.start + column.width + column.stays) early in
        absurd (omega (arith, lt, past))
    by false late = refl

take_it : (index position : ℕ) (column : Column) (columns : List Column)
    → position < column.start + column.width + column.stays
    → variable_at index (column ∷ columns) position ≡ variable_in index column position
take_it index position column columns within =
    by (nat_lt position (column.start + column.width + column.stays)) refl
  where
    by : (b : Bool) → nat_lt position (column.start + column.width + column.stays) ≡ b
        → (if b then variable_in index column position
        else variable_at (index + 1) columns position)
        ≡ variable_in index column position
    by true early = refl
    by false late =
        let le = ltb-false position (column.start + column.width + column.stays) late in
        absurd (omega (arith, le, within))

record IsPlaced (index k from to o : ℕ) (columns : List Column) (column : Column) : Type 0 where
  from_le : from ≤ column.start
  within : column.start + o < to
  here : variable_at index columns (column.start + o)
      ≡ variable_in (index + k) column (column.start + o)

placed : (index k from to o : ℕ) (columns : List Column) (column : Column)
    → AreInLine from columns to → slice_get columns k ≡ Some column
    → o < column.width + column.stays → IsPlaced index k from to o columns column
placed index k from to o [] column line is opened = absurd (let e : ⊥ = cc in e)
placed index zero from to o (c ∷ columns) column line is opened =
    let same : c ≡ column = cc in
    subst (λ (d : Column). IsPlaced index zero from to o (c ∷ columns) d) same (record {
      from_le = omega (arith, line.0);
      within =
          let more = line_le (from + c.width + c.stays) to columns line.1 in
          let own = ap (λ (d : Column). d.width + d.stays) same in
          omega (arith, more, line.0, opened, own);
      here =
          let own = ap (λ (d : Column). d.width + d.stays) same in
          take_it index (c.start + o) c columns (omega (arith, opened, own))
          ∙ ap (λ n. variable_in n c (c.start + o)) (plus_zero index);
    })
  where
    plus_zero : (n : ℕ) → n ≡ n + 0
    plus_zero n = omega arith
placed index (suc k) from to o (c ∷ columns) column line is opened =
    let more = placed (index + 1) k (from + c.width + c.stays) to o columns column line.1 is opened
    in
    record {
      from_le = let le = more.from_le in omega (arith, le);
      within = more.within;
      here = skip index (column.start + o) c columns
          (let le = more.from_le in omega (arith, le, line.0)) ∙ more.here
          ∙ ap (λ n. variable_in n column (column.start + o)) (next index k);
    }
  where
    next : (n m : ℕ) → n + 1 + m ≡ n + suc m
    next n m = omega arith

-- what leaves a variable free
pub record IsByFree (must : Bool) (window : Option Window) (time : ℕ) : Type 0 where
  pub opened : Window
  pub is : window ≡ Some opened
  pub from : opened.lo ≤ time
  pub to : time ≤ opened.hi
  pub before : must ≡ true → time < opened.hi

pub by_free : (must : Bool) (window : Option Window) (f n t : ℕ)
    → by_left must window f n t ≡ Free → IsByFree must window t
by_free must None f n t free = absurd (let e : ⊥ = cc in e)
by_free must (Some w) f n t free =
    by (nat_lt t w.lo) refl must refl (nat_le w.hi t) refl (nat_lt w.hi t) refl free
  where
    by : (a : Bool) → nat_lt t w.lo ≡ a → (m : Bool) → must ≡ m → (b : Bool) → nat_le w.hi t ≡ b
        → (c : Bool) → nat_lt w.hi t ≡ c
        → (if a then Zero else (if m then (if b then One else Free)
        else (if c then Same (By f n w.hi) else Free))) ≡ Free → IsByFree must (Some w) t
    by true early m marked b late c past free = absurd (let e : ⊥ = cc in e)
    by false from true marked true late c past free = absurd (let e : ⊥ = cc in e)
    by false from true marked false late c past free =
        let lt : t < w.hi = leb-false w.hi t late in
        let le = ltb-false t w.lo from in record {
          opened = w;
          is = refl;
          from = le;
          to = omega (arith, lt);
          before = λ _. lt;
        }
    by false from false marked b late true past free = absurd (let e : ⊥ = cc in e)
    by false from false marked b late false past free =
        let le = ltb-false t w.lo from in
        let upto = ltb-false w.hi t past in record {
          opened = w;
          is = refl;
          from = le;
          to = upto;
          before = λ no. absurd (let e : false ≡ true = sym marked ∙ no in cc);
        }

pub record IsInsideFree (window : Option Window) (stays : Bool) (time : ℕ) : Type 0 where
  pub opened : Window
  pub is : window ≡ Some opened
  pub from : opened.lo ≤ time
  pub may : stays ≡ true

pub inside_free : (window : Option Window) (stays : Bool) (t : ℕ)
    → inside_left window stays t ≡ Free → IsInsideFree window stays t
inside_free None stays t free = absurd (let e : ⊥ = cc in e)
inside_free (Some w) stays t free = by (nat_lt t w.lo) refl stays refl free
  where
    by : (a : Bool) → nat_lt t w.lo ≡ a → (b : Bool) → stays ≡ b
        → (if a then Zero else (if b then Free else Zero)) ≡ Free → IsInsideFree (Some w) stays t
    by true early b may free = absurd (let e : ⊥ = cc in e)
    by false from true may free =
        record { opened = w; is = refl; from = ltb-false t w.lo from; may = may }
    by false from false may free = absurd (let e : ⊥ = cc in e)

-- back from a position
decode_by : (f n t : ℕ) (c : Column) → n < most_nodes → c.first ≤ t → t - c.first < c.width
    → variable_in (0 + (f * most_nodes + n)) c (c.start + (t - c.first)) ≡ By f n t
decode_by f n t c few from small = by (nat_lt (c.start + (t - c.first)) (c.start + c.width)) refl
  where
    index : ℕ
    index = 0 + (f * most_nodes + n)

    by : (b : Bool) → nat_lt (c.start + (t - c.first)) (c.start + c.width) ≡ b
        → (if b then By (index / most_nodes) (index % most_nodes)
        (c.first + (c.start + (t - c.first) - c.start))
        else Inside (index / most_nodes) (index % most_nodes)
        (c.first + (c.start + (t - c.first) - (c.start + c.width)))) ≡ By f n t
    by true early =
        let flight : index / most_nodes ≡ f = omega arith in
        let node : index % most_nodes ≡ n = omega arith in
        let time : c.first + (c.start + (t - c.first) - c.start) ≡ t = omega arith in cc
    by false late =
        let le = ltb-false (c.start + (t - c.first)) (c.start + c.width) late in
        absurd (omega (arith, le, small))

decode_inside : (f n t : ℕ) (c : Column) → n < most_nodes → c.first ≤ t
    → variable_in (0 + (f * most_nodes + n)) c (c.start + c.width + (t - c.first)) ≡ Inside f n t
decode_inside f n t c few from =
    by (nat_lt (c.start + c.width + (t - c.first)) (c.start + c.width)) refl
  where
    index : ℕ
    index = 0 + (f * most_nodes + n)

    by : (b : Bool) → nat_lt (c.start + c.width + (t - c.first)) (c.start + c.width) ≡ b
        → (if b then By (index / most_nodes) (index % most_nodes)
        (c.first + (c.start + c.width + (t - c.first) - c.start))
        else Inside (index / most_nodes) (index % most_nodes)
        (c.first + (c.start + c.width + (t - c.first) - (c.start + c.width)))) ≡ Inside f n t
    by true early =
        let lt = ltb-true (c.start + c.width + (t - c.first)) (c.start + c.width) early in
        absurd (omega (arith, lt))
    by false late =
        let flight : index / most_nodes ≡ f = omega arith in
        let node : index % most_nodes ≡ n = omega arith in
        let time : c.first + (c.start + c.width + (t - c.first) - (c.start + c.width)) ≡ t =
        omega arith in cc

-- the latest end
latest_from : (row : ℕ → Access) (legs : List Leg) (latest : ℕ)
    → latest ≤ latest_end row legs latest
latest_from row [] latest = omega arith
latest_from row (leg ∷ legs) latest =
    let more = latest_from row legs (max latest (end_of (row leg.to).window)) in
    omega (arith, more)

end_within : (inner outer : Option Window) (t : ℕ) → IsWindowWithin inner outer
    → is_before_end t inner ≡ true → t < end_of outer
end_within None outer t within before = absurd (let e : ⊥ = cc in e)
end_within (Some w) None t within before = absurd within
end_within (Some w) (Some out) t within before =
    let lt = ltb-true t w.hi before in omega (arith, lt, within.1)

before_latest : (inner outer : ℕ → Access) (n t : ℕ) (legs : List Leg) (latest : ℕ)
    → ((m : ℕ) → IsWindowWithin (inner m).window (outer m).window)
    → list_any (λ leg. (leg.from == n) && is_before_end t (inner leg.to).window) legs ≡ true
    → t < latest_end outer (filter (λ leg. leg.from == n) legs) latest
before_latest inner outer n t [] latest within any = absurd (let e : ⊥ = cc in e)
before_latest inner outer n t (leg ∷ legs) latest within any =
    by (leg.from == n) (is_before_end t (inner leg.to).window) refl any
    (λ l is. before_latest inner outer n t legs l within is)
  where
    rest : List Leg
    rest = filter (λ l. l.from == n) legs

    more : Bool
    more = list_any (λ l. (l.from == n) && is_before_end t (inner l.to).window) legs

    by : (a b : Bool) → is_before_end t (inner leg.to).window ≡ b → ((a && b) || more) ≡ true
        → ((l : ℕ) → more ≡ true → t < latest_end outer rest l)
        → t < latest_end outer (if a then leg ∷ rest else rest) latest
    by true true opened is later =
        let lt = end_within (inner leg.to).window (outer leg.to).window t (within leg.to) opened in
        let le = latest_from outer rest (max latest (end_of (outer leg.to).window)) in
        omega (arith, lt, le)
    by true false opened is later = later (max latest (end_of (outer leg.to).window)) is
    by false b opened is later = later latest is

module _ (parts : Parts) (scenario : IsScenario parts) (outer root : Box)
    (rooted : (f n : ℕ) → outer f n ≡ root_box parts f n) (tight : IsTightened parts outer root)
    (numbering : Numbering)
    (are : AreColumnsTo parts.flights root (length parts.flights * most_nodes) numbering)
    (box : Box) (made : IsBoxOf parts box) (is : IsTight parts box) where
  -- the windows of the box, with the marks of the root box
  abbrev inner : Box
  inner f n = record { window = (box f n).window; must = (outer f n).must }

  lies : IsWithin inner root
  lies = tight.widest inner (record {
    marks = λ f n. refl;
    windows = λ f n. subst (λ (a : Access). IsWindowWithin (box f n).window a.window)
        (sym (rooted f n)) (made.windows f n);
  }) (record {
    rows = λ f flight here. record {
      proper = (is.rows f flight here).proper;
      entered = λ n w from within at. any_map (IsLegIn (box f) n w) (IsLegIn (inner f) n w)
          flight.legs (λ leg here way. record { to = way.to; time = way.time })
          ((is.rows f flight here).entered n w from within at);
      left = λ n w within at. any_map (IsLegOut (box f) n w) (IsLegOut (inner f) n w) flight.legs
          (λ leg here way. record { from = way.from; time = way.time })
          ((is.rows f flight here).left n w within at);
    };
    turns = is.turns;
  })

  must_lies : (f n : ℕ) → (root f n).must ≡ true → (box f n).must ≡ true
  must_lies f n must =
      made.marks f n (sym (ap (λ (a : Access). a.must) (rooted f n))
      ∙ sym (tight.within.marks f n) ∙ must)

  -- an open node is one of a flight
  record IsOpen (f n : ℕ) : Type 0 where
    flight : Flight
    there : slice_get parts.flights f ≡ Some flight
    node : n < length flight.nodes

  open_node : (f n : ℕ) (w : Window) → (box f n).window ≡ Some w → IsOpen f n
  open_node f n w here = by (slice_get parts.flights f) refl
      (subst (λ o. IsWindowWithin o (root_box parts f n).window) here (made.windows f n))
    where
      by : (found : Option Flight) → slice_get parts.flights f ≡ found
          → IsWindowWithin (Some w) (root_row parts.day.periods found n).window → IsOpen f n
      by None none within = absurd within
      by (Some flight) there within = at (nat_lt n (length flight.nodes)) refl within
        where
          shut : nat_lt n (length flight.nodes) ≡ false
              → IsWindowWithin (Some w) (root_access parts.day.periods flight n).window → ⊥
          shut beyond within =
              subst (λ b. IsWindowWithin (Some w) (if b then record {
                window = Some (record {
                  lo = earliest_of flight n;
                  hi = latest_of parts.day.periods flight n;
                });
                must = (n == 0) || (n + 1 == length flight.nodes);
              } else closed).window) beyond within

          at : (b : Bool) → nat_lt n (length flight.nodes) ≡ b
              → IsWindowWithin (Some w) (root_access parts.day.periods flight n).window
              → IsOpen f n
          at true inside within =
              record {
                flight = flight;
                there = there;
                node = ltb-true n (length flight.nodes) inside;
              }
          at false inside within = absurd (shut inside within)

  -- the column of an open node
  record HasColumn (f n : ℕ) (w : Window) : Type 0 where
    opened : IsOpen f n
    few : n < most_nodes
    outer_window : Window
    column : Column
    there : slice_get numbering.columns (f * most_nodes + n) ≡ Some column
    lo : outer_window.lo ≤ w.lo
    hi : w.hi ≤ outer_window.hi
    first : column.first ≡ outer_window.lo
    width : column.width ≡ outer_window.hi + 1 - outer_window.lo
        - (if (root f n).must then 1 else 0)
    stays : column.stays ≡ stays_from (slice_get parts.flights f) (root f) n outer_window.lo

  column_there : (f n : ℕ) (w : Window) → (box f n).window ≡ Some w → HasColumn f n w
  column_there f n w here = by (root f n).window refl
      (subst (λ o. IsWindowWithin o (root f n).window) here (lies.windows f n))
    where
      node : IsOpen f n
      node = open_node f n w here

      few : n < most_nodes
      few = let most = (flight_in parts f node.flight scenario node.there).route.nodes_to in
          let at = node.node in omega (arith, at, most)

      index : f * most_nodes + n < length numbering.columns
      index =
          let within = slice_get_within parts.flights f node.flight node.there in
          let long = are.length in
          let times : (f + 1) * most_nodes ≤ length parts.flights * most_nodes =
          omega (arith, within) in
          omega (arith, long, few, times)

      flight_of : n < most_nodes → (f * most_nodes + n) / most_nodes ≡ f
      flight_of small = omega arith

      node_of : n < most_nodes → (f * most_nodes + n) % most_nodes ≡ n
      node_of small = omega arith

      by : (o : Option Window) → (root f n).window ≡ o → IsWindowWithin (Some w) o → HasColumn f n w
      by None shut within = absurd within
      by (Some out) opened within =
          let found = item_there numbering.columns (f * most_nodes + n) index in
          let same = are.each (f * most_nodes + n) found.0 found.1
          ∙ ap₂ (λ i j. column_at parts.flights root i j found.0.start) (flight_of few)
          (node_of few)
          ∙ ap (λ o. column_in o (if (root f n).must then 1 else 0)
          (stays_from (slice_get parts.flights f) (root f) n) found.0.start) opened in
          record {
            opened = node;
            few = few;
            outer_window = out;
            column = found.0;
            there = found.1;
            lo = within.0;
            hi = within.1;
            first = ap (λ (c : Column). c.first) same;
            width = ap (λ (c : Column). c.width) same;
            stays = ap (λ (c : Column). c.stays) same;
          }

  record IsOwn (variable : Var) : Type 0 where
    within : position_of numbering.columns variable < numbering.count
    own : variable_at 0 numbering.columns (position_of numbering.columns variable) ≡ variable

  at_column : (f n : ℕ) (w : Window) (has : HasColumn f n w)
      → slice_index_or numbering.columns (f * most_nodes + n) no_column ≡ has.column
  at_column f n w has =
      get_or_from_slice_get numbering.columns (f * most_nodes + n) has.column no_column has.there

  by_own : (f n t : ℕ) → left_of parts.flights box (By f n t) ≡ Free → IsOwn (By f n t)
  by_own f n t free =
      let opened = by_free (box f n).must (box f n).window f n t free in
      let has = column_there f n opened.opened opened.is in
      let c = has.column in
      let o = t - c.first in
      let small : o < c.width = fits opened has (root f n).must refl in
      let at = placed 0 (f * most_nodes + n) 0 numbering.count o numbering.columns c are.line
      has.there (omega (arith, small)) in
      let here = at_column f n opened.opened has in
      let position : position_of numbering.columns (By f n t) ≡ c.start + o =
      ap (λ (d : Column). d.start + (t - d.first)) here in
      record {
        within = subst (λ p. p < numbering.count) (sym position) at.within;
        own = ap (variable_at 0 numbering.columns) position ∙ at.here
            ∙ decode_by f n t c has.few
            (let lo = has.lo in let from = opened.from in let first = has.first in omega arith)
            small;
      }
    where
      fits : (opened : IsByFree (box f n).must (box f n).window t)
          → (has : HasColumn f n opened.opened)
          → (m : Bool) → (root f n).must ≡ m → t - has.column.first < has.column.width
      fits opened has true must =
          let lt = opened.before (must_lies f n must) in
          let wide : has.column.width ≡ has.outer_window.hi + 1 - has.outer_window.lo - 1 =
          has.width ∙ ap (λ b. has.outer_window.hi + 1 - has.outer_window.lo
          - (if b then 1 else 0)) must in
          omega (arith, lt, wide, has.first, has.lo, has.hi, opened.from)
      fits opened has false must =
          let wide : has.column.width ≡ has.outer_window.hi + 1 - has.outer_window.lo - 0 =
          has.width ∙ ap (λ b. has.outer_window.hi + 1 - has.outer_window.lo
          - (if b then 1 else 0)) must in
          omega (arith, wide, has.first, has.lo, has.hi, opened.from, opened.to)

  inside_own : (f n t : ℕ) → has_inside (slice_get parts.flights f) n ≡ true
      → left_of parts.flights box (Inside f n t) ≡ Free → IsOwn (Inside f n t)
  inside_own f n t there free =
      let opened = inside_free (box f n).window (may_stay (slice_get parts.flights f) (box f) n t) t
      free in
      let has = column_there f n opened.opened opened.is in
      let c = has.column in
      let small : t - c.first < c.stays = fits opened has (slice_get parts.flights f) refl in
      let at = placed 0 (f * most_nodes + n) 0 numbering.count (c.width + (t - c.first))
      numbering.columns c are.line has.there (omega (arith, small)) in
      let here = at_column f n opened.opened has in
      let same : c.start + c.width + (t - c.first) ≡ c.start + (c.width + (t - c.first)) =
      omega arith in
      let position : position_of numbering.columns (Inside f n t)
      ≡ c.start + (c.width + (t - c.first)) =
      ap (λ (d : Column). d.start + d.width + (t - d.first)) here ∙ same in
      record {
        within = subst (λ p. p < numbering.count) (sym position) at.within;
        own = ap (variable_at 0 numbering.columns) position ∙ at.here
            ∙ ap (variable_in (0 + (f * most_nodes + n)) c) (sym same)
            ∙ decode_inside f n t c has.few
            (let lo = has.lo in let from = opened.from in let first = has.first in omega arith);
      }
    where
      fits : (opened : IsInsideFree (box f n).window
          (may_stay (slice_get parts.flights f) (box f) n t) t)
          → (has : HasColumn f n opened.opened) → (found : Option Flight)
          → slice_get parts.flights f ≡ found → t - has.column.first < has.column.stays
      fits opened has None none =
          absurd (let e : false ≡ true = sym (ap (λ o. has_inside o n) none) ∙ there in cc)
      fits opened has (Some flight) found =
          let may : list_any (λ leg. (leg.from == n) && is_before_end t (box f leg.to).window)
          flight.legs ≡ true = sym (ap (λ o. may_stay o (box f) n t) found) ∙ opened.may in
          let lt = before_latest (box f) (root f) n t flight.legs 0 (lies.windows f) may in
          let own : has_inside (Some flight) n ≡ true =
          sym (ap (λ o. has_inside o n) found) ∙ there in
          let stays : has.column.stays
          ≡ latest_end (root f) (legs_of flight n) 0 - has.outer_window.lo =
          has.stays ∙ ap (λ o. stays_from o (root f) n has.outer_window.lo) found
          ∙ ap (λ b. if b then latest_end (root f) (legs_of flight n) 0 - has.outer_window.lo
          else 0)
          own in
          let lo = has.lo in
          let from = opened.from in
          let first = has.first in
          omega (arith, stays, lt)

  own : (variable : Var) → IsThere parts.flights variable
      → left_of parts.flights box variable ≡ Free → IsOwn variable
  own (By f n t) there free = by_own f n t free
  own (Inside f n t) there free = inside_own f n t there free

  numbers : IsNumbered parts numbering box
  numbers = record {
    few = let upto = are.few in let most = scenario.flights.few in omega (arith, upto, most);
    within = λ variable there free. (own variable there free).within;
    own = λ variable there free. (own variable there free).own;
  }

pub numbered : (parts : Parts) → IsScenario parts → (outer root : Box)
    → ((f n : ℕ) → outer f n ≡ root_box parts f n) → IsTightened parts outer root
    → (numbering : Numbering)
    → AreColumnsTo parts.flights root (length parts.flights * most_nodes) numbering
    → AreColumnsOf parts numbering
numbered parts scenario outer root rooted tight numbering are = λ box made is.
    numbers parts scenario outer root rooted tight numbering are box made is

-- a variable that is the same as another one: it is of a node that needn't be entered
record IsSameAs (must : Bool) (window : Option Window) (f n : ℕ) (other : Var) : Type 0 where
  opened : Window
  is : window ≡ Some opened
  free : must ≡ false
  last : other ≡ By f n opened.hi

same_as : (must : Bool) (window : Option Window) (f n t : ℕ) (other : Var)
    → by_left must window f n t ≡ Same other → IsSameAs must window f n other
same_as must None f n t other is = absurd (let e : ⊥ = cc in e)
same_as must (Some w) f n t other is =
    by (nat_lt t w.lo) must refl (nat_le w.hi t) (nat_lt w.hi t) is
  where
    by : (a m : Bool) → must ≡ m → (b c : Bool)
        → (if a then Zero else (if m then (if b then One else Free)
        else (if c then Same (By f n w.hi) else Free))) ≡ Same other
        → IsSameAs must (Some w) f n other
    by true m marked b c is = absurd (let e : ⊥ = cc in e)
    by false true marked true c is = absurd (let e : ⊥ = cc in e)
    by false true marked false c is = absurd (let e : ⊥ = cc in e)
    by false false marked b true is = record {
      opened = w;
      is = refl;
      free = marked;
      last = let same : By f n w.hi ≡ other = cc in sym same;
    }
    by false false marked b false is = absurd (let e : ⊥ = cc in e)

inside_not_same : (window : Option Window) (stays : Bool) (t : ℕ) (other : Var)
    → inside_left window stays t ≡ Same other → ⊥
inside_not_same None stays t other is = let e : ⊥ = cc in e
inside_not_same (Some w) stays t other is = by (nat_lt t w.lo) stays is
  where
    by : (a b : Bool) → (if a then Zero else (if b then Free else Zero)) ≡ Same other → ⊥
    by true b is = let e : ⊥ = cc in e
    by false true is = let e : ⊥ = cc in e
    by false false is = let e : ⊥ = cc in e

-- the last period of a window is in it
last_free : (f n : ℕ) (w : Window) → w.lo ≤ w.hi → by_left false (Some w) f n w.hi ≡ Free
last_free f n w proper = by (nat_lt w.hi w.lo) refl (nat_lt w.hi w.hi) refl
  where
    by : (a : Bool) → nat_lt w.hi w.lo ≡ a → (c : Bool) → nat_lt w.hi w.hi ≡ c
        → (if a then Zero else (if c then Same (By f n w.hi) else Free)) ≡ Free
    by true early c past =
        let lt = ltb-true w.hi w.lo early in absurd (omega (arith, lt, proper))
    by false from true past = let lt = ltb-true w.hi w.hi past in absurd (omega (arith, lt))
    by false from false past = refl

pub whole_box : (parts : Parts) (box : Box) → IsBoxOf parts box → IsTight parts box
    → IsWhole parts.flights box
whole_box parts box made tight = record { same = same; there = there }
  where
    proper : (f n : ℕ) (w : Window) → (box f n).window ≡ Some w → w.lo ≤ w.hi
    proper f n w here = by (slice_get parts.flights f) refl
        (subst (λ o. IsWindowWithin o (root_box parts f n).window) here (made.windows f n))
      where
        by : (found : Option Flight) → slice_get parts.flights f ≡ found
            → IsWindowWithin (Some w) (root_row parts.day.periods found n).window → w.lo ≤ w.hi
        by None none within = absurd within
        by (Some flight) at within = subst IsProper here ((tight.rows f flight at).proper n)

    same : (variable other : Var) → left_of parts.flights box variable ≡ Same other
        → left_of parts.flights box other ≡ Free
    same (By f n t) other is =
        let at = same_as (box f n).must (box f n).window f n t other is in
        subst (λ v. left_of parts.flights box v ≡ Free) (sym at.last)
        (ap₂ (λ m o. by_left m o f n at.opened.hi) at.free at.is
        ∙ last_free f n at.opened (proper f n at.opened at.is))
    same (Inside f n t) other is =
        absurd (inside_not_same (box f n).window
        (may_stay (slice_get parts.flights f) (box f) n t) t other is)

    there : (variable other : Var) → left_of parts.flights box variable ≡ Same other
        → IsThere parts.flights other
    there (By f n t) other is =
        let at = same_as (box f n).must (box f n).window f n t other is in
        subst (IsThere parts.flights) (sym at.last) tt
    there (Inside f n t) other is =
        absurd (inside_not_same (box f n).window
        (may_stay (slice_get parts.flights f) (box f) n t) t other is)

pub ready_box : (parts : Parts) (numbering : Numbering) (held : Held) → AreColumnsOf parts numbering
    → IsMadeFor parts held → IsTight parts (box_of held) → IsReady parts numbering held
ready_box parts numbering held columns made tight = record {
  made = made;
  numbered = columns (box_of held) made.inside tight;
  whole = whole_box parts (box_of held) made.inside tight;
}
